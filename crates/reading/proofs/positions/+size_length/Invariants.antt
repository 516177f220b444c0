use Rattle.reading.proofs.positions.+size_length.Given as goal

abbrev pub decreases-size_length : goal.decreases-size_length
decreases-size_length g l = l.bytes
