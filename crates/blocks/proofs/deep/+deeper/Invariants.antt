use Rattle.blocks.proofs.deep.+deeper.Given as goal

abbrev pub decreases-deeper : goal.decreases-deeper
decreases-deeper l = l.levels
