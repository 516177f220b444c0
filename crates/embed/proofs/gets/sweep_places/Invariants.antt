use Rattle.std.proofs.Common.{◌≡◌}
use Rattle.embed.specs.Gets.{places_swept}
use Rattle.embed.proofs.gets.sweep_places.Given as goal

abbrev pub invariant-loop-place : goal.invariant-loop-place
invariant-loop-place g l = l.all ≡ places_swept (g.S.Source.bits l.source) l.round l.before l.place
