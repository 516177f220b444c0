use Rattle.std.proofs.Common.{◌≡◌, Bool, List, length}
use Rattle.objects.specs.Ahead.{inner_of, object_of, inner_run}
use Rattle.objects.specs.Moves.{InsideFits}
use Rattle.objects.specs.Passed.{passes}
use Rattle.objects.specs.Scenes.{described, source_bits}
use Rattle.objects.proofs.Passing.{Ran, nothing}
use Rattle.objects.proofs.inside.Inside.step.Given as goal

abbrev pub invariant-loop-moved : goal.invariant-loop-moved
invariant-loop-moved g l =
    InsideFits l.scene l.self
    × ((B : List Bool) → length (source_bits l.scene) ≡ length B →
    Ran (inner_run (described l.scene) B (object_of l.scene.about) (inner_of l.initial.self) l.scene.place)
    (inner_run (described l.scene) B (object_of l.scene.about) (inner_of l.self) l.scene.place))

abbrev pub decreases-loop-moved : goal.decreases-loop-moved
decreases-loop-moved g l = passes (inner_run (described l.scene) (source_bits l.scene) (object_of l.scene.about) (inner_of l.self) l.scene.place nothing)
