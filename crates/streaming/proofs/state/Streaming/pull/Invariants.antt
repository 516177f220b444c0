use Rattle.std.proofs.Common.{◌≡◌, Bool, List, None}
use Rattle.objects.specs.Passed.{passes}
use Rattle.reading.specs.Reads.{skipped}
use Rattle.streaming.specs.Calls.{ahead, MayHave, Keeps}
use Rattle.streaming.specs.Pages.{Holds}
use Rattle.streaming.proofs.Pulls.{page_of}
use Rattle.streaming.proofs.state.Streaming.pull.Given as goal

abbrev pub invariant-loop-self : goal.invariant-loop-self
invariant-loop-self l =
    (l.self.fault ≡ None) × Keeps l.initial.self l.self
    × ((B : List Bool) → MayHave l.initial.self B → Holds B l.page.first l.page.bytes.now → skipped (ahead B l.initial.self) ≡ skipped (ahead B l.self))

abbrev pub decreases-loop-self : goal.decreases-loop-self
decreases-loop-self l = passes (ahead (page_of l.page) l.self)
