-- One step of a streaming reading, by a page.
use Rattle.std.proofs.Common.{◌≡◌, ℕ, ◌+◌, ◌*◌, ◌/◌, ◌≤◌, min, Bool, true, List, length, Some, None, Ok, Err, Option, sym, ap, ◌∙◌, arith}
use Rattle.std.proofs.lemmas.Bool.Decides.{nat_tests}
use Rattle.std.proofs.lemmas.Bool.{cond_both}
use Rattle.table.specs.Description.{Description, description}
use Rattle.rules.specs.declared.faults.ReadingFault.{ReadingFault}
use Rattle.rules.specs.Trace.{Run, out, pass}
use Rattle.objects.specs.Passed.{passed}
use Rattle.reading.specs.Reads.{held, skipped, Told}
use Rattle.reading.proofs.Nexts.{held_none, held_some, skipped_out, skipped_done, skipped_stop}
use Rattle.rules.specs.declared.items.Kind.{Kind}
use Rattle.rules.specs.declared.items.Kind.TheVariants.{Value, Open, Close}
use Rattle.objects.specs.Likewise.{Alike, reach}
use Rattle.objects.proofs.Alikes.{less_alike}
use Rattle.reading.specs.declared.walk.Walk.{Walk}
use Rattle.reading.specs.Walks.{Answer, from_of, sight, Likewise, Sound, Stepped, Turned, walk_ahead}
use Rattle.reading.proofs.Stepping.{sound_near}
use Rattle.streaming.specs.declared.page.Page.{Page}
use Rattle.streaming.specs.declared.state.Streaming.{Streaming}
use Rattle.streaming.specs.Calls.{MayHave, covers}
use Rattle.streaming.specs.Pages.{Holds, page_bits}
use Rattle.streaming.proofs.Bits.{page_alike}

-- bits that agree as far as a step reaches are bits over which it does as it did
sight_near : (k : Kind) (p place length after : ℕ) → sight k p place length after ≤ p + reach
sight_near Value p place length after = omega arith
sight_near Open p place length after = omega arith
sight_near Close p place length after = omega arith

near_likewise : (bits B : List Bool) (p : ℕ) (r : Option Answer) (w : Walk) → Alike bits B p (p + reach) → Likewise bits B p r w
near_likewise bits B p None w a = less_alike (omega arith) (omega arith) a
near_likewise bits B p (Some (Ok (Some i))) w a = less_alike (omega arith) (sight_near i.kind p i.place i.length w.place) a
near_likewise bits B p (Some (Ok None)) w a = a
near_likewise bits B p (Some (Err f)) w a = a

-- a walk takes its next bits within the longest stream
pub from_near : (d : Description) (w : Walk) → Sound d w → from_of w ≤ 2147483647
from_near d w s = cond_both w.started w.place 0 (λ p. p ≤ 2147483647) (λ e. sound_near d w s) (λ e. omega arith)

-- what a page that has all that is wanted says of the place
abbrev pub page_of : Page → List Bool
page_of p = page_bits p.total p.first p.bytes.now

-- a step over a page that has all that is wanted is one over the stream's bits
pub step_over : (s : Streaming) (p : Page) (r : Option Answer) (w : Walk) → p.total ≡ s.total → covers s p.first (length p.bytes.now) ≡ true
    → Stepped (description s.tables.now) (page_of p) s.walk r w
    → (B : List Bool) → MayHave s B → Holds B p.first p.bytes.now
    → Turned (description s.tables.now) B (walk_ahead (description s.tables.now) B s.walk) r w
step_over s p r w total covered step B has holds =
    let at = from_of s.walk in
    let n = length p.bytes.now in
    let first : p.first ≤ min (at / 8) s.total = grind (arith, nat_tests) in
    let end : min ((at + reach + 7) / 8) s.total ≤ p.first + n = grind (arith, nat_tests) in
    step.moved B (near_likewise (page_of p) B at r w
    (page_alike p.total p.first p.bytes.now p.inside B (has ∙ ap (λ k. 8 * k) (sym total)) holds at (at + reach) (omega arith) (λ k u v. omega arith)))

-- the fault that an answer tells
abbrev pub fault_in : Answer → Option ReadingFault
fault_in (Ok x) = None
fault_in (Err f) = Some f

-- an answer from what lay ahead, when silent steps were passed over before
told_from : (x y : Run (Unit {0})) (a : Answer) (u : Run (Unit {0})) → skipped x ≡ skipped y → Told y a u → Told x a u
told_from x y (Ok (Some i)) u e t = e ∙ t
told_from x y (Ok None) u e t = (e ∙ t.0, t.1)
told_from x y (Err f) u e t = (e ∙ t.0, t.1)

-- a step that answers
module _ (d : Description) (B : List Bool) (v w : Walk) (before after : Option ReadingFault) (none : before ≡ None) where
  abbrev was : Run (Unit {0})
  was = walk_ahead d B v

  step_told : (a : Answer) → after ≡ fault_in a → Turned d B was (Some a) w → Told (held before was) a (held after (walk_ahead d B w))
  step_told (Ok (Some i)) e t = skipped_out (held before was) _ i t.before (held_none before was none ∙ t.same) ∙ ap (out i) (sym (held_none after (walk_ahead d B w) e))
  step_told (Ok None) e t = (skipped_done (held before was) t.before (held_none before was none ∙ t.same), held_none after (walk_ahead d B w) e ∙ t.still)
  step_told (Err f) e t = (skipped_stop (held before was) f t.before (held_none before was none ∙ t.same), held_some after f (walk_ahead d B w) e)

  -- a silent step
  pub step_silent : after ≡ None → (t : Turned d B was None w) → held before was ≡ passed t.before (pass (held after (walk_ahead d B w)))
  step_silent e t = held_none before was none ∙ t.same ∙ ap (λ (x : Run (Unit {0})). passed t.before (pass x)) (sym (held_none after (walk_ahead d B w) e))

pub told_after : (d : Description) (B : List Bool) (v w : Walk) (before after : Option ReadingFault) → before ≡ None → (x : Run (Unit {0})) (a : Answer) → after ≡ fault_in a
    → skipped x ≡ skipped (held before (walk_ahead d B v)) → Turned d B (walk_ahead d B v) (Some a) w → Told x a (held after (walk_ahead d B w))
told_after d B v w before after none x a e s t =
    told_from x (held before (walk_ahead d B v)) a (held after (walk_ahead d B w)) s (step_told d B v w before after none a e t)

-- a reading that was refused answers its fault again
pub told_again : (before : Option ReadingFault) (f : ReadingFault) (t : Run (Unit {0})) → before ≡ Some f → Told (held before t) (Err f) (held before t)
told_again before f t e = let h = held_some before f t e in (skipped_stop (held before t) f 0 h, h)
