-- Where no line looks ahead, a value that was read ends where its own bits end.
use Rattle.std.proofs.Common.{◌≡◌, ℕ, ◌+◌, Bool, List, length, ℤ, Ok, Some, sym, ap, ◌∙◌, arith}
use Rattle.records.specs.declared.statements.Statement.TheVariants.{MapRead}
use Rattle.bits.specs.Bits.{length-bits_of}
use Rattle.table.specs.Description.{Description, statement_at, map_at}
use Rattle.rules.specs.Checks.{Check}
use Rattle.rules.specs.declared.items.Item.{Item}
use Rattle.records.specs.declared.statements.ReadLine.{ReadLine}
use Rattle.rules.specs.declared.steps.Got.{Got}
use Rattle.rules.specs.Lookups.{map_output}
use Rattle.rules.specs.Reading.{Object, value_item}
use Rattle.rules.specs.Steps.{element, mapped}
use Rattle.roundtrip.specs.Own.{complement, lowest_index, end_of}
use Rattle.roundtrip.specs.Writing.{looks_ahead, Straight}
use Rattle.roundtrip.proofs.Again.{element_again, mapped_again}
use Rattle.roundtrip.proofs.Lifted.{read_own, map_own}
use Rattle.objects.specs.Ahead.{Reads}
use Rattle.objects.specs.Moves.{OwnEnd}

module _ (d : Description) (bits : List Bool) (o : Object) (line index p q : ℕ) (g : Got) (i : Item) (item : i ≡ value_item o line index g) (after : q ≡ g.after) where
  own_as : g.after ≡ end_of d (value_item o line index g) → g.place + g.length ≡ end_of d (value_item o line index g) → OwnEnd d i q
  own_as to whole =
      record {
        after = after ∙ to ∙ sym (ap (end_of d) item);
        long = ap (λ (x : Item). x.place + x.length) item ∙ whole ∙ sym (ap (end_of d) item);
      }

  pub element_ends : (l : ReadLine) (width low high : Check ℤ) → Reads d line l → Ok g ≡ element bits o.window l width low high p → Straight d → OwnEnd d i q
  unfolding statement_at
  element_ends l width low high is e st =
      let a = element_again o.window l width low high p g bits (sym (ap looks_ahead is) ∙ st line) (sym e) in
      let own = read_own d 0 o line index l g is in
      let long = ap length own ∙ length-bits_of g.length (complement g.length g.value) in
      let to : g.after ≡ end_of d (value_item o line index g) = omega (arith, a.after, long) in
      let whole : g.place + g.length ≡ end_of d (value_item o line index g) = omega (arith, a.after, long) in
      own_as to whole

  pub map_ends : (m name : ℕ) → statement_at d line ≡ Some (MapRead m name) → Ok g ≡ mapped bits o.window (map_at d m).width (map_output d m) p → Straight d → OwnEnd d i q
  unfolding statement_at
  map_ends m name is e st =
      let a = mapped_again o.window (map_at d m).width (map_output d m) p g bits (sym e) in
      let own = map_own d 0 o line index m name g is in
      let long = ap length own ∙ length-bits_of (map_at d m).width (lowest_index (map_at d m).width (map_output d m) g.value) in
      let to : g.after ≡ end_of d (value_item o line index g) = omega (arith, a.after, a.place, long) in
      let whole : g.place + g.length ≡ end_of d (value_item o line index g) = omega (arith, a.after, a.place, a.long, long) in
      own_as to whole
