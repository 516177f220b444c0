-- The law of older and newer, from the law over meanings and from what each reading hands out.
use Rattle.std.proofs.Common.{◌≡◌, ℕ, Bool, true, false, List, sym, ap, ◌∙◌, subst}
use Rattle.bits.specs.declared.source.Source.{Ghosts}
use Rattle.table.specs.Description.{Description}
use Rattle.rules.specs.declared.items.Item.{Item}
use Rattle.rules.specs.Growth.{Shorter, struck, lacked, Grown, ReadsOn}
use Rattle.rules.specs.Passed.{PassesCheck}
use Rattle.rules.specs.Reading.{reading}
use Rattle.rules.specs.Trace.{Outcome, items, outcome, ended}
use Rattle.reading.specs.Histories.{CalledOn}
use Rattle.writing.specs.Histories.{Finished, left_bits}
use Rattle.writing.proofs.Written.{writes}
use Rattle.comparison.specs.Law.{OlderAndNewer}
use Rattle.comparison.proofs.Handed.{hands_out}

module _ {S T : Type 0} (f : Ghosts S) (g : Ghosts T) (old_bits : S → List Bool) (new_bits : T → List Bool) (older newer : Description) (on : ReadsOn older newer)
    (passes : PassesCheck newer) (has_grown : Grown older newer) where
  module _ {list : List Bool} {old new : List Item} {o n : Outcome} (oc : CalledOn f old_bits older list old o) (nc : CalledOn g new_bits newer list new n) where
    old_is : (old ≡ items (reading older list)) × (o ≡ outcome (reading older list))
    old_is = (hands_out f old_bits older list).whole oc

    new_is : (new ≡ items (reading newer list)) × (n ≡ outcome (reading newer list))
    new_is = (hands_out g new_bits newer list).whole nc

    same_lacked : lacked older 0 new n ≡ lacked older 0 (items (reading newer list)) (outcome (reading newer list))
    same_lacked = λ i. lacked older 0 (new_is.0 i) (new_is.1 i)

    agreed : lacked older 0 new n ≡ false → (n ≡ o) × (struck older new ≡ old)
    agreed e =
        let c = (on.whole list).agree (sym same_lacked ∙ e) in
        (new_is.1 ∙ c.0 ∙ sym old_is.1, ap (struck older) new_is.0 ∙ c.1 ∙ sym old_is.0)

    shorter : lacked older 0 new n ≡ true → Shorter (struck older new) old
    shorter e =
        let c = (on.whole list).short (sym same_lacked ∙ e) in
        let P : List Item → List Item → Type 0 = λ xs ys. Shorter (struck older xs) ys in
        subst (λ (xs : List Item). P xs old) (sym new_is.0) (subst (P (items (reading newer list))) (sym old_is.0) c)

  module _ {total : ℕ} {buffer : List ℕ} {put new : List Item} {n : Outcome} (finished : Finished older total buffer put) (nc : CalledOn g new_bits newer (left_bits older total buffer) new n) where
    read_back : (new ≡ put) × (n ≡ ended)
    read_back =
        let w = (hands_out g new_bits newer (left_bits older total buffer)).whole nc in
        let b = (writes older total).newer newer passes has_grown finished in
        (w.0 ∙ b.0, w.1 ∙ b.1)

  pub older_and_newer : OlderAndNewer f g old_bits new_bits older newer
  older_and_newer =
      record {
        parts = λ {list} {r} {s} {old} {new} h k.
            on.parts list new old ((hands_out g new_bits newer list).beginning k) ((hands_out f old_bits older list).beginning h);
        agree = λ oc nc e. agreed oc nc e;
        short = λ oc nc e. shorter oc nc e;
        written = λ finished nc. read_back finished nc;
      }
