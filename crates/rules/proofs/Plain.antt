-- A reading that need not be tidy is the reading.
use Rattle.std.proofs.Common.{◌≡◌, ℕ, zero, suc, Bool, false, not, ◌||◌, eqb, List, refl, ap}
use Rattle.table.specs.Description.{Description, class_at}
use Rattle.rules.specs.declared.faults.ReadingCause.TheVariants.{UnknownId}
use Rattle.rules.specs.Trace.{bind, done}
use Rattle.rules.specs.Checks.{ensure, attempt}
use Rattle.rules.specs.Lookups.{greatest, object_class}
use Rattle.rules.specs.Steps.{header, at_end}
use Rattle.rules.specs.Reading.{Objects, opened, object, reading, whole}
use Rattle.rules.specs.Tidy.{opened_by, object_by, reading_by}

module _ (d : Description) (bits : List Bool) where
  pub plain_object : (n : ℕ) → object_by d bits false n ≡ object d bits n
  unfolding object object_by opened opened_by attempt
  plain_object zero = refl
  plain_object (suc n) =
      λ i line declared index w p.
      attempt line p (header bits w (class_at d declared) (greatest d declared) p) λ h.
      attempt line p (ensure (not (eqb (object_class d declared h.id) 0) || not (eqb (greatest d declared) 0)) UnknownId) λ _.
      ap (opened_by d bits false) (plain_object n) i (object_class d declared h.id) (greatest d declared) line index h w

  pub plain_reading : reading_by d bits false ≡ reading d bits
  unfolding reading reading_by
  plain_reading =
      ap (λ (obj : Objects). bind (obj 0 d.top 0 (whole d bits) 0) λ t. attempt 0 t.place (at_end bits t.place) done) (plain_object 16)
