-- A new extension has new lines: the older's stand in the older's stretches, and no line stands in two.
use Rattle.std.proofs.Common.{◌≡◌, ℕ, suc, ◌+◌, ◌<◌, ◌≤◌, cond, ◌&&◌, List, [], ◌∷◌, ◌++◌, length, ap, ◌∙◌, inl, inr, arith, length-append}
use Rattle.std.proofs.lemmas.Bool.{le-leb, lt-ltb, cases_lt}
use Rattle.records.specs.declared.records.Class.{Class}
use Rattle.records.specs.declared.records.Extension.{Extension}
use Rattle.table.specs.Description.{Description}
use Rattle.rules.specs.Lookups.{greatest}
use Rattle.rules.specs.Growth.{Grown}
use Rattle.checked.specs.Sound.{All, Sound, held_by, in_classes, in_extensions}

in_classes-append : (xs ys : List Class) (n : ℕ) → in_classes (xs ++ ys) n ≡ in_classes xs n + in_classes ys n
unfolding in_classes
in_classes-append [] ys n = omega arith
in_classes-append (x ∷ xs) ys n = rw (in_classes-append xs ys n) (omega arith)

in_extensions-append : (xs ys : List Extension) (n : ℕ) → in_extensions (xs ++ ys) n ≡ in_extensions xs n + in_extensions ys n
unfolding in_extensions
in_extensions-append [] ys n = omega arith
in_extensions-append (x ∷ xs) ys n = rw (in_extensions-append xs ys n) (omega arith)

holds_first : (first number : ℕ) → 0 < number → held_by first number first ≡ 1
holds_first first number h =
    λ i. cond (le-leb first first (omega arith) i && lt-ltb first (first + number) (omega arith) i) 1 0

all_fresh : (most : ℕ) (P : Extension → Type 0) → ((e : Extension) → P e → (0 < e.first) × (0 < e.number)) → (es : List Extension) → All P es →
    ((n : ℕ) → 0 < n → n ≤ most → in_extensions es n ≡ 0) → All (λ (e : Extension). most < e.first) es
unfolding in_extensions
all_fresh most P some [] a h = tt
all_fresh most P some (e ∷ es) a h =
    (later, all_fresh most P some es a.1 (λ n x y. let z = h n x y in omega arith))
  where
    later : most < e.first
    later = elim (cases_lt most e.first) [
      | inl l ↦ l
      | inr l ↦ (let z = h e.first (some e a.0).0 l in let o = holds_first e.first e.number (some e a.0).1 in absurd (omega arith))
    ]

module _ (older newer : Description) (so : Sound older) (sn : Sound newer) (gr : Grown older newer) where
  older_once : (n : ℕ) → 0 < n → n ≤ length older.lines → in_extensions gr.extensions.0 n ≡ 0
  older_once n x y =
      let a = so.once n x y in
      let more : length older.lines ≤ length newer.lines = rw (gr.lines.1, length-append) (omega arith) in
      let b = sn.once n x (omega arith) in
      let c = ap (λ cs. in_classes cs n) gr.classes.1 ∙ in_classes-append older.classes gr.classes.0 n in
      let e = ap (λ es. in_extensions es n) gr.extensions.1 ∙ in_extensions-append older.extensions gr.extensions.0 n in
      omega arith

  pub fresh : All (λ (e : Extension).
      (0 < e.first) × (0 < e.number) × (e.first + e.number ≤ suc (length newer.lines)) × (0 < greatest newer e.class)) gr.extensions.0 →
      All (λ (e : Extension). length older.lines < e.first) gr.extensions.0
  fresh a = all_fresh (length older.lines) _ (λ e p. (p.0, p.1)) gr.extensions.0 a older_once
