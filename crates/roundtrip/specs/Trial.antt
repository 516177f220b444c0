-- The items of a stream, put one after another, give its bytes again; each is what comes next over its guess.
use Rattle.std.specs.Prelude.{◌≡◌, ℕ, suc, Bool, true, List, [], ◌∷◌, ◌++◌, length, take, drop}
use Rattle.rules.specs.declared.items.Item.{Item}
use Rattle.rules.specs.Sample.{sample, bits_of_bytes}
use Rattle.rules.specs.Trace.{items}
use Rattle.table.specs.Description.{Description}
use Rattle.rules.specs.Tidy.{reading_by}
use Rattle.roundtrip.specs.Own.{pending}
use Rattle.roundtrip.specs.Writing.{appended}

abbrev pub written : Description → (w : List Bool) → List Item → List Bool
written d w [] = w
written d w (i ∷ is) = written d (w ++ appended d (length w) i) is

-- the first items over what was written and the guess of the next
abbrev pub guesses : Description → (L : ℕ) → (n : ℕ) → (w : List Bool) → List Item → List (List Item)
guesses d L n w [] = []
guesses d L n w (i ∷ is) = take (suc n) (items (reading_by d (w ++ drop (length w) (pending d L i)) true)) ∷ guesses d L (suc n) (w ++ appended d (length w) i) is

abbrev pub beginnings : (n : ℕ) → List Item → List Item → List (List Item)
beginnings n all [] = []
beginnings n all (i ∷ is) = take (suc n) all ∷ beginnings (suc n) all is

abbrev pub shown : List Item
shown = items (reading_by (sample 120) (bits_of_bytes (7 ∷ 1 ∷ 1 ∷ 163 ∷ 1 ∷ 1 ∷ 255 ∷ [])) true)

abbrev pub TrialHolds : Type 0
TrialHolds =
    (length shown ≡ 11) ×
    (written (sample 120) [] shown ≡ bits_of_bytes (7 ∷ 1 ∷ 1 ∷ 163 ∷ 1 ∷ 1 ∷ 255 ∷ [])) ×
    (guesses (sample 120) 56 0 [] shown ≡ beginnings 0 shown shown)
