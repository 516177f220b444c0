-- What the tests say.
use Rattle.std.proofs.Common.{◌≡◌, ℕ, zero, suc, ◌-◌, ◌<◌, ◌≤◌, Bool, true, false, not, ◌&&◌, ◌||◌, T, eqb, ltb, leb, ◌⊎◌, List, [], ◌∷◌, ◌++◌, length, get_or, drop, sym, refl, ap, ◌∙◌, subst, inl, inr, arith, le→leb, eqb→eq, ltb→lt, length-drop, get_or-drop}
use Rattle.records.specs.declared.records.Class.{Class}
use Rattle.records.specs.declared.records.Line.{Line}
use Rattle.records.specs.Classes.{is_member}
use Rattle.table.specs.Description.{Description, entry, no_line, class_at, line_at}
use Rattle.records.specs.Statements.{statement, written}
use Rattle.std.specs.List.{list_all}
use Rattle.std.proofs.Math.Facts.{and_yes, yes_and, or_yes}
use Rattle.std.proofs.lemmas.List.Elements.{All-get_or}
use Rattle.std.proofs.lemmas.List.Sums.{AllPass-from_list_all}
use Rattle.checked.proofs.Booleans.{true_of}
use Rattle.rules.specs.Growth.{Grown}
use Rattle.rules.specs.Growth.{class_fields, name_fields, extension_fields, line_fields, node_fields, map_fields, row_fields, same_numbers, stands, member_grown, line_grown, unchanged, grown, GrownMeans}
use Rattle.checked.specs.Sound.{All}

-- an implication written with `not`
implied : (a b : Bool) → T (not a || b) → T a → T b
implied true b t u = t
implied false b t u = absurd u

numbers_same : (xs ys : List ℕ) → T (same_numbers xs ys) → xs ≡ ys
unfolding same_numbers
numbers_same [] [] t = refl
numbers_same [] (y ∷ ys) t = absurd t
numbers_same (x ∷ xs) [] t = absurd t
numbers_same (x ∷ xs) (y ∷ ys) t =
    let e = eqb→eq x y (and_yes (eqb x y) (same_numbers xs ys) t).0 in
    let r = numbers_same xs ys (and_yes (eqb x y) (same_numbers xs ys) t).1 in
    λ i. e i ∷ r i

stands_begins : {A : Type 0} (fields : A → List ℕ) (make : List ℕ → A) → ((a : A) → make (fields a) ≡ a) → (xs ys : List A) → T (stands fields xs ys) →
    ys ≡ xs ++ drop (length xs) ys
unfolding stands
stands_begins fields make back [] ys t = refl
stands_begins fields make back (x ∷ xs) [] t = absurd t
stands_begins fields make back (x ∷ xs) (y ∷ ys) t =
    let e = sym (back y) ∙ ap make (sym (numbers_same (fields x) (fields y) (and_yes (same_numbers (fields x) (fields y)) (stands fields xs ys) t).0)) ∙ back x in
    let r = stands_begins fields make back xs ys (and_yes (same_numbers (fields x) (fields y)) (stands fields xs ys) t).1 in
    λ i. e i ∷ r i

every-all : {A : Type 0} (test : A → Bool) (P : A → Type 0) → ((x : A) → T (test x) → P x) → (xs : List A) → T (list_all test xs) → All P xs
every-all test P h [] t = tt
every-all test P h (x ∷ xs) t = (h x (and_yes (test x) (list_all test xs) t).0, every-all test P h xs (and_yes (test x) (list_all test xs) t).1)

make_class : List ℕ → Class
make_class xs =
    record {
      kind = get_or xs 0 0;
      base = get_or xs 1 0;
      abstracted = get_or xs 2 0;
      greatest = get_or xs 3 0;
      width = get_or xs 4 0;
      from = get_or xs 5 0;
      to = get_or xs 6 0;
      rank = get_or xs 7 0;
      first = get_or xs 8 0;
      number = get_or xs 9 0;
    }

make_line : List ℕ → Line
make_line xs =
    record { kind = get_or xs 0 0; a = get_or xs 1 0; b = get_or xs 2 0; c = get_or xs 3 0; d = get_or xs 4 0; e = get_or xs 5 0; f = get_or xs 6 0; g = get_or xs 7 0 }

module _ (older newer : Description) (t : T (grown older newer)) where
  line_there : (l : Line) → T (line_grown (length older.names) l) →
      (written (statement l) ≡ 0) ⊎ (length older.names < written (statement l))
  line_there l t = elim (or_yes _ _ t) [
    | inl x ↦ inl (eqb→eq _ 0 x)
    | inr x ↦ inr (ltb→lt _ _ x)
  ]

  lines_there : T (list_all (line_grown (length older.names)) (drop (length older.lines) newer.lines)) → (n : ℕ) → length older.lines < n → n ≤ length newer.lines →
      (written (statement (line_at newer n)) ≡ 0) ⊎
      (length older.names < written (statement (line_at newer n)))
  unfolding entry
  lines_there t zero x y = let q : ⊥ = omega arith in absurd q
  lines_there t (suc m) x y =
      let i = m - length older.lines in
      let e : get_or (drop (length older.lines) newer.lines) i no_line ≡ get_or newer.lines m no_line =
      get_or-drop (length older.lines) newer.lines i no_line ∙ ap (λ k. get_or newer.lines k no_line) (omega arith) in
      line_there (get_or newer.lines m no_line)
      (subst (λ l. T (line_grown (length older.names) l)) e
      (subst T (sym (All-get_or (λ l. line_grown (length older.names) l ≡ true) (drop (length older.lines) newer.lines) i no_line (rw length-drop (omega arith)) (AllPass-from_list_all _ _ (true_of _ t)))) tt))

  pub grown_by : Grown older newer
  unfolding grown make_class make_line
  grown_by =
      let u = (and_yes (unchanged older newer && _) _ t).0 in
      let a8 = (and_yes (unchanged older newer) _ u).0 in
      let a7 = (and_yes _ (stands row_fields older.rows newer.rows) a8).0 in
      let a6 = (and_yes _ (stands map_fields older.maps newer.maps) a7).0 in
      let a5 = (and_yes _ (stands node_fields older.nodes newer.nodes) a6).0 in
      let a4 = (and_yes _ (stands line_fields older.lines newer.lines) a5).0 in
      let a3 = (and_yes _ (stands extension_fields older.extensions newer.extensions) a4).0 in
      let a2 = (and_yes _ (stands name_fields older.names newer.names) a3).0 in
      record {
        top = eqb→eq newer.top older.top (and_yes _ _ a2).0;
        classes = (drop (length older.classes) newer.classes, stands_begins class_fields make_class (λ a. refl) older.classes newer.classes (and_yes _ _ a2).1);
        names = (drop (length older.names) newer.names, stands_begins name_fields (λ l. record { owner = get_or l 0 0 }) (λ a. refl) older.names newer.names (and_yes _ _ a3).1);
        extensions = (drop (length older.extensions) newer.extensions, stands_begins extension_fields (λ l. record { class = get_or l 0 0; first = get_or l 1 0; number = get_or l 2 0 }) (λ a. refl) older.extensions newer.extensions (and_yes _ _ a4).1);
        lines = (drop (length older.lines) newer.lines, stands_begins line_fields make_line (λ a. refl) older.lines newer.lines (and_yes _ _ a5).1);
        nodes = (drop (length older.nodes) newer.nodes, stands_begins node_fields (λ l. record { op = get_or l 0 0; a = get_or l 1 0; b = get_or l 2 0 }) (λ a. refl) older.nodes newer.nodes (and_yes _ _ a6).1);
        maps = (drop (length older.maps) newer.maps, stands_begins map_fields (λ l. record { width = get_or l 0 0; first = get_or l 1 0; number = get_or l 2 0 }) (λ a. refl) older.maps newer.maps (and_yes _ _ a7).1);
        rows = (drop (length older.rows) newer.rows, stands_begins row_fields (λ l. record { index = get_or l 0 0; high = get_or l 1 0; low = get_or l 2 0 }) (λ a. refl) older.rows newer.rows (and_yes _ _ a8).1);
        members =
            every-all (member_grown older.classes) _
            (λ c t m b. ltb→lt 0 (class_at older c.base).greatest
            (implied (is_member c && leb c.base (length older.classes)) (ltb 0 (class_at older c.base).greatest) t (yes_and (is_member c) _ m (le→leb _ _ b))))
            (drop (length older.classes) newer.classes) (and_yes _ _ u).1;
        writes = lines_there (and_yes _ _ t).1;
      }

pub grown_means : GrownMeans
grown_means older newer e = grown_by older newer (subst T (sym e) tt)
