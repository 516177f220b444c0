-- In a sound block no line's blocks run past what holds the line.
use Rattle.std.proofs.Common.{◌≡◌, ℕ, zero, suc, ◌+◌, ◌-◌, ◌<◌, ◌≤◌, Bool, true, false, not, ◌&&◌, ◌||◌, ltb, leb, length, Option, sym, refl, ap, ◌∙◌, subst, inl, inr, arith, ltb-true, le-ltb, leb-true}
use Rattle.std.proofs.lemmas.Bool.{and_parts, or_parts, or_from, not-false}
use Rattle.std.proofs.lemmas.Bool.Decides.{leb_tells}
use Rattle.table.specs.Description.{Description, statement_at, class_at, extension_at}
use Rattle.table.specs.First.{is_some, first_upto, some_upto}
use Rattle.table.proofs.Scans.{none_pass, first_agree, no_some}
use Rattle.records.specs.Stretches.{in_stretch}
use Rattle.blocks.specs.Nesting.{has_blocks, in_first, in_second, taken, block_sound, line_sound}
use Rattle.blocks.specs.Sound.{class_unsound, extension_unsound, some_unsound}
use Rattle.blocks.specs.Stretches.{in_one, ends_before, past_block, past_in, past_in_class, past_in_extension, past, line_stretch}
use Rattle.blocks.proofs.Steps.{sound_step, line_fits}

-- the blocks of line x lie inside those of line m that hold it
abbrev pub Kept : Description → (x m : ℕ) → Type 0
Kept d x m =
    (m + 1 ≤ x → x < m + 1 + in_first (statement_at d m) → x + taken (statement_at d x) ≤ m + 1 + in_first (statement_at d m))
    × (m + 1 + in_first (statement_at d m) ≤ x → x < m + 1 + in_first (statement_at d m) + in_second (statement_at d m) →
    x + taken (statement_at d x) ≤ m + 1 + in_first (statement_at d m) + in_second (statement_at d m))

-- the blocks of each of the n lines from i on lie inside what holds it, of these lines
pub record Fits (d : Description) (i n : ℕ) : Type 0 where
  pub ends : (x : ℕ) → i ≤ x → x < i + n → x + taken (statement_at d x) ≤ i + n
  pub kept : (x m : ℕ) → i ≤ x → x < i + n → i ≤ m → m < i + n → Kept d x m

-- a line that comes no later is held by no block of m, nor is one past its blocks
ahead_kept : (d : Description) (x m : ℕ) → x < m + 1 → Kept d x m
ahead_kept d x m h = ((λ a b. absurd (omega arith)), (λ a b. absurd (omega arith)))

beyond_kept : (d : Description) (x m : ℕ) → m + taken (statement_at d m) ≤ x → Kept d x m
beyond_kept d x m h = ((λ a b. absurd (omega arith)), (λ a b. absurd (omega arith)))

-- where a line of a block stands: it is the first, in that one's first block or second, or after them
data Place (d : Description) (i n x : ℕ) : Type 0 where
  here : x ≡ i → Place d i n x
  in_one_block : i + 1 ≤ x → x < i + 1 + in_first (statement_at d i) → Place d i n x
  in_other_block : i + 1 + in_first (statement_at d i) ≤ x → x < i + 1 + in_first (statement_at d i) + in_second (statement_at d i) → Place d i n x
  behind : i + taken (statement_at d i) ≤ x → x < i + taken (statement_at d i) + (n - taken (statement_at d i)) → Place d i n x

place : (d : Description) (i n x : ℕ) → taken (statement_at d i) ≤ n → i ≤ x → x < i + n → Place d i n x
place d i n x room low high =
    elim (leb_tells x i) [
      | inl t ↦ here (omega (arith, t.1))
      | inr t ↦
          elim (leb_tells (i + 1 + in_first (statement_at d i)) x) [
            | inl u ↦
                elim (leb_tells (i + taken (statement_at d i)) x) [
                  | inl v ↦ behind v.1 (omega arith)
                  | inr v ↦ in_other_block u.1 (omega (arith, v.1))
                ]
            | inr u ↦ in_one_block (omega (arith, t.1)) (omega (arith, u.1))
          ]
    ]

module _ (d : Description) (i n : ℕ) (room : taken (statement_at d i) ≤ n)
    (one : Fits d (i + 1) (in_first (statement_at d i)))
    (other : Fits d (i + 1 + in_first (statement_at d i)) (in_second (statement_at d i)))
    (rest : Fits d (i + taken (statement_at d i)) (n - taken (statement_at d i))) where
  ends_at : (x : ℕ) → Place d i n x → x + taken (statement_at d x) ≤ i + n
  ends_at x (here e) = subst (λ (k : ℕ). k + taken (statement_at d k) ≤ i + n) (sym e) (omega arith)
  ends_at x (in_one_block a b) = let k = one.ends x a b in omega arith
  ends_at x (in_other_block a b) = let k = other.ends x a b in omega arith
  ends_at x (behind a b) = let k = rest.ends x a b in omega arith

  kept_here : (x : ℕ) → Place d i n x → Kept d x i
  kept_here x (here e) = ahead_kept d x i (omega arith)
  kept_here x (in_one_block a b) = ((λ p q. one.ends x a b), (λ p q. absurd (omega arith)))
  kept_here x (in_other_block a b) = ((λ p q. absurd (omega arith)), (λ p q. other.ends x a b))
  kept_here x (behind a b) = beyond_kept d x i a

  kept_at : (x m : ℕ) → Place d i n x → Place d i n m → Kept d x m
  kept_at x m p (here e) = subst (λ (k : ℕ). Kept d x k) (sym e) (kept_here x p)
  kept_at x m (here e) (in_one_block a b) = ahead_kept d x m (omega arith)
  kept_at x m (in_one_block a b) (in_one_block u v) = one.kept x m a b u v
  kept_at x m (in_other_block a b) (in_one_block u v) = let k = one.ends m u v in beyond_kept d x m (omega arith)
  kept_at x m (behind a b) (in_one_block u v) = let k = one.ends m u v in beyond_kept d x m (omega arith)
  kept_at x m (here e) (in_other_block a b) = ahead_kept d x m (omega arith)
  kept_at x m (in_one_block a b) (in_other_block u v) = ahead_kept d x m (omega arith)
  kept_at x m (in_other_block a b) (in_other_block u v) = other.kept x m a b u v
  kept_at x m (behind a b) (in_other_block u v) = let k = other.ends m u v in beyond_kept d x m (omega arith)
  kept_at x m (here e) (behind a b) = ahead_kept d x m (omega arith)
  kept_at x m (in_one_block a b) (behind u v) = ahead_kept d x m (omega arith)
  kept_at x m (in_other_block a b) (behind u v) = ahead_kept d x m (omega arith)
  kept_at x m (behind a b) (behind u v) = rest.kept x m a b u v

  joined : Fits d i n
  joined =
      record {
        ends = λ x a b. ends_at x (place d i n x room a b);
        kept = λ x m a b u v. kept_at x m (place d i n x room a b) (place d i n m room u v);
      }

empty_fits : (d : Description) (i n : ℕ) → n ≡ 0 → Fits d i n
empty_fits d i n e = record { ends = λ x a b. absurd (omega arith); kept = λ x m a b u v. absurd (omega arith) }

module _ (d : Description) where
  fits_within : (bound i n e : ℕ) → n < bound → block_sound d i n e ≡ true → Fits d i n
  fits_within zero i n e h s = absurd (omega arith)
  fits_within (suc bound) i n e h s =
      elim (leb_tells n 0) [
        | inl z ↦ empty_fits d i n (omega (arith, z.1))
        | inr z ↦
            let l = statement_at d i in
            let p = and_parts (line_sound d i n e) _ (sym (sound_step d i n e z.1) ∙ s) in
            let room = line_fits d i n e (sym p.0) in
            let q = and_parts (not (ltb n (taken l)) && not (has_blocks l && leb 8 e) && block_sound d (i + 1) (in_first l) (e + 1)) _ p.0 in
            let r = and_parts (not (ltb n (taken l)) && not (has_blocks l && leb 8 e)) _ q.0 in
            joined d i n room
            (fits_within bound (i + 1) (in_first l) (e + 1) (omega arith) r.1)
            (fits_within bound (i + 1 + in_first l) (in_second l) (e + 1) (omega arith) q.1)
            (fits_within bound (i + taken l) (n - taken l) e (omega (arith, z.1)) p.1)
      ]

  sound_fits : (i n e : ℕ) → block_sound d i n e ≡ true → Fits d i n
  sound_fits i n e s = fits_within (suc n) i n e (omega arith) s

  -- in the words of the tests
  within : (b c : Bool) → (b ≡ true → c ≡ false) → (b && c) ≡ false
  within true c h = h refl
  within false c h = refl

  stretch_parts : (first number n : ℕ) → in_stretch first number n ≡ true → (first ≤ n) × (n < first + number)
  stretch_parts first number n e =
      let p = and_parts (leb first n) (ltb n (first + number)) e in
      (leb-true first n p.0, ltb-true n (first + number) p.1)

  not_before : (start count n end : ℕ) → (start ≤ n → n < start + count → end ≤ start + count) → ends_before start count n end ≡ false
  not_before start count n end h =
      within (in_stretch start count n) _ (λ e. let p = stretch_parts start count n e in le-ltb (start + count) end (h p.0 p.1))

  none_past : (first number : ℕ) → Fits d first number → (n : ℕ) → past_in d first number n ≡ false
  none_past first number fits n =
      within (in_stretch first number n) _ (λ e.
      let p = stretch_parts first number n e in
      let end = n + taken (statement_at d n) in
      or_from (ltb (first + number) end) _ (le-ltb (first + number) end (fits.ends n p.0 p.1))
      (ap (λ (o : Option ℕ). is_some o) (none_pass (past_block d first number n end) (length d.lines) (λ m a b.
      within (in_stretch first number m) _ (λ f.
      let q = stretch_parts first number m f in
      let k = fits.kept n m p.0 p.1 q.0 q.1 in
      or_from _ _ (not_before (m + 1) (in_first (statement_at d m)) n end k.0) (not_before (m + 1 + in_first (statement_at d m)) (in_second (statement_at d m)) n end k.1))))))

  no_past : some_unsound d ≡ false → (n : ℕ) → past d n ≡ false
  no_past e n =
      let p = or_parts (some_upto (class_unsound d) (length d.classes)) _ e in
      or_from _ _
      (ap (λ (o : Option ℕ). is_some o) (none_pass (past_in_class d n) (length d.classes) (λ c a b.
      none_past (class_at d c).first (class_at d c).number (sound_fits (class_at d c).first (class_at d c).number 0 (not-false _ (no_some (class_unsound d) (length d.classes) p.0 c a b))) n)))
      (ap (λ (o : Option ℕ). is_some o) (none_pass (past_in_extension d n) (length d.extensions) (λ x a b.
      none_past (extension_at d x).first (extension_at d x).number (sound_fits (extension_at d x).first (extension_at d x).number 0 (not-false _ (no_some (extension_unsound d) (length d.extensions) p.1 x a b))) n)))

  alone : (a b : Bool) → b ≡ false → a ≡ (a || b)
  alone true b e = refl
  alone false b e = sym e

  pub only_outside : some_unsound d ≡ false → first_upto (λ n. not (in_one d n)) (length d.lines) ≡ first_upto (line_stretch d) (length d.lines)
  only_outside e = first_agree _ (line_stretch d) (length d.lines) (λ n a b. alone (not (in_one d n)) (past d n) (no_past e n))
