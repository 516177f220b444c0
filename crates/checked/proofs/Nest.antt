-- Where no line's blocks run past what holds it, and none stands too deep, each stretch is a sound block.
use Rattle.std.proofs.Common.{◌≡◌, ℕ, zero, suc, ◌+◌, ◌-◌, ◌<◌, ◌≤◌, Bool, true, false, not, ◌&&◌, ◌||◌, ltb, leb, length, sym, ◌∙◌, subst, inl, inr, add-zero, add-suc, arith, ltb-false, le-ltb, lt-ltb, le-leb, leb-false}
use borrow.Author.Tests.{lt-leb}
use Rattle.std.proofs.lemmas.Bool.{cases_Bool, not-false, or_parts}
use Rattle.std.proofs.lemmas.Bool.Decides.{leb_tells}
use Rattle.fields.specs.Values.{is_stretch}
use Rattle.table.specs.Description.{Description, class_at, extension_at, statement_at, counts_of}
use Rattle.table.specs.First.{some_upto, count_upto}
use Rattle.records.specs.Stretches.{in_stretch}
use Rattle.blocks.specs.Nesting.{has_blocks, in_first, in_second, taken, block_sound, line_sound}
use Rattle.blocks.specs.Stretches.{in_one, past, past_block, past_in, past_in_class, past_in_extension, holds, deep_in, deep_in_class, deep_in_extension}
use Rattle.blocks.proofs.Steps.{sound_step, sound_none}
use Rattle.blocks.proofs.Fits.{Kept}
use Rattle.checked.specs.Faultless.{Faultless, NestsLaw}
use Rattle.table.proofs.Scans.{no_some}
use Rattle.checked.proofs.Held.{faultless, and_rest}
use Rattle.checked.proofs.Numbered.{in_table, class_parts, extension_parts}

pub held_in : (first number m : ℕ) → first ≤ m → m < first + number → in_stretch first number m ≡ true
held_in first number m a b = rw (le-leb first m a, lt-ltb m (first + number) b)

-- a count grows with what is counted
count_grows : (p : ℕ → Bool) (n k : ℕ) → count_upto p n ≤ count_upto p (n + k)
unfolding count_upto
count_grows p n zero = rw add-zero (omega arith)
count_grows p n (suc k) = let h = count_grows p n k in rw add-suc (omega arith)

counted_more : (p : ℕ → Bool) (m n : ℕ) → m ≤ n → count_upto p m ≤ count_upto p n
counted_more p m n h = let e : m + (n - m) ≡ n = omega arith in subst (λ (k : ℕ). count_upto p m ≤ count_upto p k) e (count_grows p m (n - m))

one_more : (p : ℕ → Bool) (i : ℕ) → 0 < i → p i ≡ true → count_upto p (i - 1) + 1 ≤ count_upto p i
unfolding count_upto
one_more p zero h e = absurd (omega arith)
one_more p (suc i) h e = let q : suc i - 1 ≡ i = omega arith in rw (q, e) (omega arith)

-- a stretch of lines none of which is at fault
record Fine (d : Description) (a k : ℕ) : Type 0 where
  there : (x : ℕ) → a ≤ x → x < a + k → (0 < x) × (x ≤ length d.lines)
  ends : (x : ℕ) → a ≤ x → x < a + k → x + taken (statement_at d x) ≤ a + k
  kept : (x m : ℕ) → a ≤ x → x < a + k → a ≤ m → m < a + k → Kept d x m
  shallow : (x : ℕ) → a ≤ x → x < a + k → has_blocks (statement_at d x) ≡ true → count_upto (holds d a k x) (length d.lines) < 8

all_true : (a b c e : Bool) → a ≡ true → b ≡ true → c ≡ true → e ≡ true → (a && b && c && e) ≡ true
all_true a b c e p q r s = rw (p, q, r, s)

module _ (d : Description) (a k : ℕ) (fine : Fine d a k) where
  -- not inside eight blocks, with blocks of its own
  not_deep : (i e : ℕ) → a ≤ i → i < a + k → e ≤ count_upto (holds d a k i) (i - 1) → not (has_blocks (statement_at d i) && leb 8 e) ≡ true
  not_deep i e low high deep =
      elim (cases_Bool (has_blocks (statement_at d i))) [
        | inl h ↦
            let s = fine.shallow i low high h in
            let t = fine.there i low high in
            let c = counted_more (holds d a k i) (i - 1) (length d.lines) (omega arith) in
            rw (h, lt-leb 8 e (omega arith))
        | inr h ↦ rw h
      ]

  -- a line of line i's blocks stands in one block more
  deeper_by_one : (i x e : ℕ) → a ≤ i → i < a + k → i + 1 ≤ x → x < i + 1 + (in_first (statement_at d i) + in_second (statement_at d i)) → e ≤ count_upto (holds d a k x) (i - 1) → e + 1 ≤ count_upto (holds d a k x) i
  deeper_by_one i x e low high from to deep =
      let h : holds d a k x i ≡ true = rw (held_in a k i low high, held_in (i + 1) (in_first (statement_at d i) + in_second (statement_at d i)) x from to) in
      let m = one_more (holds d a k x) i (fine.there i low high).0 h in
      omega arith

  nested : (bound i n e : ℕ) → n < bound → a ≤ i → i + n ≤ a + k → ((x : ℕ) → i ≤ x → x < i + n → x + taken (statement_at d x) ≤ i + n) → ((x : ℕ) → i ≤ x → x < i + n → e ≤ count_upto (holds d a k x) (i - 1)) → block_sound d i n e ≡ true
  nested zero i n e h low high ends deep = absurd (omega arith)
  nested (suc bound) i n e h low high ends deep =
      elim (leb_tells n 0) [
        | inl z ↦ sym (sound_none d i n e (omega (arith, z.1)))
        | inr z ↦
            let l = statement_at d i in
            let n0 = z.1 in
            let room = ends i (omega arith) (omega arith) in
            let i0 : i < a + k = omega arith in
            let own = fine.there i low i0 in
            let one = nested bound (i + 1) (in_first l) (e + 1) (omega arith) (omega arith) (omega arith)
            (λ x p q. (fine.kept x i (omega arith) (omega arith) low i0).0 p q)
            (λ x p q. let c = deeper_by_one i x e low i0 p (omega arith) (deep x (omega arith) (omega arith)) in let z : i + 1 - 1 ≡ i = omega arith in rw z c) in
            let other = nested bound (i + 1 + in_first l) (in_second l) (e + 1) (omega arith) (omega arith) (omega arith)
            (λ x p q. (fine.kept x i (omega arith) (omega arith) low i0).1 p q)
            (λ x p q. let c = deeper_by_one i x e low i0 (omega arith) (omega arith) (deep x (omega arith) (omega arith)) in let m = counted_more (holds d a k x) i (i + 1 + in_first l - 1) (omega arith) in omega arith) in
            let rest = nested bound (i + taken l) (n - taken l) e (omega arith) (omega arith) (omega arith)
            (λ x p q. let w = ends x (omega arith) (omega arith) in omega arith)
            (λ x p q. let c = deep x (omega arith) (omega arith) in let m = counted_more (holds d a k x) (i - 1) (i + taken l - 1) (omega arith) in omega arith) in
            let line : line_sound d i n e ≡ true =
            all_true (not (ltb n (taken l))) (not (has_blocks l && leb 8 e)) _ _ (rw (le-ltb n (taken l) (omega arith))) (not_deep i e low i0 (deep i (omega arith) (omega arith))) one other in
            sound_step d i n e n0 ∙ rw (line, rest)
      ]

  sound_stretch : block_sound d a k 0 ≡ true
  sound_stretch = nested (suc k) a k 0 (omega arith) (omega arith) (omega arith) fine.ends (λ x p q. omega arith)

-- from the tests
kept_by : (start count n end : ℕ) → (in_stretch start count n && ltb (start + count) end) ≡ false → start ≤ n → n < start + count → end ≤ start + count
kept_by start count n end e p q = ltb-false (start + count) end (and_rest _ _ e (held_in start count n p q))

module _ (d : Description) (a k : ℕ) (stretch : is_stretch a k (length d.lines) ≡ true)
    (no_past : (n : ℕ) → 0 < n → n ≤ length d.lines → past_in d a k n ≡ false)
    (no_deep : (n : ℕ) → 0 < n → n ≤ length d.lines → has_blocks (statement_at d n) ≡ true → deep_in d a k n ≡ false) where
  both_past : (x : ℕ) → a ≤ x → x < a + k → (ltb (a + k) (x + taken (statement_at d x)) || some_upto (past_block d a k x (x + taken (statement_at d x))) (length d.lines)) ≡ false
  both_past x p q =
      let t = in_table a k (length d.lines) stretch x p q in
      and_rest _ _ (no_past x t.0 t.1) (held_in a k x p q)

  fine_kept : (x m : ℕ) → a ≤ x → x < a + k → a ≤ m → m < a + k → Kept d x m
  fine_kept x m p q u v =
      let t = in_table a k (length d.lines) stretch m u v in
      let s = no_some (past_block d a k x (x + taken (statement_at d x))) (length d.lines) (or_parts _ _ (both_past x p q)).1 m t.0 t.1 in
      let b = or_parts _ _ (and_rest _ _ s (held_in a k m u v)) in
      (kept_by (m + 1) (in_first (statement_at d m)) x _ b.0, kept_by (m + 1 + in_first (statement_at d m)) (in_second (statement_at d m)) x _ b.1)

  fine : Fine d a k
  fine =
      record {
        there = in_table a k (length d.lines) stretch;
        ends = λ x p q. ltb-false _ _ (or_parts _ _ (both_past x p q)).0;
        kept = fine_kept;
        shallow = λ x p q h.
            let t = in_table a k (length d.lines) stretch x p q in
            leb-false 8 _ (and_rest _ _ (no_deep x t.0 t.1 h) (held_in a k x p q));
      }

  sound : block_sound d a k 0 ≡ true
  sound = sound_stretch d a k fine

not_past : (d : Description) → Faultless d → (n : ℕ) → 0 < n → n ≤ length d.lines → past d n ≡ false
not_past d ok n a b = (or_parts (not (in_one d n)) (past d n) (ok.line_stretches n a b)).1

not_too_deep : (d : Description) → Faultless d → (n : ℕ) → 0 < n → n ≤ length d.lines → has_blocks (statement_at d n) ≡ true → (some_upto (deep_in_class d n) (length d.classes) || some_upto (deep_in_extension d n) (length d.extensions)) ≡ false
not_too_deep d ok n a b h = and_rest (has_blocks (statement_at d n)) _ (ok.line_depths n a b) h

pub nests : NestsLaw
nests d e =
    let ok = faultless d e in
    record {
      class_nests = λ c low high.
          sound d (class_at d c).first (class_at d c).number
          (class_parts (counts_of d) (class_at d c) (not-false _ (ok.class_fields c low high))).lines
          (λ n a b. no_some (past_in_class d n) (length d.classes) (or_parts _ _ (not_past d ok n a b)).0 c low high)
          (λ n a b h. no_some (deep_in_class d n) (length d.classes) (or_parts _ _ (not_too_deep d ok n a b h)).0 c low high);
      extension_nests = λ x low high.
          sound d (extension_at d x).first (extension_at d x).number
          (extension_parts (counts_of d) (extension_at d x) (not-false _ (ok.extension_fields x low high))).2
          (λ n a b. no_some (past_in_extension d n) (length d.extensions) (or_parts (some_upto (past_in_class d n) (length d.classes)) _ (not_past d ok n a b)).1 x low high)
          (λ n a b h. no_some (deep_in_extension d n) (length d.extensions) (or_parts (some_upto (deep_in_class d n) (length d.classes)) _ (not_too_deep d ok n a b h)).1 x low high);
    }
