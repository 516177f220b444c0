-- The recursion equation of `block-sound`, with no bound in it, and that of the recursion over levels.
use Rattle.std.proofs.Common.{◌≡◌, ℕ, zero, suc, ◌+◌, ◌-◌, ◌<◌, ◌≤◌, Bool, true, false, cond, not, ◌&&◌, ◌||◌, eqb, ltb, leb, sym, refl, ap, ◌∙◌, arith, ltb-false, ltb-true, lt-ltb, ne_eqb, Option}
use mathlib.Core.Path.{fun_ext}
use Rattle.std.proofs.lemmas.Bool.{and_parts, not-true}
use Rattle.records.specs.declared.statements.Statement.{Statement}
use Rattle.fields.specs.Nodes.{is_operator}
use Rattle.table.specs.Description.{Description, statement_at, node_at}
use Rattle.blocks.specs.Nesting.{has_blocks, in_first, in_second, taken, line_sound_by, block_sound_by, shorter, sound_within, block_sound, line_sound, deeper}

abbrev Sounds : Type 0
Sounds = ℕ → ℕ → ℕ → Bool

chosen : (b x y : Bool) → (b ≡ true → x ≡ y) → cond b x true ≡ cond b y true
chosen true x y h = h refl
chosen false x y h = refl

agreed : (n : ℕ) (p q : Sounds) → ((i m d : ℕ) → m < n → p i m d ≡ q i m d) → shorter n p ≡ shorter n q
agreed n p q h = fun_ext (λ i. fun_ext (λ m. fun_ext (λ d. chosen (ltb m n) (p i m d) (q i m d) (λ t. h i m d (ltb-true m n t)))))

module _ (d : Description) where
  enough : (f g i n e : ℕ) → n < f → n < g → sound_within d f i n e ≡ sound_within d g i n e
  unfolding sound_within
  enough zero g i n e p q = absurd (omega arith)
  enough (suc f) zero i n e p q = absurd (omega arith)
  enough (suc f) (suc g) i n e p q =
      ap (λ (z : Sounds). block_sound_by z d i n e) (agreed n _ _ (λ j m k h. enough f g j m k (omega arith) (omega arith)))

  bounded : (i n e : ℕ) → block_sound d i n e ≡ block_sound_by (shorter n (block_sound d)) d i n e
  unfolding sound_within block_sound
  bounded i n e =
      ap (λ (z : Sounds). block_sound_by z d i n e) (agreed n _ _ (λ j m k h. enough n (suc m) j m k h (omega arith)))

  -- A line that fits asks shorter blocks only.
  line_same : (b : Bool) (g : Sounds) (l : Option Statement) (i n e : ℕ) → ltb n (taken l) ≡ b → line_sound_by (shorter n g) l i n e ≡ line_sound_by g l i n e
  line_same true g l i n e q = rw q
  line_same false g l i n e q =
      let h = ltb-false n (taken l) q in
      rw (lt-ltb (in_first l) n (omega arith), lt-ltb (in_second l) n (omega arith))

  block_same : (b : Bool) (g : Sounds) (i n e : ℕ) → 0 < n → ltb n (taken (statement_at d i)) ≡ b → block_sound_by (shorter n g) d i n e ≡ block_sound_by g d i n e
  block_same true g i n e p q = rw q
  block_same false g i n e p q =
      let h = ltb-false n (taken (statement_at d i)) q in
      rw (line_same false g (statement_at d i) i n e q, lt-ltb (n - taken (statement_at d i)) n (omega arith))

  no_zero : (n : ℕ) → 0 < n → eqb n 0 ≡ false
  no_zero n p = ne_eqb n 0 (λ e. omega arith)

  pub sound_step : (i n e : ℕ) → 0 < n → block_sound d i n e ≡ (line_sound d i n e && block_sound d (i + taken (statement_at d i)) (n - taken (statement_at d i)) e)
  sound_step i n e p = bounded i n e ∙ block_same _ (block_sound d) i n e p refl ∙ rw (no_zero n p)

  pub sound_none : (i n e : ℕ) → n ≡ 0 → true ≡ block_sound d i n e
  sound_none i n e q = sym (rw q (bounded i 0 e))

  -- A sound line has its blocks within its room.
  pub line_fits : (i n e : ℕ) → true ≡ line_sound d i n e → taken (statement_at d i) ≤ n
  line_fits i n e q =
      let l = statement_at d i in
      let a = (and_parts (not (ltb n (taken l)) && not (has_blocks l && leb 8 e) && block_sound d (i + 1) (in_first l) (e + 1)) _ (sym q)).0 in
      let b = (and_parts (not (ltb n (taken l)) && not (has_blocks l && leb 8 e)) _ a).0 in
      ltb-false n (taken l) (not-true _ (and_parts (not (ltb n (taken l))) _ b).0)

  -- A block of n lines, by what its first line says.
  pub past_unsound : (i n e : ℕ) → 0 < n → false ≡ line_sound d i n e → false ≡ block_sound d i n e
  past_unsound i n e p q = sym (sound_step i n e p ∙ rw (← q))

  pub past_sound : (i n e : ℕ) → 0 < n → true ≡ line_sound d i n e → {r : Bool} → r ≡ block_sound d (i + taken (statement_at d i)) (n - taken (statement_at d i)) e → r ≡ block_sound d i n e
  past_sound i n e p q s = s ∙ sym (sound_step i n e p ∙ rw (← q))

-- A node is more than no level deep.
pub deeper_none : (k : ℕ) (d : Description) (n : ℕ) → k ≡ 0 → true ≡ deeper k d n
unfolding deeper
deeper_none k d n e = rw e

deeper_more : (k : ℕ) (d : Description) (n : ℕ) → 0 < k → deeper k d n ≡ (is_operator (node_at d n) && (deeper (k - 1) d (node_at d n).a || deeper (k - 1) d (node_at d n).b))
unfolding deeper
deeper_more zero d n p = absurd (omega arith)
deeper_more (suc k) d n p = let e : suc k - 1 ≡ k = omega arith in rw e

pub deeper_by : (k : ℕ) (d : Description) (n : ℕ) → 0 < k → {r : Bool} → r ≡ (is_operator (node_at d n) && (deeper (k - 1) d (node_at d n).a || deeper (k - 1) d (node_at d n).b)) → r ≡ deeper k d n
deeper_by k d n p e = e ∙ sym (deeper_more k d n p)
