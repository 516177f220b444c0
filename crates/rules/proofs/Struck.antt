-- What is left of each kind of item.
use Rattle.std.proofs.Common.{◌≡◌, ℕ, suc, ◌<◌, ◌≤◌, true, cond, ◌||◌, ltb, [], ◌∷◌, length, refl, ap, inl, inr}
use Rattle.std.proofs.lemmas.Bool.{lt-ltb, le-ltb, or_left, or_right}
use Rattle.table.specs.Description.{Description}
use Rattle.rules.specs.declared.steps.Header.{Header}
use Rattle.rules.specs.declared.steps.Got.{Got}
use Rattle.rules.specs.Reading.{Object, value_item, open_item, close_item}
use Rattle.rules.specs.Growth.{new_line, new_class, deeper, left_of, of_class_zero}
use Rattle.rules.proofs.Follow.{Hidden}

module _ (older : Description) where
  struck_true : (k line : ℕ) → Hidden older k line → (ltb 0 k || new_line older line) ≡ true
  struck_true k line (inl h) = or_left _ _ (lt-ltb 0 k h)
  struck_true k line (inr h) = or_right _ _ (lt-ltb (length older.lines) line h)

  opens_true : (k line c : ℕ) → Hidden older k line → (ltb 0 k || (new_line older line || new_class older c)) ≡ true
  opens_true k line c (inl h) = or_left _ _ (lt-ltb 0 k h)
  opens_true k line c (inr h) = or_right _ _ (or_left _ _ (lt-ltb (length older.lines) line h))

  module _ (k line : ℕ) (h : Hidden older k line) where
    pub hide_value : (o : Object) (index : ℕ) (g : Got) → left_of older k (value_item o line index g) ≡ []
    unfolding left_of
    hide_value o index g = ap (λ b. cond b [] (value_item o line index g ∷ [])) (struck_true k line h)

    pub hide_open : (c index : ℕ) (a : Header) → left_of older k (open_item c line index a) ≡ []
    unfolding left_of
    hide_open c index a =
        let i = open_item c line index a in
        ap (λ b. cond b [] (cond (new_class older c) (of_class_zero older i) i ∷ [])) (struck_true k line h)

    pub open_deeper : (c index : ℕ) (a : Header) → deeper older k (open_item c line index a) ≡ suc k
    unfolding deeper
    open_deeper c index a = ap (λ b. cond b (suc k) 0) (opens_true k line c h)

    pub hide_close : (c index p : ℕ) → left_of older (suc k) (close_item c line index p) ≡ []
    unfolding left_of
    hide_close c index p =
        let i = close_item c line index p in
        ap (λ b. cond b [] (cond (new_class older c) (of_class_zero older i) i ∷ [])) (struck_true k line h)

  pub value_deeper : (k : ℕ) (o : Object) (line index : ℕ) (g : Got) → deeper older k (value_item o line index g) ≡ k
  unfolding deeper
  value_deeper k o line index g = refl

  pub close_deeper : (k c line index p : ℕ) → deeper older (suc k) (close_item c line index p) ≡ k
  unfolding deeper
  close_deeper k c line index p = refl

  module _ (line : ℕ) (l : line ≤ length older.lines) where
    pub show_value : (o : Object) (index : ℕ) (g : Got) → left_of older 0 (value_item o line index g) ≡ value_item o line index g ∷ []
    unfolding left_of
    show_value o index g = ap (λ b. cond b [] (value_item o line index g ∷ [])) (le-ltb (length older.lines) line l)

    pub show_open : (c : ℕ) → c ≤ length older.classes → (index : ℕ) (a : Header) → left_of older 0 (open_item c line index a) ≡ open_item c line index a ∷ []
    unfolding left_of
    show_open c n index a =
        let i = open_item c line index a in
        λ x. cond (le-ltb (length older.lines) line l x) [] (cond (le-ltb (length older.classes) c n x) (of_class_zero older i) i ∷ [])

    pub show_open_deeper : (c : ℕ) → c ≤ length older.classes → (index : ℕ) (a : Header) → deeper older 0 (open_item c line index a) ≡ 0
    unfolding deeper
    show_open_deeper c n index a =
        λ x. cond (le-ltb (length older.lines) line l x || le-ltb (length older.classes) c n x) 1 0

    pub show_close : (c : ℕ) → c ≤ length older.classes → (index p : ℕ) → left_of older 0 (close_item c line index p) ≡ close_item c line index p ∷ []
    unfolding left_of
    show_close c n index p =
        let i = close_item c line index p in
        λ x. cond (le-ltb (length older.lines) line l x) [] (cond (le-ltb (length older.classes) c n x) (of_class_zero older i) i ∷ [])

    pub show_close_deeper : (c index p : ℕ) → deeper older 0 (close_item c line index p) ≡ 0
    unfolding deeper
    show_close_deeper c index p = refl

    pub mask_open : (c : ℕ) → length older.classes < c → (index : ℕ) (a : Header) → left_of older 0 (open_item c line index a) ≡ open_item 0 line index a ∷ []
    unfolding left_of
    mask_open c n index a =
        let i = open_item c line index a in
        λ x. cond (le-ltb (length older.lines) line l x) [] (cond (lt-ltb (length older.classes) c n x) (of_class_zero older i) i ∷ [])

    pub mask_open_deeper : (c : ℕ) → length older.classes < c → (index : ℕ) (a : Header) → deeper older 0 (open_item c line index a) ≡ 1
    unfolding deeper
    mask_open_deeper c n index a =
        λ x. cond (le-ltb (length older.lines) line l x || lt-ltb (length older.classes) c n x) 1 0

    pub mask_close : (c : ℕ) → length older.classes < c → (index p : ℕ) → left_of older 1 (close_item c line index p) ≡ close_item 0 line index p ∷ []
    unfolding left_of
    mask_close c n index p =
        let i = close_item c line index p in
        λ x. cond (le-ltb (length older.lines) line l x) [] (cond (lt-ltb (length older.classes) c n x) (of_class_zero older i) i ∷ [])
