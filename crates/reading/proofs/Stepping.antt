-- The open objects, through what is done to them.
use Rattle.std.proofs.Common.{Some, None, Ok, Err, ◌≡◌, ℕ, zero, suc, ◌+◌, ◌-◌, ◌<◌, ◌≤◌, min, Bool, true, false, cond, not, ◌&&◌, ◌||◌, eqb, ltb, ◌≢◌, List, [], ◌∷◌, length, get_or, drop, set, sym, refl, ap, ◌∙◌, subst, ap₂, arith, get_or-set_same, length-drop}
use Rattle.std.proofs.lemmas.Bool.Decides.{nat_tests}
use Rattle.std.proofs.lemmas.Bool.{ltb-true}
use Rattle.std.proofs.lemmas.List.{take_all}
use Rattle.roundtrip.proofs.Agree.{part_agree}
use Rattle.objects.specs.Likewise.{Alike, reach}
use Rattle.bits.specs.Bits.{number}
use Rattle.table.specs.Description.{Description}
use Rattle.rules.specs.declared.faults.ReadingCause.TheVariants.{BitsLeft}
use Rattle.rules.specs.Trace.{Run, done, stop}
use Rattle.rules.specs.Checks.{attempt, ensure, fault}
use Rattle.rules.specs.Steps.{at_end}
use Rattle.rules.specs.Values.{Names}
use Rattle.rules.specs.Reading.{reading, write}
use Rattle.values.specs.Names.{named_by}
use Rattle.objects.specs.declared.inside.Inside.{Inside}
use Rattle.objects.specs.Tops.{tops}
use Rattle.objects.specs.Frames.{frames}
use Rattle.objects.specs.Passed.{passed}
use Rattle.objects.specs.Ahead.{Fit, Inner, inner_of, with_names, state}
use Rattle.objects.proofs.Passing.{passed_add}
use Rattle.objects.proofs.Stacks.{tops_set, stack_pop, tops_length}
use Rattle.reading.specs.declared.open_object.Using.{Using}
use Rattle.reading.specs.declared.open_object.OpenObject.{OpenObject}
use Rattle.reading.specs.declared.walk.Walk.{Walk}
use Rattle.reading.specs.Pushes.{Pushed, around}
use Rattle.reading.specs.Walks.{by_none, no_object, objects_of, names_of, rest, rest_from, walk_ahead, Answer, AllFit, Sound, Answered, beginning, received}
use Rattle.reading.proofs.Entering.{one_receives}

pub known_class : (c g : ℕ) → c ≢ 0 → (not (eqb c 0) || not (eqb g 0)) ≡ true
known_class c g h = grind (arith, nat_tests)

pub known_greatest : (c g : ℕ) → g ≢ 0 → (not (eqb c 0) || not (eqb g 0)) ≡ true
known_greatest c g h = grind (arith, nat_tests)

module _ (d : Description) (bits : List Bool) (a : OpenObject) (p : ℕ) (w v : Walk) (h : Pushed a p w v) where
  pub pushed_ahead : walk_ahead d bits v ≡ rest d bits (a ∷ objects_of w) p
  pushed_ahead = λ i. cond (h.started i) (rest d bits (h.objects i) (h.place i)) (reading d bits)

  pub pushed_sound : Sound d w → Fit d (frames a.inside.frames) → p ≤ 2147483647 → Sound d v
  unfolding Sound AllFit
  pushed_sound s f n = (subst (AllFit d) (sym h.objects) (f, s.0), subst (λ k. k ≤ 2147483647) (sym h.place) n)

-- a walk that has begun, by its innermost object
pub begun_ahead : (d : Description) (bits : List Bool) (w : Walk) → w.started ≡ true → walk_ahead d bits w ≡ rest d bits (objects_of w) w.place
begun_ahead d bits w e = ap (λ b. cond b (rest d bits (objects_of w) w.place) (reading d bits)) e

pub not_begun_ahead : (d : Description) (bits : List Bool) (w : Walk) → w.started ≡ false → walk_ahead d bits w ≡ reading d bits
not_begun_ahead d bits w e = ap (λ b. cond b (rest d bits (objects_of w) w.place) (reading d bits)) e

pub innermost : (w : Walk) (i : ℕ) → min w.depth 16 ≡ suc i → objects_of w ≡ get_or w.objects i no_object ∷ around w.objects i
unfolding objects_of
innermost w i e =
    let z : min i 16 ≡ i = omega arith in
    stack_pop no_object w.objects w.depth 16 i e ∙ ap (λ k. get_or w.objects i no_object ∷ tops no_object w.objects k) z

pub none_open : (w : Walk) → w.depth ≡ 0 → objects_of w ≡ []
unfolding objects_of tops
none_open w e = let z : min w.depth 16 ≡ 0 = omega arith in rw z refl

-- the innermost is changed
pub changed-objects : (v : Walk) (xs : List OpenObject) (i : ℕ) (a : OpenObject) → v.objects ≡ set xs i a → min v.depth 16 ≡ suc i → i < length xs
    → objects_of v ≡ a ∷ around xs i
changed-objects v xs i a e m l =
    let r : i ≤ i = omega arith in
    innermost v i m ∙ ap (λ (ys : List OpenObject). get_or ys i no_object ∷ around ys i) e ∙ ap₂ ◌∷◌ (get_or-set_same xs i a no_object l) (tops_set no_object xs i a i r)

-- the objects around the innermost are left
pub popped_objects : (v : Walk) → v.depth < 16 → objects_of v ≡ around v.objects v.depth
unfolding objects_of
popped_objects v h = let z : min v.depth 16 ≡ v.depth = omega arith in ap (λ k. tops no_object v.objects k) z

pub few_open : (w : Walk) → w.depth < 16 → length (objects_of w) < 16
unfolding objects_of
few_open w h = let e = tops_length no_object w.objects (min w.depth 16) in omega arith

pub all_open : (w : Walk) → 16 ≤ w.depth → 16 ≤ length (objects_of w)
unfolding objects_of
all_open w h = let e = tops_length no_object w.objects (min w.depth 16) in omega arith

pub around_next : (xs : List OpenObject) (i : ℕ) → 0 < i → around xs i ≡ get_or xs (i - 1) no_object ∷ around xs (i - 1)
unfolding tops
around_next xs zero h = absurd (omega arith)
around_next xs (suc i) h = let z : suc i - 1 ≡ i = omega arith in rw z refl

-- fewer than eight bits, all 0, are left
abbrev pub well_ended : List Bool → ℕ → Bool
well_ended bits p = ltb (length bits - p) 8 && eqb (number (drop p bits)) 0

-- which looks at no more bits than a step may
drop_alike : (bits B : List Bool) (p : ℕ) → length bits - p < 8 → Alike bits B p (p + reach) → drop p bits ≡ drop p B
drop_alike bits B p h a =
    let n = length bits - p in
    let long = a.long in
    let l = length-drop p bits in
    let m = length-drop p B in
    sym (take_all n (drop p bits) (omega arith)) ∙ part_agree bits B a.long n p (λ k u v. a.agree k u (omega arith)) ∙ take_all n (drop p B) (omega arith)

pub ended_alike : (bits B : List Bool) (p : ℕ) → Alike bits B p (p + reach) → well_ended bits p ≡ well_ended B p
ended_alike bits B p a = go (ltb (length bits - p) 8) refl
  where
    go : (t : Bool) → ltb (length bits - p) 8 ≡ t → well_ended bits p ≡ well_ended B p
    go true e = let same = drop_alike bits B p (ltb-true (length bits - p) 8 e) a in λ i. ltb (a.long i - p) 8 && eqb (number (same i)) 0
    go false e =
        let f : ltb (length B - p) 8 ≡ false = ap (λ n. ltb (n - p) 8) (sym a.long) ∙ e in
        ap (λ b. b && eqb (number (drop p bits)) 0) e ∙ sym (ap (λ b. b && eqb (number (drop p B)) 0) f)

-- the end
module _ (d : Description) (bits : List Bool) (w : Walk) (begun : w.started ≡ true) (none : objects_of w ≡ []) where
  ended : walk_ahead d bits w ≡ attempt 0 w.place (at_end bits w.place) done
  unfolding rest_from
  ended = begun_ahead d bits w begun ∙ ap (λ (os : List OpenObject). rest d bits os w.place) none

  pub ends_well : well_ended bits w.place ≡ true → walk_ahead d bits w ≡ done tt
  unfolding attempt at_end ensure
  ends_well t = ended ∙ rw t refl

  pub ends_short : well_ended bits w.place ≡ false → walk_ahead d bits w ≡ stop (fault BitsLeft 0 0 w.place)
  unfolding attempt at_end ensure
  ends_short t = ended ∙ rw t refl

pub sound_near : (d : Description) (w : Walk) → Sound d w → w.place ≤ 2147483647
unfolding Sound
sound_near d w s = s.1

pub sound_all : (d : Description) (w : Walk) → Sound d w → AllFit d (objects_of w)
unfolding Sound
sound_all d w s = s.0

pub sound_from : (d : Description) (w : Walk) (os : List OpenObject) → objects_of w ≡ os → AllFit d os → w.place ≤ 2147483647 → Sound d w
unfolding Sound
sound_from d w os e f n = (subst (AllFit d) (sym e) f, n)

pub all_cons : (d : Description) (a : OpenObject) (os : List OpenObject) → Fit d (frames a.inside.frames) → AllFit d os → AllFit d (a ∷ os)
unfolding AllFit
all_cons d a os f s = (f, s)

pub all_head : (d : Description) (a : OpenObject) (os : List OpenObject) → AllFit d (a ∷ os) → Fit d (frames a.inside.frames) × AllFit d os
unfolding AllFit
all_head d a os s = s

-- what lies ahead of a walk whose objects are known
pub ahead_of : (d : Description) (bits : List Bool) (v : Walk) (os : List OpenObject) (q : ℕ) → v.started ≡ true → objects_of v ≡ os → v.place ≡ q
    → walk_ahead d bits v ≡ rest d bits os q
ahead_of d bits v os q s e p = λ i. cond (s i) (rest d bits (e i) (p i)) (reading d bits)

-- the same answer after silent steps
pub answered_later : (d : Description) (bits : List Bool) {from : Run (Unit {0})} (to : Run (Unit {0})) (n : ℕ) (r : Answer) (w : Walk) → from ≡ passed n to → Answered d bits to r w → Answered d bits from r w
answered_later d bits to n (Ok (Some i)) w e t = record { before = n + t.before; same = e ∙ ap (passed n) t.same ∙ passed_add n t.before _; sound = t.sound }
answered_later d bits to n (Ok None) w e t = record { before = n + t.before; same = e ∙ ap (passed n) t.same ∙ passed_add n t.before _; still = t.still; sound = t.sound }
answered_later d bits to n (Err f) w e t = record { before = n + t.before; same = e ∙ ap (passed n) t.same ∙ passed_add n t.before _; sound = t.sound }

pub start_run : (d : Description) (bits : List Bool) (os : List OpenObject) (n : ℕ) → os ≡ [] → n ≡ length bits
    → reading d bits ≡ beginning d bits os (by_none d.top) (record { end = n; object = false }) 0
unfolding reading rest_from
start_run d bits os n z e = rw (z, e) refl

pub none_sound : (d : Description) (w : Walk) → w.depth ≡ 0 → w.place ≡ 0 → Sound d w
unfolding AllFit
none_sound d w z p = sound_from d w [] (none_open w z) tt (omega arith)

-- where the value of an object that is left goes
module _ (d : Description) (bits : List Bool) (xs : List OpenObject) (i : ℕ) (used : Using) (q : ℕ) (c : Inner) where
  pub left_last : i ≡ 0 → rest_from d bits (around xs i) (received used (state q c) (around xs i)) ≡ rest d bits (around xs i) q
  unfolding tops rest_from
  left_last z = rw z refl

  -- name 0 takes nothing
  pub left_alone : used.receiving ≡ 0 → rest_from d bits (around xs i) (received used (state q c) (around xs i)) ≡ rest d bits (around xs i) q
  left_alone z = ap (λ r. rest_from d bits (around xs i) (record { place = q; names = write r (c.names used.carried) (names_of (around xs i)) })) z

  pub left_others : 0 < i → (j : Inside) → inner_of j ≡ with_names (write used.receiving (c.names used.carried) (named_by (get_or xs (i - 1) no_object).inside.names)) (inner_of (get_or xs (i - 1) no_object).inside)
      → rest_from d bits (around xs i) (received used (state q c) (around xs i))
      ≡ rest d bits (record { opened = (get_or xs (i - 1) no_object).opened; inside = j } ∷ around xs (i - 1)) q
  left_others h j e =
      ap (λ (os : List OpenObject). rest_from d bits os (received used (state q c) os)) (around_next xs i h)
      ∙ one_receives d bits used (state q c) (get_or xs (i - 1) no_object) j (around xs (i - 1)) e

pub received-objects : (v : Walk) (xs : List OpenObject) (i : ℕ) (x : OpenObject) → v.objects ≡ set xs (i - 1) x → v.depth ≡ i → 0 < i → i < 16 → i - 1 < length xs
    → objects_of v ≡ x ∷ around xs (i - 1)
received-objects v xs i x e z h k l =
    let r : i - 1 ≤ i - 1 = omega arith in
    popped_objects v (subst (λ n. n < 16) (sym z) k)
    ∙ (λ t. around (e t) (z t))
    ∙ around_next (set xs (i - 1) x) i h
    ∙ ap₂ ◌∷◌ (get_or-set_same xs (i - 1) x no_object l) (tops_set no_object xs (i - 1) x (i - 1) r)

pub received_fit : (d : Description) (xs : List OpenObject) (i : ℕ) → 0 < i → (j : Inside) (n : Names) → inner_of j ≡ with_names n (inner_of (get_or xs (i - 1) no_object).inside)
    → AllFit d (around xs i) → AllFit d (record { opened = (get_or xs (i - 1) no_object).opened; inside = j } ∷ around xs (i - 1))
received_fit d xs i h j n e f =
    let b = all_head d (get_or xs (i - 1) no_object) (around xs (i - 1)) (subst (AllFit d) (around_next xs i h) f) in
    all_cons d (record { opened = (get_or xs (i - 1) no_object).opened; inside = j }) (around xs (i - 1))
    (subst (Fit d) (sym (ap (λ (x : Inner). x.frames) e)) b.0) b.1
