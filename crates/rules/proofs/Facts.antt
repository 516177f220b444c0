-- What holds where a step goes through.
use Rattle.std.proofs.Common.{◌≡◌, ℕ, zero, suc, ◌+◌, ◌-◌, ◌*◌, ◌/◌, ◌%◌, ◌^◌, ◌<◌, ◌≤◌, Bool, true, false, cond, ◌&&◌, T, eqb, ltb, leb, List, length, take, drop, ℤ, pos, negsuc, ◌-ℤ◌, nat_abs, Ok, Err, sym, refl, ap, ◌∙◌, subst, mod-lt, div-add-mod', arith, leb→le, length-take, pow_mono}
use Rattle.std.proofs.Math.Facts.{and_yes}
use Rattle.std.proofs.lemmas.Bool.{lt-ltb, leb-false, leb-true, ltb-false, ltb-true, cond_both}
use Rattle.rules.specs.Reading.{State, inner, closed}
use Rattle.table.specs.Description.{Description}
use native.Mathlib.Nat.{two-pow-succ}
use lib.Dec.{eqb-suc-zero}
use lib.Signed.{le_z}
use Rattle.records.specs.declared.records.Class.{Class}
use Rattle.bits.specs.Bits.{number, part}
use Rattle.bits.proofs.Numbers.{number_lt}
use Rattle.rules.specs.declared.faults.ReadingCause.{ReadingCause}
use Rattle.rules.specs.Checks.{Check, then, ensure, pick}
use Rattle.records.specs.declared.statements.ReadLine.{ReadLine}
use Rattle.rules.specs.declared.steps.Header.{Header}
use Rattle.rules.specs.declared.steps.Got.{Got}
use Rattle.rules.specs.declared.steps.Window.{Window}
use Rattle.rules.specs.Steps.{next_multiple, aligned, taken, natural, signed, element, mapped, size_bytes, sized, id_width, header}
use Rattle.rules.specs.Order.{WithinBits}

pub ensure_ok : (b : Bool) (n : ReadingCause) (u : Unit {0}) → ensure b n ≡ Ok u → T b
unfolding ensure
ensure_ok true n u e = tt
ensure_ok false n u e = let y : ◌≡◌ {A = ℕ} 0 1 = cc in let z : ⊥ = omega arith in absurd z

-- what a chain that goes through went through
pub via : {A B : Type 0} (P : Type 0) (c : Check A) (k : A → Check B) (b : B) → then c k ≡ Ok b → ((a : A) → c ≡ Ok a → k a ≡ Ok b → P) → P
unfolding then
via P (Ok a) k b e f = f a refl e
via P (Err x) k b e f = let y : ◌≡◌ {A = ℕ} 0 1 = cc in let z : ⊥ = omega arith in absurd z

pub ok_same : {A : Type 0} (x y : A) → ◌≡◌ {A = Check A} (Ok x) (Ok y) → x ≡ y
ok_same x y e = cc

-- alignment doesn't go back
pub multiple_above : (of p : ℕ) → p ≤ next_multiple of p
multiple_above zero p = omega arith
multiple_above (suc m) p =
    let a = div-add-mod' (p + m) (suc m) in
    let b = mod-lt (p + m) {m = suc m} (omega arith) in
    let q : p ≤ (p + m) / suc m * suc m = omega arith in
    let e : m ≡ suc m - 1 = omega arith in
    subst (λ z. p ≤ cond z p ((p + (suc m - 1)) / suc m * suc m)) (sym (eqb-suc-zero m)) (subst (λ z. p ≤ (p + z) / suc m * suc m) e q)

pub record Aligned (w : Window) (to p q : ℕ) : Type 0 where
  pub ahead : p ≤ q
  pub within : q ≤ w.end
  pub is : next_multiple to p ≡ q

pub aligned_facts : (B : List Bool) (w : Window) (to p q : ℕ) → aligned B w to p ≡ Ok q → Aligned w to p q
unfolding aligned
aligned_facts B w to p q e =
    via (Aligned w to p q) _ _ q e λ u en e.
    via (Aligned w to p q) _ _ q e λ v ze e.
    let l = leb→le _ _ (ensure_ok _ _ _ en) in
    let m = multiple_above to p in
    let x : next_multiple to p ≡ q = ok_same _ q e in
    record { ahead = omega arith; within = omega arith; is = x }

pub part_bound : (B : List Bool) (p n : ℕ) → number (part B p n) < 2 ^ n
part_bound B p n =
    let a = number_lt (take n (drop p B)) in
    let e = length-take n (drop p B) in
    let l : length (take n (drop p B)) ≤ n = omega arith in
    let m = pow_mono l in
    omega arith

pub taken_facts : (B : List Bool) (w : Window) (n p k : ℕ) → taken B w n p ≡ Ok k → (p + n ≤ w.end) × (k < 2 ^ n)
unfolding taken
taken_facts B w n p k e =
    via ((p + n ≤ w.end) × (k < 2 ^ n)) _ _ k e λ u en e.
    let l = leb→le (p + n) w.end (ensure_ok _ _ _ en) in
    let x : number (part B p n) ≡ k = ok_same _ k e in
    let b = part_bound B p n in
    (l, omega arith)

pub natural_bound : (most n : ℕ) (v : Check ℤ) → natural most v ≡ Ok n → n ≤ most
unfolding natural
natural_bound most n v e =
    via (n ≤ most) _ _ n e λ z va e.
    via (n ≤ most) _ _ n e λ u en e.
    subst (λ k. k ≤ most) (ok_same (nat_abs z) n e) (go z (and_yes (le_z (pos 0) z) (le_z z (pos most)) (ensure_ok _ _ u en)))
  where
    go : (z : ℤ) → T (le_z (pos 0) z) × T (le_z z (pos most)) → nat_abs z ≤ most
    go (pos k) t = leb→le k most t.1
    go (negsuc k) t = absurd t.0

pow_half : (n : ℕ) → 0 < n → 2 ^ n ≡ 2 ^ (n - 1) + 2 ^ (n - 1)
pow_half zero h = absurd (omega arith)
pow_half (suc n) h = let e : suc n - 1 ≡ n = omega arith in two-pow-succ n ∙ ap (λ m. m + m) (ap (λ k. 2 ^ k) (sym e))

-- what a number of n bits is, read as signed or not
pub minus : (raw m : ℕ) → raw < m → pos raw -ℤ pos m ≡ negsuc (m - suc raw)
minus raw zero h = let y : ⊥ = omega arith in absurd y
minus raw (suc m) h = λ i. cond (lt-ltb raw (suc m) h i) (negsuc (suc m - suc raw)) (pos (raw - suc m))

signed_within : (n raw : ℕ) → raw < 2 ^ n → WithinBits true n (signed n raw)
signed_within n raw h = go (ltb 0 n) refl (leb (2 ^ (n - 1)) raw) refl
  where
    go : (a : Bool) → ltb 0 n ≡ a → (b : Bool) → leb (2 ^ (n - 1)) raw ≡ b → WithinBits true n (cond (a && b) (pos raw -ℤ pos (2 ^ n)) (pos raw))
    go true p true q =
        let some : 0 < n = ltb-true 0 n p in
        let half = pow_half n some in
        let low : 2 ^ (n - 1) ≤ raw = leb-true (2 ^ (n - 1)) raw q in
        let k : 2 ^ n - suc raw < 2 ^ (n - 1) = omega arith in
        subst (WithinBits true n) (sym (minus raw (2 ^ n) h)) k
    go true p false q = leb-false (2 ^ (n - 1)) raw q
    go false p b q =
        let none : n ≤ 0 = ltb-false 0 n p in
        let e : n ≡ 0 = omega arith in
        subst (λ k. raw < k) (ap (λ m. 2 ^ m) (omega arith)) h

pub value_within : (sign : Bool) (n raw : ℕ) → raw < 2 ^ n → WithinBits sign n (cond sign (signed n raw) (pos raw))
value_within true n raw h = signed_within n raw h
value_within false n raw h = h

pub record Element (w : Window) (l : ReadLine) (p : ℕ) (g : Got) : Type 0 where
  pub ahead : p ≤ g.place
  pub within : g.place + g.length ≤ w.end
  pub onward : g.place ≤ g.after
  pub after : g.after ≤ w.end
  pub short : g.length ≤ 32
  pub fits : WithinBits l.signed g.length g.value

pub element_facts : (B : List Bool) (w : Window) (l : ReadLine) (width low high : Check ℤ) (p : ℕ) (g : Got) → element B w l width low high p ≡ Ok g → Element w l p g
unfolding element
element_facts B w l width low high p g e =
    via (Element w l p g) _ _ g e λ q al e.
    via (Element w l p g) _ _ g e λ n wi e.
    via (Element w l p g) _ _ g e λ raw ta e.
    via (Element w l p g) _ _ g e λ x lo e.
    via (Element w l p g) _ _ g e λ y hi e.
    let a = aligned_facts B w l.alignment p q al in
    let t = taken_facts B w n q raw ta in
    let on : q ≤ cond (eqb l.ahead 0) (q + n) q = cond_both (eqb l.ahead 0) (q + n) q (λ x. q ≤ x) (λ e. omega arith) (λ e. omega arith) in
    let to : cond (eqb l.ahead 0) (q + n) q ≤ q + n = cond_both (eqb l.ahead 0) (q + n) q (λ x. x ≤ q + n) (λ e. omega arith) (λ e. omega arith) in
    subst (Element w l p) (ok_same _ g e)
    (record {
      ahead = a.ahead;
      within = t.0;
      onward = on;
      after = omega (arith, to, t.0);
      short = natural_bound 32 n width wi;
      fits = value_within l.signed n raw t.1;
    })

pub record Mapped (w : Window) (width : ℕ) (outputs : ℕ → Check ℤ) (p : ℕ) (g : Got) : Type 0 where
  pub place : g.place ≡ p
  pub length : g.length ≡ width
  pub after : g.after ≡ p + width
  pub within : p + width ≤ w.end
  pub index : ℕ
  pub small : index < 2 ^ width
  pub gives : outputs index ≡ Ok g.value

pub mapped_facts : (B : List Bool) (w : Window) (width : ℕ) (outputs : ℕ → Check ℤ) (p : ℕ) (g : Got) → mapped B w width outputs p ≡ Ok g → Mapped w width outputs p g
unfolding mapped
mapped_facts B w width outputs p g e =
    via (Mapped w width outputs p g) _ _ g e λ x ta e.
    via (Mapped w width outputs p g) _ _ g e λ v ou e.
    let t = taken_facts B w width p x ta in
    subst (Mapped w width outputs p) (ok_same _ g e)
    (record { place = refl; length = refl; after = refl; within = t.0; index = x; small = t.1; gives = ou })

-- size bytes are whole bytes, at least one
pub size_facts : (B : List Bool) (w : Window) (n high p : ℕ) (r : ℕ × ℕ) → size_bytes B w n high p ≡ Ok r → (p + 8 ≤ r.1) × (r.1 % 8 ≡ p % 8)
unfolding size_bytes
size_facts B w zero high p r e = let y : ◌≡◌ {A = ℕ} 0 1 = cc in let z : ⊥ = omega arith in absurd z
size_facts B w (suc n) high p r e =
    via ((p + 8 ≤ r.1) × (r.1 % 8 ≡ p % 8)) _ _ r e λ byte ta e. go byte (ltb byte 128) e (size_facts B w n (high * 128 + byte % 128) (p + 8) r)
  where
    go : (byte : ℕ) (t : Bool) → pick t (λ _. Ok (high * 128 + byte, p + 8)) (λ _. size_bytes B w n (high * 128 + byte % 128) (p + 8)) ≡ Ok r →
        (size_bytes B w n (high * 128 + byte % 128) (p + 8) ≡ Ok r → (p + 8 + 8 ≤ r.1) × (r.1 % 8 ≡ (p + 8) % 8)) → (p + 8 ≤ r.1) × (r.1 % 8 ≡ p % 8)
    go byte true e k = let q : p + 8 ≡ r.1 = ap (λ s. s.1) (ok_same (high * 128 + byte, p + 8) r e) in (omega arith, omega arith)
    go byte false e k = let q = k e in (omega (arith, q.0), omega (arith, q.1))

pub record Begun (w : Window) (c : Class) (greatest p : ℕ) (h : Header) : Type 0 where
  pub ahead : p ≤ h.place
  pub onward : h.place ≤ h.after
  pub within : h.after + 8 * h.size ≤ w.end
  pub begins : 0 < greatest → h.place % 8 ≡ 0
  pub ends : 0 < greatest → id_width c % 8 ≡ 0 → (h.after + 8 * h.size) % 8 ≡ 0

pub sized_facts : (B : List Bool) (w : Window) (g p : ℕ) (s : ℕ × ℕ) → p ≤ w.end → sized B w g p ≡ Ok s →
    (p ≤ s.1) × (s.1 + 8 * s.0 ≤ w.end) × (s.1 % 8 ≡ p % 8)
unfolding sized
sized_facts B w zero p s l e =
    let a : 0 ≡ s.0 = ap (λ t. t.0) (ok_same (0, p) s e) in
    let b : p ≡ s.1 = ap (λ t. t.1) (ok_same (0, p) s e) in
    (omega arith, omega arith, omega arith)
sized_facts B w (suc g) p s l e =
    let P : Type 0 = (p ≤ s.1) × (s.1 + 8 * s.0 ≤ w.end) × (s.1 % 8 ≡ p % 8) in
    via P _ _ s e λ t by e.
    via P _ _ s e λ x le e.
    via P _ _ s e λ y en e.
    let f = size_facts B w 4 0 p t by in
    let m = leb→le _ _ (ensure_ok _ _ y en) in
    subst (λ (s : ℕ × ℕ). (p ≤ s.1) × (s.1 + 8 * s.0 ≤ w.end) × (s.1 % 8 ≡ p % 8)) (ok_same t s e) (omega (arith, f.0), m, f.1)

eight : (g p : ℕ) → 0 < g → next_multiple (cond (eqb g 0) 0 8) p % 8 ≡ 0
eight zero p h = absurd (omega arith)
eight (suc g) p h = subst (λ b. next_multiple (cond b 0 8) p % 8 ≡ 0) (sym (eqb-suc-zero g)) (omega arith)

pub header_facts : (B : List Bool) (w : Window) (c : Class) (g p : ℕ) (h : Header) → header B w c g p ≡ Ok h → Begun w c g p h
unfolding header
header_facts B w c g p h e =
    via (Begun w c g p h) _ _ h e λ q al e.
    via (Begun w c g p h) _ _ h e λ id ta e.
    via (Begun w c g p h) _ _ h e λ s si e.
    let a = aligned_facts B w _ p q al in
    let t = taken_facts B w (id_width c) q id ta in
    let z = sized_facts B w g (q + id_width c) s t.0 si in
    let byte : (0 < g → q % 8 ≡ 0) = λ x. subst (λ q. q % 8 ≡ 0) a.is (eight g p x) in
    subst (Begun w c g p) (ok_same _ h e)
    (record {
      ahead = a.ahead;
      onward = omega (arith, z.0);
      within = z.1;
      begins = byte;
      ends = λ x y. let b = byte x in let m = z.2 in omega arith;
    })

abbrev pub place_of : State → ℕ
place_of s = s.place

-- the window inside an object, and its close
pub inner_facts : (d : Description) (B : List Bool) (g : ℕ) (h : Header) (w : Window) → h.after + 8 * h.size ≤ w.end →
    (h.after ≤ (inner d B g h w).end) × ((inner d B g h w).end ≤ w.end)
inner_facts d B zero h w l = (omega arith, omega arith)
inner_facts d B (suc g) h w l = (omega arith, l)

pub closed_facts : (d : Description) (B : List Bool) (g : ℕ) (w : Window) (s : State) → s.place ≤ w.end →
    (s.place ≤ (closed d B g w s).place) × ((closed d B g w s).place ≤ w.end)
closed_facts d B zero w s l = (omega arith, l)
closed_facts d B (suc g) w s l = (l, omega arith)
