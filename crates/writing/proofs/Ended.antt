-- Where a stream can be finished, and the bits that are left.
use Rattle.std.proofs.Common.{◌≡◌, ℕ, ◌+◌, ◌-◌, ◌<◌, ◌≤◌, Bool, true, false, ◌&&◌, eqb, ltb, List, [], ◌++◌, length, take, drop, replicate, sym, ap, ◌∙◌, subst, arith}
use Rattle.std.proofs.lemmas.Bool.Decides.{nat_tests}
use Rattle.std.proofs.lemmas.List.{length-replicate, drop-replicate, take_all, take_at, length-drop}
use Rattle.bits.specs.Bits.{bits_of, limited, limited-whole, number, part}
use Rattle.roundtrip.specs.Standing.{head, Zeros}
use Rattle.roundtrip.proofs.Begun.{zeros_after}
use Rattle.roundtrip.proofs.Numbers.{zeros_number}
use Rattle.pending.specs.Store.{with_part}
use Rattle.pending.specs.Trial.{trial_bits}
use Rattle.reading.specs.Offers.{Over}
use Rattle.reading.proofs.Enclosing.{begun_from, begun_enclosed, enclosed_end}
use Rattle.reading.proofs.Stepping.{well_ended, ends_well, ends_short}
use Rattle.reading.specs.Walks.{objects_of}
use Rattle.writing.specs.declared.state.Writing.{Writing}
use Rattle.writing.specs.Calls.{description_of, MayEnd}
use Rattle.writing.specs.Endings.{CanEnd}
use Rattle.writing.proofs.Readies.{enclosed_of, place_of}

-- fewer than eight bits, all 0, are left
zero_left : (B : List Bool) (p : ℕ) → length B - p < 8 → Zeros B p (length B) → p ≤ length B → well_ended B p ≡ true
zero_left B p few zeros h =
    let n = length B - p in
    let up : p + n ≡ length B = omega arith in
    let long : length (drop p B) ≤ n = let e = length-drop p B in omega arith in
    let none : number (drop p B) ≡ 0 = ap number (sym (take_all n (drop p B) long)) ∙ zeros_number B n p (λ k a b. zeros k a (omega arith)) in
    grind (arith, nat_tests)

many_left : (B : List Bool) (p : ℕ) → 8 ≤ length B - p → well_ended B p ≡ false
many_left B p many = let e : ltb (length B - p) 8 ≡ false = grind (arith, nat_tests) in ap (λ b. b && eqb (number (drop p B)) 0) e

module _ (w : Writing) where
  module _ (over : Over w.walk true) where
    at : w.walk.place ≡ w.written
    at = sym (begun_from w.walk over.0) ∙ place_of w

    written_few : w.written ≤ w.total
    written_few = subst (λ n. n ≤ w.total) at (enclosed_end w.total (objects_of w.walk) w.walk.place (begun_enclosed w.total w.walk over.0 (enclosed_of w)))

    pub end_by : (b : Bool) → ltb (w.total - w.written) 8 ≡ b → CanEnd w b
    unfolding head
    end_by true e = (
      written_few,
      λ B l zeros.
          let few : length B - w.walk.place < 8 = let a = at in grind (arith, nat_tests) in
          let h : w.walk.place ≤ length B = let a = at in let f = written_few in omega arith in
          ap head (ends_well (description_of w) B w.walk over.0 over.1
          (zero_left B w.walk.place few (λ k x y. zeros k (let a = at in omega arith) (omega arith)) h)),
    )
    end_by false e = λ may.
        let B = may.0 in
        let l = may.1 in
        let many : 8 ≤ length B - w.walk.place = let a = at in grind (arith, nat_tests) in
        let both = sym (ap head (ends_short (description_of w) B w.walk over.0 over.1 (many_left B w.walk.place many))) ∙ may.2 in
        let z : ◌≡◌ {A = ℕ} 0 1 = cc in omega arith

  pub end_not : Over w.walk false → CanEnd w false
  end_not over = λ may. over (description_of w) may.0 may.2

  pub may_end : CanEnd w true → MayEnd w
  may_end c =
      let long = length-replicate w.total false in (
        replicate w.total false,
        long,
        c.1 (replicate w.total false) long (λ k a b. zeros_after [] w.total w.total (omega arith) k (omega arith) b),
      )

-- the bits of a trial without own bits are 0
zeros_are : (L : ℕ) → L ≤ 2147483647 → limited (trial_bits L L 0 0) ≡ replicate L false
unfolding trial_bits bits_of
zeros_are L h =
    let cut : take L (replicate L false ++ replicate L false) ≡ replicate L false = take_at (replicate L false) (replicate L false) L (length-replicate L false) in
    let long : length (take L (replicate L false ++ replicate L false)) ≡ L = ap length cut ∙ length-replicate L false in
    limited-whole (take L (replicate L false ++ replicate L false)) (omega arith) ∙ cut

pub zeros_long : (L : ℕ) → L ≤ 2147483647 → length (limited (trial_bits L L 0 0)) ≡ L
zeros_long L h = ap length (zeros_are L h) ∙ length-replicate L false

pub zeros_put : (old : List Bool) (L p : ℕ) → L ≤ 2147483647 → p ≤ L
    → with_part old (limited (trial_bits L L 0 0)) p L ≡ take p old ++ (replicate (L - p) false ++ drop L old)
unfolding with_part
zeros_put old L p h k =
    let few : length (replicate (L - p) false) ≤ L - p = let e = length-replicate (L - p) false in omega arith in
    ap (λ (s : List Bool). take p old ++ (part s p (L - p) ++ drop L old)) (zeros_are L h)
    ∙ ap (λ (s : List Bool). take p old ++ (take (L - p) s ++ drop L old)) (drop-replicate p L false)
    ∙ ap (λ (s : List Bool). take p old ++ (s ++ drop L old)) (take_all (L - p) (replicate (L - p) false) few)
