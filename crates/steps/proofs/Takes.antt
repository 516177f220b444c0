-- What the steps that take bits come to.
use Rattle.std.proofs.Common.{◌≡◌, ℕ, ◌+◌, ◌-◌, ◌^◌, ◌<◌, ◌≤◌, Bool, true, false, List, length, Ok, Err, Result, sym, ap, refl, ◌∙◌, arith, le-leb}
use Rattle.std.specs.Result.{MatchResult, IsErrAnd, IfOk}
use Rattle.std.proofs.lemmas.Bool.Decides.{nat_tests}
use borrow.Author.Tests.{lt-leb}
use Rattle.bits.specs.declared.refusal.Refusal.{Refusal}
use Rattle.bits.specs.Bits.{number, part}
use Rattle.bits.specs.Get.{widest, get_answer}
use Rattle.bits.specs.Zero.{all_zero, zero_answer}
use Rattle.bits.proofs.Gets.{answered, answered_lt, refused}
use Rattle.bits.proofs.Zeros.{zero_number}
use Rattle.rules.specs.declared.faults.Failure.{Failure}
use Rattle.rules.specs.declared.steps.Window.{Window}
use Rattle.rules.specs.declared.faults.ReadingCause.TheVariants.{SkippedBits}
use Rattle.rules.specs.Checks.{Check, then, ensure, fails}
use Rattle.rules.specs.Steps.{taken, aligned, next_multiple, enough, ends}

-- the window has the bits, or not
pub enough_there : (w : Window) (p n : ℕ) → p + n ≤ w.end → enough w p n ≡ Ok tt
unfolding ensure
enough_there w p n h = rw (le-leb (p + n) w.end h)

pub enough_short : (w : Window) (p n : ℕ) → w.end < p + n → enough w p n ≡ Err (ends w)
unfolding ensure
enough_short w p n h = rw (lt-leb (p + n) w.end h)

pub taken_there : (bits : List Bool) (w : Window) (n p : ℕ) → p + n ≤ w.end → taken bits w n p ≡ Ok (number (part bits p n))
unfolding taken then
taken_there bits w n p h = rw (enough_there w p n h)

pub taken_short : (bits : List Bool) (w : Window) (n p : ℕ) → w.end < p + n → taken bits w n p ≡ Err (ends w)
unfolding taken then
taken_short bits w n p h = rw (enough_short w p n h)

-- a refusal that is told another way: where none comes, what comes is the source's answer
pub taken_told : (bits : List Bool) (w : Window) (n p : ℕ) (r : Result ℕ Refusal) (m : Check ℕ) (Gives : Refusal → Failure → Type 0) →
    r ≡ get_answer bits p n → n ≤ widest → p + n ≤ w.end → w.end ≤ length bits → MatchResult r (λ x. m ≡ Ok x) (λ e. IsErrAnd m (Gives e)) →
    (m ≡ taken bits w n p) × IfOk m (λ v. (v < 2 ^ n) × (p + n ≤ w.end))
taken_told bits w n p (Ok v) m Gives e h k l t =
    let a = answered bits p n v e in
    let same : m ≡ Ok v = t in
    rw same (ap Ok a.2 ∙ sym (taken_there bits w n p k), (answered_lt bits p n v e, k))
taken_told bits w n p (Err f) m Gives e h k l t = let a = refused bits p n f h e in absurd (omega arith)

pub zero_told : (bits : List Bool) (p n : ℕ) (r : Result Bool Refusal) (m : Check Bool) (Gives : Refusal → Failure → Type 0) →
    r ≡ zero_answer bits p n → p + n ≤ length bits → MatchResult r (λ x. m ≡ Ok x) (λ e. IsErrAnd m (Gives e)) → m ≡ Ok (all_zero (part bits p n))
zero_told bits p n (Ok b) m Gives e k t =
    let z : b ≡ all_zero (part bits p n) = grind (arith, nat_tests) in
    let same : m ≡ Ok b = t in
    same ∙ ap Ok z
zero_told bits p n (Err f) m Gives e k t = grind (arith, nat_tests)

pub aligned_short : (bits : List Bool) (w : Window) (to p : ℕ) → p ≤ next_multiple to p → w.end < next_multiple to p → aligned bits w to p ≡ Err (ends w)
unfolding aligned then
aligned_short bits w to p h k = rw (enough_short w p (next_multiple to p - p) (omega arith))

-- no bits are all 0
pub none_zero : (bits : List Bool) (p n : ℕ) → n ≡ 0 → all_zero (part bits p n) ≡ true
unfolding all_zero
none_zero bits p n e = rw e refl

pub aligned_zero : (bits : List Bool) (w : Window) (to p : ℕ) → p ≤ next_multiple to p → next_multiple to p ≤ w.end → all_zero (part bits p (next_multiple to p - p)) ≡ true → aligned bits w to p ≡ Ok (next_multiple to p)
unfolding aligned then ensure
aligned_zero bits w to p h k z = rw (enough_there w p (next_multiple to p - p) (omega arith), sym (zero_number (part bits p (next_multiple to p - p))) ∙ z)

pub aligned-set : (bits : List Bool) (w : Window) (to p : ℕ) → p ≤ next_multiple to p → next_multiple to p ≤ w.end → all_zero (part bits p (next_multiple to p - p)) ≡ false → aligned bits w to p ≡ fails SkippedBits
unfolding aligned then ensure
aligned-set bits w to p h k z = rw (enough_there w p (next_multiple to p - p) (omega arith), sym (zero_number (part bits p (next_multiple to p - p))) ∙ z)
