-- The end of a source.
use Rattle.std.proofs.Common.{◌≡◌, ℕ, ◌+◌, ◌-◌, ◌<◌, ◌≤◌, Bool, true, false, Ok, Err, Result, ◌&&◌, eqb, ltb, List, length, drop, sym, ap, ◌∙◌, arith, length-drop}
use Rattle.std.proofs.lemmas.Bool.Decides.{nat_tests}
use Rattle.std.specs.Result.{result_unwrap_or}
use Rattle.std.proofs.lemmas.List.{drop_all, take_all}
use Rattle.bits.specs.Bits.{number, part}
use Rattle.bits.specs.declared.refusal.Refusal.{Refusal}
use Rattle.bits.specs.Zero.{all_zero, zero_answer}
use Rattle.bits.proofs.Zeros.{zero_number}

-- the test for zero bits answers where the bits are there
pub zero_told : (bits : List Bool) (p n : ℕ) (r : Result Bool Refusal) → r ≡ zero_answer bits p n → p + n ≤ length bits → all_zero (part bits p n) ≡ result_unwrap_or r false
zero_told bits p n (Ok b) e h = grind (arith, nat_tests)
zero_told bits p n (Err f) e h = absurd (grind (arith, nat_tests))

module _ (bits : List Bool) (p : ℕ) where
  pub past_end : length bits ≤ p → true ≡ (ltb (length bits - p) 8 && eqb (number (drop p bits)) 0)
  unfolding number
  past_end h =
      let t : ltb (length bits - p) 8 ≡ true = grind (arith, nat_tests) in
      sym (ap (λ b. b && eqb (number (drop p bits)) 0) t ∙ ap (λ (l : List Bool). eqb (number l) 0) (drop_all p bits h))

  pub near_end : length bits - p < 8 → (b : Bool) → all_zero (part bits p (length bits - p)) ≡ b
      → b ≡ (ltb (length bits - p) 8 && eqb (number (drop p bits)) 0)
  near_end h b z =
      let t : ltb (length bits - p) 8 ≡ true = grind (arith, nat_tests) in
      let k : length (drop p bits) ≤ length bits - p = simp length-drop (omega arith) in
      sym z
      ∙ ap all_zero (take_all (length bits - p) (drop p bits) k)
      ∙ zero_number (drop p bits)
      ∙ sym (ap (λ b. b && eqb (number (drop p bits)) 0) t)
