-- An element of a read, step by step.
use Rattle.std.proofs.Common.{◌≡◌, ℕ, ◌+◌, Bool, cond, eqb, List, ℤ, pos, Ok, Err}
use Rattle.rules.specs.declared.faults.Failure.{Failure}
use Rattle.records.specs.declared.statements.ReadLine.{ReadLine}
use Rattle.rules.specs.declared.steps.Window.{Window}
use Rattle.rules.specs.Checks.{Check, then}
use Rattle.rules.specs.Steps.{aligned, natural, taken, signed, at_least, at_most, element}

module _ (bits : List Bool) (w : Window) (l : ReadLine) (width low high : Check ℤ) (p : ℕ) where
  pub element_unaligned : (f : Failure) → Err f ≡ aligned bits w l.alignment p → Err f ≡ element bits w l width low high p
  unfolding element then
  element_unaligned f e = rw (← e)

  module _ (q : ℕ) (placed : Ok q ≡ aligned bits w l.alignment p) where
    pub element_no_width : (f : Failure) → Err f ≡ width → Err f ≡ element bits w l width low high p
    unfolding element then natural
    element_no_width f e = rw (← placed, ← e)

    module _ (z : ℤ) (worked : Ok z ≡ width) where
      pub element_bad_width : (f : Failure) → Err f ≡ natural 32 (Ok z) → Err f ≡ element bits w l width low high p
      unfolding element then
      element_bad_width f e = rw (← placed, ← worked, ← e)

      module _ (n : ℕ) (wide : Ok n ≡ natural 32 (Ok z)) where
        pub element_no_bits : (f : Failure) → Err f ≡ taken bits w n q → Err f ≡ element bits w l width low high p
        unfolding element then
        element_no_bits f e = rw (← placed, ← worked, ← wide, ← e)

        module _ (raw : ℕ) (took : Ok raw ≡ taken bits w n q) (v : ℤ) (is : v ≡ cond l.signed (signed n raw) (pos raw)) where
          pub element_low : (f : Failure) → Err f ≡ at_least l.lowest low v → Err f ≡ element bits w l width low high p
          unfolding element then
          element_low f e = rw (← placed, ← worked, ← wide, ← took, ← is, ← e)

          module _ (above : Ok tt ≡ at_least l.lowest low v) where
            pub element_high : (f : Failure) → Err f ≡ at_most l.highest high v → Err f ≡ element bits w l width low high p
            unfolding element then
            element_high f e = rw (← placed, ← worked, ← wide, ← took, ← is, ← above, ← e)

            pub element_got : Ok tt ≡ at_most l.highest high v → (after : ℕ) → after ≡ cond (eqb l.ahead 0) (q + n) q →
                Ok (record { value = v; place = q; length = n; after = after }) ≡ element bits w l width low high p
            unfolding element then
            element_got e after a = rw (← placed, ← worked, ← wide, ← took, ← is, ← above, ← e, a)
