-- An item's own bits are the least that give it, and a step looks only at the bits up to where it ends.
use Rattle.std.specs.Prelude.{◌≡◌, ℕ, ◌+◌, ◌^◌, ◌<◌, ◌≤◌, Bool, false, List, length, ℤ, Ok, slice_index_or}
use Rattle.records.specs.declared.records.Class.{Class}
use Rattle.records.specs.declared.statements.ReadLine.{ReadLine}
use Rattle.rules.specs.Checks.{Check}
use Rattle.rules.specs.declared.steps.Window.{Window}
use Rattle.rules.specs.declared.steps.Got.{Got}
use Rattle.rules.specs.declared.steps.Header.{Header}
use Rattle.rules.specs.Steps.{aligned, element, mapped, size_bytes, header}
use Rattle.roundtrip.specs.Own.{lowest_index, size_code}

-- bits that agree from p to q
abbrev pub Agree : (B C : List Bool) → (p q : ℕ) → Type 0
Agree B C p q = (k : ℕ) → p ≤ k → k < q → slice_index_or B k false ≡ slice_index_or C k false

pub record Least : Type 0 where
  -- the lowest index gives the output, and no lower one than another does
  pub index : (width : ℕ) (outputs : ℕ → Check ℤ) (v : ℤ) (x : ℕ) → x < 2 ^ width → outputs x ≡ Ok v →
      (outputs (lowest_index width outputs v) ≡ Ok v) × (lowest_index width outputs v ≤ x)
  -- no size takes fewer bytes
  pub size : (B : List Bool) (w : Window) (p : ℕ) (r : ℕ × ℕ) → size_bytes B w 4 0 p ≡ Ok r → p + length (size_code r.0) ≤ r.1

pub record Looks : Type 0 where
  pub at_alignment : (B C : List Bool) → length B ≡ length C → (w : Window) (to p q : ℕ) → aligned B w to p ≡ Ok q → Agree B C p q → aligned C w to p ≡ Ok q
  pub at_element : (B C : List Bool) → length B ≡ length C → (w : Window) (l : ReadLine) (width low high : Check ℤ) (p : ℕ) (g : Got) →
      element B w l width low high p ≡ Ok g → Agree B C p (g.place + g.length) → element C w l width low high p ≡ Ok g
  pub at_map : (B C : List Bool) → length B ≡ length C → (w : Window) (width : ℕ) (outputs : ℕ → Check ℤ) (p : ℕ) (g : Got) →
      mapped B w width outputs p ≡ Ok g → Agree B C p g.after → mapped C w width outputs p ≡ Ok g
  pub at_header : (B C : List Bool) → length B ≡ length C → (w : Window) (c : Class) (g p : ℕ) (h : Header) →
      header B w c g p ≡ Ok h → Agree B C p h.after → header C w c g p ≡ Ok h
