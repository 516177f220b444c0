-- Over which bits a step does as it did, and how far it goes.
use Rattle.std.specs.Prelude.{◌≡◌, ℕ, ◌+◌, ◌≤◌, min, Bool, List, length, Ok, Err, Result}
use Rattle.rules.specs.declared.faults.ReadingFault.{ReadingFault}
use Rattle.roundtrip.specs.Least.{Agree}
use Rattle.steps.specs.Took.{Took}
use Rattle.objects.specs.declared.moves.Move.{Move}
use Rattle.objects.specs.declared.moves.Move.TheVariants.{Quiet, Give, Begin, Leave}

-- bits of one length that agree from p to q
pub record Alike (B C : List Bool) (p q : ℕ) : Type 0 where
  pub long : length B ≡ length C
  pub agree : Agree B C p q

-- no step looks further than so many bits: fewer are skipped by an alignment than its number, which has 16 bits, and
-- then at most 32 are read
abbrev pub reach : ℕ
reach = 65567

-- the bits over which a step from p does as it did: what it looked at is the same
abbrev pub Likewise : (bits B : List Bool) → (p : ℕ) → Result Move ReadingFault → Type 0
Likewise bits B p (Ok (Quiet q)) = Alike bits B p (min q (p + reach))
Likewise bits B p (Ok (Give i q)) = Alike bits B p (min (i.place + i.length) (p + reach))
Likewise bits B p (Ok (Begin line u index)) = length bits ≡ length B
Likewise bits B p (Ok Leave) = length bits ≡ length B
Likewise bits B p (Err f) = Alike bits B p (p + reach)

-- a step from p moves the place forward, and not past the window's end
abbrev pub Bounded : (p end : ℕ) → Result Move ReadingFault → Type 0
Bounded p end (Ok (Quiet q)) = (p ≤ q) × (q ≤ end)
Bounded p end (Ok (Give i q)) = Took p end i.place i.length q
Bounded p end (Ok (Begin line u index)) = Unit {0}
Bounded p end (Ok Leave) = Unit {0}
Bounded p end (Err f) = Unit {0}
