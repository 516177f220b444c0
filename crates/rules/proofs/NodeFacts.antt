-- What the check says of a node, by its fields' names.
use Rattle.std.proofs.Common.{◌≡◌, ℕ, suc, ◌+◌, ◌*◌, ◌<◌, ◌≤◌, Bool, true, false, cond, eqb, length, Some, None, Option, refl, arith}
use Rattle.std.proofs.lemmas.Bool.{eqb-false, eqb-true}
use Rattle.records.specs.declared.records.Node.{Node}
use Rattle.table.specs.Description.{Description}
use Rattle.rules.specs.declared.terms.Operator.{Operator}
use Rattle.rules.specs.declared.terms.Operator.TheVariants.{Multiply, Divide, Remainder, Add, Subtract, ShiftLeft, ShiftRight, Less, AtMost, Greater, AtLeast, Equal, Unequal, BitAnd, BitOr, And, Or}
use Rattle.rules.specs.declared.terms.Term.{Term}
use Rattle.rules.specs.declared.terms.Term.TheVariants.{Constant, Named, OwnSize, Apply}
use Rattle.rules.specs.Numbers.{operator_number, operator_or, operator_with}
use Rattle.rules.specs.Terms.{applying, term}

-- a name in a node is there
abbrev pub TermSound : Description → Option Term → Type 0
TermSound d (Some (Constant v)) = Unit {0}
TermSound d (Some (Named n)) = n ≤ length d.names
TermSound d (Some OwnSize) = Unit {0}
TermSound d (Some (Apply operator left right)) = Unit {0}
TermSound d None = Unit {0}

-- an operator's nodes are earlier ones
abbrev pub TermRanked : ℕ → Option Term → Type 0
TermRanked k (Some (Constant v)) = Unit {0}
TermRanked k (Some (Named n)) = Unit {0}
TermRanked k (Some OwnSize) = Unit {0}
TermRanked k (Some (Apply operator left right)) = (0 < left) × (left < k) × (0 < right) × (right < k)
TermRanked k None = ⊥

pub term_sound : (d : Description) (n : Node) → (n.op ≡ 2 → n.a ≤ length d.names) → TermSound d (term n)
unfolding term
term_sound d n h = go (eqb n.op 1) (eqb n.op 2) refl (eqb n.op 3) (operator_with n.op)
  where
    go : (a b : Bool) → eqb n.op 2 ≡ b → (c : Bool) (o : Option Operator) →
        TermSound d (cond a (Some (Constant (n.a * 65536 + n.b))) (cond b (Some (Named n.a)) (cond c (Some OwnSize) (applying o n.a n.b))))
    go true b e c o = tt
    go false true e c o = h (eqb-true n.op 2 e)
    go false false e true o = tt
    go false false e false (Some x) = tt
    go false false e false None = tt

-- the numbers from 4 to 20 are those of operators
abbrev Found : Option Operator → Type 0
Found (Some o) = Unit {0}
Found None = ⊥

found : (n m : ℕ) (o : Operator) (rest : Option Operator) → operator_number o ≡ m → m ≤ n → (suc m ≤ n → Found rest) → Found (operator_or o n rest)
found n m o rest e l k = go (eqb n (operator_number o)) refl
  where
    go : (b : Bool) → eqb n (operator_number o) ≡ b → Found (cond b (Some o) rest)
    go true q = tt
    go false q =
        let ne : (n ≡ operator_number o → ⊥) = eqb-false n (operator_number o) q in
        k (omega arith)

operator_there : (n : ℕ) → 3 < n → n ≤ 20 → Found (operator_with n)
operator_there n l m =
    found n 4 Multiply _ refl l λ l. found n 5 Divide _ refl l λ l. found n 6 Remainder _ refl l λ l. found n 7 Add _ refl l λ l.
    found n 8 Subtract _ refl l λ l. found n 9 ShiftLeft _ refl l λ l. found n 10 ShiftRight _ refl l λ l. found n 11 Less _ refl l λ l.
    found n 12 AtMost _ refl l λ l. found n 13 Greater _ refl l λ l. found n 14 AtLeast _ refl l λ l. found n 15 Equal _ refl l λ l.
    found n 16 Unequal _ refl l λ l. found n 17 BitAnd _ refl l λ l. found n 18 BitOr _ refl l λ l. found n 19 And _ refl l λ l.
    found n 20 Or None refl l λ l. omega arith

pub term_ranked : (k : ℕ) (n : Node) → (0 < n.op) × (n.op ≤ 20) → (3 < n.op → (0 < n.a) × (n.a < k) × (0 < n.b) × (n.b < k)) → TermRanked k (term n)
unfolding term
term_ranked k n r h = go (eqb n.op 1) refl (eqb n.op 2) refl (eqb n.op 3) refl
  where
    applied : (o : Option Operator) → Found o → 3 < n.op → TermRanked k (applying o n.a n.b)
    applied (Some o) f l = h l
    applied None f l = f

    go : (a : Bool) → eqb n.op 1 ≡ a → (b : Bool) → eqb n.op 2 ≡ b → (c : Bool) → eqb n.op 3 ≡ c →
        TermRanked k (cond a (Some (Constant (n.a * 65536 + n.b))) (cond b (Some (Named n.a)) (cond c (Some OwnSize) (applying (operator_with n.op) n.a n.b))))
    go true p b q c s = tt
    go false p true q c s = tt
    go false p false q true s = tt
    go false p false q false s =
        let x = eqb-false n.op 1 p in
        let y = eqb-false n.op 2 q in
        let z = eqb-false n.op 3 s in
        let l : 3 < n.op = omega arith in
        applied (operator_with n.op) (operator_there n.op l r.1) l
