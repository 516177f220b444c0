-- The fields of nodes: each has one of its values, and names records that are there.
use Rattle.std.specs.Prelude.{Bool, true, cond, not, ◌&&◌, ℕ, eqb, leb, ltb}
use Rattle.records.specs.declared.counts.Counts.{Counts}
use Rattle.records.specs.declared.records.Node.{Node}
use Rattle.fields.specs.Values.{names_one}

-- the kinds of node
abbrev pub is_constant : Node → Bool
is_constant x = eqb x.op 1

abbrev pub takes_name : Node → Bool
takes_name x = eqb x.op 2

abbrev pub is_size : Node → Bool
is_size x = eqb x.op 3

-- an operator on two nodes
abbrev pub is_operator : Node → Bool
is_operator x = leb 4 x.op

-- v is a node before node n
abbrev pub is_earlier : (v n : ℕ) → Bool
is_earlier v n = not (eqb v 0) && ltb v n

-- node number n: a constant, a name, the size, or an operator, of which 20 is the last, on two earlier nodes
abbrev pub node_fine : Counts → ℕ → Node → Bool
node_fine counts n x =
    cond (is_constant x) true
    (cond (takes_name x) (names_one x.a counts.names && eqb x.b 0)
    (cond (is_size x) (eqb x.a 0 && eqb x.b 0)
    (is_operator x && leb x.op 20 && is_earlier x.a n && is_earlier x.b n)))
