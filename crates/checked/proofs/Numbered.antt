-- Plain facts of fields that are fine.
use Rattle.std.proofs.Common.{◌≡◌, ℕ, zero, suc, ◌+◌, ◌-◌, ◌<◌, ◌≤◌, Bool, true, false, cond, not, ◌&&◌, eqb, ltb, leb, refl, inl, inr, arith, ltb-true, ne_eqb, eqb-true, leb-true}
use borrow.Author.Tests.{eqb-false}
use Rattle.std.proofs.lemmas.Bool.{not-true, and_parts}
use Rattle.std.proofs.lemmas.Bool.Decides.{leb_tells}
use Rattle.records.specs.Classes.{is_member}
use Rattle.records.specs.declared.counts.Counts.{Counts}
use Rattle.records.specs.declared.records.Class.{Class}
use Rattle.records.specs.declared.records.Extension.{Extension}
use Rattle.records.specs.declared.records.Node.{Node}
use Rattle.fields.specs.Values.{names_one, is_stretch, one_to_sixteen}
use Rattle.fields.specs.Tables.{base_fine, abstract_fine, class_fine, extension_fine}
use Rattle.fields.specs.Nodes.{is_earlier, node_fine}

pub some_number : (v w : ℕ) → (not (eqb v 0) && leb v w) ≡ true → (0 < v) × (v ≤ w)
some_number v w e =
    let k = and_parts (not (eqb v 0)) (leb v w) e in
    let f = eqb-false v 0 (not-true (eqb v 0) k.0) in
    (omega arith, leb-true v w k.1)

earlier : (v n : ℕ) → is_earlier v n ≡ true → (0 < v) × (v < n)
earlier v n e =
    let k = and_parts (not (eqb v 0)) (ltb v n) e in
    let f = eqb-false v 0 (not-true (eqb v 0) k.0) in
    (omega arith, ltb-true v n k.1)

-- a stretch is within its table
stretch_step : (b : Bool) (first number count : ℕ) → eqb number 0 ≡ b → cond b (eqb first 0) (not (eqb first 0) && leb (first + number - 1) count) ≡ true → (first + number ≤ suc count) × (0 < number → 0 < first)
stretch_step true first number count z e =
    let q = eqb-true number 0 z in let r = eqb-true first 0 e in (omega arith, λ h. omega arith)
stretch_step false first number count z e =
    let k = and_parts (not (eqb first 0)) (leb (first + number - 1) count) e in
    let f = eqb-false first 0 (not-true (eqb first 0) k.0) in
    let g = leb-true (first + number - 1) count k.1 in
    (omega arith, λ h. omega arith)

pub stretch : (first number count : ℕ) → is_stretch first number count ≡ true → (first + number ≤ suc count) × (0 < number → 0 < first)
stretch first number count e = stretch_step (eqb number 0) first number count refl e

pub in_table : (first number count : ℕ) → is_stretch first number count ≡ true → (m : ℕ) → first ≤ m → m < first + number → (0 < m) × (m ≤ count)
in_table first number count e m low high =
    let s = stretch first number count e in
    let f = s.1 (omega arith) in
    (omega arith, omega (arith, s.0))

-- the parts of a class's test
pub record ClassParts (counts : Counts) (c : Class) : Type 0 where
  pub base : base_fine counts c ≡ true
  pub rank : one_to_sixteen c.rank ≡ true
  pub lines : is_stretch c.first c.number counts.lines ≡ true

pub class_parts : (counts : Counts) (c : Class) → class_fine counts c ≡ true → ClassParts counts c
class_parts counts c e =
    let o = and_parts (leb c.kind 2 && base_fine counts c && abstract_fine c && leb c.width 16 && one_to_sixteen c.rank) _ e in
    let q = and_parts (leb c.kind 2 && base_fine counts c && abstract_fine c && leb c.width 16) _ o.0 in
    let r = (and_parts (leb c.kind 2 && base_fine counts c && abstract_fine c) _ q.0).0 in
    record {
      base = (and_parts (leb c.kind 2) _ (and_parts (leb c.kind 2 && base_fine counts c) _ r).0).1;
      rank = q.1;
      lines = o.1;
    }

pub no_base : (counts : Counts) (c : Class) → base_fine counts c ≡ true → is_member c ≡ false → c.base ≡ 0
no_base counts c e m = eqb-true c.base 0 (rw m at e)

base_step : (b : Bool) (v count : ℕ) → cond b (leb v count) (eqb v 0) ≡ true → v ≤ count
base_step true v count e = leb-true v count e
base_step false v count e = let z = eqb-true v 0 e in omega arith

pub base_there : (counts : Counts) (c : Class) → base_fine counts c ≡ true → c.base ≤ counts.classes
base_there counts c e = base_step (is_member c) c.base counts.classes e

-- the parts of an extension's test
pub extension_parts : (counts : Counts) (x : Extension) → extension_fine counts x ≡ true → ((0 < x.class) × (x.class ≤ counts.classes)) × (0 < x.number) × (is_stretch x.first x.number counts.lines ≡ true)
extension_parts counts x e =
    let o = and_parts (names_one x.class counts.classes && not (eqb x.number 0)) _ e in
    let q = and_parts (names_one x.class counts.classes) _ o.0 in
    let f = eqb-false x.number 0 (not-true _ q.1) in
    (some_number x.class counts.classes q.0, omega arith, o.1)

-- the parts of a node's test
pub operands : (counts : Counts) (n : ℕ) (x : Node) → node_fine counts n x ≡ true → 3 < x.op → (x.op ≤ 20) × ((0 < x.a) × (x.a < n)) × ((0 < x.b) × (x.b < n))
operands counts n x e h =
    let f = rw (ne_eqb x.op 1 (λ q. omega arith), ne_eqb x.op 2 (λ q. omega arith), ne_eqb x.op 3 (λ q. omega arith)) at e in
    let p = and_parts (leb 4 x.op && leb x.op 20 && is_earlier x.a n) (is_earlier x.b n) f in
    let q = and_parts (leb 4 x.op && leb x.op 20) (is_earlier x.a n) p.0 in
    (leb-true x.op 20 (and_parts (leb 4 x.op) _ q.0).1, earlier x.a n q.1, earlier x.b n p.1)

not_none : (counts : Counts) (n : ℕ) (x : Node) → node_fine counts n x ≡ true → x.op ≡ 0 → ⊥
not_none counts n x e z =
    let f = rw (ne_eqb x.op 1 (λ q. omega arith), ne_eqb x.op 2 (λ q. omega arith), ne_eqb x.op 3 (λ q. omega arith)) at e in
    let p = and_parts (leb 4 x.op && leb x.op 20 && is_earlier x.a n) (is_earlier x.b n) f in
    let q = and_parts (leb 4 x.op && leb x.op 20) (is_earlier x.a n) p.0 in
    let l = leb-true 4 x.op (and_parts (leb 4 x.op) _ q.0).0 in
    omega arith

pub known_kind : (counts : Counts) (n : ℕ) (x : Node) → node_fine counts n x ≡ true → (0 < x.op) × (x.op ≤ 20)
known_kind counts n x e =
    elim (leb_tells x.op 3) [
      | inl t ↦ elim (leb_tells x.op 0) [ inl z ↦ absurd (not_none counts n x e (omega (arith, z.1))) | inr z ↦ (omega (arith, z.1), omega (arith, t.1)) ]
      | inr t ↦ (omega (arith, t.1), (operands counts n x e t.1).0)
    ]

pub name_there : (counts : Counts) (n : ℕ) (x : Node) → node_fine counts n x ≡ true → x.op ≡ 2 → x.a ≤ counts.names
name_there counts n x e h =
    let f = rw (h) at e in
    (some_number x.a counts.names (and_parts (names_one x.a counts.names) _ f).0).1

-- numbers 0 to `count`
pub from_zero : (P : ℕ → Type 0) (count : ℕ) → P 0 → ((n : ℕ) → 0 < n → n ≤ count → P n) → (n : ℕ) → n ≤ count → P n
from_zero P count z h zero l = z
from_zero P count z h (suc n) l = h (suc n) (omega arith) l
