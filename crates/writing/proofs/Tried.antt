-- Trying an item: one trial decides for all bits.
use Rattle.std.proofs.Common.{◌≡◌, ℕ, suc, ◌+◌, ◌-◌, ◌*◌, ◌<◌, ◌≤◌, Bool, true, false, not, ◌&&◌, ◌||◌, eqb, leb, ◌⊎◌, List, [], ◌∷◌, ◌++◌, length, take, drop, get_or, sym, refl, ap, ◌∙◌, subst, inl, inr, arith}
use native.Mathlib.Decide.{dec_le}
use Rattle.std.proofs.lemmas.Bool.Decides.{nat_tests}
use Rattle.std.proofs.lemmas.List.{length-append, length-take, length-drop}
use Rattle.bits.specs.Bits.{bits_of, bits_all, limited, part, length-bits_all}
use Rattle.table.specs.Description.{Description}
use Rattle.rules.specs.declared.items.Item.{Item}
use Rattle.rules.specs.declared.items.Kind.{Kind}
use Rattle.rules.specs.declared.items.Kind.TheVariants.{Value, Open, Close}
use Rattle.rules.specs.Trace.{Run}
use Rattle.roundtrip.specs.Own.{own_bits, end_of, pending, Sensible}
use Rattle.roundtrip.specs.Rule.{Closes}
use Rattle.roundtrip.specs.Standing.{Head, Halted, head, gives, ends, Fam, Has, Fits, Stands, stuck, quiet, hands}
use Rattle.roundtrip.specs.Writing.{appended}
use Rattle.roundtrip.proofs.Begun.{pending_long, pending-fits}
use Rattle.roundtrip.proofs.Heads.{halted_gives}
use Rattle.pending.specs.Trial.{trial_bits}
use Rattle.pending.specs.Store.{can_store, with_part}
use Rattle.pending.proofs.Trials.{trial_pending, pending-part}
use Rattle.objects.specs.Likewise.{Alike}
use Rattle.objects.proofs.Alikes.{alike_self}
use Rattle.reading.specs.declared.walk.Walk.{Walk}
use Rattle.reading.specs.Offers.{Takes, Declines}
use Rattle.reading.specs.Walks.{objects_of, looked_to, EnclosedOnce, EnclosedWalk, OwnEnd, walk_ahead}
use Rattle.reading.proofs.Enclosing.{begun_from}
use Rattle.writing.specs.declared.state.Writing.{Writing}
use Rattle.writing.specs.Calls.{description_of, ahead_of, MayCome}
use Rattle.writing.specs.Ready.{Ready}
use Rattle.writing.specs.Tries.{is_close, is_neat}
use Rattle.writing.proofs.Readies.{straight_of, readable_of, enclosed_of, place_of, short_of, stands_of}

-- an item that comes next over some bits of the length comes next over its guess
record Follows (d : Description) (L p : ℕ) (F : Fam (Unit {0})) (i : Item) : Type 0 where
  forward : p ≤ i.place
  within : end_of d i ≤ L
  sensible : Sensible d i
  guess : (r : Run (Unit {0})) × (head (F (pending d L i)) ≡ gives i r)

not_both : (h : Head (Unit {0})) (a : Unit {0}) (i : Item) (r : Run (Unit {0})) → Halted h ⊎ (h ≡ ends a) → h ≡ gives i r → ⊥
not_both h a i r (inl z) e = halted_gives h i r z e
not_both h a i r (inr z) e = let both = sym z ∙ e in let y : ◌≡◌ {A = ℕ} 0 1 = cc in omega arith

follows : (d : Description) (L : ℕ) {end : Unit {0} → ℕ} {most p : ℕ} {F : Fam (Unit {0})} (i : Item) → Stands d L end most p F
    → (B : List Bool) → length B ≡ L → (r : Run (Unit {0})) → head (F B) ≡ gives i r → Follows d L p F i
follows d L {p = p} {F = F} i (stuck h) B l r e = absurd (halted_gives (head (F B)) i r (h B l) e)
follows d L {p = p} {F = F} i (quiet a x y h k) B l r e = absurd (not_both (head (F B)) a i r (h B l) e)
follows d L {p = p} {F = F} i (hands K never h after) B l r e =
    let x = h B i r l e in
    record {
      forward = x.0;
      within = x.1;
      sensible = x.2;
      guess = (K i (pending d L i), x.3 (pending d L i) (pending_long d L i) (pending-fits d L i p x.1));
    }

-- the same bits at a place
has_same : (B C : List Bool) (xs : List Bool) (q k : ℕ) → Has B q xs → Has C q xs → q ≤ k → k < q + length xs → get_or B k false ≡ get_or C k false
has_same B C [] q k b c h l = absurd (omega arith)
has_same B C (x ∷ xs) q k b c h l =
    elim (dec_le (suc q) k) [
      | yes m ↦ has_same B C xs (suc q) k b.1 c.1 m (omega arith)
      | no m ↦ (let e : q ≡ k = omega arith in subst (λ n. get_or B n false ≡ get_or C n false) e (b.0 ∙ sym c.0))
    ]

fits_alike : (d : Description) (p : ℕ) (i : Item) (B C : List Bool) → length B ≡ length C → Fits d p i B → Fits d p i C → Alike B C p (end_of d i)
fits_alike d p i B C long b c =
    record {
      long = long;
      agree = λ k h l.
          elim (dec_le i.place k) [
            | yes m ↦ has_same B C (own_bits d i) i.place k b.1 c.1 m l
            | no m ↦ b.0 k h (omega arith) ∙ sym (c.0 k h (omega arith))
          ];
    }

neat_near : (k : Kind) (x p : ℕ) (class : ℕ) → (not (eqb class 0) && (not (is_close k) || leb x (p + 7))) ≡ true → Closes k → x ≤ p + 7
neat_near Close x p class e c = grind (arith, nat_tests)
neat_near Value x p class e c = absurd c
neat_near Open x p class e c = absurd c

module _ (w : Writing) (i : Item) where
  abbrev d : Description
  d = description_of w

  abbrev guess : List Bool
  guess = pending d w.total i

  pub guessed : (width value : ℕ) → bits_of width value ≡ own_bits d i → limited (trial_bits w.total i.place width value) ≡ guess
  guessed width value e = trial_pending d i w.total i.place width value (short_of w) refl e

  follow : MayCome w i → Follows d w.total w.written (ahead_of w) i
  follow (B, l, r, e, neat) = follows d w.total i (stands_of w) B l r e

  pub not_sensible : (Sensible d i → ⊥) → MayCome w i → ⊥
  not_sensible none m = let f = follow m in none f.sensible

  pub not_neat : is_neat i w.written ≡ false → MayCome w i → ⊥
  not_neat e (B, l, r, h, neat) = go i.kind (λ c. neat.near c) e
    where
      go : (k : Kind) → (Closes k → i.place ≤ w.written + 7) → (not (eqb i.class 0) && (not (is_close k) || leb i.place (w.written + 7))) ≡ false → ⊥
      go Value near t = neat.known (grind (arith, nat_tests))
      go Open near t = neat.known (grind (arith, nat_tests))
      go Close near t = let n = near tt in neat.known (grind (arith, nat_tests))

  module _ (x : Walk) (declines : Declines d guess w.walk i x) where
    pub not_next : MayCome w i → ⊥
    not_next m = let g = (follow m).guess in declines.other g.0 g.1

    pub ready_still : Ready d w.total w.written x
    ready_still =
        record {
          short = short_of w;
          straight = straight_of w;
          readable = readable_of w;
          sound = declines.resumes.sound;
          enclosed = declines.resumes.enclosed w.total (enclosed_of w);
          place = declines.resumes.from ∙ place_of w;
        }

  module _ (x : Walk) (takes : Takes d guess w.walk i x) where
    came_next : head (ahead_of w guess) ≡ gives i (walk_ahead d guess x)
    came_next = takes.next guess alike_self

    facts : Follows d w.total w.written (ahead_of w) i
    facts = follows d w.total i (stands_of w) guess (pending_long d w.total i) (walk_ahead d guess x) came_next

    pub goes_forward : w.written ≤ i.place
    goes_forward = facts.forward

    pub lies_within : end_of d i ≤ w.total
    lies_within = facts.within

    guess_fits : Fits d w.written i guess
    guess_fits = pending-fits d w.total i w.written lies_within

    own : OwnEnd d i x
    own = takes.ends (straight_of w) (subst (λ p. Fits d p i guess) (sym (place_of w)) guess_fits)

    pub may_come : is_neat i w.written ≡ true → MayCome w i
    may_come e = (
      guess,
      pending_long d w.total i,
      walk_ahead d guess x,
      came_next,
      record {
        known = λ z. (let y : eqb i.class 0 ≡ true = grind (arith, nat_tests) in not_known y e);
        near = λ c. neat_near i.kind i.place w.written i.class e c;
        zeros = λ c. guess_fits.0;
      },
    )
      where
        not_known : eqb i.class 0 ≡ true → is_neat i w.written ≡ true → ⊥
        not_known y e = let z : ◌≡◌ {A = Bool} false true = sym (ap (λ b. not b && (not (is_close i.kind) || leb i.place (w.written + 7))) y) ∙ e in let o : ◌≡◌ {A = ℕ} 0 1 = cc in omega arith

    pub goes_on : (B : List Bool) → length B ≡ w.total → Fits d w.written i B → head (ahead_of w B) ≡ gives i (walk_ahead d B x)
    goes_on B l f =
        takes.next B
        (subst (λ p. Alike guess B p (looked_to i.kind i.place i.length x.place)) (sym (place_of w))
        (subst (Alike guess B w.written) (sym own.looked) (fits_alike d w.written i guess B (pending_long d w.total i ∙ sym l) guess_fits f)))

    pub ready_then : (end : ℕ) → end ≡ end_of d i → Ready d w.total end x
    ready_then end e =
        let h = takes.handed.within in
        let long = pending_long d w.total i in
        record {
          short = short_of w;
          straight = straight_of w;
          readable = readable_of w;
          sound = takes.sound;
          enclosed = subst (λ n. EnclosedWalk n x) long (subst (λ (b : Bool). EnclosedOnce b (length guess) (objects_of x) x.place) (sym h.begun) h.enclosed);
          place = begun_from x h.begun ∙ own.after ∙ sym e;
        }

    pub put_down : (old src : List Bool) (end : ℕ) → src ≡ guess → end ≡ end_of d i
        → with_part old src w.written end ≡ take w.written old ++ (appended d w.written i ++ drop (end_of d i) old)
    unfolding with_part
    put_down old src end g e =
        (λ t. take w.written old ++ (part (g t) w.written (e t - w.written) ++ drop (e t) old))
        ∙ ap (λ (m : List Bool). take w.written old ++ (m ++ drop (end_of d i) old)) (pending-part d i w.total w.written goes_forward lies_within)

-- what lies in the source and in the bytes is stored
pub can_be_stored : (bits bytes from to : ℕ) → from ≤ to → to ≤ bits → to ≤ bytes * 8 → can_store bits bytes from to ≡ true
can_be_stored bits bytes from to h k l = grind (arith, nat_tests)

-- bytes of as many bits are as many
pub same_long : (xs ys : List ℕ) → length (bits_all 8 xs) ≡ length (bits_all 8 ys) → length xs ≡ length ys
same_long xs ys e = let a = length-bits_all 8 xs in let b = length-bits_all 8 ys in omega arith

part_long : (l s : List Bool) (from to : ℕ) → from ≤ to → to ≤ length s → to ≤ length l → length (with_part l s from to) ≡ length l
unfolding with_part
part_long l s from to h k m =
    let a = length-append (take from l) (part s from (to - from) ++ drop to l) in
    let b = length-append (part s from (to - from)) (drop to l) in
    let x = length-take from l in
    let y = length-take (to - from) (drop from s) in
    let z = length-drop from s in
    let v = length-drop to l in
    omega arith

-- bytes into which bits were stored are as many as before
pub stored_long : (xs ys : List ℕ) (s : List Bool) (from to : ℕ) → from ≤ to → to ≤ length s → to ≤ length ys * 8 → bits_all 8 xs ≡ with_part (bits_all 8 ys) s from to → length xs ≡ length ys
stored_long xs ys s from to h k m e =
    let b = length-bits_all 8 ys in
    same_long xs ys (ap length e ∙ part_long (bits_all 8 ys) s from to h k (omega arith))
