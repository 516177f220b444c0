-- A writing, put by put: what lies ahead of it, over any bits that begin with what is written.
use Rattle.std.proofs.Common.{◌≡◌, ℕ, ◌-◌, ◌≤◌, Bool, false, ◌⊎◌, List, [], ◌∷◌, ◌++◌, length, drop, replicate, sym, refl, ap, ◌∙◌, subst, inl, inr, append_assoc, arith, length-append}
use Rattle.std.proofs.lemmas.List.{append-nil, append_cancel_left}
use Rattle.roundtrip.proofs.Heads.{halted_gives, halted_ends}
use lib.ListN.{length-replicate}
use Rattle.rules.specs.declared.items.Item.{Item}
use Rattle.rules.specs.Trace.{Run, out, pass, stop, done, items, outcome, ended}
use Rattle.table.specs.Description.{Description}
use Rattle.rules.specs.Tidy.{reading_by}
use Rattle.roundtrip.specs.Own.{own_bits, end_of, pending, Sensible}
use Rattle.roundtrip.specs.Standing.{gives, ends, head, Halted, Fam, Zeros, Fits, Leads, here, next, Stands, stuck, quiet, hands}
use Rattle.roundtrip.specs.Writing.{Straight, CanFollow, Written, fresh, put, Writes, WritingLaw, appended, Ahead, Tests, TestLaw}
use Rattle.rules.specs.Growth.{Begins}
use Rattle.roundtrip.proofs.Lifted.{standing_law}
use Rattle.roundtrip.proofs.Begun.{appended-fits, pending_long, pending-fits, overlay_long, overlay_fits, zeros_after}

pub leads_more : {A : Type 0} {is : List Item} {t u : Run A} {i : Item} {r : Run A} → Leads is t u → head u ≡ gives i r → Leads (is ++ (i ∷ [])) t r
leads_more here e = next e here
leads_more (next q l) e = next q (leads_more l e)

items-head : {A : Type 0} (t : Run A) (i : Item) (r : Run A) → head t ≡ gives i r → items t ≡ i ∷ items r
unfolding head items
items-head (out j t) i r e = cc
items-head (pass t) i r e = items-head t i r e
items-head (stop f) i r e = let y : ◌≡◌ {A = ℕ} 0 1 = cc in let z : ⊥ = omega arith in absurd z
items-head (done a) i r e = let y : ◌≡◌ {A = ℕ} 0 1 = cc in let z : ⊥ = omega arith in absurd z

outcome-head : {A : Type 0} (t : Run A) (i : Item) (r : Run A) → head t ≡ gives i r → outcome t ≡ outcome r
unfolding head outcome
outcome-head (out j t) i r e = let q : t ≡ r = cc in ap outcome q
outcome-head (pass t) i r e = outcome-head t i r e
outcome-head (stop f) i r e = let y : ◌≡◌ {A = ℕ} 0 1 = cc in let z : ⊥ = omega arith in absurd z
outcome-head (done a) i r e = let y : ◌≡◌ {A = ℕ} 0 1 = cc in let z : ⊥ = omega arith in absurd z

head-items : {A : Type 0} (t : Run A) (i : Item) (js : List Item) → items t ≡ i ∷ js → (r : Run A) × (head t ≡ gives i r)
unfolding head items
head-items (out j t) i js e = (t, let q : j ≡ i = cc in ap (λ x. gives x t) q)
head-items (pass t) i js e = head-items t i js e
head-items (stop f) i js e = let y : ◌≡◌ {A = ℕ} 0 1 = cc in let z : ⊥ = omega arith in absurd z
head-items (done a) i js e = let y : ◌≡◌ {A = ℕ} 0 1 = cc in let z : ⊥ = omega arith in absurd z

pub leads_items : {A : Type 0} {is : List Item} {t u : Run A} → Leads is t u → items t ≡ is ++ items u
leads_items here = refl
leads_items (next {i} {is} {t} {r} {u} e l) = items-head t i r e ∙ ap (λ x. i ∷ x) (leads_items l)

pub leads_outcome : {A : Type 0} {is : List Item} {t u : Run A} → Leads is t u → outcome t ≡ outcome u
leads_outcome here = refl
leads_outcome (next {i} {is} {t} {r} {u} e l) = outcome-head t i r e ∙ leads_outcome l

-- what is handed out after the first items
pub head-after : {A : Type 0} (is : List Item) (t u : Run A) (i : Item) → Leads is t u → Begins (is ++ (i ∷ [])) (items t) → (r : Run A) × (head u ≡ gives i r)
head-after is t u i l (zs, e) =
    head-items u i zs (append_cancel_left is (items u) (i ∷ zs) (sym (leads_items l) ∙ e ∙ append_assoc is (i ∷ []) zs))

-- how a run that hands out no more ends
pub ends-head : (t : Run (Unit {0})) → items t ≡ [] → outcome t ≡ ended → head t ≡ ends tt
unfolding head items outcome
ends-head (out j t) e o = let y : ◌≡◌ {A = ℕ} 0 1 = cc in let z : ⊥ = omega arith in absurd z
ends-head (pass t) e o = ends-head t e o
ends-head (stop f) e o = let y : ◌≡◌ {A = ℕ} 0 1 = cc in let z : ⊥ = omega arith in absurd z
ends-head (done a) e o = refl

pub head-ends : (t : Run (Unit {0})) → head t ≡ ends tt → (items t ≡ []) × (outcome t ≡ ended)
unfolding head items outcome
head-ends (out j t) e = let y : ◌≡◌ {A = ℕ} 0 1 = cc in let z : ⊥ = omega arith in absurd z
head-ends (pass t) e = head-ends t e
head-ends (stop f) e = let y : ◌≡◌ {A = ℕ} 0 1 = cc in let z : ⊥ = omega arith in absurd z
head-ends (done a) e = (refl, refl)

module _ (d : Description) (st : Straight d) (L : ℕ) (tidy : Bool) where
  -- an item that is handed out over some bits
  pub record Put (p : ℕ) (F : Fam (Unit {0})) (i : Item) : Type 0 where
    pub then : Fam (Unit {0})
    pub ahead : p ≤ i.place
    pub within : end_of d i ≤ L
    pub sensible : Sensible d i
    pub again : (B : List Bool) → length B ≡ L → Fits d p i B → head (F B) ≡ gives i (then B)
    pub stands : Stands d L (λ (u : Unit {0}). L) L (end_of d i) then

  puts : {p : ℕ} (F : Fam (Unit {0})) → Stands d L (λ (u : Unit {0}). L) L p F → (B : List Bool) (i : Item) (r : Run (Unit {0})) → length B ≡ L → head (F B) ≡ gives i r → Put p F i
  puts F (stuck s) B i r l e = absurd (halted_gives (head (F B)) i r (s B l) e)
  puts {p} F (quiet a le m any ok) B i r l e = go (any B l)
    where
      go : (Halted (head (F B)) ⊎ (head (F B) ≡ ends a)) → Put p F i
      go (inl z) = absurd (halted_gives (head (F B)) i r z e)
      go (inr q) = let y : ◌≡◌ {A = ℕ} 0 1 = cc in let z : ⊥ = omega arith in absurd z
  puts F (hands K nev step rest) B i r l e =
      let s = step B i r l e in
      record { then = K i; ahead = s.0; within = s.1; sensible = s.2; again = s.3; stands = rest B i r l e }

  finishes : {p : ℕ} (F : Fam (Unit {0})) → Stands d L (λ (u : Unit {0}). L) L p F → (B : List Bool) → length B ≡ L → head (F B) ≡ ends tt →
      (C : List Bool) → length C ≡ L → Zeros C p L → head (F C) ≡ ends tt
  finishes F (stuck s) B l e C m z = absurd (halted_ends (head (F B)) tt (s B l) e)
  finishes F (quiet a le n any ok) B l e C m z = ok C m z
  finishes F (hands K nev step rest) B l e C m z = absurd (nev B l tt e)

  pub following : {is : List Item} {w : List Bool} {F : Fam (Unit {0})} (i : Item) (R : Ahead d L tidy is w F) → CanFollow d L tidy is w i → Put (length w) F i
  following {is} {w} {F} i R (B, l, b, h) =
      let x = head-after is (reading_by d B tidy) (F B) i (R.leads B l b) h in
      puts F R.stands B i x.0 l x.1

  pub moved : {is : List Item} {w : List Bool} {F : Fam (Unit {0})} (i : Item) (G : Fam (Unit {0})) → Ahead d L tidy is w F → length w ≤ i.place → end_of d i ≤ L →
      ((B : List Bool) → length B ≡ L → Fits d (length w) i B → head (F B) ≡ gives i (G B)) →
      Stands d L (λ (u : Unit {0}). L) L (end_of d i) G →
      Ahead d L tidy (is ++ (i ∷ [])) (w ++ appended d (length w) i) G
  moved {is} {w} {F} i G R le within again st =
      let n = i.place - length w in
      let a = length-append w (replicate n false ++ own_bits d i) in
      let b = length-append (replicate n false) (own_bits d i) in
      let e = length-replicate n false in
      let q : end_of d i ≡ length (w ++ (replicate n false ++ own_bits d i)) = omega arith in
      record {
        short = omega arith;
        stands = subst (λ p. Stands d L (λ (u : Unit {0}). L) L p G) q st;
        leads = λ B l g.
            let f = appended-fits d w i B le g in
            leads_more (R.leads B l f.0) (again B l f.1);
      }

  pub start : Ahead d L tidy [] [] (λ B. reading_by d B tidy)
  start = record { short = omega arith; stands = standing_law d st L tidy; leads = λ B l b. here }

  reached : {is : List Item} {w : List Bool} → Written d L tidy is w → (F : Fam (Unit {0})) × Ahead d L tidy is w F
  reached fresh = ((λ B. reading_by d B tidy), start)
  reached (put {is} {w} i W c) =
      let R = reached W in
      let P = following i R.1 c in
      (P.then, moved i P.then R.1 P.ahead P.within P.again P.stands)

  over_guess : {is : List Item} {w : List Bool} {F : Fam (Unit {0})} (i : Item) → Ahead d L tidy is w F → Put (length w) F i →
      (length (w ++ drop (length w) (pending d L i)) ≡ L) × Begins (is ++ (i ∷ [])) (items (reading_by d (w ++ drop (length w) (pending d L i)) tidy))
  over_guess {is} {w} {F} i R P =
      let C = w ++ drop (length w) (pending d L i) in
      let long : length C ≡ L = overlay_long w (pending d L i) (subst (λ n. length w ≤ n) (sym (pending_long d L i)) R.short) ∙ pending_long d L i in
      let f = overlay_fits d w (pending d L i) i P.ahead (pending-fits d L i (length w) P.within) in
      (long, (items (P.then C), leads_items (leads_more (R.leads C long (drop (length w) (pending d L i), refl)) (P.again C long f))))

  tests : (is : List Item) (w : List Bool) (F : Fam (Unit {0})) → Ahead d L tidy is w F → Tests d L tidy is w F
  tests is w F R =
      record {
        accepts = λ i c. let P = following i R c in (P.then (pending d L i), P.again (pending d L i) (pending_long d L i) (pending-fits d L i (length w) P.within));
        refuses = λ i r e.
            let P = puts F R.stands (pending d L i) i r (pending_long d L i) e in
            let g = over_guess i R P in
            (w ++ drop (length w) (pending d L i), g.0, (drop (length w) (pending d L i), refl), g.1);
        moves = λ i G c again st. let P = following i R c in moved i G R P.ahead P.within again st;
      }

  writes : (is : List Item) (w : List Bool) (F : Fam (Unit {0})) → Ahead d L tidy is w F → Writes d L tidy is w
  writes is w F R =
      record {
        short = R.short;
        kept = λ B l b. (items (F B), leads_items (R.leads B l b));
        guess = λ i c. let P = following i R c in (P.ahead, P.within, P.sensible, (over_guess i R P).1);
        finish = λ B l b e o.
            let C = w ++ replicate (L - length w) false in
            let x = length-append w (replicate (L - length w) false) in
            let y = length-replicate (L - length w) false in
            let s = R.short in
            let long : length C ≡ L = omega arith in
            let h : head (F B) ≡ ends tt =
            ends-head (F B) (append_cancel_left is (items (F B)) [] (sym (leads_items (R.leads B l b)) ∙ e ∙ sym (append-nil is))) (sym (leads_outcome (R.leads B l b)) ∙ o) in
            let g = head-ends (F C) (finishes F R.stands B l h C long (zeros_after w (L - length w) L (omega arith))) in
            let m = R.leads C long (replicate (L - length w) false, refl) in
            (leads_items m ∙ ap (λ z. is ++ z) g.0 ∙ append-nil is, leads_outcome m ∙ g.1);
      }

pub writing_law : WritingLaw
writing_law d st L tidy is w W = let R = reached d st L tidy W in writes d st L tidy is w R.0 R.1

pub test_law : TestLaw
test_law d st L tidy = (start d st L tidy, tests d st L tidy)
