-- What can be put by the rule's own words is what can be put by the tidy reading.
use Rattle.std.proofs.Common.{◌≡◌, ℕ, ◌-◌, Bool, true, false, List, [], ◌∷◌, ◌++◌, length, replicate, sym, ap, ◌∙◌, subst, arith, length-append}
use Rattle.std.proofs.lemmas.List.{append-nil, append_cancel_left}
use lib.ListN.{length-replicate}
use Rattle.rules.specs.declared.items.Item.{Item}
use Rattle.rules.specs.Trace.{Run, items, outcome}
use Rattle.table.specs.Description.{Description}
use Rattle.rules.specs.Tidy.{reading_by}
use Rattle.roundtrip.specs.Own.{own_bits, end_of}
use Rattle.roundtrip.specs.Standing.{gives, ends, head, Fam, Fits}
use Rattle.roundtrip.specs.Writing.{Straight, CanFollow, Written, fresh, put, appended, Ahead}
use Rattle.rules.specs.Growth.{Begins}
use Rattle.roundtrip.specs.Rule.{Neat, MayFollow, PutDown, none, more, RuleLaw, FinishLaw, finished, NewerLaw}
use Rattle.rules.specs.Order.{Bytes}
use Rattle.roundtrip.proofs.Begun.{appended-fits}
use Rattle.rules.proofs.Plain.{plain_reading}
use Rattle.rules.proofs.Tidily.{tidy_law}
use Rattle.rules.proofs.Objects.{copy_law}
use Rattle.rules.proofs.WholeBytes.{bytes}
use Rattle.roundtrip.proofs.Round.{writing_law, leads_more, leads_items, leads_outcome, ends-head, head-ends, head-after, following, moved, start}
use Rattle.roundtrip.proofs.Neatly.{Tidied, ends, stops, passes, shown, cut, tidied_reading}

abbrev Any : ℕ → Unit {0} → Type 0
Any p u = Unit {0}

module _ (d : Description) (B : List Bool) where
  -- both runs hand out an item, and it is neat
  record Paired (p : ℕ) (i : Item) (r s t u : Run (Unit {0})) : Type 0 where
    tidy : head t ≡ gives i r
    plain : head u ≡ gives i s
    neat : Neat B p i
    to : ℕ
    at : Fits d p i B → end_of d i ≡ to
    rest : Tidied d B Any to r s

  by_plain : {p : ℕ} {t u : Run (Unit {0})} → Tidied d B Any p t u → (i : Item) (s : Run (Unit {0})) → head u ≡ gives i s → Neat B p i →
      (r : Run (Unit {0})) × Paired p i r s t u
  unfolding head
  by_plain (Tidied.ends q) i s e n = let y : ◌≡◌ {A = ℕ} 0 1 = cc in let z : ⊥ = omega arith in absurd z
  by_plain stops i s e n = let y : ◌≡◌ {A = ℕ} 0 1 = cc in let z : ⊥ = omega arith in absurd z
  by_plain (passes h) i s e n = let x = by_plain h i s e n in (x.0, record { tidy = x.1.tidy; plain = x.1.plain; neat = x.1.neat; to = x.1.to; at = x.1.at; rest = x.1.rest })
  by_plain (shown {p} {q} {i = j} {t} {u} m f h) i s e n =
      let a : j ≡ i = cc in
      let b : u ≡ s = cc in
      (t, record { tidy = ap (λ k. gives k t) a; plain = e; neat = n; to = q; at = subst (λ k. Fits d p k B → end_of d k ≡ q) a f; rest = subst (Tidied d B Any q t) b h })
  by_plain (cut {p} {i = j} {f} {u} m) i s e n = let a : j ≡ i = cc in absurd (m (subst (Neat B p) (sym a) n))

  by_tidy : {p : ℕ} {t u : Run (Unit {0})} → Tidied d B Any p t u → (i : Item) (r : Run (Unit {0})) → head t ≡ gives i r →
      (s : Run (Unit {0})) × Paired p i r s t u
  unfolding head
  by_tidy (Tidied.ends q) i s e = let y : ◌≡◌ {A = ℕ} 0 1 = cc in let z : ⊥ = omega arith in absurd z
  by_tidy stops i s e = let y : ◌≡◌ {A = ℕ} 0 1 = cc in let z : ⊥ = omega arith in absurd z
  by_tidy (passes h) i s e = let x = by_tidy h i s e in (x.0, record { tidy = x.1.tidy; plain = x.1.plain; neat = x.1.neat; to = x.1.to; at = x.1.at; rest = x.1.rest })
  by_tidy (shown {p} {q} {i = j} {t} {u} m f h) i r e =
      let a : j ≡ i = cc in
      let b : t ≡ r = cc in
      (u, record { tidy = e; plain = ap (λ k. gives k u) a; neat = subst (Neat B p) a m; to = q; at = subst (λ k. Fits d p k B → end_of d k ≡ q) a f; rest = subst (λ k. Tidied d B Any q k u) b h })
  by_tidy (cut {p} {i = j} {f} {u} m) i r e = let y : ◌≡◌ {A = ℕ} 0 1 = cc in let z : ⊥ = omega arith in absurd z

  by_end : {p : ℕ} {t u : Run (Unit {0})} → Tidied d B Any p t u → head u ≡ ends tt → head t ≡ ends tt
  unfolding head
  by_end (Tidied.ends q) e = e
  by_end stops e = e
  by_end (passes h) e = by_end h e
  by_end (shown m f h) e = let y : ◌≡◌ {A = ℕ} 0 1 = cc in let z : ⊥ = omega arith in absurd z
  by_end (cut m) e = let y : ◌≡◌ {A = ℕ} 0 1 = cc in let z : ⊥ = omega arith in absurd z

module _ (d : Description) (st : Straight d) (by : Bytes d) (L : ℕ) where
  record Both (is : List Item) (w : List Bool) : Type 0 where
    one : Fam (Unit {0})
    other : Fam (Unit {0})
    tidy : Ahead d L true is w one
    plain : Ahead d L false is w other
    same : (B : List Bool) → length B ≡ L → Begins w B → Tidied d B Any (length w) (one B) (other B)

  begin : Both [] []
  begin =
      record {
        one = λ B. reading_by d B true;
        other = λ B. reading_by d B false;
        tidy = start d st L true;
        plain = start d st L false;
        same = λ B l b. tidied_reading d B st by;
      }

  go_on : {is : List Item} {w : List Bool} (i : Item) → Both is w → CanFollow d L true is w i → CanFollow d L false is w i → Both (is ++ (i ∷ [])) (w ++ appended d (length w) i)
  go_on {is} {w} i X c c' =
      let P = following d st L true i X.tidy c in
      let Q = following d st L false i X.plain c' in
      let n = i.place - length w in
      let a = length-append w (replicate n false ++ own_bits d i) in
      let b = length-append (replicate n false) (own_bits d i) in
      let e = length-replicate n false in
      let q : end_of d i ≡ length (w ++ (replicate n false ++ own_bits d i)) = omega (arith, P.ahead) in
      record {
        one = P.then;
        other = Q.then;
        tidy = moved d st L true i P.then X.tidy P.ahead P.within P.again P.stands;
        plain = moved d st L false i Q.then X.plain Q.ahead Q.within Q.again Q.stands;
        same = λ B l g.
            let f = appended-fits d w i B P.ahead g in
            let z = by_tidy d B (X.same B l f.0) i (P.then B) (P.again B l f.1) in
            let u : z.0 ≡ Q.then B = same_rest z.0 (Q.then B) i (sym z.1.plain ∙ Q.again B l f.1) in
            subst (λ k. Tidied d B Any k (P.then B) (Q.then B)) (sym (z.1.at f.1) ∙ q) (subst (Tidied d B Any z.1.to (P.then B)) u z.1.rest);
      }
    where
      same_rest : (x y : Run (Unit {0})) (i : Item) → gives i x ≡ gives i y → x ≡ y
      same_rest x y i e = cc

  -- the two ways to say that an item can follow
  by_rule : {is : List Item} {w : List Bool} (i : Item) → Both is w → MayFollow d L is w i → CanFollow d L true is w i × CanFollow d L false is w i
  by_rule {is} {w} i X (B, l, b, k, n) =
      let h = subst (λ r. Begins (is ++ (i ∷ [])) (items r)) (sym (plain_reading d B)) k in
      let x = head-after is (reading_by d B false) (X.other B) i (X.plain.leads B l b) h in
      let z = by_plain d B (X.same B l b) i x.0 x.1 n in
      ((B, l, b, (items z.0, leads_items (leads_more (X.tidy.leads B l b) z.1.tidy))), (B, l, b, h))

  by_reading : {is : List Item} {w : List Bool} (i : Item) → Both is w → CanFollow d L true is w i → MayFollow d L is w i × CanFollow d L false is w i
  by_reading {is} {w} i X (B, l, b, h) =
      let x = head-after is (reading_by d B true) (X.one B) i (X.tidy.leads B l b) h in
      let z = by_tidy d B (X.same B l b) i x.0 x.1 in
      let k : Begins (is ++ (i ∷ [])) (items (reading_by d B false)) = (items z.0, leads_items (leads_more (X.plain.leads B l b) z.1.plain)) in
      ((B, l, b, subst (λ r. Begins (is ++ (i ∷ [])) (items r)) (plain_reading d B) k, z.1.neat), (B, l, b, k))

  from_rule : {is : List Item} {w : List Bool} → PutDown d L is w → Both is w × Written d L true is w
  from_rule none = (begin, fresh)
  from_rule (more i W c) =
      let X = from_rule W in
      let m = by_rule i X.0 c in
      (go_on i X.0 m.0 m.1, put i X.1 m.0)

  from_reading : {is : List Item} {w : List Bool} → Written d L true is w → Both is w × PutDown d L is w
  from_reading fresh = (begin, none)
  from_reading (put i W c) =
      let X = from_reading W in
      let m = by_reading i X.0 c in
      (go_on i X.0 c m.1, more i X.1 m.0)

pub rule_law : RuleLaw
rule_law d ch st L is w = ((λ W. (from_rule d st (bytes d ch) L W).1), (λ W. (from_reading d st (bytes d ch) L W).1))

pub finish_law : FinishLaw
finish_law d ch st L is w W (B, l, b, pe, po) =
    let e = ap items (plain_reading d B) ∙ pe in
    let o = ap outcome (plain_reading d B) ∙ po in
    let X = from_rule d st (bytes d ch) L W in
    let plain = X.0.plain.leads B l b in
    let h = ends-head (X.0.other B) (append_cancel_left is (items (X.0.other B)) [] (sym (leads_items plain) ∙ e ∙ sym (append-nil is))) (sym (leads_outcome plain) ∙ o) in
    let g = head-ends (X.0.one B) (by_end d B (X.0.same B l b) h) in
    let tidy = X.0.tidy.leads B l b in
    let f = (writing_law d st L true is w X.1).finish B l b (leads_items tidy ∙ ap (λ z. is ++ z) g.0 ∙ append-nil is) (leads_outcome tidy ∙ g.1) in
    let t = tidy_law.same d (finished d L w) f.1 in
    record { same = t.0 ∙ f.0; ends = t.1; tidy_same = f.0; tidy_ends = f.1 }

pub newer_law : NewerLaw
newer_law older newer po pn gr st L is w W a =
    let f = finish_law older po st L is w W a in
    let c = copy_law older newer (finished older L w) po pn gr f.tidy_ends in
    (c.0 ∙ f.tidy_same, c.1)
