-- A walk keeps within its windows.
use Rattle.std.proofs.Common.{◌≡◌, ℕ, suc, ◌+◌, ◌≤◌, min, Bool, true, false, cond, List, [], ◌∷◌, length, get_or, Some, None, Ok, Err, Option, sym, ap, ◌∙◌, subst, arith}
use Rattle.rules.specs.declared.items.Item.{Item}
use Rattle.rules.specs.declared.items.Kind.{Kind}
use Rattle.rules.specs.declared.items.Kind.TheVariants.{Value, Open, Close}
use Rattle.records.specs.declared.records.Class.{Class}
use Rattle.records.specs.Classes.{is_base}
use Rattle.rules.specs.Steps.{id_width}
use Rattle.std.proofs.lemmas.Bool.{cond_both}
use Rattle.steps.specs.Took.{Took}
use Rattle.objects.specs.declared.inside.Inside.{Inside}
use Rattle.objects.specs.Passed.{passed}
use Rattle.objects.specs.Likewise.{Alike, reach}
use Rattle.objects.proofs.Alikes.{alike_self}
use Rattle.reading.specs.declared.open_object.OpenObject.{OpenObject}
use Rattle.reading.specs.declared.walk.Walk.{Walk}
use Rattle.reading.specs.Pushes.{around}
use Rattle.reading.specs.Walks.{Answer, no_object, objects_of, from_of, looked_to, sight, Likewise, Enclosed, EnclosedOnce, EnclosedWalk, Within, Handed, Bounded, OwnEnds, walk_ahead, Sound, Turned, Walked, Stepped}
use Rattle.table.specs.Description.{Description}
use Rattle.rules.specs.Trace.{Run}
use Rattle.reading.proofs.Stepping.{innermost, answered_later}

pub begun_from : (w : Walk) → w.started ≡ true → from_of w ≡ w.place
begun_from w e = ap (λ b. cond b w.place 0) e

pub not_begun_from : (w : Walk) → w.started ≡ false → from_of w ≡ 0
not_begun_from w e = ap (λ b. cond b w.place 0) e

pub begun_enclosed : (L : ℕ) (w : Walk) → w.started ≡ true → EnclosedWalk L w → Enclosed L (objects_of w) w.place
begun_enclosed L w e = subst (λ b. EnclosedOnce b L (objects_of w) w.place) e

pub likewise_long : (bits B : List Bool) (p : ℕ) (r : Option Answer) (w : Walk) → Likewise bits B p r w → length bits ≡ length B
likewise_long bits B p None w l = l.long
likewise_long bits B p (Some (Ok (Some i))) w l = l.long
likewise_long bits B p (Some (Ok None)) w l = l.long
likewise_long bits B p (Some (Err f)) w l = l.long

pub value_alike : (bits B : List Bool) (p : ℕ) (i : Item) (q : ℕ) → i.kind ≡ Value → Alike bits B p (sight i.kind p i.place i.length q)
    → Alike bits B p (min (i.place + i.length) (p + reach))
value_alike bits B p i q k = subst (λ (x : Kind). Alike bits B p (sight x p i.place i.length q)) k

-- a step looks no further than its item's bits and those passed over reach
pub sight_less : (k : Kind) (p place length after : ℕ) → p ≤ looked_to k place length after → sight k p place length after ≤ looked_to k place length after
sight_less Value p place length after h = omega arith
sight_less Open p place length after h = omega arith
sight_less Close p place length after h = h

-- an id is as narrow as its class says
pub id_narrow : (c : Class) → c.width ≤ 16 → id_width c ≤ 65527
id_narrow c h = cond_both (is_base c) c.width 0 (λ x. x ≤ 65527) (λ e. omega arith) (λ e. omega arith)

pub enclosed_less : (L : ℕ) (os : List OpenObject) (p q : ℕ) → q ≤ p → Enclosed L os p → Enclosed L os q
enclosed_less L [] p q l h = omega arith
enclosed_less L (a ∷ os) p q l h = (omega (arith, h.0), h.1)

pub enclosed_end : (L : ℕ) (os : List OpenObject) (p : ℕ) → Enclosed L os p → p ≤ L
enclosed_end L [] p h = h
enclosed_end L (a ∷ os) p h = let k = enclosed_end L os a.opened.about.window.end h.1 in omega (arith, h.0)

-- a step does as it did over the same bits, so the walk after it is sound
same_likewise : (bits : List Bool) (p : ℕ) (r : Option Answer) (w : Walk) → Likewise bits bits p r w
same_likewise bits p None w = alike_self
same_likewise bits p (Some (Ok (Some i))) w = alike_self
same_likewise bits p (Some (Ok None)) w = alike_self
same_likewise bits p (Some (Err f)) w = alike_self

turned_sound : (d : Description) (bits : List Bool) (from : Run (Unit {0})) (r : Option Answer) (w : Walk) → Turned d bits from r w → Sound d w
turned_sound d bits from None w h = h.sound
turned_sound d bits from (Some (Ok (Some i))) w h = h.sound
turned_sound d bits from (Some (Ok None)) w h = h.sound
turned_sound d bits from (Some (Err f)) w h = h.sound

pub stepped_sound : (d : Description) (bits : List Bool) (v : Walk) (r : Option Answer) (w : Walk) → Stepped d bits v r w → Sound d w
stepped_sound d bits v r w h = turned_sound d bits (walk_ahead d bits v) r w (h.moved bits (same_likewise bits (from_of v) r w))

-- the same step, from what lies ahead in other words
pub walked_from : (d : Description) (bits : List Bool) (p q : ℕ) {from : List Bool → Run (Unit {0})} (to : List Bool → Run (Unit {0})) {inside within : Type 0} (r : Answer) (w : Walk)
    → p ≡ q → ((B : List Bool) → length bits ≡ length B → (n : ℕ) × (from B ≡ passed n (to B))) → (inside → within)
    → Walked d bits q to within (Some r) w → Walked d bits p from inside (Some r) w
walked_from d bits p q to r w e same goes h =
    record {
      moved = λ B l.
          let s = same B (likewise_long bits B p (Some r) w l) in
          answered_later d B (to B) s.0 r w s.1 (h.moved B (subst (λ n. Likewise bits B n (Some r) w) e l));
      bound = λ k. subst (λ n. Bounded (length bits) n (Some r) w) (sym e) (h.bound (goes k));
      ends = λ st. subst (λ n. OwnEnds d bits n (Some r) w) (sym e) (h.ends st);
    }

-- an item that is no value, where the walk then stands in its windows
pub handed_other : (L p : ℕ) (i : Item) (k : Kind) (w : Walk) → i.kind ≡ k → looked_to k i.place i.length w.place ≡ w.place
    → p ≤ i.place → i.place ≤ w.place → w.started ≡ true → Enclosed L (objects_of w) w.place → Handed L p i w
handed_other L p i k w e t a b s h =
    let x : looked_to i.kind i.place i.length w.place ≡ w.place = subst (λ (y : Kind). looked_to y i.place i.length w.place ≡ w.place) (sym e) t in
    let l = enclosed_end L (objects_of w) w.place h in
    record { within = record { begun = s; ahead = omega arith; enclosed = h }; ahead = a; kept = b; most = omega arith; end = omega arith }

-- a step inside the innermost object, number i, whose window is seen to reach to an end
module _ (L : ℕ) (w : Walk) (i : ℕ) (e : min w.depth 16 ≡ suc i) (h : Enclosed L (objects_of w) w.place) (it : OpenObject) (is : it ≡ get_or w.objects i no_object) where
  in_it : Enclosed L (it ∷ around w.objects i) w.place
  in_it = subst (λ (os : List OpenObject). Enclosed L os w.place) (innermost w i e ∙ ap (λ (x : OpenObject). x ∷ around w.objects i) (sym is)) h

  -- the same place, with another inside of the innermost object
  pub enclosed_still : (v : Walk) (j : Inside) → objects_of v ≡ record { opened = it.opened; inside = j } ∷ around w.objects i → Enclosed L (objects_of v) w.place
  enclosed_still v j objects = subst (λ (os : List OpenObject). Enclosed L os w.place) (sym objects) in_it

  module _ (end : ℕ) (cut : end ≡ min it.opened.about.window.end L) where
    pub in_cut : w.place ≤ end
    in_cut = let x = enclosed_end L (objects_of w) w.place h in omega (arith, in_it.0, cut)

    -- the place after the object
    pub left_enclosed : (b : Bool) (q : ℕ) → q ≡ cond b w.place end → (w.place ≤ q) × Enclosed L (around w.objects i) q
    left_enclosed true q k = (omega arith, enclosed_less L (around w.objects i) it.opened.about.window.end q (omega (arith, in_it.0)) in_it.1)
    left_enclosed false q k =
        let z = in_cut in
        (omega arith, enclosed_less L (around w.objects i) it.opened.about.window.end q (omega (arith, cut)) in_it.1)

    module _ (v : Walk) (j : Inside) (objects : objects_of v ≡ record { opened = it.opened; inside = j } ∷ around w.objects i) where
      -- an object that begins does so within the window
      pub enclosed_window : Enclosed L (objects_of v) end
      enclosed_window = subst (λ (os : List OpenObject). Enclosed L os end) (sym objects) (omega (arith, cut), in_it.1)

      module _ (started : v.started ≡ true) where
        pub quiet_within : (w.place ≤ v.place) × (v.place ≤ end) → Within L w.place v
        quiet_within b =
            record { begun = started; ahead = b.0; enclosed = enclosed_less L (objects_of v) end v.place b.1 enclosed_window }

        pub give_within : (x : Item) → x.kind ≡ Value → Took w.place end x.place x.length v.place → Handed L w.place x v
        give_within x k t =
            let y : looked_to x.kind x.place x.length v.place ≡ x.place + x.length = ap (λ (z : Kind). looked_to z x.place x.length v.place) k in
            record {
              within = quiet_within (omega (arith, t.ahead, t.kept), omega (arith, t.most, t.within));
              ahead = t.ahead;
              kept = t.kept;
              most = omega (arith, t.most);
              end = omega (arith, t.within, cut);
            }
