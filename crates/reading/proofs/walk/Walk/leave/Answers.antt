use Rattle.std.proofs.Common.{◌≡◌, ℕ, ◌-◌, ◌≤◌, min, Bool, true, false, cond, eqb, List, ◌∷◌, length, get_or, set, sym, refl, ap, ◌∙◌, subst, add-zero, arith, to_z-of_z, w64, SFits, rules}
use Rattle.std.proofs.lemmas.List.{get_or_default}
use Rattle.rules.specs.declared.items.Item.{Item}
use Rattle.table.specs.Description.{Description}
use Rattle.rules.specs.declared.items.Kind.{Kind}
use Rattle.rules.specs.declared.items.Kind.TheVariants.{Close}
use Rattle.roundtrip.specs.Own.{end_of}
use Rattle.rules.specs.Trace.{out}
use Rattle.rules.specs.Reading.{close_item, write}
use Rattle.values.specs.Names.{named_by}
use Rattle.reading.specs.declared.open_object.Opened.{Opened}
use Rattle.objects.specs.Ahead.{inner_of, with_names, state}
use Rattle.objects.specs.Passed.{passed}
use Rattle.reading.specs.Pushes.{around}
use Rattle.reading.specs.declared.walk.Walk.{Walk}
use Rattle.reading.specs.Walks.{no_object, rest, rest_from, received, AllFit, Enclosed, looked_to, OwnEnd}
use Rattle.reading.specs.declared.open_object.OpenObject.{OpenObject}
use Rattle.reading.proofs.Enclosing.{left_enclosed, handed_other}
use Rattle.reading.proofs.Entering.{left_at}
use Rattle.reading.proofs.Stepping.{popped_objects, ahead_of, sound_from, left_last, left_alone, left_others, around_next, received-objects, received_fit}
use Rattle.reading.proofs.walk.Walk.leave.Goals as goal

near_after : (b : Bool) (p e n q : ℕ) → q ≡ cond b p (min e n) → p ≤ 2147483647 → n ≤ 2147483647 → q ≤ 2147483647
near_after true p e n q k h m = omega arith
near_after false p e n q k h m = omega arith

-- a close has no own bits
left_own : (d : Description) (i : Item) (w : Walk) → i.kind ≡ Close → {class line index q : ℕ} → i ≡ close_item class line index q → w.place ≡ q → OwnEnd d i w
left_own d i w kind {class} {line} {index} {q} is at =
    let to : w.place ≡ end_of d i = at ∙ sym (add-zero q) ∙ sym (ap (end_of d) is) in
    record { after = to; looked = ap (λ (k : Kind). looked_to k i.place i.length w.place) kind ∙ to }

pub returns-then-i-eq0-clause-moved : goal.returns-then-i-eq0-clause-moved
returns-then-i-eq0-clause-moved c = λ d bits from leaving.
    let item = c.close_item.result in
    let kind : item.kind ≡ Close = ap (λ (x : Item). x.kind) c.close_item.ensures in
    record {
      moved = λ B alike.
          let l = leaving B alike.long in
          let xs = c.args.self.now.objects in
          let i = c.args.i in
          let a = (get_or xs i no_object).opened in
          let b = inner_of (get_or xs i no_object).inside in
          let p = c.args.self.now.place in
          let q = c.place_after-place.result in
          let at : q ≡ cond (eqb a.greatest 0) p (min a.about.window.end (length B)) = c.place_after-place.ensures ∙ ap (λ (x : Opened). cond (eqb x.greatest 0) p x.about.window.end) l.is in
          let near : q ≤ 2147483647 = near_after (eqb a.greatest 0) p a.about.window.end (length B) q at l.near l.short in
          let called : close_item a.about.class a.used.line a.used.index q ≡ c.close_item.result = sym (c.close_item.ensures ∙ ap (λ (x : Opened). close_item x.about.class x.used.line x.used.index q) l.is) in
          let objects = popped_objects (record { objects = xs; depth = i; place = q; started = c.args.self.now.started }) (omega arith) in
          record {
            before = l.before;
            same =
                l.same ∙ ap (passed l.before) (left_at d B a (around xs i) b p q at
                ∙ ap (λ (x : Item). out x (rest_from d B (around xs i) (received a.used (state q b) (around xs i)))) called
                ∙ ap (out c.close_item.result) (left_last d B xs i a.used q b c.if-i-eq0.true
                ∙ sym (ahead_of d B _ (around xs i) q c.requires.started objects refl)));
            sound = sound_from d _ (around xs i) objects l.fits near;
          };
      bound = λ h.
          let w = c.args.self.now in
          let q = c.place_after-place.result in
          let cut = ap (λ (x : Opened). x.about.window.end) (leaving bits refl).is in
          let b = left_enclosed (length bits) w c.args.i c.requires.innermost h (get_or w.objects c.args.i no_object) refl c.args.opened.about.window.end cut (eqb c.args.opened.greatest 0) q c.place_after-place.ensures in
          let at : item.place ≡ q = ap (λ (x : Item). x.place) c.close_item.ensures in
          handed_other (length bits) w.place item Close _ kind refl (omega (arith, b.0)) (omega arith) c.requires.started
          (subst (λ (os : List OpenObject). Enclosed (length bits) os q) (sym (popped_objects (record { objects = w.objects; depth = c.args.i; place = q; started = w.started }) (omega (arith, c.requires.innermost)))) b.1);
      ends = λ st f. left_own d item _ kind c.close_item.ensures refl;
    }

pub returns-then-opened-eq0-clause-moved : goal.returns-then-opened-eq0-clause-moved
returns-then-opened-eq0-clause-moved c = λ d bits from leaving.
    let item = c.close_item-then-opened-eq0.result in
    let none : c.args.opened.used.receiving ≡ 0 = omega arith in
    let kind : item.kind ≡ Close = ap (λ (x : Item). x.kind) c.close_item-then-opened-eq0.ensures in
    record {
      moved = λ B alike.
          let l = leaving B alike.long in
          let xs = c.args.self.now.objects in
          let i = c.args.i in
          let a = (get_or xs i no_object).opened in
          let b = inner_of (get_or xs i no_object).inside in
          let p = c.args.self.now.place in
          let q = c.place_after-place.result in
          let at : q ≡ cond (eqb a.greatest 0) p (min a.about.window.end (length B)) = c.place_after-place.ensures ∙ ap (λ (x : Opened). cond (eqb x.greatest 0) p x.about.window.end) l.is in
          let near : q ≤ 2147483647 = near_after (eqb a.greatest 0) p a.about.window.end (length B) q at l.near l.short in
          let called : close_item a.about.class a.used.line a.used.index q ≡ c.close_item-then-opened-eq0.result = sym (c.close_item-then-opened-eq0.ensures ∙ ap (λ (x : Opened). close_item x.about.class x.used.line x.used.index q) l.is) in
          let objects = popped_objects (record { objects = xs; depth = i; place = q; started = c.args.self.now.started }) (omega arith) in
          record {
            before = l.before;
            same =
                l.same ∙ ap (passed l.before) (left_at d B a (around xs i) b p q at
                ∙ ap (λ (x : Item). out x (rest_from d B (around xs i) (received a.used (state q b) (around xs i)))) called
                ∙ ap (out c.close_item-then-opened-eq0.result) (left_alone d B xs i a.used q b (ap (λ (x : Opened). x.used.receiving) (sym l.is) ∙ none)
                ∙ sym (ahead_of d B _ (around xs i) q c.requires.started objects refl)));
            sound = sound_from d _ (around xs i) objects l.fits near;
          };
      bound = λ h.
          let w = c.args.self.now in
          let q = c.place_after-place.result in
          let cut = ap (λ (x : Opened). x.about.window.end) (leaving bits refl).is in
          let b = left_enclosed (length bits) w c.args.i c.requires.innermost h (get_or w.objects c.args.i no_object) refl c.args.opened.about.window.end cut (eqb c.args.opened.greatest 0) q c.place_after-place.ensures in
          let at : item.place ≡ q = ap (λ (x : Item). x.place) c.close_item-then-opened-eq0.ensures in
          handed_other (length bits) w.place item Close _ kind refl (omega (arith, b.0)) (omega arith) c.requires.started
          (subst (λ (os : List OpenObject). Enclosed (length bits) os q) (sym (popped_objects (record { objects = w.objects; depth = c.args.i; place = q; started = w.started }) (omega (arith, c.requires.innermost)))) b.1);
      ends = λ st f. left_own d item _ kind c.close_item-then-opened-eq0.ensures refl;
    }

pub returns-clause-moved : goal.returns-clause-moved
returns-clause-moved c = λ d bits from leaving.
    let item = c.close_item-2.result in
    let kind : item.kind ≡ Close = ap (λ (x : Item). x.kind) c.close_item-2.ensures in
    let xs = c.args.self.now.objects in
    let i = c.args.i in
    let q = c.place_after-place.result in
    let j = c.receive.new.self in
    let o = get_or xs (i - 1) no_object in
    let under = get_or xs (i - 1) c.index-self-i-2.result in
    let same : under ≡ o = get_or_default xs (i - 1) c.index-self-i-2.result no_object (omega arith) in
    let x : OpenObject = record { opened = under.opened; inside = j } in
    let objects = received-objects (record { objects = set xs (i - 1) x; depth = i; place = q; started = c.args.self.now.started }) xs i x refl refl (omega arith) (omega arith) (omega arith) in
    record {
      moved = λ B alike.
          let l = leaving B alike.long in
          let a = (get_or xs i no_object).opened in
          let b = inner_of (get_or xs i no_object).inside in
          let p = c.args.self.now.place in
          let at : q ≡ cond (eqb a.greatest 0) p (min a.about.window.end (length B)) = c.place_after-place.ensures ∙ ap (λ (x : Opened). cond (eqb x.greatest 0) p x.about.window.end) l.is in
          let near : q ≤ 2147483647 = near_after (eqb a.greatest 0) p a.about.window.end (length B) q at l.near l.short in
          let called : close_item a.about.class a.used.line a.used.index q ≡ c.close_item-2.result = sym (c.close_item-2.ensures ∙ ap (λ (x : Opened). close_item x.about.class x.used.line x.used.index q) l.is) in
          let fv : SFits w64 c.name-value.result = search rules in
          let here = get_or_default xs i c.index-self-i.result no_object (omega arith) in
          let e : inner_of j ≡ with_names (write a.used.receiving (b.names a.used.carried) (named_by o.inside.names)) (inner_of o.inside) =
          simp to_z-of_z at c.receive.ensures
          ∙ (λ t. with_names (write c.args.opened.used.receiving (c.name-value.ensures t) (named_by (same t).inside.names)) (inner_of (same t).inside))
          ∙ ap (λ (y : OpenObject). with_names (write c.args.opened.used.receiving (named_by y.inside.names c.args.opened.used.carried) (named_by o.inside.names)) (inner_of o.inside)) here
          ∙ ap (λ (x : Opened). with_names (write x.used.receiving (b.names x.used.carried) (named_by o.inside.names)) (inner_of o.inside)) l.is in
          record {
            before = l.before;
            same =
                l.same ∙ ap (passed l.before) (left_at d B a (around xs i) b p q at
                ∙ ap (λ (y : Item). out y (rest_from d B (around xs i) (received a.used (state q b) (around xs i)))) called
                ∙ ap (out c.close_item-2.result) (left_others d B xs i a.used q b (omega arith) j e
                ∙ ap (λ (y : OpenObject). rest d B (record { opened = y.opened; inside = j } ∷ around xs (i - 1)) q) (sym same)
                ∙ sym (ahead_of d B _ (x ∷ around xs (i - 1)) q c.requires.started objects refl)));
            sound = sound_from d _ (x ∷ around xs (i - 1)) objects
                (subst (λ (y : OpenObject). AllFit d (record { opened = y.opened; inside = j } ∷ around xs (i - 1))) (sym same) (received_fit d xs i (omega arith) j _ e l.fits)) near;
          };
      bound = λ h.
          let w = c.args.self.now in
          let cut = ap (λ (x : Opened). x.about.window.end) (leaving bits refl).is in
          let b = left_enclosed (length bits) w c.args.i c.requires.innermost h (get_or w.objects c.args.i no_object) refl c.args.opened.about.window.end cut (eqb c.args.opened.greatest 0) q c.place_after-place.ensures in
          let at : item.place ≡ q = ap (λ (x : Item). x.place) c.close_item-2.ensures in
          handed_other (length bits) w.place item Close _ kind refl (omega (arith, b.0)) (omega arith) c.requires.started
          (subst (λ (os : List OpenObject). Enclosed (length bits) os q) (sym objects)
          (subst (λ (y : OpenObject). Enclosed (length bits) (record { opened = y.opened; inside = j } ∷ around xs (i - 1)) q) (sym same)
          (subst (λ (os : List OpenObject). Enclosed (length bits) os q) (around_next xs i (omega arith)) b.1)));
      ends = λ st f. left_own d item _ kind c.close_item-2.ensures refl;
    }
