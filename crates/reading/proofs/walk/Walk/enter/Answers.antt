use Rattle.std.proofs.Common.{◌≡◌, ◌+◌, ◌≤◌, min, true, not, ◌||◌, eqb, List, [], ◌∷◌, length, sym, refl, ap, ◌∙◌, subst, arith}
use Rattle.table.specs.Description.{description, class_at}
use Rattle.rules.specs.declared.faults.Failure.{Failure}
use Rattle.rules.specs.declared.items.Item.{Item}
use Rattle.rules.specs.declared.items.Kind.{Kind}
use Rattle.rules.specs.declared.items.Kind.TheVariants.{Open}
use Rattle.rules.specs.declared.steps.Window.{Window}
use Rattle.rules.specs.Checks.{fault}
use Rattle.rules.specs.Trace.{out, stop}
use Rattle.rules.specs.Lookups.{greatest}
use Rattle.rules.specs.Order.{declared_at}
use Rattle.rules.specs.Reading.{inner, open_item}
use Rattle.rules.specs.Steps.{header}
use Rattle.objects.specs.Likewise.{Alike, reach}
use Rattle.objects.proofs.Alikes.{header_alike, header_refused}
use Rattle.reading.specs.declared.open_object.OpenObject.{OpenObject}
use Rattle.reading.specs.declared.open_object.Opened.{Opened}
use Rattle.reading.specs.Walks.{objects_of, rest, looked_to, sight, Enclosed}
use Rattle.reading.proofs.Enclosing.{handed_other, enclosed_less, id_narrow}
use Rattle.reading.proofs.Entering.{begin_unknown, begin_enters, inner_end, inner-after}
use Rattle.reading.proofs.Opening.{own_end}
use Rattle.reading.proofs.Stepping.{known_class, known_greatest, pushed_ahead, pushed_sound}
use Rattle.reading.proofs.walk.Walk.enter.Goals as goal
use Rattle.reading.proofs.walk.Walk.enter.Goals.{else-class-eq0-via-then-class-eq0+else-greatest-eq0, else-class-eq0-via-else-class-eq0}

pub returns-then-greatest-eq0-clause-moved : goal.returns-then-greatest-eq0-clause-moved
returns-then-greatest-eq0-clause-moved c = λ bits n e.
    let d = description c.args.tables.now in
    let u = c.args.used in
    let w = c.args.self.now in
    record {
      moved = λ B same.
          let e' = e ∙ header_refused bits B c.args.window w.place (class_at d u.class) (greatest d u.class) (id_narrow (class_at d u.class) (c.requires.readable.ids u.class)) same in
          record {
            before = 0;
            same = begin_unknown d B (objects_of w) u c.args.window w.place c.requires.room c.args.header e' (sym c.object_class-class.ensures ∙ c.if-class-eq0.true) (sym c.requires.most ∙ c.if-greatest-eq0.true) ∙ ap stop (sym (c.at.ensures ∙ ap (λ (f : Failure). fault f.cause u.line f.node w.place) c.from.ensures));
            sound = c.requires.sound;
          };
      bound = λ h. tt;
      ends = λ st. tt;
    }

pub returns-clause-moved : goal.returns-clause-moved
returns-clause-moved c = λ bits n e.
    let d = description c.args.tables.now in
    let m = c.requires.most in
    let h = c.args.header in
    let u = c.args.used in
    let w = c.args.self.now in
    let v = c.push.new.self in
    let entered = c.push.ensures in
    let inside = entered.object.inside in
    let item = c.open_item.result in
    let kind : item.kind ≡ Open = ap (λ (x : Item). x.kind) c.open_item.ensures in
    let place : item.place ≡ h.place = ap (λ (x : Item). x.place) c.open_item.ensures in
    let after : v.place ≡ h.after = entered.pushed.place in
    let known : (not (eqb c.object_class-class.result 0) || not (eqb (greatest d u.class) 0)) ≡ true =
    subst (λ k. (not (eqb c.object_class-class.result 0) || not (eqb k 0)) ≡ true) m
    (elim c.else-class-eq0.branch [
      | else-class-eq0-via-then-class-eq0+else-greatest-eq0 v ↦ known_greatest c.object_class-class.result c.args.greatest v.if-greatest-eq0.false
      | else-class-eq0-via-else-class-eq0 v ↦ known_class c.object_class-class.result c.args.greatest v.if-class-eq0.false
    ]) in
    record {
      moved = λ B l.
          let win : c.inner.result ≡ inner d B (greatest d u.class) h c.args.window = c.inner.ensures d B ∙ ap (λ k. inner d B k h c.args.window) m in
          let long = l.long in
          let end : (inner d B (greatest d u.class) h c.args.window).end ≤ length B =
          (let k = inner_end d B (greatest d u.class) h c.args.window c.requires.short.0 in omega arith) in
          let to : sight item.kind w.place item.place item.length v.place ≡ min h.after (w.place + reach) =
          ap (λ (k : Kind). sight k w.place item.place item.length v.place) kind ∙ ap (λ q. min q (w.place + reach)) after in
          let e' = header_alike bits B c.args.window w.place (class_at d u.class) (greatest d u.class) h (id_narrow (class_at d u.class) (c.requires.readable.ids u.class)) (subst (λ q. Alike bits B w.place q) to l) e in
          record {
            before = 0;
            same =
                begin_enters d B (objects_of w) u c.args.window w.place c.requires.room h e' c.object_class-class.result c.object_class-class.ensures known end inside entered.begun
                ∙ sym (λ i. out (c.open_item.ensures i)
                (rest d B (record { opened = record { about = record { class = c.object_class-class.result; size = h.size; window = win i }; greatest = m i; used = u }; inside = inside } ∷ objects_of w) h.after))
                ∙ ap (out item) (sym (λ i. rest d B (record { opened = entered.is i; inside = inside } ∷ objects_of w) h.after))
                ∙ ap (out item) (sym (pushed_ahead d B _ _ w v entered.pushed));
            sound = pushed_sound d B _ _ w v entered.pushed c.requires.sound entered.begun.fit (omega (arith, c.requires.short.0, c.requires.short.1));
          };
      bound = λ k.
          let within : (h.after ≤ c.inner.result.end) × (c.inner.result.end ≤ c.args.window.end) =
          subst (λ (x : Window). (h.after ≤ x.end) × (x.end ≤ c.args.window.end)) (sym (c.inner.ensures d [])) (inner-after d [] c.args.greatest h c.args.window c.requires.short.0, inner_end d [] c.args.greatest h c.args.window c.requires.short.0) in
          let own = subst (λ (x : Opened). (h.after ≤ x.about.window.end) × (x.about.window.end ≤ c.args.window.end)) (sym entered.is) within in
          handed_other (length bits) w.place item Open v kind refl (omega (arith, c.requires.placed.0)) (omega (arith, c.requires.placed.1)) entered.pushed.started
          (subst (λ (os : List OpenObject). Enclosed (length bits) os v.place) (sym entered.pushed.objects) (omega (arith, own.0), enclosed_less (length bits) (objects_of w) c.args.window.end entered.object.opened.about.window.end own.1 k));
      ends = λ st f.
          let declared : u.class ≡ declared_at d item.line = sym (ap (λ (x : Item). declared_at d x.line) c.open_item.ensures ∙ c.requires.declared) in
          let read = e ∙ ap (λ k. header bits c.args.window (class_at d k) (greatest d k) w.place) declared in
          let is : item ≡ open_item item.class item.line item.index h = c.open_item.ensures ∙ sym (λ t. open_item (c.open_item.ensures t).class (c.open_item.ensures t).line (c.open_item.ensures t).index h) in
          let to = after ∙ own_end d bits w.place item c.args.window h n read is f in
          record { after = to; looked = ap (λ (k : Kind). looked_to k item.place item.length v.place) kind ∙ to };
    }
