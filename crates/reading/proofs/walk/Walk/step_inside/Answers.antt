use Rattle.std.proofs.Common.{◌≡◌, ℕ, ◌+◌, ◌≤◌, min, Ok, Err, length, get_or, set, sym, refl, ap, ◌∙◌, subst, arith, get_or-set_same}
use Rattle.std.proofs.lemmas.List.{get_or_default}
use Rattle.table.specs.Description.{description}
use Rattle.records.specs.declared.statements.Statement.TheVariants.{Use}
use Rattle.rules.specs.declared.items.Kind.{Kind}
use Rattle.objects.specs.declared.inside.About.{About}
use Rattle.objects.specs.declared.moves.Move.TheVariants.{Quiet, Give, Begin, Leave}
use Rattle.objects.specs.Likewise.{Alike, reach}
use Rattle.objects.proofs.Alikes.{alike_self}
use Rattle.objects.proofs.NextLines.{line_named, line_declared}
use Rattle.reading.specs.declared.open_object.OpenObject.{OpenObject}
use Rattle.reading.specs.Walks.{no_object, cut, looked_to, sight, Within, Handed}
use Rattle.reading.proofs.Enclosing.{begun_from, begun_enclosed, walked_from, value_alike, in_cut, enclosed_still, enclosed_window, quiet_within, give_within}
use Rattle.reading.proofs.Stepping.{sound_near}
use Rattle.reading.proofs.Turns.{StepOf, fits, changed, objects_are, changed_sound, turned_quiet, turned_give, turned_refuse, turned_begin, turned_leave}
use Rattle.reading.proofs.walk.Walk.step_inside.Goals as goal

pub invariant_of-scene : goal.invariant_of-scene
invariant_of-scene g c =
    let d = description c.args.tables.now in
    let bits = g.S.Source.bits c.args.source.now in
    let w = c.args.self.now in
    let i = c.innermost-i.result in
    let started = c.requires.begun in
    let it = get_or w.objects i c.index-self-i.result in
    let ab : c.within.result ≡ cut (length bits) it.opened.about = c.within.ensures ∙ ap (λ n. cut n it.opened.about) c.requires.whole in
    record {
      readable = c.requires.readable;
      within = subst (λ (x : About). x.window.end ≤ length bits) (sym ab) (omega arith);
      near = sound_near d w c.requires.sound;
    }

pub step-requires : goal.step-requires
step-requires g c =
    let d = description c.args.tables.now in
    let bits = g.S.Source.bits c.args.source.now in
    let w = c.args.self.now in
    let i = c.innermost-i.result in
    let it = get_or w.objects i c.index-self-i-2.result in
    (fits d bits w i c.innermost-i.ensures c.requires.begun c.requires.sound (omega arith) it (get_or_default w.objects i c.index-self-i-2.result no_object (omega arith))).0

pub returns-in-Err-clause-moved : goal.returns-in-Err-clause-moved
returns-in-Err-clause-moved g c =
    let d = description c.args.tables.now in
    let bits = g.S.Source.bits c.args.source.now in
    let w = c.args.self.now in
    let i = c.innermost-i.result in
    let e = c.innermost-i.ensures in
    let started = c.requires.begun in
    let sound = c.requires.sound in
    let it = get_or w.objects i c.index-self-i-2.result in
    let is : it ≡ get_or w.objects i no_object = get_or_default w.objects i c.index-self-i-2.result no_object (omega arith) in
    let at = λ (n : ℕ) (long : length bits ≡ n). c.within.ensures ∙ (λ t. cut ((c.requires.whole ∙ long) t) (get_or_default w.objects i c.index-self-i.result c.index-self-i-2.result (omega arith) t).opened.about) in
    let end = ap (λ (x : About). x.window.end) (at (length bits) refl) in
    let from = begun_from w started in
    let j = c.step.new.self in
    let f = c.in-Err.fault in
    record {
      moved = λ B same.
          turned_refuse d B w i e started sound (omega arith) it is j f
          (subst (λ (x : About). StepOf d B x it.inside w.place (Err f) j) (at (length B) same.long) (c.in-Err.ensures.moved B (subst (λ p. Alike bits B p (p + reach)) from same)));
      bound = λ h. tt;
      ends = λ st. tt;
    }

pub returns-in-Ok-Quiet-clause-moved : goal.returns-in-Ok-Quiet-clause-moved
returns-in-Ok-Quiet-clause-moved g c =
    let d = description c.args.tables.now in
    let bits = g.S.Source.bits c.args.source.now in
    let w = c.args.self.now in
    let i = c.innermost-i.result in
    let e = c.innermost-i.ensures in
    let started = c.requires.begun in
    let sound = c.requires.sound in
    let it = get_or w.objects i c.index-self-i-2.result in
    let is : it ≡ get_or w.objects i no_object = get_or_default w.objects i c.index-self-i-2.result no_object (omega arith) in
    let at = λ (n : ℕ) (long : length bits ≡ n). c.within.ensures ∙ (λ t. cut ((c.requires.whole ∙ long) t) (get_or_default w.objects i c.index-self-i.result c.index-self-i-2.result (omega arith) t).opened.about) in
    let end = ap (λ (x : About). x.window.end) (at (length bits) refl) in
    let from = begun_from w started in
    let j = c.step.new.self in
    let q = c.in-Ok-Quiet.place in
    let m = rw c.in-Ok-Quiet.field-0-is at c.in-Ok-Quiet.ensures in
    record {
      moved = λ B l.
          turned_quiet d B w i e started sound (omega arith) it is j q
          (subst (λ (x : About). StepOf d B x it.inside w.place (Ok (Quiet q)) j) (at (length B) l.long) (m.moved B (subst (λ p. Alike bits B p (min q (p + reach))) from l)));
      bound = λ h.
          let k = begun_enclosed (length bits) w started h in
          subst (λ p. Within (length bits) p (changed d bits w i e started sound (omega arith) it is j q)) (sym from)
          (quiet_within (length bits) w i e k it is c.within.result.window.end end _ j (objects_are d bits w i e started sound (omega arith) it is j q) started
          (m.bound (in_cut (length bits) w i e k it is c.within.result.window.end end)));
      ends = λ st. tt;
    }

pub returns-in-Ok-Give-clause-moved : goal.returns-in-Ok-Give-clause-moved
returns-in-Ok-Give-clause-moved g c =
    let d = description c.args.tables.now in
    let bits = g.S.Source.bits c.args.source.now in
    let w = c.args.self.now in
    let i = c.innermost-i.result in
    let e = c.innermost-i.ensures in
    let started = c.requires.begun in
    let sound = c.requires.sound in
    let it = get_or w.objects i c.index-self-i-2.result in
    let is : it ≡ get_or w.objects i no_object = get_or_default w.objects i c.index-self-i-2.result no_object (omega arith) in
    let at = λ (n : ℕ) (long : length bits ≡ n). c.within.ensures ∙ (λ t. cut ((c.requires.whole ∙ long) t) (get_or_default w.objects i c.index-self-i.result c.index-self-i-2.result (omega arith) t).opened.about) in
    let end = ap (λ (x : About). x.window.end) (at (length bits) refl) in
    let from = begun_from w started in
    let j = c.step.new.self in
    let q = c.in-Ok-Give.place in
    let x = c.in-Ok-Give.item in
    let m = rw c.in-Ok-Give.field-0-is at c.in-Ok-Give.ensures in
    let kind = (m.moved bits alike_self).kind in
    record {
      moved = λ B l.
          turned_give d B w i e started sound (omega arith) it is j q x
          (subst (λ (y : About). StepOf d B y it.inside w.place (Ok (Give x q)) j) (at (length B) l.long)
          (m.moved B (value_alike bits B w.place x q kind (subst (λ p. Alike bits B p (sight x.kind p x.place x.length q)) from l))));
      bound = λ h.
          let k = begun_enclosed (length bits) w started h in
          subst (λ p. Handed (length bits) p x (changed d bits w i e started sound (omega arith) it is j q)) (sym from)
          (give_within (length bits) w i e k it is c.within.result.window.end end _ j (objects_are d bits w i e started sound (omega arith) it is j q) started x kind
          (m.bound (in_cut (length bits) w i e k it is c.within.result.window.end end)));
      ends = λ st f.
          let o = (m.moved bits alike_self).ends st in
          record { after = o.after; looked = ap (λ (k : Kind). looked_to k x.place x.length q) kind ∙ o.long };
    }

pub invariant_of-used : goal.invariant_of-used
invariant_of-used g c =
    let d = description c.args.tables.now in
    let bits = g.S.Source.bits c.args.source.now in
    let w = c.args.self.now in
    let i = c.innermost-i.result in
    let e = c.innermost-i.ensures in
    let started = c.requires.begun in
    let sound = c.requires.sound in
    let it = get_or w.objects i c.index-self-i-2.result in
    let is : it ≡ get_or w.objects i no_object = get_or_default w.objects i c.index-self-i-2.result no_object (omega arith) in
    let at = λ (n : ℕ) (long : length bits ≡ n). c.within.ensures ∙ (λ t. cut ((c.requires.whole ∙ long) t) (get_or_default w.objects i c.index-self-i.result c.index-self-i-2.result (omega arith) t).opened.about) in
    let end = ap (λ (x : About). x.window.end) (at (length bits) refl) in
    let from = begun_from w started in
    let j = c.step.new.self in
    let line = c.in-Ok-Begin.line in
    let fields = c.in-Ok-Begin.fields in
    let all = rw c.in-Ok-Begin.field-0-is at c.in-Ok-Begin.ensures in
    let m = subst (λ (x : About). StepOf d bits x it.inside w.place (Ok (Begin line fields c.in-Ok-Begin.index)) j) (at (length bits) refl) (all.moved bits refl) in
    record { named = line_named d line (Use fields) m.uses c.requires.readable }

pub begin-requires : goal.begin-requires
begin-requires g c =
    let d = description c.args.tables.now in
    let bits = g.S.Source.bits c.args.source.now in
    let w = c.args.self.now in
    let i = c.innermost-i.result in
    let e = c.innermost-i.ensures in
    let started = c.requires.begun in
    let sound = c.requires.sound in
    let it = get_or w.objects i c.index-self-i-2.result in
    let is : it ≡ get_or w.objects i no_object = get_or_default w.objects i c.index-self-i-2.result no_object (omega arith) in
    let at = λ (n : ℕ) (long : length bits ≡ n). c.within.ensures ∙ (λ t. cut ((c.requires.whole ∙ long) t) (get_or_default w.objects i c.index-self-i.result c.index-self-i-2.result (omega arith) t).opened.about) in
    let end = ap (λ (x : About). x.window.end) (at (length bits) refl) in
    let from = begun_from w started in
    let j = c.step.new.self in
    let line = c.in-Ok-Begin.line in
    let fields = c.in-Ok-Begin.fields in
    let all = rw c.in-Ok-Begin.field-0-is at c.in-Ok-Begin.ensures in
    let m = subst (λ (x : About). StepOf d bits x it.inside w.place (Ok (Begin line fields c.in-Ok-Begin.index)) j) (at (length bits) refl) (all.moved bits refl) in
    record {
      sound = changed_sound d bits w i e started sound (omega arith) it is j w.place m.fit (sound_near d w sound);
      readable = c.requires.readable;
      declared = line_declared d line (Use fields) m.uses;
    }

pub returns-in-Ok-Begin-clause-moved : goal.returns-in-Ok-Begin-clause-moved
returns-in-Ok-Begin-clause-moved g c =
    let d = description c.args.tables.now in
    let bits = g.S.Source.bits c.args.source.now in
    let w = c.args.self.now in
    let i = c.innermost-i.result in
    let e = c.innermost-i.ensures in
    let started = c.requires.begun in
    let sound = c.requires.sound in
    let it = get_or w.objects i c.index-self-i-2.result in
    let is : it ≡ get_or w.objects i no_object = get_or_default w.objects i c.index-self-i-2.result no_object (omega arith) in
    let at = λ (n : ℕ) (long : length bits ≡ n). c.within.ensures ∙ (λ t. cut ((c.requires.whole ∙ long) t) (get_or_default w.objects i c.index-self-i.result c.index-self-i-2.result (omega arith) t).opened.about) in
    let end = ap (λ (x : About). x.window.end) (at (length bits) refl) in
    let from = begun_from w started in
    let j = c.step.new.self in
    let line = c.in-Ok-Begin.line in
    let fields = c.in-Ok-Begin.fields in
    let index = c.in-Ok-Begin.index in
    let all = rw c.in-Ok-Begin.field-0-is at c.in-Ok-Begin.ensures in
    let begun = rw (c.view.ensures.source, c.view.ensures.window) at c.begin.ensures.moved in
    walked_from d bits _ w.place _ c.begin.result c.begin.new.self from
    (λ B long.
    let ab = at (length B) long in
    let m = subst (λ (x : About). StepOf d B x it.inside w.place (Ok (Begin line fields index)) j) ab (all.moved B long) in
    (m.before, turned_begin d B w i e started sound (omega arith) it is j line fields index (line_named d line (Use fields) m.uses c.requires.readable) c.within.result.window (ap (λ (x : About). x.window) ab) m))
    (λ h. enclosed_window (length bits) w i e (begun_enclosed (length bits) w started h) it is c.within.result.window.end end _ j (objects_are d bits w i e started sound (omega arith) it is j w.place))
    begun

pub leave-requires : goal.leave-requires
leave-requires g c = record { innermost = c.innermost-i.ensures; started = c.requires.begun }

pub returns-in-Ok-Leave-clause-moved : goal.returns-in-Ok-Leave-clause-moved
returns-in-Ok-Leave-clause-moved g c =
    let d = description c.args.tables.now in
    let bits = g.S.Source.bits c.args.source.now in
    let w = c.args.self.now in
    let i = c.innermost-i.result in
    let e = c.innermost-i.ensures in
    let started = c.requires.begun in
    let sound = c.requires.sound in
    let it = get_or w.objects i c.index-self-i-2.result in
    let is : it ≡ get_or w.objects i no_object = get_or_default w.objects i c.index-self-i-2.result no_object (omega arith) in
    let at = λ (n : ℕ) (long : length bits ≡ n). c.within.ensures ∙ (λ t. cut ((c.requires.whole ∙ long) t) (get_or_default w.objects i c.index-self-i.result c.index-self-i-2.result (omega arith) t).opened.about) in
    let end = ap (λ (x : About). x.window.end) (at (length bits) refl) in
    let from = begun_from w started in
    let j = c.step.new.self in
    let all = rw c.in-Ok-Leave.field-0-is at c.in-Ok-Leave.ensures in
    let left : OpenObject = record { opened = it.opened; inside = j } in
    let now = get_or (set w.objects i left) i c.index-self-i-in-Ok-Leave.result in
    let there : now ≡ left = get_or-set_same w.objects i left c.index-self-i-in-Ok-Leave.result (omega arith) in
    walked_from d bits _ w.place _ c.leave.result c.leave.new.self from (λ B long. (0, refl))
    (λ h. enclosed_still (length bits) w i e (begun_enclosed (length bits) w started h) it is _ j (objects_are d bits w i e started sound (omega arith) it is j w.place))
    (c.leave.ensures.moved d bits _
    (λ B long.
    let ab = at (length B) long in
    turned_leave d B w i e started sound (omega arith) it is j (record { about = c.within.result; greatest = now.opened.greatest; used = now.opened.used })
    (λ t. record { about = ab t; greatest = (there t).opened.greatest; used = (there t).opened.used })
    (subst (λ n. n ≤ 2147483647) long (g.S.Source.short c.args.source.now))
    (subst (λ (x : About). StepOf d B x it.inside w.place (Ok Leave) j) ab (all.moved B long))))
