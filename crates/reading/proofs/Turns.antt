-- A step inside the innermost object is a step of the reading.
use Rattle.std.proofs.Common.{◌≡◌, ℕ, suc, ◌<◌, ◌≤◌, min, Bool, true, List, ◌∷◌, length, get_or, set, sym, refl, ap, ◌∙◌, subst, arith, get_or-set_same, Result}
use Rattle.table.specs.Description.{Description}
use Rattle.rules.specs.declared.faults.ReadingFault.{ReadingFault}
use Rattle.rules.specs.declared.items.Item.{Item}
use Rattle.records.specs.declared.statements.UseLine.{UseLine}
use Rattle.rules.specs.declared.steps.Window.{Window}
use Rattle.rules.specs.Trace.{Run, out, pass}
use Rattle.rules.specs.Reading.{State, Objects}
use Rattle.objects.specs.declared.inside.About.{About}
use Rattle.objects.specs.declared.inside.Inside.{Inside}
use Rattle.objects.specs.declared.moves.Move.{Move}
use Rattle.objects.specs.Frames.{frames}
use Rattle.objects.specs.Ahead.{inner_of, inner_run, object_of, state, Fit}
use Rattle.objects.specs.Moves as moves
use Rattle.objects.specs.Passed.{passed}
use Rattle.objects.proofs.Stacks.{tops_set}
use Rattle.reading.specs.declared.open_object.Opened.{Opened}
use Rattle.reading.specs.declared.open_object.OpenObject.{OpenObject}
use Rattle.reading.specs.declared.walk.Walk.{Walk}
use Rattle.reading.specs.Pushes.{around, after_content, Leaving}
use Rattle.reading.specs.Walks.{no_object, objects_of, capped, seen, beginning, walk_ahead, AllFit, Sound, Quietly, Gives, Refuses}
use Rattle.reading.proofs.Entering.{using_of, within_others, rest_is, quiet_in, gives_in, refuses_in, begins_in, leaves_in}
use Rattle.reading.proofs.Stepping.{innermost, ahead_of, changed-objects, sound_all, sound_near, sound_from, all_head, all_cons}

-- a step of an object from a place
abbrev pub StepOf : Description → List Bool → About → Inside → (p : ℕ) → Result Move ReadingFault → Inside → Type 0
StepOf d bits a i p r j =
    moves.Moved d bits (object_of a) (inner_run d bits (object_of a) (inner_of i) p) p r (inner_of j)

module _ (d : Description) (bits : List Bool) (w : Walk) (i : ℕ) (e : min w.depth 16 ≡ suc i) (begun : w.started ≡ true) (sound : Sound d w) (l : i < length w.objects)
    (it : OpenObject) (is : it ≡ get_or w.objects i no_object) where
  abbrev os : List OpenObject
  os = around w.objects i

  abbrev before : Objects → Run State
  before obj = inner_run d bits (object_of (seen (length bits) it.opened).about) (inner_of it.inside) w.place obj

  inner_it : objects_of w ≡ it ∷ os
  inner_it = innermost w i e ∙ ap (λ (x : OpenObject). x ∷ os) (sym is)

  ahead : walk_ahead d bits w ≡ within_others d bits it.opened (inner_of it.inside) os w.place
  ahead = ahead_of d bits w (it ∷ os) w.place begun inner_it refl ∙ rest_is d bits it.opened it.inside os w.place

  pub fits : Fit d (frames it.inside.frames) × AllFit d os
  fits = all_head d it os (subst (AllFit d) inner_it (sound_all d w sound))

  -- the walk with another inside of the innermost object, at a place
  module _ (j : Inside) (q : ℕ) where
    abbrev pub changed : Walk
    changed = record { objects = set w.objects i (record { opened = it.opened; inside = j }); depth = w.depth; place = q; started = w.started }

    pub objects_are : objects_of changed ≡ record { opened = it.opened; inside = j } ∷ os
    objects_are = changed-objects changed w.objects i (record { opened = it.opened; inside = j }) refl e l

    after : walk_ahead d bits changed ≡ within_others d bits it.opened (inner_of j) os q
    after = ahead_of d bits changed (record { opened = it.opened; inside = j } ∷ os) q begun objects_are refl ∙ rest_is d bits it.opened j os q

    pub changed_sound : Fit d (frames j.frames) → q ≤ 2147483647 → Sound d changed
    changed_sound f n = sound_from d changed _ objects_are (all_cons d (record { opened = it.opened; inside = j }) os f fits.1) n

    pub turned_quiet : moves.Quietly d bits (object_of (seen (length bits) it.opened).about) before q (inner_of j) → Quietly d bits (walk_ahead d bits w) changed
    turned_quiet m =
        record {
          before = m.before;
          same = ahead ∙ quiet_in d bits it.opened os w.place m.before (inner_of it.inside) (inner_of j) q m.same ∙ ap (λ (t : Run (Unit {0})). passed m.before (pass t)) (sym after);
          sound = changed_sound m.fit m.near;
        }

    pub turned_give : (x : Item) → moves.Gives d bits (object_of (seen (length bits) it.opened).about) before x q (inner_of j) → Gives d bits (walk_ahead d bits w) x changed
    turned_give x m =
        record {
          before = m.before;
          same = ahead ∙ gives_in d bits it.opened os w.place m.before (inner_of it.inside) (inner_of j) x q m.same ∙ ap (λ (t : Run (Unit {0})). passed m.before (out x t)) (sym after);
          sound = changed_sound m.fit m.near;
        }

  module _ (j : Inside) where
    pub turned_refuse : (f : ReadingFault) → moves.Refuses d bits (object_of (seen (length bits) it.opened).about) before f (inner_of j) → Refuses d bits (walk_ahead d bits w) f (changed j w.place)
    turned_refuse f m =
        record {
          before = m.before;
          same = ahead ∙ refuses_in d bits it.opened os w.place m.before (inner_of it.inside) f m.same;
          sound = changed_sound j w.place m.fit (sound_near d w sound);
        }

    pub turned_begin : (line : ℕ) (u : UseLine) (index : ℕ) (named : u.receiving ≤ 128) (v : Window) → v ≡ capped (length bits) it.opened.about.window
        → (m : moves.Begins d bits (object_of (seen (length bits) it.opened).about) before w.place line u index (inner_of j))
        → walk_ahead d bits w ≡ passed m.before (beginning d bits (objects_of (changed j w.place)) (using_of line u index named) v w.place)
    turned_begin line u index named v k m =
        ahead
        ∙ begins_in d bits it.opened os w.place m.before (inner_of it.inside) j line u index named m.same
        ∙ sym (λ t. passed m.before (beginning d bits (objects_are j w.place t) (using_of line u index named) (k t) w.place))

    pub turned_leave : (a : Opened) → a ≡ seen (length bits) it.opened → length bits ≤ 2147483647
        → moves.Leaves d bits (object_of (seen (length bits) it.opened).about) before w.place (inner_of j)
        → Leaving d bits i a (changed j w.place) (walk_ahead d bits w)
    turned_leave a seen_a short m =
        let x : OpenObject = record { opened = it.opened; inside = j } in
        let r : i ≤ i = omega arith in
        let same_it = get_or-set_same w.objects i x no_object l in
        let same_os = tops_set no_object w.objects i x i r in
        record {
          is = seen_a ∙ sym (ap (λ (y : OpenObject). seen (length bits) y.opened) same_it);
          before = m.before;
          same = ahead ∙ leaves_in d bits it.opened os w.place m.before (inner_of it.inside) (inner_of j) m.same
              ∙ sym (λ t. passed m.before (after_content d bits (same_it t).opened (same_os t) (state w.place (inner_of (same_it t).inside))));
          fits = subst (AllFit d) (sym same_os) fits.1;
          near = sound_near d w sound;
          short = short;
        }
