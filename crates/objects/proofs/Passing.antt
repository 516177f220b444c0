-- Silent steps before what a step does.
use Rattle.std.proofs.Common.{◌≡◌, ℕ, zero, suc, ◌+◌, ◌<◌, Bool, List, ◌∷◌, Ok, Err, Result, refl, ap, ◌∙◌, arith}
use Rattle.table.specs.Description.{Description}
use Rattle.rules.specs.declared.faults.ReadingFault.{ReadingFault}
use Rattle.rules.specs.Trace.{Run, pass, done, bind}
use Rattle.rules.specs.Reading.{State, Object, Objects, all_zero}
use Rattle.objects.specs.declared.moves.Move.{Move}
use Rattle.objects.specs.declared.moves.Move.TheVariants.{Quiet, Give, Begin, Leave}
use Rattle.objects.specs.declared.frame.Frame.{Frame}
use Rattle.objects.specs.declared.frame.Frame.TheVariants.{Lines, After}
use Rattle.objects.specs.Ahead.{Inner, onto, content_run, frame_run, inner_run, wants, Fit}
use Rattle.objects.specs.Moves.{Moved}
use Rattle.objects.specs.Passed.{passed, passes}

pub passed_add : {A : Type 0} (n m : ℕ) (t : Run A) → passed n (passed m t) ≡ passed (n + m) t
passed_add zero m t = let e : 0 + m ≡ m = omega arith in rw e refl
passed_add (suc n) m t = let e : suc n + m ≡ suc (n + m) = omega arith in rw e (ap pass (passed_add n m t))

pub passed_bind : {A B : Type 0} (n : ℕ) (t : Run A) (k : A → Run B) → bind (passed n t) k ≡ passed n (bind t k)
unfolding bind
passed_bind zero t k = refl
passed_bind (suc n) t k = ap pass (passed_bind n t k)

pub passes_passed : {A : Type 0} (n : ℕ) (t : Run A) → passes (passed n t) ≡ n + passes t
unfolding passes
passes_passed zero t = omega arith
passes_passed (suc n) t = omega (arith, passes_passed n t)

-- a run that has one more silent step before it
pub fewer_passed : {A : Type 0} (n : ℕ) (from to : Run A) → from ≡ passed n (pass to) → passes to < passes from
unfolding passes
fewer_passed n from to e = omega (arith, ap passes e, passes_passed n (pass to))

-- a step after silent steps
pub moved_later : (d : Description) (bits : List Bool) (o : Object) {from : Objects → Run State} (to : Objects → Run State) (n p : ℕ) (r : Result Move ReadingFault) (c : Inner)
    → ((obj : Objects) → from obj ≡ passed n (to obj)) → Moved d bits o to p r c → Moved d bits o from p r c
moved_later d bits o to n p (Ok (Quiet q)) c e m = record { before = n + m.before; same = λ obj. e obj ∙ ap (passed n) (m.same obj) ∙ passed_add n m.before _; fit = m.fit; near = m.near }
moved_later d bits o to n p (Ok (Give i q)) c e m = record { before = n + m.before; same = λ obj. e obj ∙ ap (passed n) (m.same obj) ∙ passed_add n m.before _; kind = m.kind; ends = m.ends; fit = m.fit; near = m.near }
moved_later d bits o to n p (Err f) c e m = record { before = n + m.before; same = λ obj. e obj ∙ ap (passed n) (m.same obj) ∙ passed_add n m.before _; fit = m.fit }
moved_later d bits o to n p (Ok (Begin line u index)) c e m = record { before = n + m.before; same = λ obj. e obj ∙ ap (passed n) (m.same obj) ∙ passed_add n m.before _; fit = m.fit; uses = m.uses }
moved_later d bits o to n p (Ok Leave) c e m = record { before = n + m.before; same = λ obj. e obj ∙ ap (passed n) (m.same obj) ∙ passed_add n m.before _; fit = m.fit }

-- the lines after a read of one value, whose end is passed over
pub after_run : (d : Description) (bits : List Bool) (o : Object) (c : Inner) (p at count : ℕ) (obj : Objects)
    → inner_run d bits o (onto (After at count) c) p obj ≡ pass (inner_run d bits o (onto (Lines at count) c) p obj)
unfolding content_run frame_run bind
after_run d bits o c p at count obj = refl

pub after_fit : (d : Description) (at count : ℕ) (fs : List Frame) → Fit d (After at count ∷ fs) → Fit d (Lines at count ∷ fs)
unfolding Fit wants
after_fit d at count fs f = f

-- one run comes to another after silent steps
pub record Ran (from to : Objects → Run State) : Type 0 where
  pub before : ℕ
  pub same : (obj : Objects) → from obj ≡ passed before (to obj)

pub ran_none : {from : Objects → Run State} → Ran from from
ran_none = record { before = 0; same = λ obj. refl }

pub ran_more : {from to : Objects → Run State} (n : ℕ) (then : Objects → Run State) → Ran from to → ((obj : Objects) → to obj ≡ passed n (pass (then obj))) → Ran from then
ran_more n then r e =
    record {
      before = r.before + (n + 1);
      same = λ obj. r.same obj ∙ ap (passed r.before) (e obj ∙ passed_add n 1 (then obj)) ∙ passed_add r.before (n + 1) (then obj);
    }

-- objects that hand out nothing
abbrev pub nothing : Objects
nothing line declared index w p = done (record { place = p; names = all_zero })
