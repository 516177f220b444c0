-- A tidy reading goes as the reading does, until it stops.
use Rattle.std.proofs.Common.{◌≡◌, ℕ, zero, suc, Bool, true, false, not, ◌&&◌, ◌||◌, T, eqb, leb, List, [], ◌∷◌, ℤ, Ok, Err, refl, ap, subst, arith}
use Rattle.records.specs.declared.records.Extension.{Extension}
use Rattle.table.specs.Description.{Description, class_at}
use Rattle.rules.specs.declared.items.Item.{Item}
use Rattle.rules.specs.declared.faults.ReadingCause.{ReadingCause}
use Rattle.rules.specs.declared.faults.ReadingCause.TheVariants.{UnknownId}
use Rattle.rules.specs.declared.faults.ReadingFault.{ReadingFault}
use Rattle.rules.specs.Trace.{Run, out, pass, stop, done, bind, items, outcome, ended}
use Rattle.rules.specs.Checks.{Check, ensure, pick, attempt}
use Rattle.rules.specs.Lookups.{greatest, object_class}
use Rattle.rules.specs.Values.{is_zero}
use Rattle.records.specs.declared.statements.UseLine.{UseLine}
use Rattle.rules.specs.Code.{Code, finish, read, assign, map_read, use_of, branch, while, code}
use Rattle.rules.specs.declared.steps.Window.{Window}
use Rattle.rules.specs.Steps.{header, next_multiple}
use Rattle.rules.specs.Reading.{State, Object, Objects, objects, objects_to_end, used, rounds, run, extensions, content, whole}
use Rattle.rules.specs.Tidy.{opened_by, object_by, reading_by, tidy_reading, TidyLaw}
use Rattle.rules.proofs.Plain.{plain_reading}

-- the first run goes as the second does, until it stops
data Cut {A : Type 0} : Run A → Run A → Type 0 where
  stopped : {f : ReadingFault} {t : Run A} → Cut (stop f) t
  ends : {a : A} → Cut (done a) (done a)
  gives : {i : Item} {t u : Run A} → Cut t u → Cut (out i t) (out i u)
  passes : {t u : Run A} → Cut t u → Cut (pass t) (pass u)

cut_same : {A : Type 0} (t : Run A) → Cut t t
cut_same (out i t) = gives (cut_same t)
cut_same (pass t) = passes (cut_same t)
cut_same (stop f) = stopped
cut_same (done a) = ends

cut_bind : {A B : Type 0} (f g : A → Run B) → ((a : A) → Cut (f a) (g a)) → {t u : Run A} → Cut t u → Cut (bind t f) (bind u g)
unfolding bind
cut_bind f g h stopped = stopped
cut_bind f g h (ends {a}) = h a
cut_bind f g h (gives t) = gives (cut_bind f g h t)
cut_bind f g h (passes t) = passes (cut_bind f g h t)

cut_attempt : {A B : Type 0} (line p : ℕ) (m : Check A) (f g : A → Run B) → ((a : A) → Cut (f a) (g a)) → Cut (attempt line p m f) (attempt line p m g)
unfolding attempt
cut_attempt line p (Ok a) f g h = h a
cut_attempt line p (Err e) f g h = stopped

-- a step of the first run alone, and two tests of which the first asks more
cut_first : {A B : Type 0} (line p : ℕ) (m : Check A) (f : A → Run B) (u : Run B) → ((a : A) → Cut (f a) u) → Cut (attempt line p m f) u
unfolding attempt
cut_first line p (Ok a) f u h = h a
cut_first line p (Err e) f u h = stopped

cut_ensure : {A : Type 0} (line p : ℕ) (c : ReadingCause) (a b : Bool) (f g : Unit {0} → Run A) → (T a → T b) → Cut (f tt) (g tt) →
    Cut (attempt line p (ensure a c) f) (attempt line p (ensure b c) g)
unfolding attempt ensure
cut_ensure line p c true true f g i h = h
cut_ensure line p c true false f g i h = absurd (i tt)
cut_ensure line p c false b f g i h = stopped

cut_pick : {A : Type 0} (b : Bool) (f g u v : Unit {0} → Run A) → Cut (f tt) (u tt) → Cut (g tt) (v tt) → Cut (pick b f g) (pick b u v)
cut_pick true f g u v x y = x
cut_pick false f g u v x y = y

weaker : (x y z : Bool) → T (x || (y && z)) → T (x || (true && z))
weaker true y z t = tt
weaker false true z t = t
weaker false false z t = absurd t

module _ (d : Description) (bits : List Bool) where
  module _ (new old : Objects) (objs : (line declared index : ℕ) (w : Window) (p : ℕ) → Cut (new line declared index w p) (old line declared index w p)) (o : Object) where
    cut_objects : (line : ℕ) (l : UseLine) (n index : ℕ) (s : State) → Cut (objects d bits new o line l n index s) (objects d bits old o line l n index s)
    unfolding objects
    cut_objects line l zero index s = passes ends
    cut_objects line l (suc n) index s = cut_bind _ _ (λ t. cut_objects line l n (suc index) _) (objs line l.class index o.window s.place)

    cut_to_end : (line : ℕ) (l : UseLine) (n index : ℕ) (s : State) → Cut (objects_to_end d bits new o line l n index s) (objects_to_end d bits old o line l n index s)
    unfolding objects_to_end
    cut_to_end line l zero index s = cut_same _
    cut_to_end line l (suc n) index s =
        cut_pick (leb o.window.end (next_multiple 8 s.place)) _ _ _ _ (cut_same _)
        (cut_bind _ _ (λ t. cut_to_end line l n (suc index) _) (objs line l.class index o.window s.place))

    cut_used : (line : ℕ) (l : UseLine) (k : ℕ) (s : State) → Cut (used d bits new o line l k s) (used d bits old o line l k s)
    unfolding used
    cut_used line l zero s = passes (cut_to_end line l l.most 0 s)
    cut_used line l (suc k) s = cut_attempt line s.place _ _ _ λ n. passes (cut_objects line l n 0 s)

    cut_rounds : (test : State → Check ℤ) (f g : State → Run State) (line : ℕ) → ((s : State) → Cut (f s) (g s)) → (n : ℕ) (s : State) →
        Cut (rounds d bits test f line n s) (rounds d bits test g line n s)
    unfolding rounds
    cut_rounds test f g line h zero s = cut_same _
    cut_rounds test f g line h (suc n) s =
        cut_attempt line s.place _ _ _ λ v. passes (cut_pick (is_zero v) _ _ _ _ ends (cut_bind _ _ (cut_rounds test f g line h n) (h s)))

    cut_run : (c : Code) (s : State) → Cut (run d bits new o c s) (run d bits old o c s)
    unfolding run
    cut_run finish s = passes ends
    cut_run (read line l c) s = cut_attempt line s.place _ _ _ λ n. passes (cut_bind _ _ (cut_run c) (cut_same _))
    cut_run (assign line name node c) s = cut_attempt line s.place _ _ _ λ v. passes (cut_run c _)
    cut_run (map_read line m name c) s = cut_attempt line s.place _ _ _ λ g. gives (cut_run c _)
    cut_run (use_of line l c) s = cut_bind _ _ (cut_run c) (cut_used line l l.count s)
    cut_run (branch line node a b c) s =
        cut_attempt line s.place _ _ _ λ v. passes (cut_bind _ _ (cut_run c) (cut_pick (is_zero v) _ _ _ _ (cut_run b s) (cut_run a s)))
    cut_run (while line node most b c) s = cut_bind _ _ (cut_run c) (cut_rounds _ _ _ line (cut_run b) most s)

    cut_extensions : (es : List Extension) (s : State) → Cut (extensions d bits new o es s) (extensions d bits old o es s)
    unfolding extensions
    cut_extensions [] s = ends
    cut_extensions (e ∷ es) s =
        cut_pick (eqb e.class o.class) _ _ _ _
        (cut_attempt e.first s.place _ _ _ λ q.
        passes (cut_pick (eqb q o.window.end) _ _ _ _ ends (cut_bind _ _ (cut_extensions es) (cut_run (code d.lines e.first e.number) _))))
        (passes (cut_extensions es s))

    cut_content : (c : ℕ) (s : State) → Cut (content d bits new o c s) (content d bits old o c s)
    unfolding content
    cut_content zero s = ends
    cut_content (suc n) s =
        cut_bind _ _ (λ s. cut_bind _ _ (λ s. cut_extensions d.extensions s) (cut_run (code d.lines _ _) s)) (cut_run (code d.lines _ _) s)

  cut_object : (n line declared index : ℕ) (w : Window) (p : ℕ) → Cut (object_by d bits true n line declared index w p) (object_by d bits false n line declared index w p)
  unfolding object_by opened_by attempt
  cut_object zero line declared index w p = stopped
  cut_object (suc n) line declared index w p =
      cut_attempt line p (header bits w (class_at d declared) (greatest d declared) p) _ _ λ h.
      cut_ensure line p UnknownId _ _ _ _ (weaker (not (eqb (object_class d declared h.id) 0)) (not true) (not (eqb (greatest d declared) 0)))
      (gives (cut_bind _ _
      (λ s. cut_first line s.place _ _ _ λ u. cut_same _)
      (cut_content (object_by d bits true n) (object_by d bits false n) (cut_object n) _ (object_class d declared h.id) _)))

  cut_reading : Cut (tidy_reading d bits) (reading_by d bits false)
  unfolding reading_by
  cut_reading = cut_bind _ _ (λ t. cut_same _) (cut_object 16 0 d.top 0 (whole d bits) 0)

cut_ended : {A : Type 0} {t u : Run A} → Cut t u → outcome t ≡ ended → (items u ≡ items t) × (outcome u ≡ ended)
unfolding items outcome
cut_ended stopped e = let z : ◌≡◌ {A = ℕ} 0 1 = cc in let y : ⊥ = omega arith in absurd y
cut_ended ends e = (refl, refl)
cut_ended (gives {i} t) e = let c = cut_ended t e in (ap (λ (is : List Item). i ∷ is) c.0, c.1)
cut_ended (passes t) e = cut_ended t e

pub tidy_law : TidyLaw
tidy_law =
    record {
      plain = plain_reading;
      same = λ d bits e. subst (λ r. (items r ≡ items (tidy_reading d bits)) × (outcome r ≡ ended)) (plain_reading d bits) (cut_ended (cut_reading d bits) e);
    }
