-- An object at its beginning.
use Rattle.std.proofs.Common.{◌≡◌, ℕ, zero, suc, ◌<◌, ◌≤◌, [], ◌∷◌, length, get_or, replicate, pos, sym, refl, subst, arith}
use mathlib.Core.Path.{fun_ext}
use Rattle.std.proofs.lemmas.List.{drop_all}
use Rattle.records.specs.declared.records.Class.{Class}
use Rattle.table.specs.Description.{Description, entry, class_at}
use Rattle.rules.specs.Code.{code}
use Rattle.rules.specs.Reading.{content, extensions, all_zero}
use Rattle.values.specs.Names.{named_by}
use Rattle.objects.specs.declared.frame.Frame.TheVariants.{Lines}
use Rattle.objects.specs.Ahead.{content_run, frame_run, height, wants, Fit, Readable}
use Rattle.objects.specs.Starts.{Begun}

zero_at : (n m : ℕ) → get_or (replicate n (pos 0)) m (pos 0) ≡ pos 0
zero_at zero m = refl
zero_at (suc n) zero = refl
zero_at (suc n) (suc m) = zero_at n m

zero_named : (n m : ℕ) → named_by (replicate n (pos 0)) m ≡ pos 0
unfolding entry
zero_named n zero = refl
zero_named n (suc m) = zero_at n m

pub zeros : (n : ℕ) → named_by (replicate n (pos 0)) ≡ all_zero
zeros n = fun_ext (zero_named n)

pub begun_none : (d : Description) (class n : ℕ) → class ≡ 0 → length d.extensions ≤ n
    → Begun d class (record { frames = []; extension = n; names = all_zero })
unfolding content content_run extensions Fit
begun_none d class n z h =
    record {
      same = λ bits o p obj. rw (z, drop_all n d.extensions h) refl;
      fit = tt;
    }

pub begun_some : (d : Description) (class : ℕ) (own base : Class) → 0 < class → own ≡ class_at d class → base ≡ class_at d own.base → Readable d
    → Begun d class (record { frames = Lines base.first base.number ∷ Lines own.first own.number ∷ []; extension = 0; names = all_zero })
unfolding content content_run frame_run Fit wants
begun_some d zero own base h e f r = absurd (omega arith)
begun_some d (suc n) own base h e f r =
    let a = r.classes (suc n) in
    let b = r.classes own.base in
    let k : height (code d.lines own.first own.number) ≤ 17 = subst (λ (x : Class). height (code d.lines x.first x.number) ≤ 17) (sym e) a in
    let l : height (code d.lines base.first base.number) ≤ 17 = subst (λ (x : Class). height (code d.lines x.first x.number) ≤ 17) (sym f) b in
    record {
      same = λ bits o p obj. rw (f, e) refl;
      fit = (omega arith, tt, (omega arith, tt, tt));
    }
