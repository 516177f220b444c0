-- What a reading hands out, from what lies ahead.
use Rattle.std.proofs.Common.{◌≡◌, ℕ, zero, suc, Some, None, Ok, Err, Option, Result, sym, refl, ap, ◌∙◌, subst}
use Rattle.rules.specs.declared.items.Item.{Item}
use Rattle.rules.specs.declared.faults.ReadingFault.{ReadingFault}
use Rattle.rules.specs.Trace.{Run, out, pass, stop, done}
use Rattle.objects.specs.Passed.{passed}
use Rattle.reading.specs.Reads.{held, skipped, Next, Told}

pub held_none : (f : Option ReadingFault) (t : Run (Unit {0})) → f ≡ None → held f t ≡ t
held_none f t e = subst (λ (x : Option ReadingFault). held x t ≡ t) (sym e) refl

pub held_some : (f : Option ReadingFault) (g : ReadingFault) (t : Run (Unit {0})) → f ≡ Some g → held f t ≡ stop g
held_some f g t e = subst (λ (x : Option ReadingFault). held x t ≡ stop g) (sym e) refl

skipped_passed : (n : ℕ) (t : Run (Unit {0})) → skipped (passed n t) ≡ skipped t
unfolding skipped
skipped_passed zero t = refl
skipped_passed (suc n) t = skipped_passed n t

pub skipped_pass : (a b : Run (Unit {0})) (n : ℕ) → a ≡ passed n (pass b) → skipped a ≡ skipped b
unfolding skipped
skipped_pass a b n e = ap skipped e ∙ skipped_passed n (pass b)

pub skipped_out : (a b : Run (Unit {0})) (i : Item) (n : ℕ) → a ≡ passed n (out i b) → skipped a ≡ out i b
unfolding skipped
skipped_out a b i n e = ap skipped e ∙ skipped_passed n (out i b)

pub skipped_stop : (a : Run (Unit {0})) (f : ReadingFault) (n : ℕ) → a ≡ passed n (stop f) → skipped a ≡ stop f
unfolding skipped
skipped_stop a f n e = ap skipped e ∙ skipped_passed n (stop f)

pub skipped_done : (a : Run (Unit {0})) (n : ℕ) → a ≡ passed n (done tt) → skipped a ≡ done tt
unfolding skipped
skipped_done a n e = ap skipped e ∙ skipped_passed n (done tt)

skip_next : (a : Run (Unit {0})) (r : Result (Option Item) ReadingFault) (b : Run (Unit {0})) → Next (skipped a) r b → Next a r b
unfolding skipped
skip_next (out i t) r b h = h
skip_next (pass t) r b h = skip_next t r b h
skip_next (stop f) r b h = h
skip_next (done u) r b h = h

-- what was handed out says what lay ahead
pub told_next : (a : Run (Unit {0})) (r : Result (Option Item) ReadingFault) (b : Run (Unit {0})) → Told a r b → Next a r b
told_next a (Ok (Some i)) b h = skip_next a (Ok (Some i)) b (subst (λ (x : Run (Unit {0})). Next x (Ok (Some i)) b) (sym h) (refl, refl))
told_next a (Ok None) b h = skip_next a (Ok None) b (subst (λ (x : Run (Unit {0})). Next x (Ok None) b) (sym h.0) (refl, h.1))
told_next a (Err f) b h = skip_next a (Err f) b (subst (λ (x : Run (Unit {0})). Next x (Err f) b) (sym h.0) (refl, h.1))
