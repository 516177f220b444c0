-- What an answer of a call tells of what lay ahead.
use Rattle.std.proofs.Common.{◌≡◌, List, [], ◌∷◌, ◌++◌, Some, None, Ok, Err, sym, refl, ap, ◌∙◌}
use Rattle.rules.specs.declared.items.Item.{Item}
use Rattle.rules.specs.declared.faults.ReadingFault.{ReadingFault}
use Rattle.rules.specs.Trace.{Run, out, pass, stop, done, items, outcome, ended, refused}
use Rattle.reading.specs.Walks.{Answer}
use Rattle.reading.specs.Calls.{given}
use Rattle.reading.specs.Histories.{tells}
use Rattle.reading.specs.Reads.{skipped, Told}

-- silent steps hand out nothing
pub skip_items : (t : Run (Unit {0})) → items t ≡ items (skipped t)
unfolding items skipped
skip_items (out i t) = refl
skip_items (pass t) = skip_items t
skip_items (stop f) = refl
skip_items (done u) = refl

pub skip_outcome : (t : Run (Unit {0})) → outcome t ≡ outcome (skipped t)
unfolding outcome skipped
skip_outcome (out i t) = refl
skip_outcome (pass t) = skip_outcome t
skip_outcome (stop f) = refl
skip_outcome (done u) = refl

-- one call of `next`
pub told_items : (t : Run (Unit {0})) (a : Answer) (u : Run (Unit {0})) → Told t a u → items t ≡ given a ++ items u
unfolding items
told_items t (Ok (Some i)) u e = skip_items t ∙ ap items e
told_items t (Ok None) u e = skip_items t ∙ ap items e.0 ∙ sym (ap items e.1)
told_items t (Err f) u e = skip_items t ∙ ap items e.0 ∙ sym (ap items e.1)

pub told_outcome : (t : Run (Unit {0})) (a : Answer) (u : Run (Unit {0})) → Told t a u → outcome t ≡ outcome u
unfolding outcome
told_outcome t (Ok (Some i)) u e = skip_outcome t ∙ ap outcome e
told_outcome t (Ok None) u e = skip_outcome t ∙ ap outcome e.0 ∙ sym (ap outcome e.1)
told_outcome t (Err f) u e = skip_outcome t ∙ ap outcome e.0 ∙ sym (ap outcome e.1)

-- at the end or a fault nothing is left
pub none_left : (t : Run (Unit {0})) (u : Run (Unit {0})) → Told t (Ok None) u → (items t ≡ []) × (outcome t ≡ ended)
unfolding items outcome
none_left t u e = (skip_items t ∙ ap items e.0, skip_outcome t ∙ ap outcome e.0)

pub fault_left : (f : ReadingFault) (t : Run (Unit {0})) (u : Run (Unit {0})) → Told t (Err f) u → (items t ≡ []) × (outcome t ≡ refused f)
unfolding items outcome
fault_left f t u e = (skip_items t ∙ ap items e.0, skip_outcome t ∙ ap outcome e.0)

-- while an item is left, it is the answer
pub first_answered : (t : Run (Unit {0})) (a : Answer) (u : Run (Unit {0})) (i : Item) (left : List Item) → items t ≡ i ∷ left → Told t a u → a ≡ Ok (Some i)
first_answered t (Ok (Some j)) u i left e h = let q = told_items t (Ok (Some j)) u h in cc
first_answered t (Ok None) u i left e h = let q = (none_left t u h).0 in cc
first_answered t (Err f) u i left e h = let q = (fault_left f t u h).0 in cc

pub end_answered : (t : Run (Unit {0})) (a : Answer) (u : Run (Unit {0})) → items t ≡ [] → Told t a u → a ≡ tells (outcome t)
end_answered t (Ok (Some j)) u e h = let q = told_items t (Ok (Some j)) u h in cc
end_answered t (Ok None) u e h = sym (ap tells (none_left t u h).1)
end_answered t (Err f) u e h = sym (ap tells (fault_left f t u h).1)
