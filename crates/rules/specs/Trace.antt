-- What a reading does: items handed out, silent steps, and how it ends.
use Rattle.std.specs.Prelude.{◌≡◌, List, [], ◌∷◌, refl}
use Rattle.std.proofs.Common.{ap}
use Rattle.rules.specs.declared.items.Item.{Item}
use Rattle.rules.specs.declared.faults.ReadingFault.{ReadingFault}

pub data Run (A : Type 0) : Type 0 where
  -- hands out an item, and goes on
  out : Item → Run A → Run A
  -- goes on without one
  pass : Run A → Run A
  -- is refused
  stop : ReadingFault → Run A
  -- has come to its end, with what the next needs
  done : A → Run A

-- one run and then another
unfoldable pub bind : {A B : Type 0} → Run A → (A → Run B) → Run B
bind (out i t) k = out i (bind t k)
bind (pass t) k = pass (bind t k)
bind (stop f) k = stop f
bind (done a) k = k a

pub bind_assoc : {A B C : Type 0} (t : Run A) (k : A → Run B) (h : B → Run C) → bind (bind t k) h ≡ bind t (λ a. bind (k a) h)
unfolding bind
bind_assoc (out i t) k h = ap (out i) (bind_assoc t k h)
bind_assoc (pass t) k h = ap pass (bind_assoc t k h)
bind_assoc (stop f) k h = refl
bind_assoc (done a) k h = refl

pub bind_done : {A : Type 0} (t : Run A) → bind t done ≡ t
unfolding bind
bind_done (out i t) = ap (out i) (bind_done t)
bind_done (pass t) = ap pass (bind_done t)
bind_done (stop f) = refl
bind_done (done a) = refl

-- the items, from the opening and in order
unfoldable pub items : {A : Type 0} → Run A → List Item
items (out i t) = i ∷ items t
items (pass t) = items t
items (stop f) = []
items (done a) = []

-- how a reading ends
pub data Outcome : Type 0 where
  ended : Outcome
  refused : ReadingFault → Outcome

unfoldable pub outcome : {A : Type 0} → Run A → Outcome
outcome (out i t) = outcome t
outcome (pass t) = outcome t
outcome (stop f) = refused f
outcome (done a) = ended
