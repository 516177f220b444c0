-- From what the lemmas say to what the calls left.
use Rattle.std.proofs.Common.{◌≡◌, ℕ, ◌<◌, Bool, List, ◌∷◌, length, sym, subst, arith}
use Rattle.table.specs.Description.{Description}
use Rattle.rules.specs.declared.items.Item.{Item}
use Rattle.records.specs.declared.statements.UseLine.{UseLine}
use Rattle.rules.specs.Trace.{Run}
use Rattle.rules.specs.Values.{Names}
use Rattle.rules.specs.Reading.{State, Object, Objects}
use Rattle.objects.specs.declared.frame.Frame.{Frame}
use Rattle.objects.specs.Ahead.{Inner, Fit}
use Rattle.objects.specs.Moves.{Quietly, Gives, Begins}

pub same-inner : {fs gs : List Frame} {e : ℕ} {m n : Names} → fs ≡ gs → m ≡ n
    → ◌≡◌ {A = Inner} (record { frames = fs; extension = e; names = m }) (record { frames = gs; extension = e; names = n })
same-inner {e = e} p q = λ i. record { frames = p i; extension = e; names = q i }

module _ {d : Description} {bits : List Bool} {o : Object} {from : Objects → Run State} {b c : Inner} where
  pub quietly_at : {q : ℕ} → b ≡ c → Quietly d bits o from q c → Quietly d bits o from q b
  quietly_at {q} e = subst (λ (x : Inner). Quietly d bits o from q x) (sym e)

  pub gives_at : {i : Item} {q : ℕ} → b ≡ c → Gives d bits o from i q c → Gives d bits o from i q b
  gives_at {i} {q} e = subst (λ (x : Inner). Gives d bits o from i q x) (sym e)

  pub begins_at : {p line : ℕ} {u : UseLine} {index : ℕ} → b ≡ c → Begins d bits o from p line u index c → Begins d bits o from p line u index b
  begins_at {p} {line} {u} {index} e = subst (λ (x : Inner). Begins d bits o from p line u index x) (sym e)

-- there is room below a frame that fits
pub room_under : (d : Description) (f : Frame) {gs hs : List Frame} → hs ≡ gs → Fit d (f ∷ gs) → length hs < 20
unfolding Fit
room_under d f {gs} e h =
    let l : length gs < 20 = omega (arith, h.0) in
    subst (λ (g : List Frame). length g < 20) (sym e) l

pub fit_under : (d : Description) (f : Frame) (gs : List Frame) → Fit d (f ∷ gs) → Fit d gs
unfolding Fit
fit_under d f gs h = h.2

pub room_two : (d : Description) (f g : Frame) (gs : List Frame) → Fit d (f ∷ g ∷ gs) → length gs < 19
unfolding Fit
room_two d f g gs h = omega (arith, h.0)
