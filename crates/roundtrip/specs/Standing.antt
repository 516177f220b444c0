-- Where a writing stands: what a reading does from a place on, over any bits of its length.
use Rattle.std.specs.Prelude.{◌≡◌, ℕ, suc, ◌<◌, ◌≤◌, Bool, false, ◌⊎◌, List, [], ◌∷◌, length, drop, ◌≢◌, slice_index_or}
use Rattle.rules.specs.declared.items.Item.{Item}
use Rattle.rules.specs.declared.faults.ReadingFault.{ReadingFault}
use Rattle.rules.specs.Trace.{Run, out, pass, stop, done}
use Rattle.table.specs.Description.{Description}
use Rattle.records.specs.declared.records.Extension.{Extension}
use Rattle.rules.specs.declared.steps.Window.{Window}
use Rattle.rules.specs.Code.{Code}
use Rattle.rules.specs.Reading.{State, Object, run, extensions, content}
use Rattle.rules.specs.Tidy.{object_by}
use Rattle.roundtrip.specs.Own.{own_bits, end_of, Sensible}

-- what comes next of a run, its silent steps passed over
pub data Head (A : Type 0) : Type 0 where
  gives : Item → Run A → Head A
  halts : ReadingFault → Head A
  ends : A → Head A

unfoldable pub head : {A : Type 0} → Run A → Head A
head (out i t) = gives i t
head (pass t) = head t
head (stop f) = halts f
head (done a) = ends a

abbrev pub Halted : {A : Type 0} → Head A → Type 0
Halted (gives i t) = ⊥
Halted (halts f) = Unit {0}
Halted (ends a) = ⊥

-- a run that hands out some items and then goes on as another
pub data Leads {A : Type 0} : List Item → Run A → Run A → Type 0 where
  here : {t : Run A} → Leads [] t t
  next : {i : Item} {is : List Item} {t r u : Run A} → head t ≡ gives i r → Leads is r u → Leads (i ∷ is) t u

-- a run for any bits
abbrev pub Fam : Type 0 → Type 0
Fam A = List Bool → Run A

-- the bits from p to q are 0
abbrev pub Zeros : List Bool → (p q : ℕ) → Type 0
Zeros bits p q = (k : ℕ) → p ≤ k → k < q → slice_index_or bits k false ≡ false

-- these bits stand at a place
abbrev pub Has : List Bool → (p : ℕ) → List Bool → Type 0
Has bits p [] = Unit {0}
Has bits p (x ∷ xs) = (slice_index_or bits p false ≡ x) × Has bits (suc p) xs

-- what putting an item at p appends stands there
abbrev pub Fits : Description → (p : ℕ) → Item → List Bool → Type 0
Fits d p i bits = Zeros bits p i.place × Has bits i.place (own_bits d i)

-- how a family stands at p, over bits of length L; `end` is the place where a run is done, at most `most`:
-- it stops over all bits;
-- or it ends in one way, over all bits where it doesn't stop, and it does so where the bits up to the end are 0;
-- or, if it hands out an item over some bits, it does so over any bits that have what putting the item appends,
-- and then stands, at that end, as the item alone says.
module _ (d : Description) (L : ℕ) where
  pub data Stands {A : Type 0} (end : A → ℕ) (most : ℕ) : ℕ → Fam A → Type 0 where
    stuck : {p : ℕ} {F : Fam A} → ((B : List Bool) → length B ≡ L → Halted (head (F B))) → Stands end most p F
    quiet : {p : ℕ} {F : Fam A} (a : A) → p ≤ end a → end a ≤ most →
        ((B : List Bool) → length B ≡ L → Halted (head (F B)) ⊎ (head (F B) ≡ ends a)) →
        ((B : List Bool) → length B ≡ L → Zeros B p (end a) → head (F B) ≡ ends a) → Stands end most p F
    hands : {p : ℕ} {F : Fam A} (K : Item → Fam A) →
        ((B : List Bool) → length B ≡ L → (a : A) → head (F B) ≢ ends a) →
        ((B : List Bool) (i : Item) (r : Run A) → length B ≡ L → head (F B) ≡ gives i r →
        (p ≤ i.place) × (end_of d i ≤ L) × Sensible d i × ((B' : List Bool) → length B' ≡ L → Fits d p i B' → head (F B') ≡ gives i (K i B'))) →
        ((B : List Bool) (i : Item) (r : Run A) → length B ≡ L → head (F B) ≡ gives i r → Stands end most (end_of d i) (K i)) →
        Stands end most p F

-- a family that looks at no bits before p
abbrev pub Unseen : {A : Type 0} → ℕ → Fam A → Type 0
Unseen p F = (B C : List Bool) → length B ≡ length C → drop p B ≡ drop p C → F B ≡ F C

-- what a reading does from a place on, up to the window's end, doesn't depend on the bits before it
pub record Local (d : Description) (tidy : Bool) (n : ℕ) : Type 0 where
  pub of_object : (line declared index : ℕ) (w : Window) (p : ℕ) → p ≤ w.end → Unseen p (λ B. object_by d B tidy n line declared index w p)
  pub of_run : (o : Object) (c : Code) (s : State) → s.place ≤ o.window.end → Unseen s.place (λ B. run d B (object_by d B tidy n) o c s)
  pub of_extensions : (o : Object) (es : List Extension) (s : State) → s.place ≤ o.window.end →
      Unseen s.place (λ B. extensions d B (object_by d B tidy n) o es s)
  pub of_content : (o : Object) (c : ℕ) (s : State) → s.place ≤ o.window.end → Unseen s.place (λ B. content d B (object_by d B tidy n) o c s)

abbrev pub LocalLaw : Type 0
LocalLaw = (d : Description) (tidy : Bool) (n : ℕ) → Local d tidy n
