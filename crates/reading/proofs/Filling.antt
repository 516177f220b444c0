-- A table that is being filled.
use Rattle.std.proofs.Common.{◌≡◌, ℕ, suc, ◌+◌, ◌-◌, ◌<◌, ◌≤◌, List, [], ◌∷◌, ◌++◌, length, take, drop, set, Some, Option, sym, refl, ap, ◌∙◌, ap₂, append_assoc, append-nil, arith, length-set, take-append-drop, length-take-le}
use native.Mathlib.Nat.{sub-zero}
use Rattle.std.proofs.lemmas.List.{drop-drop, drop-set-lt, take_more_set}
use Rattle.rules.specs.declared.items.Item.{Item}
use Rattle.rules.specs.declared.faults.ReadingFault.{ReadingFault}
use Rattle.rules.specs.Trace.{Run, out, pass, stop, done}
use Rattle.reading.specs.declared.next.Filled.{Filled}
use Rattle.reading.specs.declared.next.Filled.TheVariants.{Full, End, Refused}
use Rattle.reading.specs.Reads.{skipped}
use Rattle.reading.specs.Positions.{latest}
use Rattle.reading.specs.Fills.{first_items, ends_as, ahead_after, Fills}

skip_items : (m : ℕ) (t : Run (Unit {0})) → first_items (suc m) t ≡ first_items (suc m) (skipped t)
unfolding first_items skipped
skip_items m (out i t) = refl
skip_items m (pass t) = skip_items m t
skip_items m (stop f) = refl
skip_items m (done u) = refl

skip_ends : (m : ℕ) (t : Run (Unit {0})) → ends_as (suc m) t ≡ ends_as (suc m) (skipped t)
unfolding ends_as skipped
skip_ends m (out i t) = refl
skip_ends m (pass t) = skip_ends m t
skip_ends m (stop f) = refl
skip_ends m (done u) = refl

skip_after : (m : ℕ) (t : Run (Unit {0})) → ahead_after (suc m) t ≡ ahead_after (suc m) (skipped t)
unfolding ahead_after skipped
skip_after m (out i t) = refl
skip_after m (pass t) = skip_after m t
skip_after m (stop f) = refl
skip_after m (done u) = refl

-- after so many items, with more room to fill
pub record Filling (before : Run (Unit {0})) (first : Option Item) (table : List Item) (count : ℕ) (filled : List Item) (now : Run (Unit {0})) (last : Option Item) : Type 0 where
  pub few : count ≤ length table
  pub long : length filled ≡ length table
  pub items : first_items (length table) before ≡ take count filled ++ first_items (length table - count) now
  pub others : drop count filled ≡ drop count table
  pub ends : ends_as (length table) before ≡ ends_as (length table - count) now
  pub after : ahead_after (length table) before ≡ ahead_after (length table - count) now
  pub latest_is : latest first (first_items (length table) before) ≡ latest last (first_items (length table - count) now)

pub filling_starts : (before : Run (Unit {0})) (first : Option Item) (table : List Item) → Filling before first table 0 table before first
filling_starts before first table =
    record {
      few = omega arith;
      long = refl;
      items = rw sub-zero refl;
      others = refl;
      ends = rw sub-zero refl;
      after = rw sub-zero refl;
      latest_is = rw sub-zero refl;
    }

module _ (before : Run (Unit {0})) (first : Option Item) (table : List Item) (count : ℕ) (filled : List Item) (now : Run (Unit {0})) (last : Option Item) (f : Filling before first table count filled now last) where
  module _ (room : count < length table) where
    left : length table - count ≡ suc (length table - (count + 1))
    left = omega arith

    pub filling_goes : (i : Item) (then : Run (Unit {0})) → skipped now ≡ out i then → Filling before first table (count + 1) (set filled count i) then (Some i)
    unfolding first_items ends_as ahead_after
    filling_goes i then e =
        let m = length table - (count + 1) in
        let k : count < length filled = omega (arith, f.long) in
        let lt : count < count + 1 = omega arith in
        record {
          few = omega arith;
          long = length-set filled count i ∙ f.long;
          items =
              f.items
              ∙ ap (λ n. take count filled ++ first_items n now) left
              ∙ ap (λ (xs : List Item). take count filled ++ xs) (skip_items m now ∙ ap (first_items (suc m)) e)
              ∙ sym (append_assoc (take count filled) (i ∷ []) (first_items m then))
              ∙ ap (λ (xs : List Item). xs ++ first_items m then) (sym (take_more_set filled count i k));
          others =
              drop-set-lt (count + 1) filled count i lt
              ∙ sym (drop-drop 1 count filled) ∙ ap (drop 1) f.others ∙ drop-drop 1 count table;
          ends = f.ends ∙ ap (λ n. ends_as n now) left ∙ skip_ends m now ∙ ap (ends_as (suc m)) e;
          after = f.after ∙ ap (λ n. ahead_after n now) left ∙ skip_after m now ∙ ap (ahead_after (suc m)) e;
          latest_is = f.latest_is ∙ ap (λ n. latest last (first_items n now)) left ∙ ap (latest last) (skip_items m now ∙ ap (first_items (suc m)) e);
        }

  closes : (how : Filled) (then : Run (Unit {0})) → first_items (length table - count) now ≡ [] → ends_as (length table - count) now ≡ how
      → ahead_after (length table - count) now ≡ then → Fills before table count how filled then
  closes how then a b c =
      let items : first_items (length table) before ≡ take count filled = f.items ∙ ap (λ (xs : List Item). take count filled ++ xs) a ∙ append-nil (take count filled) in
      let k : count ≤ length filled = omega (arith, f.few, f.long) in
      record {
        count_is = sym (ap length items ∙ length-take-le count filled k);
        ends = sym (f.ends ∙ b);
        items = sym (take-append-drop count filled) ∙ ap₂ ◌++◌ (sym items) f.others;
        ahead = sym (f.after ∙ c);
      }

  pub filled_full : length table ≤ count → Fills before table count Full filled now
  unfolding first_items ends_as ahead_after
  filled_full h =
      let z : length table - count ≡ 0 = omega arith in
      closes Full now (ap (λ n. first_items n now) z) (ap (λ n. ends_as n now) z) (ap (λ n. ahead_after n now) z)

  module _ (room : count < length table) where
    more : length table - count ≡ suc (length table - (count + 1))
    more = omega arith

    pub filled_end : (then : Run (Unit {0})) → skipped now ≡ done tt → then ≡ done tt → Fills before table count End filled then
    unfolding first_items ends_as ahead_after
    filled_end then e d =
        let m = length table - (count + 1) in
        closes End then
        (ap (λ n. first_items n now) more ∙ skip_items m now ∙ ap (first_items (suc m)) e)
        (ap (λ n. ends_as n now) more ∙ skip_ends m now ∙ ap (ends_as (suc m)) e)
        (ap (λ n. ahead_after n now) more ∙ skip_after m now ∙ ap (ahead_after (suc m)) e ∙ sym d)

    pub filled_refused : (g : ReadingFault) (then : Run (Unit {0})) → skipped now ≡ stop g → then ≡ stop g → Fills before table count (Refused g) filled then
    unfolding first_items ends_as ahead_after
    filled_refused g then e d =
        let m = length table - (count + 1) in
        closes (Refused g) then
        (ap (λ n. first_items n now) more ∙ skip_items m now ∙ ap (first_items (suc m)) e)
        (ap (λ n. ends_as n now) more ∙ skip_ends m now ∙ ap (ends_as (suc m)) e)
        (ap (λ n. ahead_after n now) more ∙ skip_after m now ∙ ap (ahead_after (suc m)) e ∙ sym d)

    no_more : {then : Run (Unit {0})} → skipped now ≡ then → ((m : ℕ) → first_items (suc m) then ≡ []) → last ≡ latest first (first_items (length table) before)
    no_more e z =
        let m = length table - (count + 1) in
        sym (f.latest_is ∙ ap (λ n. latest last (first_items n now)) more ∙ ap (latest last) (skip_items m now ∙ ap (first_items (suc m)) e ∙ z m))

    pub last_end : skipped now ≡ done tt → last ≡ latest first (first_items (length table) before)
    unfolding first_items
    last_end e = no_more e (λ m. refl)

    pub last_refused : (g : ReadingFault) → skipped now ≡ stop g → last ≡ latest first (first_items (length table) before)
    unfolding first_items
    last_refused g e = no_more e (λ m. refl)

  pub last_full : length table ≤ count → last ≡ latest first (first_items (length table) before)
  unfolding first_items
  last_full h =
      let z : length table - count ≡ 0 = omega arith in
      sym (f.latest_is ∙ ap (λ n. latest last (first_items n now)) z)
