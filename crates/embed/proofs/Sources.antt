-- Sources, from what their makers promise.
use Rattle.std.proofs.Common.{◌≡◌, ℕ, ◌+◌, ◌*◌, ◌<◌, ◌≤◌, Bool, true, false, cond, ltb, List, ◌++◌, length, Some, None, Ok, Err, Result, sym, ap, ap₂, ◌∙◌, arith}
use Rattle.std.proofs.lemmas.Bool.Decides.{nat_tests}
use Rattle.bits.specs.Bits.{part, longest}
use Rattle.bits.specs.Make.{Makes, most_bytes}
use Rattle.bits.specs.Units.{length-units_bits}
use Rattle.bits.specs.declared.refusal.Refusal.{Refusal}
use Rattle.bits.specs.declared.refusal.Refusal.TheVariants.{TooLong, Outside}
use Rattle.embed.specs.Sources.{Gives, too_long, byte_bits, no_window}

within : (limit size : ℕ) → size ≤ limit → too_long limit size ≡ None
within limit size h = let t : ltb limit size ≡ false = grind (arith, nat_tests) in ap (λ b. cond b (Some TooLong) None) t

above : (limit size : ℕ) → limit < size → too_long limit size ≡ Some TooLong
above limit size h = let t : ltb limit size ≡ true = grind (arith, nat_tests) in ap (λ b. cond b (Some TooLong) None) t

module _ {S : Type 0} (bits : S → List Bool) where
  pub units_give : (m : Result S Refusal) (wanted : List Bool) (size limit : ℕ) → Makes m bits wanted size limit TooLong → Gives m bits wanted (too_long limit size)
  units_give (Ok s) wanted size limit h = (h.0, within limit size h.1)
  units_give (Err e) wanted size limit h = above limit size h.1 ∙ ap Some (sym h.0)

  -- a window over bytes that are a source
  pub window_gives : (m : Result S Refusal) (inner : List Bool) (bytes : List ℕ) (first count : ℕ) → inner ≡ byte_bits bytes → length bytes ≤ most_bytes
      → Makes m bits (part inner first count) (first + count) (length inner) Outside
      → Gives m bits (part (byte_bits bytes) first count) (no_window (length bytes) first count)
  window_gives m inner bytes first count e few h = by_end m h
    where
      long : length inner ≡ length bytes * 8
      long = ap (λ (l : List Bool). length l) e ∙ length-units_bits 8 (λ b. b) bytes

      reached : (b : Bool) → ltb (length bytes * 8) (first + count) ≡ b → no_window (length bytes) first count ≡ cond b (Some Outside) None
      reached b t =
          let a : ltb most_bytes (length bytes) ≡ false = grind (arith, nat_tests) in
          ap (λ (x : Bool). cond x (Some TooLong) (cond (ltb (length bytes * 8) (first + count)) (Some Outside) None)) a
          ∙ ap (λ (x : Bool). cond x (Some Outside) None) t

      by_end : (n : Result S Refusal) → Makes n bits (part inner first count) (first + count) (length inner) Outside
          → Gives n bits (part (byte_bits bytes) first count) (no_window (length bytes) first count)
      by_end (Ok w) k =
          let in_it = k.1 in
          let l = long in
          let t : ltb (length bytes * 8) (first + count) ≡ false = grind (arith, nat_tests) in
          (k.0 ∙ ap (λ (x : List Bool). part x first count) e, reached false t)
      by_end (Err f) k =
          let past = k.1 in
          let l = long in
          let t : ltb (length bytes * 8) (first + count) ≡ true = grind (arith, nat_tests) in
          reached true t ∙ ap Some (sym k.0)

  -- a join of two sources of bytes
  pub join_gives : (m : Result S Refusal) (front back : List ℕ) (f b : List Bool) → f ≡ byte_bits front → b ≡ byte_bits back
      → Makes m bits (f ++ b) (length f + length b) longest TooLong
      → Gives m bits (byte_bits front ++ byte_bits back) (too_long most_bytes (length front + length back))
  join_gives (Ok j) front back f b e g h =
      let in_it = h.1 in
      let x : length f ≡ length front * 8 = ap (λ (l : List Bool). length l) e ∙ length-units_bits 8 (λ b. b) front in
      let y : length b ≡ length back * 8 = ap (λ (l : List Bool). length l) g ∙ length-units_bits 8 (λ b. b) back in
      (h.0 ∙ ap₂ ◌++◌ e g, within most_bytes (length front + length back) (omega arith))
  join_gives (Err r) front back f b e g h =
      let past = h.1 in
      let x : length f ≡ length front * 8 = ap (λ (l : List Bool). length l) e ∙ length-units_bits 8 (λ b. b) front in
      let y : length b ≡ length back * 8 = ap (λ (l : List Bool). length l) g ∙ length-units_bits 8 (λ b. b) back in
      above most_bytes (length front + length back) (omega arith) ∙ ap Some (sym h.0)
