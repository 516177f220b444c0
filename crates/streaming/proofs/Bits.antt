-- The bits of a page.
use Rattle.std.proofs.Common.{◌≡◌, ℕ, zero, suc, ◌+◌, ◌-◌, ◌*◌, ◌<◌, ◌≤◌, Bool, false, List, ◌++◌, length, get_or, replicate, ltb, sym, refl, ap, ◌∙◌, arith, ltb→lt, nltb→le}
use Rattle.std.proofs.lemmas.List.{length-append, get_or_past, get_or-append_right}
use Rattle.rules.proofs.Booleans.{decide}
use Rattle.roundtrip.proofs.Numbers.{zeros_number}
use lib.ListN.{length-replicate, get_or-append}
use Rattle.bits.specs.Bits.{number, part, bits_all, limited, limited-whole, longest, length-bits_all}
use Rattle.bits.specs.Get.{get_answer}
use Rattle.bits.specs.Make.{most_bytes}
use Rattle.bits.proofs.Gets.{get_front, get_back}
use Rattle.objects.specs.Likewise.{Alike}
use Rattle.streaming.specs.Pages.{Holds, page_bits, page_long}

zero_at : (n k : ℕ) → get_or (replicate n false) k false ≡ false
zero_at zero k = refl
zero_at (suc n) zero = refl
zero_at (suc n) (suc k) = zero_at n k

-- zero bits write 0
pub zeros_part : (c p n : ℕ) → 0 ≡ number (part (replicate c false) p n)
zeros_part c p n = sym (zeros_number (replicate c false) n p (λ k u v. zero_at c k))

module _ (total first : ℕ) (bytes : List ℕ) (inside : first + length bytes ≤ total) where
  abbrev front : List Bool
  front = replicate (8 * first) false

  abbrev back : List Bool
  back = replicate (8 * (total - first - length bytes)) false

  front_long : length front ≡ 8 * first
  front_long = length-replicate (8 * first) false

  own_long : length (bits_all 8 bytes) ≡ length bytes * 8
  own_long = length-bits_all 8 bytes

  -- what a page answers by its own bytes
  pub page_got : (p n : ℕ) → 8 * first ≤ p → p + n ≤ 8 * first + 8 * length bytes → get_answer (page_bits total first bytes) p n ≡ get_answer (bits_all 8 bytes) (p - 8 * first) n
  unfolding page_bits
  page_got p n h k =
      let f = front_long in
      let o = own_long in
      get_back front (bits_all 8 bytes ++ back) p n (omega arith)
      ∙ ap (λ m. get_answer (bits_all 8 bytes ++ back) (p - m) n) f
      ∙ get_front (bits_all 8 bytes) back (p - 8 * first) n (omega arith)

  -- and by a join
  pub page_joined : total ≤ most_bytes → limited (front ++ limited (bits_all 8 bytes ++ back)) ≡ page_bits total first bytes
  unfolding page_bits
  page_joined few =
      let l = page_long total first bytes inside in
      let a = length-append front (bits_all 8 bytes ++ back) in
      let short : length (front ++ (bits_all 8 bytes ++ back)) ≤ longest = omega arith in
      ap (λ (xs : List Bool). limited (front ++ xs)) (limited-whole (bits_all 8 bytes ++ back) (omega arith))
      ∙ limited-whole (front ++ (bits_all 8 bytes ++ back)) short

  -- bits that have the page's bytes agree with the page's from a place on, as far as its bytes reach
  pub page_alike : (B : List Bool) → length B ≡ 8 * total → Holds B first bytes → (p q : ℕ) → 8 * first ≤ p
      → ((k : ℕ) → k < q → k < 8 * total → k < 8 * first + 8 * length bytes) → Alike (page_bits total first bytes) B p q
  unfolding page_bits
  page_alike B long holds p q h reaches =
      record {
        long = page_long total first bytes inside ∙ sym long;
        agree = λ k u v. decide (ltb k (8 * total)) (λ t. within k u v (ltb→lt k (8 * total) t)) (λ t. past k (nltb→le k (8 * total) t));
      }
    where
      within : (k : ℕ) → p ≤ k → k < q → k < 8 * total → get_or (front ++ (bits_all 8 bytes ++ back)) k false ≡ get_or B k false
      within k u v l =
          let m = reaches k v l in
          let o = own_long in
          let e : 8 * first + (k - 8 * first) ≡ k = omega arith in
          get_or-append_right front (bits_all 8 bytes ++ back) (8 * first) k false front_long (omega arith)
          ∙ get_or-append (bits_all 8 bytes) back false (k - 8 * first) (omega arith)
          ∙ sym (holds (k - 8 * first) (omega arith) (omega arith))
          ∙ ap (λ n. get_or B n false) e

      past : (k : ℕ) → 8 * total ≤ k → get_or (front ++ (bits_all 8 bytes ++ back)) k false ≡ get_or B k false
      past k l =
          let o = page_long total first bytes inside in
          get_or_past (front ++ (bits_all 8 bytes ++ back)) k false (omega arith) ∙ sym (get_or_past B k false (omega arith))
