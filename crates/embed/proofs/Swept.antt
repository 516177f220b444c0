-- Many gets of a source that was made.
use Rattle.std.proofs.Common.{◌≡◌, ℕ, ◌+◌, ◌%◌, Bool, List, Ok, Err, Option, Result, refl, sym, ap, ◌∙◌, add-one}
use Rattle.std.specs.Prelude.{bit_xor}
use Rattle.bits.specs.declared.refusal.Refusal.{Refusal}
use Rattle.bits.specs.Get.{get_answer}
use Rattle.embed.specs.Sources.{Gives}
use Rattle.embed.specs.Gets.{places_swept, rounds_swept, swept, swept_of, taken}

pub swept_by : {S : Type 0} (bits : S → List Bool) (wanted : List Bool) (refusal : Option Refusal) (rounds : ℕ) (m : Result S Refusal)
    → Gives m bits wanted refusal → swept_of bits m rounds ≡ swept wanted refusal rounds
swept_by bits wanted refusal rounds (Ok s) h = ap (λ (l : List Bool). rounds_swept l rounds) h.0 ∙ ap (λ (o : Option Refusal). swept wanted o rounds) (sym h.1)
swept_by bits wanted refusal rounds (Err e) h = ap (λ (o : Option Refusal). swept wanted o rounds) (sym h)

-- one place more, and one round more
pub no_place : (bits : List Bool) (round before : ℕ) → before ≡ places_swept bits round before 0
unfolding places_swept
no_place bits round before = refl

pub one_place : (bits : List Bool) (round before n : ℕ)
    → taken (places_swept bits round before n) (get_answer bits n (1 + bit_xor n round % 32)) ≡ places_swept bits round before (n + 1)
unfolding places_swept
one_place bits round before n = ap (places_swept bits round before) (sym (add-one n))

pub no_round : (bits : List Bool) → 0 ≡ rounds_swept bits 0
unfolding rounds_swept
no_round bits = refl

pub one_round : (bits : List Bool) (n : ℕ) → places_swept bits n (rounds_swept bits n) 8000 ≡ rounds_swept bits (n + 1)
unfolding rounds_swept
one_round bits n = ap (rounds_swept bits) (sym (add-one n))
