use Rattle.std.proofs.Common.{◌≡◌, ◌+◌, true, length, sym, refl, ap, ◌∙◌, subst, arith}
use Rattle.bits.specs.Bits.{bits_of, bits_all, limited, length-bits_of}
use Rattle.table.specs.Description.{Description, description}
use Rattle.table.specs.declared.loaded.Loaded.{Loaded}
use Rattle.roundtrip.specs.Own.{own_bits, end_of, pending, Sensible}
use Rattle.pending.specs.Owned.{Narrow}
use Rattle.pending.specs.Trial.{trial_bits}
use Rattle.objects.specs.Ahead.{Readable}
use Rattle.reading.specs.Offers.{Takes, Declines}
use Rattle.reading.specs.Walks.{Sound, EnclosedWalk}
use Rattle.writing.specs.Calls.{description_of}
use Rattle.roundtrip.proofs.Begun.{pending_long}
use Rattle.writing.proofs.Readies.{readable_of, sound_of, enclosed_of, short_of}
use Rattle.writing.proofs.Tried.{guessed, not_sensible, not_next, ready_still, goes_forward, lies_within, may_come, goes_on, ready_then, put_down, can_be_stored, stored_long}
use Rattle.writing.proofs.state.Writing.take.Goals as goal

narrow : (d : Description) → Readable d → Narrow d
narrow d r = record { ids = r.ids; maps = r.maps }

pub own_bits-requires : goal.own_bits-requires
own_bits-requires c =
    record { narrow = subst (λ (t : Loaded). Narrow (description t)) (sym c.tables.ensures.same) (narrow (description_of c.args.self.now) (readable_of c.args.self.now)) }

pub returns-in_default : goal.returns-in_default
returns-in_default c = (
  not_sensible c.args.self.now c.args.item (subst (λ (t : Loaded). Sensible (description t) c.args.item → ⊥) c.tables.ensures.same c.in_default.ensures),
  record { description = refl; total = refl; written = refl; ahead = λ B. refl; buffer_is = refl },
)

pub offer-requires-clause-sound : goal.offer-requires-clause-sound
offer-requires-clause-sound c = subst (λ (t : Loaded). Sound (description t) c.args.self.now.walk) (sym c.tables-2.ensures.same) (sound_of c.args.self.now)

pub offer-requires-clause-readable : goal.offer-requires-clause-readable
offer-requires-clause-readable c = subst (λ (t : Loaded). Readable (description t)) (sym c.tables-2.ensures.same) (readable_of c.args.self.now)

pub offer-requires-clause-enclosed : goal.offer-requires-clause-enclosed
offer-requires-clause-enclosed c =
    let w = c.args.self.now in
    let i = c.args.item in
    let own = c.in-Some.own in
    let d = description_of w in
    let owns : bits_of own.width own.value ≡ own_bits d i = c.in-Some.ensures.bits ∙ ap (λ (t : Loaded). own_bits (description t) i) c.tables.ensures.same in
    let g = guessed w i own.width own.value owns in
    subst (λ n. EnclosedWalk n w.walk) (sym (ap length g ∙ pending_long d w.total i)) (enclosed_of w)

pub invariant_of-self-then-not-offer : goal.invariant_of-self-then-not-offer
invariant_of-self-then-not-offer c =
    let w = c.args.self.now in
    let i = c.args.item in
    let own = c.in-Some.own in
    let d = description_of w in
    let owns : bits_of own.width own.value ≡ own_bits d i = c.in-Some.ensures.bits ∙ ap (λ (t : Loaded). own_bits (description t) i) c.tables.ensures.same in
    let g = guessed w i own.width own.value owns in
    let no : Declines d (pending d w.total i) w.walk i c.offer.new.self = subst (λ (X : Type 0). X) (λ t. Declines (description (c.tables-2.ensures.same t)) (g t) w.walk i c.offer.new.self) c.if-not-offer.ensures in
    record { ready = ∣ ready_still w i c.offer.new.self no ∣₁ }

pub returns-then-not-offer : goal.returns-then-not-offer
returns-then-not-offer c =
    let w = c.args.self.now in
    let i = c.args.item in
    let own = c.in-Some.own in
    let d = description_of w in
    let owns : bits_of own.width own.value ≡ own_bits d i = c.in-Some.ensures.bits ∙ ap (λ (t : Loaded). own_bits (description t) i) c.tables.ensures.same in
    let g = guessed w i own.width own.value owns in
    let no : Declines d (pending d w.total i) w.walk i c.offer.new.self = subst (λ (X : Type 0). X) (λ t. Declines (description (c.tables-2.ensures.same t)) (g t) w.walk i c.offer.new.self) c.if-not-offer.ensures in
    (not_next w i c.offer.new.self no, record { description = refl; total = refl; written = refl; ahead = no.resumes.ahead; buffer_is = refl })

pub overflow_add-end : goal.overflow_add-end
overflow_add-end c =
    let w = c.args.self.now in
    let i = c.args.item in
    let own = c.in-Some.own in
    let d = description_of w in
    let owns : bits_of own.width own.value ≡ own_bits d i = c.in-Some.ensures.bits ∙ ap (λ (t : Loaded). own_bits (description t) i) c.tables.ensures.same in
    let g = guessed w i own.width own.value owns in
    let takes : Takes d (pending d w.total i) w.walk i c.offer.new.self = subst (λ (X : Type 0). X) (λ t. Takes (description (c.tables-2.ensures.same t)) (g t) w.walk i c.offer.new.self) c.if-not-offer.ensures in
    let width : own.width ≡ length (own_bits d i) = sym (length-bits_of own.width own.value) ∙ ap length owns in
    let end : i.place + own.width ≡ end_of d i = ap (λ n. i.place + n) width in
    let within = lies_within w i c.offer.new.self takes in
    let short = short_of w in
    omega arith

pub invariant_of-self-2 : goal.invariant_of-self-2
invariant_of-self-2 c =
    let w = c.args.self.now in
    let i = c.args.item in
    let own = c.in-Some.own in
    let d = description_of w in
    let owns : bits_of own.width own.value ≡ own_bits d i = c.in-Some.ensures.bits ∙ ap (λ (t : Loaded). own_bits (description t) i) c.tables.ensures.same in
    let g = guessed w i own.width own.value owns in
    let takes : Takes d (pending d w.total i) w.walk i c.offer.new.self = subst (λ (X : Type 0). X) (λ t. Takes (description (c.tables-2.ensures.same t)) (g t) w.walk i c.offer.new.self) c.if-not-offer.ensures in
    let width : own.width ≡ length (own_bits d i) = sym (length-bits_of own.width own.value) ∙ ap length owns in
    let end : i.place + own.width ≡ end_of d i = ap (λ n. i.place + n) width in
    record { ready = ∣ ready_then w i c.offer.new.self takes (i.place + own.width) end ∣₁ }

pub returns : goal.returns
returns c =
    let w = c.args.self.now in
    let i = c.args.item in
    let own = c.in-Some.own in
    let d = description_of w in
    let owns : bits_of own.width own.value ≡ own_bits d i = c.in-Some.ensures.bits ∙ ap (λ (t : Loaded). own_bits (description t) i) c.tables.ensures.same in
    let g = guessed w i own.width own.value owns in
    let takes : Takes d (pending d w.total i) w.walk i c.offer.new.self = subst (λ (X : Type 0). X) (λ t. Takes (description (c.tables-2.ensures.same t)) (g t) w.walk i c.offer.new.self) c.if-not-offer.ensures in
    let width : own.width ≡ length (own_bits d i) = sym (length-bits_of own.width own.value) ∙ ap length owns in
    let end : i.place + own.width ≡ end_of d i = ap (λ n. i.place + n) width in
    let x = c.offer.new.self in
    let forward = goes_forward w i x takes in
    let within = lies_within w i x takes in
    let src = limited (trial_bits w.total i.place own.width own.value) in
    let long : length src ≡ w.total = ap length g ∙ pending_long d w.total i in
    let room = c.requires in
    let stores : c.store_bits.result ≡ true = c.store_bits.ensures.answer ∙ can_be_stored (length src) (length c.args.buffer.now) w.written (i.place + own.width) (omega arith) (omega arith) (omega arith) in
    let stored = rw stores at c.store_bits.ensures.stored in
    record {
      room = room;
      came = may_come w i x takes (sym c.is_neat.ensures ∙ c.if-not-is_neat.false);
      description = refl;
      total = refl;
      written = end;
      forward = forward;
      within = within;
      goes_on = goes_on w i x takes;
      long = stored_long c.store_bits.new.buffer c.args.buffer.now src w.written (i.place + own.width) (omega arith) (omega arith) (omega arith) stored;
      bits = stored ∙ put_down w i x takes (bits_all 8 c.args.buffer.now) src (i.place + own.width) g end;
    }
