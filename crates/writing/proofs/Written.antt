-- What a writing has written, by its history.
use Rattle.std.proofs.Common.{◌≡◌, ℕ, ◌+◌, ◌-◌, ◌≤◌, Bool, false, List, [], ◌∷◌, ◌++◌, length, take, drop, replicate, sym, refl, ap, ◌∙◌, subst, append_assoc, arith, length-append}
use Rattle.std.proofs.lemmas.List.{append-nil}
use lib.ListN.{length-replicate}
use lib.Seq.{take-append_seam}
use Rattle.bits.specs.Bits.{bits_all}
use Rattle.table.specs.Description.{Description}
use Rattle.checked.specs.Check.{first_fault}
use Rattle.rules.specs.declared.items.Item.{Item}
use Rattle.rules.specs.Growth.{Begins, Grown}
use Rattle.rules.specs.Passed.{PassesCheck}
use Rattle.rules.specs.Reading.{reading}
use Rattle.rules.specs.Tidy.{reading_by}
use Rattle.rules.specs.Trace.{Run, items, outcome, ended}
use Rattle.rules.proofs.Plain.{plain_reading}
use Rattle.roundtrip.specs.Own.{own_bits, end_of, pending}
use Rattle.roundtrip.specs.Rule.{MayFollow, PutDown, none, more, AllPut}
use Rattle.roundtrip.specs.Standing.{head, gives, ends, Fam, Zeros, Fits, Leads, Stands}
use Rattle.roundtrip.specs.Writing.{Straight, appended, Ahead}
use Rattle.roundtrip.proofs.Begun.{pending_long, pending-fits, overlay_long, overlay_fits, zeros_after}
use Rattle.roundtrip.proofs.Bridge.{newer_law}
use Rattle.roundtrip.proofs.Heads.{stands_same}
use Rattle.roundtrip.proofs.Round.{leads_more, leads_items, leads_outcome, head-after, head-ends, moved, start}
use Rattle.writing.specs.declared.state.Writing.{Writing}
use Rattle.writing.specs.Calls.{description_of, ahead_of, Puts, Stays, MayCome, Finishes}
use Rattle.writing.specs.Histories.{Wrote, opened, put, put_refused, finish_refused, Finished, finished, left_bits}
use Rattle.writing.specs.Laws.{Writes}
use Rattle.writing.proofs.Aheads.{no_fault}
use Rattle.writing.proofs.Readies.{straight_of, stands_of}

-- a family in other words
ahead_as : (d : Description) (L : ℕ) (is : List Item) (bits : List Bool) (F G : Fam (Unit {0})) → ((B : List Bool) → F B ≡ G B) → Ahead d L false is bits F → Ahead d L false is bits G
ahead_as d L is bits F G e a =
    record {
      short = a.short;
      stands = stands_same d L F G (λ B l. e B) a.stands;
      leads = λ B l b. subst (Leads is (reading_by d B false)) (e B) (a.leads B l b);
    }

module _ (d : Description) (L : ℕ) where
  -- what holds after a history
  pub record Holds (w : Writing) (buffer : List ℕ) (is : List Item) (bits : List Bool) : Type 0 where
    pub description : description_of w ≡ d
    pub total : w.total ≡ L
    pub written : w.written ≡ length bits
    pub ahead : Ahead d L false is bits (ahead_of w)
    pub down : PutDown d L is bits
    pub stored : take (length bits) (bits_all 8 buffer) ≡ bits

  straight_by : (w : Writing) → description_of w ≡ d → Straight d
  straight_by w e = subst Straight e (straight_of w)

  module _ {v w : Writing} {buffer stored : List ℕ} {is : List Item} {bits : List Bool} (i : Item) (h : Holds v buffer is bits) (p : Puts v i buffer w stored) where
    forward : length bits ≤ i.place
    forward = subst (λ n. n ≤ i.place) h.written p.forward

    same_end : end_of (description_of v) i ≡ end_of d i
    same_end = ap (λ (x : Description). end_of x i) h.description

    within : end_of d i ≤ L
    within = subst (λ n. end_of d i ≤ n) h.total (subst (λ n. n ≤ v.total) same_end p.within)

    again : (B : List Bool) → length B ≡ L → Fits d (length bits) i B → head (ahead_of v B) ≡ gives i (ahead_of w B)
    again B l f =
        p.goes_on B (l ∙ sym h.total) (subst (λ n. Fits (description_of v) n i B) (sym h.written) (subst (λ (x : Description). Fits x (length bits) i B) (sym h.description) f))

    described : description_of w ≡ d
    described = p.description ∙ h.description

    stands_after : Stands d L (λ (u : Unit {0}). L) L (end_of d i) (ahead_of w)
    stands_after =
        subst (λ (x : Description). Stands x L (λ (u : Unit {0}). L) L (end_of d i) (ahead_of w)) described
        (subst (λ n. Stands (description_of w) L (λ (u : Unit {0}). L) L n (ahead_of w)) (p.written ∙ same_end)
        (subst (λ n. Stands (description_of w) n (λ (u : Unit {0}). n) n w.written (ahead_of w)) (p.total ∙ h.total) (stands_of w)))

    -- what is written and then the item's own bits
    abbrev guess : List Bool
    guess = bits ++ drop (length bits) (pending d L i)

    guess_long : length guess ≡ L
    guess_long = overlay_long bits (pending d L i) (subst (λ n. length bits ≤ n) (sym (pending_long d L i)) h.ahead.short) ∙ pending_long d L i

    guess_fits : Fits d (length bits) i guess
    guess_fits = overlay_fits d bits (pending d L i) i forward (pending-fits d L i (length bits) within)

    follows : MayFollow d L is bits i
    follows =
        let neat = p.came.4 in
        let leads = leads_more (h.ahead.leads guess guess_long (drop (length bits) (pending d L i), refl)) (again guess guess_long guess_fits) in (
          guess,
          guess_long,
          (drop (length bits) (pending d L i), refl),
          (items (ahead_of w guess), ap items (sym (plain_reading d guess)) ∙ leads_items leads),
          record {
            known = neat.known;
            near = λ c. subst (λ n. i.place ≤ n + 7) h.written (neat.near c);
            zeros = λ c. guess_fits.0;
          },
        )

    appended_is : appended (description_of v) v.written i ≡ appended d (length bits) i
    appended_is = λ t. appended (h.description t) (h.written t) i

    now_stored : take (length (bits ++ appended d (length bits) i)) (bits_all 8 stored) ≡ bits ++ appended d (length bits) i
    now_stored =
        let old = bits_all 8 buffer in
        let rest = drop (end_of (description_of v) i) old in
        let same : bits_all 8 stored ≡ (bits ++ appended d (length bits) i) ++ rest =
        p.bits ∙ (λ t. take (h.written t) old ++ (appended_is t ++ rest)) ∙ ap (λ (x : List Bool). x ++ (appended d (length bits) i ++ rest)) h.stored
        ∙ sym (append_assoc bits (appended d (length bits) i) rest) in
        ap (take (length (bits ++ appended d (length bits) i))) same ∙ take-append_seam (bits ++ appended d (length bits) i) rest

    ends_at : w.written ≡ length (bits ++ appended d (length bits) i)
    ends_at =
        let n = i.place - length bits in
        let a = length-append bits (replicate n false ++ own_bits d i) in
        let b = length-append (replicate n false) (own_bits d i) in
        let c = length-replicate n false in
        let f = forward in
        let q : end_of d i ≡ length (bits ++ appended d (length bits) i) = omega arith in
        p.written ∙ same_end ∙ q

    pub holds_put : Holds w stored (is ++ (i ∷ [])) (bits ++ appended d (length bits) i)
    holds_put =
        record {
          description = described;
          total = p.total ∙ h.total;
          written = ends_at;
          ahead = moved d (straight_by v h.description) L false i (ahead_of w) h.ahead forward within again stands_after;
          down = more i h.down follows;
          stored = now_stored;
        }

  stays : {v w : Writing} {buffer stored : List ℕ} {is : List Item} {bits : List Bool} → Holds v buffer is bits → Stays v buffer w stored → Holds w stored is bits
  stays {v} {w} {buffer} {stored} {is} {bits} h s =
      record {
        description = s.description ∙ h.description;
        total = s.total ∙ h.total;
        written = s.written ∙ h.written;
        ahead = ahead_as d L is bits (ahead_of v) (ahead_of w) (λ B. sym (s.ahead B)) h.ahead;
        down = h.down;
        stored = ap (λ (x : List ℕ). take (length bits) (bits_all 8 x)) s.buffer_is ∙ h.stored;
      }

  pub holds : {w : Writing} {buffer : List ℕ} {is : List Item} {bits : List Bool} → Wrote d L w buffer is bits → Holds w buffer is bits
  holds (opened {w} {buffer} o) =
      record {
        description = o.description;
        total = o.total;
        written = o.written;
        ahead = ahead_as d L [] [] (λ B. reading_by d B false) (ahead_of w) (λ B. plain_reading d B ∙ sym (o.ahead B)) (start d (straight_by w o.description) L false);
        down = none;
        stored = refl;
      }
  holds (put i x c) = holds_put i (holds x) c
  holds (put_refused i e x c) = stays (holds x) c.1
  holds (finish_refused {v} {duty} {buffer} {stored} {is} {bits} {u} x c) =
      let h = holds x in
      subst (λ (b : List ℕ). Holds u.writing b is bits) (sym c.buffer_is) (subst (λ (y : Writing). Holds y buffer is bits) (sym c.writing) h)

  -- what can follow by the rule may come next
  may_come : {v : Writing} {buffer : List ℕ} {is : List Item} {bits : List Bool} {i : Item} → Holds v buffer is bits → MayFollow d L is bits i → MayCome v i
  may_come {v} {buffer} {is} {bits} {i} h (B, l, b, e, n) =
      let x = head-after is (reading_by d B false) (ahead_of v B) i (h.ahead.leads B l b) (subst (λ (t : Run (Unit {0})). Begins (is ++ (i ∷ [])) (items t)) (sym (plain_reading d B)) e) in (
        B,
        l ∙ sym h.total,
        x.0,
        x.1,
        record { known = n.known; near = λ c. subst (λ m. i.place ≤ m + 7) (sym h.written) (n.near c); zeros = λ c. subst (λ m. Zeros B m i.place) (sym h.written) (n.zeros c) },
      )

  module _ {w : Writing} {buffer stored : List ℕ} {is : List Item} {bits : List Bool} (h : Holds w buffer is bits) (checked : _) (f : Finishes w buffer checked stored) where
    -- what is written, and then 0
    abbrev whole : List Bool
    whole = bits ++ replicate (L - length bits) false

    few : length bits ≤ L
    few = h.ahead.short

    whole_long : length whole ≡ L
    whole_long = let a = length-append bits (replicate (L - length bits) false) in let b = length-replicate (L - length bits) false in let c = few in omega arith

    left_is : left_bits d L stored ≡ whole
    left_is =
        let old = bits_all 8 buffer in
        let same : bits_all 8 stored ≡ whole ++ drop w.total old =
        f.bits ∙ (λ t. take (h.written t) old ++ (replicate (h.total t - h.written t) false ++ drop w.total old))
        ∙ ap (λ (x : List Bool). x ++ (replicate (L - length bits) false ++ drop w.total old)) h.stored
        ∙ sym (append_assoc bits (replicate (L - length bits) false) (drop w.total old)) in
        ap (take L) same ∙ ap (λ n. take n (whole ++ drop w.total old)) (sym whole_long) ∙ take-append_seam whole (drop w.total old)

    leads_all : Leads is (reading_by d whole false) (ahead_of w whole)
    leads_all = h.ahead.leads whole whole_long (replicate (L - length bits) false, refl)

    ends_there : head (ahead_of w whole) ≡ ends tt
    ends_there =
        f.ended whole (whole_long ∙ sym h.total)
        (subst (λ m. Zeros whole m w.total) (sym h.written) (subst (λ m. Zeros whole (length bits) m) (sym h.total) (zeros_after bits (L - length bits) L (let c = few in omega arith))))

    pub read_back : (items (reading d whole) ≡ is) × (outcome (reading d whole) ≡ ended)
    read_back =
        let g = head-ends (ahead_of w whole) ends_there in (
          ap items (sym (plain_reading d whole)) ∙ leads_items leads_all ∙ ap (λ (z : List Item). is ++ z) g.0 ∙ append-nil is,
          ap outcome (sym (plain_reading d whole)) ∙ leads_outcome leads_all ∙ g.1,
        )

    pub all_put : AllPut d L is bits
    all_put = (whole, whole_long, (replicate (L - length bits) false, refl), read_back.0, read_back.1)

    pub checked_there : PassesCheck d
    checked_there = subst PassesCheck h.description (no_fault (first_fault (description_of w)) w.checked.faultless)

  pub writes : Writes d L
  writes =
      record {
        by_rule = λ x. (holds x).down;
        refused = λ {v} {w} {buffer} {stored} {is} {bits} {i} x c m. c.0.1 (may_come (holds x) m);
        round_trip = back;
        newer = λ e pe g. newer e pe g;
      }
    where
      back : {buffer : List ℕ} {is : List Item} → Finished d L buffer is → (items (reading d (left_bits d L buffer)) ≡ is) × (outcome (reading d (left_bits d L buffer)) ≡ ended)
      back (finished {w} duty {buffer} {stored} {is} {bits} checked x c) =
          subst (λ (b : List Bool). (items (reading d b) ≡ is) × (outcome (reading d b) ≡ ended)) (sym (left_is (holds x) checked c)) (read_back (holds x) checked c)

      newer : (e : Description) → PassesCheck e → Grown d e → {buffer : List ℕ} {is : List Item} → Finished d L buffer is →
          (items (reading e (left_bits d L buffer)) ≡ is) × (outcome (reading e (left_bits d L buffer)) ≡ ended)
      newer e pe g (finished {w} duty {buffer} {stored} {is} {bits} checked x c) =
          let h = holds x in
          subst (λ (b : List Bool). (items (reading e b) ≡ is) × (outcome (reading e b) ≡ ended)) (sym (left_is h checked c))
          (newer_law d e (checked_there h checked c) pe g (straight_by w h.description) L is bits h.down (all_put h checked c))
