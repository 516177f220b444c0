-- Where a walk stands after an object's open.
use Rattle.std.proofs.Common.{◌≡◌, ℕ, ◌+◌, ◌≤◌, Bool, List, length, Ok, sym, ap, ◌∙◌, subst}
use Rattle.table.specs.Description.{Description, class_at}
use Rattle.rules.specs.declared.items.Item.{Item}
use Rattle.rules.specs.declared.steps.Header.{Header}
use Rattle.rules.specs.declared.steps.Window.{Window}
use Rattle.rules.specs.Lookups.{greatest}
use Rattle.rules.specs.Order.{declared_at}
use Rattle.rules.specs.Reading.{open_item}
use Rattle.rules.specs.Steps.{header}
use Rattle.roundtrip.specs.Own.{header_bits, own_bits, end_of}
use Rattle.roundtrip.specs.Standing.{Has, Zeros, Fits}
use Rattle.rules.proofs.Facts.{ok_same}
use Rattle.roundtrip.proofs.Sizes.{header_again}

-- over bits that have what putting the item appends, the beginning that was read ends where the item's own bits do
pub own_end : (d : Description) (bits : List Bool) (p : ℕ) (i : Item) (w : Window) (h : Header) → w.end ≤ length bits
    → Ok h ≡ header bits w (class_at d (declared_at d i.line)) (greatest d (declared_at d i.line)) p → i ≡ open_item i.class i.line i.index h
    → Fits d p i bits → h.after ≡ end_of d i
own_end d bits p i w h within read is fits =
    let c = declared_at d i.line in
    let own : own_bits d i ≡ header_bits (class_at d c) (greatest d c) h.id h.size = ap (own_bits d) is in
    let place : i.place ≡ h.place = ap (λ (x : Item). x.place) is in
    let a = header_again w (class_at d c) (greatest d c) p h bits (sym read) in
    let has : Has bits h.place (header_bits (class_at d c) (greatest d c) h.id h.size) = subst (λ (X : Type 0). X) (λ t. Has bits (place t) (own t)) fits.1 in
    let r = a.again bits within (subst (Zeros bits p) place fits.0) has in
    ap (λ (z : Header). z.after) (ok_same h _ (read ∙ r)) ∙ sym (λ t. place t + length (own t))
