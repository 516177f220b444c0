use Rattle.std.proofs.Common.{◌*◌, ◌-◌, ◌++◌, Bool, false, List, length, replicate, ap, ◌∙◌, arith}
use lib.ListN.{length-replicate}
use Rattle.std.proofs.lemmas.List.{length-append}
use Rattle.bits.specs.Bits.{bits_all, length-bits_all}
use Rattle.bits.specs.Get.{get_answer}
use Rattle.streaming.specs.Pages.{page_bits}
use Rattle.streaming.proofs.page.Page.get_across.Goals as goal

pub returns-in_err-back : goal.returns-in_err-back
returns-in_err-back c =
    let p = c.args.self.now in
    let bytes = ap length c.in_ok-new.ensures.0 in
    let own = length-bits_all 8 p.bytes.now in
    let zeros = length-replicate (8 * (p.total - p.first - length p.bytes.now)) false in
    absurd (omega (arith, c.in_err-back.ensures.1, p.inside, p.few))

pub returns-in_err-whole : goal.returns-in_err-whole
returns-in_err-whole c =
    let p = c.args.self.now in
    let own = length-bits_all 8 p.bytes.now in
    let zeros = length-replicate (8 * (p.total - p.first - length p.bytes.now)) false in
    let front = length-replicate (8 * p.first) false in
    let after = replicate (8 * (p.total - p.first - length p.bytes.now)) false in
    let both = ap length (c.in_ok-back.ensures.0 ∙ ap (λ (l : List Bool). l ++ after) c.in_ok-new.ensures.0) ∙ length-append (bits_all 8 p.bytes.now) after in
    absurd (omega (arith, c.in_err-whole.ensures.1, p.inside, p.few))

pub returns : goal.returns
unfolding page_bits
returns c =
    let p = c.args.self.now in
    c.get.ensures
    ∙ ap (λ (l : List Bool). get_answer l c.args.p c.args.n)
    (c.in_ok-whole.ensures.0 ∙ ap (λ (l : List Bool). replicate (8 * p.first) false ++ l)
    (c.in_ok-back.ensures.0 ∙ ap (λ (l : List Bool). l ++ replicate (8 * (p.total - p.first - length p.bytes.now)) false) c.in_ok-new.ensures.0))
