use Rattle.std.proofs.Common.{◌*◌, ◌-◌, Bool, List, sym, ap, ◌∙◌, arith}
use Rattle.bits.specs.Get.{get_answer}
use Rattle.streaming.proofs.Bits.{page_got}
use Rattle.streaming.proofs.page.PageSource.get.Goals as goal

pub returns-then-from-self : goal.returns-then-from-self
returns-then-from-self c =
    let p = c.args.self.now in
    c.get.ensures
    ∙ ap (λ (l : List Bool). get_answer l (c.args.p - 8 * p.first) c.args.n) c.in_ok-new.ensures.0
    ∙ sym (page_got p.total p.first p.bytes.now p.inside c.args.p c.args.n (omega arith) (omega arith))
