use Rattle.std.proofs.Common.{rules, ◌≡◌, ◌≤◌, length, sym, ap, ◌∙◌, arith}
use Rattle.std.specs.Option.{unwrap_or}
use Rattle.table.specs.Description.{description}
use Rattle.owners.specs.Lines.{class_of_line}
use Rattle.owners.proofs.Filled.{numbered_held, or_called}
use Rattle.owners.proofs.lines.LineClasses.class_of.Goals as goal

pub returns : goal.returns
returns c =
    let here = class_of_line (description c.args.self.now.loaded.now) in
    let count = c.line_count.result in
    let long : length c.args.self.now.classes ≡ 512 = search rules in
    let room : count ≤ length c.args.self.now.classes = omega arith in
    let held = numbered_held here c.args.self.now.classes count room (λ k l. c.args.self.now.found k (omega arith)) c.args.n c.if-n-line_count.false in
    or_called c.copied.result c.unwrap_or_else.result (here c.args.n) c.unwrap_or_else.ensures (search rules)
    (ap (λ o. unwrap_or o (here c.args.n)) c.copied.ensures ∙ sym (c.numbered.ensures (here c.args.n)) ∙ held)
