use Rattle.std.proofs.Common.{ap, ◌∙◌}
use Rattle.reading.proofs.Members.{number_of, member_number}
use Rattle.reading.proofs.lookups.first_member.Goals as goal

pub returns-in-Some : goal.returns-in-Some
returns-in-Some c = ap number_of c.in-Some.ensures.value ∙ member_number c.args.classes.now c.args.base c.args.id

pub returns-in-None : goal.returns-in-None
returns-in-None c = ap number_of c.in-None.ensures.value ∙ member_number c.args.classes.now c.args.base c.args.id
