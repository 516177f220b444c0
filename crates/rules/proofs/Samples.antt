-- The sample and the edge cases, computed.
use Rattle.std.proofs.Common.{refl}
use Rattle.bits.specs.Bits.{number, bits_of}
use Rattle.table.specs.Description.{entry}
use Rattle.rules.specs.Terms.{term}
use Rattle.rules.specs.Trace.{bind, items, outcome}
use Rattle.rules.specs.Checks.{then, ensure, attempt}
use Rattle.rules.specs.Lookups.{first_member, object_class, find_row}
use Rattle.rules.specs.Values.{term_value, value_within, value}
use Rattle.rules.specs.Steps.{aligned, taken, natural, element, mapped, size_bytes, sized, header, at_end}
use Rattle.rules.specs.Code.{coded, code_within, code}
use Rattle.rules.specs.Reading.{elements, objects, objects_to_end, used, rounds, run, extensions, content, opened, object, reading}
use Rattle.rules.specs.Sample.{CasesHold}

pub cases_hold : CasesHold
unfolding then ensure attempt bind items outcome entry term first_member object_class find_row term_value value_within value number bits_of aligned taken natural element mapped size_bytes sized header at_end coded code_within code elements objects objects_to_end used rounds run extensions content opened object reading
cases_hold = refl
