use Rattle.std.proofs.Common.{rules, of_calls, ◌≡◌, ℕ, ◌+◌, Bool, eqb, Option, List, map, sym, ap, ◌∙◌, arith}
use Rattle.std.specs.List.{range_with_len, find}
use Rattle.std.specs.Option.{option_map, ok_or}
use Rattle.std.proofs.lemmas.Iterator.{YieldsList-from_range, YieldsList-from_map}
use Rattle.std.proofs.lemmas.Iterator.Search.{find_from_yields_List}
use borrow.Author.Tests.{tests}
use Rattle.records.specs.declared.records.Row.{Row}
use Rattle.table.specs.Description.{entry, no_row}
use Rattle.rules.specs.declared.faults.ReadingCause.TheVariants.{NoSuchIndex}
use Rattle.rules.specs.Lookups.{output, find_row}
use Rattle.steps.proofs.MapRead.{given_output, option_same, row_by_number}
use Rattle.steps.proofs.maps.find_row.Goals as goal

pub returns : goal.returns
returns c = λ d e.
    let first : c.args.stretch.first + 0 ≡ c.args.stretch.first = omega arith in
    let row : ℕ → Row = λ i. entry c.args.rows.now (c.args.stretch.first + i) no_row in
    let test : Row → Bool = λ r. eqb r.index c.args.index in
    let found : option_map (λ (r : Row). r) c.find.result ≡ find test (map row (range_with_len 0 c.args.stretch.number)) =
    find_from_yields_List test _ _ c.find.result c.find.ensures.ran
    (YieldsList-from_map _ row (YieldsList-from_range 0 c.args.stretch.number c.args.stretch.number c.map.ensures.source (omega arith)) c.map.ensures.closure (λ x r q k. search rules))
    (λ x b q k. search (rules, tests)) in
    let told : c.map-2.result ≡ option_map output c.find.result =
    given_output c.find.result c.map-2.result _ (λ x y q. search (rules, of_calls)) c.map-2.ensures.cases in
    c.ok_or.ensures.value
    ∙ (λ i. ok_or (told i) (c.into.ensures i))
    ∙ ap (λ (r : Option Row). ok_or (option_map output r) (record { cause = NoSuchIndex; node = 0 })) (sym (option_same c.find.result) ∙ found)
    ∙ ap (λ (xs : List Row). ok_or (option_map output (find test (map (λ i. entry xs (c.args.stretch.first + i) no_row) (range_with_len 0 c.args.stretch.number)))) (record { cause = NoSuchIndex; node = 0 })) (sym e)
    ∙ row_by_number d c.args.stretch.first 0 c.args.stretch.number c.args.index
    ∙ ap (λ at. find_row d at c.args.stretch.number c.args.index) first
