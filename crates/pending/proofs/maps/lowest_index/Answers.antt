use Rattle.std.proofs.Common.{◌≡◌, ◌-◌, min, sym, subst, zero-add, rules, arith}
use borrow.Author.Tests.{tests}
use Rattle.std.proofs.lemmas.Iterator.{YieldsList-from_range}
use Rattle.std.proofs.lemmas.Iterator.Consumers.{YieldsList-from_filter_map, fold_from_yields_List}
use Rattle.table.specs.Description.{description}
use Rattle.rules.specs.Lookups.{find_row}
use Rattle.pending.specs.Indices.{index_giving}
use Rattle.pending.proofs.Lowest.{Lowest, lowest_first, lowest_chain, lowest_is}
use Rattle.pending.proofs.maps.lowest_index.Goals as goal

pub returns : goal.returns
returns c =
    let d = description c.args.tables.now in
    let m = c.args.map in
    let v = c.args.value in
    let f = c.ranges.value in
    let all : m.number - 0 ≡ m.number = omega arith in
    let chain =
    fold_from_yields_List _ min _ _ c.fold.ensures.ran
    (YieldsList-from_filter_map _ (index_giving d m.first v) (YieldsList-from_range 0 m.number m.number (cc) all) c.filter_map.ensures.closure (λ x r q k. search (rules, tests)))
    (λ a x b q k. search rules) in
    let whole = rw c.requires at chain in
    let lowest = lowest_chain d m.first m.width v m.number 0 _ (lowest_first d m.first m.width v) in
    lowest_is m.width (find_row d m.first m.number) v c.fold.result
    (subst (Lowest m.width (find_row d m.first m.number) v) (sym whole) (rw zero-add at lowest))
