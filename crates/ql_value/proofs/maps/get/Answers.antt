use Rattle.std.proofs.Common.{rules, tests}
use Rattle.std.specs.Ordering.{is_eq}
use Rattle.std.proofs.lemmas.Iterator.{YieldsList-from_slice}
use Rattle.std.proofs.lemmas.Iterator.Search.{find_from_yields_List}
use Rattle.ql_value.specs.Order.{scalar_cmp}
use Rattle.ql_value.proofs.maps.get.Goals as goal

pub returns-in-Some : goal.returns-in-Some
returns-in-Some c =
    let f = find_from_yields_List (λ entry. is_eq (scalar_cmp entry.0 c.args.key.now)) _ _ c.find.result c.find.ensures.ran (YieldsList-from_slice _ c.iter.ensures.rest) (λ x b q k. search (rules, tests)) in
    let found = rw (c.in-Some.is, c.items.ensures.same) at f in
    rw (← found) c.copy_scalar.ensures

pub returns-in-None : goal.returns-in-None
returns-in-None c =
    let f = find_from_yields_List (λ entry. is_eq (scalar_cmp entry.0 c.args.key.now)) _ _ c.find.result c.find.ensures.ran (YieldsList-from_slice _ c.iter.ensures.rest) (λ x b q k. search (rules, tests)) in
    let none = rw (c.in-None.is, c.items.ensures.same) at f in
    rw (← none) c.copy_scalar-in-None.ensures
