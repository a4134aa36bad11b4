use Rattle.std.proofs.Common.{ℕ, List, drop, subst, sym, arith}
use Rattle.std.proofs.lemmas.List.{take_rest, length-drop}
use Rattle.ql_base.specs.IdLists.{IsAscending}
use Rattle.ql_base.proofs.IdLemmas.{IsAscending-drop}
use Rattle.ql_ranges.specs.Ranges.{ids_of}
use Rattle.ql_ranges.specs.Walks.{MeetsLeading}
use Rattle.ql_ranges.proofs.WalkLaws.{meets-more}
use Rattle.ql_ranges.proofs.walk.meet_by_ranges.Goals as goal

pub meet_leading-requires-clause-ascending : goal.meet_leading-requires-clause-ascending
meet_leading-requires-clause-ascending c = subst IsAscending (sym (take_rest c.args.ids.now c.loop-met.met)) (IsAscending-drop c.loop-met.met c.args.ids.now c.requires)

pub loop-met-preserved : goal.loop-met-preserved
loop-met-preserved c =
    let known = ids_of c.args.known.now in
    let ids = c.args.ids.now in
    let more = ids_of c.loop-met.walk.found in
    let last = ids_of c.meet_leading.new.walk.found in
    let leading : MeetsLeading known (drop c.loop-met.met ids) c.in_ok-met.field-0 more c.loop-met.walk.due.items last c.meet_leading.new.walk.due.items =
    subst (λ (rest : List ℕ). MeetsLeading known rest c.in_ok-met.field-0 more c.loop-met.walk.due.items last c.meet_leading.new.walk.due.items)
    (take_rest ids c.loop-met.met) c.in_ok-met.ensures in
    let bound = leading.bound in
    let rest = length-drop c.loop-met.met ids in
    let inside = c.loop-met-test.true in
    record {
      inside = omega (arith, bound, rest, inside);
      meets = meets-more known ids (ids_of c.args.walk.now.found) c.args.walk.now.due.items more c.loop-met.walk.due.items last c.meet_leading.new.walk.due.items
          c.loop-met.met c.in_ok-met.field-0 c.loop-met.invariant.meets leading;
    }
