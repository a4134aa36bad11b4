use Rattle.std.proofs.Common.{◌∙◌, refl, get_or, arith}
use Rattle.ql_base.proofs.IdLemmas.{has_id-there}
use Rattle.ql_formula.proofs.RowLaws.{mark_step}
use Rattle.ql_formula.proofs.rows.mark.Goals as goal

pub overflow_sub-id : goal.overflow_sub-id
overflow_sub-id c = (c.requires (get_or c.args.ids.now c.loop-id.id-index 0) (has_id-there c.args.ids.now _ c.loop-id.id-index c.loop-id-test.true refl)).0

pub set-requires : goal.set-requires
set-requires c =
    let within = c.requires (get_or c.args.ids.now c.loop-id.id-index 0) (has_id-there c.args.ids.now _ c.loop-id.id-index c.loop-id-test.true refl) in
    let low = within.0 in
    let high = within.1 in
    let same = c.loop-id.invariant.0 in
    omega (arith, low, high, same)

pub loop-id-preserved : goal.loop-id-preserved
loop-id-preserved c =
    let within = c.requires (get_or c.args.ids.now c.loop-id.id-index 0) (has_id-there c.args.ids.now _ c.loop-id.id-index c.loop-id-test.true refl) in (
      c.set.ensures.length ∙ c.loop-id.invariant.0,
      mark_step c.args.row.now c.loop-id.row c.set.new.self c.args.ids.now c.loop-id.id-index c.loop-id-test.true within.0 c.loop-id.invariant.1 c.set.ensures.added,
    )
