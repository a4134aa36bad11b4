use Rattle.ql_value.specs.Order.{scalar_cmp}
use Rattle.ql_value.proofs.Ascending.{is_found, is_missing, is_past}
use Rattle.ql_value.proofs.ScalarOrder.{scalars_total}
use Rattle.ql_value.proofs.sets.place_of.Goals as goal
use Rattle.ql_value.proofs.sets.place_of.Goals.{else-at-elements-via-then-at-elements+else-same_scalar, else-at-elements-via-else-at-elements}

pub returns-then-same_scalar : goal.returns-then-same_scalar
returns-then-same_scalar c = is_found scalar_cmp scalars_total c.args.elements.now c.args.element.now c.index-elements-at.result c.count_below-at.result c.requires c.count_below-at.ensures c.if-at-elements.true c.index-elements-at.is (cc)

pub returns-else-at-elements : goal.returns-else-at-elements
returns-else-at-elements c = elim c.else-at-elements.branch [
  | else-at-elements-via-then-at-elements+else-same_scalar w ↦ is_missing scalar_cmp scalars_total c.args.elements.now c.args.element.now w.index-elements-at.result c.count_below-at.result c.requires c.count_below-at.ensures w.index-elements-at.is (cc)
  | else-at-elements-via-else-at-elements w ↦ is_past scalar_cmp scalars_total c.args.elements.now c.args.element.now c.count_below-at.result c.requires c.count_below-at.ensures w.if-at-elements.false
]
