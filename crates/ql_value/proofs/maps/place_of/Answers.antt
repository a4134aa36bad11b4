use Rattle.ql_value.specs.Order.{key_cmp}
use Rattle.ql_value.proofs.Ascending.{is_found, is_missing, is_past}
use Rattle.ql_value.proofs.ScalarOrder.{keys_total}
use Rattle.ql_value.proofs.maps.place_of.Goals as goal
use Rattle.ql_value.proofs.maps.place_of.Goals.{else-at-entries-via-then-at-entries+else-same_scalar, else-at-entries-via-else-at-entries}

pub returns-then-same_scalar : goal.returns-then-same_scalar
returns-then-same_scalar c = is_found key_cmp keys_total c.args.entries.now c.args.entry.now c.index-entries-at.result c.count_below-at.result c.requires c.count_below-at.ensures c.if-at-entries.true c.index-entries-at.is (cc)

pub returns-else-at-entries : goal.returns-else-at-entries
returns-else-at-entries c = elim c.else-at-entries.branch [
  | else-at-entries-via-then-at-entries+else-same_scalar w ↦ is_missing key_cmp keys_total c.args.entries.now c.args.entry.now w.index-entries-at.result c.count_below-at.result c.requires c.count_below-at.ensures w.index-entries-at.is (cc)
  | else-at-entries-via-else-at-entries w ↦ is_past key_cmp keys_total c.args.entries.now c.args.entry.now c.count_below-at.result c.requires c.count_below-at.ensures w.if-at-entries.false
]
