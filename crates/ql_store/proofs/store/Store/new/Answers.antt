use Rattle.std.proofs.Common.{map}
use Rattle.ql_store.proofs.KeptLaws.{kept-empty}
use Rattle.ql_store.proofs.store.Store.new.Goals as goal

pub invariant_of-result : goal.invariant_of-result
invariant_of-result g c = (
  kept-empty _ c.args.replicas c.new.result (map g.H.Holder.received c.in_ok-holders.holders.items) c.in_ok-new.field-0 c.new-3.result c.new-4.result c.requires
      c.new.ensures c.in_ok-holders.ensures.received c.in_ok-new.ensures c.new-3.ensures c.new-4.ensures,
  c.in_ok-holders.ensures.fit c.new.result,
)
