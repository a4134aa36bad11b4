use Rattle.std.proofs.Common.{ap, sym, ◌∙◌}
use Rattle.ql_typing.specs.Programs.{too_many}
use Rattle.ql_typing.specs.Faults.{first_fault, earlier}
use Rattle.ql_typing.proofs.Each.{each_start, each_step, each_end}
use Rattle.ql_typing.proofs.Mapped.{each-map}
use Rattle.ql_typing.proofs.limits.extra_fault.Goals as goal

pub loop-item-init : goal.loop-item-init
loop-item-init g c = each_start (λ x. too_many (g.T.Named.placed x)) c.args.items.now

pub loop-item-preserved : goal.loop-item-preserved
unfolding too_many first_fault earlier
loop-item-preserved g c =
    rw (c.first-fault.ensures, c.place.ensures)
    (each_step (λ x. too_many (g.T.Named.placed x)) c.args.items.now c.loop-item.fault c.loop-item.item-index c.item-item.result c.loop-item-test.true c.item-item.is c.loop-item.invariant)

pub returns : goal.returns
returns g c =
    each_end (λ x. too_many (g.T.Named.placed x)) c.args.items.now c.loop-item.fault c.loop-item.item-index c.loop-item-test.false c.loop-item.invariant
    ∙ ap first_fault (sym (each-map g.T.Named.placed too_many c.args.items.now))
