use Rattle.std.proofs.Common.{◌≡◌, None, sym, subst, add-one}
use Rattle.ql_machine.specs.State.{open_of}
use Rattle.ql_shim.specs.Transactions.{Transactions, open_txns}
use Rattle.ql_shim.proofs.RunningLaws.{apart-push, none-open}
use Rattle.ql_shim.proofs.ChangeLaws.{begun-is}
use Rattle.ql_shim.proofs.shim.Shim.begin.Goals as goal

pub invariant_of-self-2 : goal.invariant_of-self-2
invariant_of-self-2 c =
    let none : open_of (open_txns (record { running = c.self.inside.running.items; begun = c.self.inside.begun })) c.args.s ≡ None =
    subst (λ (v : Transactions). open_of (open_txns v) c.args.s ≡ None) (sym c.self.view_is) c.requires.none in
    rw c.in_ok-push.ensures.items (apart-push c.self.inside.running.items _ c.self.invariant (none-open c.self.inside.running.items c.args.s none))

pub returns-clause-begun : goal.returns-clause-begun
returns-clause-begun c =
    rw (c.in_ok-push.ensures.items, ← c.self.view_is, add-one) (begun-is c.self.inside.running.items c.self.inside.begun _ c.new.result c.new-2.result c.new.ensures c.new-2.ensures)
