use Rattle.std.proofs.Common.{◌≡◌, Some, None, refl, find, ◌∙◌, sym, ap}
use Rattle.ql_shim.specs.Transactions.{Transactions, is_of}
use Rattle.ql_shim.proofs.RunningLaws.{open_of-running}
use Rattle.ql_shim.proofs.shim.Shim.run_of.Goals as goal

pub returns-in-None : goal.returns-in-None
returns-in-None c =
    let list = c.deref.ensures.value ∙ ap (λ (v : Transactions). v.running) c.self.view_is in
    let none : find (is_of c.args.s) c.args.self.now.running ≡ None = ap (find (is_of c.args.s)) (sym list) ∙ sym c.in-None.ensures in
    rw (open_of-running c.args.self.now.running c.args.s, none) refl

pub returns-in-Some : goal.returns-in-Some
returns-in-Some c =
    let list = c.deref.ensures.value ∙ ap (λ (v : Transactions). v.running) c.self.view_is in
    let found : find (is_of c.args.s) c.args.self.now.running ≡ Some c.in-Some.running.now = ap (find (is_of c.args.s)) (sym list) ∙ sym c.in-Some.ensures in
    rw (open_of-running c.args.self.now.running c.args.s, found) refl
