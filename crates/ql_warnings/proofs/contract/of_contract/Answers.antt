use Rattle.std.proofs.Common.{subst, sym}
use Rattle.std.proofs.lemmas.List.Elements.{All-append}
use Rattle.std.specs.List.{All}
use Rattle.ql_warnings.specs.Warnings.{IsWarning}
use Rattle.ql_warnings.proofs.contract.of_contract.Goals as goal

pub returns : goal.returns
returns c =
    subst (All (IsWarning c.args.source.now c.args.t.now.program c.args.g)) (sym c.in_ok-push_all.ensures)
    (All-append (IsWarning c.args.source.now c.args.t.now.program c.args.g) c.in_ok-found.found.items c.deref.result.now (c.in_ok-found.ensures c.args.source.now)
    (subst (All (IsWarning c.args.source.now c.args.t.now.program c.args.g)) (sym c.deref.ensures.value) c.in_ok-of_premises.ensures))
