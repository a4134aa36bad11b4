use Rattle.std.proofs.lemmas.Result.{err_from_is_err_and}
use Rattle.std.proofs.Common.{◌++◌, ap, subst, sym, ◌∙◌}
use Rattle.std.specs.List.{All}
use Rattle.ql_warnings.specs.Kept.{AreBracketWarnings}
use Rattle.ql_warnings.specs.Warnings.{AreWarnings, IsWarning}
use Rattle.ql_warnings.proofs.Kept.{all_warnings}
use Rattle.ql_warnings.proofs.contract.warnings.Goals as goal

pub returns : goal.returns
returns c =
    let source = c.args.lexed.now in
    let same = c.source-source.ensures.same in
    let p = c.args.t.now.program in
    let g = c.args.g in
    let vars = c.declared-at.result.0.now in
    let at = c.declared-at.result.1 in
    let end = c.next_name-end.result in
    let names = c.in_ok-found.found.items in
    let brackets = c.deref.result.now in
    let rest = c.deref-2.result.now in
    let joined : AreBracketWarnings source at end brackets = subst (AreBracketWarnings source at end) (sym c.deref.ensures.value) c.in_ok-brackets.ensures in
    let others : All (IsWarning source p g) rest = rw (c.deref-2.ensures.value, ← same) c.in_ok-of_contract.ensures in
    subst (AreWarnings source p g) (sym (c.in_ok-push_all-2.ensures ∙ ap (λ ws. ws ++ rest) c.in_ok-push_all.ensures))
    (all_warnings source p g vars at end c.declared-at.ensures (rw (← same) c.next_name-end.ensures) names brackets rest c.in_ok-found.ensures joined others)

pub returns-in_err-brackets : goal.returns-in_err-brackets
returns-in_err-brackets c = let p = err_from_is_err_and c.from_residual-in_err-brackets.result c.from_residual-in_err-brackets.ensures.1 in rw p.1 tt

pub returns-in_err-found : goal.returns-in_err-found
returns-in_err-found c = let p = err_from_is_err_and c.from_residual.result c.from_residual.ensures.1 in rw p.1 tt

pub returns-in_err-of_contract : goal.returns-in_err-of_contract
returns-in_err-of_contract c = let p = err_from_is_err_and c.from_residual-in_err-of_contract.result c.from_residual-in_err-of_contract.ensures.1 in rw p.1 tt

pub returns-in_err-push_all : goal.returns-in_err-push_all
returns-in_err-push_all c = let p = err_from_is_err_and c.from_residual-in_err-push_all.result c.from_residual-in_err-push_all.ensures.1 in rw p.1 tt

pub returns-in_err-push_all-2 : goal.returns-in_err-push_all-2
returns-in_err-push_all-2 c = let p = err_from_is_err_and c.from_residual-in_err-push_all-2.result c.from_residual-in_err-push_all-2.ensures.1 in rw p.1 tt
