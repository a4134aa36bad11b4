use Rattle.std.proofs.Common.{◌≡◌, ◌∙◌, None, Some, slice_get, subst, sym}
use Rattle.ql_exec.specs.Folding.{seen_in_order}
use Rattle.ql_typing.proofs.Parts.{none_indeed}
use Rattle.ql_eval.specs.Able.{AreFields}
use Rattle.ql_eval.proofs.Fitting.{fold_state}
use Rattle.ql_eval.proofs.folding.fold.Goals as goal

pub unreachable-requires : goal.unreachable-requires
unreachable-requires c =
    let s = fold_state c.args.t.now.program (none_indeed _ c.args.t.now.well_typed) c.args.kind.0 (seen_in_order c.args.execution.now c.args.seen.now) c.requires.within c.requires.own in
    let no : None ≡ Some s.values = sym c.in-None.is ∙ c.in_ok-state.ensures ∙ s.is in
    cc

pub returns-clause-kinds : goal.returns-clause-kinds
returns-clause-kinds c =
    let s = fold_state c.args.t.now.program (none_indeed _ c.args.t.now.well_typed) c.args.kind.0 (seen_in_order c.args.execution.now c.args.seen.now) c.requires.within c.requires.own in
    let found : Some s.values ≡ Some c.in-Some.state = sym s.is ∙ sym c.in_ok-state.ensures ∙ c.in-Some.is in
    let same : s.values ≡ c.in-Some.state = cc in
    subst (AreFields (slice_get c.args.t.now.program.types c.args.kind.0)) same s.fits
