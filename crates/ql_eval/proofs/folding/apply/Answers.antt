use Rattle.std.proofs.Common.{◌≡◌, ◌∙◌, None, Some, subst, sym}
use Rattle.ql_typing.proofs.Parts.{none_indeed}
use Rattle.ql_eval.specs.Able.{AreFields, type_of_op}
use Rattle.ql_eval.proofs.Fitting.{applied_state}
use Rattle.ql_eval.proofs.folding.apply.Goals as goal

pub unreachable-requires : goal.unreachable-requires
unreachable-requires c =
    let s = applied_state c.args.t.now.program (none_indeed _ c.args.t.now.well_typed) c.args.o.0 c.args.state c.args.payload.now c.requires.within c.requires.state c.requires.payload in
    let no : None ≡ Some s.values = sym c.in-None.is ∙ c.in_ok-after.ensures ∙ s.is in
    cc

pub returns-clause-kinds : goal.returns-clause-kinds
returns-clause-kinds c =
    let s = applied_state c.args.t.now.program (none_indeed _ c.args.t.now.well_typed) c.args.o.0 c.args.state c.args.payload.now c.requires.within c.requires.state c.requires.payload in
    let found : Some s.values ≡ Some c.in-Some.after = sym s.is ∙ sym c.in_ok-after.ensures ∙ c.in-Some.is in
    let same : s.values ≡ c.in-Some.after = cc in
    subst (AreFields (type_of_op c.args.t.now.program.types c.args.o.0)) same s.fits
