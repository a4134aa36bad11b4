use Rattle.std.proofs.Common.{List, false, ap, sym, ◌∙◌}
use Rattle.std.specs.List.{list_any}
use Rattle.std.proofs.lemmas.List.{nil_from_length}
use Rattle.ql_lang.specs.declared.contract.Point.{Point}
use Rattle.ql_typing.specs.Faults.{each}
use Rattle.ql_typing.specs.ContractFaults.{point_faults}
use Rattle.ql_holds_files.specs.ContractLine.{is_unknown_name}
use Rattle.ql_holds_files.proofs.ContractRules.{any_after, any_here, any_nowhere}
use Rattle.ql_holds_files.proofs.contract_rule.has_unbound.Goals as goal

pub returns-then-is_unbound : goal.returns-then-is_unbound
returns-then-is_unbound c =
    let faults = point_faults false c.args.vars.now in
    sym (sym c.loop-point.invariant ∙ ap (λ (ps : List Point). list_any is_unknown_name (each faults ps)) c.in-Some.ensures.cases.0
    ∙ any_here is_unknown_name faults c.in-Some.point.now c.in-Some.others.now (sym c.is_unbound.ensures ∙ c.if-is_unbound.true))

pub loop-point-preserved : goal.loop-point-preserved
loop-point-preserved c =
    let faults = point_faults false c.args.vars.now in
    sym (ap (λ (ps : List Point). list_any is_unknown_name (each faults ps)) c.in-Some.ensures.cases.0
    ∙ any_after is_unknown_name faults c.in-Some.point.now c.in-Some.others.now (sym c.is_unbound.ensures ∙ c.if-is_unbound.false)) ∙ c.loop-point.invariant

pub returns : goal.returns
returns c =
    let faults = point_faults false c.args.vars.now in
    sym (sym c.loop-point.invariant ∙ ap (λ (ps : List Point). list_any is_unknown_name (each faults ps)) (nil_from_length c.loop-point.rest.now c.in_default.ensures.cases) ∙ any_nowhere is_unknown_name faults)
