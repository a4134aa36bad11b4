use Rattle.std.proofs.Common.{◌≡◌, [], List, None, true, false, ap, sym, ◌∙◌}
use Rattle.std.specs.List.{list_any}
use Rattle.std.proofs.lemmas.List.{nil_from_length}
use Rattle.ql_lang.specs.declared.contract.Var.{Var}
use Rattle.ql_lang.specs.declared.name.Name.{Name}
use Rattle.ql_typing.specs.Faults.{each, repeats}
use Rattle.ql_typing.specs.ContractFaults.{choice_faults}
use Rattle.ql_holds_files.specs.ContractLine.{is_repeat}
use Rattle.ql_holds_files.proofs.ContractRules.{any_after, any_here, any_nowhere, choice_is}
use Rattle.ql_holds_files.proofs.contract_rule.repeats_an_operation.Goals as goal

pub returns-then-met : goal.returns-then-met
returns-then-met c =
    let here : list_any is_repeat (choice_faults None c.in-Some.var.now) ≡ true =
    ap (list_any is_repeat) (choice_is c.in-Some.var.now) ∙ sym (ap (λ (ns : List Name). list_any is_repeat (repeats [] ns)) c.items.ensures) ∙ sym c.in_ok-met.ensures.twice ∙ c.if-met.true in
    sym (sym c.loop-var.invariant ∙ ap (λ (vs : List Var). list_any is_repeat (each (choice_faults None) vs)) c.in-Some.ensures.cases.0
    ∙ any_here is_repeat (choice_faults None) c.in-Some.var.now c.in-Some.others.now here)

pub loop-var-preserved : goal.loop-var-preserved
loop-var-preserved c =
    let here : list_any is_repeat (choice_faults None c.in-Some.var.now) ≡ false =
    ap (list_any is_repeat) (choice_is c.in-Some.var.now) ∙ sym (ap (λ (ns : List Name). list_any is_repeat (repeats [] ns)) c.items.ensures) ∙ sym c.in_ok-met.ensures.twice ∙ c.if-met.false in
    sym (ap (λ (vs : List Var). list_any is_repeat (each (choice_faults None) vs)) c.in-Some.ensures.cases.0
    ∙ any_after is_repeat (choice_faults None) c.in-Some.var.now c.in-Some.others.now here) ∙ c.loop-var.invariant

pub returns : goal.returns
returns c = sym (sym c.loop-var.invariant ∙ ap (λ (vs : List Var). list_any is_repeat (each (choice_faults None) vs)) (nil_from_length c.loop-var.rest.now c.in_default.ensures.cases) ∙ any_nowhere is_repeat (choice_faults None))
