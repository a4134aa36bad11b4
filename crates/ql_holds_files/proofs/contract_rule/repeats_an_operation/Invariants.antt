use Rattle.std.proofs.Common.{◌≡◌, None, length}
use Rattle.std.specs.List.{list_any}
use Rattle.ql_typing.specs.Faults.{each}
use Rattle.ql_typing.specs.ContractFaults.{choice_faults}
use Rattle.ql_holds_files.specs.ContractLine.{is_repeat}
use Rattle.ql_holds_files.proofs.contract_rule.repeats_an_operation.Given as goal

abbrev pub invariant-loop-var : goal.invariant-loop-var
invariant-loop-var l = list_any is_repeat (each (choice_faults None) l.rest) ≡ list_any is_repeat (each (choice_faults None) l.vars)

abbrev pub decreases-loop-var : goal.decreases-loop-var
decreases-loop-var l = length l.rest
