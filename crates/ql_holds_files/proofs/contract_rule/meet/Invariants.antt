use Rattle.std.proofs.Common.{◌≡◌, ◌||◌, [], length}
use Rattle.std.specs.List.{list_any}
use Rattle.ql_typing.specs.Faults.{names_met, repeats}
use Rattle.ql_holds_files.specs.ContractLine.{is_repeat}
use Rattle.ql_holds_files.proofs.contract_rule.meet.Given as goal

abbrev pub invariant-loop-name : goal.invariant-loop-name
invariant-loop-name l =
    (names_met l.names l.rest ≡ names_met [] l.list) × ((l.twice || list_any is_repeat (repeats l.names l.rest)) ≡ list_any is_repeat (repeats [] l.list))

abbrev pub decreases-loop-name : goal.decreases-loop-name
decreases-loop-name l = length l.rest
