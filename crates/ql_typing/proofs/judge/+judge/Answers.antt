use Rattle.std.proofs.Common.{ap, ◌∙◌}
use Rattle.ql_typing.specs.Faults.{earlier}
use Rattle.ql_typing.specs.Functions.{function_named}
use Rattle.ql_typing.proofs.CallArgs.{list_of_one, list_of_two, list_of_three, one_kind, two_kind, three_kind, one_fault, two_fault, three_fault, other_kind_none, count_fault_of, inside_start, inside_step, inside_end}
use Rattle.ql_typing.proofs.judge.+judge.Goals as goal

pub faults_inside-loop-arg-init : goal.faults_inside-loop-arg-init
faults_inside-loop-arg-init t c = inside_start _

pub faults_inside-loop-arg-preserved : goal.faults_inside-loop-arg-preserved
faults_inside-loop-arg-preserved t c =
    rw c.first-fault.ensures (inside_step c.args.scope.now c.loop-arg.fault c.judge_node-judged.result.fault c.args.args.now c.loop-arg.arg-index c.arg-item.result c.loop-arg-test.true c.arg-item.is c.judge_node-judged.ensures.fault c.loop-arg.invariant)

pub faults_inside-returns : goal.faults_inside-returns
faults_inside-returns t c = inside_end c.args.scope.now c.loop-arg.fault c.args.args.now c.loop-arg.arg-index c.loop-arg-test.false c.loop-arg.invariant

pub judge_call-returns-then-args-eq1-clause-kind : goal.judge_call-returns-then-args-eq1-clause-kind
judge_call-returns-then-args-eq1-clause-kind t c =
    c.call_of_one.ensures.kind ∙ one_kind c.args.scope.now c.args.at c.args.name.now c.find_function-function.result (c.find_function-function.ensures ∙ ap function_named c.bytes.ensures.same) c.args.args.now c.index-args-0.result c.judge_node-a.result.kind
    (list_of_one c.args.args.now c.index-args-0.result c.if-args-eq1.true c.index-args-0.is) c.judge_node-a.ensures.kind

pub judge_call-returns-then-args-eq1-clause-fault : goal.judge_call-returns-then-args-eq1-clause-fault
judge_call-returns-then-args-eq1-clause-fault t c =
    c.call_of_one.ensures.fault ∙ one_fault c.args.scope.now c.args.at c.args.name.now c.find_function-function.result (c.find_function-function.ensures ∙ ap function_named c.bytes.ensures.same) c.args.args.now c.index-args-0.result c.judge_node-a.result.at c.judge_node-a.result.kind c.judge_node-a.result.fault
    (list_of_one c.args.args.now c.index-args-0.result c.if-args-eq1.true c.index-args-0.is) c.judge_node-a.ensures.at c.judge_node-a.ensures.kind c.judge_node-a.ensures.fault

pub judge_call-returns-then-args-eq2-clause-kind : goal.judge_call-returns-then-args-eq2-clause-kind
judge_call-returns-then-args-eq2-clause-kind t c =
    c.call_of_two.ensures.kind ∙ two_kind c.args.scope.now c.args.at c.args.name.now c.find_function-function.result (c.find_function-function.ensures ∙ ap function_named c.bytes.ensures.same) c.args.args.now c.index-args-0-then-args-eq2.result c.index-args-1.result c.judge_node-a-then-args-eq2.result.kind c.judge_node-b.result.kind
    (list_of_two c.args.args.now c.index-args-0-then-args-eq2.result c.index-args-1.result c.if-args-eq2.true c.index-args-0-then-args-eq2.is c.index-args-1.is) c.judge_node-a-then-args-eq2.ensures.kind c.judge_node-b.ensures.kind

pub judge_call-returns-then-args-eq2-clause-fault : goal.judge_call-returns-then-args-eq2-clause-fault
judge_call-returns-then-args-eq2-clause-fault t c =
    c.call_of_two.ensures.fault ∙ two_fault c.args.scope.now c.args.at c.args.name.now c.find_function-function.result (c.find_function-function.ensures ∙ ap function_named c.bytes.ensures.same) c.args.args.now c.index-args-0-then-args-eq2.result c.index-args-1.result c.judge_node-a-then-args-eq2.result.at c.judge_node-b.result.at c.judge_node-a-then-args-eq2.result.kind c.judge_node-b.result.kind c.judge_node-a-then-args-eq2.result.fault c.judge_node-b.result.fault
    (list_of_two c.args.args.now c.index-args-0-then-args-eq2.result c.index-args-1.result c.if-args-eq2.true c.index-args-0-then-args-eq2.is c.index-args-1.is) c.judge_node-a-then-args-eq2.ensures.at c.judge_node-a-then-args-eq2.ensures.kind c.judge_node-a-then-args-eq2.ensures.fault c.judge_node-b.ensures.at c.judge_node-b.ensures.kind c.judge_node-b.ensures.fault

pub judge_call-returns-then-args-eq3-clause-kind : goal.judge_call-returns-then-args-eq3-clause-kind
judge_call-returns-then-args-eq3-clause-kind t c =
    c.call_of_three.ensures.kind ∙ three_kind c.args.scope.now c.args.at c.args.name.now c.find_function-function.result (c.find_function-function.ensures ∙ ap function_named c.bytes.ensures.same) c.args.args.now c.index-args-0-then-args-eq3.result c.index-args-1-then-args-eq3.result c.index-args-2.result c.judge_node-a-then-args-eq3.result.kind c.judge_node-b-then-args-eq3.result.kind c.judge_node-c.result.kind
    (list_of_three c.args.args.now c.index-args-0-then-args-eq3.result c.index-args-1-then-args-eq3.result c.index-args-2.result c.if-args-eq3.true c.index-args-0-then-args-eq3.is c.index-args-1-then-args-eq3.is c.index-args-2.is) c.judge_node-a-then-args-eq3.ensures.kind c.judge_node-b-then-args-eq3.ensures.kind c.judge_node-c.ensures.kind

pub judge_call-returns-then-args-eq3-clause-fault : goal.judge_call-returns-then-args-eq3-clause-fault
judge_call-returns-then-args-eq3-clause-fault t c =
    c.call_of_three.ensures.fault ∙ three_fault c.args.scope.now c.args.at c.args.name.now c.find_function-function.result (c.find_function-function.ensures ∙ ap function_named c.bytes.ensures.same) c.args.args.now c.index-args-0-then-args-eq3.result c.index-args-1-then-args-eq3.result c.index-args-2.result c.judge_node-a-then-args-eq3.result.at c.judge_node-b-then-args-eq3.result.at c.judge_node-c.result.at c.judge_node-a-then-args-eq3.result.kind c.judge_node-b-then-args-eq3.result.kind c.judge_node-c.result.kind c.judge_node-a-then-args-eq3.result.fault c.judge_node-b-then-args-eq3.result.fault c.judge_node-c.result.fault
    (list_of_three c.args.args.now c.index-args-0-then-args-eq3.result c.index-args-1-then-args-eq3.result c.index-args-2.result c.if-args-eq3.true c.index-args-0-then-args-eq3.is c.index-args-1-then-args-eq3.is c.index-args-2.is) c.judge_node-a-then-args-eq3.ensures.at c.judge_node-a-then-args-eq3.ensures.kind c.judge_node-a-then-args-eq3.ensures.fault c.judge_node-b-then-args-eq3.ensures.at c.judge_node-b-then-args-eq3.ensures.kind c.judge_node-b-then-args-eq3.ensures.fault c.judge_node-c.ensures.at c.judge_node-c.ensures.kind c.judge_node-c.ensures.fault

pub judge_call-returns-else-args-eq3-clause-kind : goal.judge_call-returns-else-args-eq3-clause-kind
judge_call-returns-else-args-eq3-clause-kind t c =
    other_kind_none c.args.scope.now c.args.at c.args.name.now c.args.args.now c.if-args-eq1.false c.if-args-eq2.false c.if-args-eq3.false

pub judge_call-returns-else-args-eq3-clause-fault : goal.judge_call-returns-else-args-eq3-clause-fault
judge_call-returns-else-args-eq3-clause-fault t c =
    c.first.ensures ∙ ap (λ r. earlier c.faults_inside-inside.result r) c.count_fault.ensures
    ∙ count_fault_of c.args.scope.now c.args.at c.args.name.now c.find_function-function.result c.args.args.now c.faults_inside-inside.result
    (c.find_function-function.ensures ∙ ap function_named c.bytes.ensures.same) c.faults_inside-inside.ensures c.if-args-eq1.false c.if-args-eq2.false c.if-args-eq3.false
