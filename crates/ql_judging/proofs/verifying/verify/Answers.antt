use Rattle.std.proofs.Common.{◌≡◌, inl, inr, Some}
use Rattle.std.proofs.lemmas.Result.{IfOk-weaker}
use Rattle.ql_commands.proofs.SourceReplies.{bad_said}
use Rattle.ql_execution_files.proofs.Trees.{spelled}
use Rattle.ql_lines.specs.Lines.{ahead_from}
use Rattle.ql_reply.specs.declared.status.Status.TheVariants.{Bad}
use Rattle.ql_reply.proofs.Replies.{replied}
use Rattle.ql_judging.specs.Verify.{VerifySays, execution_fault_text}
use Rattle.ql_judging.proofs.Saying.{execution_is_bad, verify_says}
use Rattle.ql_judging.proofs.verifying.verify.Goals as goal

pub returns-in-Err : goal.returns-in-Err
returns-in-Err c =
    bad_said (VerifySays c.args.source.now c.args.execution.now) c.bad_source.result c.args.source.now c.in-Err.fault (λ text bad. inl bad) c.in-Err.ensures.fault c.in-Err.ensures.none c.bad_source.ensures.status c.bad_source.ensures.text

pub returns-in-Err-parse_execution : goal.returns-in-Err-parse_execution
returns-in-Err-parse_execution c =
    let f = c.in-Err-parse_execution.fault in
    replied (VerifySays c.args.source.now c.args.execution.now) (λ text. execution_fault_text f ≡ Some text) Bad c.bad_execution.result
    (λ text is. inr (execution_is_bad c.one_program_answer.ensures.tree c.args.source.now c.args.execution.now c.in-Ok.typed.program f text c.in-Ok.ensures.source c.in-Err-parse_execution.ensures.read is))
    c.bad_execution.ensures.status c.bad_execution.ensures.text

pub returns : goal.returns
returns c =
    let x = c.in-Ok-parse_execution.execution in
    let reports = spelled c.in-Ok.typed.program (ahead_from 1 c.args.execution.now) x c.in-Ok-parse_execution.ensures.read in
    IfOk-weaker c.verify_execution.result _ _
    (λ reply said. verify_says c.one_program_answer.ensures.tree c.args.source.now c.args.execution.now c.in-Ok.typed.program x reply.status reply.text.items c.in-Ok.ensures.source reports said)
    c.verify_execution.ensures
