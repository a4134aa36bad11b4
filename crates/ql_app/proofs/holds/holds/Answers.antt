use Rattle.ql_holds_files.specs.Holdings.{asked_of}
use Rattle.ql_reply.specs.declared.status.Status.TheVariants.{Bad}
use Rattle.ql_reply.proofs.Replies.{replied}
use Rattle.ql_app.specs.HoldsFaults.{IsReportedAs}
use Rattle.ql_app.specs.HoldsFile.{HoldsSays}
use Rattle.ql_app.proofs.HoldsLaws.{answer_reported, is_bad}
use Rattle.ql_app.proofs.holds.holds.Goals as goal

pub returns-in-Err : goal.returns-in-Err
returns-in-Err c =
    let f = c.in-Err.fault in
    replied (HoldsSays c.args.bytes.now) (IsReportedAs f) Bad c.bad_holds.result
    (λ text is. is_bad c.one_holding.ensures.one c.holds_files_are_read.ensures.read c.holds_files_are_read.ensures.question c.first_faults_are_of_the_grammar.ensures.fault c.args.bytes.now f text c.in-Err.ensures.read is)
    c.bad_holds.ensures.status c.bad_holds.ensures.text

pub returns-in-Ok : goal.returns-in-Ok
returns-in-Ok c =
    answer_reported c.one_holding.ensures.one c.holds_files_are_read.ensures.spelled c.holds_files_are_read.ensures.read c.holds_files_are_read.ensures.question c.args.bytes.now (asked_of c.in-Ok.holding) c.truth_of.result c.in-Ok.ensures.read c.truth_of.ensures
