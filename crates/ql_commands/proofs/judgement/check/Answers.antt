use Rattle.std.proofs.Common.{◌≡◌, inl, inr, Some}
use Rattle.std.proofs.lemmas.Result.{IfOk-weaker}
use Rattle.ql_reply.specs.declared.status.Status.TheVariants.{Bad}
use Rattle.ql_reply.proofs.Replies.{replied}
use Rattle.ql_commands.specs.Check.{CheckSays, cert_fault_text}
use Rattle.ql_commands.proofs.SourceReplies.{bad_said}
use Rattle.ql_commands.proofs.Report.{cert_is_bad, check_says}
use Rattle.ql_commands.proofs.judgement.check.Goals as goal

pub returns-in-Err : goal.returns-in-Err
returns-in-Err c =
    bad_said (CheckSays c.args.source.now c.args.certificate.now) c.bad_source.result c.args.source.now c.in-Err.fault (λ text bad. inl bad) c.in-Err.ensures.fault c.in-Err.ensures.none c.bad_source.ensures.status c.bad_source.ensures.text

pub returns-in-Err-parse_cert : goal.returns-in-Err-parse_cert
returns-in-Err-parse_cert c =
    let f = c.in-Err-parse_cert.fault in
    replied (CheckSays c.args.source.now c.args.certificate.now) (λ text. cert_fault_text f ≡ Some text) Bad c.bad_certificate.result
    (λ text is. inr ((c.in-Ok.typed.program, c.in-Ok.ensures.source), cert_is_bad c.args.certificate.now f text c.in-Err-parse_cert.ensures is))
    c.bad_certificate.ensures.status c.bad_certificate.ensures.text

pub returns : goal.returns
returns c =
    IfOk-weaker c.check_sections.result _ _
    (λ reply said. check_says c.args.source.now c.args.certificate.now c.in-Ok.typed.program c.in-Ok-parse_cert.cert.sections reply.status reply.text.items c.in-Ok.ensures.source c.in-Ok-parse_cert.ensures said)
    (rw c.items.ensures at c.check_sections.ensures)
