use Rattle.std.proofs.lemmas.Result.{err_from_is_err_and}
use Rattle.std.proofs.Common.{sym, subst}
use Rattle.ql_lang.specs.declared.program.Program.{Program}
use Rattle.ql_commands.specs.Names.{HasNames}
use Rattle.ql_commands.specs.Prove.{ProveSays}
use Rattle.ql_commands.proofs.NamedTargets.{refusal_names_targets}
use Rattle.ql_commands.proofs.ReadNames.{has_names}
use Rattle.ql_commands.proofs.SourceReplies.{bad_said, refused_said}
use Rattle.ql_commands.proofs.certificate.prove.Goals as goal

pub refusal-requires : goal.refusal-requires
refusal-requires c = refusal_names_targets c.in-Ok.typed.program c.in-Err-classify.why c.in-Err-classify.ensures.refused

pub returns-in-Err : goal.returns-in-Err
returns-in-Err c =
    bad_said (ProveSays c.args.source.now) c.bad_source.result c.args.source.now c.in-Err.fault (λ text bad. bad) c.in-Err.ensures.fault c.in-Err.ensures.none c.bad_source.ensures.status c.bad_source.ensures.text

pub returns : goal.returns
returns c =
    let p = c.in-Ok.typed.program in
    refused_said (ProveSays c.args.source.now) c.refusal.result p c.in-Err-classify.why (λ text says. (p, c.in-Ok.ensures.source, says)) c.in-Err-classify.ensures.refused c.refusal.ensures.status c.refusal.ensures.text c.refusal.ensures.known

pub certificate-requires : goal.certificate-requires
certificate-requires c =
    subst (λ (p : Program). HasNames p) (sym c.in-Ok-classify.ensures.same) (has_names c.args.source.now c.in-Ok.typed.program c.in-Ok.ensures.source.0)

pub returns-in_err-certificate-in-Ok-classify : goal.returns-in_err-certificate-in-Ok-classify
returns-in_err-certificate-in-Ok-classify c = let p = err_from_is_err_and c.from_residual.result c.from_residual.ensures.1 in rw p.1 tt
