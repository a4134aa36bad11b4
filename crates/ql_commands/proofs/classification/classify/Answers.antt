use Rattle.ql_commands.specs.Classify.{ClassifySays}
use Rattle.ql_commands.proofs.NamedTargets.{refusal_names_targets}
use Rattle.ql_commands.proofs.SourceReplies.{bad_said, refused_said}
use Rattle.ql_commands.proofs.classification.classify.Goals as goal

pub refusal-requires : goal.refusal-requires
refusal-requires c = refusal_names_targets c.in-Ok.typed.program c.in-Err-classify.why c.in-Err-classify.ensures.refused

pub returns-in-Err : goal.returns-in-Err
returns-in-Err c =
    bad_said (ClassifySays c.args.source.now) c.bad_source.result c.args.source.now c.in-Err.fault (λ text bad. bad) c.in-Err.ensures.fault c.in-Err.ensures.none c.bad_source.ensures.status c.bad_source.ensures.text

pub returns : goal.returns
returns c =
    let p = c.in-Ok.typed.program in
    refused_said (ClassifySays c.args.source.now) c.refusal.result p c.in-Err-classify.why (λ text says. (p, c.in-Ok.ensures.source, says)) c.in-Err-classify.ensures.refused c.refusal.ensures.status c.refusal.ensures.text c.refusal.ensures.known
