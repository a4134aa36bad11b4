use Rattle.ql_commands.proofs.NamedTargets.{first_fails, refusal_names_targets}
use Rattle.ql_running.proofs.input.least_levels.Goals as goal

pub refusal-requires : goal.refusal-requires
refusal-requires c = refusal_names_targets c.args.t.now.program c.in-Err.why c.in-Err.ensures.refused

pub returns-in_ok-refusal-in-Err-clause-refused : goal.returns-in_ok-refusal-in-Err-clause-refused
returns-in_ok-refusal-in-Err-clause-refused c = (
  c.in-Err.why,
  first_fails c.args.t.now.program c.in-Err.why c.in-Err.ensures.refused c.in_ok-refusal-in-Err.ensures.known,
  c.in_ok-refusal-in-Err.ensures.text,
)
