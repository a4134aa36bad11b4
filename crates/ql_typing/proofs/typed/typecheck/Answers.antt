use Rattle.std.proofs.Common.{sym, ◌∙◌}
use Rattle.ql_typing.specs.Programs.{program_faults}
use Rattle.ql_typing.proofs.FirstFault.{no_fault, refusal, tells}
use Rattle.ql_typing.proofs.typed.typecheck.Goals as goal

pub number-requires : goal.number-requires
number-requires c = no_fault (program_faults c.args.program) (sym c.in-Ok.ensures ∙ c.in-None.is)

pub returns-in-Ok-number-clause-typed : goal.returns-in-Ok-number-clause-typed
returns-in-Ok-number-clause-typed c = no_fault (program_faults c.args.program) (sym c.in-Ok.ensures ∙ c.in-None.is)

pub returns-in-Some-clause-refused : goal.returns-in-Some-clause-refused
returns-in-Some-clause-refused c = refusal (program_faults c.args.program) c.in-Some.fault (sym c.in-Ok.ensures ∙ c.in-Some.is)

pub returns-in-Some-clause-first : goal.returns-in-Some-clause-first
returns-in-Some-clause-first c = tells (program_faults c.args.program) c.in-Some.fault (sym c.in-Ok.ensures ∙ c.in-Some.is)
