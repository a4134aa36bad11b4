use Rattle.ql_commands.specs.declared.source_fault.SourceFault.TheVariants.{Parse, Typing}
use Rattle.ql_commands.proofs.source.read_source.Goals as goal

pub returns-in-Err-clause-none : goal.returns-in-Err-clause-none
returns-in-Err-clause-none c = c.faults_deny_sources.ensures c.args.bytes.now (Parse c.in-Err.fault) c.in-Err.ensures

pub returns-in-Err-typecheck-clause-none : goal.returns-in-Err-typecheck-clause-none
returns-in-Err-typecheck-clause-none c =
    c.faults_deny_sources.ensures c.args.bytes.now (Typing c.in-Err-typecheck.fault) (c.in-Ok.program, c.in-Ok.ensures, c.in-Err-typecheck.ensures.first)
