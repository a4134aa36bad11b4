use Rattle.std.proofs.Common.{sym}
use Rattle.ql_lang.specs.Expressions.{expression_of}
use Rattle.ql_typing.specs.Kinds.{faults_of, begins_at, kind_of, mismatch}
use Rattle.ql_typing.proofs.FirstFault.{first_append}
use Rattle.ql_typing.proofs.judge.fault_as.Goals as goal

pub returns : goal.returns
returns c =
    rw (c.first.ensures, c.misfit.ensures, c.judge-judged.ensures.fault, c.judge-judged.ensures.at, c.judge-judged.ensures.kind)
    (sym (first_append (faults_of c.args.scope.now (expression_of c.args.e.now)) (mismatch c.args.wanted (begins_at (expression_of c.args.e.now)) (kind_of c.args.scope.now (expression_of c.args.e.now)))))
