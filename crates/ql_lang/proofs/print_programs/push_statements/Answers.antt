use Rattle.ql_lang.specs.Programs.{assignment_of}
use Rattle.ql_lang.specs.ProgramSpelling.{assignment_text}
use Rattle.ql_lang.proofs.Appending.{none_left, one_fewer}
use Rattle.ql_lang.proofs.print_programs.push_statements.Goals as goal

pub loop-stmt-preserved : goal.loop-stmt-preserved
loop-stmt-preserved c =
    one_fewer assignment_text assignment_of c.args.stmts.now c.loop-stmt.stmt-index c.stmt-item.result c.loop-stmt.out.items c.push_statement.new.out.items _ c.loop-stmt-test.true c.stmt-item.is c.loop-stmt.invariant c.in_ok-push_statement.ensures

pub returns : goal.returns
returns c = none_left assignment_text assignment_of _ c.loop-stmt.stmt-index c.loop-stmt.out.items _ c.loop-stmt-test.false c.loop-stmt.invariant
