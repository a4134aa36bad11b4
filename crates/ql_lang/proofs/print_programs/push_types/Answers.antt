use Rattle.ql_lang.specs.Programs.{replicated_of}
use Rattle.ql_lang.specs.ProgramSpelling.{replicated_text}
use Rattle.ql_lang.proofs.Appending.{none_left, one_fewer}
use Rattle.ql_lang.proofs.print_programs.push_types.Goals as goal

pub loop-decl-preserved : goal.loop-decl-preserved
loop-decl-preserved c =
    one_fewer replicated_text replicated_of c.args.types.now c.loop-decl.decl-index c.decl-item.result c.loop-decl.out.items c.push_type.new.out.items _ c.loop-decl-test.true c.decl-item.is c.loop-decl.invariant c.in_ok-push_type.ensures

pub returns : goal.returns
returns c = none_left replicated_text replicated_of _ c.loop-decl.decl-index c.loop-decl.out.items _ c.loop-decl-test.false c.loop-decl.invariant
