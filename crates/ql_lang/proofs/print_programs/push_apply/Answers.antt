use Rattle.std.proofs.Common.{codes, map}
use Rattle.std.specs.List.{concat}
use Rattle.std.proofs.lemmas.Result.{on_ok_weaker}
use Rattle.ql_lang.specs.Programs.{assignment_of}
use Rattle.ql_lang.specs.ProgramSpelling.{assignment_text}
use Rattle.ql_lang.proofs.Appending.{behind}
use Rattle.ql_lang.proofs.print_programs.push_apply.Goals as goal

pub returns : goal.returns
returns c =
    let stmts = concat (map assignment_text (map assignment_of c.args.stmts.now)) in
    on_ok_weaker c.push_bytes-2.result
    (λ last. behind c.args.out.now.items (codes "    apply {\n") _ c.in_ok-push_bytes.ensures.ok (behind c.push_bytes.new.out.items stmts (codes "    }\n") c.in_ok-push_statements.ensures last))
    c.push_bytes-2.ensures.ok
