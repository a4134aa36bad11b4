use Rattle.std.proofs.Common.{Some, arith, ap, ◌∙◌}
use Rattle.ql_cert.specs.declared.cert.SectionLevel.{SectionLevel}
use Rattle.ql_commands.specs.Check.{target_named}
use Rattle.ql_commands.proofs.Expected.{op_below, txn_above}
use Rattle.ql_commands.proofs.section_lines.goal_of.Goals as goal

pub overflow_sub-result : goal.overflow_sub-result
overflow_sub-result c =
    let above = txn_above c.args.t.now.program c.args.place c.args.section.now.name (c.requires ∙ ap (λ (l : SectionLevel). Some (target_named c.args.section.now.name l)) c.in-Txn.is) in
    let count = c.ops.ensures.count in
    let first = above.0 in
    omega (arith, count, first)

pub returns-in-Op-clause-goal : goal.returns-in-Op-clause-goal
returns-in-Op-clause-goal c = op_below c.args.t.now.program c.args.place c.args.section.now.name (c.requires ∙ ap (λ (l : SectionLevel). Some (target_named c.args.section.now.name l)) c.in-Op.is)

pub returns-in-Txn-clause-goal : goal.returns-in-Txn-clause-goal
returns-in-Txn-clause-goal c =
    let above = txn_above c.args.t.now.program c.args.place c.args.section.now.name (c.requires ∙ ap (λ (l : SectionLevel). Some (target_named c.args.section.now.name l)) c.in-Txn.is) in
    let count = c.ops.ensures.count in
    let second = above.1 in
    omega (arith, count, second)
