use Rattle.ql_warnings.proofs.Scenes.{apart, turned}
use Rattle.ql_warnings.proofs.clash.first_clash.Goals as goal

pub returns-then-is_of_two_types-clause-clash : goal.returns-then-is_of_two_types-clause-clash
returns-then-is_of_two_types-clause-clash c =
    let pair = c.is_of_two_types.ensures c.if-is_of_two_types.true in
    apart c.args.scene.program.now.program c.args.scene.goal c.args.scene.vars.now c.args.known.now c.loop-k.k c.known_at-relation.result c.known_at-relation.ensures pair.0 pair.1

pub returns-then-has_turned-clause-clash : goal.returns-then-has_turned-clause-clash
returns-then-has_turned-clause-clash c =
    let found = c.has_turned.ensures c.if-has_turned.true in
    turned c.args.scene.program.now.program c.args.scene.goal c.args.scene.vars.now c.args.known.now c.loop-k.k found.1 c.known_at-relation.result found.2 c.known_at-relation.ensures found.3 found.0 found.4 found.5 found.6
