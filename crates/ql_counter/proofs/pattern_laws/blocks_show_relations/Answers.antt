use Rattle.std.proofs.Common.{◌≤◌, ◌*◌, sym, subst}
use Rattle.ql_counter.specs.Blocks.{slots_of}
use Rattle.ql_counter.proofs.Building.{built-length}
use Rattle.ql_counter.proofs.Arranged.{built-lawful}
use Rattle.ql_counter.proofs.Agreement.{named-agrees}
use Rattle.ql_counter.proofs.OpLevels.{op-holds}
use Rattle.ql_counter.proofs.Arranging.{slots-arranged, slots-short}
use Rattle.ql_counter.proofs.pattern_laws.blocks_show_relations.Goals as goal

pub returns-clause-execution : goal.returns-clause-execution
returns-clause-execution c = λ p law grouped extra. built-lawful p law extra (slots_of p extra) (slots-arranged p law extra) grouped

pub returns-clause-few : goal.returns-clause-few
returns-clause-few c = λ p extra. subst (λ n. n ≤ 4 * p.count) (sym (built-length p (slots_of p extra))) (slots-short p extra)

pub returns-clause-relations : goal.returns-clause-relations
returns-clause-relations c = λ p law extra. named-agrees p law extra (slots_of p extra) (slots-arranged p law extra)

pub returns-clause-levels : goal.returns-clause-levels
returns-clause-levels c = λ p law extra. op-holds p law extra (slots_of p extra) (slots-arranged p law extra)
