use Rattle.std.proofs.lemmas.Bool.{both_ways}
use Rattle.ql_implication.proofs.laws.countermodels_refute.Goals as goal

pub returns-clause-op : goal.returns-clause-op
returns-clause-op c = λ types o level f x cur places m implied.
    both_ways _ m.broken (implied x m.lawful m.fits cur m.effect m.there m.of_op m.holds places m.chosen)

pub returns-clause-txn : goal.returns-clause-txn
returns-clause-txn c = λ types d level f x run places m implied.
    both_ways _ m.broken (implied x m.lawful m.fits run m.holds places m.chosen)
