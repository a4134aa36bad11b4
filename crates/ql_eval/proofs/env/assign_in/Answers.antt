use Rattle.ql_eval.proofs.FoldSteps.{assigns, assigns_none}
use Rattle.ql_eval.proofs.env.assign_in.Goals as goal

pub returns-then-index-pairs : goal.returns-then-index-pairs
returns-then-index-pairs c = let lt = c.if-index-pairs.true in rw c.count_others-index.ensures (assigns c.args.pairs.now c.args.word.now c.args.value (rw c.count_others-index.ensures at lt))

pub returns-else-index-pairs : goal.returns-else-index-pairs
returns-else-index-pairs c = let le = c.if-index-pairs.false in assigns_none c.args.pairs.now c.args.word.now c.args.value (rw c.count_others-index.ensures at le)
