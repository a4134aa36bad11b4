use Rattle.ql_eval.proofs.FoldSteps.{assigned_front, assigns}
use Rattle.ql_eval.proofs.running.Running.assigned.Goals as goal

pub returns-then-index-len : goal.returns-then-index-len
returns-then-index-len c =
    let state = c.self.inside.state in
    let rest = c.self.inside.emitted in
    let lt = rw (c.index_of-index.ensures, c.len.ensures) at c.if-index-len.true in
    let here = assigns state c.args.word.now c.args.value lt in
    let front = assigned_front state rest c.args.word.now c.args.value lt in
    let index = c.index_of-index.ensures in
    let put = c.put.ensures in
    let of = c.of.ensures in
    let view = c.self.view_is in
    cc
