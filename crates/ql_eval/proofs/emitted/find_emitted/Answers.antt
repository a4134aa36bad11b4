use Rattle.std.proofs.Common.{◌≡◌, true, false, Some, get_or, ap, sym, ◌∙◌, arith}
use Rattle.std.specs.Str.{bytes_eq}
use Rattle.ql_value.specs.declared.value.Value.TheVariants.{Unit as Nothing}
use Rattle.ql_eval.specs.Evaluation.{value_in}
use Rattle.ql_eval.specs.Folds.{bind_word}
use Rattle.ql_eval.proofs.FoldSteps.{next_under, under_end, value_after, value_here, value_nowhere}
use Rattle.ql_eval.proofs.emitted.find_emitted.Goals as goal

pub returns-then-eq : goal.returns-then-eq
returns-then-eq c =
    let here = next_under bind_word c.args.binds.now c.args.emitted.now c.loop-k.k c.index-binds-k.result c.index-emitted-k.result (omega arith) (omega arith) in
    let same : bytes_eq (get_or c.args.binds.now c.loop-k.k c.index-binds-k.result).name.word c.args.word.now ≡ true =
    rw (← c.bytes.ensures.same, ← c.bytes-in-loop-k.ensures.same) (sym c.eq.ensures ∙ c.if-eq.true) in
    ap Some c.index-emitted-k.is ∙ sym (c.loop-k.invariant ∙ ap (λ ps. value_in ps c.args.word.now) here ∙ value_here _ _ c.args.word.now same)

pub loop-k-preserved : goal.loop-k-preserved
loop-k-preserved c =
    let here = next_under bind_word c.args.binds.now c.args.emitted.now c.loop-k.k c.index-binds-k.result Nothing (omega arith) (omega arith) in
    let other : bytes_eq (get_or c.args.binds.now c.loop-k.k c.index-binds-k.result).name.word c.args.word.now ≡ false =
    rw (← c.bytes.ensures.same, ← c.bytes-in-loop-k.ensures.same) (sym c.eq.ensures ∙ c.if-eq.false) in
    c.loop-k.invariant ∙ ap (λ ps. value_in ps c.args.word.now) here ∙ value_after _ _ c.args.word.now other

pub returns : goal.returns
returns c =
    value_nowhere c.args.word.now
    ∙ sym (c.loop-k.invariant ∙ ap (λ ps. value_in ps c.args.word.now) (under_end bind_word c.args.binds.now c.args.emitted.now c.loop-k.k (omega arith)))
