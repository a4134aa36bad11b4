use Rattle.std.proofs.Common.{◌≡◌, ◌<◌, ◌+◌, ℕ, true, false, List, ◌∷◌, length, drop, get_or, refl, sym, ◌∙◌, ap, add-one}
use Rattle.std.specs.Str.{bytes_eq}
use Rattle.std.proofs.Math.Seq.{drop-cons}
use Rattle.std.proofs.lemmas.List.{drop_all}
use Rattle.ql_value.specs.declared.value.Value.{Value}
use Rattle.ql_eval.specs.Evaluation.{Bindings, value_in}
use Rattle.ql_eval.proofs.FoldSteps.{value_after, value_here, value_nowhere}
use Rattle.ql_eval.proofs.env.find.Goals as goal

next_pair : (xs : Bindings) (i : ℕ) (x : List ℕ × Value) → i < length xs → x ≡ get_or xs i x → drop i xs ≡ x ∷ drop (i + 1) xs
next_pair xs i x lt is = drop-cons xs i x lt ∙ rw (← is, add-one i) refl

pub returns-then-eq : goal.returns-then-eq
returns-then-eq c =
    let here = next_pair c.args.pairs.now c.loop-pair.pair-index c.pair-item.result c.loop-pair-test.true c.pair-item.is in
    let same : bytes_eq c.pair-item.result.0 c.args.word.now ≡ true =
    rw (← c.bytes.ensures.same, ← c.bytes-in-loop-pair.ensures.same) (sym c.eq.ensures ∙ c.if-eq.true) in
    sym (c.loop-pair.invariant ∙ ap (λ ps. value_in ps c.args.word.now) here ∙ value_here c.pair-item.result _ c.args.word.now same)

pub loop-pair-preserved : goal.loop-pair-preserved
loop-pair-preserved c =
    let here = next_pair c.args.pairs.now c.loop-pair.pair-index c.pair-item.result c.loop-pair-test.true c.pair-item.is in
    let other : bytes_eq c.pair-item.result.0 c.args.word.now ≡ false =
    rw (← c.bytes.ensures.same, ← c.bytes-in-loop-pair.ensures.same) (sym c.eq.ensures ∙ c.if-eq.false) in
    c.loop-pair.invariant ∙ ap (λ ps. value_in ps c.args.word.now) here ∙ value_after c.pair-item.result _ c.args.word.now other

pub returns : goal.returns
returns c =
    value_nowhere c.args.word.now ∙ sym (c.loop-pair.invariant ∙ ap (λ ps. value_in ps c.args.word.now) (drop_all c.loop-pair.pair-index c.args.pairs.now c.loop-pair-test.false))
