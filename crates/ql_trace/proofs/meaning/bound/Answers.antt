use Rattle.std.proofs.Common.{◌<◌, ◌+◌, ◌++◌, ◌∷◌, [], length, map, sym, ◌∙◌, ap, arith}
use Rattle.std.proofs.lemmas.List.{drop_all, length-map}
use Rattle.serde_json.specs.View.{view}
use Rattle.ql_lang.specs.declared.operation.Bind.{Bind}
use Rattle.ql_trace.specs.Kinds.{as_scalar}
use Rattle.ql_trace.proofs.Each.{with_rest}
use Rattle.ql_trace.proofs.Turns.{values-end, values-turn, values-turn-none, values-uneven, values_left}
use Rattle.ql_trace.proofs.meaning.bound.Goals as goal

pub returns-then-binds-items : goal.returns-then-binds-items
returns-then-binds-items c =
    let uneven = c.if-binds-items.true in
    sym (values-uneven (λ p. p.base) c.args.binds.now (map view c.args.items.now) (λ e. omega (arith, uneven, length-map c.args.items.now view, e)))

pub returns-in-None : goal.returns-in-None
returns-in-None c =
    let even = c.if-binds-items.false in
    let inside : c.loop-k.k < length c.args.binds.now = omega (arith, even, c.loop-k-test.true) in
    sym (c.loop-k.invariant
    ∙ values-turn-none (λ p. p.base) view c.args.binds.now c.args.items.now c.loop-k.k c.index-binds-k.result c.index-items-k.result c.loop-k.values.items inside c.loop-k-test.true c.index-binds-k.is c.index-items-k.is
    (ap (λ (p : Bind). as_scalar p.base (view c.index-items-k.result)) c.index-binds-k.is ∙ sym c.in_ok-scalar.ensures ∙ c.in-None.is))

pub loop-k-preserved : goal.loop-k-preserved
loop-k-preserved c =
    let even = c.if-binds-items.false in
    let inside : c.loop-k.k < length c.args.binds.now = omega (arith, even, c.loop-k-test.true) in
    let values = c.loop-k.values.items in
    c.loop-k.invariant
    ∙ values-turn (λ p. p.base) view c.args.binds.now c.args.items.now c.loop-k.k c.index-binds-k.result c.index-items-k.result values c.in-Some.scalar inside c.loop-k-test.true c.index-binds-k.is c.index-items-k.is
    (ap (λ (p : Bind). as_scalar p.base (view c.index-items-k.result)) c.index-binds-k.is ∙ sym c.in_ok-scalar.ensures ∙ c.in-Some.is)
    ∙ ap (λ vs. with_rest vs (values_left (λ p. p.base) view c.args.binds.now c.args.items.now (c.loop-k.k + 1)))
    (sym (c.in_ok-push-in-Some.ensures.items ∙ ap (λ v. values ++ v ∷ []) c.value_from.ensures))

pub returns : goal.returns
returns c =
    let even = c.if-binds-items.false in
    let past = c.loop-k-test.false in
    rw c.of.ensures (sym (c.loop-k.invariant
    ∙ values-end (λ p. p.base) view c.args.binds.now c.args.items.now c.loop-k.k c.loop-k.values.items (drop_all c.loop-k.k c.args.binds.now (omega (arith, even, past))) (drop_all c.loop-k.k c.args.items.now (omega (arith, past)))))
