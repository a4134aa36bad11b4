use Rattle.std.proofs.Common.{◌∙◌, arith, sym}
use Rattle.std.proofs.lemmas.Result.{err_from_is_err_and}
use Rattle.ql_value.specs.Order.{scalar_cmp}
use Rattle.ql_value.proofs.Ascending.{pushed}
use Rattle.ql_value.proofs.ScalarOrder.{scalars_total}
use Rattle.ql_value.proofs.QuotedText.{within}
use Rattle.ql_value.proofs.ReadSteps.{set_fault, set_low, set_last, set_stop, set_more, set_full, few_more, one_longer}
use Rattle.ql_value.proofs.reading.elements.Goals as goal

pub returns-in_err-element : goal.returns-in_err-element
returns-in_err-element c =
    let p = err_from_is_err_and c.from_residual.result c.from_residual.ensures.1 in
    rw (p.1, p.2) (set_fault c.args.bytes.now c.args.first c.loop.at c.args.room c.loop.counter c.loop.elements.items c.loop-test.true c.loop.invariant.same _ c.in_err-element.ensures)

pub returns-then-not-element_follows : goal.returns-then-not-element_follows
returns-then-not-element_follows c = (
  c.loop.invariant.within,
  set_low c.args.bytes.now c.args.first c.loop.at c.args.room c.loop.counter c.loop.elements.items c.loop-test.true c.loop.invariant.same c.in_ok-element.behind c.in_ok-element.element c.in_ok-element.ensures.1 (rw c.deref.ensures.value at (sym c.element_follows.ensures ∙ c.if-not-element_follows.true)),
)

pub of-requires : goal.of-requires
of-requires c = rw c.in_ok-push.ensures.items (record {
  few = few_more c.loop.elements.items c.in_ok-element.element c.loop.counter c.args.room c.loop.invariant.counted c.loop-test.true c.requires.few;
  ascends = pushed scalar_cmp scalars_total c.loop.elements.items c.in_ok-element.element c.loop.invariant.rule.ascends (rw c.deref.ensures.value at (sym c.element_follows.ensures ∙ c.if-not-element_follows.false));
})

pub returns-then-is_at : goal.returns-then-is_at
returns-then-is_at c = (
  within c.args.bytes.now c.in_ok-element.behind 125 (sym c.is_at.ensures ∙ c.if-is_at.true),
  rw (c.of.ensures, c.in_ok-push.ensures.items) (set_last c.args.bytes.now c.args.first c.loop.at c.args.room c.loop.counter c.loop.elements.items c.loop-test.true c.loop.invariant.same c.in_ok-element.behind c.in_ok-element.element c.in_ok-element.ensures.1 (rw c.deref.ensures.value at (sym c.element_follows.ensures ∙ c.if-not-element_follows.false)) (sym c.is_at.ensures ∙ c.if-is_at.true)),
)

pub returns-then-not-is_at : goal.returns-then-not-is_at
returns-then-not-is_at c = (
  c.in_ok-element.ensures.0,
  set_stop c.args.bytes.now c.args.first c.loop.at c.args.room c.loop.counter c.loop.elements.items c.loop-test.true c.loop.invariant.same c.in_ok-element.behind c.in_ok-element.element c.in_ok-element.ensures.1 (rw c.deref.ensures.value at (sym c.element_follows.ensures ∙ c.if-not-element_follows.false)) (sym c.is_at.ensures ∙ c.if-is_at.false) (sym c.is_at-in-loop.ensures ∙ c.if-not-is_at.true),
)

pub loop-preserved : goal.loop-preserved
loop-preserved c = rw c.in_ok-push.ensures.items (record {
  within = c.spaces_end-at.ensures.within;
  counted = one_longer c.loop.elements.items c.in_ok-element.element c.loop.counter c.loop.invariant.counted;
  rule = record {
    few = few_more c.loop.elements.items c.in_ok-element.element c.loop.counter c.args.room c.loop.invariant.counted c.loop-test.true c.requires.few;
    ascends = pushed scalar_cmp scalars_total c.loop.elements.items c.in_ok-element.element c.loop.invariant.rule.ascends (rw c.deref.ensures.value at (sym c.element_follows.ensures ∙ c.if-not-element_follows.false));
  };
  same = set_more c.args.bytes.now c.args.first c.loop.at c.args.room c.loop.counter c.loop.elements.items c.loop-test.true c.loop.invariant.same c.in_ok-element.behind c.in_ok-element.element c.in_ok-element.ensures.1 c.spaces_end-at.result (rw c.deref.ensures.value at (sym c.element_follows.ensures ∙ c.if-not-element_follows.false)) (sym c.is_at.ensures ∙ c.if-is_at.false) (sym c.is_at-in-loop.ensures ∙ c.if-not-is_at.false) c.spaces_end-at.ensures.end;
})

pub returns : goal.returns
returns c = (c.loop.invariant.within, set_full c.args.bytes.now c.args.first c.loop.at c.args.room c.loop.counter c.loop.elements.items (omega arith) c.loop.invariant.same)

pub scalar-requires : goal.scalar-requires
scalar-requires c = c.loop.invariant.within

pub is_at-requires : goal.is_at-requires
is_at-requires c = c.in_ok-element.ensures.0

pub is_at-requires-in-loop : goal.is_at-requires-in-loop
is_at-requires-in-loop c = c.in_ok-element.ensures.0

pub spaces_end-at-requires : goal.spaces_end-at-requires
spaces_end-at-requires c = within c.args.bytes.now c.in_ok-element.behind 44 (sym c.is_at-in-loop.ensures ∙ c.if-not-is_at.false)
