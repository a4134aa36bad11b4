use Rattle.std.proofs.Common.{◌∙◌, arith, sym}
use Rattle.std.proofs.lemmas.Result.{err_from_is_err_and}
use Rattle.ql_value.specs.Order.{key_cmp}
use Rattle.ql_value.proofs.Ascending.{pushed}
use Rattle.ql_value.proofs.ScalarOrder.{keys_total}
use Rattle.ql_value.proofs.QuotedText.{within}
use Rattle.ql_value.proofs.ReadSteps.{map_key_fault, map_value_fault, map_low, map_last, map_stop, map_more, map_full, few_more, one_longer, follows_key}
use Rattle.ql_value.proofs.reading.entries.Goals as goal

pub returns-in_err-key : goal.returns-in_err-key
returns-in_err-key c =
    let p = err_from_is_err_and c.from_residual.result c.from_residual.ensures.1 in
    rw (p.1, p.2) (map_key_fault c.args.bytes.now c.args.first c.loop.at c.args.room c.loop.counter c.loop.entries.items c.loop-test.true c.loop.invariant.same _ c.in_err-key.ensures)

pub returns-then-not-key_follows : goal.returns-then-not-key_follows
returns-then-not-key_follows c = (
  c.loop.invariant.within,
  map_low c.args.bytes.now c.args.first c.loop.at c.args.room c.loop.counter c.loop.entries.items c.loop-test.true c.loop.invariant.same c.in_ok-key.behind_key c.in_ok-key.key c.in_ok-key.ensures.1 (rw c.deref.ensures.value at (sym c.key_follows.ensures ∙ c.if-not-key_follows.true)),
)

pub returns-in_err-value : goal.returns-in_err-value
returns-in_err-value c =
    let p = err_from_is_err_and c.from_residual-in_err-value.result c.from_residual-in_err-value.ensures.1 in
    rw (p.1, p.2) (map_value_fault c.args.bytes.now c.args.first c.loop.at c.args.room c.loop.counter c.loop.entries.items c.loop-test.true c.loop.invariant.same c.in_ok-key.behind_key c.in_ok-key.key c.in_ok-key.ensures.1 (rw c.deref.ensures.value at (sym c.key_follows.ensures ∙ c.if-not-key_follows.false)) _ c.in_err-value.ensures)

pub of-requires : goal.of-requires
of-requires c = rw c.in_ok-push.ensures.items (record {
  few = few_more c.loop.entries.items (c.in_ok-key.key, c.in_ok-value.value) c.loop.counter c.args.room c.loop.invariant.counted c.loop-test.true c.requires.few;
  ascends = pushed key_cmp keys_total c.loop.entries.items (c.in_ok-key.key, c.in_ok-value.value) c.loop.invariant.rule.ascends (follows_key c.loop.entries.items c.in_ok-key.key c.in_ok-value.value (rw c.deref.ensures.value at (sym c.key_follows.ensures ∙ c.if-not-key_follows.false)));
})

pub returns-then-is_at : goal.returns-then-is_at
returns-then-is_at c = (
  within c.args.bytes.now c.in_ok-value.behind 125 (sym c.is_at.ensures ∙ c.if-is_at.true),
  rw (c.of.ensures, c.in_ok-push.ensures.items) (map_last c.args.bytes.now c.args.first c.loop.at c.args.room c.loop.counter c.loop.entries.items c.loop-test.true c.loop.invariant.same c.in_ok-key.behind_key c.in_ok-key.key c.in_ok-key.ensures.1 c.in_ok-value.behind c.in_ok-value.value (rw c.deref.ensures.value at (sym c.key_follows.ensures ∙ c.if-not-key_follows.false)) c.in_ok-value.ensures.1 (sym c.is_at.ensures ∙ c.if-is_at.true)),
)

pub returns-then-not-is_at : goal.returns-then-not-is_at
returns-then-not-is_at c = (
  c.in_ok-value.ensures.0,
  map_stop c.args.bytes.now c.args.first c.loop.at c.args.room c.loop.counter c.loop.entries.items c.loop-test.true c.loop.invariant.same c.in_ok-key.behind_key c.in_ok-key.key c.in_ok-key.ensures.1 c.in_ok-value.behind c.in_ok-value.value (rw c.deref.ensures.value at (sym c.key_follows.ensures ∙ c.if-not-key_follows.false)) c.in_ok-value.ensures.1 (sym c.is_at.ensures ∙ c.if-is_at.false) (sym c.is_at-in-loop.ensures ∙ c.if-not-is_at.true),
)

pub loop-preserved : goal.loop-preserved
loop-preserved c = rw c.in_ok-push.ensures.items (record {
  within = c.spaces_end-at.ensures.within;
  counted = one_longer c.loop.entries.items (c.in_ok-key.key, c.in_ok-value.value) c.loop.counter c.loop.invariant.counted;
  rule = record {
    few = few_more c.loop.entries.items (c.in_ok-key.key, c.in_ok-value.value) c.loop.counter c.args.room c.loop.invariant.counted c.loop-test.true c.requires.few;
    ascends = pushed key_cmp keys_total c.loop.entries.items (c.in_ok-key.key, c.in_ok-value.value) c.loop.invariant.rule.ascends (follows_key c.loop.entries.items c.in_ok-key.key c.in_ok-value.value (rw c.deref.ensures.value at (sym c.key_follows.ensures ∙ c.if-not-key_follows.false)));
  };
  same = map_more c.args.bytes.now c.args.first c.loop.at c.args.room c.loop.counter c.loop.entries.items c.loop-test.true c.loop.invariant.same c.in_ok-key.behind_key c.in_ok-key.key c.in_ok-key.ensures.1 c.in_ok-value.behind c.in_ok-value.value (rw c.deref.ensures.value at (sym c.key_follows.ensures ∙ c.if-not-key_follows.false)) c.in_ok-value.ensures.1 c.spaces_end-at.result (sym c.is_at.ensures ∙ c.if-is_at.false) (sym c.is_at-in-loop.ensures ∙ c.if-not-is_at.false) c.spaces_end-at.ensures.end;
})

pub returns : goal.returns
returns c = (c.loop.invariant.within, map_full c.args.bytes.now c.args.first c.loop.at c.args.room c.loop.counter c.loop.entries.items (omega arith) c.loop.invariant.same)

pub scalar-requires : goal.scalar-requires
scalar-requires c = c.loop.invariant.within

pub is_at-requires : goal.is_at-requires
is_at-requires c = c.in_ok-value.ensures.0

pub is_at-requires-in-loop : goal.is_at-requires-in-loop
is_at-requires-in-loop c = c.in_ok-value.ensures.0

pub spaces_end-at-requires : goal.spaces_end-at-requires
spaces_end-at-requires c = within c.args.bytes.now c.in_ok-value.behind 44 (sym c.is_at-in-loop.ensures ∙ c.if-not-is_at.false)

pub entry_value-requires : goal.entry_value-requires
entry_value-requires c = c.in_ok-key.ensures.0
