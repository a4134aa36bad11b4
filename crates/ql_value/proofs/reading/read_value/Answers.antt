use Rattle.std.proofs.Common.{◌+◌, ◌∙◌, sym, drop, drop-drop, ap}
use Rattle.std.specs.Prelude.{codes}
use Rattle.std.proofs.lemmas.Result.{err_from_is_err_and}
use Rattle.ql_value.specs.declared.value.Value.TheVariants.{Unit as Nothing}
use Rattle.ql_value.specs.Reading.{collection_at, value_at, word_at}
use Rattle.ql_value.proofs.ReadSteps.{moved, reads_unit, reads_collection, reads_scalar, value_fault}
use Rattle.ql_value.proofs.reading.read_value.Goals as goal

pub returns-in_err-value : goal.returns-in_err-value
returns-in_err-value c =
    let p = err_from_is_err_and c.from_residual.result c.from_residual.ensures.1 in
    rw (p.1, p.2) (value_fault c.args.bytes.now c.args.«from» _ (sym c.is_at.ensures ∙ c.if-is_at.false) (sym c.is_at-else-is_at.ensures ∙ c.if-is_at-2.false) c.in_err-value.ensures)

pub returns-then-is_at : goal.returns-then-is_at
returns-then-is_at c = moved value_at (word_at Nothing (codes "unit")) c.args.bytes.now c.args.«from» c.args.«from» c.word.result (reads_unit (drop c.args.«from» c.args.bytes.now) (sym c.is_at.ensures ∙ c.if-is_at.true)) c.word.ensures

pub returns-then-is_at-2 : goal.returns-then-is_at-2
returns-then-is_at-2 c = moved value_at (collection_at 256) c.args.bytes.now c.args.«from» (c.args.«from» + 1) c.collection.result (reads_collection (drop c.args.«from» c.args.bytes.now) (sym c.is_at.ensures ∙ c.if-is_at.false) (sym c.is_at-else-is_at.ensures ∙ c.if-is_at-2.true) ∙ ap (collection_at 256) (drop-drop 1 c.args.«from» c.args.bytes.now)) c.collection.ensures

pub returns-in_ok-value : goal.returns-in_ok-value
returns-in_ok-value c = (c.in_ok-value.ensures.0, rw c.value_of.ensures (reads_scalar (drop c.args.«from» c.args.bytes.now) _ _ (sym c.is_at.ensures ∙ c.if-is_at.false) (sym c.is_at-else-is_at.ensures ∙ c.if-is_at-2.false) c.in_ok-value.ensures.1))
