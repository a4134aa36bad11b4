use Rattle.std.proofs.Common.{◌≡◌, ◌∙◌, sym, [], drop, drop-drop, ap, Ok}
use Rattle.std.specs.Prelude.{codes}
use Rattle.std.proofs.lemmas.Result.{err_from_is_err_and}
use Rattle.ql_value.specs.declared.value.Value.TheVariants.{Map, Set}
use Rattle.ql_value.specs.Reading.{collection_at, elements_at, entries_at, word_at}
use Rattle.ql_value.proofs.QuotedText.{within}
use Rattle.ql_value.proofs.ReadSteps.{moved, empty_set, empty_map, collection_fault, is_a_map, is_a_set}
use Rattle.ql_value.proofs.reading.collection.Goals as goal

pub returns-then-is_at : goal.returns-then-is_at
returns-then-is_at c = (within c.args.bytes.now c.args.at 125 (sym c.is_at.ensures ∙ c.if-is_at.true), let e : c.of.result ≡ [] = c.of.ensures ∙ c.new.ensures.items in rw e (empty_set c.args.room (drop c.args.at c.args.bytes.now) (sym c.is_at.ensures ∙ c.if-is_at.true) ∙ ap (λ r. Ok (Set [], r)) (drop-drop 1 c.args.at c.args.bytes.now)))

pub returns-then-is_at-2 : goal.returns-then-is_at-2
returns-then-is_at-2 c =
    let e = rw c.new-then-is_at-2.ensures.items at c.of-then-is_at-2.ensures in
    moved (collection_at c.args.room) (word_at (Map []) (codes ":}")) c.args.bytes.now c.args.at c.args.at c.word.result (empty_map c.args.room (drop c.args.at c.args.bytes.now) (sym c.is_at.ensures ∙ c.if-is_at.false) (sym c.is_at-2.ensures ∙ c.if-is_at-2.true)) (rw e at c.word.ensures)

pub returns-in_err-_first : goal.returns-in_err-_first
returns-in_err-_first c =
    let p = err_from_is_err_and c.from_residual.result c.from_residual.ensures.1 in
    rw (p.1, p.2) (collection_fault c.args.room c.args.bytes.now c.args.at _ (sym c.is_at.ensures ∙ c.if-is_at.false) (sym c.is_at-2.ensures ∙ c.if-is_at-2.false) c.in_err-_first.ensures)

pub returns-then-is_at-3 : goal.returns-then-is_at-3
returns-then-is_at-3 c = moved (collection_at c.args.room) (entries_at c.args.room []) c.args.bytes.now c.args.at c.args.at c.entries.result (is_a_map c.args.room (drop c.args.at c.args.bytes.now) _ _ (sym c.is_at.ensures ∙ c.if-is_at.false) (sym c.is_at-2.ensures ∙ c.if-is_at-2.false) c.in_ok-_first.ensures.1 (sym c.is_at-3.ensures ∙ c.if-is_at-3.true)) c.entries.ensures

pub returns : goal.returns
returns c = moved (collection_at c.args.room) (elements_at c.args.room []) c.args.bytes.now c.args.at c.args.at c.elements.result (is_a_set c.args.room (drop c.args.at c.args.bytes.now) _ _ (sym c.is_at.ensures ∙ c.if-is_at.false) (sym c.is_at-2.ensures ∙ c.if-is_at-2.false) c.in_ok-_first.ensures.1 (sym c.is_at-3.ensures ∙ c.if-is_at-3.false)) c.elements.ensures
