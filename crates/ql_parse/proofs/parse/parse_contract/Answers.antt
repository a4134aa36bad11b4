use Rattle.std.proofs.Common.{◌∙◌, ap}
use Rattle.std.proofs.lemmas.Result.{err_from_is_err_and}
use Rattle.ql_parse.proofs.Spans.{spans_fit}
use Rattle.ql_lang.specs.Trees.{sentence_of}
use Rattle.ql_grammar.proofs.Laws.{a_contract}
use Rattle.ql_parse.proofs.Answering.{whole, text_read, text_refused, text_goes_on}
use Rattle.ql_parse.proofs.parse.parse_contract.Goals as goal

pub new-reader-requires-clause-spans : goal.new-reader-requires-clause-spans
new-reader-requires-clause-spans c =
    rw c.as_slice.ensures.value (spans_fit c.args.bytes.now c.in_ok-found.found.items c.in_ok-found.ensures.exact c.in_ok-found.ensures.spans)

pub returns-in_err-contract : goal.returns-in_err-contract
returns-in_err-contract c =
    let p = err_from_is_err_and c.from_residual-in_err-contract.result c.from_residual-in_err-contract.ensures.1 in
    rw (p.1, p.2) (text_refused a_contract sentence_of c.args.bytes.now c.in_ok-found.found.items c.new-reader.result c.in_ok-found.ensures.exact (c.new-reader.ensures ∙ ap (λ ts. whole c.args.bytes.now ts) c.as_slice.ensures.value) _ c.in_err-contract.ensures.refused)

pub returns-in_err-ended : goal.returns-in_err-ended
returns-in_err-ended c =
    let p = err_from_is_err_and c.from_residual-in_err-ended.result c.from_residual-in_err-ended.ensures.1 in
    rw (p.1, p.2) (text_goes_on a_contract sentence_of c.args.bytes.now c.in_ok-found.found.items c.new-reader.result c.in_ok-found.ensures.exact (c.new-reader.ensures ∙ ap (λ ts. whole c.args.bytes.now ts) c.as_slice.ensures.value) c.contract.new.self _ _ c.in_ok-contract.ensures.gave (rw c.in_err-ended.ensures.refused at c.end.ensures.err))

pub returns : goal.returns
returns c =
    rw c.in_ok-ended.ensures.parts.0 (text_read a_contract sentence_of c.args.bytes.now c.in_ok-found.found.items c.new-reader.result c.in_ok-found.ensures.exact (c.new-reader.ensures ∙ ap (λ ts. whole c.args.bytes.now ts) c.as_slice.ensures.value) c.contract.new.self c.in_ok-contract.contract c.in_ok-contract.ensures.gave (rw c.in_ok-ended.ensures.parts.1 at c.end.ensures.ok))
