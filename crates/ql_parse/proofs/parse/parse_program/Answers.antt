use Rattle.std.proofs.Common.{◌∙◌, ap}
use Rattle.std.proofs.lemmas.Result.{err_from_is_err_and}
use Rattle.ql_parse.proofs.Spans.{spans_fit}
use Rattle.ql_lang.specs.Programs.{source_of}
use Rattle.ql_grammar.proofs.Laws.{a_program}
use Rattle.ql_parse.proofs.Answering.{whole, text_read, text_refused, text_goes_on}
use Rattle.ql_parse.proofs.parse.parse_program.Goals as goal

pub new-reader-requires-clause-spans : goal.new-reader-requires-clause-spans
new-reader-requires-clause-spans c =
    rw c.as_slice.ensures.value (spans_fit c.args.bytes.now c.in_ok-found.found.items c.in_ok-found.ensures.exact c.in_ok-found.ensures.spans)

pub returns-in_err-program : goal.returns-in_err-program
returns-in_err-program c =
    let p = err_from_is_err_and c.from_residual-in_err-program.result c.from_residual-in_err-program.ensures.1 in
    rw (p.1, p.2) (text_refused a_program source_of c.args.bytes.now c.in_ok-found.found.items c.new-reader.result c.in_ok-found.ensures.exact (c.new-reader.ensures ∙ ap (λ ts. whole c.args.bytes.now ts) c.as_slice.ensures.value) _ c.in_err-program.ensures.refused)

pub returns-in_err-end : goal.returns-in_err-end
returns-in_err-end c =
    let p = err_from_is_err_and c.from_residual-in_err-end.result c.from_residual-in_err-end.ensures.1 in
    rw (p.1, p.2) (text_goes_on a_program source_of c.args.bytes.now c.in_ok-found.found.items c.new-reader.result c.in_ok-found.ensures.exact (c.new-reader.ensures ∙ ap (λ ts. whole c.args.bytes.now ts) c.as_slice.ensures.value) c.program.new.self _ _ c.in_ok-program.ensures.gave c.in_err-end.ensures.err)

pub returns : goal.returns
returns c =
    text_read a_program source_of c.args.bytes.now c.in_ok-found.found.items c.new-reader.result c.in_ok-found.ensures.exact (c.new-reader.ensures ∙ ap (λ ts. whole c.args.bytes.now ts) c.as_slice.ensures.value) c.program.new.self c.in_ok-program.program c.in_ok-program.ensures.gave c.in_ok-end.ensures.ok
