use Rattle.std.proofs.lemmas.Result.{err_from_is_err_and}
use Rattle.std.proofs.Common.{◌++◌, map, ap, ◌∙◌}
use Rattle.ql_lines.specs.Fields.{fields_of, Fields}
use Rattle.ql_cert.specs.Spelling.{hint_field}
use Rattle.ql_cert.proofs.LineLaws.{no_hints}
use Rattle.ql_cert.proofs.line.hints.Goals as goal

pub returns-in_default-hint : goal.returns-in_default-hint
returns-in_default-hint c =
    let read = c.loop-field.hints.items in
    let here = c.loop-field.invariant.0 ∙ ap (λ (r : Fields). map hint_field read ++ r) c.in-Some.ensures.fields in
    no_hints read c.in-Some.field.now (fields_of c.in-Some.remaining.now) (fields_of c.args.text.now) here c.loop-field.invariant.1 c.in_default-hint.ensures

pub returns-in_err-push : goal.returns-in_err-push
returns-in_err-push c = let p = err_from_is_err_and c.from_residual.result c.from_residual.ensures.1 in rw p.1 tt
