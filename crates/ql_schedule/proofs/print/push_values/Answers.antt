use Rattle.std.proofs.lemmas.Result.{err_from_is_err_and}
use Rattle.std.proofs.Common.{◌++◌, ◌∙◌, List, ap, map}
use Rattle.std.proofs.lemmas.List.{take_all}
use Rattle.ql_value.specs.declared.value.Value.{Value}
use Rattle.ql_lines.specs.Texts.{spaced_fields}
use Rattle.ql_value.specs.Spelling.{value_text}
use Rattle.ql_schedule.proofs.Printing.{nothing_behind, spaced}
use Rattle.ql_schedule.proofs.print.push_values.Goals as goal

pub loop-value-init : goal.loop-value-init
loop-value-init c = nothing_behind c.args.out.now.items

pub loop-value-preserved : goal.loop-value-preserved
loop-value-preserved c =
    rw (c.in_ok-push_value.ensures, c.in_ok-push_bytes.ensures.ok, c.loop-value.invariant)
    (spaced value_text c.args.values.now c.loop-value.value-index c.value-item.result c.args.out.now.items c.loop-value-test.true c.value-item.is)

pub returns : goal.returns
returns c = c.loop-value.invariant ∙ ap (λ (vs : List Value). c.args.out.now.items ++ spaced_fields (map value_text vs)) (take_all c.loop-value.value-index c.args.values.now c.loop-value-test.false)

pub returns-in_err-push_bytes : goal.returns-in_err-push_bytes
returns-in_err-push_bytes c = let p = err_from_is_err_and c.from_residual.result c.from_residual.ensures.1 in rw p.1 tt

pub returns-in_err-push_value : goal.returns-in_err-push_value
returns-in_err-push_value c = let p = err_from_is_err_and c.from_residual-in_err-push_value.result c.from_residual-in_err-push_value.ensures.1 in rw p.1 tt
