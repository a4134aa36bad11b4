use Rattle.std.proofs.lemmas.Result.{err_from_is_err_and}
use Rattle.std.proofs.Common.{◌++◌, ◌∙◌, All, map, ap, subst, arith}
use Rattle.std.proofs.lemmas.List.{take_all}
use Rattle.ql_value.specs.Spelling.{followed, value_text}
use Rattle.ql_value.specs.ValueGrammar.{IsValue}
use Rattle.ql_report.proofs.Printing.{all_more, more_followed}
use Rattle.ql_report.proofs.parts.push_followed.Goals as goal

pub loop-value-preserved : goal.loop-value-preserved
loop-value-preserved c = record {
  text = rw (c.in_ok-print_value.ensures.ok, c.in_ok-push_bytes.ensures.ok, c.loop-value.invariant.text)
      (more_followed value_text c.args.values.now c.loop-value.value-index c.value-item.result c.args.out.now.items c.loop-value-test.true c.value-item.is);
  values = all_more IsValue c.args.values.now c.loop-value.value-index c.value-item.result c.loop-value-test.true c.value-item.is c.loop-value.invariant.values c.in_ok-print_value.ensures.value;
}

pub returns-clause-text : goal.returns-clause-text
returns-clause-text c = c.loop-value.invariant.text ∙ ap (λ vs. c.args.out.now.items ++ followed (map value_text vs)) (take_all c.loop-value.value-index c.args.values.now (omega arith))

pub returns-clause-values : goal.returns-clause-values
returns-clause-values c = subst (All IsValue) (take_all c.loop-value.value-index c.args.values.now (omega arith)) c.loop-value.invariant.values

pub returns-in_err-print_value-clause-text : goal.returns-in_err-print_value-clause-text
returns-in_err-print_value-clause-text c = let p = err_from_is_err_and c.from_residual-in_err-print_value.result c.from_residual-in_err-print_value.ensures.1 in rw p.1 tt

pub returns-in_err-print_value-clause-values : goal.returns-in_err-print_value-clause-values
returns-in_err-print_value-clause-values c = let p = err_from_is_err_and c.from_residual-in_err-print_value.result c.from_residual-in_err-print_value.ensures.1 in rw p.1 tt

pub returns-in_err-push_bytes-clause-text : goal.returns-in_err-push_bytes-clause-text
returns-in_err-push_bytes-clause-text c = let p = err_from_is_err_and c.from_residual.result c.from_residual.ensures.1 in rw p.1 tt

pub returns-in_err-push_bytes-clause-values : goal.returns-in_err-push_bytes-clause-values
returns-in_err-push_bytes-clause-values c = let p = err_from_is_err_and c.from_residual.result c.from_residual.ensures.1 in rw p.1 tt
