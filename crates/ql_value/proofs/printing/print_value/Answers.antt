use Rattle.std.proofs.Common.{Result, Ok, Err, OnOk}
use Rattle.ql_value.specs.ValueGrammar.{IsReadBack, IsValue}
use Rattle.ql_value.proofs.ValueLaws.{printed_again}
use Rattle.ql_value.proofs.printing.print_value.Goals as goal

on_ok : {X E : Type 0} (P : Type 0) (r : Result X E) → P → OnOk r P
on_ok P (Ok x) p = p
on_ok P (Err e) p = tt

pub returns-clause-value : goal.returns-clause-value
returns-clause-value c = on_ok (IsValue c.args.value.now) c.push_bytes.result c.in_ok-push_value.ensures.value

pub returns-clause-again : goal.returns-clause-again
returns-clause-again c = on_ok (IsReadBack c.args.value.now) c.push_bytes.result (λ rest stop. printed_again c.args.value.now rest c.in_ok-push_value.ensures.value stop)
