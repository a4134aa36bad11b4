use Rattle.std.proofs.Common.{◌≡◌, map}
use Rattle.serde_json.specs.View.{view}
use Rattle.ql_trace.specs.Meaning.{values_as}
use Rattle.ql_trace.proofs.Each.{with_rest}
use Rattle.ql_trace.proofs.Turns.{values_left}
use Rattle.ql_trace.proofs.meaning.args.Given as goal

abbrev pub invariant-loop-k : goal.invariant-loop-k
invariant-loop-k l = values_as (λ p. p.base) l.params (map view l.items) ≡ with_rest l.values.items (values_left (λ p. p.base) view l.params l.items l.k)
