use Rattle.std.proofs.Common.{◌≡◌, ℕ, zero, suc, ◌<◌, Bool, true, inl, inr, arith}
use Rattle.ql_exec.specs.Relations.{leads, hb_step, hbo_step}
use Rattle.ql_formula.specs.declared.rows.Closure.TheVariants.{OnOneObject, Across}
use Rattle.ql_formula.specs.TransitiveClosures.{Includes, IsTransitive, IsTransitiveClosure}
use Rattle.ql_formula.specs.Tables.{GoesForward}
use Rattle.ql_exec.proofs.Chains.{leads-cases, leads-step}
use Rattle.ql_formula.proofs.Closures.{leads-join}
use Rattle.ql_formula.proofs.RowLaws.{step_forward}
use Rattle.ql_formula.proofs.transitive.closures_are_transitive.Goals as goal

least_below : (step other : ℕ → ℕ → Bool) → Includes other step → IsTransitive other → (bound a b : ℕ) → b < bound → leads step a b ≡ true → other a b ≡ true
least_below step other has joins zero a b within is = absurd (omega (arith, within))
least_below step other has joins (suc bound) a b within is = elim (leads-cases step a b is) [
  | inl one ↦ has a b one
  | inr more ↦ let less = more.1 in joins a more.0 b (least_below step other has joins bound a more.0 (omega (arith, within, less)) more.2) (has more.0 b more.3)
]

closed : (step : ℕ → ℕ → Bool) → GoesForward step → IsTransitiveClosure step (leads step)
closed step forward = record {
  steps = leads-step step;
  chains = leads-join step forward;
  least = λ other has joins a b is. least_below step other has joins (suc b) a b (omega arith) is;
}

pub returns-clause-across : goal.returns-clause-across
returns-clause-across c = λ x law. closed (hb_step x) (step_forward x law Across)

pub returns-clause-on_one_object : goal.returns-clause-on_one_object
returns-clause-on_one_object c = λ x law. closed (hbo_step x) (step_forward x law OnOneObject)
