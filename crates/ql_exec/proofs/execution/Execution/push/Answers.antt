use Rattle.std.proofs.lemmas.Result.{err_from_is_err_and}
use Rattle.std.proofs.Common.{◌≡◌, ℕ, ap, ◌∙◌}
use Rattle.ql_exec.specs.Execution.{effect_of, with_stamp}
use Rattle.ql_exec.proofs.Making.{IsPushAnswer-fault}
use Rattle.ql_exec.proofs.Law.{fault_of-None}
use Rattle.ql_exec.proofs.execution.Execution.push.Goals as goal

pub returns-in-Err-clause-answer : goal.returns-in-Err-clause-answer
returns-in-Err-clause-answer c = IsPushAnswer-fault c.args.self.now c.args.draft c.in-Err.fault c.in-Err.ensures.placed

pub returns-in-Err-clause-lawful : goal.returns-in-Err-clause-lawful
returns-in-Err-clause-lawful c = fault_of-None c.args.self.now c.args.draft c.place.ensures.execution c.place.ensures.ascending

pub append-requires-clause-execution : goal.append-requires-clause-execution
append-requires-clause-execution c =
    let x = c.args.self.now in
    let draft = c.args.draft in
    let made : c.stamped.result ≡ effect_of x draft = c.stamped.ensures ∙ ap (λ (n : ℕ). with_stamp draft n) c.in-Ok.ensures.placed.1 in
    rw made ((fault_of-None x draft c.place.ensures.execution c.place.ensures.ascending).0 c.in-Ok.ensures.placed.0)

pub returns-in_err-append-clause-lawful : goal.returns-in_err-append-clause-lawful
returns-in_err-append-clause-lawful c = fault_of-None c.args.self.now c.args.draft c.place.ensures.execution c.place.ensures.ascending

pub returns-in_err-append-clause-pushed : goal.returns-in_err-append-clause-pushed
returns-in_err-append-clause-pushed c = let p = err_from_is_err_and c.from_residual.result c.from_residual.ensures.1 in rw p.1 tt
