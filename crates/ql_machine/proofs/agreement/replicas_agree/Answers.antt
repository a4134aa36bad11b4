use Rattle.ql_machine.proofs.Agreeing as agree
use Rattle.ql_machine.proofs.Runs.{kept}
use Rattle.ql_machine.proofs.agreement.replicas_agree.Goals as goal

pub returns-clause-sent : goal.returns-clause-sent
returns-clause-sent c = λ rules n events replies last run. agree.sent rules n last (kept rules n events replies last run)

pub returns-clause-received : goal.returns-clause-received
returns-clause-received c = λ rules n events replies last run. agree.received rules n last (kept rules n events replies last run)

pub returns-clause-applied : goal.returns-clause-applied
returns-clause-applied c = λ rules n events replies last run. agree.applied rules n last (kept rules n events replies last run)

pub returns-clause-not_blocked : goal.returns-clause-not_blocked
returns-clause-not_blocked c = λ rules n events replies last run all call plain less. agree.not_blocked rules n last (kept rules n events replies last run) all call plain call.replica less

pub returns-clause-same_view : goal.returns-clause-same_view
returns-clause-same_view c = λ rules n events replies last run all call plain q r one two a.
    let keeps = kept rules n events replies last run in
    let first = agree.view-at rules n last keeps all call plain q one a in
    let second = agree.view-at rules n last keeps all call plain r two a in
    (λ view. second.1 (first.0 view), λ view. first.1 (second.0 view))

pub returns-clause-same_effect : goal.returns-clause-same_effect
returns-clause-same_effect c = λ rules n events replies last run all call plain q r one two.
    agree.same_effect rules n last (kept rules n events replies last run) all call plain q r one two
