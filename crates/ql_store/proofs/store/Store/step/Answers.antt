use Rattle.std.proofs.lemmas.Result.{IfOk-weaker}
use Rattle.ql_store.proofs.store.Store.step.Goals as goal

pub returns-in-Call-clause-step : goal.returns-in-Call-clause-step
returns-in-Call-clause-step g c = rw c.in-Call.is c.call.ensures.step

pub returns-in-Call-clause-levels : goal.returns-in-Call-clause-levels
returns-in-Call-clause-levels g c = c.call.ensures.levels

pub returns-in-Call-clause-err : goal.returns-in-Call-clause-err
returns-in-Call-clause-err g c = c.call.ensures.err

pub returns-in-Begin-clause-step : goal.returns-in-Begin-clause-step
returns-in-Begin-clause-step g c = rw c.in-Begin.is (IfOk-weaker c.begin.result _ _ (λ r step rules levels uses answers. step rules) c.begin.ensures.step)

pub returns-in-Begin-clause-levels : goal.returns-in-Begin-clause-levels
returns-in-Begin-clause-levels g c = c.begin.ensures.levels

pub returns-in-Begin-clause-err : goal.returns-in-Begin-clause-err
returns-in-Begin-clause-err g c = c.begin.ensures.err

pub returns-in-Commit-clause-step : goal.returns-in-Commit-clause-step
returns-in-Commit-clause-step g c = rw c.in-Commit.is (IfOk-weaker c.commit.result _ _ (λ r step rules levels uses answers. step rules) c.commit.ensures.step)

pub returns-in-Commit-clause-levels : goal.returns-in-Commit-clause-levels
returns-in-Commit-clause-levels g c = c.commit.ensures.levels

pub returns-in-Commit-clause-err : goal.returns-in-Commit-clause-err
returns-in-Commit-clause-err g c = c.commit.ensures.err

pub returns-in-Deliver-clause-step : goal.returns-in-Deliver-clause-step
returns-in-Deliver-clause-step g c = rw c.in-Deliver.is (IfOk-weaker c.deliver.result _ _ (λ r step rules levels uses answers. step rules) c.deliver.ensures.step)

pub returns-in-Deliver-clause-levels : goal.returns-in-Deliver-clause-levels
returns-in-Deliver-clause-levels g c = c.deliver.ensures.levels

pub returns-in-Deliver-clause-err : goal.returns-in-Deliver-clause-err
returns-in-Deliver-clause-err g c = c.deliver.ensures.err

pub returns-in-Resend-clause-step : goal.returns-in-Resend-clause-step
returns-in-Resend-clause-step g c = rw c.in-Resend.is (IfOk-weaker c.resend.result _ _ (λ r step rules levels uses answers. step rules) c.resend.ensures.step)

pub returns-in-Resend-clause-levels : goal.returns-in-Resend-clause-levels
returns-in-Resend-clause-levels g c = c.resend.ensures.levels

pub returns-in-Resend-clause-err : goal.returns-in-Resend-clause-err
returns-in-Resend-clause-err g c = c.resend.ensures.err

pub returns-in-Join-clause-step : goal.returns-in-Join-clause-step
returns-in-Join-clause-step g c = rw c.in-Join.is (IfOk-weaker c.join.result _ _ (λ r step rules levels uses answers. step rules levels) c.join.ensures.step)

pub returns-in-Join-clause-levels : goal.returns-in-Join-clause-levels
returns-in-Join-clause-levels g c = c.join.ensures.levels

pub returns-in-Join-clause-err : goal.returns-in-Join-clause-err
returns-in-Join-clause-err g c = c.join.ensures.err

pub returns-in-Repeat-clause-step : goal.returns-in-Repeat-clause-step
returns-in-Repeat-clause-step g c = rw c.in-Repeat.is (λ rules levels uses answers. c.repeat.ensures.step rules)

pub returns-in-Repeat-clause-levels : goal.returns-in-Repeat-clause-levels
returns-in-Repeat-clause-levels g c = c.repeat.ensures.levels

pub returns-in-Repeat-clause-err : goal.returns-in-Repeat-clause-err
returns-in-Repeat-clause-err g c = tt

pub returns-in-Lose-clause-step : goal.returns-in-Lose-clause-step
returns-in-Lose-clause-step g c = rw c.in-Lose.is (λ rules levels uses answers. c.lose.ensures.step rules)

pub returns-in-Lose-clause-levels : goal.returns-in-Lose-clause-levels
returns-in-Lose-clause-levels g c = c.lose.ensures.levels

pub returns-in-Lose-clause-err : goal.returns-in-Lose-clause-err
returns-in-Lose-clause-err g c = tt

pub returns-in-Partition-clause-step : goal.returns-in-Partition-clause-step
returns-in-Partition-clause-step g c = rw c.in-Partition.is (λ rules levels uses answers. c.partition.ensures.step rules)

pub returns-in-Partition-clause-levels : goal.returns-in-Partition-clause-levels
returns-in-Partition-clause-levels g c = c.partition.ensures.levels

pub returns-in-Partition-clause-err : goal.returns-in-Partition-clause-err
returns-in-Partition-clause-err g c = tt

pub returns-in-Heal-clause-step : goal.returns-in-Heal-clause-step
returns-in-Heal-clause-step g c = rw c.in-Heal.is (λ rules levels uses answers. c.heal.ensures.step rules)

pub returns-in-Heal-clause-levels : goal.returns-in-Heal-clause-levels
returns-in-Heal-clause-levels g c = c.heal.ensures.levels

pub returns-in-Heal-clause-err : goal.returns-in-Heal-clause-err
returns-in-Heal-clause-err g c = tt
