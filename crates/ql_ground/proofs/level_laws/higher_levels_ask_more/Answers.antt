use Rattle.ql_ground.proofs.Lower.{strong_gives_wide, wide_gives_causal, causal_gives_eventual, rr_gives_mav, mav_gives_rc}
use Rattle.ql_ground.proofs.level_laws.higher_levels_ask_more.Goals as goal

pub returns-clause-strong : goal.returns-clause-strong
returns-clause-strong c = strong_gives_wide

pub returns-clause-wide : goal.returns-clause-wide
returns-clause-wide c = wide_gives_causal

pub returns-clause-causal : goal.returns-clause-causal
returns-clause-causal c = causal_gives_eventual

pub returns-clause-repeatable : goal.returns-clause-repeatable
returns-clause-repeatable c = rr_gives_mav

pub returns-clause-monotonic : goal.returns-clause-monotonic
returns-clause-monotonic c = mav_gives_rc
