use Rattle.std.proofs.lemmas.Result.{err_from_is_err_and}
use Rattle.ql_counter.specs.Blocks.{ranked_slots}
use Rattle.ql_counter.specs.Coded.{said}
use Rattle.ql_counter.proofs.Growing.{parts_more}
use Rattle.ql_counter.proofs.blocks.push_ranked.Goals as goal

pub loop-c-preserved : goal.loop-c-preserved
loop-c-preserved c =
    parts_more (ranked_slots (said c.args.a.now c.args.s) c.args.extra c.args.before) c.args.slots.now.items c.loop-c.slots.items c.push_if_ranked.new.slots.items c.loop-c.c
    c.loop-c.invariant c.in_ok-push_if_ranked.ensures

pub returns-in_err-push_if_ranked : goal.returns-in_err-push_if_ranked
returns-in_err-push_if_ranked c = let p = err_from_is_err_and c.from_residual.result c.from_residual.ensures.1 in rw p.1 tt
