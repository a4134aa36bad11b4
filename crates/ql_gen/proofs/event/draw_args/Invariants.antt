use Rattle.std.proofs.Common.{◌≡◌, ◌++◌, drop}
use Rattle.ql_gen.specs.Events.{after_args, args_of}
use Rattle.ql_gen.proofs.event.draw_args.Given as goal

abbrev pub invariant-loop-param : goal.invariant-loop-param
invariant-loop-param l =
    (args_of l.fn.params l.initial.draws ≡ l.args.items ++ args_of (drop l.param-index l.fn.params) l.draws)
    × (after_args l.fn.params l.initial.draws ≡ after_args (drop l.param-index l.fn.params) l.draws)
