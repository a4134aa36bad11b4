use Rattle.std.proofs.lemmas.Result.{err_from_is_err_and}
use Rattle.std.proofs.Common.{◌≡◌, ◌+◌, ap, arith, drop, length, sym, subst, ◌∙◌}
use Rattle.std.proofs.lemmas.List.{map-id}
use Rattle.ql_typing.specs.Faults.{names_met}
use Rattle.ql_typing.specs.Resolved.{ops_met}
use Rattle.ql_typing.proofs.Each.{next_item, no_item}
use Rattle.ql_typing.proofs.Growing.{ops_grow}
use Rattle.ql_typing.proofs.KeptNames.{kept-names_met}
use Rattle.ql_typing.proofs.build.number_all.Goals as goal

pub loop-var-preserved : goal.loop-var-preserved
unfolding ops_met
loop-var-preserved c =
    let here = next_item c.args.vars.now c.loop-var.var-index c.var-item.result c.loop-var-test.true c.var-item.is in
    let met = subst (λ vs. ops_met c.loop-var.ops vs ≡ ops_met c.args.ops.now c.args.vars.now) here c.loop-var.invariant.met in
    rw (c.in_ok-number_each.ensures.numbered, c.items.ensures, map-id)
    (record { kept = kept-names_met c.args.ops.now c.loop-var.ops c.var-item.result.ops c.loop-var.invariant.kept; met = met })

pub returns-clause-numbered : goal.returns-clause-numbered
unfolding ops_met
returns-clause-numbered c =
    ap (λ vs. ops_met c.loop-var.ops vs) (sym (no_item c.args.vars.now c.loop-var.var-index c.loop-var-test.false)) ∙ c.loop-var.invariant.met

pub number_each-requires : goal.number_each-requires
unfolding ops_met
number_each-requires c =
    let here = next_item c.args.vars.now c.loop-var.var-index c.var-item.result c.loop-var-test.true c.var-item.is in
    let met = subst (λ vs. ops_met c.loop-var.ops vs ≡ ops_met c.args.ops.now c.args.vars.now) here c.loop-var.invariant.met in
    let grown = ops_grow (names_met c.loop-var.ops c.var-item.result.ops) (drop (c.loop-var.var-index + 1) c.args.vars.now) in
    rw (c.items.ensures, map-id) (omega (arith, grown, ap length met, c.requires))

pub returns-in_err-number_each-clause-numbered : goal.returns-in_err-number_each-clause-numbered
returns-in_err-number_each-clause-numbered c = let p = err_from_is_err_and c.from_residual.result c.from_residual.ensures.1 in rw p.1 tt
