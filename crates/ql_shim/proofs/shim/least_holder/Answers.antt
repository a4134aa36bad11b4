use Rattle.std.proofs.Common.{◌≡◌, ℕ, length, refl, subst, arith, add-one}
use Rattle.std.proofs.lemmas.Option.{slice_get_read}
use Rattle.ql_shim.proofs.HolderLaws.{IsLeastTo, least-all, least-next}
use Rattle.ql_shim.proofs.shim.least_holder.Goals as goal

pub loop-one-preserved : goal.loop-one-preserved
loop-one-preserved c =
    let at = slice_get_read c.args.running.now _ c.loop-one.one-index c.one-item.result refl c.loop-one-test.true c.one-item.is in
    rw (c.lesser_holder-least.ensures, add-one) (least-next c.args.running.now c.args.o c.loop-one.one-index c.one-item.result c.loop-one.least at c.loop-one.invariant)

pub returns : goal.returns
returns c =
    let most = c.loop-one.auto.one-index-end in
    let past = c.loop-one-test.false in
    let end : c.loop-one.one-index ≡ length c.args.running.now = omega (arith, most, past) in
    least-all c.args.running.now c.args.o c.loop-one.least c.requires
    (subst (λ (k : ℕ). IsLeastTo c.args.running.now c.args.o k c.loop-one.least) end c.loop-one.invariant)
