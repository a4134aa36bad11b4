use Rattle.std.proofs.Common.{◌≡◌, ◌∙◌, ap, sym, subst, ℕ, false, length, take, arith}
use Rattle.std.specs.List.{list_any}
use Rattle.std.proofs.Math.Seq.{take-length}
use Rattle.ql_shim.specs.Transactions.{is_of}
use Rattle.ql_shim.proofs.ChangeLaws.{place-here, place-end}
use Rattle.ql_shim.proofs.shim.place.Goals as goal

pub returns-then-one-s : goal.returns-then-one-s
returns-then-one-s c = place-here c.args.running.now c.args.s c.loop-k.k c.index-running-k.result c.loop-k-test.true c.index-running-k.is c.loop-k.invariant c.if-one-s.true

pub returns : goal.returns
returns c =
    let running = c.args.running.now in
    let most = c.loop-k.auto.k-end in
    let past = c.loop-k-test.false in
    let end : c.loop-k.k ≡ length running = omega (arith, most, past) in
    place-end running c.args.s
    (ap (list_any (is_of c.args.s)) (sym (take-length running)) ∙ subst (λ (k : ℕ). list_any (is_of c.args.s) (take k running) ≡ false) end c.loop-k.invariant)
