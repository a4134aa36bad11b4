use Rattle.std.proofs.Common.{◌≡◌, ℕ, List, suc, length, get_or, take, ◌∙◌, subst, ap, add-one, arith}
use Rattle.std.proofs.Math.Seq.{take-length}
use Rattle.ql_shim.specs.Joined.{IsJoined}
use Rattle.ql_holder.proofs.Members.{index-has}
use Rattle.ql_shim.proofs.NextLaws.{IsOrdered, effect-read, next-is, way-on}
use Rattle.ql_shim.proofs.scope.one_by_one.Goals as goal

pub overflow_sub-a : goal.overflow_sub-a
overflow_sub-a c = (c.requires (get_or c.args.on.now c.loop-a.a-index 0) (index-has c.args.on.now c.loop-a.a-index c.loop-a-test.true)).0

pub bounds-effects-a : goal.bounds-effects-a
bounds-effects-a c =
    let inside = c.requires (get_or c.args.on.now c.loop-a.a-index 0) (index-has c.args.on.now c.loop-a.a-index c.loop-a-test.true) in
    let first = inside.0 in
    let last = inside.1 in
    let count = ap length c.effects-effects.ensures.same in
    omega (arith, first, last, count)

pub loop-a-preserved : goal.loop-a-preserved
loop-a-preserved c = λ o those own_of.
    let x = c.args.x.now in
    let on = c.args.on.now in
    let k = c.loop-a.a-index in
    let s = c.args.running.now.txn.session in
    let own = c.args.running.now.own in
    let others = c.args.others.now in
    let inside = c.requires (get_or on k 0) (index-has on k c.loop-a-test.true) in
    let at = effect-read x c.effects-effects.result.now (get_or on k 0) c.index-effects-a.result c.effects-effects.ensures.same inside.0 inside.1 c.index-effects-a.is in
    let ordered : IsOrdered x s o own on = record { law = c.effects-effects.ensures.execution; on_object = those; own_of = own_of } in
    rw add-one (way-on x s o own others on (take k on) (take (suc k) on) c.loop-a.gathered.ids c.add_next.new.gathered.ids c.loop-a.gathered.whole c.add_next.new.gathered.whole
    (get_or on k 0) c.index-effects-a.result ordered (next-is x on k c.index-effects-a.result those.ascending c.loop-a-test.true at) c.in_ok-add_next.ensures (c.loop-a.invariant o those own_of))

pub returns-clause-joined : goal.returns-clause-joined
returns-clause-joined c = λ o those own_of.
    let on = c.args.on.now in
    let most = c.loop-a.auto.a-index-end in
    let past = c.loop-a-test.false in
    let end : c.loop-a.a-index ≡ length on = omega (arith, most, past) in
    let whole : take c.loop-a.a-index on ≡ on = ap (λ (n : ℕ). take n on) end ∙ take-length on in
    subst (λ (front : List ℕ). IsJoined c.args.x.now c.args.running.now.own c.args.others.now front c.loop-a.gathered.ids) whole (c.loop-a.invariant o those own_of).joined
