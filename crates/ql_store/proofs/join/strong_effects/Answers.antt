use Rattle.std.proofs.Common.{◌≡◌, suc, List, Bool, take, refl, sym, subst, ◌∙◌, arith, add-one}
use Rattle.std.proofs.lemmas.List.{take_all}
use Rattle.std.proofs.lemmas.Option.{slice_get_read}
use Rattle.ql_exec.specs.declared.effect.Effect.{Effect}
use Rattle.ql_store.specs.Joining.{is_strong}
use Rattle.ql_store.specs.Levels.{promises_of}
use Rattle.ql_store.proofs.CommittedLaws.{ArePassing, passing-more, passing-same}
use Rattle.ql_store.proofs.JoinLaws.{passing-strong}
use Rattle.ql_store.proofs.join.strong_effects.Goals as goal
use Rattle.ql_store.proofs.join.strong_effects.Goals.{then-is_strong+in_ok-insert, else-is_strong}

pub is_strong-requires : goal.is_strong-requires
is_strong-requires c =
    c.requires.ops (suc c.loop-k.k) c.index-effects-k.result (slice_get_read c.args.effects.now _ c.loop-k.k c.index-effects-k.result refl c.loop-k-test.true c.index-effects-k.is)

pub loop-k-preserved : goal.loop-k-preserved
loop-k-preserved c =
    let test : Effect → Bool = λ e. is_strong ((promises_of c.args.levels.now).level e.op) in
    let at = slice_get_read c.args.effects.now _ c.loop-k.k c.index-effects-k.result refl c.loop-k-test.true c.index-effects-k.is in
    elim c.if-is_strong.branch [
      | then-is_strong+in_ok-insert w ↦
          rw (w.ids-is, w.in_ok-insert.ensures.added, add-one)
          (passing-more c.args.effects.now test c.loop-k.k c.index-effects-k.result c.loop-k.ids at (sym c.is_strong.ensures ∙ w.if-is_strong.true) c.loop-k.invariant)
      | else-is_strong w ↦
          rw (w.ids-is, add-one)
          (passing-same c.args.effects.now test c.loop-k.k c.index-effects-k.result c.loop-k.ids at (sym c.is_strong.ensures ∙ w.if-is_strong.false) c.loop-k.invariant)
    ]

pub returns : goal.returns
returns c =
    let x = c.args.effects.now in
    let level = (promises_of c.args.levels.now).level in
    let whole : take c.loop-k.k x ≡ x = take_all c.loop-k.k x (omega arith) in
    passing-strong level x c.loop-k.ids (subst (λ (y : List Effect). ArePassing y (λ e. is_strong (level e.op)) c.loop-k.ids) whole c.loop-k.invariant)
