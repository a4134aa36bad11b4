use Rattle.std.proofs.Common.{refl, sym, ◌∙◌, add-one}
use Rattle.std.proofs.lemmas.Option.{slice_get_read}
use Rattle.ql_strong.proofs.PackageLaws.{members-more, members-same}
use Rattle.ql_strong.proofs.package.members.Goals as goal
use Rattle.ql_strong.proofs.package.members.Goals.{then-is_in+in_ok-insert, else-is_in}

pub loop-k-preserved : goal.loop-k-preserved
loop-k-preserved c =
    let at = slice_get_read c.args.effects.now _ c.loop-k.k c.index-effects-k.result refl c.loop-k-test.true c.index-effects-k.is in
    elim c.if-is_in.branch [
      | then-is_in+in_ok-insert w ↦
          rw (w.ids-is, w.in_ok-insert.ensures.added, add-one)
          (members-more c.args.effects.now c.args.run.0 c.loop-k.k c.index-effects-k.result c.loop-k.ids at (sym c.is_in.ensures ∙ w.if-is_in.true) c.loop-k.invariant)
      | else-is_in w ↦
          rw (w.ids-is, add-one)
          (members-same c.args.effects.now c.args.run.0 c.loop-k.k c.index-effects-k.result c.loop-k.ids at (sym c.is_in.ensures ∙ w.if-is_in.false) c.loop-k.invariant)
    ]
