use Rattle.std.proofs.lemmas.Bool.{MatchBool-at_false}
use Rattle.ql_base.specs.declared.ids.OpId.{OpId}
use Rattle.ql_explanation.proofs.StrongUses.{none_more}
use Rattle.ql_explanation.proofs.answer.uses_strong.Goals as goal

pub loop-o-preserved : goal.loop-o-preserved
loop-o-preserved c =
    let o : OpId = record { 0 = c.loop-o.o } in
    none_more c.args.t.now.program c.args.d.0 o c.loop-o.invariant (MatchBool-at_false _ _ c.if-is_strong_use.false c.is_strong_use.ensures)
