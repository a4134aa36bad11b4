use Rattle.std.proofs.Common.{◌≡◌, ◌+◌, ◌∷◌, ◌++◌, [], take, get_or, add-one}
use Rattle.std.proofs.Math.Seq.{take-suc}
use Rattle.ql_session.proofs.MissingLaws.{missing-more}
use Rattle.ql_session.proofs.missing.least_missing_of.Goals as goal

pub loop-id-preserved : goal.loop-id-preserved
loop-id-preserved c =
    let ids = c.args.ids.now in
    let i = c.loop-id.id-index in
    let more : take (i + 1) ids ≡ take i ids ++ get_or ids i 0 ∷ [] = rw add-one (take-suc ids i 0 c.loop-id-test.true) in
    rw (c.lesser_missing-least.ensures, more) (missing-more (take i ids) c.args.view.now (get_or ids i 0) c.loop-id.least c.loop-id.invariant)
