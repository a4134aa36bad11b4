use Rattle.ql_warnings.specs.Known.{IsPartOf}
use Rattle.ql_warnings.proofs.Scenes.{all_at, unneeded}
use Rattle.ql_warnings.proofs.premises.push_part.Goals as goal

pub returns : goal.returns
returns c = λ p g vars premise parts.
    let given = c.is_unneeded.ensures c.if-not-is_unneeded.false in
    c.in_ok-push_place.ensures p g vars premise
    (unneeded p g vars premise c.known_at-part.result given.1 (all_at (IsPartOf premise) c.args.known.now c.args.k c.known_at-part.result parts c.known_at-part.ensures)
    (all_at (IsPartOf premise) c.args.known.now given.0 given.1 parts given.2) given.3 given.4)
