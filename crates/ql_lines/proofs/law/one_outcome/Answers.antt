use Rattle.ql_lines.proofs.OneOutcome as law
use Rattle.ql_lines.proofs.law.one_outcome.Goals as goal

pub returns-clause-one : goal.returns-clause-one
returns-clause-one g c =
    let f = c.args.format.now in
    let of = g.F.LineFormat in
    let laws = g.met.F.LineFormat in
    λ file x y p q. law.one_outcome (of.gives f) (of.closes f) (laws.gives_one f) (laws.closes_one f) (of.start f) file x y p q

pub returns-clause-some : goal.returns-clause-some
returns-clause-some g c =
    let f = c.args.format.now in
    let of = g.F.LineFormat in
    let laws = g.met.F.LineFormat in
    λ file none. law.some_outcome (of.gives f) (of.closes f) (laws.gives_some f) (laws.closes_some f) (of.start f) file none
