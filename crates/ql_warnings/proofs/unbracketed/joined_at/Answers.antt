use Rattle.ql_warnings.proofs.Joining.{joined_placed}
use Rattle.ql_warnings.proofs.unbracketed.joined_at.Goals as goal

pub returns-in-Some : goal.returns-in-Some
returns-in-Some c =
    joined_placed c.args.source.now c.args.extent.start c.args.tokens.now c.args.k c.in-Some.at c.args.extent.end c.place_before.result c.in-Some.ensures c.place_before.ensures

pub returns-in-None : goal.returns-in-None
returns-in-None c = λ place placed joins less. c.in-None.ensures place.at joins
