use Rattle.std.proofs.Common.{refl}
use Rattle.std.proofs.lemmas.List.{drop-map}
use Rattle.ql_typing.proofs.limits.above_limit.Goals as goal

pub returns : goal.returns
returns g c = simp (c.extra_fault.ensures, c.past_limit.ensures, drop-map) refl
