use Rattle.std.proofs.Common.{◌∙◌, ap}
use Rattle.std.proofs.lemmas.List.{take_all}
use Rattle.ql_value.specs.Collections.{sum_of}
use Rattle.ql_value.proofs.maps.sum.Goals as goal

pub returns : goal.returns
returns c = c.loop-entry.invariant ∙ ap sum_of (take_all c.loop-entry.entry-index c.items-entry-items.result.now c.loop-entry-test.false ∙ c.items-entry-items.ensures.same)
