use Rattle.std.proofs.Common.{sym, ◌∙◌}
use Rattle.ql_ports.proofs.mem_shelf.place_named.Goals as goal
use Rattle.ql_ports.proofs.MemoryLemmas.{position_or_len-none}

pub returns-in-None-clause-value : goal.returns-in-None-clause-value
returns-in-None-clause-value c = position_or_len-none _ _ (sym c.first_named.ensures ∙ c.in-None.is)
