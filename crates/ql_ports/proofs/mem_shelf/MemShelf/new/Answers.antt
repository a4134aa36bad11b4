use Rattle.std.proofs.lemmas.Result.{err_from_is_err_and}
use Rattle.ql_ports.proofs.mem_shelf.MemShelf.new.Goals as goal

pub returns-in_err-counts : goal.returns-in_err-counts
returns-in_err-counts c = let p = err_from_is_err_and c.from_residual.result c.from_residual.ensures.1 in rw p.1 tt
