use Rattle.std.proofs.lemmas.Result.{err_from_is_err_and}
use Rattle.std.proofs.Common.{arith, ℕ, length-drop}
use Rattle.std.proofs.lemmas.List.{length-take}
use Rattle.ql_ports.proofs.whole.write_whole.Goals as goal
use Rattle.ql_ports.proofs.Prefixes.{appended-front}

pub loop-done-preserved : goal.loop-done-preserved
loop-done-preserved g c = record {
  in_range = omega (arith, length-take {A = ℕ}, length-drop {A = ℕ}, c.in_ok-done.ensures.within);
  written = rw (c.in_ok-done.ensures.taken, c.loop-done.invariant.written) (appended-front _ _ _ _);
  count = omega arith;
}

pub returns-in_err-done-clause-whole : goal.returns-in_err-done-clause-whole
returns-in_err-done-clause-whole g c = let p = err_from_is_err_and c.from_residual.result c.from_residual.ensures.1 in rw p.1 tt
