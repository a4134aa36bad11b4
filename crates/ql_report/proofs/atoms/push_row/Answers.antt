use Rattle.std.proofs.lemmas.Result.{err_from_is_err_and}
use Rattle.ql_atoms.specs.declared.atoms.Atom.TheVariants.{Pair}
use Rattle.ql_report.specs.Atoms.{reported_atom}
use Rattle.ql_report.specs.Report.{reported_of}
use Rattle.ql_report.proofs.Loops.{none_yet, one_more}
use Rattle.ql_report.proofs.atoms.push_row.Goals as goal

pub loop-j-init : goal.loop-j-init
loop-j-init c = none_yet c.args.out.now.items (λ j. reported_atom (reported_of c.args.reported.now) (Pair c.args.kind c.args.i j))

pub loop-j-preserved : goal.loop-j-preserved
loop-j-preserved c = rw (c.in_ok-push_if_true.ensures, c.loop-j.invariant) (one_more c.args.out.now.items c.loop-j.j (λ j. reported_atom (reported_of c.args.reported.now) (Pair c.args.kind c.args.i j)))

pub returns-in_err-push_if_true : goal.returns-in_err-push_if_true
returns-in_err-push_if_true c = let p = err_from_is_err_and c.from_residual.result c.from_residual.ensures.1 in rw p.1 tt
