use Rattle.std.proofs.lemmas.Result.{err_from_is_err_and}
use Rattle.ql_atoms.specs.declared.atoms.Atom.TheVariants.{Is}
use Rattle.ql_base.specs.Ids.{op}
use Rattle.ql_report.specs.Atoms.{reported_atom}
use Rattle.ql_report.specs.Report.{reported_of}
use Rattle.ql_report.proofs.Loops.{none_yet, one_more}
use Rattle.ql_report.proofs.atoms.push_operation.Goals as goal

pub loop-i-init : goal.loop-i-init
loop-i-init c = none_yet c.args.out.now.items (λ i. reported_atom (reported_of c.args.reported.now) (Is (op c.args.o.0) i))

pub loop-i-preserved : goal.loop-i-preserved
loop-i-preserved c = rw (c.in_ok-push_if_true.ensures, c.loop-i.invariant) (one_more c.args.out.now.items c.loop-i.i (λ i. reported_atom (reported_of c.args.reported.now) (Is (op c.args.o.0) i)))

pub returns-in_err-push_if_true : goal.returns-in_err-push_if_true
returns-in_err-push_if_true c = let p = err_from_is_err_and c.from_residual.result c.from_residual.ensures.1 in rw p.1 tt
