use Rattle.ql_base.specs.Ids.{op}
use Rattle.ql_atoms.specs.Atoms.{number_of, size_of}
use Rattle.ql_atoms.specs.declared.atoms.Atom.TheVariants.{Is}
use Rattle.ql_cnf.specs.Satisfaction.{variable_value}
use Rattle.ql_counter.proofs.Loops.{NoneBelow}
use Rattle.ql_counter.proofs.constants.operation.Given as goal

abbrev pub invariant-loop-o : goal.invariant-loop-o
invariant-loop-o l = NoneBelow l.o (λ o. variable_value l.a (number_of (size_of l.s) (Is (op o) l.i)))
