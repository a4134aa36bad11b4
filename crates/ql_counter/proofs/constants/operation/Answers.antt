use Rattle.std.proofs.Common.{sym, ap, ◌∙◌, arith}
use Rattle.ql_base.specs.Ids.{op}
use Rattle.ql_atoms.specs.Atoms.{number_of, size_of}
use Rattle.ql_atoms.specs.declared.atoms.Atom.TheVariants.{Is}
use Rattle.ql_cnf.specs.Satisfaction.{variable_value}
use Rattle.ql_counter.proofs.Loops.{least-is, least-none}
use Rattle.ql_counter.proofs.constants.operation.Goals as goal

pub returns-then-value : goal.returns-then-value
returns-then-value c =
    let less = c.loop-o-test.true in
    least-is c.args.s.operations c.loop-o.o (λ o. variable_value c.args.a.now (number_of (size_of c.args.s) (Is (op o) c.args.i))) (omega (arith, less))
    (sym (c.value.ensures ∙ ap (variable_value c.args.a.now) c.number.ensures.value) ∙ c.if-value.true) c.loop-o.invariant

pub returns : goal.returns
returns c =
    let less = c.loop-o-test.false in
    least-none c.args.s.operations c.loop-o.o (λ o. variable_value c.args.a.now (number_of (size_of c.args.s) (Is (op o) c.args.i))) (omega (arith, less)) c.loop-o.invariant
