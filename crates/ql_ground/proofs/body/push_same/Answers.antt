use Rattle.std.proofs.lemmas.Result.{err_from_is_err_and}
use Rattle.std.proofs.Common.{true, ℕ, ◌++◌, ◌∷◌, [], ap, ◌∙◌}
use Rattle.ql_atoms.specs.Atoms.{size_of}
use Rattle.ql_atoms.specs.declared.atoms.Atom.TheVariants.{Pair}
use Rattle.ql_atoms.specs.declared.atoms.PairKind.TheVariants.{SameTxn}
use Rattle.ql_cnf.specs.declared.lit.Lit.{Lit}
use Rattle.ql_ground.specs.Bodies.{constant_of}
use Rattle.ql_ground.specs.Parts.{literal_of}
use Rattle.ql_ground.proofs.Growth.{mapped_more}
use Rattle.ql_ground.proofs.body.push_same.Goals as goal

pub loop-t-preserved : goal.loop-t-preserved
loop-t-preserved c =
    mapped_more (λ (d : ℕ). literal_of (size_of c.args.s) true (Pair SameTxn c.args.first d)) (constant_of (size_of c.args.s)) c.args.lits.now.items c.loop-t.lits.items c.push.new.self.items c.args.rest.now c.loop-t.t-index _ c.loop-t-test.true c.loop-t.invariant
    (c.in_ok-push.ensures.items ∙ ap (λ (x : Lit). c.loop-t.lits.items ++ x ∷ []) (c.literal.ensures.value ∙ ap (λ (d : ℕ). literal_of (size_of c.args.s) true (Pair SameTxn c.args.first d)) c.constant_of.ensures))

pub returns-in_err-push : goal.returns-in_err-push
returns-in_err-push c = let p = err_from_is_err_and c.from_residual.result c.from_residual.ensures.1 in rw p.1 tt
