use Rattle.std.proofs.Common.{arith}
use Rattle.ql_lang.specs.Formulas.{resolved_of}
use Rattle.ql_warnings.proofs.Breaking.{breaks_other}
use Rattle.ql_warnings.proofs.others.breaks.Goals as goal

pub has_level-requires : goal.has_level-requires
has_level-requires c = omega (arith, c.requires.findings.all, c.requires.known)

pub returns-then-is_cheap : goal.returns-then-is_cheap
returns-then-is_cheap c = λ is.
    let found = c.has_level.ensures c.if-not-has_level.false in
    breaks_other c.args.t.now.program c.requires.counter.0 c.args.c.now c.args.effect.0 c.args.effect.1 c.requires.there.0 (resolved_of c.op_formula-contract.result.now) found.0
    c.requires.counter.1 c.requires.there.1 c.requires.there.2 c.op_formula-contract.ensures.resolved (c.is_false.ensures is) (c.requires.findings.each c.args.effect.0.0 found.0 found.1) found.2
