use Rattle.std.proofs.Common.{arith, sym, ◌∙◌}
use Rattle.std.proofs.lemmas.Fmt.{decimal_injective}
use Rattle.ql_effect_lines.proofs.setting.run_of.Goals as goal

pub returns-then-run-eq0 : goal.returns-then-run-eq0
returns-then-run-eq0 c = λ n one small e.
    let same = decimal_injective n c.in_ok-run.run' (omega (arith, small)) (omega (arith, c.in_ok-run.ensures.bounded)) (sym e ∙ sym c.in_ok-run.ensures.spelled) in
    grind (arith, same, one, c.if-run-eq0.true)
