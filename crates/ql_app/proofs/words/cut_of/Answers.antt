use Rattle.std.proofs.Common.{◌≡◌, decimal, sym, ap, ◌∙◌, arith}
use Rattle.std.proofs.lemmas.Fmt.{decimal_injective}
use Rattle.ql_app.proofs.words.cut_of.Goals as goal

pub returns-then-cut-eq0 : goal.returns-then-cut-eq0
returns-then-cut-eq0 c = λ n first last is.
    let zero : c.in_ok-cut.cut ≡ 0 = grind (arith, c.if-cut-eq0.true) in
    let same : 0 ≡ n = decimal_injective 0 n (omega arith) (omega (arith, last)) (ap decimal (sym zero) ∙ sym c.in_ok-cut.ensures.1 ∙ is) in
    omega (arith, same, first)
