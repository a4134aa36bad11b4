use Rattle.std.proofs.Common.{◌≡◌, decimal, arith, sym, ◌∙◌}
use Rattle.std.proofs.lemmas.Fmt.{decimal_injective}
use Rattle.ql_cert.proofs.fields.number_from_one.Goals as goal

pub returns-then-number-eq0 : goal.returns-then-number-eq0
returns-then-number-eq0 c = λ x fits e.
    let zero : decimal c.in_ok-number.number ≡ c.args.digits.now = c.in_ok-number.ensures.spelled in
    let none : x ≡ c.in_ok-number.number = decimal_injective x c.in_ok-number.number (omega (arith, fits.1, c.ranges.most.fits)) (omega (arith, c.if-number-eq0.true)) (e ∙ sym zero) in
    omega (arith, fits.0, none, c.if-number-eq0.true)
