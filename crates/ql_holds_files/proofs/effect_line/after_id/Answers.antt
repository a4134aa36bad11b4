use Rattle.std.proofs.Common.{◌≡◌, ◌∷◌, codes, decimal, arith, sym, ◌∙◌}
use Rattle.std.proofs.lemmas.Fmt.{decimal_injective}
use Rattle.ql_lines.specs.Fields.{fields_of}
use Rattle.ql_lines.proofs.Conses.{heads, tails}
use Rattle.ql_holds_files.proofs.effect_line.after_id.Goals as goal

pub returns-else-number-id : goal.returns-else-number-id
returns-else-number-id c = λ rest e.
    let numbered = fields_of c.in_ok-numbered.numbered.now in
    let remaining = fields_of c.in_ok-number.remaining.now in
    let left : numbered ≡ decimal c.args.id ∷ rest = tails (codes "effect") (codes "effect") numbered (decimal c.args.id ∷ rest) (sym c.in_ok-numbered.ensures.fields ∙ e) in
    let same = heads (decimal c.in_ok-number.number) (decimal c.args.id) remaining rest (sym c.in_ok-number.ensures.1.fields ∙ left) in
    c.if-number-id.false (decimal_injective c.in_ok-number.number c.args.id (omega (arith, c.in_ok-number.ensures.0)) (omega (arith, c.ranges.id.fits)) same)
