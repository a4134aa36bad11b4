use Rattle.std.proofs.Common.{◌∙◌, arith, sym, ap, subst}
use Rattle.std.proofs.lemmas.Bool.{false≢true}
use Rattle.std.proofs.lemmas.List.Sums.{prefix_len-le-length}
use Rattle.ql_base.specs.Bytes.{begins, is_digit}
use Rattle.ql_base.specs.Names.{IsName}
use Rattle.ql_value.specs.Reading.{is_byte}
use Rattle.ql_lines.proofs.Conses.{tails}
use Rattle.ql_effect_lines.proofs.Txns.{name_behind, number_before}
use Rattle.ql_effect_lines.proofs.setting.begun_of.Goals as goal

pub split_at-requires : goal.split_at-requires
split_at-requires c = let within = prefix_len-le-length is_digit c.args.field.now in omega (arith, c.digit_bytes.ensures, within)

pub returns-in_default : goal.returns-in_default
returns-in_default c = λ t fits e.
    let rest = name_behind t.run c.digit_bytes.result t.name c.args.field.now fits.1 e c.digit_bytes.ensures c.split_at.result.1.now c.split_at.ensures.back in
    false≢true (sym c.in_default.ensures ∙ ap (begins (is_byte 58)) rest)

pub returns-in_default-run_of : goal.returns-in_default-run_of
returns-in_default-run_of c = λ t fits e.
    let digits = number_before t.run c.digit_bytes.result t.name c.args.field.now fits.1 e c.digit_bytes.ensures c.split_at.result.0.now c.split_at.ensures.front in
    c.in_default-run_of.ensures t.run fits.0 fits.1 digits

pub returns-else-is_name : goal.returns-else-is_name
returns-else-is_name c = λ t fits e.
    let rest = name_behind t.run c.digit_bytes.result t.name c.args.field.now fits.1 e c.digit_bytes.ensures c.split_at.result.1.now c.split_at.ensures.back in
    let same = tails 58 58 t.name c.in-Some.name.now (sym rest ∙ c.in-Some.ensures) in
    false≢true (sym c.if-is_name.false ∙ c.is_name.ensures.1 (subst IsName same fits.2))
