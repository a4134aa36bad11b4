use Rattle.std.proofs.Common.{◌≡◌, ◌+◌, ◌-◌, ◌<◌, ◌∷◌, length, take, drop, arith, ◌∙◌, ap, sym}
use Rattle.std.specs.Str.Lines.{lines, strip_carriage_return}
use Rattle.std.proofs.lemmas.List.{length-drop, take_all}
use Rattle.ql_lines.proofs.LineLaws.{last_line, line_and_rest}
use Rattle.ql_lines.proofs.lines.first_line.Goals as goal

pub returns-then-len-bytes : goal.returns-then-len-bytes
returns-then-len-bytes c =
    let some : 0 < length c.args.bytes.now = grind (arith, c.is_empty.ensures, c.if-is_empty.false) in
    (some, last_line c.args.bytes.now some (sym c.bytes_before-len.ensures.longest ∙ c.if-len-bytes.true))

pub returns-else-len-bytes : goal.returns-else-len-bytes
returns-else-len-bytes c =
    let bytes = c.args.bytes.now in
    let n = c.bytes_before-len.result in
    let within : n < length bytes = omega (arith, c.bytes_before-len.ensures.within, c.if-len-bytes.false) in
    let is = c.bytes_before-len.ensures.longest in
    let rest : take (length bytes - (n + 1)) (drop (n + 1) bytes) ≡ drop (n + 1) bytes = take_all (length bytes - (n + 1)) (drop (n + 1) bytes) (omega (arith, length-drop (n + 1) bytes)) in
    let whole : lines bytes ≡ strip_carriage_return (take n bytes) ∷ lines (drop (n + 1) bytes) = rw is (line_and_rest bytes (omega (arith, is, within))) in
    rw rest (omega (arith, length-drop (n + 1) bytes, within), whole ∙ ap (λ l. l ∷ lines (drop (n + 1) bytes)) (sym c.without_return.ensures))
