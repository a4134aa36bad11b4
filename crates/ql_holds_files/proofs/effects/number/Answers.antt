use Rattle.std.proofs.Common.{◌≡◌, Some, sym, ap, ◌∙◌}
use Rattle.std.proofs.lemmas.Slice.Eq.{bytes_eq-Decides}
use Rattle.ql_holds_files.proofs.NumberedNames.{known_name, known_number}
use Rattle.ql_holds_files.proofs.effects.number.Goals as goal

pub returns-then-eq-clause-names : goal.returns-then-eq-clause-names
returns-then-eq-clause-names c =
    let equal : c.bytes.result.now ≡ c.bytes-bytes.result.now = (bytes_eq-Decides c.bytes.result.now c.bytes-bytes.result.now).0 (sym c.eq.ensures ∙ c.if-eq.true) in
    let same : c.name.result.now ≡ c.args.word.now = sym c.bytes.ensures.same ∙ equal ∙ c.bytes-bytes.ensures.same in
    sym (known_name c.args.names.now c.args.word.now c.args.likely (c.name.ensures ∙ ap Some same))

pub returns-then-eq-clause-numbered : goal.returns-then-eq-clause-numbered
returns-then-eq-clause-numbered c =
    let equal : c.bytes.result.now ≡ c.bytes-bytes.result.now = (bytes_eq-Decides c.bytes.result.now c.bytes-bytes.result.now).0 (sym c.eq.ensures ∙ c.if-eq.true) in
    let same : c.name.result.now ≡ c.args.word.now = sym c.bytes.ensures.same ∙ equal ∙ c.bytes-bytes.ensures.same in
    sym (known_number c.args.names.now c.args.word.now c.args.likely (c.name.ensures ∙ ap Some same) c.len.ensures.distinct)
