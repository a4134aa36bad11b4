use Rattle.std.proofs.Common.{sym, ◌∙◌}
use Rattle.std.proofs.lemmas.Bool.{false≢true}
use Rattle.ql_lines.specs.Fields.{fields_of}
use Rattle.ql_cert.proofs.Refusals.{no_number_first}
use Rattle.ql_cert.proofs.cert_reader.within.Goals as goal

pub returns-in-None : goal.returns-in-None
returns-in-None c =
    no_number_first c.args.done c.args.last c.in-Some-first_field.first.now (fields_of c.in-Some-first_field.body.now) (fields_of c.args.text.now)
    c.in-Some-first_field.ensures.fields
    (λ name level fits e. c.in_default.ensures (record { name = name; level = level }) fits e)
    (λ e. false≢true (sym c.if-is_end.false ∙ c.is_end.ensures.1 e))
    c.in-None.ensures
