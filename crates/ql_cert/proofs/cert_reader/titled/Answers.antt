use Rattle.std.proofs.Common.{sym, ◌∙◌}
use Rattle.std.proofs.lemmas.Bool.{false≢true}
use Rattle.ql_lines.specs.Fields.{fields_of}
use Rattle.ql_cert.proofs.Refusals.{not_titled}
use Rattle.ql_cert.proofs.cert_reader.titled.Goals as goal

pub returns-else-is_title : goal.returns-else-is_title
returns-else-is_title c = not_titled (fields_of c.args.text.now) (λ e. false≢true (sym c.if-is_title.false ∙ c.is_title.ensures.1 e))
