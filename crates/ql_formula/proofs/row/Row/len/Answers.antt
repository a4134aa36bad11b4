use Rattle.std.proofs.Common.{◌∙◌, length, sym, ap}
use Rattle.ql_formula.proofs.BitLaws.{truths-length}
use Rattle.ql_formula.proofs.row.Row.len.Goals as goal

pub returns : goal.returns
returns c = sym (truths-length c.self.inside.words.items c.self.inside.count) ∙ ap length c.self.view_is
