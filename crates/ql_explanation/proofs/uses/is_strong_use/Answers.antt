use Rattle.std.proofs.Common.{sym, ◌∙◌}
use Rattle.std.proofs.lemmas.Bool.{false≢true}
use Rattle.ql_explanation.proofs.Judged.{strong_use}
use Rattle.ql_explanation.proofs.uses.is_strong_use.Goals as goal

pub returns-then-not-uses : goal.returns-then-not-uses
returns-then-not-uses c = λ is. false≢true (sym c.if-not-uses.true ∙ c.uses.ensures ∙ is.used)

pub returns : goal.returns
returns c =
    strong_use c.args.t.now.program c.args.findings.now c.args.d.0 c.args.o c.finding_of.result.now c.is_strong.result c.requires.findings c.requires.op c.finding_of.ensures
    (sym c.uses.ensures ∙ c.if-not-uses.false) c.is_strong.ensures
