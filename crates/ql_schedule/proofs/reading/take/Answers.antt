use Rattle.std.proofs.Common.{sym, subst}
use Rattle.ql_lines.specs.Answers.{IsLineAnswer}
use Rattle.ql_schedule.specs.declared.reading.Reading.{Reading}
use Rattle.ql_schedule.specs.Outcomes.{ExtendsSchedule}
use Rattle.ql_schedule.specs.Parts.{parts_of}
use Rattle.ql_schedule.proofs.reading.take.Goals as goal

pub returns-in-Untitled : goal.returns-in-Untitled
returns-in-Untitled c =
    let p = c.args.t.now.program in
    subst (λ (r : Reading). IsLineAnswer (ExtendsSchedule p r (parts_of c.args.text.now)) c.title.result) (sym c.in-Untitled.is) (c.title.ensures p)

pub returns-in-Titled : goal.returns-in-Titled
returns-in-Titled c =
    let p = c.args.t.now.program in
    subst (λ (r : Reading). IsLineAnswer (ExtendsSchedule p r (parts_of c.args.text.now)) c.count.result) (sym c.in-Titled.is) (c.count.ensures p)
