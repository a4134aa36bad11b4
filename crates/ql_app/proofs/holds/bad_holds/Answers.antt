use Rattle.ql_holds_files.specs.declared.holds_fault.HoldsFault.TheVariants.{Unexpected, Unknown, Twice, TxnAtom, Variables, Range, NotForward, OtherObject, TooMany}
use Rattle.ql_app.proofs.HoldsLaws.{reported_so}
use Rattle.ql_app.proofs.holds.bad_holds.Goals as goal

pub returns-in-Unexpected-clause-text : goal.returns-in-Unexpected-clause-text
returns-in-Unexpected-clause-text c = reported_so c.bad.result (Unexpected c.in-Unexpected.line) c.args.fault c.in-Unexpected.is c.bad.ensures.text

pub returns-in-Unknown-clause-text : goal.returns-in-Unknown-clause-text
returns-in-Unknown-clause-text c = reported_so c.bad-in-Unknown.result (Unknown c.in-Unknown.line) c.args.fault c.in-Unknown.is c.bad-in-Unknown.ensures.text

pub returns-in-Twice-clause-text : goal.returns-in-Twice-clause-text
returns-in-Twice-clause-text c = reported_so c.bad-in-Twice.result (Twice c.in-Twice.line) c.args.fault c.in-Twice.is c.bad-in-Twice.ensures.text

pub returns-in-TxnAtom-clause-text : goal.returns-in-TxnAtom-clause-text
returns-in-TxnAtom-clause-text c = reported_so c.bad-in-TxnAtom.result (TxnAtom c.in-TxnAtom.line) c.args.fault c.in-TxnAtom.is c.bad-in-TxnAtom.ensures.text

pub returns-in-Variables-clause-text : goal.returns-in-Variables-clause-text
returns-in-Variables-clause-text c = reported_so c.bad-in-Variables.result (Variables c.in-Variables.line) c.args.fault c.in-Variables.is c.bad-in-Variables.ensures.text

pub returns-in-Range-clause-text : goal.returns-in-Range-clause-text
returns-in-Range-clause-text c = reported_so c.bad-in-Range.result (Range c.in-Range.line) c.args.fault c.in-Range.is c.bad-in-Range.ensures.text

pub returns-in-NotForward-clause-text : goal.returns-in-NotForward-clause-text
returns-in-NotForward-clause-text c = reported_so c.bad-in-NotForward.result (NotForward c.in-NotForward.line) c.args.fault c.in-NotForward.is c.bad-in-NotForward.ensures.text

pub returns-in-OtherObject-clause-text : goal.returns-in-OtherObject-clause-text
returns-in-OtherObject-clause-text c = reported_so c.bad-in-OtherObject.result (OtherObject c.in-OtherObject.line) c.args.fault c.in-OtherObject.is c.bad-in-OtherObject.ensures.text

pub returns-in-TooMany-clause-text : goal.returns-in-TooMany-clause-text
returns-in-TooMany-clause-text c = reported_so c.bad-in-TooMany.result (TooMany c.in-TooMany.line) c.args.fault c.in-TooMany.is c.bad-in-TooMany.ensures.text
