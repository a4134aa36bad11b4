use Rattle.std.proofs.Common.{suc, length, true, false}
use Rattle.ql_lines.specs.Fields.{fields_of}
use Rattle.ql_holds_files.specs.HoldsFile.{ExtendsHoldsAs, IsMore, after_more}
use Rattle.ql_holds_files.proofs.Lines.{stage_at}
use Rattle.ql_holds_files.proofs.reading.with_more.Goals as goal

pub returns-in-Ok-true : goal.returns-in-Ok-true
returns-in-Ok-true c =
    stage_at (ExtendsHoldsAs (IsMore (suc (length c.args.effects.effects)) (fields_of c.args.text.now)) (after_more c.args.contract c.args.current c.args.effects))
    c.args.contract c.args.current c.is_last.new.effects c.in-Ok-true.field-0 true c.in-Ok-true.field-0-test (c.in-Ok-true.ensures c.args.contract c.args.current)

pub returns-in-Ok-false : goal.returns-in-Ok-false
returns-in-Ok-false c =
    stage_at (ExtendsHoldsAs (IsMore (suc (length c.args.effects.effects)) (fields_of c.args.text.now)) (after_more c.args.contract c.args.current c.args.effects))
    c.args.contract c.args.current c.is_last.new.effects c.in-Ok-false.field-0 false c.in-Ok-false.field-0-test (c.in-Ok-false.ensures c.args.contract c.args.current)
