use Rattle.std.proofs.Common.{◌∙◌, sym}
use Rattle.ql_value.specs.Reading.{scalar_at, entry_value_at}
use Rattle.ql_value.proofs.ReadSteps.{moved, value_behind}
use Rattle.ql_value.proofs.reading.entry_value.Goals as goal

pub returns-then-is_at : goal.returns-then-is_at
returns-then-is_at c = moved entry_value_at scalar_at c.args.bytes.now c.args.at c.spaces_end.result c.scalar.result (value_behind c.args.bytes.now c.args.at c.spaces_end.result (sym c.is_at.ensures ∙ c.if-is_at.true) c.spaces_end.ensures.end) c.scalar.ensures
