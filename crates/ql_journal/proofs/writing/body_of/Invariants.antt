use Rattle.std.proofs.Common.{◌≡◌, ◌++◌, length, take}
use Rattle.ql_journal.specs.Records.{number, numbers}
use Rattle.ql_journal.proofs.writing.body_of.Given as goal

abbrev pub invariant-loop-id : goal.invariant-loop-id
invariant-loop-id l = l.bytes.items ≡ number (length l.ids) ++ numbers (take l.id-index l.id-items)
