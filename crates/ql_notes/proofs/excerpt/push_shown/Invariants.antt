use Rattle.std.proofs.Common.{◌≡◌, ◌++◌, map, drop}
use Rattle.std.specs.List.{concat}
use Rattle.ql_notes.specs.Excerpts.{shown_byte}
use Rattle.ql_notes.proofs.excerpt.push_shown.Given as goal

abbrev pub invariant-loop-byte : goal.invariant-loop-byte
invariant-loop-byte l = l.note.items ++ concat (map shown_byte (drop l.byte-index l.bytes)) ≡ l.fn.note.items ++ concat (map shown_byte l.bytes)
