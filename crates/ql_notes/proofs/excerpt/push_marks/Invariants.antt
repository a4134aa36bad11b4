use Rattle.std.proofs.Common.{◌≡◌, ◌++◌, map, drop}
use Rattle.std.specs.List.{concat}
use Rattle.ql_notes.specs.Excerpts.{marks_below}
use Rattle.ql_notes.proofs.excerpt.push_marks.Given as goal

abbrev pub invariant-loop-byte : goal.invariant-loop-byte
invariant-loop-byte l = l.note.items ++ concat (map marks_below (drop l.byte-index l.bytes)) ≡ l.fn.note.items ++ concat (map marks_below l.bytes)
