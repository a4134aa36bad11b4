use Rattle.std.proofs.Common.{◌≡◌, ◌++◌, map, drop}
use Rattle.ql_lang.specs.Spelling.{listed, word_of}
use Rattle.ql_lang.proofs.Appending.{continued}
use Rattle.ql_lang.proofs.print.push_names.Given as goal

abbrev pub invariant-loop-name : goal.invariant-loop-name
invariant-loop-name l = l.out.items ++ continued l.before l.mark (map word_of (drop l.name-index l.names)) ≡ l.fn.out.items ++ listed l.mark (map word_of l.names)
