use Rattle.std.proofs.Common.{◌≡◌, ◌++◌, map, drop, codes}
use Rattle.ql_lang.specs.Spelling.{listed, term_text}
use Rattle.ql_lang.proofs.Appending.{continued}
use Rattle.ql_lang.proofs.print.push_terms.Given as goal

abbrev pub invariant-loop-term : goal.invariant-loop-term
invariant-loop-term l = l.out.items ++ continued l.before (codes ", ") (map term_text (drop l.term-index l.terms)) ≡ l.fn.out.items ++ listed (codes ", ") (map term_text l.terms)
