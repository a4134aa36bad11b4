use Rattle.std.proofs.Common.{ℕ, List, ◌∷◌, length, arith, length-append}
use Rattle.std.proofs.lemmas.Fmt.{decimal_nonempty}
use Rattle.ql_lex.specs.Starts.{StartsWith}
use Rattle.ql_lex.specs.Starts.StartsWith.{blank, comment, name, keyword, long_name, number, no_number, text, long_text, no_text, pair, mark, stray}
use Rattle.ql_lex.specs.Tokens.{FitsIn}
use Rattle.ql_lex.specs.declared.start.Start.{Start}

-- a front lies within its text
pub front_within : {t : List ℕ} {f : Start} → StartsWith t f → FitsIn (length t) f
front_within (blank h) = (omega arith, omega arith)
front_within (comment line rest h s) = (omega arith, omega (arith, length-append line rest))
front_within (name w rest word stop free short) = (word.some, omega (arith, length-append w rest))
front_within (keyword w rest word stop kept) = (word.some, omega (arith, length-append w rest))
front_within (long_name w rest word long) = omega (arith, length-append w rest)
front_within (number {n} w rest spelled stop) = (rw (← spelled.spelled) (decimal_nonempty n (omega (arith, spelled.bounded))), omega (arith, length-append w rest))
front_within (no_number w rest some h stop why) = omega (arith, length-append w rest)
front_within (text w rest h short) = (omega arith, omega (arith, length-append w (34 ∷ rest)))
front_within (long_text w rest h long) = omega arith
front_within (no_text w rest h short s q) = omega (arith, length-append w rest)
front_within (pair h) = (omega arith, omega arith)
front_within (mark h stop) = (omega arith, omega arith)
front_within (stray nothing h stop) = omega arith
