-- The law of the parser: a text is one contract at most.
use Rattle.std.specs.Prelude.{◌≡◌, ℕ, List}
use Rattle.ql_lang.specs.Trees.{Sentence}
use Rattle.ql_parse.specs.Parsing.{IsContractText}

abbrev pub OneContract : Type 0
OneContract = (bytes : List ℕ) (s t : Sentence) → IsContractText bytes s → IsContractText bytes t → s ≡ t
