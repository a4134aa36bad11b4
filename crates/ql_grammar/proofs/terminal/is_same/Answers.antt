use Rattle.std.proofs.Common.{◌≡◌, refl}
use denote.Enum.Declared.{tag_of}
use Rattle.ql_grammar.specs.contracts.terminal.Terminal.{the_type}
use Rattle.ql_grammar.specs.declared.terminal.Terminal.{Terminal}
use Rattle.ql_grammar.specs.declared.terminal.Terminal.TheVariants.{NameToken}
use Rattle.ql_grammar.specs.Terminals.{is_same, number}
use Rattle.ql_grammar.proofs.terminal.is_same.Goals as goal

-- the number in the list is the one that the program compares
number-tag : (k : Terminal) → tag_of the_type k ≡ number k
unfolding number
number-tag k = elim k as (λ j. tag_of the_type j ≡ number j) [ NameToken ↦ refl | _ ↦ refl ]

pub returns : goal.returns
unfolding is_same
returns c = rw (number-tag, number-tag) refl
