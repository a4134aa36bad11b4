use Rattle.std.specs.Prelude.{ℕ, ◌+◌, ◌-◌, List, [], ◌∷◌, nat_lt, if◌then◌else◌, Result, Ok, Err}
use Rattle.ql_base.specs.declared.limits.TheConstants.{MAX_BRACKETS, MAX_NODES}
use Rattle.ql_grammar.specs.declared.role.Role.{Role}
use Rattle.ql_grammar.specs.declared.role.Role.TheVariants.{Plain, Makes, Opens, Closes, Before}
use Rattle.ql_grammar.specs.Tokens.{Marked}

-- Why tokens are refused, with the source offset.
pub data Fault : Type 0 where
  -- no text of the grammar continues with this token, or the text ends too early
  Unexpected : ℕ → Fault
  -- one bracket too many is open at once within one expression or contract
  Deep : ℕ → Fault
  -- the token makes one node too many in one expression or contract
  Wide : ℕ → Fault

-- the brackets that are open, and the nodes so far, in one expression or contract
pub record Counts : Type 0 where
  pub open_brackets : ℕ
  pub nodes : ℕ

abbrev pub nothing_yet : Counts
nothing_yet = record { open_brackets = 0; nodes = 0 }

unfoldable pub with_nodes : Counts → ℕ → ℕ → Result Counts Fault
with_nodes c n at = if nat_lt MAX_NODES (c.nodes + n) then Err (Wide at) else Ok (record c { nodes = c.nodes + n })

-- the counts after a token of this role, or the fault if it exceeds a limit
unfoldable pub counted : Counts → Role → ℕ → Result Counts Fault
counted c Plain at = Ok c
counted c (Makes n) at = with_nodes c n at
counted c (Opens n) at =
    if nat_lt MAX_BRACKETS (c.open_brackets + 1) then Err (Deep at)
    else with_nodes (record c { open_brackets = c.open_brackets + 1 }) n at
counted c Closes at = Ok (record c { open_brackets = c.open_brackets - 1 })
counted c Before at = Ok nothing_yet

abbrev pub if_within : {A : Type 0} → Result Counts Fault → (Counts → Result A Fault) → Result A Fault
if_within (Err f) go = Err f
if_within (Ok c) go = go c

-- the counts after these tokens, or the fault of the first that exceeds a limit
unfoldable pub counted_all : Counts → List Marked → Result Counts Fault
counted_all c [] = Ok c
counted_all c (m ∷ ms) = if_within (counted c m.role m.lexeme.at) (λ d. counted_all d ms)
