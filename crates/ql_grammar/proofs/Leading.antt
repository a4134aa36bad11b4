use Rattle.std.proofs.Common.{List, [], ◌∷◌, ◌++◌}
use Rattle.ql_grammar.specs.Table.{Sym}
use Rattle.ql_grammar.proofs.Wanted.{Widens}

-- each of the ways leads to a text of the stack
abbrev pub Leads : List Sym → List (List Sym) → Type 0
Leads to [] = Unit {0}
Leads to (way ∷ others) = Widens way to × Leads to others

pub lead_on : (mid to : List Sym) (ways : List (List Sym)) → Widens mid to → Leads mid ways → Leads to ways
lead_on mid to [] w leads = tt
lead_on mid to (way ∷ others) w leads = (λ vs out ts h. w vs out ts (leads.0 vs out ts h), lead_on mid to others w leads.1)

pub both_lead : (to : List Sym) (some others : List (List Sym)) → Leads to some → Leads to others → Leads to (some ++ others)
both_lead to [] bs a b = b
both_lead to (way ∷ ways) bs a b = (a.0, both_lead to ways bs a.1 b)
