use Rattle.std.specs.Prelude.{ℕ, List, [], ◌∷◌, map, unwrap_or, length, nat_eq, if◌then◌else◌}
use Rattle.ql_base.specs.IdLists.{with_id}
use Rattle.ql_base.specs.Numbering.{place}
use Rattle.ql_lang.specs.declared.name.Name.{Name}
use Rattle.ql_lang.specs.declared.contract.Var.{Var}
use Rattle.ql_lang.specs.declared.contract.Point.{Point}
use Rattle.ql_lang.specs.declared.contract.Point.TheVariants.{CurAt, Named}
use Rattle.ql_lang.specs.declared.formula.OpChoice.{OpChoice}
use Rattle.ql_lang.specs.declared.formula.OpChoice.TheVariants.{Any, OneOf}
use Rattle.ql_lang.specs.declared.formula.Term.{Term}
use Rattle.ql_lang.specs.declared.formula.Term.TheVariants as term
use Rattle.ql_lang.specs.Trees.{Proposition, Truth, Application, Conjunction, Disjunction, Implication, InTxn, Sentence}
use Rattle.ql_lang.specs.Formulas.{Statement, Always, Related, BothOf, IfThen, InOneTxn, Resolved}
use Rattle.ql_lang.specs.Formulas as formula
use Rattle.ql_typing.specs.Faults.{names_met}
use Rattle.ql_typing.specs.ContractFaults.{var_names}

-- a name's number: its index in a list of names
abbrev pub number_in : List (List ℕ) → List ℕ → ℕ
number_in names w = unwrap_or (place names w) 0

-- the operations after those that variables name are met
unfoldable pub ops_met : List (List ℕ) → List Var → List (List ℕ)
ops_met ops [] = ops
ops_met ops (v ∷ vs) = ops_met (names_met ops v.ops) vs

-- ids with the numbers of names
unfoldable pub with_numbers : List (List ℕ) → List ℕ → List Name → List ℕ
with_numbers ops ids [] = ids
with_numbers ops ids (n ∷ ns) = with_numbers ops (with_id ids (number_in ops n.word)) ns

-- a variable without names ranges over all effects, any other over those of the named operations
abbrev pub choice_of : List (List ℕ) → List Name → OpChoice
choice_of ops ns = if nat_eq (length ns) 0 then Any else OneOf (with_numbers ops [] ns)

-- a variable is identified by its index
unfoldable pub term_of : List (List ℕ) → Point → Term
term_of vars (CurAt at) = term.Cur
term_of vars (Named n) = term.Var (number_in vars n.word)

unfoldable pub statement_in : List (List ℕ) → Proposition → Statement
statement_in vars Truth = Always
statement_in vars (Application r x y) = Related r (term_of vars x) (term_of vars y)
statement_in vars (Conjunction a b) = BothOf (statement_in vars a) (statement_in vars b)
statement_in vars (Disjunction a b) = formula.OneOf (statement_in vars a) (statement_in vars b)
statement_in vars (Implication a b) = IfThen (statement_in vars a) (statement_in vars b)
statement_in vars (InTxn at members others) = InOneTxn (map (term_of vars) members) (map (term_of vars) others)

-- a contract with its names resolved, where operations are numbered by a list
unfoldable pub resolved_in : List (List ℕ) → Sentence → Resolved
resolved_in ops c = record {
  vars = map (λ v. choice_of ops v.ops) c.vars;
  body = statement_in (names_met [] (var_names c.vars)) c.body;
}
