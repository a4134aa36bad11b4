-- The formula of each level. The levels' names are from Sivaramakrishnan, Kaki and Jagannathan (PLDI 2015), but for
-- `wide`; that name and these exact formulas are ours.
use Rattle.std.specs.Prelude.{[], ◌∷◌}
use Rattle.ql_lang.specs.Trees.{Basic}
use Rattle.ql_lang.specs.Formulas.{Statement, Related, BothOf, OneOf, IfThen, InOneTxn, Resolved}
use Rattle.ql_lang.specs.declared.relation.RelName.{RelName}
use Rattle.ql_lang.specs.declared.relation.RelName.TheVariants.{Vis, So, SameObj, Eq, Hb, Hbo}
use Rattle.ql_lang.specs.declared.formula.OpChoice.TheVariants.{Any}
use Rattle.ql_lang.specs.declared.formula.Term.{Term}
use Rattle.ql_lang.specs.declared.formula.Term.TheVariants.{Cur, Var}
use Rattle.ql_levels.specs.declared.level.Level.{Level}
use Rattle.ql_levels.specs.declared.level.Level.TheVariants.{Eventual, Causal, Wide, Strong}
use Rattle.ql_levels.specs.declared.level.TxnLevel.{TxnLevel}
use Rattle.ql_levels.specs.declared.level.TxnLevel.TheVariants.{Rc, Mav, Rr}

-- the variables in order
abbrev a : Term
a = Var 0

abbrev b : Term
b = Var 1

abbrev c : Term
c = Var 2

abbrev d : Term
d = Var 3

-- a relation that comes from no source holds
abbrev is : RelName → Term → Term → Statement
is name x y = Related (Basic name 0) x y

abbrev pub formula_of : Level → Resolved
-- hbo(a, b) /\ vis(b, cur) => vis(a, cur)
formula_of Eventual = record { vars = Any ∷ Any ∷ []; body = IfThen (BothOf (is Hbo a b) (is Vis b Cur)) (is Vis a Cur) }
-- hbo(a, cur) => vis(a, cur)
formula_of Causal = record { vars = Any ∷ []; body = IfThen (is Hbo a Cur) (is Vis a Cur) }
-- hb(a, cur) /\ sameobj(a, cur) => vis(a, cur)
formula_of Wide = record { vars = Any ∷ []; body = IfThen (BothOf (is Hb a Cur) (is SameObj a Cur)) (is Vis a Cur) }
-- sameobj(a, cur) => vis(a, cur) \/ vis(cur, a) \/ a = cur
formula_of Strong = record { vars = Any ∷ []; body = IfThen (is SameObj a Cur) (OneOf (OneOf (is Vis a Cur) (is Vis Cur a)) (is Eq a Cur)) }

-- txn{a}{b, c} /\ sameobj(b, c) /\ vis(b, a) => vis(c, a)
abbrev pub whole_transactions : Statement
whole_transactions = IfThen (BothOf (BothOf (InOneTxn (a ∷ []) (b ∷ c ∷ [])) (is SameObj b c)) (is Vis b a)) (is Vis c a)

-- txn{a, b}{c, d} /\ so(a, b) /\ vis(c, a) /\ sameobj(d, b) => vis(d, b)
abbrev pub monotonic_views : Statement
monotonic_views = IfThen (BothOf (BothOf (BothOf (InOneTxn (a ∷ b ∷ []) (c ∷ d ∷ [])) (is So a b)) (is Vis c a)) (is SameObj d b)) (is Vis d b)

-- txn{a, b}{c, d} /\ vis(c, a) /\ sameobj(d, b) => vis(d, b)
abbrev pub repeatable_views : Statement
repeatable_views = IfThen (BothOf (BothOf (InOneTxn (a ∷ b ∷ []) (c ∷ d ∷ [])) (is Vis c a)) (is SameObj d b)) (is Vis d b)

abbrev pub txn_formula_of : TxnLevel → Resolved
txn_formula_of Rc = record { vars = Any ∷ Any ∷ Any ∷ []; body = whole_transactions }
txn_formula_of Mav = record { vars = Any ∷ Any ∷ Any ∷ Any ∷ []; body = BothOf whole_transactions monotonic_views }
txn_formula_of Rr = record { vars = Any ∷ Any ∷ Any ∷ Any ∷ []; body = repeatable_views }
