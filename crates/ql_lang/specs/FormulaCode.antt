-- Resolved contracts as data with a code: each is the view of a formula.
use Rattle.std.specs.Prelude.{◌≡◌, refl}
use Rattle.std.specs.Coded.{Coded, code_by}
use Rattle.std.proofs.Common.{Box, Global}
use denote.RawPtr.{null_ptr}
use Rattle.ql_lang.specs.Trees.{Relation, Basic, Union, Intersection, relation_of}
use Rattle.ql_lang.specs.Formulas.{Statement, Always, Related, BothOf, IfThen, InOneTxn, Resolved, resolved_of, statement_of}
use Rattle.ql_lang.specs.Formulas as statement
use Rattle.ql_lang.specs.declared.relation.Rel.{Rel, Base, Union', Inter'}
use Rattle.ql_lang.specs.declared.formula.Formula.{Formula}
use Rattle.ql_lang.specs.declared.formula.Body.{Body, True, Apply, And', Or', Implies', Txn}
use Rattle.ql_lang.specs.contracts.formula.Formula as formula

-- some box: an address doesn't matter here
abbrev some_box : Box (Unit {0}) Global
some_box = record { ptr = null_ptr; alloc = record { memory = record { seal = tt } }; value = tt }

abbrev boxed_rel : Relation → Rel
boxed_rel (Basic name at) = Base name at
boxed_rel (Union a b) = Union' some_box (boxed_rel a) some_box (boxed_rel b)
boxed_rel (Intersection a b) = Inter' some_box (boxed_rel a) some_box (boxed_rel b)

pub rel_again : (r : Relation) → relation_of (boxed_rel r) ≡ r
rel_again (Basic name at) = refl
rel_again (Union a b) = λ i. Union (rel_again a i) (rel_again b i)
rel_again (Intersection a b) = λ i. Intersection (rel_again a i) (rel_again b i)

abbrev boxed : Statement → Body
boxed Always = True
boxed (Related r x y) = Apply (boxed_rel r) x y
boxed (BothOf a b) = And' some_box (boxed a) some_box (boxed b)
boxed (statement.OneOf a b) = Or' some_box (boxed a) some_box (boxed b)
boxed (IfThen a b) = Implies' some_box (boxed a) some_box (boxed b)
boxed (InOneTxn members others) = Txn members others

pub again : (s : Statement) → statement_of (boxed s) ≡ s
again Always = refl
again (Related r x y) = λ i. Related (rel_again r i) x y
again (BothOf a b) = λ i. BothOf (again a i) (again b i)
again (statement.OneOf a b) = λ i. statement.OneOf (again a i) (again b i)
again (IfThen a b) = λ i. IfThen (again a i) (again b i)
again (InOneTxn members others) = refl

-- the code of resolved contracts
abbrev pub resolved_code : Coded Resolved
resolved_code = code_by Formula formula.the_row.coded (λ r. record { vars = r.vars; body = boxed r.body }) resolved_of (λ r. λ i. record { vars = r.vars; body = again r.body i })
