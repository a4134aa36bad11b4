-- The axioms of executions and the levels as rules over a few effects.
use Rattle.std.specs.Prelude.{ℕ, List, [], ◌∷◌, ◌++◌}
use Rattle.ql_base.specs.declared.ids.OpId.{OpId}
use Rattle.ql_atoms.specs.declared.atoms.Atom.{Atom}
use Rattle.ql_atoms.specs.declared.atoms.Atom.TheVariants.{Pair, Current, Is}
use Rattle.ql_atoms.specs.declared.atoms.PairKind.{PairKind}
use Rattle.ql_atoms.specs.declared.atoms.PairKind.TheVariants.{Eq, So, SameObj, Vis, Hbo, Hb, SameTxn}
use Rattle.ql_levels.specs.declared.level.Level.{Level}
use Rattle.ql_levels.specs.declared.level.Level.TheVariants.{Eventual, Causal, Wide, Strong}
use Rattle.ql_levels.specs.declared.level.TxnLevel.{TxnLevel}
use Rattle.ql_levels.specs.declared.level.TxnLevel.TheVariants.{Rc, Mav, Rr}

-- For every choice of effects for the variables, if all hypotheses hold, one of the conclusions does.
pub record Rule : Type 0 where
  pub places : ℕ
  pub hypotheses : List Atom
  pub conclusions : List Atom

abbrev pub rule : ℕ → List Atom → List Atom → Rule
rule places hypotheses conclusions = record { places = places; hypotheses = hypotheses; conclusions = conclusions }

-- the variables; no rule has a fifth, which stands for the current effect
abbrev pub i : ℕ
i = 0

abbrev pub j : ℕ
j = 1

abbrev pub k : ℕ
k = 2

abbrev pub l : ℕ
l = 3

abbrev pub cur : ℕ
cur = 4

abbrev pub reflexive : PairKind → Rule
reflexive r = rule 1 [] (Pair r i i ∷ [])

abbrev pub symmetric : PairKind → Rule
symmetric r = rule 2 (Pair r i j ∷ []) (Pair r j i ∷ [])

abbrev pub transitive : PairKind → Rule
transitive r = rule 3 (Pair r i j ∷ Pair r j k ∷ []) (Pair r i k ∷ [])

abbrev pub irreflexive : PairKind → Rule
irreflexive r = rule 1 (Pair r i i ∷ []) []

-- the first relation is within the second
abbrev pub within : PairKind → PairKind → Rule
within r s = rule 2 (Pair r i j ∷ []) (Pair s i j ∷ [])

-- equal effects are alike on the left of a relation, and on its right
abbrev pub alike_left : PairKind → Rule
alike_left r = rule 3 (Pair Eq i j ∷ Pair r i k ∷ []) (Pair r j k ∷ [])

abbrev pub alike_right : PairKind → Rule
alike_right r = rule 3 (Pair Eq i j ∷ Pair r k i ∷ []) (Pair r k j ∷ [])

abbrev pub alike_rules : PairKind → List Rule
alike_rules r = alike_left r ∷ alike_right r ∷ []

-- 4
abbrev pub all_alike_rules : List Rule
all_alike_rules = alike_rules So ++ alike_rules SameObj ++ alike_rules Vis ++ alike_rules Hbo ++ alike_rules Hb ++ alike_rules SameTxn

-- 1 to 4: equality
abbrev pub equality_rules : List Rule
equality_rules = reflexive Eq ∷ symmetric Eq ∷ transitive Eq ∷ all_alike_rules

-- 5: equal effects are of one operation, and both current or neither
abbrev pub alike_op : OpId → Rule
alike_op o = rule 2 (Pair Eq i j ∷ Is o i ∷ []) (Is o j ∷ [])

abbrev pub alike_current : Rule
alike_current = rule 2 (Pair Eq i j ∷ Current i ∷ []) (Current j ∷ [])

-- effects after one are in order, and so are effects before one
abbrev pub from_one_rule : Rule
from_one_rule = rule 3 (Pair So i j ∷ Pair So i k ∷ []) (Pair So j k ∷ Pair So k j ∷ Pair Eq j k ∷ [])

abbrev pub to_one_rule : Rule
to_one_rule = rule 3 (Pair So i k ∷ Pair So j k ∷ []) (Pair So i j ∷ Pair So j i ∷ Pair Eq i j ∷ [])

-- 6 to 8: session order, an order of each session's effects
abbrev pub session_rules : List Rule
session_rules = transitive So ∷ from_one_rule ∷ to_one_rule ∷ []

-- 9 to 12: objects
abbrev pub object_rules : List Rule
object_rules = reflexive SameObj ∷ symmetric SameObj ∷ transitive SameObj ∷ within Vis SameObj ∷ []

abbrev pub of_session_rule : Rule
of_session_rule = rule 2 (Pair So i j ∷ Pair SameObj i j ∷ []) (Pair Hbo i j ∷ [])

-- 13 to 16: happens-before on one object
abbrev pub object_order_rules : List Rule
object_order_rules = within Vis Hbo ∷ of_session_rule ∷ transitive Hbo ∷ within Hbo SameObj ∷ []

-- 17 to 21: happens-before
abbrev pub order_rules : List Rule
order_rules = within Hbo Hb ∷ within So Hb ∷ within Vis Hb ∷ transitive Hb ∷ irreflexive Hb ∷ []

-- a transaction is within one session
abbrev pub one_session_rule : Rule
one_session_rule = rule 2 (Pair SameTxn i j ∷ []) (Pair So i j ∷ Pair So j i ∷ Pair Eq i j ∷ [])

-- with no other effect of the session between its effects
abbrev pub contiguous_rule : Rule
contiguous_rule = rule 3 (Pair SameTxn i k ∷ Pair So i j ∷ Pair So j k ∷ []) (Pair SameTxn i j ∷ [])

-- the current effects are in one transaction
abbrev pub in_one_rule : Rule
in_one_rule = rule 2 (Current i ∷ Current j ∷ []) (Pair SameTxn i j ∷ [])

-- and are all of it
abbrev pub whole_rule : Rule
whole_rule = rule 2 (Current i ∷ Pair SameTxn i j ∷ []) (Current j ∷ [])

-- 28, 29
abbrev pub contiguous_rules : List Rule
contiguous_rules = one_session_rule ∷ contiguous_rule ∷ []

-- 30, 31
abbrev pub current_rules : List Rule
current_rules = in_one_rule ∷ whole_rule ∷ []

-- 25 to 31: transactions
abbrev pub transaction_rules : List Rule
transaction_rules = reflexive SameTxn ∷ symmetric SameTxn ∷ transitive SameTxn ∷ contiguous_rules ++ current_rules

-- 32: what the level of an operation guarantees at the current effect
abbrev pub level_rule : Level → Rule
level_rule Eventual = rule 2 (Pair Hbo i j ∷ Pair Vis j cur ∷ []) (Pair Vis i cur ∷ [])
level_rule Causal = rule 1 (Pair Hbo i cur ∷ []) (Pair Vis i cur ∷ [])
level_rule Wide = rule 1 (Pair Hb i cur ∷ Pair SameObj i cur ∷ []) (Pair Vis i cur ∷ [])
level_rule Strong = rule 1 (Pair SameObj i cur ∷ []) (Pair Vis i cur ∷ Pair Vis cur i ∷ Pair Eq i cur ∷ [])

-- 32: what the level of a transaction guarantees to the current one; that an effect isn't current is a conclusion
abbrev pub committed_rule : Rule
committed_rule = rule 3 (Current i ∷ Pair SameTxn j k ∷ Pair SameObj j k ∷ Pair Vis j i ∷ []) (Current j ∷ Pair Vis k i ∷ [])

abbrev pub monotonic_rule : Rule
monotonic_rule =
    rule 4 (Current i ∷ Current j ∷ Pair SameTxn k l ∷ Pair So i j ∷ Pair Vis k i ∷ Pair SameObj l j ∷ [])
    (Current k ∷ Pair Vis l j ∷ [])

abbrev pub repeatable_rule : Rule
repeatable_rule =
    rule 4 (Current i ∷ Current j ∷ Pair SameTxn k l ∷ Pair Vis k i ∷ Pair SameObj l j ∷ [])
    (Current k ∷ Pair Vis l j ∷ [])

abbrev pub txn_level_rules : TxnLevel → List Rule
txn_level_rules Rc = committed_rule ∷ []
txn_level_rules Mav = committed_rule ∷ monotonic_rule ∷ []
txn_level_rules Rr = repeatable_rule ∷ []
