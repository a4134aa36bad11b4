use Rattle.std.proofs.Common.{◌≡◌, ℕ, List, [], ◌∷◌, Some, refl}
use Rattle.ql_lang.specs.declared.name.Name.{Name}
use Rattle.ql_lang.specs.declared.relation.RelName.{RelName}
use Rattle.ql_lang.specs.declared.contract.Point.{Point}
use Rattle.ql_lang.specs.declared.contract.Var.{Var}
use Rattle.ql_lang.specs.Trees.{Relation, Proposition, Sentence}
use Rattle.ql_grammar.specs.declared.terminal.Terminal.{Terminal}
use Rattle.ql_grammar.specs.declared.terminal.Terminal.TheVariants.{ForallWord, Ampersand, AndMark, OrMark, Arrow, Bar, Colon, Comma, OpenParen, CloseParen, Equals}
use Rattle.ql_grammar.specs.Terminals.{is_same, number}
use Rattle.ql_grammar.specs.declared.role.Role.{Role}
use Rattle.ql_grammar.specs.declared.role.Role.TheVariants.{Plain, Makes, Opens, Closes}
use Rattle.ql_grammar.specs.Tokens.{Marked}
use Rattle.ql_grammar.specs.ContractGrammar.{IsRelationWord, vis, so, soo, sameobj, eq, hb, hbo, ReadsTerm, current, variable, ReadsTerms, one, more, ReadsRelation, RelationPart, Applied, Single, Product, Sum, applied_named, applied_bracket, named, bracket, single, both, product, either, ReadsProp, PropPart, Atom, Both, Either, Whole, truth, group, equal, applied, txn, atom, and, or, implies, ReadsNames, ReadsVar, free, over, ReadsVars, ReadsContract, plain, forall}
use Rattle.ql_grammar.specs.Table.{Value, APlace, ATerm, TheTerms, ARelation, AProp, TheNames, AVar, TheVars, ASentence, Sym, Word, Placed, Do, APart, Then, Term, TermList, RelationAt, PropAt, BarredNames, Variable, VarList, WholeContract, MoreTerms, MoreFactors, MoreSummands, MoreAnds, MoreOrs, MoreImplied, MoreNames, Operations, MoreVars, to_terms, add_term, to_basic, intersect, unite, to_equality, to_application, conjoin, disjoin, imply, set_operations, to_vars, add_var, to_plain, to_forall}
use Rattle.ql_grammar.specs.Machine.{lead, first_fit, step, finish}
use Rattle.ql_grammar.proofs.Paths.{Path, SameHead, here, take, via, then, doing, IsClear, pass, as_part}

-- What the grammar reads, the machine reads too: to the same tree, each token in the same role.

again_term : {r : Role} {ts rest : List Marked} {p : Point} → ReadsTerm r ts rest p → (below : List Sym) (vs : List Value) → Path (APart (Term r) ∷ below) vs ts below (ATerm p ∷ vs) rest
unfolding is_same number lead first_fit step
again_term current below vs = take refl doing
again_term variable below vs = take refl doing

again_terms : {ts rest : List Marked} {ps : List Point} → ReadsTerms ts rest ps → (below : List Sym) (vs : List Value) → Path (APart TermList ∷ below) vs ts (Then MoreTerms ∷ below) (TheTerms ps ∷ vs) rest
unfolding is_same number lead first_fit step
again_terms (one t) below vs = then (as_part TermList (Term (Makes 1)) below (Do to_terms ∷ Then MoreTerms ∷ below) refl) (then (again_term t (Do to_terms ∷ Then MoreTerms ∷ below) vs) doing)
again_terms (more ts t) below vs = then (again_terms ts below vs) (take refl (then (again_term t (Do add_term ∷ Then MoreTerms ∷ below) _) doing))

named_step : {k : Terminal} {r : RelName} → IsRelationWord k r → (below : List Sym) (vs : List Value) (x : List ℕ) (n : ℕ) → step (APart (RelationAt Single) ∷ below) vs k x n ≡ Some (record { role = Makes 1; stack = Do (to_basic r) ∷ below; values = APlace n ∷ vs })
unfolding is_same number lead first_fit step
named_step vis below vs x n = refl
named_step so below vs x n = refl
named_step soo below vs x n = refl
named_step sameobj below vs x n = refl
named_step eq below vs x n = refl
named_step hb below vs x n = refl
named_step hbo below vs x n = refl

applied_step : {k : Terminal} {r : RelName} → IsRelationWord k r → (below : List Sym) (vs : List Value) (x : List ℕ) (n : ℕ) → step (APart (RelationAt Applied) ∷ below) vs k x n ≡ Some (record { role = Makes 2; stack = Do (to_basic r) ∷ below; values = APlace n ∷ vs })
unfolding is_same number lead first_fit step
applied_step vis below vs x n = refl
applied_step so below vs x n = refl
applied_step soo below vs x n = refl
applied_step sameobj below vs x n = refl
applied_step eq below vs x n = refl
applied_step hb below vs x n = refl
applied_step hbo below vs x n = refl

abbrev after_relation : RelationPart → List Sym → List Sym
after_relation Applied below = below
after_relation Single below = below
after_relation Product below = Then MoreFactors ∷ below
after_relation Sum below = Then MoreSummands ∷ below

abbrev ClearRelation : RelationPart → List Marked → Type 0
ClearRelation Applied rest = Unit {0}
ClearRelation Single rest = Unit {0}
ClearRelation Product rest = Unit {0}
ClearRelation Sum rest = IsClear Ampersand rest

again_relation : {part : RelationPart} {ts rest : List Marked} {r : Relation} → ReadsRelation part ts rest r → (below : List Sym) (vs : List Value) → ClearRelation part rest → Path (APart (RelationAt part) ∷ below) vs ts (after_relation part below) (ARelation r ∷ vs) rest
unfolding is_same number lead first_fit step
again_relation (applied_named {x = x} {n = n} is) below vs clear = take (applied_step is below vs x n) doing
again_relation (applied_bracket reads) below vs clear = take refl (then (again_relation reads (Word _ Closes ∷ below) vs refl) (take refl here))
again_relation (named {x = x} {n = n} is) below vs clear = take (named_step is below vs x n) doing
again_relation (bracket reads) below vs clear = take refl (then (again_relation reads (Word _ Closes ∷ below) vs refl) (take refl here))
again_relation (single reads) below vs clear = then (as_part (RelationAt Product) (RelationAt Single) below (Then MoreFactors ∷ below) refl) (again_relation reads (Then MoreFactors ∷ below) vs tt)
again_relation (both r s) below vs clear = then (again_relation r below vs tt) (take refl (then (again_relation s (Do intersect ∷ Then MoreFactors ∷ below) _ tt) doing))
again_relation (product reads) below vs clear =
    then (as_part (RelationAt Sum) (RelationAt Product) below (Then MoreSummands ∷ below) refl) (then (again_relation reads (Then MoreSummands ∷ below) vs tt) (pass MoreFactors clear))
again_relation (either r s) below vs clear =
    then (again_relation r below vs refl) (take refl (then (again_relation s (Do unite ∷ Then MoreSummands ∷ below) _ tt) (then (pass MoreFactors clear) doing)))

-- the symbols after the first term of an equality, and after the relation of an application
abbrev behind_term : List Sym → List Sym
behind_term below = Placed Equals (Makes 2) ∷ APart (Term Plain) ∷ Do to_equality ∷ below

abbrev behind_relation : List Sym → List Sym
behind_relation below = Word OpenParen (Opens 0) ∷ APart (Term Plain) ∷ Word Comma Plain ∷ APart (Term Plain) ∷ Word CloseParen Closes ∷ Do to_application ∷ below

from_term : {ts rest : List Marked} {p : Point} → ReadsTerm Plain ts rest p → (below : List Sym) (vs : List Value) → SameHead (APart (PropAt Atom) ∷ below) vs (APart (Term Plain) ∷ behind_term below) vs ts
unfolding is_same number lead first_fit step
from_term current below vs = refl
from_term variable below vs = refl

from_relation : {ts rest : List Marked} {r : Relation} → ReadsRelation Applied ts rest r → (below : List Sym) (vs : List Value) → SameHead (APart (PropAt Atom) ∷ below) vs (APart (RelationAt Applied) ∷ behind_relation below) vs ts
unfolding is_same number lead first_fit step
from_relation (applied_named vis) below vs = refl
from_relation (applied_named so) below vs = refl
from_relation (applied_named soo) below vs = refl
from_relation (applied_named sameobj) below vs = refl
from_relation (applied_named eq) below vs = refl
from_relation (applied_named hb) below vs = refl
from_relation (applied_named hbo) below vs = refl
from_relation (applied_bracket reads) below vs = refl

abbrev after_prop : PropPart → List Sym → List Sym
after_prop Atom below = below
after_prop Both below = Then MoreAnds ∷ below
after_prop Either below = Then MoreOrs ∷ below
after_prop Whole below = below

-- what may not follow
pub record Unjoined (rest : List Marked) : Type 0 where
  pub no_and : IsClear AndMark rest
  pub no_or : IsClear OrMark rest
  pub no_arrow : IsClear Arrow rest

abbrev ClearProp : PropPart → List Marked → Type 0
ClearProp Atom rest = Unit {0}
ClearProp Both rest = Unit {0}
ClearProp Either rest = IsClear AndMark rest
ClearProp Whole rest = Unjoined rest

pub again_prop : {part : PropPart} {ts rest : List Marked} {p : Proposition} → ReadsProp part ts rest p → (below : List Sym) (vs : List Value) → ClearProp part rest → Path (APart (PropAt part) ∷ below) vs ts (after_prop part below) (AProp p ∷ vs) rest
unfolding is_same number lead first_fit step
again_prop truth below vs clear = take refl doing
again_prop (group reads) below vs clear = take refl (then (again_prop reads (Word CloseParen Closes ∷ below) vs (record { no_and = refl; no_or = refl; no_arrow = refl })) (take refl here))
again_prop (equal a b) below vs clear =
    via (from_term a below vs) (then (again_term a (behind_term below) vs) (take refl (then (again_term b (Do to_equality ∷ below) _) doing)))
again_prop (applied r a b) below vs clear =
    via (from_relation r below vs) (then (again_relation r (behind_relation below) vs tt) (take refl (then (again_term a _ _) (take refl (then (again_term b (Word CloseParen Closes ∷ Do to_application ∷ below) _) (take refl doing))))))
again_prop (txn first second) below vs clear =
    take refl (take refl (then (again_terms first _ _) (take refl (take refl (then (again_terms second _ _) (take refl doing))))))
again_prop (atom reads) below vs clear = then (as_part (PropAt Both) (PropAt Atom) below (Then MoreAnds ∷ below) refl) (again_prop reads (Then MoreAnds ∷ below) vs tt)
again_prop (and p q) below vs clear = then (again_prop p below vs tt) (take refl (then (again_prop q (Do conjoin ∷ Then MoreAnds ∷ below) _ tt) doing))
again_prop (both reads) below vs clear =
    then (as_part (PropAt Either) (PropAt Both) below (Then MoreOrs ∷ below) refl) (then (again_prop reads (Then MoreOrs ∷ below) vs tt) (pass MoreAnds clear))
again_prop (or p q) below vs clear =
    then (again_prop p below vs refl) (take refl (then (again_prop q (Do disjoin ∷ Then MoreOrs ∷ below) _ tt) (then (pass MoreAnds clear) doing)))
again_prop (either reads) below vs clear =
    then (as_part (PropAt Whole) (PropAt Either) below (Then MoreImplied ∷ below) refl) (then (again_prop reads (Then MoreImplied ∷ below) vs clear.no_and) (then (pass MoreOrs clear.no_or) (pass MoreImplied clear.no_arrow)))
again_prop (implies p q) below vs clear =
    then (as_part (PropAt Whole) (PropAt Either) below (Then MoreImplied ∷ below) refl) (then (again_prop p (Then MoreImplied ∷ below) vs refl)
    (then (pass MoreOrs refl) (take refl (then (again_prop q (Do imply ∷ below) _ clear) doing))))

again_names : {ts rest : List Marked} {ns : List Name} → ReadsNames Bar ts rest ns → (below : List Sym) (vs : List Value) → Path (APart BarredNames ∷ below) vs ts (Then MoreNames ∷ below) (TheNames ns ∷ vs) rest
unfolding is_same number lead first_fit step
again_names one below vs = take refl doing
again_names (more reads) below vs = then (again_names reads below vs) (take refl (take refl doing))

pub record Unranged (rest : List Marked) : Type 0 where
  pub no_colon : IsClear Colon rest
  pub no_bar : IsClear Bar rest

again_var : {ts rest : List Marked} {v : Var} → ReadsVar ts rest v → (below : List Sym) (vs : List Value) → Unranged rest → Path (APart Variable ∷ below) vs ts below (AVar v ∷ vs) rest
unfolding is_same number lead first_fit step
again_var free below vs clear = take refl (then doing (pass Operations clear.no_colon))
again_var (over reads) below vs clear = take refl (then doing (take refl (then (again_names reads (Do set_operations ∷ below) _) (then (pass MoreNames clear.no_bar) doing))))

again_vars : {ts rest : List Marked} {us : List Var} → ReadsVars ts rest us → (below : List Sym) (vs : List Value) → Unranged rest → Path (APart VarList ∷ below) vs ts (Then MoreVars ∷ below) (TheVars us ∷ vs) rest
unfolding is_same number lead first_fit step
again_vars (one v) below vs clear = then (as_part VarList Variable below (Do to_vars ∷ Then MoreVars ∷ below) refl) (then (again_var v (Do to_vars ∷ Then MoreVars ∷ below) vs clear) doing)
again_vars (more us v) below vs clear = then (again_vars us below vs (record { no_colon = refl; no_bar = refl })) (take refl (then (again_var v (Do add_var ∷ Then MoreVars ∷ below) _ clear) doing))

-- no statement begins with `forall`

term_head : {ts rest : List Marked} {p : Point} → ReadsTerm Plain ts rest p → IsClear ForallWord ts
unfolding is_same number
term_head current = refl
term_head variable = refl

relation_head : {ts rest : List Marked} {r : Relation} → ReadsRelation Applied ts rest r → IsClear ForallWord ts
unfolding is_same number
relation_head (applied_named vis) = refl
relation_head (applied_named so) = refl
relation_head (applied_named soo) = refl
relation_head (applied_named sameobj) = refl
relation_head (applied_named eq) = refl
relation_head (applied_named hb) = refl
relation_head (applied_named hbo) = refl
relation_head (applied_bracket reads) = refl

prop_head : {part : PropPart} {ts rest : List Marked} {p : Proposition} → ReadsProp part ts rest p → IsClear ForallWord ts
unfolding is_same number
prop_head truth = refl
prop_head (group reads) = refl
prop_head (equal a b) = term_head a
prop_head (applied r a b) = relation_head r
prop_head (txn first second) = refl
prop_head (atom reads) = prop_head reads
prop_head (and p q) = prop_head p
prop_head (both reads) = prop_head reads
prop_head (or p q) = prop_head p
prop_head (either reads) = prop_head reads
prop_head (implies p q) = prop_head p

from_prop : (ts : List Marked) → IsClear ForallWord ts → (below : List Sym) (vs : List Value) → SameHead (APart WholeContract ∷ below) vs (APart (PropAt Whole) ∷ Do to_plain ∷ below) vs ts
unfolding lead first_fit step finish
from_prop [] clear below vs = λ end. refl
from_prop (m ∷ ms) clear below vs = rw clear refl

pub again_contract : {ts rest : List Marked} {s : Sentence} → ReadsContract ts rest s → (below : List Sym) (vs : List Value) → Unjoined rest → Path (APart WholeContract ∷ below) vs ts below (ASentence s ∷ vs) rest
unfolding is_same number lead first_fit step
again_contract {ts = ts} (plain p) below vs clear = via (from_prop ts (prop_head p) below vs) (then (again_prop p (Do to_plain ∷ below) vs clear) doing)
again_contract (forall us p) below vs clear =
    take refl (then (again_vars us _ vs (record { no_colon = refl; no_bar = refl })) (take refl (then (again_prop p (Do to_forall ∷ below) _ clear) doing)))
