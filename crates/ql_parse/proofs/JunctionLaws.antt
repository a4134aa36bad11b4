-- How operands of an operator of contracts are read.
use Rattle.std.proofs.Common.{◌≡◌, List, ◌∷◌, true, false, refl}
use Rattle.ql_grammar.specs.declared.terminal.Terminal.{Terminal}
use Rattle.ql_grammar.specs.declared.role.Role.TheVariants.{Makes}
use Rattle.ql_grammar.specs.ContractGrammar.{Atom, Both, Either, Single, Product, Sum}
use Rattle.ql_grammar.specs.Table.{Value, Sym, Word, APart, Do, Then, PropAt, RelationAt, MoreAnds, MoreOrs, MoreFactors, MoreSummands}
use Rattle.ql_grammar.specs.Machine.{Reading, read, is_ahead}
use Rattle.ql_grammar.proofs.Rules.{read-as, then-on, then-past}
use Rattle.ql_parse.specs.declared.junction.Junction.{Junction}
use Rattle.ql_parse.specs.declared.junction.Junction.TheVariants.{And, Or}
use Rattle.ql_parse.specs.Junctions.{join_props, joined_props, more_props, prop_mark, prop_operand, join_relations, joined_relations, more_relations, relation_mark, relation_operand}

module _ (r : Reading) where
  pub props_begin : (j : Junction) (below : List Sym) (vs : List Value) → read r (APart (PropAt (joined_props j)) ∷ below) vs ≡ read r (APart (PropAt (prop_operand j)) ∷ Then (more_props j) ∷ below) vs
  props_begin And below vs = read-as r (PropAt Both) (PropAt Atom) below (Then MoreAnds ∷ below) vs refl
  props_begin Or below vs = read-as r (PropAt Either) (PropAt Both) below (Then MoreOrs ∷ below) vs refl

  props_marked : (j : Junction) (below : List Sym) (vs : List Value) → is_ahead (prop_mark j) r.tokens ≡ true → read r (Then (more_props j) ∷ below) vs ≡ read r (Word (prop_mark j) (Makes 1) ∷ APart (PropAt (prop_operand j)) ∷ Do (join_props j) ∷ Then (more_props j) ∷ below) vs
  props_marked And below vs sees = then-on r MoreAnds below vs sees
  props_marked Or below vs sees = then-on r MoreOrs below vs sees

  pub props_on : (j : Junction) (k : Terminal) → k ≡ prop_mark j → (below : List Sym) (vs : List Value) → is_ahead (prop_mark j) r.tokens ≡ true → read r (Then (more_props j) ∷ below) vs ≡ read r (Word k (Makes 1) ∷ APart (PropAt (prop_operand j)) ∷ Do (join_props j) ∷ Then (more_props j) ∷ below) vs
  props_on j k is below vs sees = rw is (props_marked j below vs sees)

  props_unmarked : (j : Junction) (below : List Sym) (vs : List Value) → is_ahead (prop_mark j) r.tokens ≡ false → read r (Then (more_props j) ∷ below) vs ≡ read r below vs
  props_unmarked And below vs misses = then-past r MoreAnds below vs misses
  props_unmarked Or below vs misses = then-past r MoreOrs below vs misses

  pub props_past : (j : Junction) (k : Terminal) → k ≡ prop_mark j → (below : List Sym) (vs : List Value) → is_ahead k r.tokens ≡ false → read r (Then (more_props j) ∷ below) vs ≡ read r below vs
  props_past j k is below vs misses = props_unmarked j below vs (rw is at misses)

  pub relations_begin : (j : Junction) (below : List Sym) (vs : List Value) → read r (APart (RelationAt (joined_relations j)) ∷ below) vs ≡ read r (APart (RelationAt (relation_operand j)) ∷ Then (more_relations j) ∷ below) vs
  relations_begin And below vs = read-as r (RelationAt Product) (RelationAt Single) below (Then MoreFactors ∷ below) vs refl
  relations_begin Or below vs = read-as r (RelationAt Sum) (RelationAt Product) below (Then MoreSummands ∷ below) vs refl

  relations_marked : (j : Junction) (below : List Sym) (vs : List Value) → is_ahead (relation_mark j) r.tokens ≡ true → read r (Then (more_relations j) ∷ below) vs ≡ read r (Word (relation_mark j) (Makes 1) ∷ APart (RelationAt (relation_operand j)) ∷ Do (join_relations j) ∷ Then (more_relations j) ∷ below) vs
  relations_marked And below vs sees = then-on r MoreFactors below vs sees
  relations_marked Or below vs sees = then-on r MoreSummands below vs sees

  pub relations_on : (j : Junction) (k : Terminal) → k ≡ relation_mark j → (below : List Sym) (vs : List Value) → is_ahead (relation_mark j) r.tokens ≡ true → read r (Then (more_relations j) ∷ below) vs ≡ read r (Word k (Makes 1) ∷ APart (RelationAt (relation_operand j)) ∷ Do (join_relations j) ∷ Then (more_relations j) ∷ below) vs
  relations_on j k is below vs sees = rw is (relations_marked j below vs sees)

  relations_unmarked : (j : Junction) (below : List Sym) (vs : List Value) → is_ahead (relation_mark j) r.tokens ≡ false → read r (Then (more_relations j) ∷ below) vs ≡ read r below vs
  relations_unmarked And below vs misses = then-past r MoreFactors below vs misses
  relations_unmarked Or below vs misses = then-past r MoreSummands below vs misses

  pub relations_past : (j : Junction) (k : Terminal) → k ≡ relation_mark j → (below : List Sym) (vs : List Value) → is_ahead k r.tokens ≡ false → read r (Then (more_relations j) ∷ below) vs ≡ read r below vs
  relations_past j k is below vs misses = relations_unmarked j below vs (rw is at misses)
