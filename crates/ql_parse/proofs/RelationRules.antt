use Rattle.std.proofs.Common.{◌≡◌, List, ◌∷◌, true, false, Result, refl, sym, ap, ◌∙◌}
use Rattle.ql_lang.specs.declared.relation.RelName.{RelName}
use Rattle.ql_lang.specs.declared.relation.RelName.TheVariants.{Vis, So, Soo, SameObj, Eq, Hb, Hbo}
use Rattle.ql_grammar.specs.declared.terminal.Terminal.{Terminal}
use Rattle.ql_grammar.specs.declared.terminal.Terminal.TheVariants.{VisWord, SoWord, SooWord, SameObjWord, EqWord, HbWord, HboWord, OpenBracket, CloseBracket}
use Rattle.ql_grammar.specs.declared.role.Role.{Role}
use Rattle.ql_grammar.specs.declared.role.Role.TheVariants.{Closes}
use Rattle.ql_grammar.specs.ContractGrammar.{Sum}
use Rattle.ql_grammar.specs.Limits.{Fault}
use Rattle.ql_grammar.specs.Table.{Value, Sym, Word, Placed, Do, APart, RelationAt, to_basic, relation_ways}
use Rattle.ql_grammar.specs.Machine.{Reading, read, is_ahead, chosen}
use Rattle.ql_grammar.proofs.Rules.{last_placed}
use Rattle.ql_parse.specs.Readings.{relation_ahead}
use Rattle.ql_parse.proofs.WordRules.{picked}

module _ (r : Reading) (name bracket : Role) (below : List Sym) (vs : List Value) where
  pub relation-bracket : is_ahead OpenBracket r.tokens ≡ true → chosen r (relation_ways name bracket below) vs ≡ read r (Word OpenBracket bracket ∷ APart (RelationAt Sum) ∷ Word CloseBracket Closes ∷ below) vs
  relation-bracket sees = rw sees refl

  -- reads the name of a relation, with its offset
  abbrev named : Terminal × RelName → Result (List Value) Fault
  named w = read r (Placed w.0 name ∷ Do (to_basic w.1) ∷ below) vs

  pub relation-name : is_ahead OpenBracket r.tokens ≡ false → (w : Terminal × RelName) → w ≡ relation_ahead r.tokens → chosen r (relation_ways name bracket below) vs ≡ read r (Placed w.0 name ∷ Do (to_basic w.1) ∷ below) vs
  relation-name misses w is =
      rw misses
      (picked named (is_ahead VisWord r.tokens) (VisWord, Vis) _ _
      (picked named (is_ahead SoWord r.tokens) (SoWord, So) _ _
      (picked named (is_ahead SooWord r.tokens) (SooWord, Soo) _ _
      (picked named (is_ahead SameObjWord r.tokens) (SameObjWord, SameObj) _ _
      (picked named (is_ahead EqWord r.tokens) (EqWord, Eq) _ _
      (picked named (is_ahead HbWord r.tokens) (HbWord, Hb) (HboWord, Hbo) _
      (last_placed r HboWord name (Do (to_basic Hbo) ∷ below) vs (is_ahead HboWord r.tokens) refl)))))))
      ∙ ap named (sym is)
