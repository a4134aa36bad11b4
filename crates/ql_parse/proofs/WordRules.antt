-- A part that begins with one of several words is read as the word that comes next says.
use Rattle.std.proofs.Common.{◌≡◌, List, ◌∷◌, Bool, true, false, Result, refl, sym, ap, ◌∙◌, cond}
use Rattle.ql_lang.specs.declared.operation.Base.{Base}
use Rattle.ql_lang.specs.declared.operation.Base.TheVariants as base
use Rattle.ql_lang.specs.declared.operation.Kind.{Kind}
use Rattle.ql_lang.specs.declared.operation.Kind.TheVariants as kind
use Rattle.ql_lang.specs.declared.program.InitNode.{InitNode}
use Rattle.ql_lang.specs.declared.program.InitNode.TheVariants as init
use Rattle.ql_grammar.specs.declared.terminal.Terminal.{Terminal}
use Rattle.ql_grammar.specs.declared.terminal.Terminal.TheVariants.{TrueWord, FalseWord, UnitWord, EmptyWord, IntWord, BoolWord, TextWord, SetWord, MapWord}
use Rattle.ql_grammar.specs.declared.role.Role.TheVariants.{Plain}
use Rattle.ql_grammar.specs.Limits.{Fault}
use Rattle.ql_grammar.specs.Table.{Value, Sym, Word, Placed, Do, APart, BaseKind, AnyKind, add_base, add_kind, begin_with, plain_ways}
use Rattle.ql_grammar.specs.Machine.{Reading, read, is_ahead, chosen}
use Rattle.ql_grammar.proofs.Choices.{read-part}
use Rattle.ql_grammar.proofs.Rules.{last_placed}
use Rattle.ql_grammar.proofs.ByToken.{last_word}
use Rattle.ql_parse.specs.Readings.{base_ahead, kind_ahead, beginning_ahead}

-- a choice between two words is read as the chosen one
pub picked : {A : Type 0} (go : Terminal × A → Result (List Value) Fault) (b : Bool) (w ws : Terminal × A) (other : Result (List Value) Fault) → other ≡ go ws → cond b (go w) other ≡ go (cond b w ws)
picked go true w ws other rest = refl
picked go false w ws other rest = rest

module _ (r : Reading) (below : List Sym) (vs : List Value) where
  abbrev base_word : Terminal × Base → Result (List Value) Fault
  base_word w = read r (Word w.0 Plain ∷ Do (add_base w.1) ∷ below) vs

  pub base-word : (w : Terminal × Base) → w ≡ base_ahead r.tokens → read r (APart BaseKind ∷ below) vs ≡ read r (Word w.0 Plain ∷ Do (add_base w.1) ∷ below) vs
  base-word w is =
      read-part r BaseKind below vs
      ∙ picked base_word (is_ahead IntWord r.tokens) (IntWord, base.Int) _ _
      (picked base_word (is_ahead BoolWord r.tokens) (BoolWord, base.Bool) (TextWord, base.Text) _
      (last_word r below vs TextWord (Do (add_base base.Text) ∷ below) (is_ahead TextWord r.tokens) refl))
      ∙ ap base_word (sym is)

  abbrev kind_word : Terminal × Kind → Result (List Value) Fault
  kind_word w = read r (Word w.0 Plain ∷ Do (add_kind w.1) ∷ below) vs

  pub kind-word : is_ahead SetWord r.tokens ≡ false → is_ahead MapWord r.tokens ≡ false → (w : Terminal × Kind) → w ≡ kind_ahead r.tokens → read r (APart AnyKind ∷ below) vs ≡ read r (Word w.0 Plain ∷ Do (add_kind w.1) ∷ below) vs
  kind-word a b w is =
      read-part r AnyKind below vs ∙ rw (a, b)
      (picked kind_word (is_ahead UnitWord r.tokens) (UnitWord, kind.Unit) _ _
      (picked kind_word (is_ahead IntWord r.tokens) (IntWord, kind.Int) _ _
      (picked kind_word (is_ahead BoolWord r.tokens) (BoolWord, kind.Bool) (TextWord, kind.Text) _
      (last_word r below vs TextWord (Do (add_kind kind.Text) ∷ below) (is_ahead TextWord r.tokens) refl))))
      ∙ ap kind_word (sym is)

  abbrev beginning_word : Terminal × InitNode → Result (List Value) Fault
  beginning_word w = read r (Placed w.0 Plain ∷ Do (begin_with w.1) ∷ below) vs

  pub beginning-word : (w : Terminal × InitNode) → w ≡ beginning_ahead r.tokens → chosen r (plain_ways below) vs ≡ read r (Placed w.0 Plain ∷ Do (begin_with w.1) ∷ below) vs
  beginning-word w is =
      picked beginning_word (is_ahead TrueWord r.tokens) (TrueWord, init.Bool true) _ _
      (picked beginning_word (is_ahead FalseWord r.tokens) (FalseWord, init.Bool false) _ _
      (picked beginning_word (is_ahead UnitWord r.tokens) (UnitWord, init.Unit) (EmptyWord, init.Empty) _
      (last_placed r EmptyWord Plain (Do (begin_with init.Empty) ∷ below) vs (is_ahead EmptyWord r.tokens) refl)))
      ∙ ap beginning_word (sym is)
