-- Which of the calls it is.
use Rattle.std.proofs.Common.{◌≡◌, Option, Some, None, refl, sym, ◌∙◌}
use Rattle.std.specs.Option.{option_map}
use Rattle.ql_base.specs.declared.ids.DeclId.{DeclId}
use Rattle.ql_base.specs.declared.ids.RunId.{RunId}
use Rattle.ql_machine.specs.declared.open_txn.OpenTxn.{OpenTxn}

pub one-open : (open_one : Option OpenTxn) (found : Option (RunId × DeclId)) (k : RunId × DeclId) → found ≡ option_map (λ t. (t.run, t.decl)) open_one → found ≡ Some k → (t : OpenTxn) × (open_one ≡ Some t)
one-open None found k is some = absurd (let never : None ≡ Some k = sym is ∙ some in cc)
one-open (Some t) found k is some = (t, refl)

pub none-open : (open_one : Option OpenTxn) (found : Option (RunId × DeclId)) → found ≡ option_map (λ t. (t.run, t.decl)) open_one → found ≡ None → open_one ≡ None
none-open None found is none = refl
none-open (Some t) found is none = absurd (let never : Some (t.run, t.decl) ≡ None = sym is ∙ none in cc)
