-- Programs that are read as one source have the same names and contracts, the same work, and the same executions.
use Rattle.std.proofs.Common.{◌≡◌, ℕ, zero, suc, List, [], ◌∷◌, map, slice_get, Option, None, Some, refl, sym, ap, subst, ◌∙◌}
use Rattle.std.specs.Prelude.{option_map, unwrap_or}
use Rattle.std.specs.List.{AllByRecursion, AllZip}
use Rattle.std.specs.Option.{option_map_or}
use Rattle.ql_base.specs.declared.ids.OpId.{OpId}
use Rattle.ql_typing.proofs.SameSource.{map_alike, same-op-kinds, same-op-place, same-op-words, same-ops, same-txn-place, same-txn-words, same-txns}
use Rattle.ql_exec.specs.declared.effect.Effect.{Effect}
use Rattle.ql_exec.specs.declared.effect.Member.{Member}
use Rattle.ql_exec.specs.Execution.{with_stamp}
use Rattle.ql_effect_lines.specs.Effects.{draft_of_line, known_of, member_of_line}
use Rattle.ql_effect_lines.specs.declared.effect_line.EffectLine.{EffectLine}
use Rattle.ql_effect_lines.specs.declared.setting.Begun.{Begun}
use Rattle.ql_execution_files.specs.Readings.{effect_said, objects_in}
use Rattle.ql_lang.specs.declared.operation.OpDecl.{OpDecl}
use Rattle.ql_lang.specs.declared.program.Program.{Program}
use Rattle.ql_lang.specs.declared.program.TxnDecl.{TxnDecl}
use Rattle.ql_lang.specs.Programs.{Operation, Transaction, operation_of, source_of, transaction_of}
use Rattle.ql_typing.specs.Operations.{all_ops, op_contract, op_contracts, op_words, txn_contract, txn_contracts}
use Rattle.ql_typing.specs.Resolved.{number_in, resolved_in}
use Rattle.ql_typing.specs.Names.{op_name, txn_name}
use Rattle.ql_verify.specs.Work.{work_of}
use Rattle.ql_judging.specs.Verify.{ReportsExecution}

-- an item's text, from the texts of all
text-at : {A : Type 0} (text : A → List ℕ) (xs : List A) (k : ℕ) → option_map_or text (slice_get xs k) [] ≡ unwrap_or (slice_get (map text xs) k) []
text-at text [] k = refl
text-at text (x ∷ xs) zero = refl
text-at text (x ∷ xs) (suc k) = text-at text xs k

module _ (p q : Program) (e : source_of p ≡ source_of q) where
  -- ---- names and contracts

  pub same-op-name : (o : ℕ) → op_name p o ≡ op_name q o
  same-op-name o =
      text-at (λ (op : OpDecl). op.name.word) (all_ops p.types) o ∙ ap (λ (ws : List (List ℕ)). unwrap_or (slice_get ws o) []) (same-op-words p q e)
      ∙ sym (text-at (λ (op : OpDecl). op.name.word) (all_ops q.types) o)

  pub same-txn-name : (d : ℕ) → txn_name p d ≡ txn_name q d
  same-txn-name d =
      text-at (λ (txn : TxnDecl). txn.name.word) p.txns d ∙ ap (λ (ws : List (List ℕ)). unwrap_or (slice_get ws d) []) (same-txn-words p q e)
      ∙ sym (text-at (λ (txn : TxnDecl). txn.name.word) q.txns d)

  pub same-op-contracts : op_contracts p.types ≡ op_contracts q.types
  same-op-contracts =
      ap (λ (ws : List (List ℕ)). map (op_contract ws) (all_ops p.types)) (same-op-words p q e)
      ∙ map_alike operation_of (op_contract (op_words q.types)) (λ a b s. ap (λ (o : Operation). resolved_in (op_words q.types) o.contract) s) (all_ops p.types) (all_ops q.types) (same-ops p q e)

  pub same-txn-contracts : txn_contracts p ≡ txn_contracts q
  same-txn-contracts =
      ap (λ (ws : List (List ℕ)). map (txn_contract ws) p.txns) (same-op-words p q e)
      ∙ map_alike transaction_of (txn_contract (op_words q.types)) (λ a b s. ap (λ (t : Transaction). resolved_in (op_words q.types) t.contract) s) p.txns q.txns (same-txns p q e)

  pub same-work : (x : List Effect) → work_of p x ≡ work_of q x
  same-work x = rw (same-op-contracts, same-txn-contracts) refl

  -- ---- executions

  same-member : (t : Option Begun) → member_of_line p t ≡ member_of_line q t
  same-member None = refl
  same-member (Some t) = rw (same-txn-place p q e t.name) refl

  same-known : (l : EffectLine) → known_of p l ≡ known_of q l
  same-known l = rw (same-op-place p q e l.op, same-member l.setting.txn) refl

  same-said : (objects : List (List ℕ)) (es : List EffectLine) (x : List Effect) → AllZip (λ e f. effect_said p objects e ≡ Some f) es x → AllZip (λ e f. effect_said q objects e ≡ Some f) es x
  same-said objects [] [] all = tt
  same-said objects [] (f ∷ x) all = absurd all
  same-said objects (l ∷ es) [] all = absurd all
  same-said objects (l ∷ es) (f ∷ x) all = (
    ap (option_map (λ (known : OpId × Member). with_stamp (draft_of_line l (record { 0 = number_in objects l.object }) known.0 known.1) l.setting.stamp)) (sym (same-known l)) ∙ all.0,
    same-said objects es x all.1,
  )

  pub same-execution : (bytes : List ℕ) (x : List Effect) → ReportsExecution p bytes x → ReportsExecution q bytes x
  same-execution bytes x (effects, are, says) = (
    effects,
    are,
    record {
      said = same-said (objects_in effects) effects x says.said;
      execution = says.execution;
      one_type =
          subst (λ (kinds : List ℕ). AllByRecursion (λ e. AllByRecursion (λ f. e.object ≡ f.object → unwrap_or (slice_get kinds e.op.0) 0 ≡ unwrap_or (slice_get kinds f.op.0) 0) x) x)
          (same-op-kinds p q e) says.one_type;
      few = says.few;
    },
  )
