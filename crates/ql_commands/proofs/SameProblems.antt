-- Programs that are read as one source have the same targets and the same ground problems.
use Rattle.std.proofs.Common.{◌≡◌, ℕ, List, ◌++◌, map, length, sym, ap, ◌∙◌}
use Rattle.std.specs.List.{slice_get}
use Rattle.std.proofs.lemmas.List.{length-map}
use Rattle.ql_classify.specs.Goals.{IsRefutedBy}
use Rattle.ql_cnf.specs.Satisfaction.{ClauseList}
use Rattle.ql_ground.specs.Ground.{op_problem, txn_problem}
use Rattle.ql_ground.specs.OfPrograms.{IsProblemOf}
use Rattle.ql_ground.specs.declared.goal.Goal.{Goal}
use Rattle.ql_ground.specs.declared.goal.Goal.TheVariants.{OpAt, TxnAt}
use Rattle.ql_lang.specs.Formulas.{Resolved}
use Rattle.ql_lang.specs.declared.operation.OpDecl.{OpDecl}
use Rattle.ql_lang.specs.declared.program.Program.{Program}
use Rattle.ql_lang.specs.declared.program.TxnDecl.{TxnDecl}
use Rattle.ql_lang.specs.Programs.{Operation as ReadOperation, Transaction as ReadTransaction, operation_of, source_of, transaction_of}
use Rattle.ql_refute.specs.declared.refutation.Line.{Line}
use Rattle.ql_typing.specs.Operations.{all_ops, op_contract, op_contracts, op_words, txn_contract, txn_contracts}
use Rattle.ql_typing.specs.Resolved.{resolved_in}
use Rattle.ql_commands.specs.Check.{Target, Operation, Transaction, expected_targets}
use Rattle.ql_typing.proofs.SameSource.{map_alike, same-op-kinds, same-ops, same-txns}

module _ (p q : Program) (e : source_of p ≡ source_of q) where
  ops : map operation_of (all_ops p.types) ≡ map operation_of (all_ops q.types)
  ops = same-ops p q e

  txns : map transaction_of p.txns ≡ map transaction_of q.txns
  txns = same-txns p q e

  words : op_words p.types ≡ op_words q.types
  words = map_alike operation_of (λ o. o.name.word) (λ a b s. ap (λ (o : ReadOperation). o.name.word) s) (all_ops p.types) (all_ops q.types) ops

  pub same_count : length (all_ops p.types) ≡ length (all_ops q.types)
  same_count = sym (length-map (all_ops p.types) operation_of) ∙ ap (λ (os : List ReadOperation). length os) ops ∙ length-map (all_ops q.types) operation_of

  pub same_expected : expected_targets p ≡ expected_targets q
  same_expected =
      let of_ops = map_alike operation_of (λ o. Operation o.name.word) (λ a b s. ap (λ (o : ReadOperation). Operation o.name.word) s) (all_ops p.types) (all_ops q.types) ops in
      let of_txns = map_alike transaction_of (λ t. Transaction t.name.word) (λ a b s. ap (λ (t : ReadTransaction). Transaction t.name.word) s) p.txns q.txns txns in
      ap (λ (ts : List Target). ts ++ map (λ (t : TxnDecl). Transaction t.name.word) p.txns) of_ops ∙ ap (λ (ts : List Target). map (λ (o : OpDecl). Operation o.name.word) (all_ops q.types) ++ ts) of_txns

  contracts : op_contracts p.types ≡ op_contracts q.types
  contracts =
      ap (λ (ws : List (List ℕ)). map (op_contract ws) (all_ops p.types)) words
      ∙ map_alike operation_of (op_contract (op_words q.types)) (λ a b s. ap (λ (o : ReadOperation). resolved_in (op_words q.types) o.contract) s) (all_ops p.types) (all_ops q.types) ops

  of-txns : txn_contracts p ≡ txn_contracts q
  of-txns =
      ap (λ (ws : List (List ℕ)). map (txn_contract ws) p.txns) words
      ∙ map_alike transaction_of (txn_contract (op_words q.types)) (λ a b s. ap (λ (t : ReadTransaction). resolved_in (op_words q.types) t.contract) s) p.txns q.txns txns

  pub same_problem : (g : Goal) (c : ClauseList) → IsProblemOf p g c → IsProblemOf q g c
  same_problem (OpAt o level) c h =
      (h.0, ap (λ (fs : List Resolved). slice_get fs o.0) (sym contracts) ∙ h.1, h.2 ∙ ap (λ (ks : List ℕ). op_problem ks o.0 level h.0) (same-op-kinds p q e))
  same_problem (TxnAt d level) c h =
      (h.0, ap (λ (fs : List Resolved). slice_get fs d.0) (sym of-txns) ∙ h.1, h.2 ∙ ap (λ (ks : List ℕ). txn_problem ks level h.0) (same-op-kinds p q e))

  pub same_refuted : (g : Goal) (lines : List Line) → IsRefutedBy p g lines → IsRefutedBy q g lines
  same_refuted g lines h = (h.0, same_problem g h.0 h.1, h.2)
