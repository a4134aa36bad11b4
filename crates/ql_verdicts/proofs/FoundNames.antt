-- Operations and declared transactions of a source's program are found by their names.
use Rattle.std.proofs.Common.{◌≡◌, ℕ, List, [], Option, ap, sym, subst, ◌∙◌}
use Rattle.std.specs.Option.{option_map_or}
use Rattle.ql_base.specs.Names.{IsName}
use Rattle.ql_commands.specs.Sources.{IsSourceOf}
use Rattle.ql_commands.proofs.FoundNames.{found, op-found, txn-found}
use Rattle.ql_lang.specs.declared.operation.OpDecl.{OpDecl}
use Rattle.ql_lang.specs.declared.program.Program.{Program}
use Rattle.ql_lang.specs.declared.program.TxnDecl.{TxnDecl}
use Rattle.ql_verdicts.specs.Printable.{FindsNames}
use Rattle.ql_typing.specs.Lookups.{txn_place}
use Rattle.ql_typing.specs.Operations.{all_ops, op_place}
use Rattle.ql_typing.specs.Names.{op_name, txn_name}

pub finds-names : (source : List ℕ) (p : Program) → IsSourceOf source p → FindsNames p
finds-names source p is = record {
  op = λ o less.
      (let at = found (all_ops p.types) o less in
      let word : op_name p o ≡ at.0.name.word = ap (λ (r : Option OpDecl). option_map_or (λ (op : OpDecl). op.name.word) r []) at.1 in
      let own = op-found source p is o at.0 at.1 in
      (subst IsName (sym word) own.0, ap (op_place p.types) word ∙ own.1));
  txn = λ d less.
      (let at = found p.txns d less in
      let word : txn_name p d ≡ at.0.name.word = ap (λ (r : Option TxnDecl). option_map_or (λ (txn : TxnDecl). txn.name.word) r []) at.1 in
      let own = txn-found source p is d at.0 at.1 in
      (subst IsName (sym word) own.0, ap (txn_place p.txns) word ∙ own.1));
}
