use Rattle.std.specs.List.{slice_get}
use Rattle.std.proofs.Common.{◌≡◌, ◌∙◌, ℕ, List, Option, Some, ap, length, map, option_map, refl, sym}
use Rattle.std.proofs.lemmas.Option.{slice_get-map, slice_get_read}
use Rattle.ql_cert.specs.declared.cert.SectionLevel.{SectionLevel}
use Rattle.ql_commands.specs.Check.{Target, Operation, Transaction, target_named, target_of}
use Rattle.ql_commands.proofs.order.is_expected.Goals as goal

pub returns-in-Op : goal.returns-in-Op
returns-in-Op c =
    let section = c.in-Some.section.now in
    let found : slice_get c.args.sections.now c.args.place ≡ Some section = slice_get_read c.args.sections.now (length c.args.sections.now) c.args.place section refl c.in-Some.ensures.lookup.3.0 c.in-Some.ensures.lookup.1 in
    let given : slice_get (map target_of c.args.sections.now) c.args.place ≡ Some (Operation c.bytes.result.now) =
    slice_get-map target_of c.args.sections.now c.args.place ∙ ap (option_map target_of) found
    ∙ ap (λ (level : SectionLevel). Some (target_named section.name level)) c.in-Op.is ∙ ap (λ (name : List ℕ). Some (Operation name)) (sym c.bytes.ensures.same) in
    rw given c.is_op_expected.ensures

pub returns-in-Txn : goal.returns-in-Txn
returns-in-Txn c =
    let section = c.in-Some.section.now in
    let found : slice_get c.args.sections.now c.args.place ≡ Some section = slice_get_read c.args.sections.now (length c.args.sections.now) c.args.place section refl c.in-Some.ensures.lookup.3.0 c.in-Some.ensures.lookup.1 in
    let given : slice_get (map target_of c.args.sections.now) c.args.place ≡ Some (Transaction c.bytes-in-Txn.result.now) =
    slice_get-map target_of c.args.sections.now c.args.place ∙ ap (option_map target_of) found
    ∙ ap (λ (level : SectionLevel). Some (target_named section.name level)) c.in-Txn.is ∙ ap (λ (name : List ℕ). Some (Transaction name)) (sym c.bytes-in-Txn.ensures.same) in
    rw given c.is_txn_expected.ensures
