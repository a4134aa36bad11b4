use Rattle.std.proofs.Common.{Err, ap, subst, sym, ◌∙◌, []}
use Rattle.ql_counter.specs.Built.{drafts_of}
use Rattle.ql_atoms.specs.Atoms.{size_of}
use Rattle.ql_exec.specs.Execution.{IsMade, made_after}
use Rattle.ql_exec.specs.declared.fault.ExecFault.{ExecFault}
use Rattle.ql_exec.specs.declared.fault.ExecFault.TheVariants.{NotForward, OtherObject, SplitTxn}
use Rattle.ql_counter.specs.Assigned.{pattern_of}
use Rattle.ql_counter.specs.Coded.{members_by}
use Rattle.ql_counter.proofs.Made.{made-stored, never-refused}
use Rattle.ql_counter.proofs.execution.execution.Goals as goal

pub returns-in-Ok : goal.returns-in-Ok
returns-in-Ok c = made-stored [] _ c.in-Ok.execution (ap (made_after []) (sym c.in_ok-drafts.ensures) ∙ c.in-Ok.ensures)

pub unreachable-requires : goal.unreachable-requires
unreachable-requires c =
    never-refused (drafts_of (pattern_of c.args.a.now (size_of c.args.s) (members_by c.args.a.now (size_of c.args.s) c.args.declared)) c.args.slots.now)
    c.in_ok-drafts.drafts.items (NotForward c.in-Err-NotForward.field-0-0) c.in_ok-drafts.ensures c.requires.lawful
    (subst (λ (f : ExecFault). IsMade c.in_ok-drafts.drafts.items (Err f)) c.in-Err-NotForward.field-0-is c.in-Err-NotForward.ensures)

pub unreachable-requires-in-Err-OtherObject : goal.unreachable-requires-in-Err-OtherObject
unreachable-requires-in-Err-OtherObject c =
    never-refused (drafts_of (pattern_of c.args.a.now (size_of c.args.s) (members_by c.args.a.now (size_of c.args.s) c.args.declared)) c.args.slots.now)
    c.in_ok-drafts.drafts.items (OtherObject c.in-Err-OtherObject.field-0-0) c.in_ok-drafts.ensures c.requires.lawful
    (subst (λ (f : ExecFault). IsMade c.in_ok-drafts.drafts.items (Err f)) c.in-Err-OtherObject.field-0-is c.in-Err-OtherObject.ensures)

pub unreachable-requires-in-Err-SplitTxn : goal.unreachable-requires-in-Err-SplitTxn
unreachable-requires-in-Err-SplitTxn c =
    never-refused (drafts_of (pattern_of c.args.a.now (size_of c.args.s) (members_by c.args.a.now (size_of c.args.s) c.args.declared)) c.args.slots.now)
    c.in_ok-drafts.drafts.items (SplitTxn c.in-Err-SplitTxn.field-0-0) c.in_ok-drafts.ensures c.requires.lawful
    (subst (λ (f : ExecFault). IsMade c.in_ok-drafts.drafts.items (Err f)) c.in-Err-SplitTxn.field-0-is c.in-Err-SplitTxn.ensures)
