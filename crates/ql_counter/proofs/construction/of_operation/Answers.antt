use Rattle.std.proofs.Common.{length, ◌+◌, ap, ◌∙◌}
use Rattle.ql_lang.specs.Formulas.{resolved_of}
use Rattle.ql_counter.specs.Blocks.{slots_of}
use Rattle.ql_counter.specs.Assigned.{alone, pattern_of}
use Rattle.ql_counter.proofs.Joined.{op-lawful, size}
use Rattle.ql_counter.proofs.construction.of_operation.Goals as goal

pub execution-requires-clause-lawful : goal.execution-requires-clause-lawful
execution-requires-clause-lawful c =
    let a = c.args.a.now in
    let n = length c.items.result.now in
    op-lawful a (resolved_of c.args.f.now) n c.args.operations
    c.in_ok-slots.slots.items c.deref-2.result.now (ap length c.items.ensures)
    (c.in_ok-slots.ensures.slots ∙ ap (slots_of (pattern_of a (size (n + 1) c.args.operations) alone)) c.extra.ensures)
    c.deref-2.ensures.value c.requires.lawful
