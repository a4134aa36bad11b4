use Rattle.std.proofs.Common.{◌++◌, ap, ◌∙◌}
use Rattle.ql_lang.specs.declared.program.Program.{Program}
use Rattle.ql_why.specs.Why.{target_line}
use Rattle.ql_why.proofs.Turns.{on_ok, target_reported}
use Rattle.ql_why.proofs.targets.push_target.Goals as goal

pub returns : goal.returns
returns c =
    let p = c.args.classified.now.program in
    let g = c.args.g in
    let out = c.args.out.now.items in
    let line = c.in_ok-push_target_line.ensures.ok ∙ ap (λ (q : Program). out ++ target_line q g) c.typed.ensures in
    on_ok c.push_step-3.result
    (λ last. target_reported p g out c.push_target_line.new.out.items c.push_step.new.out.items c.push_step-2.new.out.items c.push_step-3.new.out.items line c.in_ok-push_step.ensures c.in_ok-push_step-2.ensures last)
    c.push_step-3.ensures
