use Rattle.std.proofs.lemmas.Result.{err_from_is_err_and}
use Rattle.std.proofs.Common.{◌≡◌, ◌<◌, ◌++◌, List, ℕ, All, codes, length, sym, subst, ap, ◌∙◌}
use Rattle.ql_exec.specs.declared.effect.Effect.{Effect}
use Rattle.ql_machine.specs.Sets.{AreThose}
use Rattle.ql_slimming.specs.Answers.{kept_line}
use Rattle.ql_slimming.specs.Ready.{AreKept, IsKeptAt}
use Rattle.ql_slimming.proofs.Leaving.{all_stable, objects_kept}
use Rattle.ql_slimming.proofs.command.print_slim.Goals as goal

pub kept_effects-requires : goal.kept_effects-requires
kept_effects-requires c =
    let run = c.args.run.now in
    let kept = c.in_ok-kept.kept in
    let all = objects_kept c.args.t.now.program (length run.objects) c.args.kinds.now run.store.machine.effects kept c.requires.fits (c.in_ok-kept.ensures.count ∙ c.requires.typed) in
    subst (λ (x : List Effect). All (λ e. e.object.0 < length kept) x) (sym c.execution-x.ensures) all

pub returns : goal.returns
returns c =
    let run = c.args.run.now in
    let s = run.store.machine in
    let kept = c.in_ok-kept.kept in
    let stable = c.in_ok-stable.stable in
    let answers = c.in_ok-push_answers.ensures in
    let own = subst (λ (n : ℕ). AreKept s n kept) c.requires.typed c.in_ok-kept.ensures.stable in
    let those = subst (λ (x : List Effect). AreThose (IsKeptAt x kept) stable) c.execution-x.ensures c.in_ok-stable.ensures in
    let numbers : kept_line c.len.result c.len-2.result ≡ kept_line (length stable) (length s.effects) =
    ap (λ (n : ℕ). kept_line n c.len-2.result) c.len.ensures.length ∙ ap (λ (m : ℕ). kept_line (length stable) m) (c.len-2.ensures.length ∙ ap (λ (x : List Effect). length x) c.execution-x.ensures) in
    let first : c.push_kept.new.out.items ≡ kept_line (length stable) (length s.effects) =
    c.in_ok-push_kept.ensures ∙ ap (λ (t : List ℕ). t ++ kept_line c.len.result c.len-2.result) c.new-text.ensures.items ∙ numbers in
    record {
      stable = stable;
      answers = answers.0;
      are_stable = all_stable c.args.t.now.program (length run.objects) c.args.kinds.now s kept stable c.requires.fits own those;
      are_answers = answers.1;
      is = c.in_ok-push_bytes.ensures.ok ∙ ap (λ (t : List ℕ). t ++ codes "end\n") (answers.2 ∙ ap (λ (t : List ℕ). t ++ answers.0) first);
    }

pub returns-in_err-kept : goal.returns-in_err-kept
returns-in_err-kept c = let p = err_from_is_err_and c.from_residual.result c.from_residual.ensures.1 in rw p.1 tt

pub returns-in_err-push_answers : goal.returns-in_err-push_answers
returns-in_err-push_answers c = let p = err_from_is_err_and c.from_residual-in_err-push_answers.result c.from_residual-in_err-push_answers.ensures.1 in rw p.1 tt

pub returns-in_err-push_bytes : goal.returns-in_err-push_bytes
returns-in_err-push_bytes c = let p = err_from_is_err_and c.from_residual-in_err-push_bytes.result c.from_residual-in_err-push_bytes.ensures.1 in rw p.1 tt

pub returns-in_err-push_kept : goal.returns-in_err-push_kept
returns-in_err-push_kept c = let p = err_from_is_err_and c.from_residual-in_err-push_kept.result c.from_residual-in_err-push_kept.ensures.1 in rw p.1 tt

pub returns-in_err-small : goal.returns-in_err-small
returns-in_err-small c = let p = err_from_is_err_and c.from_residual-in_err-small.result c.from_residual-in_err-small.ensures.1 in rw p.1 tt

pub returns-in_err-stable : goal.returns-in_err-stable
returns-in_err-stable c = let p = err_from_is_err_and c.from_residual-in_err-stable.result c.from_residual-in_err-stable.ensures.1 in rw p.1 tt
