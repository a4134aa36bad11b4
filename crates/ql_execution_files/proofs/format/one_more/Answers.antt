use Rattle.std.proofs.Common.{inl, refl, sym, ◌∙◌}
use Rattle.std.proofs.lemmas.Bool.{false≢true}
use Rattle.std.proofs.lemmas.Result.{err_from_is_err_and}
use Rattle.ql_execution_files.proofs.Files.{broken, no_effect}
use Rattle.ql_execution_files.proofs.format.one_more.Goals as goal

pub returns-in_err-effect : goal.returns-in_err-effect
returns-in_err-effect c =
    let p = err_from_is_err_and c.from_residual.result c.from_residual.ensures.1 in
    rw (p.1, p.2) (no_effect c.args.t.now.program c.args.read c.args.text.now (λ end. false≢true (sym c.if-is_word.false ∙ c.is_word.ensures.1 end)) c.in_err-effect.field-0.0 c.in_err-effect.ensures)

pub returns-in-Ok : goal.returns-in-Ok
returns-in-Ok c = inl (record { effect = c.in_ok-effect.effect; more = c.in-Ok.more; is = c.in_ok-effect.ensures; lawful = c.in-Ok.ensures; to = refl })

pub returns-in-Err : goal.returns-in-Err
returns-in-Err c = broken c.args.t.now.program c.args.read c.args.text.now c.in_ok-effect.effect c.in_ok-effect.ensures c.in-Err.fault c.in-Err.ensures
