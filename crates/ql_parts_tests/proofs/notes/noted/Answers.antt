use Rattle.std.proofs.Common.{◌≡◌, ◌+◌, ◌∷◌, ◌++◌, [], ℕ, List, Some, slice_get, take, length-take, add-one, ap, refl, sym, ◌∙◌, arith}
use Rattle.std.proofs.lemmas.Option.{slice_get_read, slice_get_within}
use Rattle.ql_exec.specs.declared.effect.Effect.{Effect}
use Rattle.ql_exec.proofs.Finding.{take_one_more}
use Rattle.ql_session.specs.declared.note.Note.{Note}
use Rattle.ql_session.specs.Executions.{note_of, notes_of}
use Rattle.ql_session.proofs.NoteLaws.{notes_after-push}
use Rattle.ql_parts_tests.proofs.notes.noted.Goals as goal

noted-more : (x : List Effect) (k : ℕ) (e : Effect) → slice_get x k ≡ Some e → notes_of (take (k + 1) x) ≡ notes_of (take k x) ++ note_of (k + 1) e ∷ []
noted-more x k e at =
    ap notes_of (rw add-one (take_one_more x k e at)) ∙ notes_after-push 0 (take k x) e
    ∙ ap (λ (n : ℕ). notes_of (take k x) ++ note_of n e ∷ []) (let within = slice_get_within x k e at in omega (arith, length-take k x, within))

pub loop-k-preserved : goal.loop-k-preserved
loop-k-preserved c =
    let x = c.args.effects.now in
    let at = slice_get_read x _ c.loop-k.k c.index-effects-k.result refl c.loop-k-test.true c.index-effects-k.is in
    c.in_ok-note.ensures.ok ∙ ap (λ (notes : List Note). notes ++ note_of (c.loop-k.k + 1) c.index-effects-k.result ∷ []) c.loop-k.invariant
    ∙ sym (noted-more x c.loop-k.k c.index-effects-k.result at)
