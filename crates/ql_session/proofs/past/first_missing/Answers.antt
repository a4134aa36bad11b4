use Rattle.std.proofs.Common.{◌≡◌, ◌+◌, ◌∷◌, ◌++◌, [], take, get_or, refl, add-one, ◌∙◌, sym, subst, inl, inr}
use Rattle.std.proofs.Math.Seq.{take-suc}
use Rattle.std.proofs.lemmas.Bool.{false≢true}
use Rattle.ql_base.proofs.IdLemmas.{has_id-there}
use Rattle.ql_holder.specs.Closed.{Has}
use Rattle.ql_ranges.specs.Ranges.{ids_of}
use Rattle.ql_session.proofs.MissingLaws.{first-or-later, has-cases}
use Rattle.ql_session.proofs.past.first_missing.Goals.{else-has-via-then-has+else-not-has, else-has-via-else-has}
use Rattle.ql_session.proofs.past.first_missing.Goals as goal

pub returns-then-not-has : goal.returns-then-not-has
returns-then-not-has c =
    let ids = c.args.ids.now in
    let i = c.loop-id.id-index in
    record {
      fits = (has_id-there ids (get_or ids i 0) i c.loop-id-test.true refl, sym c.if-has.ensures, sym c.if-not-has.ensures);
      least = λ b is. elim (first-or-later ids i b c.requires c.loop-id-test.true is.0) [
        | inl before ↦ absurd (c.loop-id.invariant b before is.1 is.2)
        | inr behind ↦ behind
      ];
    }

pub loop-id-preserved : goal.loop-id-preserved
loop-id-preserved c =
    let ids = c.args.ids.now in
    let i = c.loop-id.id-index in
    let more : take (i + 1) ids ≡ take i ids ++ get_or ids i 0 ∷ [] = rw add-one (take-suc ids i 0 c.loop-id-test.true) in
    λ a has past lacks. elim (has-cases (take i ids) (get_or ids i 0) a (subst (λ l. Has l a) more has)) [
      | inl before ↦ c.loop-id.invariant a before past lacks
      | inr here ↦ elim c.else-has.branch [
        | else-has-via-then-has+else-not-has w ↦ false≢true (sym lacks ∙ subst (Has c.args.view.now) here (sym w.if-not-has.ensures))
        | else-has-via-else-has w ↦ false≢true (w.if-has.ensures ∙ subst (Has (ids_of c.args.past.now)) (sym here) past)
      ]
    ]
