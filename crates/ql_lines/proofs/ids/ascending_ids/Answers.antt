use Rattle.std.proofs.Common.{◌≡◌, ℕ, List, [], ◌∷◌, ◌++◌, map, decimal, arith, ap, sym, subst, ◌∙◌, append_assoc}
use Rattle.std.specs.List.{AllByRecursion}
use Rattle.std.proofs.lemmas.Bool.{false≢true}
use Rattle.std.proofs.lemmas.List.{map-append}
use Rattle.ql_base.specs.IdLists.{IsAscending}
use Rattle.ql_lines.specs.Fields.{Fields, IsId, fields_of}
use Rattle.ql_lines.proofs.AscendingIds.{ids_more, no_descent, no_other_field, with_id-end}
use Rattle.ql_lines.proofs.ids.ascending_ids.Goals as goal

pub returns-then-not-is_above : goal.returns-then-not-is_above
returns-then-not-is_above c =
    let h = c.loop-id.invariant in
    let id = c.in-Some.id in
    no_descent c.loop-id.ids h.1 (fields_of c.args.text.now) (fields_of c.loop-id.rest.now) h.0 id (fields_of c.in-Some.remaining.now) (omega (arith, c.in-Some.ensures.0)) c.in-Some.ensures.1.fields
    (λ up. false≢true (sym c.if-not-is_above.true ∙ c.is_above.ensures.1 (subst (λ (l : List ℕ). IsAscending (l ++ id ∷ [])) (sym c.items.ensures.same) up)))

pub loop-id-preserved : goal.loop-id-preserved
loop-id-preserved c =
    let h = c.loop-id.invariant in
    let ids = c.loop-id.ids in
    let id = c.in-Some.id in
    let remaining = fields_of c.in-Some.remaining.now in
    let up : IsAscending (ids ++ id ∷ []) = subst (λ (l : List ℕ). IsAscending (l ++ id ∷ [])) c.items.ensures.same (c.is_above.ensures.0 c.if-not-is_above.false) in
    let new : c.insert.new.self ≡ ids ++ id ∷ [] = c.in_ok-insert.ensures.added ∙ with_id-end ids id up in (
      h.0 ∙ ap (λ (r : Fields). map decimal ids ++ r) c.in-Some.ensures.1.fields ∙ sym (append_assoc (map decimal ids) (decimal id ∷ []) remaining)
          ∙ ap (λ (fs : Fields). fs ++ remaining) (sym (map-append decimal ids (id ∷ []))) ∙ ap (λ (l : List ℕ). map decimal l ++ remaining) (sym new),
      subst (AllByRecursion IsId) (sym new) (ids_more ids id h.1 (omega (arith, c.in-Some.ensures.0))),
      subst IsAscending (sym new) up,
    )

pub returns-in-Some-first_field : goal.returns-in-Some-first_field
returns-in-Some-first_field c =
    let h = c.loop-id.invariant in
    no_other_field c.loop-id.ids h.1 (fields_of c.args.text.now) (fields_of c.loop-id.rest.now) h.0 c.in-Some-first_field.field-0.0.now (fields_of c.in-Some-first_field.field-0.1.now) c.in-Some-first_field.ensures.fields c.in_default.ensures
