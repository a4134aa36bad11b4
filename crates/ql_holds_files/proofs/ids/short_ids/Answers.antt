use Rattle.std.proofs.Common.{◌≡◌, ℕ, List, [], ◌∷◌, ◌++◌, map, decimal, arith, ap, sym, subst, ◌∙◌, append_assoc}
use Rattle.std.specs.List.{AllByRecursion}
use Rattle.std.proofs.lemmas.List.{map-append}
use Rattle.ql_base.specs.IdLists.{IsAscending}
use Rattle.ql_lines.specs.Fields.{Fields, IsId, fields_of}
use Rattle.ql_lines.proofs.AscendingIds.{ids_more, with_id-end}
use Rattle.ql_holds_files.proofs.ShortIds.{above_last}
use Rattle.ql_holds_files.proofs.ids.short_ids.Goals as goal

pub loop-id-preserved : goal.loop-id-preserved
loop-id-preserved c =
    let h = c.loop-id.invariant in
    let ids = c.loop-id.ids in
    let id = c.in-Some.id in
    let after = fields_of c.in-Some.after.now in
    let up : IsAscending (ids ++ id ∷ []) = h.3 id (omega (arith, c.if-id-last.false)) in
    let new : c.insert.new.self ≡ ids ++ id ∷ [] = c.in_ok-insert.ensures.added ∙ with_id-end ids id up in (
      h.0 ∙ ap (λ (r : Fields). map decimal ids ++ r) c.in-Some.ensures.1.fields ∙ sym (append_assoc (map decimal ids) (decimal id ∷ []) after)
          ∙ ap (λ (fs : Fields). fs ++ after) (sym (map-append decimal ids (id ∷ []))) ∙ ap (λ (l : List ℕ). map decimal l ++ after) (sym new),
      subst (AllByRecursion IsId) (sym new) (ids_more ids id h.1 c.in-Some.ensures.0),
      subst IsAscending (sym new) up,
      λ next less. subst (λ (l : List ℕ). IsAscending (l ++ next ∷ [])) (sym new) (above_last ids id next up less),
    )
