use Rattle.std.proofs.lemmas.Result.{err_from_is_err_and}
use Rattle.std.proofs.Common.{◌≡◌, ◌≤◌, ◌∙◌, ◌++◌, ◌∷◌, [], ℕ, List, Ok, length, append_assoc, sym, ap, subst}
use Rattle.std.proofs.lemmas.Option.{MatchOption-at_some}
use Rattle.ql_value.specs.declared.value.Value.{Value}
use Rattle.ql_value.specs.Reading.{value_at}
use Rattle.ql_effect_lines.specs.Parts.{ItemsAt, ValueAt}
use Rattle.ql_effect_lines.proofs.Parts.{items_left, last_item, more_items, stray_item}
use Rattle.ql_effect_lines.proofs.part.items.Goals as goal

pub returns-in_default-after_byte-2 : goal.returns-in_default-after_byte-2
returns-in_default-after_byte-2 c = λ vs end p.
    let text = c.loop-items.rest.now in
    let read = MatchOption-at_some ((v : Value) (rest : List ℕ) → ValueAt v text rest → ⊥) (λ x. (value_at text ≡ Ok (x.0, x.1.now)) × (length x.1.now ≤ length text)) (c.in-Some.item, c.in-Some.remaining) c.in-Some.is c.in_ok-item.ensures.read in
    let left = c.loop-items.invariant.1 vs end p in
    stray_item c.in-Some.item text c.in-Some.remaining.now read.0 c.in_default-after_byte.ensures c.in_default-after_byte-2.ensures left.0 end left.2

pub returns-in-Some-after_byte : goal.returns-in-Some-after_byte
returns-in-Some-after_byte c =
    let text = c.loop-items.rest.now in
    let end = c.in-Some-after_byte.end.now in
    let read = MatchOption-at_some ((v : Value) (rest : List ℕ) → ValueAt v text rest → ⊥) (λ x. (value_at text ≡ Ok (x.0, x.1.now)) × (length x.1.now ≤ length text)) (c.in-Some.item, c.in-Some.remaining) c.in-Some.is c.in_ok-item.ensures.read in
    let pushed : c.push.new.self.items ≡ c.loop-items.items.items ++ c.in-Some.item ∷ [] = c.in_ok-push.ensures.items in
    let all = c.loop-items.invariant.0 (c.in-Some.item ∷ []) end (last_item c.in-Some.item text c.in-Some.remaining.now read.0 end c.in-Some-after_byte.ensures) in
    subst (λ (l : List Value). ItemsAt l c.args.text.now end) (sym (c.of.ensures ∙ pushed)) all

pub loop-items-preserved : goal.loop-items-preserved
loop-items-preserved c =
    let h = c.loop-items.invariant in
    let text = c.loop-items.rest.now in
    let items = c.loop-items.items.items in
    let item = c.in-Some.item in
    let remaining = c.in-Some.remaining.now in
    let next = c.in-Some-after_byte-2.next.now in
    let comma = c.in-Some-after_byte-2.ensures in
    let spaces = c.after_spaces-rest.ensures.spaces in
    let read = MatchOption-at_some ((v : Value) (rest : List ℕ) → ValueAt v text rest → ⊥) (λ x. (value_at text ≡ Ok (x.0, x.1.now)) × (length x.1.now ≤ length text)) (c.in-Some.item, c.in-Some.remaining) c.in-Some.is c.in_ok-item.ensures.read in
    let pushed : c.push.new.self.items ≡ items ++ item ∷ [] = c.in_ok-push.ensures.items in (
      λ vs end p.
          let all = h.0 (item ∷ vs) end (more_items item text remaining read.0 next comma vs end (subst (λ (t : List ℕ). ItemsAt vs t end) spaces p)) in
          subst (λ (l : List Value). ItemsAt l c.args.text.now end) (sym (append_assoc items (item ∷ []) vs) ∙ ap (λ (l : List Value). l ++ vs) (sym pushed)) all,
      λ vs end p.
          let left = h.1 vs end p in
          let more = items_left item text remaining read.0 next comma left.0 end left.2 in (
            more.0,
            left.1 ∙ ap (λ (l : List Value). items ++ l) more.1 ∙ sym (append_assoc items (item ∷ []) more.0) ∙ ap (λ (l : List Value). l ++ more.0) (sym pushed),
            subst (λ (t : List ℕ). ItemsAt more.0 t end) (sym spaces) more.2,
          ),
    )

pub returns-in_err-item : goal.returns-in_err-item
returns-in_err-item c = let p = err_from_is_err_and c.from_residual.result c.from_residual.ensures.1 in rw p.1 tt

pub returns-in_err-push : goal.returns-in_err-push
returns-in_err-push c = let p = err_from_is_err_and c.from_residual-in_err-push.result c.from_residual-in_err-push.ensures.1 in rw p.1 tt
