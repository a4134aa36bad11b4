use Rattle.std.proofs.Common.{[], ◌∷◌, ◌++◌, map, sym, ◌∙◌, ap, string_bytes}
use Rattle.std.proofs.lemmas.List.{map_push}
use Rattle.std.specs.Option.{option_map}
use Rattle.serde_json.specs.View.{members_view, view}
use Rattle.ql_trace.specs.FormTexts.{count_text}
use Rattle.ql_trace.specs.Forms.{count_in, counts_in}
use Rattle.ql_trace.specs.Json.{members_in}
use Rattle.ql_trace.proofs.Each.{each-end, each-turn, each-turn-none, with_rest}
use Rattle.ql_trace.proofs.form.counts.Goals as goal

pub loop-origin-preserved : goal.loop-origin-preserved
loop-origin-preserved c =
    let done = map count_text c.loop-origin.counts.items in
    let left = members_in (members_view c.next.new.self) in
    let one = ap (option_map (λ n. (string_bytes c.in-Some.origin.now, n))) (sym c.count_of.ensures ∙ c.in-Some-count_of.is) in
    let pushed = ap (map count_text) c.in_ok-push-in-Some-count_of.ensures.items ∙ map_push count_text c.loop-origin.counts.items _ in
    c.loop-origin.invariant ∙ ap (λ es. with_rest done (counts_in (members_in (members_view es)))) c.in-Some.ensures.steps
    ∙ each-turn count_in done (string_bytes c.in-Some.origin.now, view c.in-Some.count.now) left (string_bytes c.in-Some.origin.now, c.in-Some-count_of.count) one
    ∙ ap (λ text. with_rest (done ++ (text, c.in-Some-count_of.count) ∷ []) (counts_in left)) (sym c.as_str.ensures.value)
    ∙ ap (λ xs. with_rest xs (counts_in left)) (sym pushed)

pub returns-in-None-count_of : goal.returns-in-None-count_of
returns-in-None-count_of c =
    let done = map count_text c.loop-origin.counts.items in
    let left = members_in (members_view c.next.new.self) in
    let none = ap (option_map (λ n. (string_bytes c.in-Some.origin.now, n))) (sym c.count_of.ensures ∙ c.in-None-count_of.is) in
    sym (c.loop-origin.invariant ∙ ap (λ es. with_rest done (counts_in (members_in (members_view es)))) c.in-Some.ensures.steps
    ∙ each-turn-none count_in done (string_bytes c.in-Some.origin.now, view c.in-Some.count.now) left none)

pub returns : goal.returns
returns c =
    let done = map count_text c.loop-origin.counts.items in
    sym (c.loop-origin.invariant ∙ ap (λ es. with_rest done (counts_in (members_in (members_view es)))) c.in-None.ensures.steps.0 ∙ each-end count_in done)
