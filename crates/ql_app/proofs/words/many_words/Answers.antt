use Rattle.std.proofs.Common.{◌≡◌, ℕ, List, [], ◌∷◌, length, map, MatchOption, ap, refl, sym, subst, ◌∙◌, arith}
use Rattle.std.specs.String.{string_bytes}
use Rattle.ql_app.specs.Requests.{named_request_of}
use Rattle.ql_app.specs.Words.{NamedRequest, IsRequest}
use Rattle.ql_reply.specs.Arguments.{word_texts}
use Rattle.ql_app.proofs.WordLaws.{five-words}
use Rattle.ql_app.proofs.words.many_words.Goals as goal

pub returns-in-len5 : goal.returns-in-len5
returns-in-len5 c =
    let count : length c.as_slice.result.now ≡ 5 = (let low = c.in-len5.len_at_least in let high = c.in-len5.len_below in omega (arith, low, high)) in
    let texts : word_texts c.args.words.now
    ≡ c.as_str.result.now ∷ c.as_str-in-len5.result.now ∷ c.as_str-in-len5-2.result.now ∷ c.as_str-in-len5-3.result.now ∷ c.as_str-in-len5-4.result.now ∷ [] =
    ap (map string_bytes) (sym c.as_slice.ensures.value)
    ∙ five-words c.as_slice.result.now c.word-item.result c.name-item.result c.other-item.result c.replica-item.result c.cut-item.result count
    c.word-item.is c.name-item.is c.other-item.is c.replica-item.is c.cut-item.is
    ∙ rw (c.as_str.ensures.value, c.as_str-in-len5.ensures.value, c.as_str-in-len5-2.ensures.value, c.as_str-in-len5-3.ensures.value, c.as_str-in-len5-4.ensures.value) refl in
    subst (λ (words : List (List ℕ)). MatchOption c.five_words.result ((named : NamedRequest) → IsRequest words named → ⊥) (λ request. IsRequest words (named_request_of request))) (sym texts) c.five_words.ensures
