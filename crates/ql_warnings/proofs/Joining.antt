-- What joins two `=>` without brackets: each such place, token by token.
use Rattle.std.proofs.Common.{◌≡◌, ℕ, suc, ◌+◌, ◌<◌, ◌≤◌, inl, inr, ◌⊎◌, List, [], ◌∷◌, ◌++◌, length, Option, None, Some, Result, Ok, count_by, drop, take, reverse, slice_get, sym, ap, subst, ◌∙◌, add-one, arith}
use Rattle.std.proofs.lemmas.Bool.{cases_lt}
use Rattle.std.proofs.lemmas.List.Elements.{All-push, Contains-append_left, Contains-push}
use Rattle.std.proofs.lemmas.Option.{same_Some, slice_get_within}
use Rattle.std.specs.List.{All, Contains, prefix_len}
use Rattle.std.specs.Option.{MatchOption}
use Rattle.ql_lex.specs.Tokens.{AreSpans, Lexes}
use Rattle.ql_lex.specs.declared.token.LexFault.{LexFault}
use Rattle.ql_lex.specs.declared.token.Token.{Token}
use Rattle.ql_warnings.specs.Brackets.{IsJoinedTo, first_junction, sign_of, token_word}
use Rattle.ql_warnings.specs.Kept.{AreBracketWarnings, AreJoined, IsBracketWarning}
use Rattle.ql_warnings.specs.Places.{IsPlaceOf, ends_line, in_line}
use Rattle.ql_warnings.specs.Tokens.{AreTokensOf}
use Rattle.ql_warnings.specs.declared.unbracketed.Sign.TheVariants.{Arrow}
use Rattle.ql_warnings.specs.declared.warning.Place.{Place}
use Rattle.ql_warnings.specs.declared.warning.Warning.{Warning}
use Rattle.ql_warnings.specs.declared.warning.Warning.TheVariants.{Unbracketed}

-- an offset has one line and one column
one_place : (source : List ℕ) (a b : Place) → IsPlaceOf source a → IsPlaceOf source b → a.at ≡ b.at → a ≡ b
one_place source a b x y same =
    let made : ℕ → ℕ → ℕ → Place = λ at line column. record { at = at; line = line; column = column } in
    let line : a.line ≡ b.line = x.line ∙ ap (λ at. suc (count_by ends_line (take at source))) same ∙ sym y.line in
    let column : a.column ≡ b.column = x.column ∙ ap (λ at. suc (prefix_len in_line (reverse (take at source)))) same ∙ sym y.column in
    ap (λ at. made at a.line a.column) same ∙ ap (λ l. made b.at l a.column) line ∙ ap (λ c. made b.at b.line c) column

module _ (source : List ℕ) (start : ℕ) (tokens : List Token) (k : ℕ) where
  one_joint : (a b : ℕ) → IsJoinedTo source start tokens k a → IsJoinedTo source start tokens k b → a ≡ b
  one_joint a b x y = same_Some a b (sym x.joins ∙ y.joins)

  -- ---- the offset

  pub begins_sooner : (token : Token) → slice_get tokens k ≡ Some token → token.from < start → (at : ℕ) → IsJoinedTo source start tokens k at → ⊥
  begins_sooner token here sooner at is =
      let later : start ≤ token.from = subst (λ (t : Token). start ≤ t.from) (same_Some is.arrow token (sym is.there ∙ here)) is.behind in
      absurd (omega arith)

  pub points_not : (token : Token) → slice_get tokens k ≡ Some token → (sign_of (token_word source token) ≡ Arrow → ⊥) → (at : ℕ) → IsJoinedTo source start tokens k at → ⊥
  points_not token here other at is = other (subst (λ (t : Token). sign_of (token_word source t) ≡ Arrow) (same_Some is.arrow token (sym is.there ∙ here)) is.is_arrow)

  pub joined_exact : (token : Token) (r : Option ℕ) → slice_get tokens k ≡ Some token → sign_of (token_word source token) ≡ Arrow → start ≤ token.from → r ≡ first_junction source 0 None (drop (k + 1) tokens)
      → MatchOption r ((at : ℕ) → IsJoinedTo source start tokens k at → ⊥) (IsJoinedTo source start tokens k)
  joined_exact token None here is behind found = λ at joins.
      let none : ◌≡◌ {A = Option ℕ} None (Some at) = found ∙ ap (λ n. first_junction source 0 None (drop n tokens)) (add-one k) ∙ joins.joins in
      absurd (cc)
  joined_exact token (Some at) here is behind found =
      record { arrow = token; there = here; is_arrow = is; behind = behind; joins = sym (found ∙ ap (λ n. first_junction source 0 None (drop n tokens)) (add-one k)) }

  -- ---- the place

  pub joined_placed : (at end : ℕ) (r : Option Place) → IsJoinedTo source start tokens k at
      → MatchOption r ((end ≤ at) ⊎ (length source ≤ at)) (λ place. IsPlaceOf source place × (place.at ≡ at) × (at < end))
      → MatchOption r ((place : Place) → IsPlaceOf source place → IsJoinedTo source start tokens k place.at → place.at < end → ⊥)
      (λ place. IsPlaceOf source place × IsJoinedTo source start tokens k place.at × (place.at < end))
  joined_placed at end None joins past = λ place is other less.
      let same : place.at ≡ at = one_joint place.at at other joins in
      elim past [ inl over ↦ absurd (omega arith) | inr over ↦ absurd (omega (arith, is.within)) ]
  joined_placed at end (Some place) joins placed = (placed.0, subst (IsJoinedTo source start tokens k) (sym placed.1) joins, omega (arith, placed.1, placed.2))

  -- ---- the warnings

  module _ (end : ℕ) where
    pub joined_pushed : (place : Place) (old new : List Warning) → Lexes 0 source (Ok tokens) → IsPlaceOf source place × IsJoinedTo source start tokens k place.at × (place.at < end)
        → new ≡ old ++ Unbracketed place ∷ [] → AreJoined source start end tokens k old → AreJoined source start end tokens (k + 1) new
    joined_pushed place old new lexed is longer are = record {
      sound = subst (All (IsBracketWarning source start end)) (sym longer) (All-push (IsBracketWarning source start end) old (Unbracketed place) are.sound (is.0, (tokens, lexed, k, is.1), is.2));
      complete = λ n other less placed joins within. subst (λ (ws : List Warning). Contains ws (Unbracketed other)) (sym longer) (elim (cases_lt n k) [
        | inl before ↦ Contains-append_left old (Unbracketed place ∷ []) (Unbracketed other) (are.complete n other before placed joins within)
        | inr after ↦
            let same : n ≡ k = omega arith in
            let here : other.at ≡ place.at = one_joint other.at place.at (subst (λ m. IsJoinedTo source start tokens m other.at) same joins) is.1 in
            subst (λ (w : Place). Contains (old ++ Unbracketed place ∷ []) (Unbracketed w)) (sym (one_place source other place placed is.0 here)) (Contains-push old (Unbracketed place))
      ]);
    }

    pub joined_skipped : (ws : List Warning) → ((place : Place) → IsPlaceOf source place → IsJoinedTo source start tokens k place.at → place.at < end → ⊥)
        → AreJoined source start end tokens k ws → AreJoined source start end tokens (k + 1) ws
    joined_skipped ws none are = record {
      sound = are.sound;
      complete = λ n place less placed joins within. elim (cases_lt n k) [
        | inl before ↦ are.complete n place before placed joins within
        | inr after ↦ let same : n ≡ k = omega arith in absurd (none place placed (subst (λ m. IsJoinedTo source start tokens m place.at) same joins) within)
      ];
    }

-- no place but before an end and before the source's
pub place_exact : (source : List ℕ) (at end : ℕ) (r : Option Place) → at < end → MatchOption r (length source ≤ at) (λ place. IsPlaceOf source place × (place.at ≡ at))
    → MatchOption r ((end ≤ at) ⊎ (length source ≤ at)) (λ place. IsPlaceOf source place × (place.at ≡ at) × (at < end))
place_exact source at end None less past = inr past
place_exact source at end (Some place) less is = (is.0, is.1, less)

-- ---- the tokens

pub lexed_at : (source : List ℕ) (tokens : List Token) (k : ℕ) → AreTokensOf source tokens → k < length tokens → Lexes 0 source (Ok tokens) × AreSpans 0 (length source) tokens
lexed_at source tokens k (inl lexed) less = lexed
lexed_at source tokens k (inr none) less =
    let nowhere : k < 0 = subst (λ (ts : List Token). k < length ts) none.0 less in
    absurd (omega arith)

-- ---- the whole

module _ (one : (text : List ℕ) (r s : Result (List Token) LexFault) → Lexes 0 text r → Lexes 0 text s → r ≡ s) (source : List ℕ) (start end : ℕ) where
  pub all_joined : (tokens : List Token) (k : ℕ) (ws : List Warning) → Lexes 0 source (Ok tokens) → length tokens ≤ k → AreJoined source start end tokens k ws → AreBracketWarnings source start end ws
  all_joined tokens k ws lexed past are = record {
    sound = are.sound;
    complete = λ place placed joins less.
        let same : ◌≡◌ {A = Result (List Token) LexFault} (Ok joins.0) (Ok tokens) = one source (Ok joins.0) (Ok tokens) joins.1 lexed in
        let tokens_same : joins.0 ≡ tokens = cc in
        let here : IsJoinedTo source start tokens joins.2 place.at = subst (λ (ts : List Token). IsJoinedTo source start ts joins.2 place.at) tokens_same joins.3 in
        are.complete joins.2 place (omega (arith, slice_get_within tokens joins.2 here.arrow here.there)) placed here less;
  }

  pub all_bracketed : (tokens : List Token) (k : ℕ) (ws : List Warning) → AreTokensOf source tokens → length tokens ≤ k → AreJoined source start end tokens k ws → AreBracketWarnings source start end ws
  all_bracketed tokens k ws (inl lexed) past are = all_joined tokens k ws lexed.0 past are
  all_bracketed tokens k ws (inr none) past are = record {
    sound = are.sound;
    complete = λ place placed joins less. absurd (none.1 joins.0 joins.1);
  }
