-- Tokens lie within their source, and what joins two `=>` among them.
use Rattle.std.proofs.Common.{◌≡◌, ℕ, zero, suc, ◌+◌, ◌<◌, ◌≤◌, List, [], ◌∷◌, Option, None, Some, slice_get, drop, sym, ap, subst, ◌∙◌, add-one, arith}
use Rattle.std.specs.Option.{option_map_or}
use Rattle.std.proofs.lemmas.Option.{same_Some}
use Rattle.ql_lex.specs.Tokens.{AreSpans}
use Rattle.ql_lex.specs.declared.token.Token.{Token}
use Rattle.ql_warnings.specs.Brackets.{deeper, first_junction, met, sign_of, reported, token_word}
use Rattle.ql_warnings.specs.declared.unbracketed.Sign.{Sign}

ends_after : (at end : ℕ) (ts : List Token) → AreSpans at end ts → at ≤ end
ends_after at end [] h = h
ends_after at end (t ∷ ts) h = omega (arith, h.0, h.1, ends_after t.to end ts h.2)

pub ends_within : (at end : ℕ) (ts : List Token) (k : ℕ) (t : Token) → AreSpans at end ts → slice_get ts k ≡ Some t → t.to ≤ end
ends_within at end [] k t h e = absurd (cc)
ends_within at end (u ∷ ts) zero t h e = subst (λ (v : Token). v.to ≤ end) (same_Some u t e) (ends_after u.to end ts h.2)
ends_within at end (u ∷ ts) (suc k) t h e = ends_within u.to end ts k t h.2 e

pub begins_before : (at end : ℕ) (ts : List Token) (k : ℕ) (t : Token) → AreSpans at end ts → slice_get ts k ≡ Some t → t.from < t.to
begins_before at end [] k t h e = absurd (cc)
begins_before at end (u ∷ ts) zero t h e = subst (λ (v : Token). v.from < v.to) (same_Some u t e) h.1
begins_before at end (u ∷ ts) (suc k) t h e = begins_before u.to end ts k t h.2 e

-- the tokens from one on
from_one : (ts : List Token) (k : ℕ) (t : Token) → slice_get ts k ≡ Some t → drop k ts ≡ t ∷ drop (suc k) ts
from_one [] k t e = absurd (cc)
from_one (u ∷ ts) zero t e = ap (λ v. v ∷ ts) (same_Some u t e)
from_one (u ∷ ts) (suc k) t e = from_one ts k t e

-- the search goes on, or ends
pub goes_on : (source : List ℕ) (ts : List Token) (k : ℕ) (t : Token) (sign : Sign) (depth inside : ℕ) (found next r : Option ℕ) → slice_get ts k ≡ Some t → sign ≡ sign_of (token_word source t)
    → Some inside ≡ deeper sign depth → next ≡ met sign depth t.from found → r ≡ first_junction source inside next (drop (k + 1) ts) → r ≡ first_junction source depth found (drop k ts)
goes_on source ts k t sign depth inside found next r at is deep on same =
    same ∙ ap (λ m. first_junction source inside next (drop m ts)) (add-one k) ∙ ap (λ n. first_junction source inside n (drop (suc k) ts)) on
    ∙ ap (λ o. option_map_or (λ d. first_junction source d (met sign depth t.from found) (drop (suc k) ts)) o (reported sign found)) deep
    ∙ ap (λ s. option_map_or (λ d. first_junction source d (met s depth t.from found) (drop (suc k) ts)) (deeper s depth) (reported s found)) is
    ∙ sym (ap (first_junction source depth found) (from_one ts k t at))

pub ends : (source : List ℕ) (ts : List Token) (k : ℕ) (t : Token) (sign : Sign) (depth : ℕ) (found r : Option ℕ) → slice_get ts k ≡ Some t → sign ≡ sign_of (token_word source t)
    → None ≡ deeper sign depth → r ≡ reported sign found → r ≡ first_junction source depth found (drop k ts)
ends source ts k t sign depth found r at is deep same =
    same
    ∙ ap (λ o. option_map_or (λ d. first_junction source d (met sign depth t.from found) (drop (suc k) ts)) o (reported sign found)) deep
    ∙ ap (λ s. option_map_or (λ d. first_junction source d (met s depth t.from found) (drop (suc k) ts)) (deeper s depth) (reported s found)) is
    ∙ sym (ap (first_junction source depth found) (from_one ts k t at))
