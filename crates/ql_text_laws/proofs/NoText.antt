-- With an unexpected token, and a line feed after it, no text of the grammar begins.
use Rattle.std.proofs.Common.{◌≡◌, ◌<◌, ℕ, ◌+◌, List, [], ◌∷◌, ◌++◌, Result, Ok, Err, ◌⊎◌, inl, inr, length, take, drop, map, refl, sym, ap, ◌∙◌, subst, arith, append_assoc, length-append}
use Rattle.std.proofs.Math.Seq.{take-append_seam, drop-append_seam}
use Rattle.std.proofs.lemmas.List.{map-append}
use Rattle.ql_lex.specs.Starts.{StartsWith}
use Rattle.ql_lex.specs.Tokens.{Lexes, ends, gap, token, no_token, too_long, no_number, preceded}
use Rattle.ql_lex.specs.declared.start.Start.TheVariants.{Lexeme as LexemeFront}
use Rattle.ql_lex.specs.declared.token.Token.{Token}
use Rattle.ql_lex.specs.declared.token.LexFault.{LexFault}
use Rattle.ql_grammar.specs.Limits.{Unexpected}
use Rattle.ql_grammar.specs.Texts.{IsTextOf, Begins}
use Rattle.ql_grammar.specs.Tokens.{Lexeme, Marked, lexemes, lexeme_of}
use Rattle.ql_parse.specs.Readers.{lexemes_of}
use Rattle.ql_parse.specs.Parsing.{IsFaultAs}
use Rattle.ql_text_laws.specs.Printed.{IsInGrammarAs}
use Rattle.ql_text_laws.specs.Prefixes.{EndsTexts}
use Rattle.ql_text_laws.proofs.LexemePrefixes.{lexeme_at, Parted, parted, marks_parted}
use Rattle.ql_text_laws.proofs.Cut.{Cut, Start-of, StopsAlike, cut, cut_stops, token_front, stops_at_line}
use Rattle.ql_text_laws.proofs.Beginnings.{IsStuck, IsEnded, unexpected_at}

abbrev Answer : Type 0
Answer = Result (List Token) LexFault

abbrev pub HasOne : Type 0
HasOne = (text : List ℕ) (r s : Answer) → Lexes 0 text r → Lexes 0 text s → r ≡ s

abbrev pub HasSome : Type 0
HasSome = (text : List ℕ) → (r : Answer) × Lexes 0 text r

-- a text has an answer at each offset if it has one at some
moved : {at : ℕ} {text : List ℕ} {r : Answer} → Lexes at text r → (by : ℕ) → (s : Answer) × Lexes (at + by) text s
moved ends by = (Ok [], ends)
moved (gap {at = at} {n = n} {text = text} front rest) by =
    let next = moved rest by in
    let same : at + n + by ≡ at + by + n = omega arith in
    (next.0, gap front (subst (λ i. Lexes i (drop n text) next.0) same next.1))
moved (token {at = at} {n = n} {what = what} {text = text} front rest) by =
    let next = moved rest by in
    let same : at + n + by ≡ at + by + n = omega arith in
    (_, token front (subst (λ i. Lexes i (drop n text) next.0) same next.1))
moved (no_token front) by = (_, no_token front)
moved (too_long front) by = (_, too_long front)
moved (no_number front) by = (_, no_number front)

-- tokens that are some, another one, and then an answer's
tokens_end : (tokens ts : List Token) (u : Token) (r : Answer) → ◌≡◌ {A = Answer} (Ok tokens) (preceded ts (preceded (u ∷ []) r)) → (us : List Token) × (tokens ≡ ts ++ u ∷ us)
tokens_end tokens ts u (Ok us) is = (us, cc)
tokens_end tokens ts u (Err f) is = cc

token_is : (u : Token) (at n : ℕ) → u.from ≡ at → u.to ≡ at + n → record { what = u.what; from = at; to = at + n } ≡ u
token_is u at n from to = rw (← to, ← from) refl

-- the first of tokens whose lexemes begin so
record FirstOf (bytes : List ℕ) (ts : List Token) (l : Lexeme) : Type 0 where
  pub first : Token
  pub others : List Token
  pub are : ts ≡ first ∷ others
  pub is : lexeme_of bytes first ≡ l

first_of : (bytes : List ℕ) (ts : List Token) (l : Lexeme) (ls : List Lexeme) → map (lexeme_of bytes) ts ≡ l ∷ ls → FirstOf bytes ts l
first_of bytes [] l ls is = cc
first_of bytes (t ∷ ts) l ls is = record { first = t; others = ts; are = refl; is = cc }

-- a text of the grammar can't begin with tokens that none begins with
module _ {A : Type 0} (Reads : List Marked → List Marked → A → Type 0) where
  none_begins : (ls ks : List Lexeme) (marks : List Marked) (a : A) → lexemes marks ≡ ls ++ ks → Reads marks [] a → ((ms : List Marked) → lexemes ms ≡ ls → Begins (IsTextOf Reads) ms → ⊥) → ⊥
  none_begins ls ks marks a are reads none =
      let p = marks_parted marks ls ks are in
      none p.first p.left (p.second, (a, subst (λ ms. Reads ms [] a) p.are reads))

  -- the bytes themselves
  pub not_itself : HasOne → (bytes : List ℕ) (at : ℕ) → IsFaultAs Reads bytes (Unexpected at) → (a : A) → IsInGrammarAs Reads bytes a → ⊥
  not_itself one bytes at fault a text = by_case (unexpected_at at fault.first refl)
    where
      same : text.tokens ≡ fault.tokens
      same = let e : ◌≡◌ {A = Answer} (Ok text.tokens) (Ok fault.tokens) = one bytes (Ok text.tokens) (Ok fault.tokens) text.lexes fault.lexes in cc

      are : lexemes text.marks ≡ map (lexeme_of bytes) fault.tokens
      are = text.are ∙ ap (map (lexeme_of bytes)) same

      by_case : IsStuck Reads (map (lexeme_of bytes) fault.tokens) at ⊎ IsEnded Reads (map (lexeme_of bytes) fault.tokens) (length bytes) at → ⊥
      by_case (inl stuck) =
          let split : lexemes text.marks ≡ (lexemes stuck.before ++ stuck.token ∷ []) ++ stuck.rest = are ∙ stuck.are ∙ sym (append_assoc (lexemes stuck.before) (stuck.token ∷ []) stuck.rest) in
          none_begins (lexemes stuck.before ++ stuck.token ∷ []) stuck.rest text.marks a split text.reads stuck.none
      by_case (inr ended) = ended.none text.marks are (a, text.reads)

  -- the bytes up to the end of an unexpected token, and a line feed
  module _ (some : HasSome) (one : HasOne) (bytes : List ℕ) (at : ℕ) (fault : IsFaultAs Reads bytes (Unexpected at)) (stuck : IsStuck Reads (lexemes_of bytes fault.tokens) at) where
    parts : Parted bytes fault.tokens (lexemes stuck.before) (stuck.token ∷ stuck.rest)
    parts = parted bytes fault.tokens (lexemes stuck.before) (stuck.token ∷ stuck.rest) stuck.are

    last : FirstOf bytes parts.second stuck.token
    last = first_of bytes parts.second stuck.token stuck.rest parts.right

    front : Cut [] bytes parts.first (last.first ∷ last.others)
    front = cut fault.lexes [] refl parts.first (last.first ∷ last.others) (ap Ok (parts.are ∙ ap (λ us. parts.first ++ us) last.are))

    abbrev len : ℕ
    len = front.place.len

    word : Start-of front.post (LexemeFront last.first.what len) len
    word = token_front front.place.front

    from_start : 0 + length front.pre ≡ length front.pre
    from_start = omega arith

    starts : last.first.from ≡ length front.pre
    starts = front.place.from ∙ from_start

    ends_at : last.first.to ≡ length front.pre + len
    ends_at = front.place.to ∙ ap (λ i. i + len) from_start

    at_is : length front.pre ≡ at
    at_is = sym starts ∙ ap (λ (l : Lexeme). l.at) last.is ∙ stuck.place

    abbrev whole : List ℕ → List ℕ
    whole more = front.pre ++ (word.bytes ++ 10 ∷ more)

    token_lexes : (more : List ℕ) (s : Answer) → Lexes (length front.pre + len) (10 ∷ more) s → Lexes (length front.pre) (word.bytes ++ 10 ∷ more) (preceded (last.first ∷ []) s)
    token_lexes more s h =
        let tail : 10 ∷ more ≡ drop len (word.bytes ++ 10 ∷ more) = subst (λ i. 10 ∷ more ≡ drop i (word.bytes ++ 10 ∷ more)) word.len (sym (drop-append_seam word.bytes (10 ∷ more))) in
        let behind = subst (λ t. Lexes (length front.pre + len) t s) tail h in
        subst (λ (u : Token). Lexes (length front.pre) (word.bytes ++ 10 ∷ more) (preceded (u ∷ []) s)) (token_is last.first (length front.pre) len starts ends_at)
        (token (word.again (10 ∷ more) (stops_at_line word.rest more)) behind)

    whole_lexes : (more : List ℕ) → (s : Answer) × Lexes 0 (whole more) (preceded parts.first (preceded (last.first ∷ []) s))
    whole_lexes more =
        let tail = moved (some (10 ∷ more)).1 (length front.pre + len) in
        let there : 0 + (length front.pre + len) ≡ length front.pre + len = omega arith in
        let behind = token_lexes more tail.0 (subst (λ i. Lexes i (10 ∷ more) tail.0) there tail.1) in
        let alike : StopsAlike front.post (word.bytes ++ 10 ∷ more) = subst (λ t. StopsAlike t (word.bytes ++ 10 ∷ more)) (sym word.is) (cut_stops word.bytes word.rest (10 ∷ more) (stops_at_line word.rest more)) in
        (tail.0, front.lexes (word.bytes ++ 10 ∷ more) (preceded (last.first ∷ []) tail.0) alike (subst (λ i. Lexes i (word.bytes ++ 10 ∷ more) (preceded (last.first ∷ []) tail.0)) (sym from_start) behind))

    last_same : (more : List ℕ) → lexeme_of (whole more) last.first ≡ stuck.token
    last_same more =
        let t : Token = record { what = last.first.what; from = length front.pre; to = length front.pre + len } in
        let same : t ≡ last.first = token_is last.first (length front.pre) len starts ends_at in
        let text : bytes ≡ front.pre ++ (word.bytes ++ word.rest) = front.is ∙ ap (λ t. front.pre ++ t) word.is in
        ap (λ (u : Token). lexeme_of (whole more) u) (sym same)
        ∙ lexeme_at front.pre word.bytes (10 ∷ more) last.first.what (length front.pre) len refl word.len
        ∙ sym (lexeme_at front.pre word.bytes word.rest last.first.what (length front.pre) len refl word.len)
        ∙ ap (λ b. lexeme_of b t) (sym text) ∙ ap (λ (u : Token). lexeme_of bytes u) same ∙ last.is

    none_whole : (more : List ℕ) (a : A) → IsInGrammarAs Reads (whole more) a → ⊥
    none_whole more a text =
        let w = whole_lexes more in
        let us = tokens_end text.tokens parts.first last.first w.0 (one (whole more) (Ok text.tokens) (preceded parts.first (preceded (last.first ∷ []) w.0)) text.lexes w.1) in
        let others = map (lexeme_of (whole more)) us.0 in
        let are : lexemes text.marks ≡ (lexemes stuck.before ++ stuck.token ∷ []) ++ others =
        text.are ∙ ap (map (lexeme_of (whole more))) us.1 ∙ map-append (lexeme_of (whole more)) parts.first (last.first ∷ us.0)
        ∙ ap (λ ls. ls ++ lexeme_of (whole more) last.first ∷ others) (sym (front.lexemes (word.bytes ++ 10 ∷ more)) ∙ parts.left)
        ∙ ap (λ (l : Lexeme). lexemes stuck.before ++ l ∷ others) (last_same more)
        ∙ sym (append_assoc (lexemes stuck.before) (stuck.token ∷ []) others) in
        none_begins (lexemes stuck.before ++ stuck.token ∷ []) others text.marks a are text.reads stuck.none

    part_is : take (at + len) bytes ≡ front.pre ++ word.bytes
    part_is =
        let text : bytes ≡ (front.pre ++ word.bytes) ++ word.rest = front.is ∙ ap (λ t. front.pre ++ t) word.is ∙ sym (append_assoc front.pre word.bytes word.rest) in
        let count : at + len ≡ length (front.pre ++ word.bytes) = omega (arith, at_is, word.len, length-append front.pre word.bytes) in
        ap (λ n. take n bytes) count ∙ ap (λ t. take (length (front.pre ++ word.bytes)) t) text ∙ take-append_seam (front.pre ++ word.bytes) word.rest

    ends_texts : EndsTexts Reads bytes at
    ends_texts = record {
      what = last.first.what;
      len = len;
      token =
          let post : front.post ≡ drop at bytes = sym (drop-append_seam front.pre front.post) ∙ ap (λ t. drop (length front.pre) t) (sym front.is) ∙ ap (λ n. drop n bytes) at_is in
          subst (λ t. StartsWith t (LexemeFront last.first.what len)) post front.place.front;
      none = λ begins.
          let more = begins.0 in
          let text : (take (at + len) bytes ++ 10 ∷ []) ++ more ≡ whole more = ap (λ t. (t ++ 10 ∷ []) ++ more) part_is ∙ append_assoc (front.pre ++ word.bytes) (10 ∷ []) more ∙ append_assoc front.pre word.bytes (10 ∷ more) in
          none_whole more begins.1 (subst (λ t. IsInGrammarAs Reads t begins.1) text begins.2);
    }

  pub token_ends : HasSome → HasOne → (bytes : List ℕ) (at : ℕ) → IsFaultAs Reads bytes (Unexpected at) → at < length bytes → EndsTexts Reads bytes at
  token_ends some one bytes at fault less = by_case (unexpected_at at fault.first refl)
    where
      by_case : IsStuck Reads (lexemes_of bytes fault.tokens) at ⊎ IsEnded Reads (lexemes_of bytes fault.tokens) (length bytes) at → EndsTexts Reads bytes at
      by_case (inl stuck) = ends_texts some one bytes at fault stuck
      by_case (inr ended) = absurd (omega (arith, ended.place))
