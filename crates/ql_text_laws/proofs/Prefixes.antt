-- The bytes before a first fault are a prefix of a text of the grammar.
use Rattle.std.proofs.Common.{◌≡◌, ◌≤◌, ℕ, ◌+◌, List, [], ◌∷◌, ◌++◌, Ok, length, take, map, refl, sym, ap, ◌∙◌, subst, arith, append-nil, length-append}
use Rattle.std.proofs.Math.Seq.{take-append_seam}
use Rattle.std.proofs.lemmas.List.{map-append}
use Rattle.ql_lex.specs.Tokens.{Lexes}
use Rattle.ql_lex.specs.declared.token.Token.{Token}
use Rattle.ql_grammar.specs.Limits.{Fault}
use Rattle.ql_grammar.specs.Table.{Value, Part}
use Rattle.ql_grammar.specs.Tokens.{Lexeme, Marked, lexemes, lexeme_of}
use Rattle.ql_grammar.proofs.Laws.{IsWhole, lexemes_append}
use Rattle.ql_parse.specs.Parsing.{IsFaultAs}
use Rattle.ql_text_laws.specs.Printed.{IsInGrammarAs}
use Rattle.ql_text_laws.specs.Prefixes.{offset_of, BeginsText}
use Rattle.ql_text_laws.proofs.LexemePrefixes.{Parted, parted}
use Rattle.ql_text_laws.proofs.Cut.{Cut, IsBefore, cut, stops_at_line}
use Rattle.ql_text_laws.proofs.Continued.{lines_of, tokens_of, marks_of, lines_lex, lines_lexemes}
use Rattle.ql_text_laws.proofs.Beginnings.{StartsAt, Begun, fault_begun, Continued, continued}

-- a cut before these tokens is at the offset where they start
place_of : (bytes pre post : List ℕ) (ts : List Token) (ls : List Lexeme) (at : ℕ) → bytes ≡ pre ++ post → map (lexeme_of bytes) ts ≡ ls → IsBefore (length pre) post ts → StartsAt ls (length bytes) at → length pre ≡ at
place_of bytes pre post [] [] at is are before starts =
    let whole : bytes ≡ pre = is ∙ ap (λ t. pre ++ t) before ∙ append-nil pre in
    ap length (sym whole) ∙ starts
place_of bytes pre post [] (l ∷ ls) at is are before starts = cc
place_of bytes pre post (t ∷ ts) [] at is are before starts = cc
place_of bytes pre post (t ∷ ts) (l ∷ ls) at is are before starts =
    let first : lexeme_of bytes t ≡ l = cc in
    sym before.from ∙ ap (λ (k : Lexeme). k.at) first ∙ starts

module _ {A : Type 0} {p : Part} {value : A → Value} {Reads : List Marked → List Marked → A → Type 0} (w : IsWhole p value Reads) (bytes : List ℕ) (f : Fault) (fault : IsFaultAs Reads bytes f) where
  begun : Begun Reads (map (lexeme_of bytes) fault.tokens) (length bytes) (offset_of f)
  begun = fault_begun fault.first

  parts : Parted bytes fault.tokens (lexemes begun.before) begun.rest
  parts = parted bytes fault.tokens (lexemes begun.before) begun.rest begun.are

  front : Cut [] bytes parts.first parts.second
  front = cut fault.lexes [] refl parts.first parts.second (ap Ok parts.are)

  from_start : 0 + length front.pre ≡ length front.pre
  from_start = omega arith

  at_offset : length front.pre ≡ offset_of f
  at_offset = place_of bytes front.pre front.post parts.second begun.rest (offset_of f) front.is parts.right (subst (λ at. IsBefore at front.post parts.second) from_start front.place) begun.place

  pub inside : offset_of f ≤ length bytes
  inside = let whole : length bytes ≡ length (front.pre ++ front.post) = ap length front.is in omega (arith, at_offset, whole, length-append front.pre front.post)

  goes_on : Continued Reads begun.before (length front.pre)
  goes_on = continued w begun.before begun.begins (length front.pre)

  abbrev more : List ℕ
  more = 10 ∷ lines_of goes_on.more

  abbrev tokens : List Token
  tokens = parts.first ++ tokens_of (length front.pre) goes_on.more

  lexemes_are : lexemes (begun.before ++ marks_of (length front.pre) goes_on.more) ≡ map (lexeme_of (front.pre ++ more)) tokens
  lexemes_are =
      let at = length front.pre in
      let first : lexemes begun.before ≡ map (lexeme_of (front.pre ++ more)) parts.first = sym parts.left ∙ front.lexemes more in
      let second : lexemes (marks_of at goes_on.more) ≡ map (lexeme_of (front.pre ++ more)) (tokens_of at goes_on.more) = sym (lines_lexemes goes_on.more front.pre (front.pre ++ more) at refl refl) in
      lexemes_append begun.before (marks_of at goes_on.more)
      ∙ ap (λ ls. ls ++ lexemes (marks_of at goes_on.more)) first
      ∙ ap (λ ls. map (lexeme_of (front.pre ++ more)) parts.first ++ ls) second
      ∙ sym (map-append (lexeme_of (front.pre ++ more)) parts.first (tokens_of at goes_on.more))

  text : IsInGrammarAs Reads (front.pre ++ more) goes_on.tree
  text = record {
    tokens = tokens;
    lexes = front.lexes more (Ok (tokens_of (length front.pre) goes_on.more)) (stops_at_line front.post (lines_of goes_on.more))
        (subst (λ at. Lexes at more (Ok (tokens_of (length front.pre) goes_on.more))) (sym from_start) (lines_lex goes_on.more (length front.pre)));
    marks = begun.before ++ marks_of (length front.pre) goes_on.more;
    are = lexemes_are;
    reads = goes_on.reads;
  }

  taken : take (offset_of f) bytes ≡ front.pre
  taken = ap (λ n. take n bytes) (sym at_offset) ∙ ap (λ t. take (length front.pre) t) front.is ∙ take-append_seam front.pre front.post

  pub prefix : BeginsText Reads (take (offset_of f) bytes)
  prefix = (more, goes_on.tree, subst (λ t. IsInGrammarAs Reads (t ++ more) goes_on.tree) (sym taken) text)
