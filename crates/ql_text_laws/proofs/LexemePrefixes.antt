-- The lexemes of tokens: their bytes, and lists of them in two parts.
use Rattle.std.proofs.Common.{◌≡◌, ℕ, ◌+◌, ◌-◌, List, [], ◌∷◌, ◌++◌, length, map, slice_range, refl, ap, ◌∙◌, arith}
use Rattle.std.proofs.Math.Seq.{take-append_seam, drop-append_seam}
use Rattle.ql_lex.specs.declared.token.Token.{Token}
use Rattle.ql_lex.specs.declared.token.TokenKind.{TokenKind}
use Rattle.ql_grammar.specs.Tokens.{Lexeme, Marked, lexemes, lexeme_of, terminal_of}

-- what stands after so many bytes
pub part_at : (before w rest bytes : List ℕ) → bytes ≡ before ++ (w ++ rest) → slice_range bytes (length before) (length before + length w) ≡ w
part_at before w rest bytes is =
    let n : length before + length w - length before ≡ length w = omega arith in
    rw (is, drop-append_seam before (w ++ rest), n) (take-append_seam w rest)

pub lexeme_at : (before w rest : List ℕ) (what : TokenKind) (at n : ℕ) → at ≡ length before → length w ≡ n → lexeme_of (before ++ (w ++ rest)) (record { what = what; from = at; to = at + n }) ≡ record { what = terminal_of what w; text = w; at = at }
lexeme_at before w rest what at n here len = rw (here, ← len, part_at before w rest (before ++ (w ++ rest)) refl) refl

-- tokens whose lexemes are two lists are two lists of tokens
pub record Parted (bytes : List ℕ) (tokens : List Token) (ls ms : List Lexeme) : Type 0 where
  pub first : List Token
  pub second : List Token
  pub are : tokens ≡ first ++ second
  pub left : map (lexeme_of bytes) first ≡ ls
  pub right : map (lexeme_of bytes) second ≡ ms

pub parted : (bytes : List ℕ) (tokens : List Token) (ls ms : List Lexeme) → map (lexeme_of bytes) tokens ≡ ls ++ ms → Parted bytes tokens ls ms
parted bytes tokens [] ms is = record { first = []; second = tokens; are = refl; left = refl; right = is }
parted bytes [] (l ∷ ls) ms is = cc
parted bytes (t ∷ tokens) (l ∷ ls) ms is =
    let first : lexeme_of bytes t ≡ l = cc in
    let others : map (lexeme_of bytes) tokens ≡ ls ++ ms = cc in
    let next = parted bytes tokens ls ms others in
    record {
      first = t ∷ next.first;
      second = next.second;
      are = ap (λ ts. t ∷ ts) next.are;
      left = ap (λ k. k ∷ map (lexeme_of bytes) next.first) first ∙ ap (λ ks. l ∷ ks) next.left;
      right = next.right;
    }

-- tokens in their roles, likewise
pub record MarksParted (marks : List Marked) (ls : List Lexeme) : Type 0 where
  pub first : List Marked
  pub second : List Marked
  pub are : marks ≡ first ++ second
  pub left : lexemes first ≡ ls

pub marks_parted : (marks : List Marked) (ls ms : List Lexeme) → lexemes marks ≡ ls ++ ms → MarksParted marks ls
marks_parted marks [] ms is = record { first = []; second = marks; are = refl; left = refl }
marks_parted [] (l ∷ ls) ms is = cc
marks_parted (m ∷ marks) (l ∷ ls) ms is =
    let first : m.lexeme ≡ l = cc in
    let others : lexemes marks ≡ ls ++ ms = cc in
    let next = marks_parted marks ls ms others in
    record {
      first = m ∷ next.first;
      second = next.second;
      are = ap (λ ts. m ∷ ts) next.are;
      left = ap (λ k. k ∷ lexemes next.first) first ∙ ap (λ ks. l ∷ ks) next.left;
    }
