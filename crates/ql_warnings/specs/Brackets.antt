-- Statements next to each other without brackets: `a => b /\ c => d`.
use Rattle.std.specs.Prelude.{ℕ, zero, suc, ◌-◌, ◌≡◌, ◌≤◌, Bool, ◌||◌, List, [], ◌∷◌, Option, None, Some, Ok, codes, drop, slice_get, take, if◌then◌else◌}
use Rattle.std.specs.Option.{option_map_or}
use Rattle.std.specs.Str.{bytes_eq}
use Rattle.ql_lex.specs.Tokens.{Lexes}
use Rattle.ql_lex.specs.declared.token.Token.{Token}
use Rattle.ql_warnings.specs.declared.unbracketed.Sign.{Sign}
use Rattle.ql_warnings.specs.declared.unbracketed.Sign.TheVariants.{Opens, Closes, Arrow, Joins, Ends, Plain}

-- the bytes of a token
abbrev pub token_word : List ℕ → Token → List ℕ
token_word source t = take (t.to - t.from) (drop t.from source)

-- brackets of each sort, and what joins two statements
abbrev pub opens : List ℕ → Bool
opens w = bytes_eq w (codes "(") || (bytes_eq w (codes "[") || bytes_eq w (codes "{"))

abbrev pub closes_bracket : List ℕ → Bool
closes_bracket w = bytes_eq w (codes ")") || (bytes_eq w (codes "]") || bytes_eq w (codes "}"))

abbrev pub joins : List ℕ → Bool
joins w = bytes_eq w (codes "/\\") || bytes_eq w (codes "\\/")

-- what a token does in a contract
abbrev pub sign_of : List ℕ → Sign
sign_of w =
    if opens w then Opens else (if closes_bracket w then Closes else (if bytes_eq w (codes "=>") then Arrow else (if joins w then Joins else (if bytes_eq w (codes ";") then Ends else Plain))))

-- the depth of brackets after a token, where the search for the next `=>` outside them goes on
abbrev pub deeper : Sign → ℕ → Option ℕ
deeper Opens depth = Some (suc depth)
deeper Closes zero = None
deeper Closes (suc depth) = Some depth
deeper Arrow zero = None
deeper Arrow (suc depth) = Some (suc depth)
deeper Joins depth = Some depth
deeper Ends depth = None
deeper Plain depth = Some depth

-- the first `/\` or `\/` outside brackets, after a token
abbrev pub met : Sign → ℕ → ℕ → Option ℕ → Option ℕ
met Joins zero from None = Some from
met sign depth from found = found

-- what was met, if the search ends at an `=>`
abbrev pub reported : Sign → Option ℕ → Option ℕ
reported Arrow found = found
reported sign found = None

-- the offset of the first `/\` or `\/` before the next `=>`, both outside brackets, if that comes before the end of the
-- enclosing brackets and of the contract
abbrev pub first_junction : List ℕ → ℕ → Option ℕ → List Token → Option ℕ
first_junction source depth found [] = None
first_junction source depth found (t ∷ ts) =
    option_map_or (λ d. first_junction source d (met (sign_of (token_word source t)) depth t.from found) ts) (deeper (sign_of (token_word source t)) depth) (reported (sign_of (token_word source t)) found)

-- the token at an index is an `=>` at or after an offset of the source, and this is the offset of the `/\` or `\/`
-- between it and the next `=>`
pub record IsJoinedTo (source : List ℕ) (start : ℕ) (tokens : List Token) (k at : ℕ) : Type 0 where
  pub arrow : Token
  pub there : slice_get tokens k ≡ Some arrow
  pub is_arrow : sign_of (token_word source arrow) ≡ Arrow
  pub behind : start ≤ arrow.from
  pub joins : first_junction source 0 None (drop (suc k) tokens) ≡ Some at

-- the `/\` or `\/` there is between two `=>`, the first of them at or after an offset of the source
abbrev pub IsUnbracketed : List ℕ → ℕ → ℕ → Type 0
IsUnbracketed source start at = (tokens : List Token) × Lexes 0 source (Ok tokens) × (k : ℕ) × IsJoinedTo source start tokens k at
