use Rattle.std.specs.Prelude.{ℕ, ◌≡◌, ◌≤◌, ◌<◌, Bool, true, false, List, [], ◌∷◌, length, slice_index, codes, bytes_eq}
use Rattle.std.specs.List.{AllPass, list_any}
use Rattle.ql_base.specs.Bytes.{is_lower, is_name_byte}

-- the reserved words, none of which is a name
unfoldable pub keywords : List (List ℕ)
keywords =
    codes "type" ∷ codes "state" ∷ codes "op" ∷ codes "contract" ∷ codes "answer" ∷ codes "emit" ∷ codes "when"
    ∷ codes "apply" ∷ codes "transaction" ∷ codes "uses" ∷ codes "forall" ∷ codes "true" ∷ codes "false"
    ∷ codes "unit" ∷ codes "empty" ∷ codes "if" ∷ codes "then" ∷ codes "else" ∷ codes "and" ∷ codes "or"
    ∷ codes "not" ∷ codes "int" ∷ codes "bool" ∷ codes "text" ∷ codes "set" ∷ codes "map" ∷ codes "cur"
    ∷ codes "txn" ∷ codes "vis" ∷ codes "so" ∷ codes "soo" ∷ codes "sameobj" ∷ codes "eq" ∷ codes "hb"
    ∷ codes "hbo" ∷ []

-- whether a word is one of them
unfoldable pub is_keyword : List ℕ → Bool
is_keyword w = list_any (λ k. bytes_eq k w) keywords

-- a lower-case letter, then lower-case letters, digits and `_`
pub record IsWord (w : List ℕ) : Type 0 where
  pub some : 0 < length w
  pub first : is_lower (slice_index w 0) ≡ true
  pub all : AllPass is_name_byte w

-- a word of at most 32 bytes that is no keyword
pub record IsName (w : List ℕ) : Type 0 where
  pub shape : IsWord w
  pub short : length w ≤ 32
  pub free : is_keyword w ≡ false
