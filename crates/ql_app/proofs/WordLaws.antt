-- Five words, one by one.
use Rattle.std.proofs.Common.{◌≡◌, List, [], ◌∷◌, length, get_or, map, refl, arith}
use Rattle.std.specs.Global.{Global}
use Rattle.std.specs.declared.string.String.{String}
use Rattle.std.specs.String.{string_bytes}

pub five-words : (words : List (String Global)) (a b c d e : String Global) → length words ≡ 5
    → a ≡ get_or words 0 a → b ≡ get_or words 1 b → c ≡ get_or words 2 c → d ≡ get_or words 3 d → e ≡ get_or words 4 e
    → map string_bytes words ≡ string_bytes a ∷ string_bytes b ∷ string_bytes c ∷ string_bytes d ∷ string_bytes e ∷ []
five-words [] a b c d e count i j k l m = absurd (omega (arith, count))
five-words (v ∷ []) a b c d e count i j k l m = absurd (omega (arith, count))
five-words (v ∷ w ∷ []) a b c d e count i j k l m = absurd (omega (arith, count))
five-words (v ∷ w ∷ x ∷ []) a b c d e count i j k l m = absurd (omega (arith, count))
five-words (v ∷ w ∷ x ∷ y ∷ []) a b c d e count i j k l m = absurd (omega (arith, count))
five-words (v ∷ w ∷ x ∷ y ∷ z ∷ []) a b c d e count i j k l m = rw (i, j, k, l, m) refl
five-words (v ∷ w ∷ x ∷ y ∷ z ∷ more ∷ rest) a b c d e count i j k l m = absurd (omega (arith, count))
