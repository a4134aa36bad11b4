use Rattle.std.specs.Prelude.{ℕ, Bool, ◌&&◌, ◌||◌, ◌==◌, codes}
use Rattle.std.specs.List.{list_any}

-- the marks of one byte
unfoldable pub is_mark_byte : ℕ → Bool
is_mark_byte b = list_any (λ m. m == b) (codes "{}()[],;:.=<>+-*|&")

-- the marks of two bytes: `:=`, `=>`, `==`, `!=`, `<=`, `>=`, `/\` and `\/`
unfoldable pub is_mark_pair : ℕ → ℕ → Bool
is_mark_pair a b =
    (b == 61) && list_any (λ m. m == a) (codes ":=!<>") || (a == 61) && (b == 62) || (a == 47) && (b == 92)
    || (a == 92) && (b == 47)
