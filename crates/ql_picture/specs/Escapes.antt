-- How a byte of a text is written in XML.
use Rattle.std.specs.Prelude.{ℕ, Bool, ◌==◌, ◌&&◌, nat_le, if◌then◌else◌, List, [], ◌∷◌, codes}

-- printable ASCII
unfoldable pub is_printable : ℕ → Bool
is_printable b = nat_le 32 b && nat_le b 126

abbrev pub escaped : ℕ → List ℕ
escaped b =
    if b == 38 then codes "&amp;"
    else (if b == 60 then codes "&lt;"
    else (if b == 62 then codes "&gt;"
    else (if is_printable b then b ∷ []
    else codes "?")))
