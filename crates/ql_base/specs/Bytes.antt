use Rattle.std.specs.Prelude.{ℕ, ◌≡◌, Bool, false, ◌&&◌, ◌||◌, ◌==◌, nat_le, not, List, [], ◌∷◌}

-- space, tab, line feed and carriage return
unfoldable pub is_blank : ℕ → Bool
is_blank b = (b == 32) || (b == 9) || (b == 10) || (b == 13)

-- `a` to `z`
unfoldable pub is_lower : ℕ → Bool
is_lower b = nat_le 97 b && nat_le b 122

-- `0` to `9`
unfoldable pub is_digit : ℕ → Bool
is_digit b = nat_le 48 b && nat_le b 57

-- what a name may continue with: a lower-case letter, a digit or `_`
unfoldable pub is_name_byte : ℕ → Bool
is_name_byte b = nat_le 97 b && nat_le b 122 || nat_le 48 b && nat_le b 57 || (b == 95)

-- what may not directly follow a number: a letter of either case, a digit or `_`
unfoldable pub is_word_byte : ℕ → Bool
is_word_byte b = nat_le 97 b && nat_le b 122 || nat_le 65 b && nat_le b 90 || nat_le 48 b && nat_le b 57 || (b == 95)

-- what a text may contain: printable ASCII except `"` and `\`
unfoldable pub is_text_byte : ℕ → Bool
is_text_byte b = nat_le 32 b && nat_le b 126 && not (b == 34) && not (b == 92)

-- whether a text begins with a byte that passes the test
abbrev pub begins : (ℕ → Bool) → List ℕ → Bool
begins test [] = false
begins test (b ∷ rest) = test b

-- the text ends here, or its next byte fails the test
abbrev pub StopsBefore : (ℕ → Bool) → List ℕ → Type 0
StopsBefore test text = begins test text ≡ false
