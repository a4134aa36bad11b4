use Rattle.std.specs.Prelude.{ℤ, pos, negsuc, int_lt, if◌then◌else◌}

-- the number, or the nearer end of the signed 64-bit range if it lies outside
abbrev pub saturated : ℤ → ℤ
saturated z =
    if int_lt z (negsuc 9223372036854775807) then negsuc 9223372036854775807
    else if int_lt (pos 9223372036854775807) z then pos 9223372036854775807 else z
