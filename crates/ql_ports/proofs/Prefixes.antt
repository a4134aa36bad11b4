use Rattle.std.proofs.Common.{◌≡◌, ℕ, ◌+◌, ◌-◌, ◌≤◌, List, ◌++◌, length, take, drop, Option, Some, None, IfSome, ap, refl, ◌∙◌, append_assoc, length-append, length-drop}
use Rattle.std.proofs.lemmas.List.{take-append-drop, drop-drop, length-take-le}
use Rattle.std.proofs.Math.Seq.{take-add, take-length}
use Rattle.ql_ports.specs.Whole.{IsPrefix}
use Rattle.ql_ports.specs.Written.{appended}

-- a prefix and the next bytes of the whole are a prefix
pub IsPrefix-append : (prefix whole piece : List ℕ) (count : ℕ)
    → IsPrefix prefix whole
    → count ≤ length piece
    → take count piece ≡ take count (drop (length prefix) whole)
    → IsPrefix (prefix ++ take count piece) whole
IsPrefix-append prefix whole piece count is_front within same =
    let longer : length (prefix ++ take count piece) ≡ length prefix + count =
    length-append prefix (take count piece) ∙ ap (λ n. length prefix + n) (length-take-le count piece within) in
    rw (longer, ← drop-drop count (length prefix) whole, same, append_assoc, take-append-drop) is_front

-- the same, where the whole is told
pub IfSome-front-append : (told : Option (List ℕ)) (prefix piece : List ℕ) (at count : ℕ)
    → IfSome told (IsPrefix prefix)
    → at ≡ length prefix
    → count ≤ length piece
    → IfSome told (λ whole. take count piece ≡ take count (drop at whole))
    → IfSome told (IsPrefix (prefix ++ take count piece))
IfSome-front-append None prefix piece at count is_front seam within same = is_front
IfSome-front-append (Some whole) prefix piece at count is_front seam within same =
    IsPrefix-append prefix whole piece count is_front within (rw seam at same)

-- appending a prefix and then a prefix of the rest
pub appended-front : (before : Option (List ℕ)) (bytes : List ℕ) (n m : ℕ)
    → appended (appended before (take n bytes)) (take m (take (length bytes - n) (drop n bytes)))
    ≡ appended before (take (n + m) bytes)
appended-front None bytes n m = refl
appended-front (Some was) bytes n m =
    let rest : take (length bytes - n) (drop n bytes) ≡ drop n bytes =
    rw (← length-drop n bytes) (take-length (drop n bytes)) in
    rw (rest, append_assoc, ← take-add n m bytes) refl
