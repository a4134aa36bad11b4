use Rattle.std.proofs.Common.{true, false, ◌≡◌, ℕ, ◌<◌, ◌≤◌, List, length, Some, None, String, Vec, Bool, not, cond, nat_lt, position, refl, arith, get_or}
use Rattle.std.specs.Global.{Global}
use Rattle.std.specs.List.{position_or_len}
use Rattle.std.proofs.lemmas.List.Folds.{find_at}
use Rattle.std.proofs.lemmas.List.Sums.{prefix_len-le-length}
use Rattle.std.proofs.lemmas.Bool.Decides.{nat_tests}
use Rattle.std.proofs.lemmas.Option.{slice_get-get_or, slice_get_past}
use Rattle.ql_ports.specs.Memory.{Files, is_named, place_of, bytes_under}
use Rattle.ql_ports.specs.MemShelf.{given}

-- a place up to the end that isn't before it is the end
at_end : (m n : ℕ) → m ≤ n → cond (nat_lt m n) (Some m) None ≡ None → n ≡ m
at_end m n within none = grind (arith, nat_tests)

-- where no element passes, the first place that does is the length
pub position_or_len-none : {X : Type 0} (p : X → Bool) (xs : List X) → position p xs ≡ None → length xs ≡ position_or_len p xs
position_or_len-none p xs none =
    at_end (position_or_len p xs) (length xs) (prefix_len-le-length (λ x. not (p x)) xs) none

-- the bytes under a name are those of the file at its place
pub bytes_under-at : (files : Files) (name : List ℕ) (place : ℕ) (file : String Global × Vec ℕ Global)
    → place ≡ place_of files name
    → place < length files
    → file ≡ get_or files place file
    → bytes_under files name ≡ Some file.1.items
bytes_under-at files name place file at inside is =
    rw (find_at (is_named name) files, ← at, slice_get-get_or files place file inside, ← is) refl

-- a name with no file has no bytes
pub bytes_under-missing : (files : Files) (name : List ℕ) (place : ℕ)
    → place ≡ place_of files name
    → place ≡ length files
    → bytes_under files name ≡ None
bytes_under-missing files name place at end =
    rw (find_at (is_named name) files, ← at, slice_get_past files place (omega arith)) refl

-- nothing is given of a missing file
pub given-None : (b : Bool) (piece at room : ℕ) → None ≡ given b piece at room None
given-None true piece at room = refl
given-None false piece at room = refl
