use Rattle.std.specs.Prelude.{◌≡◌, ℕ, List, length, take}
use Rattle.std.proofs.Common.{refl, sym, arith, length-take}
use Rattle.ql_base.specs.Words.{IsRow, padded}
use Rattle.ql_base.specs.declared.word.Word.TheInside.{Inside}

-- a row's name has as many bytes as the row says
pub length-name : (len : ℕ) (row : List ℕ) → IsRow len row → length (take len row) ≡ len
length-name len row fits = omega (arith, length-take len row, fits.few, fits.full)

-- a row and a length that equal a word's make that word
same_row : (w : Inside) (row : List ℕ) (len : ℕ) → row ≡ w.row → len ≡ w.len → record { row = row; len = len } ≡ w
same_row w row len same_bytes same_len = rw (same_bytes, same_len) refl

-- a row can be restored from its name
pub row-again : (w : Inside) → IsRow w.len w.row → record { row = padded (take w.len w.row); len = length (take w.len w.row) } ≡ w
row-again w fits = same_row w _ _ (sym fits.rest) (length-name w.len w.row fits)
