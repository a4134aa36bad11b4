-- what a quote opens, and words byte by byte
use Rattle.std.proofs.Common.{◌≡◌, ◌≤◌, ◌<◌, ◌+◌, ◌-◌, ℕ, suc, true, false, Ok, Err, List, [], ◌∷◌, length, take, drop, drop-drop, length-drop, get_or, arith, refl, ap, ◌∙◌, add-one, nat_lt}
use Rattle.std.specs.List.{prefix_len}
use Rattle.std.proofs.lemmas.List.Folds.{length-prefix_len}
use Rattle.std.proofs.lemmas.Bool.Decides.{nat_tests}
use Rattle.std.proofs.lemmas.List.{drop_all}
use Rattle.std.proofs.Math.Seq.{drop-cons}
use Rattle.ql_base.specs.Bytes.{begins, is_text_byte}
use Rattle.ql_base.proofs.Fronts.{front_passes}
use Rattle.ql_value.specs.Texts.{IsText}
use Rattle.ql_value.specs.declared.scalar.Scalar.TheVariants.{Text}
use Rattle.ql_value.specs.Reading.{quoted_at, word_end, is_byte}

module _ (bytes : List ℕ) (at end : ℕ) (end_is : end ≡ at + 1 + prefix_len is_text_byte (drop (at + 1) bytes)) where
  run : end - (at + 1) ≡ prefix_len is_text_byte (drop (at + 1) bytes)
  run = omega arith

  behind : drop (prefix_len is_text_byte (drop (at + 1) bytes)) (drop (at + 1) bytes) ≡ drop end bytes
  behind = rw (drop-drop, end_is) refl

  tail : drop 1 (drop at bytes) ≡ drop (at + 1) bytes
  tail = drop-drop 1 at bytes

  pub too_long : 64 < end - (at + 1) → quoted_at (drop at bytes) (drop 1 (drop at bytes)) ≡ Err (length bytes - at)
  unfolding quoted_at
  too_long long =
      let t : nat_lt 64 (prefix_len is_text_byte (drop (at + 1) bytes)) ≡ true = let h = run in grind (arith, nat_tests) in
      rw (tail, t) (ap Err (length-drop at bytes))

  short : end - (at + 1) ≤ 64 → nat_lt 64 (prefix_len is_text_byte (drop (at + 1) bytes)) ≡ false
  short few = let h = run in grind (arith, nat_tests)

  pub not_closed : end - (at + 1) ≤ 64 → begins (is_byte 34) (drop end bytes) ≡ false → quoted_at (drop at bytes) (drop 1 (drop at bytes)) ≡ Err (length bytes - end)
  unfolding quoted_at
  not_closed few q = rw (tail, short few, behind, q) (ap Err (length-drop end bytes))

  pub closed : end - (at + 1) ≤ 64 → begins (is_byte 34) (drop end bytes) ≡ true → quoted_at (drop at bytes) (drop 1 (drop at bytes)) ≡ Ok (Text (take (end - (at + 1)) (drop (at + 1) bytes)), drop (end + 1) bytes)
  unfolding quoted_at
  closed few q = rw (tail, short few, behind, q, run, drop-drop) refl

  pub is_text : end - (at + 1) ≤ 64 → IsText (take (end - (at + 1)) (drop (at + 1) bytes))
  is_text few = record {
    short = rw run (rw (length-prefix_len is_text_byte (drop (at + 1) bytes)) (rw (← run) few));
    plain = rw run (front_passes is_text_byte (drop (at + 1) bytes));
  }

-- a word's next letter
letter_by : (w : ℕ) (ws text : List ℕ) → begins (is_byte w) text ≡ true → word_end (w ∷ ws) text ≡ word_end ws (drop 1 text)
unfolding word_end
letter_by w ws [] h = cc
letter_by w ws (b ∷ bs) h = rw h refl

other_by : (w : ℕ) (ws text : List ℕ) → begins (is_byte w) text ≡ false → word_end (w ∷ ws) text ≡ Err (length text)
unfolding word_end
other_by w ws [] h = refl
other_by w ws (b ∷ bs) h = rw h refl

pub letter : (word bytes : List ℕ) (k at : ℕ) → k < length word → begins (is_byte (get_or word k 0)) (drop at bytes) ≡ true → word_end (drop k word) (drop at bytes) ≡ word_end (drop (k + 1) word) (drop (at + 1) bytes)
letter word bytes k at lt h = rw (drop-cons word k 0 lt, add-one k) (letter_by (get_or word k 0) (drop (suc k) word) (drop at bytes) h ∙ rw drop-drop refl)

pub other_letter : (word bytes : List ℕ) (k at : ℕ) → k < length word → begins (is_byte (get_or word k 0)) (drop at bytes) ≡ false → word_end (drop k word) (drop at bytes) ≡ Err (length bytes - at)
other_letter word bytes k at lt h = rw (drop-cons word k 0 lt) (other_by (get_or word k 0) (drop (suc k) word) (drop at bytes) h ∙ ap Err (length-drop at bytes))

pub no_letter : (word bytes : List ℕ) (k at : ℕ) → length word ≤ k → word_end (drop k word) (drop at bytes) ≡ Ok (drop at bytes)
unfolding word_end
no_letter word bytes k at past = rw (drop_all k word past) refl

-- a byte that is there isn't at the end
pub within : (bytes : List ℕ) (at c : ℕ) → begins (is_byte c) (drop at bytes) ≡ true → at + 1 ≤ length bytes
within bytes at c h = by_rest (drop at bytes) (length-drop at bytes) h where
  by_rest : (rest : List ℕ) → length rest ≡ length bytes - at → begins (is_byte c) rest ≡ true → at + 1 ≤ length bytes
  by_rest [] e t = cc
  by_rest (b ∷ bs) e t = omega arith
