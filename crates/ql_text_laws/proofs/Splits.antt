-- texts that are parted in two ways, and what spaces are followed by
use Rattle.std.proofs.Common.{◌≡◌, ◌≤◌, ◌<◌, ℕ, suc, false, List, [], ◌∷◌, ◌++◌, length, drop, arith, refl, sym, ap, ◌∙◌, append-nil, length-append}
use Rattle.std.specs.List.{AllPass}
use Rattle.std.proofs.lemmas.List.{get_or-replicate, length-replicate}
use Rattle.std.proofs.Math.Seq.{drop-append_seam}
use Rattle.ql_base.specs.Bytes.{begins}
use Rattle.ql_base.proofs.Fronts.{front-append, front_stops}
use Rattle.ql_value.specs.Reading.{after_spaces, is_byte}
use Rattle.ql_value.specs.ValueGrammar.{spaces}

-- what is between the front of a text and the last part of it
pub record Split (pre post front rest : List ℕ) : Type 0 where
  pub mid : List ℕ
  pub left : pre ≡ front ++ mid
  pub right : rest ≡ mid ++ post

pub split : (pre post front rest : List ℕ) → pre ++ post ≡ front ++ rest → length post ≤ length rest → Split pre post front rest
split pre post [] rest e few = record { mid = pre; left = refl; right = sym e }
split [] post (c ∷ front) rest e few =
    let same : length post ≡ suc (length (front ++ rest)) = ap length e in absurd (omega (arith, few, same, length-append front rest))
split (p ∷ pre) post (c ∷ front) rest e few =
    let first : p ≡ c = cc in
    let s = split pre post front rest (ap (λ t. drop 1 t) e) few in
    record { mid = s.mid; left = ap (λ x. x ∷ pre) first ∙ ap (λ t. c ∷ t) s.left; right = s.right }

pub none_before : (pre post : List ℕ) → length (pre ++ post) ≡ length post → pre ≡ []
none_before [] post e = refl
none_before (p ∷ pre) post e = absurd (omega (arith, e, length-append pre post))

-- parts of the same length are the same
pub same_cut : (pre post front rest : List ℕ) → pre ++ post ≡ front ++ rest → length rest ≡ length post → (pre ≡ front) × (rest ≡ post)
same_cut pre post front rest e len =
    let s = split pre post front rest e (omega (arith, len)) in
    let none : s.mid ≡ [] = none_before s.mid post (sym (ap length s.right) ∙ len) in
    (s.left ∙ ap (λ t. front ++ t) none ∙ append-nil front, s.right ∙ ap (λ t. t ++ post) none)

-- spaces
all_spaces : (n : ℕ) → AllPass (is_byte 32) (spaces n)
all_spaces n = λ k d lt. let below : k < n = omega (arith, length-replicate {A = ℕ} n 32) in rw (get_or-replicate n k 32 d below) refl

pub after_again : (n : ℕ) (text : List ℕ) → begins (is_byte 32) text ≡ false → after_spaces (spaces n ++ text) ≡ text
after_again n text stop =
    ap (λ k. drop k (spaces n ++ text)) (front-append (is_byte 32) (spaces n) text (all_spaces n) stop) ∙ drop-append_seam (spaces n) text

pub no_space_after : (text : List ℕ) → begins (is_byte 32) (after_spaces text) ≡ false
no_space_after text = front_stops (is_byte 32) text
