-- the longest front of a text whose bytes all pass a test
use Rattle.std.proofs.Common.{◌≡◌, ◌<◌, ◌+◌, ℕ, suc, Bool, true, false, cond, List, [], ◌∷◌, ◌++◌, length, take, drop, arith, refl, ap, ◌∙◌, one-add, length-take}
use Rattle.std.specs.List.{AllPass, prefix_len}
use Rattle.std.proofs.lemmas.List.{get_or-take}
use Rattle.std.proofs.lemmas.List.Sums.{prefix_len_passes}
use Rattle.ql_base.specs.Bytes.{StopsBefore}

module _ (p : ℕ → Bool) where
  pub passes_head : (b : ℕ) (bs : List ℕ) → AllPass p (b ∷ bs) → p b ≡ true
  passes_head b bs h = h 0 0 (omega arith)

  pub passes_tail : (b : ℕ) (bs : List ℕ) → AllPass p (b ∷ bs) → AllPass p bs
  passes_tail b bs h = λ k d lt. h (suc k) d (omega arith)

  pub front_next : (b : ℕ) (bs : List ℕ) → p b ≡ true → prefix_len p (b ∷ bs) ≡ suc (prefix_len p bs)
  front_next b bs e = rw e (one-add (prefix_len p bs))

  pub front_none : (b : ℕ) (bs : List ℕ) → p b ≡ false → prefix_len p (b ∷ bs) ≡ 0
  front_none b bs e = rw e refl

  -- the front passes
  pub front_passes : (xs : List ℕ) → AllPass p (take (prefix_len p xs) xs)
  front_passes xs = λ k d lt.
      let below : k < prefix_len p xs = omega (arith, length-take (prefix_len p xs) xs) in
      rw get_or-take (prefix_len_passes p xs k d below)

  -- what follows the front fails
  pub front_stops : (xs : List ℕ) → StopsBefore p (drop (prefix_len p xs) xs)
  front_stops [] = refl
  front_stops (b ∷ bs) =
      let P : Bool → Type 0 = λ t. p b ≡ t → StopsBefore p (drop (cond t (1 + prefix_len p bs) 0) (b ∷ bs)) in
      elim (p b) as P [ true ↦ λ e. rw (one-add (prefix_len p bs)) (front_stops bs) | false ↦ λ e. e ] refl

  -- a text that passes is its own front
  pub front_all : (xs : List ℕ) → AllPass p xs → prefix_len p xs ≡ length xs
  front_all [] h = refl
  front_all (b ∷ bs) h = front_next b bs (passes_head b bs h) ∙ ap suc (front_all bs (passes_tail b bs h))

  pub all_front : (xs : List ℕ) → prefix_len p xs ≡ length xs → AllPass p xs
  all_front xs e = λ k d lt. prefix_len_passes p xs k d (omega arith)

  pub front_stopped : (rest : List ℕ) → StopsBefore p rest → prefix_len p rest ≡ 0
  front_stopped [] h = refl
  front_stopped (b ∷ bs) h = front_none b bs h

  -- a front that passes and can't be longer is the front
  pub front-append : (w rest : List ℕ) → AllPass p w → StopsBefore p rest → prefix_len p (w ++ rest) ≡ length w
  front-append [] rest h s = front_stopped rest s
  front-append (b ∷ bs) rest h s = front_next b (bs ++ rest) (passes_head b bs h) ∙ ap suc (front-append bs rest (passes_tail b bs h) s)
