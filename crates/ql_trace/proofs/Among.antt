-- items put among ascending ones
use Rattle.std.proofs.Common.{◌≡◌, ◌+◌, suc, Bool, true, false, not, cond, ◌||◌, List, [], ◌∷◌, All, length, insert, refl, ap, ◌∙◌, arith, None, Some, one-add}
use Rattle.std.specs.Cmp.{IsTotalOrder}
use Rattle.std.specs.List.{prefix_len}
use Rattle.std.specs.Ordering.{is_eq, is_lt, ordering_reverse}
use Rattle.std.specs.declared.cmp.Ordering.{Ordering}
use Rattle.std.specs.declared.cmp.Ordering.TheVariants.{Less, Equal, Greater}
use Rattle.std.proofs.lemmas.List.Elements.{All-cons}
use Rattle.std.proofs.lemmas.List.Edits.{length-insert}
use Rattle.std.proofs.lemmas.List.Sums.{prefix_len-le-length}
use Rattle.ql_value.specs.Collections.{Ascends}
use Rattle.ql_value.specs.Places.{place}
use Rattle.ql_trace.specs.Kinds.{all_among, has_equal, put_among}

module _ {X : Type 0} (R : X → X → Ordering) (total : IsTotalOrder R) where
  -- what is below each item of a list and below another is below each item once that is put among them
  below-put : (P : X → Type 0) (x : X) (xs : List X) → P x → All P xs → All P (put_among R xs x)
  below-put P x [] here all = All-cons P x [] here all
  below-put P x (y ∷ ys) here all = by (below-put P x ys here (λ k d lt. all (suc k) d (omega arith))) (is_lt (R y x)) where
    by : All P (put_among R ys x) → (b : Bool) → All P (insert (y ∷ ys) (cond b (1 + prefix_len (λ z. is_lt (R z x)) ys) 0) x)
    by rest true = rw one-add (All-cons P y (put_among R ys x) (all 0 y (omega arith)) rest)
    by rest false = All-cons P x (y ∷ ys) here all

  -- what isn't below an item that isn't there is above it, and so is what follows
  above-first : (x y : X) → R y x ≡ Greater → R x y ≡ Less
  above-first x y e = total.antisymm x y ∙ ap ordering_reverse e

  pub ascends-put : (x : X) (xs : List X) → Ascends R xs → has_equal R xs x ≡ false → Ascends R (put_among R xs x)
  ascends-put x [] asc none = (λ k d lt. absurd (omega arith), tt)
  ascends-put x (y ∷ ys) asc none = by (λ n. ascends-put x ys asc.1 n) (R y x) refl none where
    by : (has_equal R ys x ≡ false → Ascends R (put_among R ys x)) → (o : Ordering) → R y x ≡ o → (is_eq o || has_equal R ys x) ≡ false
        → Ascends R (insert (y ∷ ys) (cond (is_lt o) (1 + prefix_len (λ z. is_lt (R z x)) ys) 0) x)
    by rest Less e n = rw one-add (below-put (λ z. R y z ≡ Less) x ys e asc.0, rest n)
    by rest Equal e n = cc
    by rest Greater e n =
        let first = above-first x y e in
        (All-cons (λ z. R x z ≡ Less) y ys first (λ k d lt. total.trans x y _ first (asc.0 k d lt)), asc)

-- one item more
pub among-more : {X : Type 0} (R : X → X → Ordering) (found xs : List X) (x : X) → has_equal R found x ≡ false → all_among R found (x ∷ xs) ≡ all_among R (put_among R found x) xs
unfolding all_among
among-more R found xs x none = rw none refl

pub among-twice : {X : Type 0} (R : X → X → Ordering) (found xs : List X) (x : X) → has_equal R found x ≡ true → all_among R found (x ∷ xs) ≡ None
unfolding all_among
among-twice R found xs x there = rw there refl

pub among-none : {X : Type 0} (R : X → X → Ordering) (found : List X) → all_among R found [] ≡ Some found
unfolding all_among
among-none R found = refl

pub length-put : {X : Type 0} (R : X → X → Ordering) (found : List X) (x : X) → length (put_among R found x) ≡ length found + 1
length-put R found x = length-insert found (place R x found) x (prefix_len-le-length _ found)

-- the test of whether an item is new
pub isn't_new : (new there : Bool) → new ≡ not there → new ≡ false → there ≡ true
isn't_new false true e t = refl
isn't_new new false e t = cc
isn't_new true true e t = cc

pub is_new : (new there : Bool) → new ≡ not there → new ≡ true → there ≡ false
is_new true false e t = refl
is_new new true e t = cc
is_new false false e t = cc
