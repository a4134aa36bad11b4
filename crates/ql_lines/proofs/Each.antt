-- what is said of each element of a list
use Rattle.std.proofs.Common.{ℕ, suc, ◌<◌, List, [], ◌∷◌, get_or, length, arith}
use Rattle.std.specs.List.{AllByRecursion}

pub each_weaker : {X : Type 0} (P Q : X → Type 0) → ((x : X) → P x → Q x) → (xs : List X) → AllByRecursion P xs → AllByRecursion Q xs
each_weaker P Q f [] h = tt
each_weaker P Q f (x ∷ xs) h = (f x h.0, each_weaker P Q f xs h.1)

pub each_by_index : (P : ℕ → Type 0) (bs : List ℕ) → ((k : ℕ) → k < length bs → P (get_or bs k 0)) → AllByRecursion P bs
each_by_index P [] h = tt
each_by_index P (b ∷ bs) h = (h 0 (omega arith), each_by_index P bs (λ k lt. h (suc k) (omega (arith, lt))))
