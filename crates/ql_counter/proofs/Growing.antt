-- Lists that grow by one part after another.
use Rattle.std.proofs.Common.{◌≡◌, ℕ, suc, ◌+◌, List, ◌++◌, append_assoc, ap, ◌∙◌, arith}
use Rattle.ql_base.specs.Ranges.{upto}

-- the parts of the numbers below i, and the part of i
pub upto_more : {A : Type 0} (f : ℕ → List A) (before after : List A) (i : ℕ) → before ≡ upto i f → after ≡ before ++ f i → after ≡ upto (i + 1) f
upto_more f before after i h more =
    let next : suc i ≡ i + 1 = omega arith in
    more ∙ ap (λ x. x ++ f i) h ∙ ap (λ k. upto k f) next

-- the same, after a list
pub parts_more : {A : Type 0} (f : ℕ → List A) (start before after : List A) (i : ℕ) → before ≡ start ++ upto i f → after ≡ before ++ f i → after ≡ start ++ upto (i + 1) f
parts_more f start before after i h more =
    let next : suc i ≡ i + 1 = omega arith in
    more ∙ ap (λ x. x ++ f i) h ∙ append_assoc start (upto i f) (f i) ∙ ap (λ k. start ++ upto k f) next
