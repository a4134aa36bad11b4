-- What is past a limit in two lists, one after the other.
use Rattle.std.proofs.Common.{◌≡◌, ◌-◌, ℕ, List, [], ◌∷◌, ◌++◌, Option, None, length, drop, refl, sym, ap, ◌∙◌, arith, zero, suc}
use Rattle.ql_typing.specs.declared.fault.TypeFault.{TypeFault}
use Rattle.ql_typing.specs.Faults.{each, earlier, first_fault}
use Rattle.ql_typing.specs.Programs.{above, too_many}
use Rattle.ql_typing.proofs.FirstFault.{earlier_assoc, first_append}
use Rattle.ql_typing.proofs.Parts.{each-append}

drop_past : {A : Type 0} (n k : ℕ) (xs ys : List A) → k ≡ n - length xs → drop n (xs ++ ys) ≡ drop n xs ++ drop k ys
drop_past zero k [] ys e = let same : k ≡ 0 = omega (arith, e) in rw same refl
drop_past (suc n) k [] ys e = let same : k ≡ suc n = omega (arith, e) in rw same refl
drop_past zero k (x ∷ xs) ys e = let same : k ≡ 0 = omega (arith, e) in rw same refl
drop_past (suc n) k (x ∷ xs) ys e = drop_past n k xs ys (omega (arith, e))

pub above_append : (limit left : ℕ) (xs ys : List ℕ) → left ≡ limit - length xs → above limit (xs ++ ys) ≡ above limit xs ++ above left ys
above_append limit left xs ys e = rw (drop_past limit left xs ys e) (each-append too_many (drop limit xs) (drop left ys))

pub above_none : (limit : ℕ) → first_fault (above limit []) ≡ None
unfolding first_fault each
above_none zero = refl
above_none (suc n) = refl

-- a fault together with those past the limit in the first list, and then with those past what is left of it in the second
pub above_step : (fault : Option TypeFault) (limit left : ℕ) (xs ys : List ℕ) (first : Option TypeFault) → left ≡ limit - length xs
    → earlier fault (first_fault (above limit (xs ++ ys))) ≡ first
    → earlier (earlier fault (first_fault (above limit xs))) (first_fault (above left ys)) ≡ first
above_step fault limit left xs ys first e h =
    earlier_assoc fault _ _ ∙ ap (λ r. earlier fault r) (sym (first_append (above limit xs) (above left ys)))
    ∙ ap (λ fs. earlier fault (first_fault fs)) (sym (above_append limit left xs ys e)) ∙ h
