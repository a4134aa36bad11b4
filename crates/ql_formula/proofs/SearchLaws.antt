-- The laws of a search over choices of places, one variable after the other.
use Rattle.std.proofs.Common.{◌≡◌, inl, inr, ◌⊎◌, ℕ, suc, zero, ◌+◌, ◌<◌, ◌≤◌, true, false, Bool, List, [], ◌∷◌, ◌++◌, length, take, drop, set, get_or, ◌-◌, refl, sym, ap, ◌∙◌, append_assoc, arith, Some, None, Option}
use Rattle.std.proofs.lemmas.Bool.{both_ways}
use Rattle.std.proofs.lemmas.Grind.{take-set_at}
use Rattle.std.proofs.lemmas.List.{length-take, append-nil, take_at, drop_at, take-append-drop}
use Rattle.ql_base.specs.IdLists.{has_id}
use Rattle.ql_lang.specs.declared.formula.OpChoice.{OpChoice}
use Rattle.ql_lang.specs.declared.formula.OpChoice.TheVariants.{Any, OneOf}
use Rattle.ql_exec.specs.declared.effect.Effect.{Effect}
use Rattle.ql_exec.specs.Effects.{effect_at, one}
use Rattle.ql_exec.proofs.Finding.{effect_at-within}
use Rattle.ql_formula.specs.Truth.{in_range, Chosen, IsBefore}
use Rattle.ql_formula.specs.Search.{AllTrueFrom, IsFirstFrom}

-- the choice has a place for each variable
pub whole_true : (x : List Effect) (body : List ℕ → Bool) (places : List ℕ) → body places ≡ true → AllTrueFrom x body places []
whole_true x body places e [] chosen = ap body (append-nil places) ∙ e
whole_true x body places e (p ∷ ps) chosen = absurd chosen

pub whole_false : (x : List Effect) (body : List ℕ → Bool) (places : List ℕ) → body places ≡ false → IsFirstFrom x body places [] []
whole_false x body places e = record {
  chosen = tt;
  is_false = ap body (append-nil places) ∙ e;
  first = λ others chosen before. absurd (nothing_before others before);
}
  where
    nothing_before : (others : List ℕ) → IsBefore others [] → ⊥
    nothing_before [] b = b
    nothing_before (o ∷ others) b = b

-- the prefix with one place more
one_more : (body : List ℕ → Bool) (front : List ℕ) (p : ℕ) (ps : List ℕ) → body ((front ++ p ∷ []) ++ ps) ≡ body (front ++ p ∷ ps)
one_more body front p ps = ap body (append_assoc front (p ∷ []) ps)

-- the body is true from each place of the first variable
pub all_places : (x : List Effect) (body : List ℕ → Bool) (front : List ℕ) (choice : OpChoice) (others : List OpChoice)
    → ((p : ℕ) → in_range x choice p ≡ true → AllTrueFrom x body (front ++ p ∷ []) others) → AllTrueFrom x body front (choice ∷ others)
all_places x body front choice others each [] chosen = absurd chosen
all_places x body front choice others each (p ∷ ps) chosen = sym (one_more body front p ps) ∙ each p chosen.0 ps chosen.1

pub first_here : (x : List Effect) (body : List ℕ → Bool) (front : List ℕ) (choice : OpChoice) (others : List OpChoice) (p : ℕ) (ps : List ℕ) → in_range x choice p ≡ true
    → ((k : ℕ) → k < p → in_range x choice k ≡ true → AllTrueFrom x body (front ++ k ∷ []) others) → IsFirstFrom x body (front ++ p ∷ []) others ps → IsFirstFrom x body front (choice ∷ others) (p ∷ ps)
first_here x body front choice others p ps within each here = record {
  chosen = (within, here.chosen);
  is_false = sym (one_more body front p ps) ∙ here.is_false;
  first = before;
}
  where
    at_place : (k : ℕ) (ks : List ℕ) → in_range x choice k ≡ true → Chosen x others ks → (k < p) ⊎ ((k ≡ p) × IsBefore ks ps) → body (front ++ k ∷ ks) ≡ true
    at_place k ks one chosen (inl less) = sym (one_more body front k ks) ∙ each k less one ks chosen
    at_place k ks one chosen (inr same) =
        ap (λ (m : ℕ). body (front ++ m ∷ ks)) same.0 ∙ sym (one_more body front p ks) ∙ here.first ks chosen same.1

    before : (ks : List ℕ) → Chosen x (choice ∷ others) ks → IsBefore ks (p ∷ ps) → body (front ++ ks) ≡ true
    before [] chosen b = absurd chosen
    before (k ∷ ks) chosen b = at_place k ks chosen.0 chosen.1 b

-- a place in a variable's range is that of an effect
pub place_within : (x : List Effect) (choice : OpChoice) (p : ℕ) → in_range x choice p ≡ true → (1 ≤ p) × (p ≤ length x)
place_within x Any p is = of_effect p (effect_at x p) refl (λ e. true) is
  where
    of_effect : (p : ℕ) (found : Option Effect) → effect_at x p ≡ found → (test : Effect → Bool) → one test found ≡ true → (1 ≤ p) × (p ≤ length x)
    of_effect p None found test is = absurd (both_ways false refl is)
    of_effect zero (Some e) found test is = absurd (let never : None ≡ Some e = found in cc)
    of_effect (suc k) (Some e) found test is = (omega arith, effect_at-within x (suc k) e found)
place_within x (OneOf ops) p is = of_effect p (effect_at x p) refl (λ e. has_id ops e.op.0) is
  where
    of_effect : (p : ℕ) (found : Option Effect) → effect_at x p ≡ found → (test : Effect → Bool) → one test found ≡ true → (1 ≤ p) × (p ≤ length x)
    of_effect p None found test is = absurd (both_ways false refl is)
    of_effect zero (Some e) found test is = absurd (let never : None ≡ Some e = found in cc)
    of_effect (suc k) (Some e) found test is = (omega arith, effect_at-within x (suc k) e found)

-- a list that begins with a prefix and one place
pub begins_so : (new front : List ℕ) (p at : ℕ) → length front ≡ at → take (at + 1) new ≡ front ++ p ∷ [] → (take at new ≡ front) × (drop at new ≡ p ∷ drop (at + 1) new)
begins_so new front p at len e =
    let rest = drop (at + 1) new in
    let whole : front ++ (p ∷ rest) ≡ new = sym (append_assoc front (p ∷ []) rest) ∙ ap (λ (w : List ℕ). w ++ rest) (sym e) ∙ take-append-drop (at + 1) new in
    (ap (take at) (sym whole) ∙ take_at front (p ∷ rest) at len, ap (drop at) (sym whole) ∙ drop_at front (p ∷ rest) at len)

-- one place was written, and what stands before it stayed
pub turned : (places new : List ℕ) (at k p : ℕ) → at < length places → k ≡ at + 1 → take k new ≡ take k (set places at p)
    → (take k (set places at p) ≡ take at places ++ p ∷ []) × (take at new ≡ take at places) × (drop at new ≡ p ∷ drop k new)
turned places new at k p inside is kept =
    let written : take k (set places at p) ≡ take at places ++ p ∷ [] = take-set_at places at k p is inside in
    let len : length (take at places) ≡ at = omega (arith, length-take at places) in
    let b = begins_so new (take at places) p at len (ap (λ (n : ℕ). take n new) (sym is) ∙ kept ∙ written) in
    (written, b.0, b.1 ∙ ap (λ (n : ℕ). p ∷ drop n new) (sym is))

-- a list that isn't empty, as its slice pattern has it
pub opened : (xs : List OpChoice) (d : OpChoice) → 1 ≤ length xs → xs ≡ get_or xs 0 d ∷ take (length xs - 1) (drop 1 xs)
opened [] d some = absurd (omega arith)
opened (x ∷ xs) d some =
    let n : length (x ∷ xs) - 1 ≡ length xs = omega arith in
    ap (λ (l : List OpChoice). x ∷ l) (sym (take_all xs) ∙ ap (λ (m : ℕ). take m xs) (sym n))
  where
    take_all : (ys : List OpChoice) → take (length ys) ys ≡ ys
    take_all [] = refl
    take_all (y ∷ ys) = ap (λ (l : List OpChoice). y ∷ l) (take_all ys)
