-- Lists of JSON values that one value is added to.
use Rattle.std.proofs.Common.{◌≡◌, ℕ, zero, suc, ◌+◌, List, [], ◌∷◌, ◌++◌, Some, map, take, length, ◌≤◌, ◌<◌, get_or, slice_get, refl, sym, ap, subst, arith, ◌∙◌, add-one}
use Rattle.std.specs.List.{AllByRecursion}
use Rattle.std.proofs.lemmas.List.{take_all}
use Rattle.ql_exec.specs.declared.effect.Effect.{Effect}
use Rattle.ql_lang.specs.declared.program.Program.{Program}
use Rattle.ql_report.specs.JsonRuns.{effect_data, effects_from}
use Rattle.serde_json.specs.Data.{Data}
use Rattle.serde_json.specs.View.{view}
use Rattle.serde_json.specs.declared.value.Value.{Value}

added : (vs : List Value) (v : Value) → map view (vs ++ v ∷ []) ≡ map view vs ++ view v ∷ []
added [] v = refl
added (w ∷ vs) v = ap (λ (ds : List Data). view w ∷ ds) (added vs v)

one_taken : {A : Type 0} (f : A → Data) (xs : List A) (k : ℕ) (x : A) → slice_get xs k ≡ Some x → map f (take (suc k) xs) ≡ map f (take k xs) ++ f x ∷ []
one_taken f [] k x at = let no : ⊥ = cc in absurd no
one_taken {A} f (y ∷ ys) zero x at = let same : y ≡ x = cc in ap (λ (z : A). f z ∷ []) same
one_taken f (y ∷ ys) (suc k) x at = ap (λ (ds : List Data). f y ∷ ds) (one_taken f ys k x at)

-- what is made from the first elements, with one more
pub one_more : {A : Type 0} (f : A → Data) (xs : List A) (k : ℕ) (x : A) (before after : List Value) (v : Value)
    → after ≡ before ++ v ∷ [] → map view before ≡ map f (take k xs) → view v ≡ f x → slice_get xs k ≡ Some x
    → map view after ≡ map f (take (k + 1) xs)
one_more f xs k x before after v longer same is at =
    ap (map view) longer ∙ added before v ∙ ap (λ (ds : List Data). ds ++ view v ∷ []) same
    ∙ ap (λ (d : Data). map f (take k xs) ++ d ∷ []) is
    ∙ sym (one_taken f xs k x at) ∙ sym (ap (λ n. map f (take n xs)) (add-one k))

-- and from all of them
pub all_made : {A : Type 0} (f : A → Data) (xs : List A) (k : ℕ) (vs : List Value) → map view vs ≡ map f (take k xs) → length xs ≤ k → map view vs ≡ map f xs
all_made f xs k vs same all = same ∙ ap (map f) (take_all k xs all)

pub id_there : (ids : List ℕ) (k : ℕ) → k < length ids → slice_get ids k ≡ Some (get_or ids k 0)
id_there [] k h = absurd (omega (arith, h))
id_there (i ∷ is) zero h = refl
id_there (i ∷ is) (suc k) h = id_there is k (omega (arith, h))

-- the effects with one more
pub one_effect : (p : Program) (objects : List (List ℕ)) (id : ℕ) (x : List Effect) (k : ℕ) (e : Effect) → slice_get x k ≡ Some e
    → effects_from p objects id (take (suc k) x) ≡ effects_from p objects id (take k x) ++ effect_data p objects (id + k) e ∷ []
unfolding effects_from
one_effect p objects id [] k e at = let no : ⊥ = cc in absurd no
one_effect p objects id (g ∷ gs) zero e at =
    let same : g ≡ e = cc in
    let first : id ≡ id + 0 = omega arith in
    ap (λ (h : Effect). effect_data p objects id h ∷ []) same ∙ ap (λ (n : ℕ). effect_data p objects n e ∷ []) first
one_effect p objects id (g ∷ gs) (suc k) e at =
    let later : (id + 1) + k ≡ id + suc k = omega arith in
    ap (λ (ds : List Data). effect_data p objects id g ∷ ds) (one_effect p objects (id + 1) gs k e at
    ∙ ap (λ (n : ℕ). effects_from p objects (id + 1) (take k gs) ++ effect_data p objects n e ∷ []) later)

pub more_effects : (p : Program) (objects : List (List ℕ)) (x : List Effect) (k : ℕ) (e : Effect) (before after : List Value) (v : Value)
    → after ≡ before ++ v ∷ [] → map view before ≡ effects_from p objects 1 (take k x) → view v ≡ effect_data p objects (k + 1) e → slice_get x k ≡ Some e
    → map view after ≡ effects_from p objects 1 (take (k + 1) x)
more_effects p objects x k e before after v longer same is at =
    let number : k + 1 ≡ 1 + k = omega arith in
    ap (map view) longer ∙ added before v ∙ ap (λ (ds : List Data). ds ++ view v ∷ []) same
    ∙ ap (λ (d : Data). effects_from p objects 1 (take k x) ++ d ∷ []) (is ∙ ap (λ (n : ℕ). effect_data p objects n e) number)
    ∙ sym (one_effect p objects 1 x k e at) ∙ sym (ap (λ n. effects_from p objects 1 (take n x)) (add-one k))

pub effect_there : (P : Effect → Type 0) (x : List Effect) (k : ℕ) (e : Effect) → AllByRecursion P x → slice_get x k ≡ Some e → P e
effect_there P [] k e all at = let no : ⊥ = cc in absurd no
effect_there P (g ∷ gs) zero e all at = let same : g ≡ e = cc in subst P same all.0
effect_there P (g ∷ gs) (suc k) e all at = effect_there P gs k e all.1 at
