-- a value for each declaration, one after another
use Rattle.std.proofs.Common.{◌≡◌, ◌<◌, ◌+◌, ℕ, suc, List, [], ◌∷◌, ◌++◌, length, map, drop, get_or, Option, None, Some, refl, ap}
use Rattle.std.proofs.lemmas.List.{append-nil, drop_more}
use Rattle.std.specs.Option.{option_and_then, option_map}
use Rattle.serde_json.specs.Data.{Data}
use Rattle.ql_lang.specs.declared.operation.Base.{Base}
use Rattle.ql_value.specs.Contents.{value_of_scalar}
use Rattle.ql_value.specs.declared.scalar.Scalar.{Scalar}
use Rattle.ql_value.specs.declared.value.Value.{Value}
use Rattle.ql_trace.specs.Kinds.{as_scalar}
use Rattle.ql_trace.specs.Meaning.{values_as}
use Rattle.ql_trace.proofs.Each.{turned, with_rest}

nothing : (o : Option Scalar) → option_and_then (λ s. option_map (λ vs. value_of_scalar s ∷ vs) None) o ≡ None
nothing None = refl
nothing (Some s) = refl

module _ {X : Type 0} (base : X → Base) where
  -- another number of values
  pub values-uneven : (xs : List X) (ds : List Data) → ¬ (length xs ≡ length ds) → values_as base xs ds ≡ None
  unfolding values_as
  values-uneven [] [] h = absurd (h refl)
  values-uneven [] (d ∷ ds) h = refl
  values-uneven (x ∷ xs) [] h = refl
  values-uneven (x ∷ xs) (d ∷ ds) h = rw (values-uneven xs ds (λ e. h (ap suc e))) (nothing (as_scalar (base x) d))

  module _ {J : Type 0} (f : J → Data) (xs : List X) (js : List J) where
    -- the values of the declarations from one on
    abbrev pub values_left : ℕ → Option (List Value)
    values_left k = values_as base (drop k xs) (map f (drop k js))

    -- one value more
    pub values-turn : (k : ℕ) (x : X) (j : J) (done : List Value) (s : Scalar) → k < length xs → k < length js → x ≡ get_or xs k x → j ≡ get_or js k j
        → as_scalar (base x) (f j) ≡ Some s → with_rest done (values_left k) ≡ with_rest (done ++ value_of_scalar s ∷ []) (values_left (k + 1))
    unfolding values_as
    values-turn k x j done s lt lu at bt e =
        rw (drop_more xs k x lt, drop_more js k j lu, ← at, ← bt, e) (turned done (value_of_scalar s) (values_left (k + 1)))

    pub values-turn-none : (k : ℕ) (x : X) (j : J) (done : List Value) → k < length xs → k < length js → x ≡ get_or xs k x → j ≡ get_or js k j
        → as_scalar (base x) (f j) ≡ None → with_rest done (values_left k) ≡ None
    unfolding values_as
    values-turn-none k x j done lt lu at bt e = rw (drop_more xs k x lt, drop_more js k j lu, ← at, ← bt, e) refl

    pub values-end : (k : ℕ) (done : List Value) → drop k xs ≡ [] → drop k js ≡ [] → with_rest done (values_left k) ≡ Some done
    unfolding values_as
    values-end k done e f' = rw (e, f') (ap Some (append-nil done))
