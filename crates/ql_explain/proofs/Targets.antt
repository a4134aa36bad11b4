-- The values of targets, one after another.
use Rattle.std.proofs.Common.{◌≡◌, ℕ, ◌+◌, ◌≤◌, List, [], ◌∷◌, ◌++◌, length, map, take, Some, slice_get, sym, ap, subst, ◌∙◌}
use Rattle.std.specs.List.{AllZip}
use Rattle.std.proofs.lemmas.List.{map-append, take_all, take_more}
use Rattle.std.proofs.lemmas.Option.{get_or_from_slice_get, slice_get_within}
use Rattle.serde_json.specs.Data.{Data}
use Rattle.serde_json.specs.View.{view}
use Rattle.serde_json.specs.declared.value.Value.{Value}
use Rattle.ql_classify.proofs.Climbing.{zip_push}
use Rattle.ql_classify.specs.declared.finding.Finding.{Finding}
use Rattle.ql_lang.specs.declared.program.Program.{Program}
use Rattle.ql_explain.specs.JsonExplanations.{AreTargets, IsTarget}

module _ (source : List ℕ) (p : Program) (findings : List Finding) (k : ℕ) where
  pub one_more : (f : Finding) (before after : List Value) (v : Value) → slice_get findings k ≡ Some f → after ≡ before ++ v ∷ [] → IsTarget source p f (view v)
      → AreTargets source p (take k findings) (map view before) → AreTargets source p (take (k + 1) findings) (map view after)
  one_more f before after v at longer is are =
      let more : take (k + 1) findings ≡ take k findings ++ f ∷ [] = take_more findings k f (slice_get_within findings k f at) ∙ ap (λ y. take k findings ++ y ∷ []) (get_or_from_slice_get findings k f f at) in
      let seen : map view after ≡ map view before ++ view v ∷ [] = ap (map view) longer ∙ map-append view before (v ∷ []) in
      subst (λ (fs : List Finding). AreTargets source p fs (map view after)) (sym more)
      (subst (λ (ds : List Data). AllZip (IsTarget source p) (take k findings ++ f ∷ []) ds) (sym seen) (zip_push (IsTarget source p) (take k findings) (map view before) f (view v) are is))

  pub all_of_them : (values : List Value) → length findings ≤ k → AreTargets source p (take k findings) (map view values) → AreTargets source p findings (map view values)
  all_of_them values l are = subst (λ (fs : List Finding). AreTargets source p fs (map view values)) (take_all k findings l) are
