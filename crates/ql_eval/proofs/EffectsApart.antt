-- No two effects of an execution tie in the order of stamp and session.
use Rattle.std.proofs.Common.{◌≡◌, ◌<◌, ℕ, Bool, true, false, not, ◌&&◌, ◌||◌, cond, nat_eq, nat_lt, List, [], ◌∷◌, Option, Some, None, All, refl, ap, arith}
use Rattle.std.specs.List.{cons_option, filter_map}
use Rattle.std.specs.List.Sorted.{ties}
use Rattle.std.specs.Option.{option_and_then}
use Rattle.std.proofs.lemmas.Bool.Decides.{nat_tests}
use Rattle.std.proofs.lemmas.List.Elements.{All-cons}
use Rattle.ql_base.specs.IdLists.{IsAscending, IsBelowAll}
use Rattle.ql_base.specs.declared.ids.SessId.{SessId}
use Rattle.ql_exec.specs.declared.effect.Effect.{Effect}
use Rattle.ql_exec.specs.Effects.{effect_at}
use Rattle.ql_exec.specs.Execution.{IsExecution}
use Rattle.ql_exec.specs.Folding.{comes_before}
use Rattle.ql_exec.proofs.StampOrder.{stamps-apart}
use Rattle.ql_eval.specs.Folds.{emitting_at, has_emitted}
use Rattle.ql_eval.proofs.StableOrder.{both, denied}
use Rattle.ql_eval.proofs.Insertion.{Apart}

neither : (p q r : Bool) → (p || (q && r)) ≡ false → (p ≡ false) × (q ≡ true → r ≡ false)
neither true q r h = cc
neither false true r h = (refl, λ _. h)
neither false false r h = (refl, λ no. cc)

tied_are_equal : (s t p q : ℕ) → (nat_lt s t || (nat_eq s t && nat_lt p q)) ≡ false → (nat_lt t s || (nat_eq t s && nat_lt q p)) ≡ false → (s ≡ t) × (p ≡ q)
tied_are_equal s t p q h k =
    let up = neither (nat_lt s t) (nat_eq s t) (nat_lt p q) h in
    let down = neither (nat_lt t s) (nat_eq t s) (nat_lt q p) k in
    let no_less = up.0 in
    let no_more = down.0 in
    let same : s ≡ t = grind (arith, nat_tests) in
    let one : nat_eq s t ≡ true = grind (arith, nat_tests) in
    let other : nat_eq t s ≡ true = grind (arith, nat_tests) in
    let below = up.1 one in
    let above = down.1 other in
    (same, grind (arith, nat_tests))

module _ (x : List Effect) (law : IsExecution x) where
  there : (a : ℕ) (e : Effect) → emitting_at x a ≡ Some e → effect_at x a ≡ Some e
  there a e is = by (effect_at x a) is
    where
      one : (b : Bool) (g : Effect) → cond b (Some g) None ≡ Some e → Some g ≡ Some e
      one true g same = same
      one false g same = let no : None ≡ Some e = same in cc

      by : (o : Option Effect) → option_and_then (λ g. cond (has_emitted g) (Some g) None) o ≡ Some e → o ≡ Some e
      by None same = let no : None ≡ Some e = same in cc
      by (Some g) same = one (has_emitted g) g same

  untied : (a b : ℕ) (e f : Effect) → a < b → emitting_at x a ≡ Some e → emitting_at x b ≡ Some f → ties comes_before e f ≡ false
  untied a b e f less first second = by (ties comes_before e f) refl
    where
      by : (t : Bool) → ties comes_before e f ≡ t → ties comes_before e f ≡ false
      by false h = h
      by true h =
          let sides = both (not (comes_before e f)) (not (comes_before f e)) h in
          let equal = tied_are_equal e.stamp f.stamp e.session.0 f.session.0 (denied (comes_before e f) sides.0) (denied (comes_before f e) sides.1) in
          let session : e.session ≡ f.session = ap (λ (n : ℕ). let s : SessId = record { 0 = n } in s) equal.1 in
          let same : a ≡ b = stamps-apart x law a b e f (there a e first) (there b f second) session equal.0 in
          absurd (omega (arith, less, same))

  all_untied : (a : ℕ) (e : Effect) (ids : List ℕ) → emitting_at x a ≡ Some e → IsBelowAll a ids → All (λ f. ties comes_before e f ≡ false) (filter_map (emitting_at x) ids)
  all_untied a e [] is below = λ k d none. absurd (omega arith)
  all_untied a e (b ∷ ids) is below = by (emitting_at x b) refl (all_untied a e ids is below.1)
    where
      by : (o : Option Effect) → emitting_at x b ≡ o → All (λ f. ties comes_before e f ≡ false) (filter_map (emitting_at x) ids) → All (λ f. ties comes_before e f ≡ false) (cons_option o (filter_map (emitting_at x) ids))
      by None here rest = rest
      by (Some f) here rest = All-cons (λ g. ties comes_before e g ≡ false) f (filter_map (emitting_at x) ids) (untied a b e f below.0 is here) rest

  pub emitting_apart : (ids : List ℕ) → IsAscending ids → Apart comes_before (filter_map (emitting_at x) ids)
  emitting_apart [] up = tt
  emitting_apart (a ∷ ids) up = by (emitting_at x a) refl (emitting_apart ids up.1)
    where
      by : (o : Option Effect) → emitting_at x a ≡ o → Apart comes_before (filter_map (emitting_at x) ids) → Apart comes_before (cons_option o (filter_map (emitting_at x) ids))
      by None here rest = rest
      by (Some e) here rest = (all_untied a e ids here up.0, rest)
