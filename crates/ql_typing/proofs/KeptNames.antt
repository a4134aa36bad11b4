use Rattle.std.proofs.Common.{◌≡◌, ◌≤◌, ℕ, Bool, true, false, List, [], ◌∷◌, ◌++◌, if◌then◌else◌, length, take, sym, ap, ◌∙◌, arith, length-take}
use Rattle.std.proofs.lemmas.List.{take-append-le, take-take, take_all}
use Rattle.ql_base.specs.Numbering.{has_name, with_name}
use Rattle.ql_lang.specs.declared.name.Name.{Name}
use Rattle.ql_typing.specs.Faults.{names_met}

kept_front : (before names more : List (List ℕ)) → take (length before) names ≡ before → take (length before) (names ++ more) ≡ before
kept_front before names more kept =
    let long : length before ≤ length names = omega (arith, length-take (length before) names, ap length kept) in
    rw take-append-le kept

-- putting a name in keeps those that stand first
pub kept-with_name : (before names : List (List ℕ)) (w : List ℕ) → take (length before) names ≡ before → take (length before) (with_name names w) ≡ before
kept-with_name before names w kept = by (has_name names w)
  where
    by : (b : Bool) → take (length before) (if b then names else names ++ w ∷ []) ≡ before
    by true = kept
    by false = kept_front before names (w ∷ []) kept

pub kept-names_met : (before names : List (List ℕ)) (ns : List Name) → take (length before) names ≡ before → take (length before) (names_met names ns) ≡ before
unfolding names_met
kept-names_met before names [] kept = kept
kept-names_met before names (n ∷ ns) kept = kept-names_met before (with_name names n.word) ns (kept-with_name before names n.word kept)

-- what stands first in names that stand first stands first
pub kept_along : (before names more : List (List ℕ)) → take (length before) names ≡ before → take (length names) more ≡ names → take (length before) more ≡ before
kept_along before names more kept further =
    let long : length before ≤ length names = omega (arith, length-take (length before) names, ap length kept) in
    sym (take-take (length before) (length names) more long) ∙ ap (λ ns. take (length before) ns) further ∙ kept

pub kept_whole : (names : List (List ℕ)) → take (length names) names ≡ names
kept_whole names = take_all (length names) names (omega arith)
