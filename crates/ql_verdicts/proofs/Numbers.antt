-- objects are numbered by the first occurrence of their names
use Rattle.std.proofs.Common.{◌≡◌, ℕ, ◌<◌, ◌+◌, true, false, ◌||◌, List, [], ◌∷◌, ◌++◌, length, get_or, arith, refl, ap, sym, subst, ◌∙◌, append_assoc, lt-ltb}
use Rattle.std.specs.Prelude.{if◌then◌else◌}
use Rattle.std.specs.List.{AllByRecursion, position_or_len}
use Rattle.std.specs.Str.{bytes_eq}
use Rattle.std.proofs.lemmas.Bool.{false≢true}
use Rattle.std.proofs.lemmas.List.{append-nil}
use Rattle.std.proofs.lemmas.List.Sums.{passes_at_first}
use Rattle.std.proofs.lemmas.Slice.Eq.{bytes_eq-Decides}
use Rattle.ql_base.specs.Numbering.{has_name, with_name}
use Rattle.ql_exec.specs.declared.effect.Effect.{Effect}
use Rattle.ql_effect_lines.specs.Effects.{object_number}
use Rattle.ql_report.specs.EffectTexts.{object_name}

-- the first occurrence of a name
abbrev pub first_of : List (List ℕ) → List ℕ → ℕ
first_of names w = position_or_len (bytes_eq w) names

-- a name that is there is found, and at the same place in a longer list
found : (w : List ℕ) (xs : List (List ℕ)) → has_name xs w ≡ true → first_of xs w < length xs
found w [] h = absurd (false≢true h)
found w (x ∷ xs) h = elim (bytes_eq w x) as (λ t. bytes_eq w x ≡ t → first_of (x ∷ xs) w < length (x ∷ xs)) [
  | true ↦ λ e. rw e (omega arith)
  | false ↦ λ e. let more = found w xs (rw e at h) in rw e (omega (arith, more))
] refl

stays : (w : List ℕ) (xs ys : List (List ℕ)) → has_name xs w ≡ true → first_of (xs ++ ys) w ≡ first_of xs w
stays w [] ys h = absurd (false≢true h)
stays w (x ∷ xs) ys h = elim (bytes_eq w x) as (λ t. bytes_eq w x ≡ t → first_of (x ∷ (xs ++ ys)) w ≡ first_of (x ∷ xs) w) [
  | true ↦ λ e. rw e refl
  | false ↦ λ e. let more = stays w xs ys (rw e at h) in rw e (ap (λ n. 1 + n) more)
] refl

-- a name that is put in is there
there : (names : List (List ℕ)) (w : List ℕ) → has_name (with_name names w) w ≡ true
there names w = elim (has_name names w) as (λ t. has_name names w ≡ t → has_name (if t then names else names ++ w ∷ []) w ≡ true) [
  | true ↦ λ e. e
  | false ↦ λ e. at_end names
] refl
  where
    at_end : (ns : List (List ℕ)) → has_name (ns ++ w ∷ []) w ≡ true
    at_end [] = rw ((bytes_eq-Decides w w).1 refl) refl
    at_end (n ∷ ns) = elim (bytes_eq w n) as (λ t. (t || has_name (ns ++ w ∷ []) w) ≡ true) [ true ↦ refl | false ↦ at_end ns ]

-- the number that a reader gives a name
numbered_as : (names : List (List ℕ)) (w : List ℕ) → object_number names w ≡ first_of (with_name names w) w
numbered_as names w = rw (lt-ltb (first_of (with_name names w) w) (length (with_name names w)) (found w (with_name names w) (there names w))) refl

-- putting in keeps what is there
with_more : (names : List (List ℕ)) (w : List ℕ) → (more : List (List ℕ)) × (with_name names w ≡ names ++ more)
with_more names w = elim (has_name names w) as (λ t. (more : List (List ℕ)) × ((if t then names else names ++ w ∷ []) ≡ names ++ more)) [
  | true ↦ ([], sym (append-nil names))
  | false ↦ (w ∷ [], refl)
]

module _ (objects : List (List ℕ)) where
  abbrev pub name_of : Effect → List ℕ
  name_of e = object_name objects e.object.0

  -- names with those of effects put in
  unfoldable pub grown : List (List ℕ) → List Effect → List (List ℕ)
  grown names [] = names
  grown names (e ∷ es) = grown (with_name names (name_of e)) es

  grown_more : (es : List Effect) (names : List (List ℕ)) → (more : List (List ℕ)) × (grown names es ≡ names ++ more)
  unfolding grown
  grown_more [] names = ([], sym (append-nil names))
  grown_more (e ∷ es) names =
      let first = with_more names (name_of e) in
      let rest = grown_more es (with_name names (name_of e)) in (
        first.0 ++ rest.0,
        rest.1 ∙ ap (λ ns. ns ++ rest.0) first.1 ∙ append_assoc names first.0 rest.0,
      )

  known_stays : (w : List ℕ) (names : List (List ℕ)) (es : List Effect) → has_name names w ≡ true → first_of (grown names es) w ≡ first_of names w
  known_stays w names es h = let more = grown_more es names in ap (λ ns. first_of ns w) more.1 ∙ stays w names more.0 h

  -- the number that a reader gives the next effect's object is that of the last list of names
  pub next_number : (names : List (List ℕ)) (e : Effect) (es : List Effect) → object_number names (name_of e) ≡ first_of (grown names (e ∷ es)) (name_of e)
  unfolding grown
  next_number names e es =
      numbered_as names (name_of e) ∙ sym (known_stays (name_of e) (with_name names (name_of e)) es (there names (name_of e)))

  -- the names of all effects are in the last list
  kept_name : (w : List ℕ) (names : List (List ℕ)) (es : List Effect) → first_of names w < length names → first_of (grown names es) w < length (grown names es)
  kept_name w names es h = let more = grown_more es names in keeps more.0 more.1
    where
      longer : (xs ys : List (List ℕ)) → first_of xs w < length xs → first_of (xs ++ ys) w < length (xs ++ ys)
      longer [] ys less = absurd (omega (arith, less))
      longer (x ∷ xs) ys less = elim (bytes_eq w x) as (λ t. bytes_eq w x ≡ t → first_of (x ∷ (xs ++ ys)) w < length (x ∷ (xs ++ ys))) [
        | true ↦ λ e. rw e (omega arith)
        | false ↦ λ e.
            let shorter : first_of xs w < length xs = (let old = rw e at less in omega (arith, old)) in
            let more = longer xs ys shorter in
            rw e (omega (arith, more))
      ] refl

      keeps : (more : List (List ℕ)) → grown names es ≡ names ++ more → first_of (grown names es) w < length (grown names es)
      keeps more is = subst (λ ns. first_of ns w < length ns) (sym is) (longer names more h)

  pub all_kept : (es : List Effect) (names : List (List ℕ)) → AllByRecursion (λ e. first_of (grown names es) (name_of e) < length (grown names es)) es
  unfolding grown
  all_kept [] names = tt
  all_kept (e ∷ es) names = (kept_name (name_of e) (with_name names (name_of e)) es (found (name_of e) (with_name names (name_of e)) (there names (name_of e))), all_kept es (with_name names (name_of e)))

-- two names with one number are the same
pub one_name : (names : List (List ℕ)) (w v : List ℕ) → first_of names w < length names → first_of names v < length names → first_of names w ≡ first_of names v → w ≡ v
one_name names w v w_in v_in same =
    let first : w ≡ get_or names (first_of names w) [] = (bytes_eq-Decides w (get_or names (first_of names w) [])).0 (passes_at_first (bytes_eq w) names [] w_in) in
    let second : v ≡ get_or names (first_of names v) [] = (bytes_eq-Decides v (get_or names (first_of names v) [])).0 (passes_at_first (bytes_eq v) names [] v_in) in
    first ∙ ap (λ k. get_or names k []) same ∙ sym second
