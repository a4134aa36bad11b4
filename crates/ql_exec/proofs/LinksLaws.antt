-- The table of the effect before each one in its session goes on with the execution.
use Rattle.std.proofs.Common.{◌≡◌, ℕ, zero, suc, ◌≤◌, true, get_or, take, List, [], ◌∷◌, ◌++◌, length, Some, None, refl, ap, sym, ◌∙◌, inl, inr, arith, length-append}
use Rattle.std.proofs.lemmas.Option.{same_Some, slice_get-get_or}
use Rattle.std.proofs.lemmas.Bool.{cases_lt}
use Rattle.std.proofs.lemmas.List.{get_or-take, get_or_append_left, length-take-le}
use Rattle.std.proofs.Math.Seq.{get_or-append_seam}
use Rattle.ql_exec.specs.declared.effect.Effect.{Effect}
use Rattle.ql_base.specs.declared.ids.SessId.{SessId}
use Rattle.ql_exec.specs.Effects.{effect_at, of_session, last}
use Rattle.ql_exec.specs.Latest.{IsLastOf}
use Rattle.ql_exec.specs.Links.{IsLink, HasLinks}
use Rattle.ql_exec.specs.Relations.{so}
use Rattle.ql_exec.proofs.Finding.{effect_at-within, effect_at-append, effect_at-last, LastIs, nothing, effect, last_is, so_parts, so_from}
use Rattle.ql_exec.proofs.Law.{so-front}

-- ---- in a longer list

link-kept : (x more : List Effect) (e before : ℕ) → e ≤ length x → IsLink x e before → IsLink (x ++ more) e before
link-kept x more e before within link = (
  λ some.
      let is = link.0 some in
      let less = (so_parts x before e is).less in
      so-front x more before e (omega (arith, less, within)) within ∙ is,
  λ a is.
      let less = (so_parts (x ++ more) a e is).less in
      link.1 a (sym (so-front x more a e (omega (arith, less, within)) within) ∙ is),
)

link-front : (x more : List Effect) (e before : ℕ) → e ≤ length x → IsLink (x ++ more) e before → IsLink x e before
link-front x more e before within link = (
  λ some.
      let is = link.0 some in
      let less = (so_parts (x ++ more) before e is).less in
      sym (so-front x more before e (omega (arith, less, within)) within) ∙ is,
  λ a is.
      let less = (so_parts x a e is).less in
      link.1 a (so-front x more a e (omega (arith, less, within)) within ∙ is),
)

-- ---- of the last effect

not_there : (x : List Effect) (k : ℕ) → suc k ≤ length x → effect_at x (suc k) ≡ None → ⊥
not_there [] k within is = omega (arith, within)
not_there (e ∷ x) k within is = let here : Some (get_or (e ∷ x) k e) ≡ None = sym (slice_get-get_or (e ∷ x) k e (omega (arith, within))) ∙ is in cc

-- a session has one last effect
pub only_last : (x : List Effect) (s : SessId) (a b : ℕ) → IsLastOf x s a → IsLastOf x s b → a ≡ b
only_last x s a b first second = one (last_is x s)
  where
    none_at : (id : ℕ) → IsLastOf x s id → last (of_session x s) ≡ None → id ≡ 0
    none_at zero known none = refl
    none_at (suc k) known none = absurd (not_there x k known.0 (known.1 ∙ none))

    one : LastIs x s → a ≡ b
    one (nothing none absent) = none_at a first none ∙ sym (none_at b second none)
    one (effect id f is at own highest) =
        let low = first.2 b f (second.1 ∙ is) own in
        let high = second.2 a f (first.1 ∙ is) own in
        omega (arith, low, high)

link-new : (x : List Effect) (e : Effect) (before : ℕ) → IsLastOf x e.session before → IsLink (x ++ e ∷ []) (suc (length x)) before
link-new x e before known = (there (last_is x e.session), high)
  where
    there : LastIs x e.session → 1 ≤ before → so (x ++ e ∷ []) before (suc (length x)) ≡ true
    there (nothing none absent) some = absurd (nowhere before some known.0 (known.1 ∙ none))
      where
        nowhere : (id : ℕ) → 1 ≤ id → id ≤ length x → effect_at x id ≡ None → ⊥
        nowhere zero first within is = omega (arith, first)
        nowhere (suc k) first within is = not_there x k within is
    there (effect id f is at own highest) some =
        let low = known.0 in
        so_from (x ++ e ∷ []) before (suc (length x)) f e (effect_at-append x (e ∷ []) before low ∙ known.1 ∙ is) (effect_at-last x e) own (omega (arith, low))

    high : (a : ℕ) → so (x ++ e ∷ []) a (suc (length x)) ≡ true → a ≤ before
    high a is =
        let order = so_parts (x ++ e ∷ []) a (suc (length x)) is in
        let less = order.less in
        let same : order.second ≡ e = same_Some order.second e (sym order.second_at ∙ effect_at-last x e) in
        known.2 a order.first (sym (effect_at-append x (e ∷ []) a (omega (arith, less))) ∙ order.first_at) (order.one_session ∙ ap (λ (f : Effect). f.session.0) same)

pub link-last : (x : List Effect) (e : Effect) (before : ℕ) → IsLink (x ++ e ∷ []) (suc (length x)) before → IsLastOf x e.session before
link-last x e before link = (low before link.0, found before link high (last_is x e.session), high)
  where
    high : (a : ℕ) (f : Effect) → effect_at x a ≡ Some f → f.session.0 ≡ e.session.0 → a ≤ before
    high a f at own =
        let within = effect_at-within x a f at in
        link.1 a (so_from (x ++ e ∷ []) a (suc (length x)) f e (effect_at-append x (e ∷ []) a within ∙ at) (effect_at-last x e) own (omega (arith, within)))

    low : (id : ℕ) → (1 ≤ id → so (x ++ e ∷ []) id (suc (length x)) ≡ true) → id ≤ length x
    low zero is = omega arith
    low (suc k) is = let less = (so_parts (x ++ e ∷ []) (suc k) (suc (length x)) (is (omega arith))).less in omega (arith, less)

    first : (id : ℕ) (f : Effect) → effect_at x id ≡ Some f → 1 ≤ id
    first zero f is = let never : None ≡ Some f = is in cc
    first (suc k) f is = omega arith

    found : (id : ℕ) → IsLink (x ++ e ∷ []) (suc (length x)) id → ((a : ℕ) (f : Effect) → effect_at x a ≡ Some f → f.session.0 ≡ e.session.0 → a ≤ id)
        → LastIs x e.session → effect_at x id ≡ last (of_session x e.session)
    found zero _ none (nothing is absent) = sym is
    found zero _ none (effect id f is at own highest) = absurd (let some = first id f at in let few = none id f at own in omega (arith, some, few))
    found (suc k) here highest_here known =
        let order = so_parts (x ++ e ∷ []) (suc k) (suc (length x)) (here.0 (omega arith)) in
        let less = order.less in
        let at_k : effect_at x (suc k) ≡ Some order.first = sym (effect_at-append x (e ∷ []) (suc k) (omega (arith, less))) ∙ order.first_at in
        let same : order.second ≡ e = same_Some order.second e (sym order.second_at ∙ effect_at-last x e) in
        let its : order.first.session.0 ≡ e.session.0 = order.one_session ∙ ap (λ (f : Effect). f.session.0) same in
        one k order.first at_k its highest_here known
      where
        one : (k : ℕ) (g : Effect) → effect_at x (suc k) ≡ Some g → g.session.0 ≡ e.session.0 → ((a : ℕ) (f : Effect) → effect_at x a ≡ Some f → f.session.0 ≡ e.session.0 → a ≤ suc k)
            → LastIs x e.session → effect_at x (suc k) ≡ last (of_session x e.session)
        one k g at_k its top (nothing none absent) = absurd (absent (suc k) g at_k its)
        one k g at_k its top (effect id f is at own highest) =
            let above = highest (suc k) g at_k its in
            let below = top id f at own in
            let same : suc k ≡ id = omega (arith, above, below) in
            ap (effect_at x) same ∙ at ∙ sym is

-- ---- the table

pub HasLinks-push : (links : List ℕ) (x : List Effect) (e : Effect) (before : ℕ) → IsLastOf x e.session before → HasLinks links x → HasLinks (links ++ before ∷ []) (x ++ e ∷ [])
HasLinks-push links x e before known table = (
  (let same = table.0 in omega (arith, same, length-append links (before ∷ []), length-append x (e ∷ []))),
  λ k inside. elim (cases_lt k (length x)) [
    | inl front ↦
        let same = table.0 in
        rw (get_or_append_left links (before ∷ []) 0 k (omega (arith, same, front)))
        (link-kept x (e ∷ []) (suc k) (get_or links k 0) (omega (arith, front)) (table.1 k front))
    | inr behind ↦
        let same = table.0 in
        let end : k ≡ length links = omega (arith, behind, inside, same, length-append x (e ∷ [])) in
        rw (end, get_or-append_seam links before [] 0, same) (link-new x e before known)
  ],
)

pub HasLinks-front : (links : List ℕ) (x more : List Effect) → HasLinks links (x ++ more) → HasLinks (take (length x) links) x
HasLinks-front links x more table = (
  (let same = table.0 in length-take-le (length x) links (omega (arith, same, length-append x more))),
  λ k inside. rw (get_or-take (length x) links k 0 inside)
      (link-front x more (suc k) (get_or links k 0) (omega (arith, inside)) (table.1 k (omega (arith, inside, length-append x more)))),
)
