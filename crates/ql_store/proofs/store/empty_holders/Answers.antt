use Rattle.std.proofs.Common.{◌≡◌, ◌+◌, ℕ, zero, suc, List, [], ◌∷◌, ◌++◌, ◌∙◌, ap, map, refl, replicate, arith}
use Rattle.std.proofs.lemmas.List.{map_push}
use Rattle.std.proofs.lemmas.List.Elements.{All-push}
use Rattle.ql_store.proofs.store.empty_holders.Goals as goal

one_more : {A : Type 0} (a : A) (n : ℕ) → replicate n a ++ a ∷ [] ≡ replicate (suc n) a
one_more a zero = refl
one_more {A = A} a (suc n) = ap (λ (xs : List A). a ∷ xs) (one_more a n)

pub loop-r-preserved : goal.loop-r-preserved
loop-r-preserved g c =
    let items = c.loop-r.holders.items in
    let next : suc c.loop-r._r ≡ c.loop-r._r + 1 = omega arith in
    rw c.in_ok-push.ensures.items (
      map_push g.H.Holder.received items c.empty.result
          ∙ ap (λ (ids : List ℕ). map g.H.Holder.received items ++ ids ∷ []) c.empty.ensures.nothing
          ∙ ap (λ (lists : List (List ℕ)). lists ++ [] ∷ []) c.loop-r.invariant.0
          ∙ one_more {A = List ℕ} [] c.loop-r._r ∙ ap (λ (n : ℕ). replicate n []) next,
      λ x. All-push (λ h. g.H.Holder.fits h x) items c.empty.result (c.loop-r.invariant.1 x) (c.empty.ensures.fits x),
    )

pub returns-clause-received : goal.returns-clause-received
returns-clause-received g c =
    let at = c.loop-r.auto._r-end in
    let past = c.loop-r-test.false in
    let count : c.loop-r._r ≡ c.args.replicas = omega (arith, at, past) in
    c.loop-r.invariant.0 ∙ ap (λ (n : ℕ). replicate n []) count

pub returns-clause-fit : goal.returns-clause-fit
returns-clause-fit g c = c.loop-r.invariant.1
