-- A list that is sorted stably is the one that insertion makes.
use Rattle.std.proofs.Common.{◌≡◌, ◌+◌, suc, Bool, true, false, not, ◌&&◌, cond, List, [], ◌∷◌, ◌++◌, All, filter, get_or, refl, sym, ap, ◌∙◌, subst, arith}
use Rattle.std.specs.Cmp.{IsStrictWeakOrder}
use Rattle.std.specs.List.Sorted.{IsSortedBy, ties}
use Rattle.std.proofs.lemmas.List.{append-nil}
use Rattle.std.proofs.lemmas.List.Elements.{All-cons, All-filter, All-head, All-tail}
use Rattle.std.proofs.lemmas.List.Sorted.{sorted_far}

pub both : (a b : Bool) → (a && b) ≡ true → (a ≡ true) × (b ≡ true)
both true true h = (refl, refl)
both true false h = cc
both false b h = cc

pub denied : (b : Bool) → not b ≡ true → b ≡ false
denied true h = cc
denied false h = refl

module _ {X : Type 0} where
  pub none_pass : (p : X → Bool) (ys : List X) → All (λ z. p z ≡ false) ys → filter p ys ≡ []
  none_pass p [] h = refl
  none_pass p (y ∷ ys) h = rw (All-head (λ z. p z ≡ false) y ys h) (none_pass p ys (All-tail (λ z. p z ≡ false) y ys h))

  first_is : (x y : X) (xs ys : List X) → x ∷ xs ≡ y ∷ ys → x ≡ y
  first_is x y xs ys e = cc

  others_are : (x y : X) (xs ys : List X) → x ∷ xs ≡ y ∷ ys → xs ≡ ys
  others_are x y xs ys e = cc

  filter_rest : (b : Bool) (y : X) (us vs : List X) → cond b (y ∷ us) us ≡ cond b (y ∷ vs) vs → us ≡ vs
  filter_rest true y us vs e = others_are y y us vs e
  filter_rest false y us vs e = e

module _ {X : Type 0} (lt : X → X → Bool) where
  -- each element stands before no lesser one
  abbrev pub Rises : List X → Type 0
  Rises [] = Unit {0}
  Rises (y ∷ ys) = All (λ z. lt z y ≡ false) ys × Rises ys

  -- x in its place, behind those that tie with it
  abbrev pub put : X → List X → List X
  put x [] = x ∷ []
  put x (y ∷ ys) = cond (lt x y) (x ∷ y ∷ ys) (y ∷ put x ys)

module _ {X : Type 0} (lt : X → X → Bool) (o : IsStrictWeakOrder lt) where
  itself : (x : X) → lt x x ≡ false
  itself x = by (lt x x) refl
    where
      by : (b : Bool) → lt x x ≡ b → b ≡ false
      by true e = sym e ∙ o.one_way x x e
      by false e = refl

  tied_itself : (x : X) → ties lt x x ≡ true
  tied_itself x = rw (itself x) refl

  pub rises : (ys : List X) → IsSortedBy lt ys → Rises lt ys
  rises [] up = tt
  rises (y ∷ ys) up = (
    λ k d below. sorted_far lt o (y ∷ ys) up 0 (suc k) d (omega arith) (omega arith),
    rises ys (λ k d low below.
        let next : suc k + 1 ≡ suc (k + 1) = omega arith in
        subst (λ n. lt (get_or (y ∷ ys) n d) (get_or ys k d) ≡ false) next (up (suc k) d (omega arith) (omega arith))),
  )

  put_all : (P : X → Type 0) (x : X) (ys : List X) → P x → All P ys → All P (put lt x ys)
  put_all P x [] here all = All-cons P x [] here all
  put_all P x (y ∷ ys) here all = by (lt x y) (put_all P x ys here (All-tail P y ys all))
    where
      by : (b : Bool) → All P (put lt x ys) → All P (cond b (x ∷ y ∷ ys) (y ∷ put lt x ys))
      by true rest = All-cons P x (y ∷ ys) here all
      by false rest = All-cons P y (put lt x ys) (All-head P y ys all) rest

  pub put_rises : (x : X) (ys : List X) → Rises lt ys → Rises lt (put lt x ys)
  put_rises x [] up = (λ k d below. absurd (omega arith), tt)
  put_rises x (y ∷ ys) up = by (lt x y) refl (put_rises x ys up.1)
    where
      by : (b : Bool) → lt x y ≡ b → Rises lt (put lt x ys) → Rises lt (cond b (x ∷ y ∷ ys) (y ∷ put lt x ys))
      by true e rest = (All-cons (λ z. lt z x ≡ false) y ys (o.one_way x y e) (λ k d below. o.chain (get_or ys k d) y x (up.0 k d below) (o.one_way x y e)), up)
      by false e rest = (put_all (λ z. lt z y ≡ false) x ys e up.0, rest)

  -- what isn't below something above x is above x and what ties with it
  above_ties : (w x y z : X) → ties lt w x ≡ true → lt x y ≡ true → lt z y ≡ false → ties lt w z ≡ false
  above_ties w x y z tie e low = by (lt w z) refl
    where
      back : lt x w ≡ false
      back = denied (lt x w) (both (not (lt w x)) (not (lt x w)) tie).1

      by : (b : Bool) → lt w z ≡ b → ties lt w z ≡ false
      by true h = rw h refl
      by false h =
          let no : true ≡ false = sym e ∙ o.chain x z y (o.chain x w z back h) low in
          absurd cc

  pub put_ties : (w x : X) (ys : List X) → Rises lt ys → filter (ties lt w) (put lt x ys) ≡ filter (ties lt w) ys ++ filter (ties lt w) (x ∷ [])
  put_ties w x [] up = refl
  put_ties w x (y ∷ ys) up = by (lt x y) refl (put_ties w x ys up.1)
    where
      later : (b : Bool) → filter (ties lt w) (put lt x ys) ≡ filter (ties lt w) ys ++ filter (ties lt w) (x ∷ [])
          → cond b (y ∷ filter (ties lt w) (put lt x ys)) (filter (ties lt w) (put lt x ys)) ≡ cond b (y ∷ filter (ties lt w) ys) (filter (ties lt w) ys) ++ filter (ties lt w) (x ∷ [])
      later true rest = ap (λ zs. y ∷ zs) rest
      later false rest = rest

      here : (b : Bool) → ties lt w x ≡ b → lt x y ≡ true → cond b (x ∷ filter (ties lt w) (y ∷ ys)) (filter (ties lt w) (y ∷ ys)) ≡ filter (ties lt w) (y ∷ ys) ++ cond b (x ∷ []) []
      here false h e = sym (append-nil (filter (ties lt w) (y ∷ ys)))
      here true h e =
          let none : filter (ties lt w) (y ∷ ys) ≡ [] =
          none_pass (ties lt w) (y ∷ ys) (All-cons (λ z. ties lt w z ≡ false) y ys (above_ties w x y y h e (itself y)) (λ k d below. above_ties w x y (get_or ys k d) h e (up.0 k d below))) in
          rw none refl

      by : (b : Bool) → lt x y ≡ b → filter (ties lt w) (put lt x ys) ≡ filter (ties lt w) ys ++ filter (ties lt w) (x ∷ [])
          → filter (ties lt w) (cond b (x ∷ y ∷ ys) (y ∷ put lt x ys)) ≡ filter (ties lt w) (y ∷ ys) ++ filter (ties lt w) (x ∷ [])
      by true e rest = here (ties lt w x) refl e
      by false e rest = later (ties lt w y) rest

  filter_first : (y : X) (ys : List X) → filter (ties lt y) (y ∷ ys) ≡ y ∷ filter (ties lt y) ys
  filter_first y ys = rw (tied_itself y) refl

  -- y stands among what z doesn't follow
  not_below : (y z : X) (ys zs : List X) → All (λ u. lt u z ≡ false) zs → filter (ties lt y) (y ∷ ys) ≡ filter (ties lt y) (z ∷ zs) → lt y z ≡ false
  not_below y z ys zs up same =
      let all : All (λ u. lt u z ≡ false) (z ∷ zs) = All-cons (λ u. lt u z ≡ false) z zs (itself z) up in
      let some = subst (All (λ u. lt u z ≡ false)) (sym same ∙ filter_first y ys) (All-filter (ties lt y) (λ u. lt u z ≡ false) (z ∷ zs) all) in
      All-head (λ u. lt u z ≡ false) y (filter (ties lt y) ys) some

  -- two lists in order that agree on what ties are one
  pub one_order : (ys zs : List X) → Rises lt ys → Rises lt zs → ((w : X) → filter (ties lt w) ys ≡ filter (ties lt w) zs) → ys ≡ zs
  one_order [] [] up vp same = refl
  one_order [] (z ∷ zs) up vp same =
      let no : [] ≡ z ∷ filter (ties lt z) zs = same z ∙ filter_first z zs in
      cc
  one_order (y ∷ ys) [] up vp same =
      let no : [] ≡ y ∷ filter (ties lt y) ys = sym (same y) ∙ filter_first y ys in
      cc
  one_order (y ∷ ys) (z ∷ zs) up vp same =
      let tie : ties lt y z ≡ true = rw (not_below y z ys zs vp.0 (same y), not_below z y zs ys up.0 (sym (same z))) refl in
      let heads : y ∷ filter (ties lt y) ys ≡ z ∷ filter (ties lt y) zs = sym (filter_first y ys) ∙ same y ∙ rw tie refl in
      let first = first_is y z _ _ heads in
      let rest = one_order ys zs up.1 vp.1 (λ w. filter_rest (ties lt w y) y (filter (ties lt w) ys) (filter (ties lt w) zs) (same w ∙ ap (λ u. filter (ties lt w) (u ∷ zs)) (sym first))) in
      ap (λ u. u ∷ ys) first ∙ ap (λ us. z ∷ us) rest

  put_first : (x : X) (zs : List X) → All (λ z. lt x z ≡ true) zs → put lt x zs ≡ x ∷ zs
  put_first x [] above = refl
  put_first x (z ∷ zs) above = rw (All-head (λ u. lt x u ≡ true) z zs above) refl

  -- x stands before the first that is above it, and so before all later ones
  all_above : (x y : X) (ys : List X) → lt x y ≡ true → All (λ z. lt z y ≡ false) ys → All (λ z. lt x z ≡ true) (y ∷ ys)
  all_above x y ys e up = All-cons (λ z. lt x z ≡ true) y ys e (λ k d below. above (get_or ys k d) (up k d below))
    where
      above : (z : X) → lt z y ≡ false → lt x z ≡ true
      above z low = by (lt x z) refl
        where
          by : (b : Bool) → lt x z ≡ b → lt x z ≡ true
          by true h = h
          by false h =
              let no : true ≡ false = sym e ∙ o.chain x z y h low in
              absurd cc

  -- whether or not elements are left out, the others have the same order
  pub filter_put : (p : X → Bool) (x : X) (ys : List X) → Rises lt ys → filter p (put lt x ys) ≡ cond (p x) (put lt x (filter p ys)) (filter p ys)
  filter_put p x [] up = refl
  filter_put p x (y ∷ ys) up = by (lt x y) refl (filter_put p x ys up.1)
    where
      later : (a b : Bool) (us vs : List X) → us ≡ cond b (put lt x vs) vs → lt x y ≡ false
          → cond a (y ∷ us) us ≡ cond b (put lt x (cond a (y ∷ vs) vs)) (cond a (y ∷ vs) vs)
      later true true us vs same e = rw e (ap (λ ws. y ∷ ws) same)
      later true false us vs same e = ap (λ ws. y ∷ ws) same
      later false true us vs same e = same
      later false false us vs same e = same

      by : (b : Bool) → lt x y ≡ b → filter p (put lt x ys) ≡ cond (p x) (put lt x (filter p ys)) (filter p ys)
          → filter p (cond b (x ∷ y ∷ ys) (y ∷ put lt x ys)) ≡ cond (p x) (put lt x (filter p (y ∷ ys))) (filter p (y ∷ ys))
      by true e rest =
          let first = put_first x (filter p (y ∷ ys)) (All-filter p (λ z. lt x z ≡ true) (y ∷ ys) (all_above x y ys e up.0)) in
          ap (λ zs. cond (p x) zs (filter p (y ∷ ys))) (sym first)
      by false e rest = later (p y) (p x) (filter p (put lt x ys)) (filter p ys) rest e
