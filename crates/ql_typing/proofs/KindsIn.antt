use Rattle.std.proofs.Common.{◌≡◌, ◌<◌, ◌+◌, ◌-◌, ℕ, Bool, true, false, cond, List, [], ◌∷◌, ◌++◌, Option, None, Some, length, get_or, drop, refl, sym, ap, ◌∙◌, arith}
use Rattle.std.specs.Str.{bytes_eq}
use Rattle.ql_lang.specs.declared.operation.Kind.{Kind}
use Rattle.ql_typing.specs.declared.scope.Known.{Known}
use Rattle.ql_typing.specs.Kinds.{kind_in}
use Rattle.ql_typing.proofs.Each.{next_item}

-- a name of the first of two lists has its kind there
pub kind_left : (xs ys : List Known) (w : List ℕ) (k : Kind) → Some k ≡ kind_in xs w → Some k ≡ kind_in (xs ++ ys) w
unfolding kind_in
kind_left [] ys w k h =
    let no : ⊥ = cc in
    absurd no
kind_left (x ∷ xs) ys w k h = by (λ g. kind_left xs ys w k g) (bytes_eq x.word w) h
  where
    by : (Some k ≡ kind_in xs w → Some k ≡ kind_in (xs ++ ys) w) → (b : Bool) → Some k ≡ cond b (Some x.kind) (kind_in xs w) → Some k ≡ cond b (Some x.kind) (kind_in (xs ++ ys) w)
    by rest true g = g
    by rest false g = rest g

-- another has its kind in the second
pub kind_right : (xs ys : List Known) (w : List ℕ) → None ≡ kind_in xs w → kind_in ys w ≡ kind_in (xs ++ ys) w
unfolding kind_in
kind_right [] ys w h = refl
kind_right (x ∷ xs) ys w h = by (λ g. kind_right xs ys w g) (bytes_eq x.word w) h
  where
    by : (None ≡ kind_in xs w → kind_in ys w ≡ kind_in (xs ++ ys) w) → (b : Bool) → None ≡ cond b (Some x.kind) (kind_in xs w) → kind_in ys w ≡ cond b (Some x.kind) (kind_in (xs ++ ys) w)
    by rest true g =
        let no : ⊥ = cc in
        absurd no
    by rest false g = rest g

-- a name put in front has its kind, and the others theirs
pub kind_before : (known : List Known) (k : ℕ) (x : Known) (w : List ℕ) (found : Option Kind) → k < length known → x ≡ get_or known (length known - 1 - k) x
    → found ≡ kind_in (drop (length known - k) known) w
    → cond (bytes_eq x.word w) (Some x.kind) found ≡ kind_in (drop (length known - (k + 1)) known) w
unfolding kind_in
kind_before known k x w found below is so_far =
    let here : length known - 1 - k ≡ length known - (k + 1) = omega (arith, below) in
    let next : length known - (k + 1) + 1 ≡ length known - k = omega (arith, below) in
    let within : length known - (k + 1) < length known = omega (arith, below) in
    ap (λ r. cond (bytes_eq x.word w) (Some x.kind) r) (so_far ∙ ap (λ n. kind_in (drop n known) w) (sym next))
    ∙ ap (λ ks. kind_in ks w) (sym (next_item known (length known - (k + 1)) x within (is ∙ ap (λ n. get_or known n x) here)))

pub kind_nowhere : (w : List ℕ) → None ≡ kind_in [] w
unfolding kind_in
kind_nowhere w = refl
