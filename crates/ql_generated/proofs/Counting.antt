-- Counts over a list that one item is added to.
use Rattle.std.proofs.Common.{◌≡◌, ℕ, zero, suc, ◌+◌, ◌≤◌, Bool, true, false, if◌then◌else◌, List, [], ◌∷◌, Some, length, take, slice_get, refl, ap, subst, ◌∙◌, arith}
use Rattle.std.specs.Prelude.{max}
use native.Mathlib.Numerals.{unary_clauses}
use Rattle.std.specs.Option.{option_map}
use Rattle.std.specs.Str.{bytes_eq}
use Rattle.ql_exec.specs.declared.effect.Effect.{Effect}
use Rattle.ql_machine.specs.declared.reply.Reply.{Reply}
use Rattle.ql_generated.specs.Summaries.{count, last_stamp, seen_count, reply_word}

abbrev pub one_if : Bool → ℕ
one_if b = if b then 1 else 0

pub count_more : (word : List ℕ) (rs : List Reply) (k : ℕ) (r : Reply) → slice_get rs k ≡ Some r → count word (take (suc k) rs) ≡ count word (take k rs) + one_if (bytes_eq (reply_word r) word)
unfolding count
count_more word [] k r at = let no : ⊥ = cc in absurd no
count_more word (x ∷ xs) zero r at =
    let same : x ≡ r = cc in
    subst (λ (y : Reply). one_if (bytes_eq (reply_word x) word) + 0 ≡ 0 + one_if (bytes_eq (reply_word y) word)) same (omega arith)
count_more word (x ∷ xs) (suc k) r at = omega (arith, count_more word xs k r at)

pub one_small : (b : Bool) → one_if b ≤ 1
one_small true = omega arith
one_small false = omega arith

pub none_counted : (word : List ℕ) (rs : List Reply) → 0 ≡ count word (take 0 rs)
unfolding count
none_counted word [] = refl
none_counted word (r ∷ rs) = refl

pub none_seen : (x : List Effect) → 0 ≡ seen_count (take 0 x)
unfolding seen_count
none_seen [] = refl
none_seen (e ∷ es) = refl

pub none_stamped : (x : List Effect) → 0 ≡ last_stamp (take 0 x)
unfolding last_stamp
none_stamped [] = refl
none_stamped (e ∷ es) = refl

pub seen_more : (x : List Effect) (k n : ℕ) → option_map (λ e. length e.seen) (slice_get x k) ≡ Some n → seen_count (take (suc k) x) ≡ seen_count (take k x) + n
unfolding seen_count
seen_more [] k n at = let no : ⊥ = cc in absurd no
seen_more (g ∷ gs) zero n at =
    let same : length g.seen ≡ n = cc in
    omega (arith, same)
seen_more (g ∷ gs) (suc k) n at = omega (arith, seen_more gs k n at)

max_both : (a b c : ℕ) → max a (max b c) ≡ max (max a b) c
max_both zero b c = simp unary_clauses refl
max_both (suc a) zero c = simp unary_clauses refl
max_both (suc a) (suc b) zero = simp unary_clauses refl
max_both (suc a) (suc b) (suc c) = simp unary_clauses (ap suc (max_both a b c))

max_none : (a : ℕ) → max a 0 ≡ max 0 a
max_none zero = refl
max_none (suc a) = simp unary_clauses refl

pub stamp_more : (x : List Effect) (k : ℕ) (e : Effect) → slice_get x k ≡ Some e → last_stamp (take (suc k) x) ≡ max (last_stamp (take k x)) e.stamp
unfolding last_stamp
stamp_more [] k e at = let no : ⊥ = cc in absurd no
stamp_more (g ∷ gs) zero e at =
    let same : g ≡ e = cc in
    subst (λ (y : Effect). max g.stamp 0 ≡ max 0 y.stamp) same (max_none g.stamp)
stamp_more (g ∷ gs) (suc k) e at = ap (max g.stamp) (stamp_more gs k e at) ∙ max_both g.stamp (last_stamp (take k gs)) e.stamp
