-- The slim form of an execution: effect by effect, and that it is an execution.
use Rattle.std.proofs.Common.{◌≡◌, ◌+◌, ℕ, zero, suc, Bool, true, false, cond, if◌then◌else◌, List, [], ◌∷◌, ◌++◌, map, length, take, drop, Some, slice_get, refl, sym, ap, ◌∙◌, subst, arith, add-one}
use Rattle.std.specs.Option.{option_map}
use Rattle.ql_exec.specs.declared.effect.Draft.{Draft}
use Rattle.ql_exec.specs.declared.effect.Effect.{Effect}
use Rattle.ql_exec.specs.Effects.{effect_at}
use Rattle.ql_exec.specs.Execution.{IsExecution, effect_of, stamp_of, with_stamp}
use Rattle.ql_exec.proofs.Law.{IsExecution-front}
use Rattle.ql_summary.specs.declared.kept.KeptObject.{KeptObject}
use Rattle.ql_summary.specs.Keeping.{is_kept}
use Rattle.ql_summary.specs.Slimming.{bare, slim_effect, slim_from, slim_of}
use Rattle.ql_summary.proofs.IdParts.{front_and}
use Rattle.ql_summary.proofs.Shapes.{still_execution}

pub bare_slim : (kept : List KeptObject) (id : ℕ) (e : Effect) → bare (slim_effect kept id e) ≡ bare e
bare_slim kept id e = by (is_kept kept id)
  where
    by : (b : Bool) → bare (if b then bare e else e) ≡ bare e
    by true = refl
    by false = refl

bare_from : (kept : List KeptObject) (id : ℕ) (x : List Effect) → map bare (slim_from kept id x) ≡ map bare x
bare_from kept id [] = refl
bare_from kept id (e ∷ x) = rw (bare_slim kept id e, bare_from kept (suc id) x) refl

pub bare_slims : (kept : List KeptObject) (x : List Effect) → map bare (slim_of kept x) ≡ map bare x
bare_slims kept x = bare_from kept 1 x

pub slim_execution : (kept : List KeptObject) (x : List Effect) → IsExecution x → IsExecution (slim_of kept x)
slim_execution kept x law = still_execution x (slim_of kept x) (sym (bare_slims kept x)) law

slim_from_at : (kept : List KeptObject) (id : ℕ) (x : List Effect) (k : ℕ) → slice_get (slim_from kept id x) k ≡ option_map (slim_effect kept (id + k)) (slice_get x k)
slim_from_at kept id [] k = refl
slim_from_at kept id (e ∷ x) zero = let same : id ≡ id + 0 = omega arith in ap (λ n. Some (slim_effect kept n e)) same
slim_from_at kept id (e ∷ x) (suc k) = let same : suc id + k ≡ id + suc k = omega arith in slim_from_at kept (suc id) x k ∙ ap (λ n. option_map (slim_effect kept n) (slice_get x k)) same

pub slim_at : (kept : List KeptObject) (x : List Effect) (a : ℕ) → effect_at (slim_of kept x) a ≡ option_map (slim_effect kept a) (effect_at x a)
slim_at kept x zero = refl
slim_at kept x (suc k) = let same : 1 + k ≡ suc k = omega arith in slim_from_at kept 1 x k ∙ ap (λ n. option_map (slim_effect kept n) (slice_get x k)) same

slim_from_more : (kept : List KeptObject) (id : ℕ) (x y : List Effect) → slim_from kept id (x ++ y) ≡ slim_from kept id x ++ slim_from kept (id + length x) y
slim_from_more kept id [] y = let same : id ≡ id + 0 = omega arith in ap (λ n. slim_from kept n y) same
slim_from_more kept id (e ∷ x) y =
    let same : suc id + length x ≡ id + suc (length x) = omega arith in
    ap (λ es. slim_effect kept id e ∷ es) (slim_from_more kept (suc id) x y ∙ ap (λ n. slim_from kept (suc id) x ++ slim_from kept n y) same)

pub slim_length : (kept : List KeptObject) (id : ℕ) (x : List Effect) → length (slim_from kept id x) ≡ length x
slim_length kept id [] = refl
slim_length kept id (e ∷ x) = ap suc (slim_length kept (suc id) x)

-- ---- one effect more

pub record IsNext (kept : List KeptObject) (x : List Effect) (k : ℕ) (small : List Effect) (draft : Draft) : Type 0 where
  pub execution : IsExecution (small ++ effect_of small draft ∷ [])
  pub is : small ++ effect_of small draft ∷ [] ≡ slim_of kept (take (suc k) x)

pub next_slim : (kept : List KeptObject) (x small : List Effect) (k : ℕ) (e : Effect) (draft : Draft) → IsExecution x → slice_get x k ≡ Some e → small ≡ slim_of kept (take k x) → with_stamp draft e.stamp ≡ slim_effect kept (suc k) e
    → IsNext kept x k small draft
next_slim kept x small k e draft law at done is =
    let cut = front_and x k e at in
    let s = slim_effect kept (suc k) e in
    let rest = slim_from kept (suc (suc k)) (drop (suc k) x) in
    let number : 1 + length (take k x) ≡ suc k = omega (arith, cut.2) in
    let whole : slim_of kept x ≡ small ++ s ∷ rest =
    ap (slim_of kept) cut.0 ∙ slim_from_more kept 1 (take k x) (e ∷ drop (suc k) x) ∙ ap (λ n. slim_of kept (take k x) ++ slim_from kept n (e ∷ drop (suc k) x)) number ∙ ap (λ es. es ++ s ∷ rest) (sym done) in
    let slim_law : IsExecution (small ++ s ∷ rest) = subst IsExecution whole (slim_execution kept x law) in
    let stamp : s.stamp ≡ stamp_of small s.session s.seen = slim_law.stamped small s rest refl in
    let own : e.stamp ≡ s.stamp = ap (λ (f : Effect). f.stamp) is in
    let session : draft.session ≡ s.session = ap (λ (f : Effect). f.session) is in
    let seen : draft.seen ≡ s.seen = ap (λ (f : Effect). f.seen) is in
    let now : stamp_of small draft.session draft.seen ≡ e.stamp = rw (session, seen) (sym stamp) ∙ sym own in
    let made : effect_of small draft ≡ s = ap (with_stamp draft) now ∙ is in
    let split : small ++ s ∷ rest ≡ (small ++ s ∷ []) ++ rest = sym (append_one small s rest) in
    record {
      execution = rw made (IsExecution-front (small ++ s ∷ []) rest (subst IsExecution split slim_law));
      is = rw made (ap (λ es. es ++ s ∷ []) done ∙ ap (λ n. slim_of kept (take k x) ++ slim_from kept n (e ∷ [])) (sym number) ∙ sym (slim_from_more kept 1 (take k x) (e ∷ [])) ∙ ap (slim_of kept) (sym cut.1));
    }
  where
    append_one : (es : List Effect) (g : Effect) (fs : List Effect) → (es ++ g ∷ []) ++ fs ≡ es ++ g ∷ fs
    append_one [] g fs = refl
    append_one (f ∷ es) g fs = ap (λ gs. f ∷ gs) (append_one es g fs)

-- one turn of a loop over an execution
pub slim_turn : (kept : List KeptObject) (x small : List Effect) (k : ℕ) (e : Effect) (draft : Draft) (b : Bool) → IsExecution x → slice_get x k ≡ Some e → small ≡ slim_of kept (take k x) → b ≡ is_kept kept (k + 1)
    → with_stamp draft e.stamp ≡ cond b (bare e) e → IsNext kept x k small draft
slim_turn kept x small k e draft b law at done is made =
    next_slim kept x small k e draft law at done (made ∙ ap (λ t. cond t (bare e) e) (is ∙ ap (is_kept kept) (add-one k)))

pub slim_room : (kept : List KeptObject) (x small : List Effect) (k : ℕ) (e : Effect) → slice_get x k ≡ Some e → small ≡ slim_of kept (take k x) → length small ≡ k
slim_room kept x small k e at done = ap (λ (es : List Effect). length es) done ∙ slim_length kept 1 (take k x) ∙ (front_and x k e at).2
