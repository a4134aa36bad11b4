-- What an execution keeps doesn't depend on arguments, payloads and answers.
use Rattle.std.proofs.Common.{◌≡◌, ℕ, zero, suc, max, Bool, true, false, ◌&&◌, ◌||◌, cond, nat_eq, nat_lt, List, [], ◌∷◌, ◌++◌, map, Option, None, Some, refl, sym, ap, ◌∙◌, subst}
use Rattle.std.specs.Option.{option_map, option_map_or}
use Rattle.std.proofs.lemmas.Option.{same_Some, slice_get-map}
use Rattle.ql_base.specs.declared.ids.ObjId.{ObjId}
use Rattle.ql_base.specs.declared.ids.SessId.{SessId}
use Rattle.ql_exec.specs.declared.effect.Effect.{Effect}
use Rattle.ql_exec.specs.Effects.{both, effect_at, of_session}
use Rattle.ql_exec.specs.Execution.{IsExecution, IsOn, SeesEarlier, greatest, same_name, seen_stamp, session_stamp, stamp_at, stamp_of}
use Rattle.ql_exec.specs.Relations.{sametxn, same_run, so}
use Rattle.ql_summary.specs.Slimming.{bare}

pub bare_at : (x : List Effect) (a : ℕ) → effect_at (map bare x) a ≡ option_map bare (effect_at x a)
bare_at x zero = refl
bare_at x (suc k) = slice_get-map bare x k

-- ---- relations
both_bare : (related : Effect → Effect → Bool) → ((e f : Effect) → related e f ≡ related (bare e) (bare f)) → (u v : Option Effect) → both related u v ≡ both related (option_map bare u) (option_map bare v)
both_bare related h None v = refl
both_bare related h (Some e) None = refl
both_bare related h (Some e) (Some f) = h e f

-- ---- stamps
stamp_bare : (x : List Effect) (a : ℕ) → stamp_at (map bare x) a ≡ stamp_at x a
stamp_bare x a = ap (λ (o : Option Effect). option_map_or (λ e. e.stamp) o 0) (bare_at x a) ∙ by (effect_at x a)
  where
    by : (o : Option Effect) → option_map_or (λ e. e.stamp) (option_map bare o) 0 ≡ option_map_or (λ e. e.stamp) o 0
    by None = refl
    by (Some e) = refl

seen_bare : (x : List Effect) (seen : List ℕ) → seen_stamp (map bare x) seen ≡ seen_stamp x seen
seen_bare x [] = refl
seen_bare x (a ∷ seen) = rw (stamp_bare x a, seen_bare x seen) refl

session_bare : (x : List Effect) (s : SessId) → session_stamp (map bare x) s ≡ session_stamp x s
session_bare [] s = refl
session_bare (e ∷ x) s = by (nat_eq e.session.0 s.0) (session_bare x s)
  where
    by : (b : Bool) → session_stamp (map bare x) s ≡ session_stamp x s
        → greatest (map (λ f. f.stamp) (cond b (bare e ∷ of_session (map bare x) s) (of_session (map bare x) s))) ≡ greatest (map (λ f. f.stamp) (cond b (e ∷ of_session x s) (of_session x s)))
    by true rest = ap (max e.stamp) rest
    by false rest = rest

stamp_of_bare : (x : List Effect) (s : SessId) (seen : List ℕ) → stamp_of (map bare x) s seen ≡ stamp_of x s seen
stamp_of_bare x s seen = rw (seen_bare x seen, session_bare x s) refl

-- ---- parts of a list
record Parts (x us ws : List Effect) (v : Effect) : Type 0 where
  before : List Effect
  effect : Effect
  after : List Effect
  is : x ≡ before ++ effect ∷ after
  same_before : map bare before ≡ us
  same_effect : bare effect ≡ v

first_same : (e f : Effect) (es fs : List Effect) → e ∷ es ≡ f ∷ fs → e ≡ f
first_same e f es fs h = cc

rest_same : (e f : Effect) (es fs : List Effect) → e ∷ es ≡ f ∷ fs → es ≡ fs
rest_same e f es fs h = cc

parts : (x us ws : List Effect) (v : Effect) → map bare x ≡ us ++ v ∷ ws → Parts x us ws v
parts [] [] ws v h = let no : [] ≡ v ∷ ws = h in cc
parts [] (u ∷ us) ws v h = let no : [] ≡ u ∷ (us ++ v ∷ ws) = h in cc
parts (e ∷ x) [] ws v h = record { before = []; effect = e; after = x; is = refl; same_before = refl; same_effect = first_same (bare e) v (map bare x) ws h }
parts (e ∷ x) (u ∷ us) ws v h =
    let p = parts x us ws v (rest_same (bare e) u (map bare x) (us ++ v ∷ ws) h) in
    let first = first_same (bare e) u (map bare x) (us ++ v ∷ ws) h in
    record {
      before = e ∷ p.before;
      effect = p.effect;
      after = p.after;
      is = ap (λ es. e ∷ es) p.is;
      same_before = ap (λ es. bare e ∷ es) p.same_before ∙ ap (λ g. g ∷ us) first;
      same_effect = p.same_effect;
    }

-- ---- two lists that differ in contents alone

found : (o : Option Effect) (g : Effect) → option_map bare o ≡ Some g → (e : Effect) × (o ≡ Some e) × (bare e ≡ g)
found None g h = let no : None ≡ Some g = h in cc
found (Some e) g h = (e, refl, same_Some (bare e) g h)

on_bare : (o : ObjId) (u v : Option Effect) → option_map bare u ≡ option_map bare v → IsOn o u → IsOn o v
on_bare o None v h on = absurd on
on_bare o (Some e) None h on = let no : Some (bare e) ≡ None = h in cc
on_bare o (Some e) (Some f) h on = sym (ap (λ (g : Effect). g.object) (same_Some (bare e) (bare f) h)) ∙ on

module _ (x y : List Effect) (same : map bare x ≡ map bare y) where
  at_both : (a : ℕ) → option_map bare (effect_at x a) ≡ option_map bare (effect_at y a)
  at_both a = sym (bare_at x a) ∙ ap (λ (es : List Effect). effect_at es a) same ∙ bare_at y a

  pub both_same : (related : Effect → Effect → Bool) → ((e f : Effect) → related e f ≡ related (bare e) (bare f)) → (a b : ℕ) → both related (effect_at x a) (effect_at x b) ≡ both related (effect_at y a) (effect_at y b)
  both_same related h a b =
      both_bare related h (effect_at x a) (effect_at x b) ∙ rw (at_both a, at_both b) refl ∙ sym (both_bare related h (effect_at y a) (effect_at y b))

  so_same : (a b : ℕ) → so x a b ≡ so y a b
  so_same a b = both_same (λ e f. nat_eq e.session.0 f.session.0 && nat_lt a b) (λ e f. refl) a b

  txn_same : (a b : ℕ) → sametxn x a b ≡ sametxn y a b
  txn_same a b = ap (λ t. nat_eq a b || t) (both_same (λ e f. same_run e.member f.member) (λ e f. refl) a b)

  on_same : (o : ObjId) (a : ℕ) → IsOn o (effect_at x a) → IsOn o (effect_at y a)
  on_same o a on = on_bare o (effect_at x a) (effect_at y a) (at_both a) on

  sees_same : (id : ℕ) (o : ObjId) (seen : List ℕ) → SeesEarlier x id o seen → SeesEarlier y id o seen
  sees_same id o seen h = (λ a has. ((h.0 a has).0, on_same o a (h.0 a has).1), h.1)

  stamped_same : IsExecution x → (before : List Effect) (effect : Effect) (after : List Effect) → y ≡ before ++ effect ∷ after → effect.stamp ≡ stamp_of before effect.session effect.seen
  stamped_same law before effect after is =
      let p = parts x (map bare before) (map bare after) (bare effect) (same ∙ rw is (map_bare before effect after)) in
      let stamp = law.stamped p.before p.effect p.after p.is in
      let session : p.effect.session ≡ effect.session = ap (λ (g : Effect). g.session) p.same_effect in
      let seen : p.effect.seen ≡ effect.seen = ap (λ (g : Effect). g.seen) p.same_effect in
      sym (ap (λ (g : Effect). g.stamp) p.same_effect) ∙ stamp ∙ rw (session, seen) refl
      ∙ sym (stamp_of_bare p.before effect.session effect.seen) ∙ ap (λ (es : List Effect). stamp_of es effect.session effect.seen) p.same_before ∙ stamp_of_bare before effect.session effect.seen
    where
      map_bare : (es : List Effect) (e : Effect) (fs : List Effect) → map bare (es ++ e ∷ fs) ≡ map bare es ++ bare e ∷ map bare fs
      map_bare [] e fs = refl
      map_bare (g ∷ es) e fs = ap (λ gs. bare g ∷ gs) (map_bare es e fs)

  pub still_execution : IsExecution x → IsExecution y
  still_execution law = record {
    sees = λ id f at.
        let e = found (effect_at x id) (bare f) (at_both id ∙ ap (option_map bare) at) in
        let object : e.0.object ≡ f.object = ap (λ (g : Effect). g.object) e.2 in
        let seen : e.0.seen ≡ f.seen = ap (λ (g : Effect). g.seen) e.2 in
        sees_same id f.object f.seen (subst (λ (s : List ℕ). SeesEarlier x id f.object s) seen (subst (λ (o : ObjId). SeesEarlier x id o e.0.seen) object (law.sees id e.0 e.1)));
    one_session = λ a b less txn. sym (so_same a b) ∙ law.one_session a b less (txn_same a b ∙ txn);
    one_name = λ a b less txn. sym (both_same (λ e f. same_name e.member f.member) (λ e f. refl) a b) ∙ law.one_name a b less (txn_same a b ∙ txn);
    unbroken = λ a b c txn first second. sym (txn_same a b) ∙ law.unbroken a b c (txn_same a c ∙ txn) (so_same a b ∙ first) (so_same b c ∙ second);
    stamped = stamped_same law;
  }
