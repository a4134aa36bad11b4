-- One effect more: what the relations of the longer execution are made of.
use Rattle.std.proofs.Common.{◌≡◌, ℕ, suc, ◌<◌, ◌≤◌, ◌⊎◌, not, Bool, true, false, ◌&&◌, nat_eq, nat_lt, List, [], ◌∷◌, ◌++◌, length, Option, Some, None, refl, ap, sym, subst, ◌∙◌, inl, inr, arith}
use Rattle.std.proofs.lemmas.Option.{same_Some}
use Rattle.std.proofs.lemmas.Bool.{and_from, and_parts, both_ways, cases_lt, eq-eqb, eqb-true, false≢true, or_cases, or_left, or_right}
use Rattle.ql_base.specs.IdLists.{has_id}
use Rattle.ql_base.specs.declared.ids.ObjId.{ObjId}
use Rattle.ql_base.specs.declared.ids.SessId.{SessId}
use Rattle.ql_exec.specs.declared.effect.Effect.{Effect}
use Rattle.ql_exec.specs.declared.effect.Member.{Member}
use Rattle.ql_exec.specs.declared.effect.Member.TheVariants.{Alone, Inside}
use Rattle.ql_exec.specs.Effects.{effect_at, one, both, in_run}
use Rattle.ql_exec.specs.Execution.{IsExecution, IsOn}
use Rattle.ql_exec.specs.Relations.{so, vis, sameobj, soo, sametxn, same_run, inside, hbo_step}
use Rattle.ql_exec.proofs.Finding.{both-found, cases_pushed, effect_at-append, effect_at-last, effect_at-within, so_parts}
use Rattle.ql_holder.specs.Closed.{Has}
use Rattle.ql_holder.proofs.NeedsLaws.{sametxn-shorter}
use Rattle.ql_machine.specs.declared.open_txn.OpenTxn.{OpenTxn}
use Rattle.ql_machine.specs.State.{NeedsNow, is_done, open_of}
use Rattle.ql_machine.specs.Changes.{member_of}
use Rattle.ql_machine.specs.Kept.{IsDone, IsOpen, TxnsKept}

-- ---- what is found

pub one-found : (p : Effect → Bool) (r : Option Effect) → one p r ≡ true → (f : Effect) × (r ≡ Some f) × (p f ≡ true)
one-found p None is = absurd (false≢true is)
one-found p (Some f) is = (f, refl, is)

pub inside-found : (x : List Effect) (run a : ℕ) → inside x run a ≡ true → (f : Effect) × (effect_at x a ≡ Some f) × (in_run run f.member ≡ true)
inside-found x run a is = one-found (λ f. in_run run f.member) (effect_at x a) is

pub inside-from : (x : List Effect) (run a : ℕ) (f : Effect) → effect_at x a ≡ Some f → in_run run f.member ≡ true → inside x run a ≡ true
inside-from x run a f at is = ap (one (λ g. in_run run g.member)) at ∙ is

pub same_session : (s t : SessId) → s.0 ≡ t.0 → s ≡ t
same_session s t same = ap (λ (n : ℕ). let session : SessId = record { 0 = n } in session) same

-- ---- old effects in the longer execution

pub at-longer : (x more : List Effect) (a : ℕ) (f : Effect) → effect_at x a ≡ Some f → effect_at (x ++ more) a ≡ Some f
at-longer x more a f is = effect_at-append x more a (effect_at-within x a f is) ∙ is

pub one-longer : (x more : List Effect) (p : Effect → Bool) (a : ℕ) → one p (effect_at x a) ≡ true → one p (effect_at (x ++ more) a) ≡ true
one-longer x more p a is = let found = one-found p (effect_at x a) is in ap (one p) (at-longer x more a found.0 found.1) ∙ found.2

pub both-longer : (x more : List Effect) (related : Effect → Effect → Bool) (a b : ℕ) → both related (effect_at x a) (effect_at x b) ≡ true
    → both related (effect_at (x ++ more) a) (effect_at (x ++ more) b) ≡ true
both-longer x more related a b is =
    let found = both-found related (effect_at x a) (effect_at x b) is in
    rw (at-longer x more a found.0 found.2, at-longer x more b found.1 found.3) found.4

pub both-shorter : (x more : List Effect) (related : Effect → Effect → Bool) (a b : ℕ) → a ≤ length x → b ≤ length x
    → both related (effect_at (x ++ more) a) (effect_at (x ++ more) b) ≡ true → both related (effect_at x a) (effect_at x b) ≡ true
both-shorter x more related a b one two is =
    subst (λ (r : Option Effect). both related (effect_at x a) r ≡ true) (effect_at-append x more b two)
    (subst (λ (r : Option Effect). both related r (effect_at (x ++ more) b) ≡ true) (effect_at-append x more a one) is)

pub vis-longer : (x more : List Effect) (a b : ℕ) → vis x a b ≡ true → vis (x ++ more) a b ≡ true
vis-longer x more a b is = both-longer x more (λ e f. has_id f.seen a) a b is

pub so-longer : (x more : List Effect) (a b : ℕ) → so x a b ≡ true → so (x ++ more) a b ≡ true
so-longer x more a b is = both-longer x more (λ e f. nat_eq e.session.0 f.session.0 && nat_lt a b) a b is

pub inside-longer : (x more : List Effect) (run a : ℕ) → inside x run a ≡ true → inside (x ++ more) run a ≡ true
inside-longer x more run a is = one-longer x more (λ f. in_run run f.member) a is

-- ---- what the relations hold of

pub seen-found : (x : List Effect) (a b : ℕ) → vis x a b ≡ true → (e : Effect) × (f : Effect) × (effect_at x a ≡ Some e) × (effect_at x b ≡ Some f) × Has f.seen a
seen-found x a b is = both-found (λ e f. has_id f.seen a) (effect_at x a) (effect_at x b) is

pub seen-from : (x : List Effect) (a b : ℕ) (e f : Effect) → effect_at x a ≡ Some e → effect_at x b ≡ Some f → Has f.seen a → vis x a b ≡ true
seen-from x a b e f at there has = rw (at, there) has

pub object-found : (x : List Effect) (a b : ℕ) → sameobj x a b ≡ true → (e : Effect) × (f : Effect) × (effect_at x a ≡ Some e) × (effect_at x b ≡ Some f) × (e.object.0 ≡ f.object.0)
object-found x a b is =
    let found = both-found (λ e f. nat_eq e.object.0 f.object.0) (effect_at x a) (effect_at x b) is in
    (found.0, found.1, found.2, found.3, eqb-true found.0.object.0 found.1.object.0 found.4)

pub object-from : (x : List Effect) (a b : ℕ) (e f : Effect) → effect_at x a ≡ Some e → effect_at x b ≡ Some f → e.object.0 ≡ f.object.0 → sameobj x a b ≡ true
object-from x a b e f at there same = rw (at, there) (eq-eqb e.object.0 f.object.0 same)

-- one step leads from an effect to one on its object
pub step-object : (x : List Effect) → IsExecution x → (a b : ℕ) → hbo_step x a b ≡ true → sameobj x a b ≡ true
step-object x law a b is = elim (or_cases (soo x a b) (vis x a b) is) [
  | inl ordered ↦ (and_parts (so x a b) (sameobj x a b) ordered).1
  | inr seen ↦
      let found = seen-found x a b seen in
      let on = ((law.sees b found.1 found.3).0 a found.4).1 in
      let same : found.0.object ≡ found.1.object = subst (IsOn found.1.object) found.2 on in
      object-from x a b found.0 found.1 found.2 found.3 (ap (λ (object : ObjId). object.0) same)
]

-- seen effects are earlier
pub seen-before : (x : List Effect) → IsExecution x → (a b : ℕ) → vis x a b ≡ true → a < b
seen-before x law a b is = let found = seen-found x a b is in ((law.sees b found.1 found.3).0 a found.4).0

-- ---- one more

-- An effect of a longer execution, by its id: an old one, or the new one.
pub vis-cases : (x : List Effect) (e : Effect) → IsExecution (x ++ e ∷ []) → (a b : ℕ) → vis (x ++ e ∷ []) a b ≡ true
    → (vis x a b ≡ true) ⊎ ((b ≡ suc (length x)) × Has e.seen a)
vis-cases x e law a b is =
    let found = seen-found (x ++ e ∷ []) a b is in
    elim (cases_pushed x e found.1 b found.3) [
      | inl old ↦
          let less = seen-before (x ++ e ∷ []) law a b is in
          let within = old.0 in
          inl (both-shorter x (e ∷ []) (λ f g. has_id g.seen a) a b (omega (arith, less, within)) old.0 is)
      | inr new ↦ inr (new.0, subst (λ (f : Effect). Has f.seen a) new.1 found.4)
    ]

-- what the new effect sees
pub vis-new : (x : List Effect) (e : Effect) → IsExecution (x ++ e ∷ []) → (a b : ℕ) → b ≡ suc (length x) → Has e.seen a → vis (x ++ e ∷ []) a b ≡ true
vis-new x e law a b new has = by (effect_at (x ++ e ∷ []) a) refl ((law.sees (suc (length x)) e (effect_at-last x e)).0 a has).1
  where
    by : (r : Option Effect) → effect_at (x ++ e ∷ []) a ≡ r → IsOn e.object r → vis (x ++ e ∷ []) a b ≡ true
    by None at on = absurd on
    by (Some f) at on = seen-from (x ++ e ∷ []) a b f e at (ap (effect_at (x ++ e ∷ [])) new ∙ effect_at-last x e) has

pub inside-cases : (x : List Effect) (e : Effect) (run a : ℕ) → inside (x ++ e ∷ []) run a ≡ true → (inside x run a ≡ true) ⊎ ((a ≡ suc (length x)) × (in_run run e.member ≡ true))
inside-cases x e run a is =
    let found = inside-found (x ++ e ∷ []) run a is in
    elim (cases_pushed x e found.0 a found.1) [
      | inl old ↦ inl (inside-from x run a found.0 old.1 found.2)
      | inr new ↦ inr (new.0, subst (λ (f : Effect). in_run run f.member ≡ true) new.1 found.2)
    ]

-- an old effect that isn't inside a transaction stays outside
pub outside-shorter : (x more : List Effect) (run a : ℕ) → a ≤ length x → inside (x ++ more) run a ≡ false → inside x run a ≡ false
outside-shorter x more run a within is = sym (ap (one (λ f. in_run run f.member)) (effect_at-append x more a within)) ∙ is

pub so-cases : (x : List Effect) (e : Effect) (a b : ℕ) → so (x ++ e ∷ []) a b ≡ true
    → (so x a b ≡ true) ⊎ ((b ≡ suc (length x)) × (f : Effect) × (effect_at x a ≡ Some f) × (f.session.0 ≡ e.session.0))
so-cases x e a b is =
    let order = so_parts (x ++ e ∷ []) a b is in
    let less = order.less in
    elim (cases_pushed x e order.second b order.second_at) [
      | inl old ↦
          let within = old.0 in
          inl (both-shorter x (e ∷ []) (λ f g. nat_eq f.session.0 g.session.0 && nat_lt a b) a b (omega (arith, less, within)) old.0 is)
      | inr new ↦
          let last = new.0 in
          let first_at : effect_at x a ≡ Some order.first = sym (effect_at-append x (e ∷ []) a (omega (arith, less, last))) ∙ order.first_at in
          inr (new.0, order.first, first_at, subst (λ (g : Effect). order.first.session.0 ≡ g.session.0) new.1 order.one_session)
    ]

-- an earlier effect of the session and the object of a new one
pub record IsEarlier (x : List Effect) (e : Effect) (a : ℕ) : Type 0 where
  pub effect : Effect
  pub at : effect_at x a ≡ Some effect
  pub in_session : effect.session.0 ≡ e.session.0
  pub on_object : effect.object.0 ≡ e.object.0

pub step-cases : (x : List Effect) (e : Effect) → IsExecution (x ++ e ∷ []) → (a b : ℕ) → hbo_step (x ++ e ∷ []) a b ≡ true
    → (hbo_step x a b ≡ true) ⊎ ((b ≡ suc (length x)) × (Has e.seen a ⊎ IsEarlier x e a))
step-cases x e law a b is = elim (or_cases (soo (x ++ e ∷ []) a b) (vis (x ++ e ∷ []) a b) is) [
  | inl ordered ↦
      let parts = and_parts (so (x ++ e ∷ []) a b) (sameobj (x ++ e ∷ []) a b) ordered in
      let order = so_parts (x ++ e ∷ []) a b parts.0 in
      let less = order.less in
      elim (so-cases x e a b parts.0) [
        | inl old ↦
            let old_order = so_parts x a b old in
            let second = effect_at-within x b old_order.second old_order.second_at in
            let first = effect_at-within x a old_order.first old_order.first_at in
            inl (or_left (soo x a b) (vis x a b) (and_from (so x a b) (sameobj x a b) old (both-shorter x (e ∷ []) (λ f g. nat_eq f.object.0 g.object.0) a b first second parts.1)))
        | inr new ↦ inr (new.0, inr (by new.0 new.1 new.2 new.3 (object-found (x ++ e ∷ []) a b parts.1)))
      ]
  | inr seen ↦ elim (vis-cases x e law a b seen) [
    | inl old ↦ inl (or_right (soo x a b) (vis x a b) old)
    | inr new ↦ inr (new.0, inl new.1)
  ]
]
  where
    by : b ≡ suc (length x) → (f : Effect) → effect_at x a ≡ Some f → f.session.0 ≡ e.session.0
        → (g : Effect) × (h : Effect) × (effect_at (x ++ e ∷ []) a ≡ Some g) × (effect_at (x ++ e ∷ []) b ≡ Some h) × (g.object.0 ≡ h.object.0) → IsEarlier x e a
    by new f at session found =
        let first : f ≡ found.0 = same_Some f found.0 (sym (at-longer x (e ∷ []) a f at) ∙ found.2) in
        let second : found.1 ≡ e = same_Some found.1 e (sym found.3 ∙ ap (effect_at (x ++ e ∷ [])) new ∙ effect_at-last x e) in
        record {
          effect = f;
          at = at;
          in_session = session;
          on_object = ap (λ (h : Effect). h.object.0) first ∙ found.4 ∙ ap (λ (h : Effect). h.object.0) second;
        }

-- ---- what a new effect is a member of

pub member-open : (o : List OpenTxn) (session : SessId) (run : ℕ) (m : Member) → m ≡ member_of (open_of o session) → in_run run m ≡ true
    → (t : OpenTxn) × IsOpen o session t × (t.run.0 ≡ run) × (m ≡ Inside t.run t.decl)
member-open o session run m joined is = by (open_of o session) refl joined
  where
    by : (r : Option OpenTxn) → open_of o session ≡ r → m ≡ member_of r → (t : OpenTxn) × IsOpen o session t × (t.run.0 ≡ run) × (m ≡ Inside t.run t.decl)
    by None at same = absurd (false≢true (sym (ap (in_run run) same) ∙ is))
    by (Some t) at same = (t, at, eqb-true t.run.0 run (sym (ap (in_run run) same) ∙ is), same)

pub not_done : (t : OpenTxn) (m : Member) → in_run t.run.0 m ≡ true → is_done (Some t) m ≡ true → ⊥
not_done t Alone inside done = false≢true inside
not_done t (Inside run decl) inside done =
    let same : run.0 ≡ t.run.0 = eqb-true run.0 t.run.0 inside in
    both_ways (not (nat_eq t.run.0 run.0)) (ap not (eq-eqb t.run.0 run.0 (sym same))) done

-- ---- committed effects

module _ (x : List Effect) (o : List OpenTxn) where
  pub done-found : (a : ℕ) → IsDone x o a → (f : Effect) × (effect_at x a ≡ Some f) × (is_done (open_of o f.session) f.member ≡ true)
  done-found a is = one-found (λ f. is_done (open_of o f.session) f.member) (effect_at x a) is

  pub done-from : (a : ℕ) (f : Effect) → effect_at x a ≡ Some f → is_done (open_of o f.session) f.member ≡ true → IsDone x o a
  done-from a f at is = ap (one (λ g. is_done (open_of o g.session) g.member)) at ∙ is

  -- where its session has none open, an effect is committed
  pub done-closed : (a : ℕ) (f : Effect) → effect_at x a ≡ Some f → open_of o f.session ≡ None → IsDone x o a
  done-closed a f at none = done-from a f at (ap (λ (r : Option OpenTxn). is_done r f.member) none ∙ done_of f.member)
    where
      done_of : (m : Member) → is_done None m ≡ true
      done_of Alone = refl
      done_of (Inside run decl) = refl

  -- an effect of an open transaction isn't
  pub undone : (begun : ℕ) → TxnsKept x o begun → (session : SessId) (t : OpenTxn) → IsOpen o session t → (a : ℕ) → inside x t.run.0 a ≡ true → IsDone x o a → ⊥
  undone begun txns session t is_open a is done =
      let found = inside-found x t.run.0 a is in
      let own = txns.own session t is_open a found.0 found.1 found.2 in
      let known = done-found a done in
      let same : found.0 ≡ known.0 = same_Some found.0 known.0 (sym found.1 ∙ known.1) in
      let now : open_of o found.0.session ≡ Some t = ap (open_of o) (same_session found.0.session session own.in_session) ∙ is_open in
      not_done t found.0.member found.2 (subst (λ (r : Option OpenTxn). is_done r found.0.member ≡ true) now (subst (λ (f : Effect). is_done (open_of o f.session) f.member ≡ true) (sym same) known.2))

  pub done-longer : (more : List Effect) (a : ℕ) → IsDone x o a → IsDone (x ++ more) o a
  done-longer more a is = one-longer x more (λ f. is_done (open_of o f.session) f.member) a is

  pub done-within : (a : ℕ) → IsDone x o a → a ≤ length x
  done-within a is = let found = done-found a is in effect_at-within x a found.0 found.1

-- a committed effect of a longer execution: an old one, or the new one
pub done-cases : (x : List Effect) (o : List OpenTxn) (e : Effect) (a : ℕ) → IsDone (x ++ e ∷ []) o a → IsDone x o a ⊎ ((a ≡ suc (length x)) × (is_done (open_of o e.session) e.member ≡ true))
done-cases x o e a is =
    let found = done-found (x ++ e ∷ []) o a is in
    elim (cases_pushed x e found.0 a found.1) [
      | inl old ↦ inl (done-from x o a found.0 old.1 found.2)
      | inr new ↦ inr (new.0, subst (λ (f : Effect). is_done (open_of o f.session) f.member ≡ true) new.1 found.2)
    ]

pub sametxn-within : (x : List Effect) (a b : ℕ) → a ≤ length x → sametxn x a b ≡ true → b ≤ length x
sametxn-within x a b within is = elim (or_cases (nat_eq a b) (both (λ f g. same_run f.member g.member) (effect_at x a) (effect_at x b)) is) [
  | inl same ↦ let equal = eqb-true a b same in omega (arith, equal, within)
  | inr both_in ↦ let found = both-found (λ f g. same_run f.member g.member) (effect_at x a) (effect_at x b) both_in in effect_at-within x b found.1 found.3
]

-- a new effect joins no committed transaction
pub unsplit : (x : List Effect) (o : List OpenTxn) (begun : ℕ) → TxnsKept x o begun → (e : Effect) → e.member ≡ member_of (open_of o e.session) → (a b : ℕ)
    → IsDone x o a → sametxn (x ++ e ∷ []) a b ≡ true → sametxn x a b ≡ true
unsplit x o begun txns e joined a b done is =
    let known = done-found x o a done in
    let within = effect_at-within x a known.0 known.1 in
    elim (cases_lt (length x) b) [
      | inr few ↦ sym (sametxn-shorter x (e ∷ []) a b within few) ∙ is
      | inl past ↦ elim (or_cases (nat_eq a b) _ is) [
        | inl same ↦ absurd (let equal = eqb-true a b same in omega (arith, equal, within, past))
        | inr run ↦ absurd (by known.0 known.1 past (both-found (λ f g. same_run f.member g.member) (effect_at (x ++ e ∷ []) a) (effect_at (x ++ e ∷ []) b) run))
      ]
    ]
  where
    joins : (f : Effect) → effect_at x a ≡ Some f → (m : Member) → m ≡ member_of (open_of o e.session) → same_run f.member m ≡ true → ⊥
    joins f at Alone same is_one = false≢true is_one
    joins f at (Inside run decl) same is_one =
        let now = member-open o e.session run.0 (Inside run decl) same (eq-eqb run.0 run.0 refl) in
        let in_it : in_run now.0.run.0 f.member ≡ true = subst (λ (n : ℕ). in_run n f.member ≡ true) (sym now.2) is_one in
        undone x o begun txns e.session now.0 now.1 a (inside-from x now.0.run.0 a f at in_it) done

    by : (f : Effect) → effect_at x a ≡ Some f → length x < b
        → (g : Effect) × (h : Effect) × (effect_at (x ++ e ∷ []) a ≡ Some g) × (effect_at (x ++ e ∷ []) b ≡ Some h) × (same_run g.member h.member ≡ true) → ⊥
    by f at past found = elim (cases_pushed x e found.1 b found.3) [
      | inl old ↦ let within = old.0 in omega (arith, within, past)
      | inr new ↦
          let first : found.0 ≡ f = same_Some found.0 f (sym found.2 ∙ at-longer x (e ∷ []) a f at) in
          joins f at e.member joined (subst (λ (g : Effect). same_run g.member e.member ≡ true) first (subst (λ (h : Effect). same_run found.0.member h.member ≡ true) new.1 found.4))
    ]

-- a committed effect needs no more in the longer execution
pub needs-shorter : (x : List Effect) (o : List OpenTxn) (begun : ℕ) → TxnsKept x o begun → (e : Effect) → e.member ≡ member_of (open_of o e.session) → IsExecution (x ++ e ∷ [])
    → (a b : ℕ) → IsDone x o a → NeedsNow (x ++ e ∷ []) o a b → NeedsNow x o a b
needs-shorter x o begun txns e joined law a b done (inl step) = elim (step-cases x e law b a step) [
  | inl old ↦ inl old
  | inr new ↦ absurd (let last = new.0 in let within = done-within x o a done in omega (arith, last, within))
]
needs-shorter x o begun txns e joined law a b done (inr txn) = inr (done, unsplit x o begun txns e joined a b done txn.1)
