-- Searches for the neighbours of an effect.
use Rattle.std.proofs.Common.{◌≡◌, ℕ, zero, suc, ◌+◌, ◌<◌, ◌≤◌, Bool, true, false, nat_eq, List, length, Option, Some, None, if◌then◌else◌, refl, ap, sym, subst, ◌∙◌, inl, inr, arith}
use Rattle.std.proofs.lemmas.Option.{same_Some}
use Rattle.std.proofs.lemmas.Bool.{or_cases, or_left, or_right, and_parts, and_from, eq-eqb, eqb-true, both_ways, cases_order}
use Rattle.ql_exec.specs.declared.effect.Effect.{Effect}
use Rattle.ql_exec.specs.declared.effect.Member.{Member}
use Rattle.ql_exec.specs.declared.effect.Member.TheVariants.{Alone, Inside}
use Rattle.ql_exec.specs.Effects.{effect_at, both}
use Rattle.ql_base.specs.IdLists.{has_id}
use Rattle.ql_exec.specs.Execution.{IsExecution, IsOn}
use Rattle.ql_exec.specs.Links.{IsLink}
use Rattle.ql_exec.specs.Relations.{so, soo, sameobj, sametxn, same_run, vis}
use Rattle.ql_holder.specs.Closed.{Has}
use Rattle.ql_holder.specs.Needs.{Needs}
use Rattle.ql_holder.proofs.NeedsLaws.{at-first}
use Rattle.ql_exec.proofs.Finding.{effect_at-within, both-found, so_parts, so_from, so-between, so-trans}
use Rattle.ql_holder.proofs.Packages.{sametxn-back, sametxn-along}
use Rattle.ql_ranges.specs.Searches.{IsLastInSession, IsNextInSession, IsMemberBelow, IsMemberAbove, IsAlone}

-- ---- in a session on an object

pub record InLine (x : List Effect) (a b : ℕ) : Type 0 where
  pub first : Effect
  pub second : Effect
  pub first_at : effect_at x a ≡ Some first
  pub second_at : effect_at x b ≡ Some second
  pub one_session : first.session.0 ≡ second.session.0
  pub one_object : first.object.0 ≡ second.object.0
  pub less : a < b

pub soo_parts : (x : List Effect) (a b : ℕ) → soo x a b ≡ true → InLine x a b
soo_parts x a b is =
    let parts = and_parts (so x a b) (sameobj x a b) is in
    let order = so_parts x a b parts.0 in
    let found = both-found (λ e f. nat_eq e.object.0 f.object.0) (effect_at x a) (effect_at x b) parts.1 in
    let one : found.0 ≡ order.first = same_Some found.0 order.first (sym found.2 ∙ order.first_at) in
    let two : found.1 ≡ order.second = same_Some found.1 order.second (sym found.3 ∙ order.second_at) in
    record {
      first = order.first;
      second = order.second;
      first_at = order.first_at;
      second_at = order.second_at;
      one_session = order.one_session;
      one_object = sym (ap (λ (e : Effect). e.object.0) one) ∙ eqb-true found.0.object.0 found.1.object.0 found.4 ∙ ap (λ (e : Effect). e.object.0) two;
      less = order.less;
    }

object_from : (x : List Effect) (a b : ℕ) (e f : Effect) → effect_at x a ≡ Some e → effect_at x b ≡ Some f → e.object.0 ≡ f.object.0 → sameobj x a b ≡ true
object_from x a b e f at there same = rw (at, there) (eq-eqb e.object.0 f.object.0 same)

pub soo_from : (x : List Effect) (a b : ℕ) (e f : Effect) → effect_at x a ≡ Some e → effect_at x b ≡ Some f → nat_eq e.object.0 f.object.0 ≡ true → so x a b ≡ true → soo x a b ≡ true
soo_from x a b e f at there same order = and_from (so x a b) (sameobj x a b) order (object_from x a b e f at there (eqb-true e.object.0 f.object.0 same))

-- one further back
pub on_object-back : (x : List Effect) (e k before stop : ℕ) (g f : Effect) → effect_at x k ≡ Some g → effect_at x e ≡ Some f → nat_eq g.object.0 f.object.0 ≡ false
    → so x k e ≡ true → IsLink x k before → ((a : ℕ) → soo x a e ≡ true → stop < a → a ≤ k) → (a : ℕ) → soo x a e ≡ true → stop < a → a ≤ before
on_object-back x e k before stop g f at there other order link so_far a is behind = elim (cases_order a k) [
  | inl same ↦ absurd (both_ways (nat_eq g.object.0 f.object.0) other (shares same))
  | inr (inl less) ↦ link.1 a (so-between x a k e less (and_parts (so x a e) (sameobj x a e) is).0 order)
  | inr (inr more) ↦ absurd (let h : k < a = more in let low = so_far a is behind in omega (arith, h, low))
]
  where
    shares : a ≡ k → nat_eq g.object.0 f.object.0 ≡ true
    shares same =
        let line = soo_parts x a e is in
        let one : line.first ≡ g = same_Some line.first g (sym line.first_at ∙ ap (effect_at x) same ∙ at) in
        let two : line.second ≡ f = same_Some line.second f (sym line.second_at ∙ there) in
        eq-eqb g.object.0 f.object.0 (sym (ap (λ (h : Effect). h.object.0) one) ∙ line.one_object ∙ ap (λ (h : Effect). h.object.0) two)

-- on an object only those of the session
pub on_object-of : (x : List Effect) (e before stop : ℕ) → IsLink x e before → (a : ℕ) → soo x a e ≡ true → stop < a → a ≤ before
on_object-of x e before stop link a is behind = link.1 a (and_parts (so x a e) (sameobj x a e) is).0

pub link-less : (x : List Effect) (e before : ℕ) → 1 ≤ e → IsLink x e before → before < e
link-less x e zero first link = first
link-less x e (suc k) first link = (so_parts x (suc k) e (link.0 (omega arith))).less

-- the one before one in its session is of that session
pub link-own : (x : List Effect) (e k before : ℕ) → so x k e ≡ true → IsLink x k before → 1 ≤ before → so x before e ≡ true
link-own x e k before own link some = so-trans x before k e (link.0 some) own

-- ---- in a session

so_same : (x : List Effect) (a b k : ℕ) (g f : Effect) → effect_at x a ≡ Some g → effect_at x b ≡ Some f → so x a b ≡ true → g.session.0 ≡ f.session.0
so_same x a b k g f at there is =
    let order = so_parts x a b is in
    let one : order.first ≡ g = same_Some order.first g (sym order.first_at ∙ at) in
    let two : order.second ≡ f = same_Some order.second f (sym order.second_at ∙ there) in
    sym (ap (λ (h : Effect). h.session.0) one) ∙ order.one_session ∙ ap (λ (h : Effect). h.session.0) two

-- the one before
pub none-before : (x : List Effect) (e : ℕ) → IsLink x e 0 → IsLastInSession x e None
none-before x e link = λ a is. (let order = so_parts x a e is in let first = at-first x a order.first order.first_at in let low = link.1 a is in omega (arith, first, low))

pub last-before : (x : List Effect) (e before : ℕ) → (before ≡ 0 → ⊥) → IsLink x e before → IsLastInSession x e (Some before)
last-before x e zero some link = absurd (some refl)
last-before x e (suc k) some link = (link.0 (omega arith), link.1)

pub in_session-on : (x : List Effect) (e k next : ℕ) (g f : Effect) → next ≡ k + 1 → effect_at x next ≡ Some g → effect_at x e ≡ Some f → (g.session.0 ≡ f.session.0 → ⊥)
    → ((a : ℕ) → so x e a ≡ true → k < a) → (a : ℕ) → so x e a ≡ true → next < a
in_session-on x e k next g f is_next at there other so_far a is = elim (cases_order a next) [
  | inl same ↦ absurd (other (sym (so_same x e next k f g there at (subst (λ (b : ℕ). so x e b ≡ true) same is))))
  | inr (inl less) ↦ absurd (let h : a < next = less in let low = so_far a is in omega (arith, h, low, is_next))
  | inr (inr more) ↦ (let h : next < a = more in omega (arith, h))
]

pub so-less : (x : List Effect) (a b : ℕ) → so x a b ≡ true → a < b
so-less x a b is = (so_parts x a b is).less

pub so-there : (x : List Effect) (a b : ℕ) → so x a b ≡ true → b ≤ length x
so-there x a b is = (let order = so_parts x a b is in effect_at-within x b order.second order.second_at)

-- ---- in a transaction

pub alone-of : (x : List Effect) (e : ℕ) (f : Effect) → effect_at x e ≡ Some f → f.member ≡ Alone → IsAlone x e true
alone-of x e f at is = λ a. rw at (none (effect_at x a))
  where
    never : (m n : Member) → m ≡ Alone → same_run m n ≡ false
    never m n same = subst (λ (k : Member). same_run k n ≡ false) (sym same) (no_run n)
      where
        no_run : (k : Member) → same_run Alone k ≡ false
        no_run Alone = refl
        no_run (Inside run name) = refl

    none : (o : Option Effect) → both (λ g h. same_run g.member h.member) (Some f) o ≡ false
    none None = refl
    none (Some h) = never f.member h.member is

-- of one transaction and different, by the effects
run_of : (x : List Effect) (e a : ℕ) → (e ≡ a → ⊥) → sametxn x e a ≡ true → both (λ f g. same_run f.member g.member) (effect_at x e) (effect_at x a) ≡ true
run_of x e a other is = elim (or_cases (nat_eq e a) (both (λ f g. same_run f.member g.member) (effect_at x e) (effect_at x a)) is) [
  | inl same ↦ absurd (other (eqb-true e a same))
  | inr run ↦ run
]

pub none-below : (x : List Effect) (e : ℕ) → IsAlone x e true → IsMemberBelow x e None
none-below x e alone = λ a less is. both_ways (both (λ f g. same_run f.member g.member) (effect_at x e) (effect_at x a)) (alone a) (run_of x e a (λ same. omega (arith, same, less)) is)

pub none-above : (x : List Effect) (e : ℕ) → IsAlone x e true → IsMemberAbove x e None
none-above x e alone = λ a more is. both_ways (both (λ f g. same_run f.member g.member) (effect_at x e) (effect_at x a)) (alone a) (run_of x e a (λ same. omega (arith, same, more)) is)

pub none-below-first : (x : List Effect) (e : ℕ) → IsExecution x → IsLastInSession x e None → IsMemberBelow x e None
none-below-first x e law none = λ a less is. none a (law.one_session a e less (sametxn-back x e a is))

pub none-above-last : (x : List Effect) (e : ℕ) → IsExecution x → IsNextInSession x e None → IsMemberAbove x e None
none-above-last x e law none = λ a more is. none a (law.one_session e a more is)

-- the neighbour in the session is of the transaction, or no effect on that side is
pub below-from : (x : List Effect) (e p : ℕ) (found : Option ℕ) → IsExecution x → IsLastInSession x e (Some p)
    → found ≡ (if both (λ f g. same_run f.member g.member) (effect_at x e) (effect_at x p) then Some p else None) → IsMemberBelow x e found
below-from x e p found law last is =
    subst (λ (o : Option ℕ). IsMemberBelow x e o) (sym is) (by_test (both (λ f g. same_run f.member g.member) (effect_at x e) (effect_at x p)) refl)
  where
    less : p < e
    less = so-less x p e last.0

    by_test : (t : Bool) → both (λ f g. same_run f.member g.member) (effect_at x e) (effect_at x p) ≡ t → IsMemberBelow x e (if t then Some p else None)
    by_test true yes_ = (less, or_right (nat_eq e p) _ yes_, λ a before same. last.1 a (law.one_session a e before (sametxn-back x e a same)))
    by_test false no_ = λ a before same.
        let order = law.one_session a e before (sametxn-back x e a same) in
        let low = last.1 a order in
        both_ways (both (λ f g. same_run f.member g.member) (effect_at x e) (effect_at x p)) no_
        (run_of x e p (λ equal. omega (arith, equal, less)) (elim (cases_order a p) [
          | inl equal ↦ subst (λ (b : ℕ). sametxn x e b ≡ true) equal same
          | inr (inl below) ↦
              let h : a < p = below in
              sametxn-along x e a p same (law.unbroken a p e (sametxn-back x e a same) (so-between x a p e h order last.0) last.0)
          | inr (inr above) ↦ absurd (let h : p < a = above in omega (arith, h, low))
        ]))

pub above-from : (x : List Effect) (e p : ℕ) (found : Option ℕ) → IsExecution x → IsNextInSession x e (Some p)
    → found ≡ (if both (λ f g. same_run f.member g.member) (effect_at x e) (effect_at x p) then Some p else None) → IsMemberAbove x e found
above-from x e p found law next is =
    subst (λ (o : Option ℕ). IsMemberAbove x e o) (sym is) (by_test (both (λ f g. same_run f.member g.member) (effect_at x e) (effect_at x p)) refl)
  where
    less : e < p
    less = so-less x e p next.0

    between : (a : ℕ) → p < a → so x e a ≡ true → so x p a ≡ true
    between a above order =
        let one = so_parts x e a order in
        let two = so_parts x e p next.0 in
        let same : one.first ≡ two.first = same_Some one.first two.first (sym one.first_at ∙ two.first_at) in
        so_from x p a two.second one.second two.second_at one.second_at (sym two.one_session ∙ sym (ap (λ (f : Effect). f.session.0) same) ∙ one.one_session) above

    by_test : (t : Bool) → both (λ f g. same_run f.member g.member) (effect_at x e) (effect_at x p) ≡ t → IsMemberAbove x e (if t then Some p else None)
    by_test true yes_ = (less, or_right (nat_eq e p) _ yes_, λ a behind same. next.1 a (law.one_session e a behind same))
    by_test false no_ = λ a behind same.
        let order = law.one_session e a behind same in
        let low = next.1 a order in
        both_ways (both (λ f g. same_run f.member g.member) (effect_at x e) (effect_at x p)) no_
        (run_of x e p (λ equal. omega (arith, equal, less)) (elim (cases_order a p) [
          | inl equal ↦ subst (λ (b : ℕ). sametxn x e b ≡ true) equal same
          | inr (inl below) ↦ absurd (let h : a < p = below in omega (arith, h, low))
          | inr (inr above) ↦ (let h : p < a = above in law.unbroken e p a same next.0 (between a h order))
        ]))

-- ---- what an effect sees

pub seen-vis : (x : List Effect) (e a : ℕ) (f : Effect) → IsExecution x → effect_at x e ≡ Some f → Has f.seen a → vis x a e ≡ true
seen-vis x e a f law at is = rw at (there (effect_at x a) ((law.sees e f at).0 a is).1)
  where
    there : (o : Option Effect) → IsOn f.object o → both (λ g h. has_id h.seen a) o (Some f) ≡ true
    there None on = absurd on
    there (Some g) on = is

pub vis-seen : (x : List Effect) (e a : ℕ) (f : Effect) → effect_at x e ≡ Some f → vis x a e ≡ true → Has f.seen a
vis-seen x e a f at is =
    let found = both-found (λ g h. has_id h.seen a) (effect_at x a) (effect_at x e) is in
    subst (λ (g : Effect). Has g.seen a) (same_Some found.1 f (sym found.3 ∙ at)) found.4

pub vis-need : (x : List Effect) (e a : ℕ) → vis x a e ≡ true → Needs x e a
vis-need x e a is = inl (or_right (soo x a e) (vis x a e) is)

pub soo-need : (x : List Effect) (e a : ℕ) → soo x a e ≡ true → Needs x e a
soo-need x e a is = inl (or_left (soo x a e) (vis x a e) is)

pub txn-need : (x : List Effect) (e a : ℕ) → sametxn x e a ≡ true → Needs x e a
txn-need x e a is = inr (refl, is)

pub soo-first : (x : List Effect) (a e : ℕ) → soo x a e ≡ true → 1 ≤ a
soo-first x a e is = (let line = soo_parts x a e is in at-first x a line.first line.first_at)
