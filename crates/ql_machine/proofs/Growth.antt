-- How the execution grows in a run: by the effects of calls. So what holds of every call holds of every effect, and every answer
-- is that of the effects that are seen.
use Rattle.std.proofs.Common.{◌≡◌, ℕ, suc, ◌≤◌, Bool, true, nat_eq, List, [], ◌∷◌, ◌++◌, length, Option, Some, refl, ap, sym, subst, ◌∙◌, inl, inr, arith}
use Rattle.std.specs.List.{cons_option, filter_map, list_all}
use Rattle.std.proofs.lemmas.Bool.{and_parts, eq-eqb, or_left, or_right}
use Rattle.ql_base.specs.IdLists.{has_id}
use Rattle.ql_base.specs.declared.ids.ObjId.{ObjId}
use Rattle.ql_base.specs.declared.ids.OpId.{OpId}
use Rattle.ql_exec.specs.declared.effect.Effect.{Effect}
use Rattle.ql_exec.specs.Effects.{effect_at}
use Rattle.ql_exec.specs.Folding.{in_order, seen_in_order}
use Rattle.ql_exec.proofs.Finding.{cases_pushed, effect_at-append, effect_at-last}
use Rattle.ql_holder.specs.Closed.{Has}
use Rattle.ql_machine.specs.declared.event.Event.{Event}
use Rattle.ql_machine.specs.declared.event.Event.TheVariants as event
use Rattle.ql_machine.specs.declared.reply.Reply.{Reply}
use Rattle.ql_machine.specs.State.{Machine, empty}
use Rattle.ql_machine.specs.Rules.{Call, Rules}
use Rattle.ql_machine.specs.Changes.{effect_made}
use Rattle.ql_machine.specs.Calls.{IsCall, MayAnswer, blocked, held, makes, makes_own, makes_strong, unavailable, undeclared, unused}
use Rattle.ql_machine.specs.Deliveries.{IsDelivery, again, applies, cut, gone, waits}
use Rattle.ql_machine.specs.Steps.{IsStep, absent, already_open, begins, calls, commits, delivers, heals, joins_bare, joins_copy, loses, none_open, none_to_lose, none_to_repeat, repeats, resends, splits}
use Rattle.ql_machine.specs.Runs.{IsRun, Leads, step, stop}
use Rattle.ql_machine.specs.Kept.{Keeps}
use Rattle.ql_machine.specs.Promised.{asks}
use Rattle.ql_machine.proofs.Answering.{made}
use Rattle.ql_machine.proofs.Keeping.{keeps-empty, keeps-step, nothing-there}
use Rattle.ql_machine.proofs.Made.{IsMade}

-- what a step makes of the execution: nothing, or an effect of its call
pub data Grows (rules : Rules) (s : Machine) : Event → List Effect → Type 0 where
  stays : (e : Event) → Grows rules s e s.effects
  gains : (c : Call) (seen : List ℕ) → MayAnswer rules s c seen → Grows rules s (event.Call c.session c.replica c.object c.op c.args) (s.effects ++ effect_made rules s c seen ∷ [])

grows-call : (rules : Rules) (s : Machine) (c : Call) (after : Machine) (r : Reply) → IsCall rules s c after r → Grows rules s (event.Call c.session c.replica c.object c.op c.args) after.effects
grows-call rules s c _ _ (undeclared t is lacks) = stays _
grows-call rules s c _ _ (unused t is declares unlisted) = stays _
grows-call rules s c _ _ (unavailable q allowed level least) = stays _
grows-call rules s c _ _ (held session allowed level connected least) = stays _
grows-call rules s c _ _ (blocked a may least) = stays _
grows-call rules s c _ _ (makes seen may none weak) = gains c seen may
grows-call rules s c _ _ (makes_strong seen ids may none level are) = gains c seen may
grows-call rules s c _ _ (makes_own t seen may is) = gains c seen may

grows-delivery : (rules : Rules) (s : Machine) (e : Event) (m : ℕ) (after : Machine) (r : Reply) → IsDelivery s m after r → Grows rules s e after.effects
grows-delivery rules s e m _ _ (gone none) = stays e
grows-delivery rules s e m _ _ (cut message is apart) = stays e
grows-delivery rules s e m _ _ (again message is passes known) = stays e
grows-delivery rules s e m _ _ (waits message a new least) = stays e
grows-delivery rules s e m _ _ (applies message ids new all are) = stays e

pub grows : (rules : Rules) (s : Machine) (e : Event) (after : Machine) (r : Reply) → IsStep rules s e after r → Grows rules s e after.effects
grows rules s _ _ _ (calls session replica object op args after r is) = grows-call rules s _ after r is
grows rules s _ _ _ (already_open session replica decl objects t is) = stays _
grows rules s _ _ _ (begins session replica decl objects snapshot none less are) = stays _
grows rules s _ _ _ (none_open session replica none) = stays _
grows rules s _ _ _ (commits session replica t own is are) = stays _
grows rules s _ _ _ (delivers m after r is) = grows-delivery rules s _ m.0 after r is
grows rules s _ _ _ (none_to_repeat m is) = stays _
grows rules s _ _ _ (repeats m message is) = stays _
grows rules s _ _ _ (none_to_lose m is) = stays _
grows rules s _ _ _ (loses m message is) = stays _
grows rules s _ _ _ (absent a sender receiver lacks) = stays _
grows rules s _ _ _ (resends a sender receiver ids has are) = stays _
grows rules s _ _ _ (splits groups) = stays _
grows rules s _ _ _ heals = stays _
grows rules s _ _ _ (joins_copy near less) = stays _
grows rules s _ _ _ (joins_bare near ids less are) = stays _

-- ---- what holds of every call

abbrev Passes : (ObjId → OpId → Bool) → List Effect → Type 0
Passes test x = (a : ℕ) (e : Effect) → effect_at x a ≡ Some e → test e.object e.op ≡ true

module _ (rules : Rules) (test : ObjId → OpId → Bool) where
  passes-grown : (s : Machine) (e : Event) (y : List Effect) → Grows rules s e y → asks test e ≡ true → Passes test s.effects → Passes test y
  passes-grown s _ _ (stays e) asked passes = passes
  passes-grown s _ _ (gains c seen may) asked passes = λ a f at. elim (cases_pushed s.effects (effect_made rules s c seen) f a at) [
    | inl old ↦ passes a f old.1
    | inr new ↦ subst (λ (g : Effect). test g.object g.op ≡ true) (sym new.1) asked
  ]

  passes-leads : (s : Machine) (events : List Event) (replies : List Reply) (last : Machine) → Leads rules s events replies last → list_all (asks test) events ≡ true → Passes test s.effects → Passes test last.effects
  passes-leads _ _ _ _ (stop s) asked passes = passes
  passes-leads _ _ _ _ (step s e next reply events replies last is later) asked passes =
      let parts = and_parts (asks test e) (list_all (asks test) events) asked in
      passes-leads next events replies last later parts.1 (passes-grown s e next.effects (grows rules s e next reply is) parts.0 passes)

  pub effects-pass : (n : ℕ) (events : List Event) (replies : List Reply) (last : Machine) → IsRun rules n events replies last → list_all (asks test) events ≡ true
      → (a : ℕ) (e : Effect) → effect_at last.effects a ≡ Some e → test e.object e.op ≡ true
  effects-pass n events replies last run asked = passes-leads (empty n) events replies last run asked (λ a e at. absurd (nothing-there a e at))

-- ---- answers

-- the effects of old ids in a longer execution
found-longer : (x more : List Effect) (ids : List ℕ) → ((a : ℕ) → Has ids a → a ≤ length x) → filter_map (effect_at (x ++ more)) ids ≡ filter_map (effect_at x) ids
found-longer x more [] within = refl
found-longer x more (id ∷ ids) within =
    ap (λ (r : Option Effect). cons_option r (filter_map (effect_at (x ++ more)) ids)) (effect_at-append x more id (within id (or_left (nat_eq id id) (has_id ids id) (eq-eqb id id refl))))
    ∙ ap (cons_option (effect_at x id)) (found-longer x more ids (λ a has. within a (or_right (nat_eq id a) (has_id ids a) has)))

seen-longer : (x more : List Effect) (ids : List ℕ) → ((a : ℕ) → Has ids a → a ≤ length x) → seen_in_order x ids ≡ seen_in_order (x ++ more) ids
seen-longer x more ids within = ap in_order (sym (found-longer x more ids within))

-- what was answered is what the rules say of what was seen
abbrev IsAnswered : Rules → List Effect → Type 0
IsAnswered rules x = (a : ℕ) (e : Effect) → effect_at x a ≡ Some e → rules.answer e.op e.args (seen_in_order x e.seen) ≡ record { answer = e.answer; payload = e.payload }

answered-grown : (rules : Rules) (start : ℕ) (s : Machine) → Keeps rules.promises start s → (e : Event) (y : List Effect) → Grows rules s e y → IsAnswered rules s.effects → IsAnswered rules y
answered-grown rules start s keeps _ _ (stays e) answered = answered
answered-grown rules start s keeps _ _ (gains c seen may) answered = λ a f at. elim (cases_pushed s.effects (effect_made rules s c seen) f a at) [
  | inl old ↦
      let earlier = (keeps.sound.execution.sees a f old.1).0 in
      let a_in = old.0 in
      ap (rules.answer f.op f.args) (sym (seen-longer s.effects _ f.seen (λ b has. let less = (earlier b has).0 in omega (arith, less, a_in))))
      ∙ answered a f old.1
  | inr new ↦ by f new.1
]
  where
    grown : IsMade rules.promises s.effects s.open_txns (effect_made rules s c seen)
    grown = made rules start s c seen keeps may

    within : (b : ℕ) → Has seen b → b ≤ length s.effects
    within b has = let less = ((grown.grown.sees (suc (length s.effects)) _ (effect_at-last s.effects (effect_made rules s c seen))).0 b has).0 in omega (arith, less)

    by : (f : Effect) → f ≡ effect_made rules s c seen
        → rules.answer f.op f.args (seen_in_order (s.effects ++ effect_made rules s c seen ∷ []) f.seen) ≡ record { answer = f.answer; payload = f.payload }
    by f is =
        subst (λ (g : Effect). rules.answer g.op g.args (seen_in_order (s.effects ++ effect_made rules s c seen ∷ []) g.seen) ≡ record { answer = g.answer; payload = g.payload }) (sym is)
        (ap (rules.answer c.op c.args) (sym (seen-longer s.effects (effect_made rules s c seen ∷ []) seen within)))

answered-leads : (rules : Rules) (start : ℕ) (s : Machine) (events : List Event) (replies : List Reply) (last : Machine) → Leads rules s events replies last → Keeps rules.promises start s
    → IsAnswered rules s.effects → IsAnswered rules last.effects
answered-leads rules start _ _ _ _ (stop s) keeps answered = answered
answered-leads rules start _ _ _ _ (step s e next reply events replies last is later) keeps answered =
    answered-leads rules start next events replies last later (keeps-step rules start s keeps e next reply is)
    (answered-grown rules start s keeps e next.effects (grows rules s e next reply is) answered)

pub answers-hold : (rules : Rules) (n : ℕ) (events : List Event) (replies : List Reply) (last : Machine) → IsRun rules n events replies last
    → (a : ℕ) (e : Effect) → effect_at last.effects a ≡ Some e → rules.answer e.op e.args (seen_in_order last.effects e.seen) ≡ record { answer = e.answer; payload = e.payload }
answers-hold rules n events replies last run = answered-leads rules n (empty n) events replies last run (keeps-empty rules.promises n) (λ a e at. absurd (nothing-there a e at))
