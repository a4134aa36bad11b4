-- The table of last effects goes on with the execution.
use Rattle.std.proofs.Common.{◌≡◌, ℕ, suc, ◌≤◌, true, false, ◌||◌, nat_eq, nat_lt, List, [], ◌∷◌, ◌++◌, length, Some, None, refl, ap, sym, subst, ◌∙◌, inl, inr, arith, length-append}
use Rattle.std.specs.List.{list_any}
use Rattle.std.proofs.lemmas.Option.{same_Some}
use Rattle.std.proofs.lemmas.List.Folds.{list_any-append}
use Rattle.std.proofs.lemmas.Bool.{cases_Bool, cases_eq, eqb-true, eq-eqb, ne_eqb, ltb-false, false≢true, both_ways, or_cases, or_left, or_right}
use Rattle.ql_base.specs.IdLists.{has_id, with_id}
use Rattle.ql_base.specs.declared.ids.SessId.{SessId}
use Rattle.ql_exec.specs.declared.effect.Effect.{Effect}
use Rattle.ql_exec.specs.declared.effect.Member.{Member}
use Rattle.ql_exec.specs.declared.effect.Member.TheVariants.{Alone, Inside}
use Rattle.ql_exec.specs.declared.latest.Entry.{Entry}
use Rattle.ql_exec.specs.Effects.{effect_at, in_run, of_session, last}
use Rattle.ql_exec.specs.Latest.{latest_of, has_entry, with_latest, IsLastOf, FindsLast, KnowsRuns, KnowsRunOf}
use Rattle.ql_exec.proofs.Finding.{effect_at-within, effect_at-append, cases_pushed, effect_at-last, LastIs, nothing, effect, last_is, last-push, of_session-own, of_session-other}

same_session : (s t : SessId) → s.0 ≡ t.0 → s ≡ t
same_session s t is = ap (λ (n : ℕ). let u : SessId = record { 0 = n } in u) is

-- ---- entries
latest-own : (entries : List Entry) (s : SessId) (id : ℕ) → has_entry entries s ≡ true → latest_of (with_latest entries s id) s ≡ id
latest-own [] s id there = absurd (false≢true there)
latest-own (n ∷ entries) s id there = elim (nat_eq n.session.0 s.0) as (λ b. nat_eq n.session.0 s.0 ≡ b → (b || has_entry entries s) ≡ true → latest_of (with_latest (n ∷ entries) s id) s ≡ id) [
  | true ↦ λ own _. rw (own, own) refl
  | false ↦ λ other more. rw (other, other) (latest-own entries s id more)
] refl there

latest-other : (entries : List Entry) (s t : SessId) (id : ℕ) → (s.0 ≡ t.0 → ⊥) → latest_of (with_latest entries s id) t ≡ latest_of entries t
latest-other [] s t id apart = refl
latest-other (n ∷ entries) s t id apart = elim (nat_eq n.session.0 s.0) as (λ b. nat_eq n.session.0 s.0 ≡ b → latest_of (with_latest (n ∷ entries) s id) t ≡ latest_of (n ∷ entries) t) [
  | true ↦ λ own.
      let no_t : nat_eq n.session.0 t.0 ≡ false = ne_eqb n.session.0 t.0 (λ same. apart (sym (eqb-true n.session.0 s.0 own) ∙ same)) in
      rw (own, no_t) refl
  | false ↦ λ other. elim (nat_eq n.session.0 t.0) as (λ b. nat_eq n.session.0 t.0 ≡ b → latest_of (with_latest (n ∷ entries) s id) t ≡ latest_of (n ∷ entries) t) [
    | true ↦ λ is. rw (other, is) refl
    | false ↦ λ not_t. rw (other, not_t) (latest-other entries s t id apart)
  ] refl
] refl

latest-absent : (entries : List Entry) (s : SessId) → has_entry entries s ≡ false → latest_of entries s ≡ 0
latest-absent [] s absent = refl
latest-absent (n ∷ entries) s absent = elim (nat_eq n.session.0 s.0) as (λ b. nat_eq n.session.0 s.0 ≡ b → (b || has_entry entries s) ≡ false → latest_of (n ∷ entries) s ≡ 0) [
  | true ↦ λ own never. absurd (both_ways true never refl)
  | false ↦ λ other more. rw other (latest-absent entries s more)
] refl absent

pub entry-known : (entries : List Entry) (s : SessId) → (latest_of entries s ≡ 0 → ⊥) → has_entry entries s ≡ true
entry-known entries s some = elim (cases_Bool (has_entry entries s)) [ inl there ↦ there | inr absent ↦ absurd (some (latest-absent entries s absent)) ]

pub latest-push : (entries : List Entry) (s t : SessId) → latest_of (entries ++ record { session = s; last = 0 } ∷ []) t ≡ latest_of entries t
latest-push [] s t = elim (nat_eq s.0 t.0) as (λ b. nat_eq s.0 t.0 ≡ b → latest_of (record { session = s; last = 0 } ∷ []) t ≡ 0) [
  | true ↦ λ own. rw own refl
  | false ↦ λ other. rw other refl
] refl
latest-push (n ∷ entries) s t = elim (nat_eq n.session.0 t.0) as (λ b. nat_eq n.session.0 t.0 ≡ b → latest_of (n ∷ (entries ++ record { session = s; last = 0 } ∷ [])) t ≡ latest_of (n ∷ entries) t) [
  | true ↦ λ own. rw own refl
  | false ↦ λ other. rw other (latest-push entries s t)
] refl

-- ---- the last effects
pub FindsLast-from_same : (entries others : List Entry) (x : List Effect) → ((t : SessId) → latest_of others t ≡ latest_of entries t) → FindsLast entries x → FindsLast others x
FindsLast-from_same entries others x same known t = subst (λ (id : ℕ). IsLastOf x t id) (sym (same t)) (known t)

pub FindsLast-push : (entries : List Entry) (x : List Effect) (e : Effect) → has_entry entries e.session ≡ true → FindsLast entries x → FindsLast (with_latest entries e.session (suc (length x))) (x ++ e ∷ [])
FindsLast-push entries x e there known t = elim (cases_eq e.session.0 t.0) [
  | inl same ↦
      subst (λ (u : SessId). IsLastOf (x ++ e ∷ []) u (latest_of (with_latest entries e.session (suc (length x))) u))
      (same_session e.session t same)
      (rw (latest-own entries e.session (suc (length x)) there) (
        omega (arith, length-append x (e ∷ [])),
        effect_at-last x e ∙ sym (ap last (of_session-own x e e.session (eq-eqb e.session.0 e.session.0 refl)) ∙ last-push (of_session x e.session) e),
        λ a f at own. (let within = effect_at-within (x ++ e ∷ []) a f at in omega (arith, within, length-append x (e ∷ []))),
      ))
  | inr apart ↦
      let is = known t in
      let low = is.0 in
      rw (latest-other entries e.session t (suc (length x)) apart) (
        omega (arith, low, length-append x (e ∷ [])),
        effect_at-append x (e ∷ []) (latest_of entries t) low ∙ is.1 ∙ sym (ap last (of_session-other x e t (ne_eqb e.session.0 t.0 apart))),
        λ a f at own. elim (cases_pushed x e f a at) [
          | inl before ↦ is.2 a f before.1 own
          | inr new ↦ absurd (apart (ap (λ (g : Effect). g.session.0) (sym new.1) ∙ own))
        ],
      )
]

entry_there : (entries : List Entry) (x : List Effect) (e : Effect) → FindsLast entries (x ++ e ∷ []) → has_entry entries e.session ≡ true
entry_there entries x e known = elim (cases_Bool (has_entry entries e.session)) [
  | inl there ↦ there
  | inr absent ↦
      let final = ap last (of_session-own x e e.session (eq-eqb e.session.0 e.session.0 refl)) ∙ last-push (of_session x e.session) e in
      let never : None ≡ Some e = sym (ap (effect_at (x ++ e ∷ [])) (latest-absent entries e.session absent)) ∙ (known e.session).1 ∙ final in
      absurd cc
]

pub FindsLast-pop : (entries : List Entry) (x : List Effect) (e : Effect) (id : ℕ) → IsLastOf x e.session id → FindsLast entries (x ++ e ∷ []) → FindsLast (with_latest entries e.session id) x
FindsLast-pop entries x e id is known t = elim (cases_eq e.session.0 t.0) [
  | inl same ↦
      subst (λ (u : SessId). IsLastOf x u (latest_of (with_latest entries e.session id) u))
      (same_session e.session t same)
      (rw (latest-own entries e.session id (entry_there entries x e known)) is)
  | inr apart ↦
      let was = (known t).1 ∙ ap last (of_session-other x e t (ne_eqb e.session.0 t.0 apart)) in
      let few = inside t apart was (last_is x t) in
      rw (latest-other entries e.session t id apart) (
        few,
        sym (effect_at-append x (e ∷ []) (latest_of entries t) few) ∙ was,
        λ a f at own. (known t).2 a f (effect_at-append x (e ∷ []) a (effect_at-within x a f at) ∙ at) own,
      )
]
  where
    inside : (t : SessId) → (e.session.0 ≡ t.0 → ⊥) → effect_at (x ++ e ∷ []) (latest_of entries t) ≡ last (of_session x t) → LastIs x t → latest_of entries t ≤ length x
    inside t apart was known_last = elim (cases_eq (latest_of entries t) (suc (length x))) [
      | inr other ↦ let bound = (known t).0 in omega (arith, bound, other, length-append x (e ∷ []))
      | inl same ↦
          let here : Some e ≡ last (of_session x t) = sym (ap (effect_at (x ++ e ∷ [])) same ∙ effect_at-last x e) ∙ was in
          absurd (not_its known_last here)
    ]
      where
        not_its : LastIs x t → Some e ≡ last (of_session x t) → ⊥
        not_its (nothing none absent) here = let never : Some e ≡ None = here ∙ none in cc
        not_its (effect k f found there own highest) here = apart (ap (λ (g : Effect). g.session.0) (same_Some e f (here ∙ found)) ∙ own)

-- ---- transactions
pub KnowsRuns-push : (runs : List ℕ) (x : List Effect) (e : Effect) → KnowsRunOf runs e.member → KnowsRuns runs x → KnowsRuns runs (x ++ e ∷ [])
KnowsRuns-push runs x e own known run is = elim (or_cases (list_any (λ f. in_run run f.member) x) (in_run run e.member || false) (sym (list_any-append (λ f. in_run run f.member) x (e ∷ [])) ∙ is)) [
  | inl before ↦ known run before
  | inr new ↦ of_member e.member own (elim (or_cases (in_run run e.member) false new) [ inl here ↦ here | inr never ↦ absurd (false≢true never) ])
]
  where
    of_member : (m : Member) → KnowsRunOf runs m → in_run run m ≡ true → has_id runs run ≡ true
    of_member Alone known member = absurd (false≢true member)
    of_member (Inside other name) known member = subst (λ (n : ℕ). has_id runs n ≡ true) (eqb-true other.0 run member) known

pub KnowsRuns-front : (runs : List ℕ) (x more : List Effect) → KnowsRuns runs (x ++ more) → KnowsRuns runs x
KnowsRuns-front runs x more known run is = known run (list_any-append (λ f. in_run run f.member) x more ∙ or_left (list_any (λ f. in_run run f.member) x) (list_any (λ f. in_run run f.member) more) is)

has_id-with : (ids : List ℕ) (id a : ℕ) → has_id ids a ≡ true → has_id (with_id ids id) a ≡ true
has_id-with [] id a is = absurd (false≢true is)
has_id-with (other ∷ ids) id a is = elim (nat_lt id other) as (λ b. nat_lt id other ≡ b → has_id (with_id (other ∷ ids) id) a ≡ true) [
  | true ↦ λ less. rw less (or_right (nat_eq id a) (has_id (other ∷ ids) a) is)
  | false ↦ λ not_less. elim (nat_lt other id) as (λ b. nat_lt other id ≡ b → has_id (with_id (other ∷ ids) id) a ≡ true) [
    | true ↦ λ more. rw (not_less, more) (elim (or_cases (nat_eq other a) (has_id ids a) is) [
      | inl here ↦ or_left (nat_eq other a) (has_id (with_id ids id) a) here
      | inr later ↦ or_right (nat_eq other a) (has_id (with_id ids id) a) (has_id-with ids id a later)
    ])
    | false ↦ λ same. rw (not_less, same) is
  ] refl
] refl

pub KnowsRuns-with : (runs : List ℕ) (id : ℕ) (x : List Effect) → KnowsRuns runs x → KnowsRuns (with_id runs id) x
KnowsRuns-with runs id x known run is = has_id-with runs id run (known run is)

pub has_id-new : (ids : List ℕ) (id : ℕ) → has_id (with_id ids id) id ≡ true
has_id-new [] id = rw (eq-eqb id id refl) refl
has_id-new (other ∷ ids) id = elim (nat_lt id other) as (λ b. nat_lt id other ≡ b → has_id (with_id (other ∷ ids) id) id ≡ true) [
  | true ↦ λ less. rw (less, eq-eqb id id refl) refl
  | false ↦ λ not_less. elim (nat_lt other id) as (λ b. nat_lt other id ≡ b → has_id (with_id (other ∷ ids) id) id ≡ true) [
    | true ↦ λ more. rw (not_less, more) (or_right (nat_eq other id) (has_id (with_id ids id) id) (has_id-new ids id))
    | false ↦ λ same. let low = ltb-false id other not_less in let high = ltb-false other id same in rw (not_less, same, eq-eqb other id (omega (arith, low, high))) refl
  ] refl
] refl
