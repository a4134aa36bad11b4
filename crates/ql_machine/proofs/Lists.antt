-- Looking up in the lists of the state after a change: open transactions, messages, what was received.
use Rattle.std.proofs.Common.{◌≡◌, ℕ, zero, suc, ◌<◌, ◌≤◌, ◌-◌, ◌⊎◌, cond, not, Bool, true, false, ◌&&◌, ◌||◌, nat_eq, List, [], ◌∷◌, ◌++◌, length, get_or, set, slice_get, Option, Some, None, refl, ap, sym, subst, ◌∙◌, inl, inr, arith, length-set}
use Rattle.std.specs.Option.{option_or}
use Rattle.std.proofs.lemmas.Bool.{and_from, both_ways, cases_Bool, cases_eq, eq-eqb, eqb-true, false_from_ne_true, false≢true, or_left, or_right}
use Rattle.std.proofs.lemmas.List.Folds.{find-append, list_any-append}
use Rattle.std.proofs.lemmas.Option.{cond_some, same_Some}
use Rattle.ql_base.specs.IdLists.{IsAscending, has_id, union_of}
use Rattle.ql_base.proofs.IdLemmas.{IsAscending-union}
use Rattle.ql_base.specs.declared.ids.ReplicaId.{ReplicaId}
use Rattle.ql_base.specs.declared.ids.SessId.{SessId}
use Rattle.ql_exec.specs.declared.effect.Effect.{Effect}
use Rattle.ql_exec.specs.declared.effect.Member.{Member}
use Rattle.ql_exec.specs.declared.effect.Member.TheVariants.{Alone, Inside}
use Rattle.ql_exec.specs.Effects.{effect_at, one}
use Rattle.ql_holder.specs.Closed.{Has}
use Rattle.ql_holder.proofs.IdSets.{in_union-cases, in_union-left, in_union-right}
use Rattle.ql_machine.specs.declared.message.Message.{Message}
use Rattle.ql_machine.specs.declared.open_txn.OpenTxn.{OpenTxn}
use Rattle.ql_machine.specs.State.{committed, is_done, is_open_run, message_at, open_of, received_at}
use Rattle.ql_machine.specs.Changes.{is_sent, message_of, package_to_others, received_by, received_by_all, recounted, to_others, without}
use Rattle.ql_machine.specs.Kept.{EachCarries, IsDone, IsNumbered, IsOpen}

-- ---- one list

-- an element of a list in which one was replaced is the old one, or the new one at its index
pub get_or-set-either : {X : Type 0} (xs : List X) (i k : ℕ) (v d : X) → (get_or (set xs i v) k d ≡ get_or xs k d) ⊎ ((get_or (set xs i v) k d ≡ v) × (k ≡ i) × (i < length xs))
get_or-set-either [] i k v d = inl refl
get_or-set-either (x ∷ xs) zero zero v d = inr (refl, refl, omega arith)
get_or-set-either (x ∷ xs) zero (suc k) v d = inl refl
get_or-set-either (x ∷ xs) (suc i) zero v d = inl refl
get_or-set-either (x ∷ xs) (suc i) (suc k) v d = elim (get_or-set-either xs i k v d) [
  | inl old ↦ inl old
  | inr new ↦ let less = new.2 in inr (new.0, ap suc new.1, omega (arith, less))
]

pub get_or-set-there : {X : Type 0} (xs : List X) (i : ℕ) (v d : X) → i < length xs → get_or (set xs i v) i d ≡ v
get_or-set-there [] i v d less = absurd (omega (arith, less))
get_or-set-there (x ∷ xs) zero v d less = refl
get_or-set-there (x ∷ xs) (suc i) v d less = get_or-set-there xs i v d (omega (arith, less))

-- ---- open transactions

open-more : (o : List OpenTxn) (t : OpenTxn) (session : SessId) → open_of (o ++ t ∷ []) session ≡ option_or (open_of o session) (open_of (t ∷ []) session)
open-more o t session = find-append (λ (u : OpenTxn). nat_eq u.session.0 session.0) o (t ∷ [])

-- what was open stays open where one more begins
pub open-kept : (o : List OpenTxn) (t u : OpenTxn) (session : SessId) → IsOpen o session u → IsOpen (o ++ t ∷ []) session u
open-kept o t u session is = open-more o t session ∙ ap (λ (r : Option OpenTxn). option_or r (open_of (t ∷ []) session)) is

pub open-cases : (o : List OpenTxn) (t u : OpenTxn) (session : SessId) → IsOpen (o ++ t ∷ []) session u → IsOpen o session u ⊎ ((t.session.0 ≡ session.0) × (t ≡ u))
open-cases o t u session is = by (open_of o session) refl
  where
    by : (r : Option OpenTxn) → open_of o session ≡ r → IsOpen o session u ⊎ ((t.session.0 ≡ session.0) × (t ≡ u))
    by (Some v) found = inl (found ∙ sym (open-more o t session ∙ ap (λ (r : Option OpenTxn). option_or r (open_of (t ∷ []) session)) found) ∙ is)
    by None none =
        let new : cond (nat_eq t.session.0 session.0) (Some t) None ≡ Some u = sym (open-more o t session ∙ ap (λ (r : Option OpenTxn). option_or r (open_of (t ∷ []) session)) none) ∙ is in
        let parts = cond_some (nat_eq t.session.0 session.0) t u new in
        inr (eqb-true t.session.0 session.0 parts.0, parts.1)

-- nothing is committed or undone where a transaction with a new number begins
pub committed-begun : (x : List Effect) (o : List OpenTxn) (t : OpenTxn) (begun : ℕ) → begun < t.run.0
    → ((a : ℕ) (e : Effect) → effect_at x a ≡ Some e → IsNumbered begun e.member) → (a : ℕ) → committed x (o ++ t ∷ []) a ≡ committed x o a
committed-begun x o t begun new numbered a = by (effect_at x a) refl
  where
    apart : (run : ℕ) → run ≤ begun → (b : Bool) → not (is_open_run (cond b (Some t) None) run) ≡ true
    apart run low false = refl
    apart run low true = ap not (false_from_ne_true (nat_eq t.run.0 run) (λ same. let equal = eqb-true t.run.0 run same in omega (arith, equal, low, new)))

    still : (run : ℕ) → run ≤ begun → (session : SessId) (r : Option OpenTxn) → not (is_open_run (option_or r (open_of (t ∷ []) session)) run) ≡ not (is_open_run r run)
    still run low session (Some v) = refl
    still run low session None = apart run low (nat_eq t.session.0 session.0)

    member : (m : Member) (session : SessId) → IsNumbered begun m → is_done (open_of (o ++ t ∷ []) session) m ≡ is_done (open_of o session) m
    member Alone session low = refl
    member (Inside run decl) session low = ap (λ (r : Option OpenTxn). not (is_open_run r run.0)) (open-more o t session) ∙ still run.0 low session (open_of o session)

    by : (r : Option Effect) → effect_at x a ≡ r → one (λ e. is_done (open_of (o ++ t ∷ []) e.session) e.member) r ≡ one (λ e. is_done (open_of o e.session) e.member) r
    by None is = refl
    by (Some e) is = member e.member e.session (numbered a e is)

without-own : (o : List OpenTxn) (session other : SessId) → other.0 ≡ session.0 → open_of (without o session) other ≡ None
without-own [] session other same = refl
without-own (u ∷ o) session other same = by (without-own o session other same) (nat_eq u.session.0 session.0) refl
  where
    by : open_of (without o session) other ≡ None → (b : Bool) → nat_eq u.session.0 session.0 ≡ b → open_of (cond (not b) (u ∷ without o session) (without o session)) other ≡ None
    by later true is = later
    by later false is =
        let apart : nat_eq u.session.0 other.0 ≡ false = subst (λ (n : ℕ). nat_eq u.session.0 n ≡ false) (sym same) is in
        ap (λ (b : Bool). cond b (Some u) (open_of (without o session) other)) apart ∙ later

pub without-other : (o : List OpenTxn) (session other : SessId) → (other.0 ≡ session.0 → ⊥) → open_of (without o session) other ≡ open_of o other
without-other [] session other differ = refl
without-other (u ∷ o) session other differ = by (without-other o session other differ) (nat_eq u.session.0 session.0) refl
  where
    by : open_of (without o session) other ≡ open_of o other → (b : Bool) → nat_eq u.session.0 session.0 ≡ b
        → open_of (cond (not b) (u ∷ without o session) (without o session)) other ≡ open_of (u ∷ o) other
    by later true is =
        let apart : nat_eq u.session.0 other.0 ≡ false = false_from_ne_true (nat_eq u.session.0 other.0) (λ same. differ (sym (eqb-true u.session.0 other.0 same) ∙ eqb-true u.session.0 session.0 is)) in
        later ∙ sym (ap (λ (b : Bool). cond b (Some u) (open_of o other)) apart)
    by later false is = ap (λ (r : Option OpenTxn). cond (nat_eq u.session.0 other.0) (Some u) r) later

-- what is open after a commit was open before, and is another session's
pub without-cases : (o : List OpenTxn) (session other : SessId) (u : OpenTxn) → IsOpen (without o session) other u → (other.0 ≡ session.0 → ⊥) × IsOpen o other u
without-cases o session other u is = by (nat_eq other.0 session.0) refl
  where
    by : (b : Bool) → nat_eq other.0 session.0 ≡ b → (other.0 ≡ session.0 → ⊥) × IsOpen o other u
    by true same = absurd (let never : None ≡ Some u = sym (without-own o session other (eqb-true other.0 session.0 same)) ∙ is in cc)
    by false apart =
        let differ : other.0 ≡ session.0 → ⊥ = λ same. both_ways (nat_eq other.0 session.0) apart (eq-eqb other.0 session.0 same) in
        (differ, sym (without-other o session other differ) ∙ is)

done-none : (m : Member) → is_done None m ≡ true
done-none Alone = refl
done-none (Inside run decl) = refl

-- every effect of the session is committed then
pub done-own : (x : List Effect) (o : List OpenTxn) (session : SessId) (a : ℕ) (e : Effect) → effect_at x a ≡ Some e → e.session.0 ≡ session.0 → IsDone x (without o session) a
done-own x o session a e at same =
    ap (one (λ f. is_done (open_of (without o session) f.session) f.member)) at
    ∙ ap (λ (r : Option OpenTxn). is_done r e.member) (without-own o session e.session same) ∙ done-none e.member

-- and what was committed stays so
pub done-kept : (x : List Effect) (o : List OpenTxn) (session : SessId) (a : ℕ) → IsDone x o a → IsDone x (without o session) a
done-kept x o session a done = by (effect_at x a) refl done
  where
    by : (r : Option Effect) → effect_at x a ≡ r → one (λ e. is_done (open_of o e.session) e.member) r ≡ true → IsDone x (without o session) a
    by None at is = absurd (false≢true is)
    by (Some e) at is = elim (cases_Bool (nat_eq e.session.0 session.0)) [
      | inl same ↦ done-own x o session a e at (eqb-true e.session.0 session.0 same)
      | inr apart ↦
          ap (one (λ f. is_done (open_of (without o session) f.session) f.member)) at
          ∙ ap (λ (r : Option OpenTxn). is_done r e.member) (without-other o session e.session (λ same. both_ways (nat_eq e.session.0 session.0) apart (eq-eqb e.session.0 session.0 same)))
          ∙ is
    ]

-- ---- messages

pub each-append : (fits : List ℕ → Type 0) (messages more : List Message) → EachCarries fits messages → EachCarries fits more → EachCarries fits (messages ++ more)
each-append fits [] more each rest = rest
each-append fits (message ∷ messages) more each rest = (each.0, each-append fits messages more each.1 rest)

pub each-more : (fits suits : List ℕ → Type 0) → ((ids : List ℕ) → fits ids → suits ids) → (messages : List Message) → EachCarries fits messages → EachCarries suits messages
each-more fits suits gives [] each = tt
each-more fits suits gives (message ∷ messages) each = (gives message.carried each.0, each-more fits suits gives messages each.1)

each-get : (fits : List ℕ → Type 0) (messages : List Message) (k : ℕ) (message : Message) → EachCarries fits messages → slice_get messages k ≡ Some message → fits message.carried
each-get fits [] k message each is = absurd (let never : None ≡ Some message = is in cc)
each-get fits (first ∷ messages) zero message each is = subst (λ (m : Message). fits m.carried) (same_Some first message is) each.0
each-get fits (first ∷ messages) (suc k) message each is = each-get fits messages k message each.1 is

pub each-at : (fits : List ℕ → Type 0) (messages : List Message) (m : ℕ) (message : Message) → EachCarries fits messages → message_at messages m ≡ Some message → fits message.carried
each-at fits messages zero message each is = absurd (let never : None ≡ Some message = is in cc)
each-at fits messages (suc k) message each is = each-get fits messages k message each is

each-set : (fits : List ℕ → Type 0) (messages : List Message) (k : ℕ) (message : Message) → EachCarries fits messages → fits message.carried → EachCarries fits (set messages k message)
each-set fits [] k message each fit = tt
each-set fits (first ∷ messages) zero message each fit = (fit, each.1)
each-set fits (first ∷ messages) (suc k) message each fit = (each.0, each-set fits messages k message each.1 fit)

pub each-recounted : (fits : List ℕ → Type 0) (messages : List Message) (m : ℕ) (message : Message) (n : ℕ) → EachCarries fits messages → message_at messages m ≡ Some message → EachCarries fits (recounted messages m message n)
each-recounted fits messages m message n each is = each-set fits messages (m - 1) (record message { copies = n }) each (each-at fits messages m message each is)

pub each-others : (fits : List ℕ → Type 0) (n : ℕ) (sender : ReplicaId) (ids : List ℕ) → fits ids → EachCarries fits (to_others n sender ids)
each-others fits zero sender ids fit = tt
each-others fits (suc r) sender ids fit = each-append fits (to_others r sender ids) _ (each-others fits r sender ids fit) (by (nat_eq r sender.0))
  where
    by : (b : Bool) → EachCarries fits (cond b [] (message_of sender (record { 0 = r }) ids ∷ []))
    by true = tt
    by false = (fit, tt)

pub each-package : (fits : List ℕ → Type 0) (n : ℕ) (sender : ReplicaId) (ids : List ℕ) → ((a : ℕ) → Has ids a → fits ids) → EachCarries fits (package_to_others n sender ids)
each-package fits n sender [] fit = tt
each-package fits n sender (a ∷ ids) fit = each-others fits n sender (a ∷ ids) (fit a (or_left (nat_eq a a) (has_id ids a) (eq-eqb a a refl)))

pub sent-kept : (messages more : List Message) (r a : ℕ) → is_sent messages r a ≡ true → is_sent (messages ++ more) r a ≡ true
sent-kept messages more r a is = list_any-append (λ (m : Message). nat_eq m.receiver.0 r && has_id m.carried a) messages more ∙ or_left (is_sent messages r a) (is_sent more r a) is

pub sent-new : (messages more : List Message) (r a : ℕ) → is_sent more r a ≡ true → is_sent (messages ++ more) r a ≡ true
sent-new messages more r a is = list_any-append (λ (m : Message). nat_eq m.receiver.0 r && has_id m.carried a) messages more ∙ or_right (is_sent messages r a) (is_sent more r a) is

sent-set : (messages : List Message) (k : ℕ) (message : Message) (n r a : ℕ) → slice_get messages k ≡ Some message → is_sent (set messages k (record message { copies = n })) r a ≡ is_sent messages r a
sent-set [] k message n r a is = refl
sent-set (first ∷ messages) zero message n r a is = ap (λ (m : Message). (nat_eq m.receiver.0 r && has_id m.carried a) || is_sent messages r a) (sym (same_Some first message is))
sent-set (first ∷ messages) (suc k) message n r a is = ap (λ (b : Bool). (nat_eq first.receiver.0 r && has_id first.carried a) || b) (sent-set messages k message n r a is)

pub sent-recounted : (messages : List Message) (m : ℕ) (message : Message) (n r a : ℕ) → message_at messages m ≡ Some message → is_sent (recounted messages m message n) r a ≡ is_sent messages r a
sent-recounted messages zero message n r a is = absurd (let never : None ≡ Some message = is in cc)
sent-recounted messages (suc k) message n r a is =
    let index : suc k - 1 ≡ k = omega arith in
    ap (λ (i : ℕ). is_sent (set messages i (record message { copies = n })) r a) index ∙ sent-set messages k message n r a is

pub sent-others : (n : ℕ) (sender : ReplicaId) (ids : List ℕ) (r a : ℕ) → r < n → nat_eq r sender.0 ≡ false → Has ids a → is_sent (to_others n sender ids) r a ≡ true
sent-others zero sender ids r a less other has = absurd (omega (arith, less))
sent-others (suc n) sender ids r a less other has = elim (cases_eq r n) [
  | inl same ↦
      sent-new (to_others n sender ids) _ r a
      (let here : nat_eq n sender.0 ≡ false = subst (λ (k : ℕ). nat_eq k sender.0 ≡ false) same other in
      rw here (or_left (nat_eq n r && has_id ids a) false (and_from (nat_eq n r) (has_id ids a) (eq-eqb n r (sym same)) has)))
  | inr apart ↦ sent-kept (to_others n sender ids) _ r a (sent-others n sender ids r a (omega (arith, less, apart)) other has)
]

pub sent-package : (n : ℕ) (sender : ReplicaId) (ids : List ℕ) (r a : ℕ) → r < n → nat_eq r sender.0 ≡ false → Has ids a → is_sent (package_to_others n sender ids) r a ≡ true
sent-package n sender [] r a less other has = absurd (false≢true has)
sent-package n sender (b ∷ ids) r a less other has = sent-others n sender (b ∷ ids) r a less other has

-- ---- what was received

pub received-cases : (received : List (List ℕ)) (r : ℕ) (ids : List ℕ) (q a : ℕ) → Has (received_at (received_by received r ids) q) a
    → Has (received_at received q) a ⊎ ((q ≡ r) × (r < length received) × Has ids a)
received-cases received r ids q a is = elim (get_or-set-either received r q (union_of (received_at received r) ids) []) [
  | inl old ↦ inl (subst (λ (held : List ℕ). Has held a) old is)
  | inr new ↦ elim (in_union-cases (received_at received r) ids a (subst (λ (held : List ℕ). Has held a) new.0 is)) [
    | inl held ↦ inl (subst (λ (k : ℕ). Has (received_at received k) a) (sym new.1) held)
    | inr more ↦ inr (new.1, new.2, more)
  ]
]

pub received-kept : (received : List (List ℕ)) (r : ℕ) (ids : List ℕ) (q a : ℕ) → Has (received_at received q) a → Has (received_at (received_by received r ids) q) a
received-kept received r ids q a is = elim (get_or-set-either received r q (union_of (received_at received r) ids) []) [
  | inl old ↦ subst (λ (held : List ℕ). Has held a) (sym old) is
  | inr new ↦ subst (λ (held : List ℕ). Has held a) (sym new.0) (in_union-left (received_at received r) ids a (subst (λ (k : ℕ). Has (received_at received k) a) new.1 is))
]

pub received-new : (received : List (List ℕ)) (r : ℕ) (ids : List ℕ) (a : ℕ) → r < length received → Has ids a → Has (received_at (received_by received r ids) r) a
received-new received r ids a less is =
    subst (λ (held : List ℕ). Has held a) (sym (get_or-set-there received r (union_of (received_at received r) ids) [] less)) (in_union-right (received_at received r) ids a is)

pub received-length : (received : List (List ℕ)) (r : ℕ) (ids : List ℕ) → length (received_by received r ids) ≡ length received
received-length received r ids = length-set received r (union_of (received_at received r) ids)

pub received-ascending : (received : List (List ℕ)) (r : ℕ) (ids : List ℕ) → IsAscending ids → ((q : ℕ) → IsAscending (received_at received q)) → (q : ℕ) → IsAscending (received_at (received_by received r ids) q)
received-ascending received r ids ascend held q = elim (get_or-set-either received r q (union_of (received_at received r) ids) []) [
  | inl old ↦ subst IsAscending (sym old) (held q)
  | inr new ↦ subst IsAscending (sym new.0) (IsAscending-union (received_at received r) ids ascend)
]

pub all-ascending : (received : List (List ℕ)) (ids : List ℕ) → IsAscending ids → (q : ℕ) → IsAscending (received_at (received_by_all received ids) q)
all-ascending [] ids ascend q = tt
all-ascending (held ∷ received) ids ascend zero = IsAscending-union held ids ascend
all-ascending (held ∷ received) ids ascend (suc q) = all-ascending received ids ascend q

pub all-cases : (received : List (List ℕ)) (ids : List ℕ) (q a : ℕ) → Has (received_at (received_by_all received ids) q) a → Has (received_at received q) a ⊎ ((q < length received) × Has ids a)
all-cases [] ids q a is = absurd (false≢true is)
all-cases (held ∷ received) ids zero a is = elim (in_union-cases held ids a is) [
  | inl old ↦ inl old
  | inr new ↦ inr (omega arith, new)
]
all-cases (held ∷ received) ids (suc q) a is = elim (all-cases received ids q a is) [
  | inl old ↦ inl old
  | inr new ↦ let less = new.0 in inr (omega (arith, less), new.1)
]

pub all-kept : (received : List (List ℕ)) (ids : List ℕ) (q a : ℕ) → Has (received_at received q) a → Has (received_at (received_by_all received ids) q) a
all-kept [] ids q a is = absurd (false≢true is)
all-kept (held ∷ received) ids zero a is = in_union-left held ids a is
all-kept (held ∷ received) ids (suc q) a is = all-kept received ids q a is

pub all-new : (received : List (List ℕ)) (ids : List ℕ) (q a : ℕ) → q < length received → Has ids a → Has (received_at (received_by_all received ids) q) a
all-new [] ids q a less is = absurd (omega (arith, less))
all-new (held ∷ received) ids zero a less is = in_union-right held ids a is
all-new (held ∷ received) ids (suc q) a less is = all-new received ids q a (omega (arith, less)) is

pub all-length : (received : List (List ℕ)) (ids : List ℕ) → length (received_by_all received ids) ≡ length received
all-length [] ids = refl
all-length (held ∷ received) ids = ap suc (all-length received ids)
