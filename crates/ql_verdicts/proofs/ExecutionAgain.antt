-- the lines of an execution are read as that execution, with objects numbered by their first occurrence
use Rattle.std.proofs.Common.{◌≡◌, ◌||◌, inl, inr, ℕ, zero, suc, ◌<◌, ◌+◌, ◌^◌, Bool, true, false, not, nat_eq, nat_le, List, [], ◌∷◌, ◌++◌, All, Option, Some, None, Ok, Err, length, codes, arith, refl, ap, sym, subst, ◌∙◌, append_assoc, length-append}
use Rattle.std.specs.Prelude.{IsTrue, if◌then◌else◌}
use Rattle.std.specs.List.{AllByRecursion}
use Rattle.std.specs.Option.{option_and_then, option_map, option_map_or}
use Rattle.std.specs.Str.Lines.{lines}
use Rattle.std.proofs.lemmas.Bool.{eq-eqb, eqb-true}
use Rattle.std.proofs.lemmas.Bool.Decides.{nat_tests}
use Rattle.std.proofs.lemmas.List.{append-nil, length-map, map-append}
use Rattle.std.proofs.lemmas.Option.{same_Some, unwrap_or-slice_get}
use Rattle.ql_base.specs.IdLists.{IsAscending, has_id}
use Rattle.ql_base.specs.Names.{IsName}
use Rattle.ql_base.specs.Numbering.{with_name}
use Rattle.ql_base.specs.declared.ids.OpId.{OpId}
use Rattle.ql_lang.specs.declared.program.Program.{Program}
use Rattle.ql_lines.specs.Fields.{IsId, fields_of}
use Rattle.ql_lines.specs.Lines.{Numbered, is_skipped, kept_lines}
use Rattle.ql_lines.specs.Texts.{file_text, joined}
use Rattle.ql_lines.proofs.LineEnds.{Stay, stays_of}
use Rattle.ql_typing.specs.Operations.{op_kinds}
use Rattle.ql_exec.specs.declared.effect.Effect.{Effect}
use Rattle.ql_exec.specs.declared.effect.Member.{Member}
use Rattle.ql_exec.specs.declared.effect.Member.TheVariants.{Alone, Inside}
use Rattle.ql_exec.specs.Effects.{effect_at}
use Rattle.ql_exec.specs.Execution.{IsExecution, stamp_of}
use Rattle.ql_exec.proofs.Finding.{effect_at-append, effect_at-last}
use Rattle.ql_exec.proofs.Law.{IsExecution-front}
use Rattle.ql_exec.proofs.Stamps.{stamp_few}
use Rattle.ql_effect_lines.specs.declared.rules.ReportRule.TheVariants.{Unknown, Mixed}
use Rattle.ql_effect_lines.specs.declared.effects_read.EffectsRead.{EffectsRead}
use Rattle.ql_effect_lines.specs.EffectLine.{IsEffectLine}
use Rattle.ql_effect_lines.specs.Effects.{after_effect, after_known, draft_of_line, first_on, is_mixed, type_number_of, known_of, member_of_line, object_number, with_draft, with_object_name}
use Rattle.ql_execution_files.specs.ExecutionFile.{ClosesExecution, Takes, gives, nothing_read}
use Rattle.ql_execution_files.specs.declared.format.ExecutionReading.TheVariants.{Ended, Unbegun, WithEffects}
use Rattle.ql_lines.specs.Outcomes.{Leads}
use Rattle.ql_report.specs.EffectTexts.{IsDeclared, IsNamed, effect_fields, effects_text, execution_text, object_name}
use Rattle.ql_report.specs.NumberedLines.{lines_from}
use Rattle.ql_typing.specs.Names.{op_name}
use Rattle.ql_verdicts.specs.Printable.{FindsNames, IsPrintable, IsWritable}
use Rattle.ql_verdicts.specs.Renumbered.{IsRenumbered, renumbered}
use Rattle.ql_verdicts.proofs.EffectAgain.{NamedMember, begun_of, effect_stays, effect_reported, is_effect_line, line_of}
use Rattle.ql_verdicts.proofs.LinesAgain.{first_line}
use Rattle.ql_verdicts.proofs.Numbers.{all_kept, first_of, grown, next_number, one_name}
use Rattle.ql_verdicts.proofs.Renumbering.{draft_from, no_other_fault, other_pushed, other_stamp, others}

-- ---- lists

all-left : {X : Type 0} (P : X → Type 0) (xs ys : List X) → AllByRecursion P (xs ++ ys) → AllByRecursion P xs
all-left P [] ys h = tt
all-left P (x ∷ xs) ys h = (h.0, all-left P xs ys h.1)

all-right : {X : Type 0} (P : X → Type 0) (xs ys : List X) → AllByRecursion P (xs ++ ys) → AllByRecursion P ys
all-right P [] ys h = h
all-right P (x ∷ xs) ys h = all-right P xs ys h.1

by-recursion : {X : Type 0} (P : X → Type 0) (xs : List X) → All P xs → AllByRecursion P xs
by-recursion P [] h = tt
by-recursion P (x ∷ xs) h = (h 0 x (omega arith), by-recursion P xs (λ k d lt. h (suc k) d (omega (arith, lt))))

-- what holds of the effect of every id
each-at : (P : Effect → Type 0) (x : List Effect) → ((a : ℕ) (e : Effect) → effect_at x a ≡ Some e → P e) → AllByRecursion P x
each-at P [] h = tt
each-at P (e ∷ x) h = (h 1 e refl, each-at P x later)
  where
    later : (a : ℕ) (f : Effect) → effect_at x a ≡ Some f → P f
    later zero f at = absurd (let never : None ≡ Some f = at in cc)
    later (suc k) f at = h (suc (suc k)) f at

-- and the other way round
pub at-each : (P : Effect → Type 0) (x : List Effect) → AllByRecursion P x → (a : ℕ) (e : Effect) → effect_at x a ≡ Some e → P e
at-each P x h zero e at = absurd (let never : None ≡ Some e = at in cc)
at-each P [] h (suc k) e at = absurd (let never : None ≡ Some e = at in cc)
at-each P (f ∷ x) h (suc zero) e at = subst P (same_Some f e at) h.0
at-each P (f ∷ x) h (suc (suc k)) e at = at-each P x h.1 (suc k) e at

-- ---- one effect

module _ (p : Program) (objects : List (List ℕ)) (number : ℕ → ℕ) where
  -- operations on objects with one number are of one type
  abbrev IsOfKind : Effect → Effect → Type 0
  IsOfKind e g = number g.object.0 ≡ number e.object.0 → type_number_of p g.op ≡ type_number_of p e.op

  first-kind : (x : List Effect) (e : Effect) → AllByRecursion (IsOfKind e) x → (f : Effect) → first_on (others number x) (record { 0 = number e.object.0 }) ≡ Some f → type_number_of p f.op ≡ type_number_of p e.op
  first-kind [] e h f at = absurd (let never : None ≡ Some f = at in cc)
  first-kind (g ∷ x) e h f at = by (nat_eq (number g.object.0) (number e.object.0)) refl at (λ later. first-kind x e h.1 f later)
    where
      by : (t : Bool) → nat_eq (number g.object.0) (number e.object.0) ≡ t → (if t then Some (renumbered number g) else first_on (others number x) (record { 0 = number e.object.0 })) ≡ Some f
          → (first_on (others number x) (record { 0 = number e.object.0 }) ≡ Some f → type_number_of p f.op ≡ type_number_of p e.op) → type_number_of p f.op ≡ type_number_of p e.op
      by true same is more =
          let found : renumbered number g ≡ f = same_Some (renumbered number g) f is in
          ap (λ (q : Effect). type_number_of p q.op) (sym found) ∙ h.0 (eqb-true (number g.object.0) (number e.object.0) same)
      by false other is more = more is

  not-mixed : (x : List Effect) (e : Effect) → AllByRecursion (IsOfKind e) x → is_mixed p (others number x) (record { 0 = number e.object.0 }) e.op ≡ false
  not-mixed x e h = by (first_on (others number x) (record { 0 = number e.object.0 })) refl
    where
      by : (r : Option Effect) → first_on (others number x) (record { 0 = number e.object.0 }) ≡ r → option_map_or (λ (first : Effect). not (nat_eq (type_number_of p first.op) (type_number_of p e.op))) r false ≡ false
      by None is = refl
      by (Some f) is = ap not (eq-eqb (type_number_of p f.op) (type_number_of p e.op) (first-kind x e h f is))

  module _ (names : FindsNames p) where
    member-found : (m : Member) → IsDeclared p m → member_of_line p (begun_of p m) ≡ Some m
    member-found Alone h = refl
    member-found (Inside run decl) h = ap (option_map (λ d. Inside (record { 0 = run.0 }) (record { 0 = d }))) (names.txn decl.0 h).1

    known-found : (e : Effect) → IsNamed p (length objects) e → known_of p (line_of p objects e) ≡ Some (e.op, e.member)
    known-found e is =
        ap (option_and_then (λ o. option_map (λ member. (record { 0 = o }, member)) (member_of_line p (begun_of p e.member)))) (names.op e.op.0 is.op).1
        ∙ ap (option_map (λ member. (record { 0 = e.op.0 }, member))) (member-found e.member is.txn)

    -- what the line of the next effect makes of those before it
    next-effect : (done : List (List ℕ)) (x : List Effect) (e : Effect) → IsExecution (x ++ e ∷ []) → length x < 4000 → IsNamed p (length objects) e → AllByRecursion (IsOfKind e) x
        → object_number done (object_name objects e.object.0) ≡ number e.object.0
        → after_effect p (record { objects = done; effects = others number x }) (line_of p objects e)
        ≡ Ok (record { objects = with_name done (object_name objects e.object.0); effects = others number (x ++ e ∷ []) })
    next-effect done x e law room is kinds numbered =
        let before : EffectsRead = record { objects = done; effects = others number x } in
        let l = line_of p objects e in
        let w = object_name objects e.object.0 in
        let after = λ (n : ℕ). (if is_mixed p (others number x) (record { 0 = n }) e.op then Err Mixed else with_draft (with_object_name before w) (draft_of_line l (record { 0 = n }) e.op e.member) e.stamp) in
        let draft = draft_from e (record { 0 = number e.object.0 }) in
        let count = length-map x (renumbered number) in
        let few : nat_le 4000 (length (others number x)) ≡ false = (let n : length (others number x) < 4000 = omega (arith, count, room) in grind (arith, nat_tests, n)) in
        let stamp : nat_eq (stamp_of (others number x) e.session e.seen) e.stamp ≡ true = eq-eqb (stamp_of (others number x) e.session e.seen) e.stamp (other_stamp number x e law) in
        let effects : others number x ++ renumbered number e ∷ [] ≡ others number (x ++ e ∷ []) = sym (map-append (renumbered number) x (e ∷ [])) in
        ap (λ (k : Option (OpId × Member)). option_map_or (λ known. after_known p before l known.0 known.1) k (Err Unknown)) (known-found e is)
        ∙ ap after numbered
        ∙ rw (not-mixed x e kinds, no_other_fault number x e law, stamp, few) (ap (λ (es : List Effect). Ok (record { objects = with_name done w; effects = es })) (ap (λ (f : Effect). others number x ++ f ∷ []) (other_pushed number x e law) ∙ effects))

-- ---- all effects of an execution

module _ (p : Program) (objects : List (List ℕ)) (x : List Effect) (is : IsPrintable p objects x) where
  -- the number that the reader gives an object
  unfoldable pub number : ℕ → ℕ
  number o = first_of (grown objects [] x) (object_name objects o)

  named-at : (a : ℕ) (e : Effect) → effect_at x a ≡ Some e → IsNamed p (length objects) e
  named-at = at-each (IsNamed p (length objects)) x (by-recursion (IsNamed p (length objects)) x is.named)

  -- no two objects have one number
  apart : (a b : ℕ) (e g : Effect) → effect_at x a ≡ Some e → effect_at x b ≡ Some g → number e.object.0 ≡ number g.object.0 → e.object.0 ≡ g.object.0
  unfolding number
  apart a b e g e_at g_at same =
      let Kept : Effect → Type 0 = λ f. first_of (grown objects [] x) (object_name objects f.object.0) < length (grown objects [] x) in
      let kept = all_kept objects x [] in
      is.distinct.apart e.object.0 g.object.0 (named-at a e e_at).object (named-at b g g_at).object
      (one_name (grown objects [] x) (object_name objects e.object.0) (object_name objects g.object.0) (at-each Kept x kept a e e_at) (at-each Kept x kept b g g_at) same)

  kinds-of : (b : ℕ) (e : Effect) → effect_at x b ≡ Some e → AllByRecursion (IsOfKind p objects number e) x
  kinds-of b e e_at = each-at (IsOfKind p objects number e) x (λ a g g_at same.
      unwrap_or-slice_get (op_kinds p.types) g.op.0 0 ∙ is.one_type a b g e g_at e_at (apart a b g e g_at e_at same) ∙ sym (unwrap_or-slice_get (op_kinds p.types) e.op.0 0))

  member-named : (m : Member) → IsDeclared p m → NamedMember p m
  member-named Alone h = tt
  member-named (Inside run decl) h = (is.names.txn decl.0 h).0

  ids-fit : (ids : List ℕ) (most : ℕ) → most < 2 ^ 32 → ((a : ℕ) → IsTrue (has_id ids a) → a < most) → AllByRecursion IsId ids
  ids-fit [] most small below = tt
  ids-fit (id ∷ ids) most small below = (
    (let less = below id (first id ids) in omega (arith, less, small)),
    ids-fit ids most small (λ a has. below a (next id ids a has)),
  )
    where
      first : (id : ℕ) (ids : List ℕ) → IsTrue (has_id (id ∷ ids) id)
      first id ids = rw (eq-eqb id id refl) refl

      next : (id : ℕ) (ids : List ℕ) (a : ℕ) → IsTrue (has_id ids a) → IsTrue (has_id (id ∷ ids) a)
      next id ids a has = elim (nat_eq id a) as (λ t. IsTrue (t || has_id ids a)) [ true ↦ refl | false ↦ has ]

  module _ (done : List Effect) (e : Effect) (rest : List Effect) (split : x ≡ done ++ e ∷ rest) where
    pushed : x ≡ (done ++ e ∷ []) ++ rest
    pushed = split ∙ sym (append_assoc done (e ∷ []) rest)

    law : IsExecution (done ++ e ∷ [])
    law = IsExecution-front (done ++ e ∷ []) rest (subst IsExecution pushed is.execution)

    here : effect_at x (suc (length done)) ≡ Some e
    here =
        let count = length-append done (e ∷ []) in
        ap (λ (y : List Effect). effect_at y (suc (length done))) pushed
        ∙ effect_at-append (done ++ e ∷ []) rest (suc (length done)) (omega (arith, count)) ∙ effect_at-last done e

    room : length done < 4000
    room =
        let all = ap length split in
        let long = length-append done (e ∷ rest) in
        let few = is.few in
        omega (arith, all, long, few)

    its_name : IsNamed p (length objects) e
    its_name = named-at (suc (length done)) e here

    writable : IsWritable e
    writable = at-each IsWritable x is.effects (suc (length done)) e here

    named_object : IsName (object_name objects e.object.0)
    named_object = is.distinct.named e.object.0 its_name.object

    named_op : IsName (op_name p e.op.0)
    named_op = (is.names.op e.op.0 its_name.op).0

    small_stamp : e.stamp < 2 ^ 32
    small_stamp =
        let before = IsExecution-front done (e ∷ []) law in
        let few = stamp_few done before e.seen e.session in
        let is_stamp = law.stamped done e [] refl in
        let less = room in
        omega (arith, few.0, few.1, is_stamp, less)

    seen_ids : AllByRecursion IsId e.seen
    seen_ids = (let less = room in ids-fit e.seen (suc (length done)) (omega (arith, less)) (λ a has. ((law.sees (suc (length done)) e (effect_at-last done e)).0 a has).0))

    ascends : IsAscending e.seen
    ascends = (law.sees (suc (length done)) e (effect_at-last done e)).1

    kinds : AllByRecursion (IsOfKind p objects number e) done
    kinds = all-left (IsOfKind p objects number e) done (e ∷ rest) (subst (AllByRecursion (IsOfKind p objects number e)) split (kinds-of (suc (length done)) e here))

    -- its line is the next effect
    its_line : (ns : List (List ℕ)) → object_number ns (object_name objects e.object.0) ≡ number e.object.0 → (l : Numbered) → l.text ≡ joined (effect_fields p objects (suc (length done)) e)
        → Takes p (WithEffects (record { objects = ns; effects = others number done })) l.text
        (WithEffects (record { objects = with_name ns (object_name objects e.object.0); effects = others number (done ++ e ∷ []) }))
    its_line ns numbered l text = inl (record {
      effect = line_of p objects e;
      more = record { objects = with_name ns (object_name objects e.object.0); effects = others number (done ++ e ∷ []) };
      is =
          let count = length-map done (renumbered number) in
          subst (λ (k : ℕ). IsEffectLine l.text (suc k) (line_of p objects e)) (sym count)
          (subst (λ (t : List ℕ). IsEffectLine t (suc (length done)) (line_of p objects e)) (sym text)
          (is_effect_line p objects (suc (length done)) e named_object named_op (member-named e.member its_name.txn) writable small_stamp seen_ids ascends));
      lawful = next-effect p objects number is.names ns done e law room its_name kinds numbered;
      to = refl;
    })

    its_reported : is_skipped (joined (effect_fields p objects (suc (length done)) e)) ≡ false
    its_reported = effect_reported p objects (suc (length done)) e named_object named_op (member-named e.member its_name.txn) writable

    its_stay : Stay (joined (effect_fields p objects (suc (length done)) e))
    its_stay = effect_stays p objects (suc (length done)) e named_object named_op (member-named e.member its_name.txn) writable

  -- ---- line after line

  end_lines : (n : ℕ) → (l : Numbered) × (l.text ≡ codes "end") × (kept_lines n (lines (codes "end\n")) ≡ l ∷ [])
  unfolding kept_lines file_text is_skipped
  end_lines n = (record { number = n; text = codes "end" }, refl, ap (kept_lines n) (first_line (codes "end" ∷ []) [] [] (stays_of 101 (omega arith), (stays_of 110 (omega arith), (stays_of 100 (omega arith), tt)))))

  ended : (reported_all : EffectsRead) (n : ℕ) → Leads (gives p) ClosesExecution (WithEffects reported_all) (kept_lines n (lines (codes "end\n"))) (Ended reported_all)
  unfolding Leads
  ended reported_all n =
      let l = end_lines n in
      subst (λ ls. Leads (gives p) ClosesExecution (WithEffects reported_all) ls (Ended reported_all)) (sym l.2)
      (Ended reported_all, inr (record { is = ap fields_of l.1; to = refl }), refl)

  from_here : (done es : List Effect) (ns : List (List ℕ)) (k n : ℕ) → x ≡ done ++ es → k ≡ suc (length done) → grown objects ns es ≡ grown objects [] x
      → Leads (gives p) ClosesExecution (WithEffects (record { objects = ns; effects = others number done })) (kept_lines n (lines (file_text (lines_from (effect_fields p objects) k es) ++ codes "end\n"))) (Ended (record { objects = grown objects [] x; effects = others number x }))
  unfolding Leads grown lines_from file_text kept_lines number
  from_here done [] ns k n split at same =
      let all : others number x ≡ others number done = ap (others number) (split ∙ append-nil done) in
      subst (λ (t : EffectsRead). Leads (gives p) ClosesExecution (WithEffects (record { objects = ns; effects = others number done })) (kept_lines n (lines (codes "end\n"))) (Ended t))
      (ap (λ (es : List Effect). record { objects = ns; effects = es }) (sym all) ∙ ap (λ (m : List (List ℕ)). record { objects = m; effects = others number x }) same)
      (ended (record { objects = ns; effects = others number done }) n)
  from_here done (e ∷ es) ns k n split at same =
      let w = object_name objects e.object.0 in
      let l = effect_fields p objects k e in
      let id : k ≡ suc (length done) = at in
      let text : joined l ≡ joined (effect_fields p objects (suc (length done)) e) = ap (λ (m : ℕ). joined (effect_fields p objects m e)) id in
      let after = file_text (lines_from (effect_fields p objects) (k + 1) es) ++ codes "end\n" in
      let first : lines (file_text (l ∷ lines_from (effect_fields p objects) (k + 1) es) ++ codes "end\n") ≡ joined l ∷ lines after =
      first_line l (lines_from (effect_fields p objects) (k + 1) es) (codes "end\n") (subst Stay (sym text) (its_stay done e es split)) in
      let line : Numbered = record { number = n; text = joined l } in
      let here : kept_lines n (joined l ∷ lines after) ≡ line ∷ kept_lines (n + 1) (lines after) = rw (ap is_skipped text ∙ its_reported done e es split) refl in
      let next : EffectsRead = record { objects = with_name ns w; effects = others number (done ++ e ∷ []) } in
      let numbered : object_number ns w ≡ number e.object.0 = next_number objects ns e es ∙ ap (λ (m : List (List ℕ)). first_of m w) same in
      let count = length-append done (e ∷ []) in
      subst (λ ls. Leads (gives p) ClosesExecution (WithEffects (record { objects = ns; effects = others number done })) ls (Ended (record { objects = grown objects [] x; effects = others number x }))) (sym (ap (kept_lines n) first ∙ here)) (
        WithEffects next,
        its_line done e es split ns numbered line text,
        from_here (done ++ e ∷ []) es (with_name ns w) (k + 1) (n + 1) (split ∙ sym (append_assoc done (e ∷ []) es)) (omega (arith, id, count)) same,
      )

  -- the lines of an execution from its first line on
  pub execution_leads : (n : ℕ) → Leads (gives p) ClosesExecution Unbegun (kept_lines n (lines (execution_text p objects x))) (Ended (record { objects = grown objects [] x; effects = others number x }))
  unfolding Leads kept_lines file_text is_skipped
  execution_leads n =
      let after = effects_text p objects x ++ codes "end\n" in
      let first : lines (codes "execution\n" ++ after) ≡ codes "execution" ∷ lines after =
      first_line (codes "execution" ∷ []) [] after (stays_of 101 (omega arith), (stays_of 120 (omega arith), (stays_of 101 (omega arith), (stays_of 99 (omega arith), (stays_of 117 (omega arith), (stays_of 116 (omega arith), (stays_of 105 (omega arith), (stays_of 111 (omega arith), (stays_of 110 (omega arith), tt))))))))) in
      subst (λ ls. Leads (gives p) ClosesExecution Unbegun (kept_lines n ls) (Ended (record { objects = grown objects [] x; effects = others number x }))) (sym first) (
        WithEffects nothing_read,
        inl (refl, refl),
        from_here [] x [] 1 (n + 1) refl refl refl,
      )

  pub same_execution : IsRenumbered x (others number x)
  same_execution = record { number = number; apart = apart; is = refl }
