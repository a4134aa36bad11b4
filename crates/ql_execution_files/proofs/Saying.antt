-- Effects that break no rule one after another are those that say an execution.
use Rattle.std.proofs.Common.{◌≡◌, ◌<◌, ◌≤◌, ℕ, zero, suc, false, List, [], ◌∷◌, ◌++◌, map, length, Option, None, Some, Ok, arith, refl, sym, ap, subst, ◌∙◌, append-nil, append_assoc, length-append}
use Rattle.std.specs.Prelude.{option_map}
use Rattle.std.specs.List.{AllZip, fold}
use Rattle.std.proofs.lemmas.Bool.Decides.{nat_tests}
use Rattle.std.proofs.lemmas.Option.{same_Some}
use Rattle.ql_base.specs.IdLists.{IsAscending}
use Rattle.ql_base.specs.Numbering.{with_name}
use Rattle.ql_base.specs.declared.ids.OpId.{OpId}
use Rattle.ql_lang.specs.declared.program.Program.{Program}
use Rattle.ql_lines.proofs.Conses.{both}
use Rattle.ql_typing.specs.Resolved.{number_in}
use Rattle.ql_exec.specs.declared.effect.Effect.{Effect}
use Rattle.ql_exec.specs.declared.effect.Member.{Member}
use Rattle.ql_exec.specs.Effects.{effect_at}
use Rattle.ql_exec.specs.Execution.{IsExecution, effect_of, stamp_of, with_stamp}
use Rattle.ql_exec.proofs.Finding.{effect_at-last, sametxn_parts, so_parts}
use Rattle.ql_exec.proofs.Law.{IsExecution-front, fault_of-None}
use Rattle.ql_effect_lines.specs.declared.effect_line.EffectLine.{EffectLine}
use Rattle.ql_effect_lines.specs.declared.effects_read.EffectsRead.{EffectsRead}
use Rattle.ql_effect_lines.specs.Effects.{after_effect, draft_of_line, is_mixed, known_of, most_effects, object_number}
use Rattle.ql_execution_files.specs.ExecutionFile.{nothing_read}
use Rattle.ql_execution_files.specs.Readings.{AreOfOneType, SaysExecution, effect_said, objects_in, read_as}
use Rattle.ql_execution_files.proofs.EffectLists.{AscendInEach}
use Rattle.ql_execution_files.proofs.Lawful.{IsAllowed, allowed, answered, draft_of}
use Rattle.ql_execution_files.proofs.Names.{number_kept}
use Rattle.ql_execution_files.proofs.InTurn.{ReadAfter}
use Rattle.ql_execution_files.proofs.OneType.{one_type_more, unmixed_there}

abbrev names_in : List EffectLine → List (List ℕ)
names_in es = map (λ (e : EffectLine). e.object) es

module _ (p : Program) where
  -- ---- what the effects are that were read

  abbrev effect_after : EffectsRead → EffectLine → OpId × Member → Effect
  effect_after read e known = effect_of read.effects (draft_of read e known)

  record Appends (read : EffectsRead) (es : List EffectLine) (more : EffectsRead) : Type 0 where
    effects : List Effect
    are : more.effects ≡ read.effects ++ effects
    objects : more.objects ≡ fold with_name read.objects (names_in es)
    said : AllZip (λ e f. effect_said p more.objects e ≡ Some f) es effects

  -- an effect has its last number from the beginning
  number_is : (read more : EffectsRead) (e : EffectLine) (es : List EffectLine) → more.objects ≡ fold with_name (with_name read.objects e.object) (names_in es)
      → number_in more.objects e.object ≡ object_number read.objects e.object
  number_is read more e es are = ap (λ ns. number_in ns e.object) are ∙ number_kept read.objects (names_in es) e.object

  said_with : (objects : List (List ℕ)) (e : EffectLine) (known : OpId × Member) → known_of p e ≡ Some known
      → effect_said p objects e ≡ Some (with_stamp (draft_of_line e (record { 0 = number_in objects e.object }) known.0 known.1) e.setting.stamp)
  said_with objects e known found =
      ap (option_map (λ (k : OpId × Member). with_stamp (draft_of_line e (record { 0 = number_in objects e.object }) k.0 k.1) e.setting.stamp)) found

  said_is : (read more : EffectsRead) (e : EffectLine) (es : List EffectLine) (next : EffectsRead) (law : IsAllowed p read e next)
      → more.objects ≡ fold with_name (with_name read.objects e.object) (names_in es) → effect_said p more.objects e ≡ Some (effect_after read e law.known)
  said_is read more e es next law are =
      said_with more.objects e law.known law.found
      ∙ ap (λ (n : ℕ). Some (with_stamp (draft_of_line e (record { 0 = n }) law.known.0 law.known.1) e.setting.stamp)) (number_is read more e es are)
      ∙ ap (λ (n : ℕ). Some (with_stamp (draft_of read e law.known) n)) (sym law.stamp)

  appends : (es : List EffectLine) (read more : EffectsRead) → ReadAfter p read es more → Appends read es more
  appends [] read more h = record {
    effects = [];
    are = ap (λ (r : EffectsRead). r.effects) (sym h) ∙ sym (append-nil read.effects);
    objects = ap (λ (r : EffectsRead). r.objects) (sym h);
    said = tt;
  }
  appends (e ∷ es) read more (next, ok, rest) =
      let law = allowed p read e next ok in
      let later = appends es next more rest in
      let effect = effect_after read e law.known in
      let objects : more.objects ≡ fold with_name (with_name read.objects e.object) (names_in es) = later.objects ∙ ap (λ (r : EffectsRead). fold with_name r.objects (names_in es)) law.to in
      record {
        effects = effect ∷ later.effects;
        are = later.are ∙ ap (λ (r : EffectsRead). r.effects ++ later.effects) law.to ∙ append_assoc read.effects (effect ∷ []) later.effects;
        objects = objects;
        said = (said_is read more e es next law objects, later.said);
      }

  -- ---- effects that were read are an execution

  record Keeps (x : List Effect) : Type 0 where
    execution : IsExecution x
    one_type : AreOfOneType p x
    few : length x ≤ most_effects

  keeps_one : (read next : EffectsRead) (e : EffectLine) → IsAscending e.setting.seen → Keeps read.effects → IsAllowed p read e next → Keeps next.effects
  keeps_one read next e ascends keeps law =
      let draft = draft_of read e law.known in
      let effect = effect_after read e law.known in
      let step = fault_of-None read.effects draft keeps.execution ascends in
      let same : next.effects ≡ read.effects ++ effect ∷ [] = ap (λ (r : EffectsRead). r.effects) law.to in
      subst Keeps (sym same) (record {
        execution = step.0 law.faultless;
        one_type = one_type_more p read.effects effect keeps.one_type law.unmixed;
        few = let room : length read.effects < most_effects = grind (arith, nat_tests, law.room) in omega (arith, room, length-append read.effects (effect ∷ []));
      })

  keeps_all : (es : List EffectLine) (read more : EffectsRead) → AscendInEach es → Keeps read.effects → ReadAfter p read es more → Keeps more.effects
  keeps_all [] read more ascends keeps h = subst (λ (r : EffectsRead). Keeps r.effects) h keeps
  keeps_all (e ∷ es) read more ascends keeps (next, ok, rest) = keeps_all es next more ascends.1 (keeps_one read next e ascends.0 keeps (allowed p read e next ok)) rest

  nothing_there : (id : ℕ) (e : Effect) → effect_at [] id ≡ Some e → ⊥
  nothing_there zero e is = let never : None ≡ Some e = is in cc
  nothing_there (suc k) e is = let never : None ≡ Some e = is in cc

  apart : (before : List Effect) (e : Effect) (after : List Effect) → [] ≡ before ++ e ∷ after → ⊥
  apart before e after is = omega (arith, ap length is, length-append before (e ∷ after))

  no_effects_yet : Keeps []
  no_effects_yet = record {
    execution = record {
      sees = λ a e is. absurd (nothing_there a e is);
      one_session = λ a b less is. let parts = sametxn_parts [] a b less is in absurd (nothing_there a parts.first parts.first_at);
      one_name = λ a b less is. let parts = sametxn_parts [] a b less is in absurd (nothing_there a parts.first parts.first_at);
      unbroken = λ a b c same first second. let parts = so_parts [] a b first in absurd (nothing_there a parts.first parts.first_at);
      stamped = λ before e after is. absurd (apart before e after is);
    };
    one_type = tt;
    few = omega arith;
  }

  pub said : (es : List EffectLine) (more : EffectsRead) → AscendInEach es → ReadAfter p nothing_read es more → (more ≡ read_as es more.effects) × SaysExecution p es more.effects
  said es more ascends h =
      let are = appends es nothing_read more h in
      let keeps = keeps_all es nothing_read more ascends no_effects_yet h in
      let objects : more.objects ≡ objects_in es = are.objects in
      let same : are.effects ≡ more.effects = sym are.are in (
        (λ i. record { objects = objects i; effects = more.effects }),
        record {
          said = subst (AllZip (λ e f. effect_said p (objects_in es) e ≡ Some f) es) same (subst (λ ns. AllZip (λ e f. effect_said p ns e ≡ Some f) es are.effects) objects are.said);
          execution = keeps.execution;
          one_type = keeps.one_type;
          few = keeps.few;
        },
      )

  -- ---- and back

  known_by : (e : EffectLine) (objects : List (List ℕ)) (d : Effect) (known : Option (OpId × Member)) → known_of p e ≡ known
      → option_map (λ (k : OpId × Member). with_stamp (draft_of_line e (record { 0 = number_in objects e.object }) k.0 k.1) e.setting.stamp) known ≡ Some d
      → (k : OpId × Member) × (known_of p e ≡ Some k) × (with_stamp (draft_of_line e (record { 0 = number_in objects e.object }) k.0 k.1) e.setting.stamp ≡ d)
  known_by e objects d None is said = absurd (let never : None ≡ Some d = said in cc)
  known_by e objects d (Some k) is said = (k, is, same_Some (with_stamp (draft_of_line e (record { 0 = number_in objects e.object }) k.0 k.1) e.setting.stamp) d said)

  -- one more effect is allowed where the execution goes on with what it says
  step_back : (read : EffectsRead) (e : EffectLine) (es : List EffectLine) (objects : List (List ℕ)) (d : Effect) (ds : List Effect) → objects ≡ fold with_name (with_name read.objects e.object) (names_in es)
      → effect_said p objects e ≡ Some d → Keeps (read.effects ++ d ∷ ds) → IsAllowed p read e (record { objects = with_name read.objects e.object; effects = read.effects ++ d ∷ [] })
  step_back read e es objects d ds are says keeps =
      let k = known_by e objects d (known_of p e) refl says in
      let draft = draft_of read e k.0 in
      let number = number_is read (record { objects = objects; effects = [] }) e es are in
      let with_number : with_stamp draft e.setting.stamp ≡ d =
      ap (λ (n : ℕ). with_stamp (draft_of_line e (record { 0 = n }) k.0.0 k.0.1) e.setting.stamp) (sym number) ∙ k.2 in
      let stamp : d.stamp ≡ stamp_of read.effects d.session d.seen = keeps.execution.stamped read.effects d ds refl in
      let own_stamp : stamp_of read.effects draft.session draft.seen ≡ e.setting.stamp =
      ap (λ (f : Effect). stamp_of read.effects f.session f.seen) with_number ∙ sym stamp ∙ ap (λ (f : Effect). f.stamp) (sym with_number) in
      let effect : effect_after read e k.0 ≡ d = ap (with_stamp draft) own_stamp ∙ with_number in
      let whole : IsExecution ((read.effects ++ d ∷ []) ++ ds) = subst IsExecution (sym (append_assoc read.effects (d ∷ []) ds)) keeps.execution in
      let longer : IsExecution (read.effects ++ d ∷ []) = IsExecution-front (read.effects ++ d ∷ []) ds whole in
      let pushed : IsExecution (read.effects ++ effect_after read e k.0 ∷ []) = subst (λ (f : Effect). IsExecution (read.effects ++ f ∷ [])) (sym effect) longer in
      let sees = longer.sees (suc (length read.effects)) d (effect_at-last read.effects d) in
      let few = keeps.few in
      let ascends : IsAscending e.setting.seen = subst IsAscending (sym (ap (λ (f : Effect). f.seen) with_number)) sees.1 in
      record {
        known = k.0;
        found = k.1;
        unmixed = subst (λ (f : Effect). is_mixed p read.effects f.object f.op ≡ false) (sym with_number) (unmixed_there p read.effects d ds keeps.one_type);
        faultless = (fault_of-None read.effects draft (IsExecution-front read.effects (d ∷ ds) keeps.execution) ascends).1 pushed;
        stamp = own_stamp;
        room = let less : length read.effects < most_effects = omega (arith, few, length-append read.effects (d ∷ ds)) in grind (arith, nat_tests, less);
        to = ap (λ (f : Effect). let r : EffectsRead = record { objects = with_name read.objects e.object; effects = read.effects ++ f ∷ [] } in r) (sym effect);
      }

  complete : (es : List EffectLine) (ys : List Effect) (read : EffectsRead) (objects : List (List ℕ)) → objects ≡ fold with_name read.objects (names_in es)
      → AllZip (λ e f. effect_said p objects e ≡ Some f) es ys → Keeps (read.effects ++ ys) → ReadAfter p read es (record { objects = objects; effects = read.effects ++ ys })
  complete [] [] read objects are zip keeps = λ i. record { objects = sym are i; effects = sym (append-nil read.effects) i }
  complete [] (d ∷ ds) read objects are zip keeps = absurd zip
  complete (e ∷ es) [] read objects are zip keeps = absurd zip
  complete (e ∷ es) (d ∷ ds) read objects are zip keeps =
      let next : EffectsRead = record { objects = with_name read.objects e.object; effects = read.effects ++ d ∷ [] } in
      let law : IsAllowed p read e next = step_back read e es objects d ds are zip.0 keeps in
      let split : (read.effects ++ d ∷ []) ++ ds ≡ read.effects ++ d ∷ ds = append_assoc read.effects (d ∷ []) ds in
      let rest = complete es ds next objects are zip.1 (subst Keeps (sym split) keeps) in
      (next, answered p read e next law, subst (λ (x : List Effect). ReadAfter p next es (record { objects = objects; effects = x })) split rest)

  pub said_back : (es : List EffectLine) (x : List Effect) → SaysExecution p es x → ReadAfter p nothing_read es (read_as es x)
  said_back es x says = complete es x nothing_read (objects_in es) refl says.said (record { execution = says.execution; one_type = says.one_type; few = says.few })

  -- ---- one execution

  one_zip : (test : EffectLine → Option Effect) (es : List EffectLine) (x y : List Effect) → AllZip (λ e f. test e ≡ Some f) es x → AllZip (λ e f. test e ≡ Some f) es y → x ≡ y
  one_zip test [] [] [] p q = refl
  one_zip test [] [] (d ∷ y) p q = absurd q
  one_zip test [] (c ∷ x) y p q = absurd p
  one_zip test (e ∷ es) [] y p q = absurd p
  one_zip test (e ∷ es) (c ∷ x) [] p q = absurd q
  one_zip test (e ∷ es) (c ∷ x) (d ∷ y) p q = both c d x y (same_Some c d (sym p.0 ∙ q.0)) (one_zip test es x y p.1 q.1)

  pub one_said : (es : List EffectLine) (x y : List Effect) → SaysExecution p es x → SaysExecution p es y → x ≡ y
  one_said es x y a b = one_zip (effect_said p (objects_in es)) es x y a.said b.said

  count_zip : (test : EffectLine → Option Effect) (es : List EffectLine) (x : List Effect) → AllZip (λ e f. test e ≡ Some f) es x → length x ≡ length es
  count_zip test [] [] p = refl
  count_zip test [] (c ∷ x) p = absurd p
  count_zip test (e ∷ es) [] p = absurd p
  count_zip test (e ∷ es) (c ∷ x) p = omega (arith, count_zip test es x p.1)

  -- there are as many effects as were read
  pub count : (es : List EffectLine) (more : EffectsRead) → ReadAfter p nothing_read es more → length more.effects ≡ length es
  count es more h = let are = appends es nothing_read more h in omega (arith, ap length are.are, count_zip (effect_said p more.objects) es are.effects are.said)

  -- one more effect is counted
  pub one_counted : (read : EffectsRead) (e : EffectLine) (next : EffectsRead) → after_effect p read e ≡ Ok next → suc (length next.effects) ≡ suc (suc (length read.effects))
  one_counted read e next ok =
      let law = allowed p read e next ok in
      omega (arith, ap (λ (r : EffectsRead). length r.effects) law.to, length-append read.effects (effect_after read e law.known ∷ []))
