-- An execution that a file reports fits its program: it is well-formed, each effect is of one of the program's operations, and
-- those on one object are of one type.
use Rattle.std.proofs.Common.{◌≡◌, ℕ, zero, suc, ◌<◌, Bool, List, [], ◌∷◌, length, Option, None, Some, arith, sym, ap, refl, subst, ◌∙◌}
use Rattle.std.specs.Prelude.{option_map, slice_get, slice_index, unwrap_or}
use Rattle.std.specs.List.{AllByRecursion, AllZip, position}
use Rattle.std.specs.Option.{option_and_then}
use Rattle.std.specs.Str.{bytes_eq}
use Rattle.std.proofs.lemmas.List.Quantifiers.{position-Some}
use Rattle.std.proofs.lemmas.Option.{same_Some}
use Rattle.ql_base.specs.declared.ids.ObjId.{ObjId}
use Rattle.ql_base.specs.declared.ids.OpId.{OpId}
use Rattle.ql_exec.specs.declared.effect.Effect.{Effect}
use Rattle.ql_exec.specs.declared.effect.Member.{Member}
use Rattle.ql_exec.specs.Effects.{effect_at}
use Rattle.ql_exec.specs.Execution.{IsExecution, with_stamp}
use Rattle.ql_effect_lines.specs.declared.effect_line.EffectLine.{EffectLine}
use Rattle.ql_effect_lines.specs.Effects.{draft_of_line, member_of_line, type_number_of}
use Rattle.ql_execution_files.specs.Readings.{SaysExecution, effect_said, objects_in}
use Rattle.ql_implication.specs.Executions.{FitsProgram}
use Rattle.ql_judging.specs.Verify.{ReportsExecution}
use Rattle.ql_lang.specs.declared.program.Program.{Program}
use Rattle.ql_typing.specs.Operations.{all_ops, op_kinds, op_place}
use Rattle.ql_typing.specs.Resolved.{number_in}
use Rattle.ql_typing.proofs.Flat.{length-kinds}

within : {X : Type 0} (test : X → Bool) (xs : List X) (k : ℕ) → position test xs ≡ Some k → k < length xs
within test [] k e = absurd (let never : None ≡ Some k = e in cc)
within test (x ∷ xs) k e = (position-Some test (x ∷ xs) k x e).0

-- what is true of each effect is true of one at its place
each-of : (P : Effect → Type 0) (x : List Effect) → AllByRecursion P x → (a : ℕ) (e : Effect) → effect_at x a ≡ Some e → P e
each-of P x all zero e at = absurd (let never : None ≡ Some e = at in cc)
each-of P [] all (suc a) e at = absurd (let never : None ≡ Some e = at in cc)
each-of P (f ∷ x) all (suc zero) e at = subst P (same_Some f e at) all.0
each-of P (f ∷ x) all (suc (suc a)) e at = each-of P x all.1 (suc a) e at

-- the number of a type, read in one way or the other
kind-is : (kinds : List ℕ) (o : ℕ) → unwrap_or (slice_get kinds o) 0 ≡ slice_index kinds o
kind-is [] o = refl
kind-is (k ∷ kinds) zero = refl
kind-is (k ∷ kinds) (suc o) = kind-is kinds o

module _ (p : Program) where
  abbrev IsKnown : Effect → Type 0
  IsKnown f = f.op.0 < length (all_ops p.types)

  -- ---- the effect of a line

  module _ (objects : List (List ℕ)) (e : EffectLine) (f : Effect) where
    abbrev said : OpId × Member → Effect
    said known = with_stamp (draft_of_line e (record { 0 = number_in objects e.object }) known.0 known.1) e.setting.stamp

    abbrev known_as : ℕ → Member → OpId × Member
    known_as o member = (record { 0 = o }, member)

    with-member : (o : ℕ) → o < length (all_ops p.types) → (r : Option Member) → option_map said (option_map (λ member. known_as o member) r) ≡ Some f → IsKnown f
    with-member o less None h = absurd (let never : None ≡ Some f = h in cc)
    with-member o less (Some member) h = subst IsKnown (same_Some (said (known_as o member)) f h) less

    with-place : (r : Option ℕ) → op_place p.types e.op ≡ r
        → option_map said (option_and_then (λ o. option_map (λ member. known_as o member) (member_of_line p e.setting.txn)) r) ≡ Some f → IsKnown f
    with-place None here h = absurd (let never : None ≡ Some f = h in cc)
    with-place (Some o) here h = with-member o (within (λ d. bytes_eq e.op d.name.word) (all_ops p.types) o here) (member_of_line p e.setting.txn) h

    is-known : effect_said p objects e ≡ Some f → IsKnown f
    is-known h = with-place (op_place p.types e.op) refl h

  all-known : (objects : List (List ℕ)) (es : List EffectLine) (x : List Effect) → AllZip (λ e f. effect_said p objects e ≡ Some f) es x → AllByRecursion IsKnown x
  all-known objects [] [] all = tt
  all-known objects [] (f ∷ x) all = absurd all
  all-known objects (e ∷ es) [] all = absurd all
  all-known objects (e ∷ es) (f ∷ x) all = (is-known objects e f all.0, all-known objects es x all.1)

  -- ---- the execution

  same_object : (a b : ObjId) → a.0 ≡ b.0 → a ≡ b
  same_object a b same = ap (λ (n : ℕ). let o : ObjId = record { 0 = n } in o) same

  said-fits : (effects : List EffectLine) (x : List Effect) → SaysExecution p effects x → FitsProgram (op_kinds p.types) x
  said-fits effects x says = record {
    known = λ a e at.
        (let less : IsKnown e = each-of IsKnown x (all-known (objects_in effects) effects x says.said) a e at in
        let count = length-kinds 0 p.types in
        omega (arith, less, count));
    one_type = λ a b e f at there on.
        (let agrees = each-of (λ g. AllByRecursion (λ h. g.object ≡ h.object → type_number_of p g.op ≡ type_number_of p h.op) x) x says.one_type a e at in
        let agree = each-of (λ h. e.object ≡ h.object → type_number_of p e.op ≡ type_number_of p h.op) x agrees b f there (same_object e.object f.object on) in
        sym (kind-is (op_kinds p.types) e.op.0) ∙ agree ∙ kind-is (op_kinds p.types) f.op.0);
  }

pub reported-fits : (p : Program) (bytes : List ℕ) (x : List Effect) → ReportsExecution p bytes x → IsExecution x × FitsProgram (op_kinds p.types) x
reported-fits p bytes x (effects, are, says) = (says.execution, said-fits p effects x says)
