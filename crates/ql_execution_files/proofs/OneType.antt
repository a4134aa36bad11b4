-- Effects on one object are of one type where each is of the type of the object's first one.
use Rattle.std.proofs.Common.{◌≡◌, ℕ, Bool, true, false, List, [], ◌∷◌, ◌++◌, Option, None, Some, refl, sym, ap, ◌∙◌}
use Rattle.std.specs.Prelude.{nat_eq, not}
use Rattle.std.specs.List.{AllByRecursion}
use Rattle.std.specs.Option.{option_map_or}
use Rattle.std.proofs.lemmas.Bool.{eq-eqb, eqb-true, false≢true, not-false}
use Rattle.ql_base.specs.declared.ids.ObjId.{ObjId}
use Rattle.ql_lang.specs.declared.program.Program.{Program}
use Rattle.ql_exec.specs.declared.effect.Effect.{Effect}
use Rattle.ql_effect_lines.specs.Effects.{first_on, is_mixed, type_number_of}
use Rattle.ql_execution_files.specs.Readings.{AreOfOneType}
use Rattle.ql_execution_files.proofs.Each.{all_as, all_first, all_more, found_none, found_one, one_there}

-- effects on one object have one type
abbrev Agree : Program → Effect → Effect → Type 0
Agree p e f = e.object ≡ f.object → type_number_of p e.op ≡ type_number_of p f.op

module _ (p : Program) where
  same_object : (a b : ObjId) → nat_eq a.0 b.0 ≡ true → a ≡ b
  same_object a b same = ap (λ (n : ℕ). let o : ObjId = record { 0 = n } in o) (eqb-true a.0 b.0 same)

  module _ (x : List Effect) (d : Effect) where
    abbrev is_on : Effect → Bool
    is_on e = nat_eq e.object.0 d.object.0

    abbrev differs : Option Effect → Bool
    differs first = option_map_or (λ f. not (nat_eq (type_number_of p f.op) (type_number_of p d.op))) first false

    agree_last : AreOfOneType p x → (first : Option Effect) → first_on x d.object ≡ first → differs first ≡ false → AllByRecursion (λ e. Agree p e d) x
    agree_last all None is same =
        all_as (λ e. is_on e ≡ false) (λ e. Agree p e d) (λ e other on. absurd (false≢true (sym other ∙ eq-eqb e.object.0 d.object.0 (ap (λ (o : ObjId). o.0) on)))) x (found_none is_on x is)
    agree_last all (Some f) is same =
        let type : type_number_of p f.op ≡ type_number_of p d.op = eqb-true (type_number_of p f.op) (type_number_of p d.op) (not-false _ same) in
        all_as (λ e. AllByRecursion (Agree p e) x) (λ e. Agree p e d) (λ e agree on.
        let one = found_one is_on (Agree p e) x f is agree in
        one.1 (on ∙ sym (same_object f.object d.object one.0)) ∙ type) x all

    pub one_type_more : AreOfOneType p x → is_mixed p x d.object d.op ≡ false → AreOfOneType p (x ++ d ∷ [])
    one_type_more all unmixed =
        let last = agree_last all (first_on x d.object) refl unmixed in
        let back : AllByRecursion (Agree p d) x = all_as (λ e. Agree p e d) (Agree p d) (λ e agree on. sym (agree (sym on))) x last in
        all_more (λ e. AllByRecursion (Agree p e) (x ++ d ∷ [])) x (d ∷ []) (each x all last) (all_more (Agree p d) x (d ∷ []) back (λ on. refl, tt), tt)
      where
        each : (ys : List Effect) → AllByRecursion (λ e. AllByRecursion (Agree p e) x) ys → AllByRecursion (λ e. Agree p e d) ys → AllByRecursion (λ e. AllByRecursion (Agree p e) (x ++ d ∷ [])) ys
        each [] all last = tt
        each (y ∷ ys) all last = (all_more (Agree p y) x (d ∷ []) all.0 (last.0, tt), each ys all.1 last.1)

    agree_first : (ds : List Effect) → AreOfOneType p (x ++ d ∷ ds) → (first : Option Effect) → first_on x d.object ≡ first → differs first ≡ false
    agree_first ds all None is = refl
    agree_first ds all (Some f) is =
        let last : AllByRecursion (λ e. Agree p e d) x = all_as (λ e. AllByRecursion (Agree p e) (x ++ d ∷ ds)) (λ e. Agree p e d) (λ e agree. one_there (Agree p e) x d ds agree) x (all_first (λ e. AllByRecursion (Agree p e) (x ++ d ∷ ds)) x (d ∷ ds) all) in
        let one = found_one is_on (λ e. Agree p e d) x f is last in
        ap not (eq-eqb (type_number_of p f.op) (type_number_of p d.op) (one.1 (same_object f.object d.object one.0)))

    pub unmixed_there : (ds : List Effect) → AreOfOneType p (x ++ d ∷ ds) → is_mixed p x d.object d.op ≡ false
    unmixed_there ds all = agree_first ds all (first_on x d.object) refl
