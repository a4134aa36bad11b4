-- Variables that have the names of operations: each of them, one after another.
use Rattle.std.proofs.Common.{◌≡◌, ℕ, ◌+◌, inl, inr, List, [], ◌∷◌, ◌++◌, Option, None, Some, slice_get, sym, ap, subst, ◌∙◌, arith}
use Rattle.std.proofs.lemmas.Bool.{cases_lt}
use Rattle.std.proofs.lemmas.List.Elements.{All-push, Contains-append_left, Contains-push}
use Rattle.std.proofs.lemmas.Option.{same_Some}
use Rattle.std.specs.List.{All, Contains}
use Rattle.std.specs.Option.{MatchOption, option_map}
use Rattle.ql_base.specs.declared.ids.OpId.{OpId}
use Rattle.ql_lang.specs.declared.contract.Var.{Var}
use Rattle.ql_lang.specs.declared.program.Program.{Program}
use Rattle.ql_typing.specs.Operations.{op_place}
use Rattle.ql_warnings.specs.Kept.{AreNameWarnings, IsNameWarning}
use Rattle.ql_warnings.specs.Warnings.{IsNamedAs}
use Rattle.ql_warnings.specs.declared.warning.Warning.{Warning}
use Rattle.ql_warnings.specs.declared.warning.Warning.TheVariants.{NamedAsOperation}

module _ (p : Program) (vars : List Var) (v : ℕ) where
  -- a variable has the name of at most one operation
  one_name : (a b : OpId) → IsNamedAs p vars v a → IsNamedAs p vars v b → a ≡ b
  one_name a b x y =
      let same : x.var ≡ y.var = same_Some x.var y.var (sym x.there ∙ y.there) in
      let e : Some a.0 ≡ Some b.0 = sym x.named ∙ ap (λ (z : Var). op_place p.types z.name.word) same ∙ y.named in
      let made : ℕ → OpId = λ n. record { 0 = n } in
      ap made (same_Some a.0 b.0 e)

  pub not_free : (var : Var) → slice_get vars v ≡ Some var → (var.ops ≡ [] → ⊥) → (op : OpId) → IsNamedAs p vars v op → ⊥
  not_free var at other op is = other (subst (λ (x : Var). x.ops ≡ []) (same_Some is.var var (sym is.there ∙ at)) is.free)

  pub named_exact : (var : Var) (r : Option OpId) → slice_get vars v ≡ Some var → var.ops ≡ [] → option_map (λ (o : OpId). o.0) r ≡ op_place p.types var.name.word
      → MatchOption r ((op : OpId) → IsNamedAs p vars v op → ⊥) (IsNamedAs p vars v)
  named_exact var None at free is = λ op named.
      let same : named.var ≡ var = same_Some named.var var (sym named.there ∙ at) in
      let none : ◌≡◌ {A = Option ℕ} None (Some op.0) = is ∙ sym (ap (λ (x : Var). op_place p.types x.name.word) same) ∙ named.named in
      absurd (cc)
  named_exact var (Some op) at free is = record { var = var; there = at; free = free; named = sym is }

  pub name_pushed : (op : OpId) (old new : List Warning) → IsNamedAs p vars v op → new ≡ old ++ NamedAsOperation v op ∷ [] → AreNameWarnings p vars v old → AreNameWarnings p vars (v + 1) new
  name_pushed op old new is longer are = record {
    sound = subst (All (IsNameWarning p vars)) (sym longer) (All-push (IsNameWarning p vars) old (NamedAsOperation v op) are.sound is);
    complete = λ w other less named. subst (λ (ws : List Warning). Contains ws (NamedAsOperation w other)) (sym longer) (elim (cases_lt w v) [
      | inl before ↦ Contains-append_left old (NamedAsOperation v op ∷ []) (NamedAsOperation w other) (are.complete w other before named)
      | inr after ↦
          let same : w ≡ v = omega arith in
          let here : other ≡ op = one_name other op (subst (λ n. IsNamedAs p vars n other) same named) is in
          subst (λ n. Contains (old ++ NamedAsOperation v op ∷ []) (NamedAsOperation n other)) (sym same)
          (subst (λ (o : OpId). Contains (old ++ NamedAsOperation v op ∷ []) (NamedAsOperation v o)) (sym here) (Contains-push old (NamedAsOperation v op)))
    ]);
  }

  pub name_skipped : (ws : List Warning) → ((op : OpId) → IsNamedAs p vars v op → ⊥) → AreNameWarnings p vars v ws → AreNameWarnings p vars (v + 1) ws
  name_skipped ws none are = record {
    sound = are.sound;
    complete = λ w op less named. elim (cases_lt w v) [
      | inl before ↦ are.complete w op before named
      | inr after ↦ let same : w ≡ v = omega arith in absurd (none op (subst (λ n. IsNamedAs p vars n op) same named))
    ];
  }
