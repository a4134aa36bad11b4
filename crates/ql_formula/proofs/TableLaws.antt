-- The tables tell the relations.
use Rattle.std.proofs.Common.{◌≡◌, ℕ, zero, suc, Bool, ◌&&◌, ◌||◌, nat_eq, nat_lt, List, map, length, Option, Some, None, refl, ap, ◌∙◌}
use Rattle.std.specs.Option.{option_map}
use Rattle.std.proofs.lemmas.Option.{slice_get-map}
use Rattle.ql_lang.specs.Trees.{Relation, Basic, Union, Intersection}
use Rattle.ql_lang.specs.declared.relation.RelName.TheVariants.{Vis, So, Soo, SameObj, Eq, Hb, Hbo}
use Rattle.ql_exec.specs.declared.effect.Effect.{Effect}
use Rattle.ql_exec.specs.Effects.{effect_at, both}
use Rattle.ql_exec.specs.Relations.{so, vis, sameobj, leads}
use Rattle.ql_exec.specs.Execution.{IsExecution}
use Rattle.ql_formula.specs.declared.rows.Key.{Key}
use Rattle.ql_formula.specs.declared.rows.Closure.TheVariants.{OnOneObject, Across}
use Rattle.ql_formula.specs.Truth.{related}
use Rattle.ql_formula.specs.Tables.{key_of, key_at, both_keys, so_in, sameobj_in, AreRows, step_of, Table, related_in, IsTableOf}
use Rattle.ql_formula.proofs.RowLaws.{cell_is, vis_within, leads_within}

key_at-map : (x : List Effect) (a : ℕ) → key_at (map key_of x) a ≡ option_map key_of (effect_at x a)
key_at-map x zero = refl
key_at-map x (suc k) = slice_get-map key_of x k

both_keys-map : (test : Key → Key → Bool) (e f : Option Effect) → both_keys test (option_map key_of e) (option_map key_of f) ≡ both (λ a b. test (key_of a) (key_of b)) e f
both_keys-map test None f = refl
both_keys-map test (Some a) None = refl
both_keys-map test (Some a) (Some b) = refl

so-told : (x : List Effect) (a b : ℕ) → so_in (map key_of x) a b ≡ so x a b
so-told x a b =
    let test = λ (e f : Key). nat_eq e.session.0 f.session.0 && nat_lt a b in
    ap (λ (o : Option Key). both_keys test o (key_at (map key_of x) b)) (key_at-map x a)
    ∙ ap (both_keys test (option_map key_of (effect_at x a))) (key_at-map x b) ∙ both_keys-map test (effect_at x a) (effect_at x b)

sameobj-told : (x : List Effect) (a b : ℕ) → sameobj_in (map key_of x) a b ≡ sameobj x a b
sameobj-told x a b =
    let test = λ (e f : Key). nat_eq e.object.0 f.object.0 in
    ap (λ (o : Option Key). both_keys test o (key_at (map key_of x) b)) (key_at-map x a)
    ∙ ap (both_keys test (option_map key_of (effect_at x a))) (key_at-map x b) ∙ both_keys-map test (effect_at x a) (effect_at x b)

pub table_of : (x : List Effect) (t : Table) → IsExecution x → t.keys ≡ map key_of x
    → length t.seen ≡ length x → AreRows (vis x) t.seen
    → length t.before_on_object ≡ length x → AreRows (leads (step_of OnOneObject x)) t.before_on_object
    → length t.before ≡ length x → AreRows (leads (step_of Across x)) t.before → IsTableOf t x
table_of x t law keys seen_count seen object_count on_object count before Vis a b = cell_is (vis x) t.seen (length x) seen seen_count (vis_within x law) a b
table_of x t law keys seen_count seen object_count on_object count before So a b = ap (λ (k : List Key). so_in k a b) keys ∙ so-told x a b
table_of x t law keys seen_count seen object_count on_object count before Soo a b =
    ap (λ (k : List Key). so_in k a b && sameobj_in k a b) keys ∙ ap (λ (s : Bool). s && sameobj_in (map key_of x) a b) (so-told x a b) ∙ ap (λ (s : Bool). so x a b && s) (sameobj-told x a b)
table_of x t law keys seen_count seen object_count on_object count before SameObj a b = ap (λ (k : List Key). sameobj_in k a b) keys ∙ sameobj-told x a b
table_of x t law keys seen_count seen object_count on_object count before Eq a b = refl
table_of x t law keys seen_count seen object_count on_object count before Hb a b = cell_is (leads (step_of Across x)) t.before (length x) before count (leads_within x law Across) a b
table_of x t law keys seen_count seen object_count on_object count before Hbo a b = cell_is (leads (step_of OnOneObject x)) t.before_on_object (length x) on_object object_count (leads_within x law OnOneObject) a b

pub related-told : (t : Table) (x : List Effect) → IsTableOf t x → (r : Relation) (a b : ℕ) → related_in t r a b ≡ related x r a b
related-told t x is (Basic name at) a b = is name a b
related-told t x is (Union r s) a b = ap (λ (l : Bool). l || related_in t s a b) (related-told t x is r a b) ∙ ap (λ (l : Bool). related x r a b || l) (related-told t x is s a b)
related-told t x is (Intersection r s) a b = ap (λ (l : Bool). l && related_in t s a b) (related-told t x is r a b) ∙ ap (λ (l : Bool). related x r a b && l) (related-told t x is s a b)
