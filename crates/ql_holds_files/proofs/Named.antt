-- Effects that are named one after another, and what they are named in the end.
use Rattle.std.proofs.Common.{◌≡◌, ◌+◌, ℕ, zero, suc, Bool, true, not, nat_eq, nat_le, is_none, if◌then◌else◌, List, [], ◌∷◌, ◌++◌, map, length, Option, None, Some, arith, refl, sym, ap, ◌∙◌, append-nil, append_assoc, length-append}
use Rattle.std.specs.Prelude.{slice_get}
use Rattle.std.specs.List.{list_any}
use Rattle.std.specs.Option.{option_map}
use Rattle.std.specs.Str.{bytes_eq}
use Rattle.std.proofs.lemmas.List.{map-append}
use Rattle.std.proofs.lemmas.List.Folds.{list_any_at}
use Rattle.std.proofs.lemmas.Option.{slice_get-map, slice_get_within, get_or_from_slice_get}
use Rattle.std.proofs.lemmas.Slice.Eq.{bytes_eq-Decides}
use Rattle.ql_base.specs.Numbering.{has_name, with_name}
use Rattle.ql_base.specs.declared.limits.TheConstants.{MAX_EFFECTS}
use Rattle.ql_lang.specs.Trees.{Sentence}
use Rattle.ql_typing.specs.Resolved.{number_in}
use Rattle.ql_exec.specs.declared.effect.Draft.{Draft}
use Rattle.ql_exec.specs.declared.effect.Effect.{Effect}
use Rattle.ql_exec.specs.Effects.{effect_at}
use Rattle.ql_exec.specs.Execution.{effect_of, is_elsewhere}
use Rattle.ql_holds_files.specs.declared.effect_line.EffectLine.{EffectLine}
use Rattle.ql_holds_files.specs.declared.effects.NamedEffects.{NamedEffects}
use Rattle.ql_holds_files.specs.declared.rules.HoldsRule.{HoldsRule}
use Rattle.ql_holds_files.specs.declared.rules.HoldsRule.TheVariants.{NotForward, OtherObject, TooMany}
use Rattle.ql_holds_files.specs.EffectLine.{effect_rule, named_draft, plain_draft, with_named_effect}
use Rattle.ql_holds_files.specs.HoldsFile.{no_effects}
use Rattle.ql_holds_files.specs.Questions.{numbered_draft, unstamped, with_names}
use Rattle.ql_holds_files.specs.TreeRules.{is_on_another, line_at, rule_broken}
use Rattle.ql_holds_files.proofs.Names.{has_each, has_itself, number_kept, same_number}

abbrev pub named_after : NamedEffects → List EffectLine → NamedEffects
named_after named [] = named
named_after named (e ∷ es) = named_after (with_named_effect named e) es

-- none of the effects breaks a rule after those before it
abbrev pub AreAllowed : NamedEffects → List EffectLine → Type 0
AreAllowed named [] = Unit {0}
AreAllowed named (e ∷ es) = (effect_rule named e ≡ None) × AreAllowed (with_named_effect named e) es

pub named_more : (named : NamedEffects) (es : List EffectLine) (e : EffectLine) → named_after named (es ++ e ∷ []) ≡ with_named_effect (named_after named es) e
named_more named [] e = refl
named_more named (f ∷ es) e = named_more (with_named_effect named f) es e

abbrev pub object_names : List EffectLine → List (List ℕ)
object_names es = map (λ (e : EffectLine). e.object) es

abbrev pub op_names : List EffectLine → List (List ℕ)
op_names es = map (λ (e : EffectLine). e.op) es

pub objects_after : (named : NamedEffects) (es : List EffectLine) → (named_after named es).objects ≡ with_names named.objects (object_names es)
objects_after named [] = refl
objects_after named (e ∷ es) = objects_after (with_named_effect named e) es

pub ops_after : (named : NamedEffects) (es : List EffectLine) → (named_after named es).ops ≡ with_names named.ops (op_names es)
ops_after named [] = refl
ops_after named (e ∷ es) = ops_after (with_named_effect named e) es

pub one_more : (named : NamedEffects) (e : EffectLine) → length (with_named_effect named e).effects ≡ suc (length named.effects)
one_more named e = omega (arith, length-append named.effects (effect_of named.effects (named_draft named e) ∷ []))

pub count_after : (named : NamedEffects) (es : List EffectLine) → length (named_after named es).effects ≡ length named.effects + length es
count_after named [] = omega arith
count_after named (e ∷ es) = omega (arith, count_after (with_named_effect named e) es, one_more named e)

-- after the contract there are as many effects as were read
pub count_from_none : (c : Sentence) (es : List EffectLine) → length (named_after (no_effects c) es).effects ≡ length es
count_from_none c es = let count : length (named_after (no_effects c) es).effects ≡ 0 + length es = count_after (no_effects c) es in omega (arith, count)

-- ---- drafts

-- an effect has its last numbers from the beginning
final_draft : (named : NamedEffects) (e : EffectLine) (es : List EffectLine)
    → named_draft named e ≡ numbered_draft (named_after named (e ∷ es)).objects (named_after named (e ∷ es)).ops e
final_draft named e es =
    let objects = with_name named.objects e.object in
    let ops = with_name named.ops e.op in
    let object : number_in objects e.object ≡ number_in (named_after named (e ∷ es)).objects e.object =
    sym (ap (λ ns. number_in ns e.object) (objects_after (with_named_effect named e) es) ∙ number_kept objects (object_names es) e.object (has_itself named.objects e.object)) in
    let op : number_in ops e.op ≡ number_in (named_after named (e ∷ es)).ops e.op =
    sym (ap (λ ns. number_in ns e.op) (ops_after (with_named_effect named e) es) ∙ number_kept ops (op_names es) e.op (has_itself named.ops e.op)) in
    ap (λ (n : ℕ). plain_draft (record { 0 = n }) (record { 0 = number_in ops e.op }) e.session e.seen) object
    ∙ ap (λ (n : ℕ). plain_draft (record { 0 = number_in (named_after named (e ∷ es)).objects e.object }) (record { 0 = n }) e.session e.seen) op

pub drafts_after : (named : NamedEffects) (es : List EffectLine)
    → map unstamped (named_after named es).effects ≡ map unstamped named.effects ++ map (numbered_draft (named_after named es).objects (named_after named es).ops) es
drafts_after named [] = sym (append-nil (map unstamped named.effects))
drafts_after named (e ∷ es) =
    let last = named_after named (e ∷ es) in
    let rest = map (numbered_draft last.objects last.ops) es in
    drafts_after (with_named_effect named e) es
    ∙ ap (λ ds. ds ++ rest) (map-append unstamped named.effects (effect_of named.effects (named_draft named e) ∷ []) ∙ ap (λ (d : Draft). map unstamped named.effects ++ d ∷ []) (final_draft named e es))
    ∙ append_assoc (map unstamped named.effects) (numbered_draft last.objects last.ops e ∷ []) rest

-- ---- rules

abbrev pub rule : Bool → Bool → Bool → Option HoldsRule
rule a b t = if a then Some NotForward else (if b then Some OtherObject else (if t then Some TooMany else None))

same_none : (d : EffectLine → Draft) (found : Option Effect) (line : Option EffectLine) → option_map unstamped found ≡ option_map d line → is_none found ≡ is_none line
same_none d None None e = refl
same_none d None (Some l) e = absurd cc
same_none d (Some x) None e = absurd cc
same_none d (Some x) (Some l) e = refl

module _ (c : Sentence) (before : List EffectLine) where
  found_lines : (id : ℕ) → option_map unstamped (effect_at (named_after (no_effects c) before).effects id)
      ≡ option_map (numbered_draft (named_after (no_effects c) before).objects (named_after (no_effects c) before).ops) (line_at before id)
  found_lines zero = refl
  found_lines (suc k) =
      let last = named_after (no_effects c) before in
      sym (slice_get-map unstamped last.effects k) ∙ ap (λ ds. slice_get ds k) (drafts_after (no_effects c) before) ∙ slice_get-map (numbered_draft last.objects last.ops) before k

  known_object : (id : ℕ) (l : EffectLine) → line_at before id ≡ Some l → has_name (named_after (no_effects c) before).objects l.object ≡ true
  known_object zero l e = absurd cc
  known_object (suc k) l e =
      let names = object_names before in
      let at : slice_get names k ≡ Some l.object = slice_get-map (λ (x : EffectLine). x.object) before k ∙ ap (option_map (λ (x : EffectLine). x.object)) e in
      let there : has_name names l.object ≡ true =
      list_any_at (bytes_eq l.object) names k [] (slice_get_within names k l.object at) (ap (bytes_eq l.object) (get_or_from_slice_get names k l.object [] at) ∙ (bytes_eq-Decides l.object l.object).1 refl) in
      ap (λ ns. has_name ns l.object) (objects_after (no_effects c) before) ∙ has_each [] names l.object there

  elsewhere : (w : List ℕ) (found : Option Effect) (line : Option EffectLine)
      → ((l : EffectLine) → line ≡ Some l → has_name (named_after (no_effects c) before).objects l.object ≡ true)
      → option_map unstamped found ≡ option_map (numbered_draft (named_after (no_effects c) before).objects (named_after (no_effects c) before).ops) line
      → is_elsewhere (record { 0 = number_in (with_name (named_after (no_effects c) before).objects w) w }) found ≡ is_on_another w line
  elsewhere w None None known e = refl
  elsewhere w None (Some l) known e = absurd cc
  elsewhere w (Some x) None known e = absurd cc
  elsewhere w (Some x) (Some l) known e =
      let names = (named_after (no_effects c) before).objects in
      let object : x.object.0 ≡ number_in names l.object = ap (λ (d : Option Draft). object_number d) e in
      ap (λ n. not (nat_eq n (number_in (with_name names w) w))) object ∙ ap not (same_number names l.object w (known l refl))
    where
      object_number : Option Draft → ℕ
      object_number None = 0
      object_number (Some d) = d.object.0

  -- the rule that a reader finds broken is the rule that is broken
  pub same_rule : (e : EffectLine) → effect_rule (named_after (no_effects c) before) e ≡ rule_broken before e
  same_rule e =
      let last = named_after (no_effects c) before in
      let lacks : (id : ℕ) → is_none (effect_at last.effects id) ≡ is_none (line_at before id) =
      λ id. same_none (numbered_draft last.objects last.ops) (effect_at last.effects id) (line_at before id) (found_lines id) in
      let other : (id : ℕ) → is_elsewhere (named_draft last e).object (effect_at last.effects id) ≡ is_on_another e.object (line_at before id) =
      λ id. elsewhere e.object (effect_at last.effects id) (line_at before id) (λ l is. known_object id l is) (found_lines id) in
      let count : length last.effects ≡ length before = count_from_none c before in
      λ i. rule (list_any (λ id. lacks id i) e.seen) (list_any (λ id. other id i) e.seen) (nat_le MAX_EFFECTS (count i))
