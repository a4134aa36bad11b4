-- Operations of a program without faults, each in its type.
use Rattle.std.proofs.Common.{◌≡◌, ◌<◌, ◌≤◌, ◌-◌, ℕ, zero, suc, Bool, true, false, nat_lt, List, [], ◌∷◌, Some, length, map, refl, sym, ap, ◌∙◌, subst, arith, ltb-true, ltb-false}
use Rattle.std.specs.List.{slice_get}
use Rattle.ql_lang.specs.declared.operation.OpDecl.{OpDecl}
use Rattle.ql_lang.specs.declared.program.TypeDecl.{TypeDecl}
use Rattle.ql_lang.specs.declared.program.Program.{Program}
use Rattle.ql_typing.specs.Faults.{each, names_met, repeats}
use Rattle.ql_typing.specs.Programs.{above, field_names, fields_known, init_faults, op_decl_faults, program_faults, type_faults}
use Rattle.ql_typing.specs.Operations.{all_ops, kinds_from, op_kinds, op_words}
use Rattle.ql_typing.proofs.Parts.{each_at, right_none}
use Rattle.ql_typing.proofs.Flat.{kind_first, kind_later, op_here, op_later}
use Rattle.ql_typing.proofs.FaultFree.{type_typed}

-- an operation that stands among those of the type at a place
pub record IsIn (types : List TypeDecl) (at : ℕ) (op : OpDecl) : Type 0 where
  pub type : TypeDecl
  pub place : ℕ
  pub declared : slice_get types at ≡ Some type
  pub own : slice_get type.ops place ≡ Some op

-- the type of an operation's number has the operation, where types are numbered from k on
in_type : (k : ℕ) (types : List TypeDecl) (o j : ℕ) (op : OpDecl) → slice_get (all_ops types) o ≡ Some op → slice_get (kinds_from k types) o ≡ Some j → (k ≤ j) × IsIn types (j - k) op
unfolding kinds_from
in_type k [] o j op is kind =
    let no : ⊥ = cc in
    absurd no
in_type k (t ∷ ts) o j op is kind = by (λ a b. in_type (suc k) ts (o - length t.ops) j op a b) (nat_lt o (length t.ops)) refl
  where
    here : o < length t.ops → (k ≤ j) × IsIn (t ∷ ts) (j - k) op
    here below =
        let same : k ≡ j =
        let e = sym (kind_first t ts o k below) ∙ kind in
        cc in
        let none : zero ≡ j - k = omega (arith, same) in (
          omega (arith, same),
          record {
            type = t;
            place = o;
            declared = ap (slice_get (t ∷ ts)) (sym none);
            own = sym (op_here t ts o below) ∙ is;
          },
        )

    later : length t.ops ≤ o → (suc k ≤ j) × IsIn ts (j - suc k) op → (k ≤ j) × IsIn (t ∷ ts) (j - k) op
    later past found =
        let next : suc (j - suc k) ≡ j - k = omega (arith, found.0) in (
          omega (arith, found.0),
          record {
            type = found.1.type;
            place = found.1.place;
            declared = ap (slice_get (t ∷ ts)) (sym next) ∙ found.1.declared;
            own = found.1.own;
          },
        )

    by : (slice_get (all_ops ts) (o - length t.ops) ≡ Some op → slice_get (kinds_from (suc k) ts) (o - length t.ops) ≡ Some j → (suc k ≤ j) × IsIn ts (j - suc k) op)
        → (b : Bool) → nat_lt o (length t.ops) ≡ b → (k ≤ j) × IsIn (t ∷ ts) (j - k) op
    by rest true e = here (ltb-true o (length t.ops) e)
    by rest false e =
        let past = ltb-false o (length t.ops) e in
        later past (rest (sym (op_later t ts o past) ∙ is) (sym (kind_later t ts o k past) ∙ kind))

-- the type of an operation's number has the operation
pub op_in_type : (types : List TypeDecl) (o j : ℕ) (op : OpDecl) → slice_get (all_ops types) o ≡ Some op → slice_get (op_kinds types) o ≡ Some j → IsIn types j op
op_in_type types o j op is kind =
    let same : j - 0 ≡ j = omega arith in
    subst (λ n. IsIn types n op) same (in_type 0 types o j op is kind).1

-- what is known of an operation of a program without faults: its type, and that nothing is wrong with it there
pub record IsFaultFree (p : Program) (j : ℕ) (op : OpDecl) : Type 0 where
  pub type : TypeDecl
  pub declared : slice_get p.types j ≡ Some type
  pub no_faults : op_decl_faults (op_words p.types) (names_met [] (field_names type.fields)) (fields_known type.fields) op ≡ []

pub op_fault_free : (p : Program) → program_faults p ≡ [] → (o j : ℕ) (op : OpDecl) → slice_get (all_ops p.types) o ≡ Some op → slice_get (op_kinds p.types) o ≡ Some j → IsFaultFree p j op
unfolding type_faults
op_fault_free p typed o j op is kind =
    let found = op_in_type p.types o j op is kind in
    let fine = type_typed p typed j found.type found.declared in
    let ops : each (op_decl_faults (op_words p.types) (names_met [] (field_names found.type.fields)) (fields_known found.type.fields)) found.type.ops ≡ [] =
    right_none (each init_faults found.type.fields) _ (right_none (above 16 (map (λ f. f.at) found.type.fields)) _ (right_none (repeats [] (field_names found.type.fields)) _ fine)) in
    record {
      type = found.type;
      declared = found.declared;
      no_faults = each_at (op_decl_faults (op_words p.types) (names_met [] (field_names found.type.fields)) (fields_known found.type.fields)) found.type.ops found.place op ops found.own;
    }
