use Rattle.std.specs.Prelude.{ℕ, Bool, true, false, List, [], ◌∷◌, ◌++◌, Option, None, Some, map, drop}
use Rattle.std.specs.List.{flat_map}
use Rattle.ql_lang.specs.declared.name.Name.{Name}
use Rattle.ql_lang.specs.declared.operation.Kind.{Kind}
use Rattle.ql_lang.specs.declared.operation.Kind.TheVariants as kind
use Rattle.ql_lang.specs.declared.operation.Param.{Param}
use Rattle.ql_lang.specs.declared.operation.Bind.{Bind}
use Rattle.ql_lang.specs.declared.operation.Stmt.{Stmt}
use Rattle.ql_lang.specs.declared.operation.EmitDecl.{EmitDecl}
use Rattle.ql_lang.specs.declared.operation.OpDecl.{OpDecl}
use Rattle.ql_lang.specs.declared.program.Field.{Field}
use Rattle.ql_lang.specs.declared.program.InitNode.{InitNode}
use Rattle.ql_lang.specs.declared.program.InitNode.TheVariants as init
use Rattle.ql_lang.specs.declared.program.TypeDecl.{TypeDecl}
use Rattle.ql_lang.specs.declared.program.TxnDecl.{TxnDecl}
use Rattle.ql_lang.specs.declared.program.Program.{Program}
use Rattle.ql_lang.specs.Expressions.{expression_of}
use Rattle.ql_lang.specs.Trees.{sentence_of}
use Rattle.ql_typing.specs.declared.fault.TypeFault.{TypeFault}
use Rattle.ql_typing.specs.declared.fault.TypeFault.TheVariants as fault
use Rattle.ql_typing.specs.declared.scope.Known.{Known}
use Rattle.ql_typing.specs.Faults.{each, names_met, repeats, unless}
use Rattle.ql_typing.specs.ContractFaults.{contract_faults, op_faults}
use Rattle.ql_typing.specs.Functions.{of_base}
use Rattle.ql_typing.specs.Kinds.{faults_as, kind_in, reading_faults, same_kind}

-- one item too many, at its source offset
unfoldable pub too_many : ℕ → List TypeFault
too_many at = fault.TooMany at ∷ []

-- items above a limit, by the source offsets of all
abbrev pub above : ℕ → List ℕ → List TypeFault
above limit places = each too_many (drop limit places)

abbrev pub is_collection : Kind → Bool
is_collection (kind.Set b) = true
is_collection (kind.Map b c) = true
is_collection _ = false

-- whether a field of a kind may have this initial value: `empty` fits any set or map
abbrev pub may_begin : Kind → InitNode → Bool
may_begin k (init.Int n) = same_kind kind.Int k
may_begin k (init.Text text) = same_kind kind.Text k
may_begin k (init.Bool b) = same_kind kind.Bool k
may_begin k init.Unit = same_kind kind.Unit k
may_begin k init.Empty = is_collection k

unfoldable pub init_faults : Field → List TypeFault
init_faults f = unless (may_begin f.kind f.init.node) (fault.Kind f.init.at)

-- names in scope with their kinds
abbrev pub fields_known : List Field → List Known
fields_known fields = map (λ f. record { word = f.name.word; kind = f.kind }) fields

abbrev pub params_known : List Param → List Known
params_known params = map (λ p. record { word = p.name.word; kind = of_base p.base }) params

abbrev pub binds_known : List Bind → List Known
binds_known binds = map (λ b. record { word = b.name.word; kind = of_base b.base }) binds

abbrev pub field_names : List Field → List Name
field_names fields = map (λ f. f.name) fields

abbrev pub param_names : List Param → List Name
param_names params = map (λ p. p.name) params

abbrev pub bind_names : List Bind → List Name
bind_names binds = map (λ b. b.name) binds

abbrev pub target_names : List Stmt → List Name
target_names stmts = map (λ s. s.target) stmts

abbrev pub places : List Name → List ℕ
places names = map (λ n. n.at) names

-- an emitted value, by the fields and parameters
unfoldable pub bind_faults : List Known → Bind → List TypeFault
bind_faults scope b = faults_as scope (Some (of_base b.base)) (expression_of b.value)

-- a statement, by the fields, and the fields and emitted names
unfoldable pub stmt_faults : List Known → List Known → Stmt → List TypeFault
stmt_faults fields scope s =
    reading_faults (kind_in fields s.target.word) s.target.at ++ faults_as scope (kind_in fields s.target.word) (expression_of s.value)

-- what an operation emits and how it is applied, by the names of the fields, the fields, and the fields and parameters
unfoldable pub effect_faults : List (List ℕ) → List Known → List Known → EmitDecl → List TypeFault
effect_faults names fields scope e =
    repeats names (bind_names e.binds)
    ++ (above 4 (places (bind_names e.binds))
    ++ (each (bind_faults scope) e.binds
    ++ (faults_as scope (Some kind.Bool) (expression_of e.test)
    ++ (above 64 (places (target_names e.stmts))
    ++ each (stmt_faults fields (fields ++ binds_known e.binds)) e.stmts))))

abbrev pub maybe_effect_faults : List (List ℕ) → List Known → List Known → Option EmitDecl → List TypeFault
maybe_effect_faults names fields scope None = []
maybe_effect_faults names fields scope (Some e) = effect_faults names fields scope e

-- an operation, by the known operations, the names of its type's fields and the fields
unfoldable pub op_decl_faults : List (List ℕ) → List (List ℕ) → List Known → OpDecl → List TypeFault
op_decl_faults known names fields o =
    repeats names (param_names o.params)
    ++ (above 8 (places (param_names o.params))
    ++ (contract_faults (Some known) false (sentence_of o.contract)
    ++ (faults_as (fields ++ params_known o.params) (Some o.kind) (expression_of o.answer)
    ++ maybe_effect_faults names fields (fields ++ params_known o.params) o.effect)))

-- a type, by the known operations
unfoldable pub type_faults : List (List ℕ) → TypeDecl → List TypeFault
type_faults known t =
    repeats [] (field_names t.fields)
    ++ (above 16 (map (λ f. f.at) t.fields)
    ++ (each init_faults t.fields
    ++ each (op_decl_faults known (names_met [] (field_names t.fields)) (fields_known t.fields)) t.ops))

-- a transaction, by the known operations
unfoldable pub txn_faults : List (List ℕ) → TxnDecl → List TypeFault
txn_faults known d =
    repeats [] d.uses ++ (each (op_faults (Some known)) d.uses ++ contract_faults (Some known) true (sentence_of d.contract))

-- the names of the operations of all types, in order
abbrev pub op_names : List TypeDecl → List Name
op_names types = flat_map (λ t. map (λ o. o.name) t.ops) types

-- the source offsets of the operations of all types, in order
abbrev pub op_places : List TypeDecl → List ℕ
op_places types = flat_map (λ t. map (λ o. o.at) t.ops) types

-- all that is wrong in a program: its names, then its limits, then each declaration by itself
unfoldable pub program_faults : Program → List TypeFault
program_faults p =
    ((repeats [] (map (λ t. t.name) p.types) ++ repeats [] (map (λ d. d.name) p.txns)) ++ repeats [] (op_names p.types))
    ++ ((above 16 (map (λ t. t.at) p.types) ++ (above 32 (op_places p.types) ++ above 16 (map (λ d. d.at) p.txns)))
    ++ (each (type_faults (names_met [] (op_names p.types))) p.types
    ++ each (txn_faults (names_met [] (op_names p.types))) p.txns))
