-- The executions that read back as they are printed: an execution of a program in which each name is found by
-- itself, and whose values can be written.
use Rattle.std.specs.Prelude.{ℕ, ◌≡◌, ◌<◌, ◌≤◌, ◌^◌, List, Some, length, slice_index}
use Rattle.std.specs.List.{AllByRecursion}
use Rattle.ql_base.specs.Names.{IsName}
use Rattle.ql_lang.specs.declared.program.Program.{Program}
use Rattle.ql_typing.specs.Lookups.{txn_place}
use Rattle.ql_typing.specs.Operations.{all_ops, op_kinds, op_place}
use Rattle.ql_exec.specs.declared.effect.Effect.{Effect}
use Rattle.ql_exec.specs.declared.effect.Member.{Member}
use Rattle.ql_exec.specs.declared.effect.Member.TheVariants.{Alone, Inside}
use Rattle.ql_exec.specs.Effects.{effect_at}
use Rattle.ql_exec.specs.Execution.{IsExecution}
use Rattle.ql_report.specs.EffectTexts.{AreNamed, HasValues, object_name}
use Rattle.ql_typing.specs.Names.{op_name, txn_name}

-- operations and declared transactions have names, and are found by them
pub record FindsNames (p : Program) : Type 0 where
  pub op : (o : ℕ) → o < length (all_ops p.types) → IsName (op_name p o) × (op_place p.types (op_name p o) ≡ Some o)
  pub txn : (d : ℕ) → d < length p.txns → IsName (txn_name p d) × (txn_place p.txns (txn_name p d) ≡ Some d)

-- the names of objects, no two of them the same
pub record AreObjects (objects : List (List ℕ)) : Type 0 where
  pub named : (o : ℕ) → o < length objects → IsName (object_name objects o)
  pub apart : (o q : ℕ) → o < length objects → q < length objects → object_name objects o ≡ object_name objects q → o ≡ q

-- begun transactions are numbered from 1
abbrev pub FitsMember : Member → Type 0
FitsMember Alone = Unit {0}
FitsMember (Inside run decl) = (1 ≤ run.0) × (run.0 < 2 ^ 32)

-- the values of an effect can be written
pub record IsWritable (e : Effect) : Type 0 where
  pub values : HasValues e
  pub session : e.session.0 ≤ 255
  pub member : FitsMember e.member

pub record IsPrintable (p : Program) (objects : List (List ℕ)) (x : List Effect) : Type 0 where
  pub names : FindsNames p
  pub distinct : AreObjects objects
  pub execution : IsExecution x
  pub few : length x ≤ 4000
  pub named : AreNamed p (length objects) x
  pub one_type : (a b : ℕ) (e g : Effect) → effect_at x a ≡ Some e → effect_at x b ≡ Some g → e.object.0 ≡ g.object.0
      → slice_index (op_kinds p.types) e.op.0 ≡ slice_index (op_kinds p.types) g.op.0
  pub effects : AllByRecursion IsWritable x
