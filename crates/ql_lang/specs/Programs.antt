use Rattle.std.specs.Prelude.{ℕ, List, Option, map, option_map}
use Rattle.ql_lang.specs.declared.name.Name.{Name}
use Rattle.ql_lang.specs.declared.operation.Base.{Base}
use Rattle.ql_lang.specs.declared.operation.Kind.{Kind}
use Rattle.ql_lang.specs.declared.operation.Param.{Param}
use Rattle.ql_lang.specs.declared.operation.Bind.{Bind}
use Rattle.ql_lang.specs.declared.operation.Stmt.{Stmt}
use Rattle.ql_lang.specs.declared.operation.EmitDecl.{EmitDecl}
use Rattle.ql_lang.specs.declared.operation.OpDecl.{OpDecl}
use Rattle.ql_lang.specs.declared.program.Field.{Field}
use Rattle.ql_lang.specs.declared.program.TypeDecl.{TypeDecl}
use Rattle.ql_lang.specs.declared.program.TxnDecl.{TxnDecl}
use Rattle.ql_lang.specs.declared.program.Program.{Program}
use Rattle.ql_lang.specs.Expressions.{Expression, expression_of}
use Rattle.ql_lang.specs.Trees.{Sentence, sentence_of}

-- The trees of declarations as such, without the boxes that hold their parts.

-- a value that an operation emits, under a name
pub record Binding : Type 0 where
  pub name : Name
  pub base : Base
  pub value : Expression

-- the new value of a state field
pub record Assignment : Type 0 where
  pub target : Name
  pub value : Expression

-- what an operation emits and when, and how that is applied to a state
pub record Emission : Type 0 where
  pub binds : List Binding
  pub test : Expression
  pub stmts : List Assignment

pub record Operation : Type 0 where
  pub at : ℕ
  pub name : Name
  pub params : List Param
  pub kind : Kind
  pub contract : Sentence
  pub answer : Expression
  pub effect : Option Emission

-- a replicated type
pub record Replicated : Type 0 where
  pub at : ℕ
  pub name : Name
  pub fields : List Field
  pub ops : List Operation

pub record Transaction : Type 0 where
  pub at : ℕ
  pub name : Name
  pub uses : List Name
  pub contract : Sentence

-- a whole source
pub record Source : Type 0 where
  pub types : List Replicated
  pub txns : List Transaction

abbrev pub binding_of : Bind → Binding
binding_of b = record { name = b.name; base = b.base; value = expression_of b.value }

abbrev pub assignment_of : Stmt → Assignment
assignment_of s = record { target = s.target; value = expression_of s.value }

abbrev pub emission_of : EmitDecl → Emission
emission_of e = record { binds = map binding_of e.binds; test = expression_of e.test; stmts = map assignment_of e.stmts }

abbrev pub operation_of : OpDecl → Operation
operation_of o = record {
  at = o.at;
  name = o.name;
  params = o.params;
  kind = o.kind;
  contract = sentence_of o.contract;
  answer = expression_of o.answer;
  effect = option_map emission_of o.effect;
}

abbrev pub replicated_of : TypeDecl → Replicated
replicated_of t = record { at = t.at; name = t.name; fields = t.fields; ops = map operation_of t.ops }

abbrev pub transaction_of : TxnDecl → Transaction
transaction_of t = record { at = t.at; name = t.name; uses = t.uses; contract = sentence_of t.contract }

abbrev pub source_of : Program → Source
source_of p = record { types = map replicated_of p.types; txns = map transaction_of p.txns }
