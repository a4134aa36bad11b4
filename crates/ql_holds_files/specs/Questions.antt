-- What a tree asks: names of objects and of operations become numbers, by first occurrence.
use Rattle.std.specs.Prelude.{◌≡◌, ℕ, List, [], ◌∷◌, map}
use Rattle.ql_base.specs.Numbering.{with_name}
use Rattle.ql_typing.specs.Resolved.{number_in, ops_met}
use Rattle.ql_exec.specs.declared.effect.Draft.{Draft}
use Rattle.ql_exec.specs.declared.effect.Effect.{Effect}
use Rattle.ql_exec.specs.Execution.{IsExecution}
use Rattle.ql_holds_files.specs.declared.effect_line.EffectLine.{EffectLine}
use Rattle.ql_holds_files.specs.EffectLine.{plain_draft}
use Rattle.ql_holds_files.specs.HoldsFile.{Asked, named_formula_of}
use Rattle.ql_holds_files.specs.Grammar.{HoldsTree}

-- names, and then those of more that aren't there yet
abbrev pub with_names : List (List ℕ) → List (List ℕ) → List (List ℕ)
with_names names [] = names
with_names names (w ∷ ws) = with_names (with_name names w) ws

abbrev pub objects_of : HoldsTree → List (List ℕ)
objects_of t = with_names [] (map (λ (e : EffectLine). e.object) t.effects)

-- the operations of the contract come before those of the effects
abbrev pub operations_of : HoldsTree → List (List ℕ)
operations_of t = with_names (ops_met [] t.contract.vars) (map (λ (e : EffectLine). e.op) t.effects)

-- an effect with the numbers of its names
abbrev pub numbered_draft : List (List ℕ) → List (List ℕ) → EffectLine → Draft
numbered_draft objects operations e = plain_draft (record { 0 = number_in objects e.object }) (record { 0 = number_in operations e.op }) e.session e.seen

-- an effect without its stamp
abbrev pub unstamped : Effect → Draft
unstamped e = record {
  object = e.object;
  op = e.op;
  args = e.args;
  payload = e.payload;
  answer = e.answer;
  session = e.session;
  member = e.member;
  seen = e.seen;
}

-- the question of a tree: its effects are an execution
pub record IsQuestionOf (t : HoldsTree) (asked : Asked) : Type 0 where
  pub contract : asked.contract ≡ named_formula_of t.contract
  pub current : asked.cur.0 ≡ t.current
  pub effects : map unstamped asked.execution ≡ map (numbered_draft (objects_of t) (operations_of t)) t.effects
  pub execution : IsExecution asked.execution
