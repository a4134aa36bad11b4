use Rattle.std.proofs.Common.{◌≡◌, ◌++◌, All, take, map}
use Rattle.ql_value.specs.Spelling.{scalar_text, followed}
use Rattle.ql_value.specs.ValueGrammar.{IsScalar}
use Rattle.ql_value.proofs.printing.push_elements.Given as goal

abbrev pub invariant-loop-element : goal.invariant-loop-element
invariant-loop-element l = record {
  text : l.out.items ≡ l.initial.out.items ++ followed (map scalar_text (take l.element-index l.elements));
  scalars : All IsScalar (take l.element-index l.elements);
}
