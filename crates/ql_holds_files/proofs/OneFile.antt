-- a file asks one thing or has one first fault, and never both or neither
use Rattle.std.proofs.Common.{◌≡◌, Result}
use Rattle.ql_lines.specs.declared.fault.Broken.{Broken}
use Rattle.ql_lines.proofs.OneOutcome as law
use Rattle.ql_lines.specs.Lines.{Ahead}
use Rattle.ql_holds_files.specs.declared.asked.Asked.{Asked}
use Rattle.ql_holds_files.specs.declared.reading.Stage.TheVariants.{Unbegun}
use Rattle.ql_holds_files.specs.declared.rules.HoldsRule.{HoldsRule}
use Rattle.ql_holds_files.specs.HoldsFile.{ExtendsHolds, HoldsOutcome, closed}
use Rattle.ql_holds_files.specs.OneLine.{closes_one, closes_some, gives_one, gives_some}
use Rattle.ql_holds_files.specs.Uniqueness.{OneContract}

pub one : OneContract → (file : Ahead) (x y : Result Asked (Broken HoldsRule)) → HoldsOutcome file x → HoldsOutcome file y → x ≡ y
one one_contract file = law.one_outcome ExtendsHolds (λ s end y. y ≡ closed s end) (gives_one one_contract) closes_one Unbegun file

pub some : (file : Ahead) → ((x : Result Asked (Broken HoldsRule)) → HoldsOutcome file x → ⊥) → ⊥
some file = law.some_outcome ExtendsHolds (λ s end y. y ≡ closed s end) gives_some closes_some Unbegun file
