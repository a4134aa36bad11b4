-- The names of declarations by their numbers; empty where there is none.
use Rattle.std.specs.Prelude.{ℕ, List, [], slice_get}
use Rattle.std.specs.Option.{option_map_or}
use Rattle.ql_lang.specs.declared.program.Program.{Program}
use Rattle.ql_typing.specs.Operations.{all_ops}

abbrev pub type_name : Program → ℕ → List ℕ
type_name p t = option_map_or (λ d. d.name.word) (slice_get p.types t) []

abbrev pub op_name : Program → ℕ → List ℕ
op_name p o = option_map_or (λ d. d.name.word) (slice_get (all_ops p.types) o) []

abbrev pub txn_name : Program → ℕ → List ℕ
txn_name p d = option_map_or (λ d. d.name.word) (slice_get p.txns d) []
