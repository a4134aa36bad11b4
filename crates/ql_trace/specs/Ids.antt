-- The texts of IDs.
use Rattle.std.specs.Prelude.{ℕ, List, decimal}
use Rattle.ql_trace.specs.declared.ids.Id.{Id}
use Rattle.ql_trace.specs.declared.ids.Id.TheVariants.{Text, Number}

abbrev pub id_text : Id → List ℕ
id_text (Text text) = text.now
id_text (Number n) = decimal n
