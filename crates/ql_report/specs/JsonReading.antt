-- For private clauses: a value whose text reads back as it.
use Rattle.std.specs.Prelude.{◌≡◌, Some}
use Rattle.json.specs.Tree.{HasNumbers}
use Rattle.serde_json.specs.Data.{Data}
use Rattle.serde_json.specs.Read.{of_json}
use Rattle.serde_json.specs.Written.{outline}

-- the digits of each of its numbers are a number in JSON, and its outline is read as the value
abbrev pub ReadsBack : Data → Type 0
ReadsBack d = HasNumbers (outline d) × (of_json (outline d) ≡ Some d)
