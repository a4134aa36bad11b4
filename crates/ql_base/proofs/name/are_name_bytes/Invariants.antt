use Rattle.std.proofs.Common.{◌≡◌, take}
use Rattle.std.specs.List.{list_all}
use Rattle.ql_base.specs.Bytes.{is_name_byte}
use Rattle.ql_base.proofs.name.are_name_bytes.Given as goal

abbrev pub invariant-loop-b : goal.invariant-loop-b
invariant-loop-b l = l.all ≡ list_all is_name_byte (take l.b-index l.text)
