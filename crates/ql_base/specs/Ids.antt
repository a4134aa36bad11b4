use Rattle.std.specs.Prelude.{ℕ}
use Rattle.ql_base.specs.declared.ids.OpId.{OpId}

-- the operation with a number
abbrev pub op : ℕ → OpId
op o = record { 0 = o }
