use Rattle.std.proofs.Common.{◌≡◌, ◌≤◌, ◌<◌, take, length, ◌-◌}
use Rattle.std.specs.List.{AllPass}
use Rattle.std.specs.Str.Parse.{digits_value}
use Rattle.ql_base.specs.Bytes.{is_digit}
use Rattle.ql_holds_files.proofs.ids.leading_digits.Given as goal

abbrev pub invariant-loop-count : goal.invariant-loop-count
invariant-loop-count l =
    (l.count ≤ length l.text) × (l.value < 1000000000) × AllPass is_digit (take l.count l.text) × (l.value ≡ digits_value 10 (take l.count l.text))

abbrev pub decreases-loop-count : goal.decreases-loop-count
decreases-loop-count l = length l.text - l.count
