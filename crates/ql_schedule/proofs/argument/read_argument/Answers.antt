use Rattle.std.proofs.Common.{◌≡◌, ◌∙◌, [], Ok, ap, sym}
use Rattle.ql_value.specs.declared.value.Value.{Value}
use Rattle.ql_value.specs.Reading.{value_at}
use Rattle.ql_schedule.proofs.ArgumentLaws.{given, great, neither, other, untrue}
use Rattle.ql_schedule.proofs.Loops.{none_read, some_read}
use Rattle.ql_schedule.proofs.argument.read_argument.Goals.{then-is_scalar, else-is_scalar+in-Text-1, else-is_scalar+in-Set-1, else-is_scalar+in-Map-1, else-is_scalar+in-Unit-1, then-is_integer, else-is_integer}
use Rattle.ql_schedule.proofs.argument.read_argument.Goals as goal

pub returns-after-is_scalar : goal.returns-after-is_scalar
returns-after-is_scalar c =
    let part = c.args.part.now in
    let v = c.in-Some.value in
    let r = c.if-is_scalar.result in
    let read = some_read c.in_ok-value.field-0 ((w : Value) → value_at part ≡ Ok (w, []) → ⊥) (λ w. value_at part ≡ Ok (w, [])) v c.in-Some.is c.in_ok-value.ensures in
    elim c.if-is_scalar.branch [
      | then-is_scalar w ↦ given part v read r w.result-is (c.is_scalar.ensures.0 w.if-is_scalar.true)
      | else-is_scalar+in-Text-1 w ↦ other part v read r w.result-is (λ some. untrue c.is_scalar.result (c.is_scalar.ensures.1 some) w.if-is_scalar.false)
      | else-is_scalar+in-Set-1 w ↦ other part v read r w.result-is (λ some. untrue c.is_scalar.result (c.is_scalar.ensures.1 some) w.if-is_scalar.false)
      | else-is_scalar+in-Map-1 w ↦ other part v read r w.result-is (λ some. untrue c.is_scalar.result (c.is_scalar.ensures.1 some) w.if-is_scalar.false)
      | else-is_scalar+in-Unit-1 w ↦ other part v read r w.result-is (λ some. untrue c.is_scalar.result (c.is_scalar.ensures.1 some) w.if-is_scalar.false)
    ]

pub returns-after-is_integer : goal.returns-after-is_integer
returns-after-is_integer c =
    let part = c.args.part.now in
    let r = c.if-is_integer.result in
    let none = none_read c.in_ok-value.field-0 ((w : Value) → value_at part ≡ Ok (w, []) → ⊥) (λ w. value_at part ≡ Ok (w, [])) c.in-None.is c.in_ok-value.ensures in
    elim c.if-is_integer.branch [
      | then-is_integer w ↦ great part none r w.result-is (c.is_integer.ensures.0 w.if-is_integer.true)
      | else-is_integer w ↦ neither part none r w.result-is (λ is. untrue c.is_integer.result (c.is_integer.ensures.1 is) w.if-is_integer.false)
    ]
