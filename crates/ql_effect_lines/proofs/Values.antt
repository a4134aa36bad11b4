-- values are read where the grammar spells them, and nowhere else
use Rattle.std.proofs.Common.{◌≡◌, ℕ, Ok, List}
use Rattle.ql_base.specs.Bytes.{StopsBefore, is_digit}
use Rattle.ql_value.specs.declared.value.Value.{Value}
use Rattle.ql_value.specs.Reading.{value_at}
use Rattle.ql_value.proofs.ValueLaws.{value_again, value_takes}
use Rattle.ql_value.proofs.ValueLimits.{value_fits}
use Rattle.ql_effect_lines.specs.Parts.{ValueAt}

module _ (v : Value) (text rest : List ℕ) where
  pub is_read : ValueAt v text rest → (value_at text ≡ Ok (v, rest)) × StopsBefore is_digit rest
  is_read p = (value_again v text rest p.fits p.ended p.spelled, p.ended)

  pub stands : value_at text ≡ Ok (v, rest) → StopsBefore is_digit rest → ValueAt v text rest
  stands read ended = record { fits = value_fits text rest v read; spelled = value_takes text rest v read; ended = ended }
