use Rattle.std.proofs.Common.{refl}
use Rattle.std.proofs.lemmas.Bool.{false≢true}
use Rattle.ql_base.proofs.Numerals.{number_is, no_number}
use Rattle.ql_base.proofs.number.number_of.Goals as goal

pub returns-then-is_numeral : goal.returns-then-is_numeral
returns-then-is_numeral c = number_is _ _ _ c.ranges.most.fits (c.if-is_numeral.ensures.0 refl) c.value_of.ensures

pub returns-else-is_numeral : goal.returns-else-is_numeral
returns-else-is_numeral c = no_number _ _ c.ranges.most.fits (λ h. false≢true (c.if-is_numeral.ensures.1 h))
