use Rattle.ql_text_laws.proofs.Offsets.{begins, has_offset, no_byte_at, no_item_at, reported}
use Rattle.ql_text_laws.proofs.value_prefixes.values_begin_before_faults.Goals as goal

pub returns-clause-inside : goal.returns-clause-inside
returns-clause-inside c = has_offset

pub returns-clause-reported : goal.returns-clause-reported
returns-clause-reported c = reported

pub returns-clause-begins : goal.returns-clause-begins
returns-clause-begins c = begins

pub returns-clause-byte : goal.returns-clause-byte
returns-clause-byte c = no_byte_at

pub returns-clause-item : goal.returns-clause-item
returns-clause-item c = no_item_at
