use Rattle.ql_lang.specs.Trees.{sentence_of}
use Rattle.ql_holds_files.specs.ContractLine.{sentence_faults}
use Rattle.ql_holds_files.proofs.ContractRules.{has_faults}
use Rattle.ql_holds_files.proofs.reading.refusal.Goals as goal

pub lowest_rule-requires : goal.lowest_rule-requires
lowest_rule-requires c = has_faults (sentence_faults (sentence_of c.args.contract.now)) c.args.fault c.requires c.in_default.not-NoMemory
