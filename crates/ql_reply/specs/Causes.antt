-- What an answer is about.
use Rattle.std.specs.Prelude.{◌≡◌, Option, None, Some}
use Rattle.ql_reply.specs.declared.fault.Fault.{Fault}
use Rattle.ql_reply.specs.declared.reply.Cause.{Cause}

-- the fault that an answer is about
abbrev pub fault_in : Cause → Option Fault
fault_in (Cause.Fault fault) = Some fault
fault_in _ = None

-- it isn't about a fault
abbrev pub IsNoFault : Cause → Type 0
IsNoFault cause = fault_in cause ≡ None
