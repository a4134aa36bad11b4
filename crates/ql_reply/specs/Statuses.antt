-- The exit statuses of the programs.
use Rattle.std.specs.Prelude.{ℕ, Result, Ok, Err}
use Rattle.ql_base.specs.declared.no_memory.NoMemory.{NoMemory}
use Rattle.ql_reply.specs.declared.ended.Ended.{Ended}
use Rattle.ql_reply.specs.declared.status.Status.{Status}
use Rattle.ql_reply.specs.declared.status.Status.TheVariants.{Done, No, Bad, ReadFault, WriteFault, Usage, TooLarge}

abbrev pub exit_number : Status → ℕ
exit_number Done = 0
exit_number No = 1
exit_number Bad = 2
exit_number ReadFault = 3
exit_number WriteFault = 4
exit_number Usage = 5
exit_number TooLarge = 7

-- the exit status of a program whose call ended so: 6 is out of memory
abbrev pub exit_number_of : Result Status NoMemory → ℕ
exit_number_of (Ok status) = exit_number status
exit_number_of (Err error) = 6

-- how a call ended, without what it leaves for a note
abbrev pub status_of : Result Ended NoMemory → Result Status NoMemory
status_of (Ok ended) = Ok ended.status
status_of (Err error) = Err error
