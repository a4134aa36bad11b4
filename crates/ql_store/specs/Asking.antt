-- The request of a call, as the written machine has it.
use Rattle.ql_machine.specs.Rules.{Call}
use Rattle.ql_store.specs.declared.asked.Asked.{Asked}

abbrev pub call_of : Asked → Call
call_of asked = record { session = asked.session; replica = asked.replica; object = asked.object; op = asked.op; args = asked.args }
