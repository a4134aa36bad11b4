use Rattle.std.proofs.Common.{◌≡◌, ◌≤◌, ◌+◌, ◌++◌, List, length}
use Rattle.ql_machine.specs.Changes.{to_others}
use Rattle.ql_net.specs.declared.sent.Sent.{Sent}
use Rattle.ql_net.specs.Network.{messages_in}
use Rattle.ql_net.proofs.net.push_to_others.Given as goal

abbrev pub invariant-loop-r : goal.invariant-loop-r
invariant-loop-r l =
    (more : List Sent) × (l.messages.items ≡ l.fn.messages.items ++ more) × (messages_in more ≡ to_others l.r l.from l.carried.value)
    × (length l.messages.items ≤ length l.fn.messages.items + l.r)
