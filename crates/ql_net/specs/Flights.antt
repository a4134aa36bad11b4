-- Whether a message can be delivered.
use Rattle.std.specs.Prelude.{◌≡◌, ◌≢◌, ℕ}
use Rattle.ql_net.specs.declared.flight.Flight.{Flight}
use Rattle.ql_net.specs.declared.flight.Flight.TheVariants.{Gone, Cut, Ready}
use Rattle.ql_machine.specs.declared.message.Message.{Message}
use Rattle.ql_machine.specs.State.{group_at}
use Rattle.ql_machine.specs.Changes.{IsGone, IsInFlight}
use Rattle.ql_net.specs.Network.{Network}

-- whether the message with this number can be delivered
abbrev pub IsFlight : Network → ℕ → Flight → Type 0
IsFlight net m Gone = IsGone net.messages m
IsFlight net m Cut =
    (message : Message) × IsInFlight net.messages m message
    × (group_at net.groups message.sender.0 ≢ group_at net.groups message.receiver.0)
IsFlight net m (Ready sender receiver) =
    (message : Message) × IsInFlight net.messages m message
    × (group_at net.groups message.sender.0 ≡ group_at net.groups message.receiver.0)
    × (sender ≡ message.sender) × (receiver ≡ message.receiver)
