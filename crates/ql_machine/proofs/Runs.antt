-- What every state of every run keeps.
use Rattle.std.proofs.Common.{ℕ, List}
use Rattle.ql_machine.specs.declared.event.Event.{Event}
use Rattle.ql_machine.specs.declared.reply.Reply.{Reply}
use Rattle.ql_machine.specs.State.{Machine, empty}
use Rattle.ql_machine.specs.Rules.{Rules}
use Rattle.ql_machine.specs.Runs.{IsRun}
use Rattle.ql_machine.specs.Kept.{Keeps}
use Rattle.ql_machine.proofs.Keeping.{keeps-empty, keeps-leads}

pub kept : (rules : Rules) (n : ℕ) (events : List Event) (replies : List Reply) (last : Machine) → IsRun rules n events replies last → Keeps rules.promises n last
kept rules n events replies last run = keeps-leads rules n (empty n) events replies last (keeps-empty rules.promises n) run
