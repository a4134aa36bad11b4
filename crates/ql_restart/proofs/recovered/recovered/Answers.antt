use Rattle.std.proofs.Common.{List, ℕ, ◌∙◌, ap}
use Rattle.ql_journal.specs.MemDisks.{content_of}
use Rattle.ql_journal.specs.Records.{in_records}
use Rattle.ql_journal.proofs.EndLaws.{one_list}
use Rattle.ql_restart.proofs.recovered.recovered.Goals as goal

pub returns-in-Ok-clause-received : goal.returns-in-Ok-clause-received
returns-in-Ok-clause-received g c = λ records has a.
    let is = c.in-Ok.ensures.recovers tt in
    is.ids a ∙ ap (λ (l : List (List ℕ)). in_records l a) (one_list is.records records (content_of c.args.disk.now) is.has has)
