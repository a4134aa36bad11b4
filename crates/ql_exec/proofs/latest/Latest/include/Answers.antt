use Rattle.std.proofs.Common.{sym, ◌∙◌}
use Rattle.ql_exec.proofs.LatestLaws.{entry-known, latest-push}
use Rattle.ql_exec.proofs.latest.Latest.include.Goals.{then-last-ne0-via-then-last-ne0, then-last-ne0-via-else-last-ne0+then-has}
use Rattle.ql_exec.proofs.latest.Latest.include.Goals as goal

pub returns-then-last-ne0-clause-there : goal.returns-then-last-ne0-clause-there
returns-then-last-ne0-clause-there c = elim c.then-last-ne0.branch [
  | then-last-ne0-via-then-last-ne0 w ↦ entry-known c.args.self.now c.args.session (λ none. w.if-last-ne0.true (c.requires ∙ none))
  | then-last-ne0-via-else-last-ne0+then-has w ↦ sym w.if-has.ensures
]

pub returns-clause-same : goal.returns-clause-same
returns-clause-same c = λ other. rw (c.in_ok-push.ensures.items, ← c.self.view_is) (latest-push c.self.inside.entries.items c.args.session other)
