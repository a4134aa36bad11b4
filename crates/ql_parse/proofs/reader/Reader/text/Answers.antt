use Rattle.std.proofs.lemmas.Result.{err_from_is_err_and}
use Rattle.ql_grammar.specs.declared.terminal.Terminal.TheVariants.{TextToken}
use Rattle.ql_parse.proofs.ReaderLemmas.{kept_past, kept_refused, takes_kept, counted_ahead, not_empty, shorter_behind}
use Rattle.ql_parse.proofs.reader.Reader.text.Goals as goal

pub returns-in_err-at-clause-refused : goal.returns-in_err-at-clause-refused
returns-in_err-at-clause-refused c =
    let p = err_from_is_err_and c.from_residual.result c.from_residual.ensures.1 in
    rw (p.1, p.2, c.in_err-at.ensures.err) (kept_refused c.args.self.now TextToken c.args.role c.in_err-at.ensures.misses)

pub returns-in_err-count-clause-refused : goal.returns-in_err-count-clause-refused
returns-in_err-count-clause-refused c =
    let p = err_from_is_err_and c.from_residual-in_err-count.result c.from_residual-in_err-count.ensures.1 in
    rw (p.1, p.2) (kept_past c.args.self.now TextToken c.args.role _ c.in_ok-at.ensures.sees (rw (← c.in_ok-at.ensures.place) c.in_err-count.ensures.err))

pub advance-requires : goal.advance-requires
advance-requires c = rw c.in_ok-count.ensures.tokens (not_empty TextToken c.args.self.now.tokens c.in_ok-at.ensures.sees)

pub returns-clause-gave : goal.returns-clause-gave
returns-clause-gave c = takes_kept (counted_ahead c.in_ok-at.ensures.sees c.in_ok-at.ensures.place c.in_ok-count.ensures.ok c.in_ok-count.ensures.tokens c.in_ok-count.ensures.end c.advance.ensures)

pub returns-clause-shorter : goal.returns-clause-shorter
returns-clause-shorter c = shorter_behind c.args.self.now c.advance.new.self TextToken c.in_ok-at.ensures.sees ((counted_ahead {role = c.args.role} c.in_ok-at.ensures.sees c.in_ok-at.ensures.place c.in_ok-count.ensures.ok c.in_ok-count.ensures.tokens c.in_ok-count.ensures.end c.advance.ensures).tokens)
