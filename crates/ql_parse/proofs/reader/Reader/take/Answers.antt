use Rattle.std.proofs.lemmas.Result.{err_from_is_err_and}
use Rattle.ql_parse.proofs.ReaderLemmas.{word_past, word_refused, takes_word, placed_past, placed_refused, takes_placed, counted_ahead, not_empty, shorter_behind}
use Rattle.ql_parse.proofs.reader.Reader.take.Goals as goal

pub returns-in_err-at-clause-refused : goal.returns-in_err-at-clause-refused
returns-in_err-at-clause-refused c =
    let p = err_from_is_err_and c.from_residual.result c.from_residual.ensures.1 in
    rw (p.1, p.2, c.in_err-at.ensures.err) (word_refused c.args.self.now c.args.terminal c.args.role c.in_err-at.ensures.misses)

pub returns-in_err-at-clause-refused_placed : goal.returns-in_err-at-clause-refused_placed
returns-in_err-at-clause-refused_placed c =
    let p = err_from_is_err_and c.from_residual.result c.from_residual.ensures.1 in
    rw (p.1, p.2, c.in_err-at.ensures.err) (placed_refused c.args.self.now c.args.terminal c.args.role c.in_err-at.ensures.misses)

pub returns-in_err-count-clause-refused : goal.returns-in_err-count-clause-refused
returns-in_err-count-clause-refused c =
    let p = err_from_is_err_and c.from_residual-in_err-count.result c.from_residual-in_err-count.ensures.1 in
    rw (p.1, p.2) (word_past c.args.self.now c.args.terminal c.args.role _ c.in_ok-at.ensures.sees (rw (← c.in_ok-at.ensures.place) c.in_err-count.ensures.err))

pub returns-in_err-count-clause-refused_placed : goal.returns-in_err-count-clause-refused_placed
returns-in_err-count-clause-refused_placed c =
    let p = err_from_is_err_and c.from_residual-in_err-count.result c.from_residual-in_err-count.ensures.1 in
    rw (p.1, p.2) (placed_past c.args.self.now c.args.terminal c.args.role _ c.in_ok-at.ensures.sees (rw (← c.in_ok-at.ensures.place) c.in_err-count.ensures.err))

pub returns-clause-took : goal.returns-clause-took
returns-clause-took c = takes_word (counted_ahead c.in_ok-at.ensures.sees c.in_ok-at.ensures.place c.in_ok-count.ensures.ok c.in_ok-count.ensures.tokens c.in_ok-count.ensures.end c.advance.ensures)

pub returns-clause-gave : goal.returns-clause-gave
returns-clause-gave c = rw c.in_ok-at.ensures.place (takes_placed (counted_ahead c.in_ok-at.ensures.sees c.in_ok-at.ensures.place c.in_ok-count.ensures.ok c.in_ok-count.ensures.tokens c.in_ok-count.ensures.end c.advance.ensures))

pub advance-requires : goal.advance-requires
advance-requires c = rw c.in_ok-count.ensures.tokens (not_empty c.args.terminal c.args.self.now.tokens c.in_ok-at.ensures.sees)

pub returns-clause-shorter : goal.returns-clause-shorter
returns-clause-shorter c = shorter_behind c.args.self.now c.advance.new.self c.args.terminal c.in_ok-at.ensures.sees ((counted_ahead {role = c.args.role} c.in_ok-at.ensures.sees c.in_ok-at.ensures.place c.in_ok-count.ensures.ok c.in_ok-count.ensures.tokens c.in_ok-count.ensures.end c.advance.ensures).tokens)
