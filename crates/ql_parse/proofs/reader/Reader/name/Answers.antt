use Rattle.std.proofs.lemmas.Result.{err_from_is_err_and}
use Rattle.ql_parse.proofs.ReaderLemmas.{name_past, name_refused, takes_name, counted_ahead}
use Rattle.ql_parse.proofs.reader.Reader.name.Goals as goal

pub returns-in_err-at-clause-refused : goal.returns-in_err-at-clause-refused
returns-in_err-at-clause-refused c =
    let p = err_from_is_err_and c.from_residual.result c.from_residual.ensures.1 in
    rw (p.1, p.2, c.in_err-at.ensures.err) (name_refused c.args.self.now c.args.role c.in_err-at.ensures.misses)

pub returns-in_err-count-clause-refused : goal.returns-in_err-count-clause-refused
returns-in_err-count-clause-refused c =
    let p = err_from_is_err_and c.from_residual-in_err-count.result c.from_residual-in_err-count.ensures.1 in
    rw (p.1, p.2) (name_past c.args.self.now c.args.role _ c.in_ok-at.ensures.sees (rw (← c.in_ok-at.ensures.place) c.in_err-count.ensures.err))

pub returns-clause-gave : goal.returns-clause-gave
returns-clause-gave c = rw (c.word_ahead-word.ensures, c.in_ok-at.ensures.place) (takes_name (counted_ahead c.in_ok-at.ensures.sees c.in_ok-at.ensures.place c.in_ok-count.ensures.ok c.in_ok-count.ensures.tokens c.in_ok-count.ensures.end c.advance.ensures))
