use Rattle.std.proofs.Common.{refl, sym, ◌∙◌, ap, arith}
use Rattle.ql_grammar.specs.Machine.{Reading}
use Rattle.ql_parse.proofs.ReaderLemmas.{not_empty, passes_word, shorter_behind}
use Rattle.ql_parse.proofs.reader.Reader.passes.Goals as goal

pub returns-then-not-sees-clause-missed : goal.returns-then-not-sees-clause-missed
returns-then-not-sees-clause-missed c = λ is. record { misses = sym c.sees.ensures ∙ c.if-not-sees.true; same = refl }

pub advance-requires : goal.advance-requires
advance-requires c = not_empty c.args.terminal c.args.self.now.tokens (sym c.sees.ensures ∙ c.if-not-sees.false)

pub returns-clause-passed : goal.returns-clause-passed
returns-clause-passed c = λ is. passes_word c.args.self.now c.advance.new.self c.args.terminal (sym c.sees.ensures ∙ c.if-not-sees.false) c.advance.ensures

pub returns-clause-within : goal.returns-clause-within
returns-clause-within c =
    let shorter = shorter_behind c.args.self.now c.advance.new.self c.args.terminal (sym c.sees.ensures ∙ c.if-not-sees.false) (ap (λ (r : Reading). r.tokens) c.advance.ensures) in
    omega (arith, shorter)
