use Rattle.std.proofs.Common.{List, ℕ, [], sym, subst}
use Rattle.ql_plain_holder.specs.Plain.{FitsPlain}
use Rattle.ql_plain_holder.proofs.PlainReceipts.{fits-nothing}
use Rattle.ql_plain_holder.proofs.plain_holder.PlainHolderHolder.empty.Goals as goal

pub returns-clause-fits : goal.returns-clause-fits
returns-clause-fits c = λ x.
    subst (λ (l : List ℕ). FitsPlain l c.new-2.result x) (sym c.new.ensures) (subst (λ (l : List ℕ). FitsPlain [] l x) (sym c.new-2.ensures) (fits-nothing x))
