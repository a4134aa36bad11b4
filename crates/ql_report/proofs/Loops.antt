-- One more text of a range of them.
use Rattle.std.proofs.Common.{◌≡◌, ℕ, ◌+◌, List, ◌++◌, add-one, sym, ap, ◌∙◌, append_assoc}
use Rattle.std.proofs.lemmas.List.{append-nil}
use Rattle.ql_base.specs.Ranges.{upto}

pub none_yet : (out : List ℕ) (f : ℕ → List ℕ) → out ≡ out ++ upto 0 f
none_yet out f = sym (append-nil out)

pub one_more : (out : List ℕ) (k : ℕ) (f : ℕ → List ℕ) → (out ++ upto k f) ++ f k ≡ out ++ upto (k + 1) f
one_more out k f = append_assoc out (upto k f) (f k) ∙ ap (λ n. out ++ upto n f) (sym (add-one k))

-- the pieces of the line of atoms
pub line_pieces : (out a r c o e : List ℕ) → ((((out ++ a) ++ r) ++ c) ++ o) ++ e ≡ out ++ ((((a ++ r) ++ c) ++ o) ++ e)
line_pieces out a r c o e = simp append_assoc

-- the pieces of the relations
pub relation_pieces : (t0 t1 t2 t3 t4 t5 t6 t7 a b c d e f g : List ℕ) → t1 ≡ t0 ++ a → t2 ≡ t1 ++ b → t3 ≡ t2 ++ c → t4 ≡ t3 ++ d → t5 ≡ t4 ++ e → t6 ≡ t5 ++ f → t7 ≡ t6 ++ g → t7 ≡ t0 ++ ((((((a ++ b) ++ c) ++ d) ++ e) ++ f) ++ g)
relation_pieces t0 t1 t2 t3 t4 t5 t6 t7 a b c d e f g one two three four five six seven = rw (seven, six, five, four, three, two, one) (simp append_assoc)
