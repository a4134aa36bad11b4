-- `==` on words compares their bytes.
use Rattle.std.proofs.Common.{◌≡◌, ℕ, Bool, true, false, ◌&&◌, nat_eq, List, length, take, refl, sym, ◌∙◌, ap}
use Rattle.std.specs.Str.{bytes_eq}
use Rattle.std.specs.Bool.{Decides}
use Rattle.std.specs.Cmp.Derive.{both_true}
use Rattle.std.proofs.lemmas.Slice.Eq.{bytes_eq-Decides}
use Rattle.std.proofs.lemmas.Bool.Decides.{Decides-eqb, same_from_decides}
use Rattle.std.proofs.Math.Seq.{take-append_seam}
use Rattle.ql_base.specs.Words.{padded}
use Rattle.ql_base.specs.contracts.word.WordPartialEq.TheImpl.{eq-value}

both_left : (s t : Bool) → (s && t) ≡ true → s ≡ true
both_left true t h = refl
both_left false t h = h

both_right : (s t : Bool) → (s && t) ≡ true → t ≡ true
both_right true t h = h
both_right false t h = cc

-- rows of equal bytes and equal lengths have equal words
same_words : (a b : List ℕ) → padded a ≡ padded b → length a ≡ length b → a ≡ b
same_words a b rows lengths = sym (take-append_seam a _) ∙ (λ i. take (lengths i) (rows i)) ∙ take-append_seam b _

decides : (a b : List ℕ) → Decides (bytes_eq (padded a) (padded b) && nat_eq (length a) (length b)) (a ≡ b)
decides a b = (
  (λ h. same_words a b ((bytes_eq-Decides _ _).0 (both_left _ _ h)) ((Decides-eqb _ _).0 (both_right (bytes_eq (padded a) (padded b)) _ h))),
  (λ e. both_true ((bytes_eq-Decides _ _).1 (ap padded e)) ((Decides-eqb _ _).1 (ap length e))),
)

pub word_eq : eq-value.it ≡ bytes_eq
word_eq = λ i a b. same_from_decides (bytes_eq (padded a) (padded b) && nat_eq (length a) (length b)) (bytes_eq a b) (decides a b) (bytes_eq-Decides a b) i
