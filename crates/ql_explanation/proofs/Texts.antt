-- Texts that are appended piece by piece.
use Rattle.std.proofs.Common.{◌≡◌, ℕ, List, ◌++◌, Result, Ok, Err, ap, ◌∙◌, append_assoc}
use Rattle.std.specs.Prelude.{OnOk}
use Rattle.ql_base.specs.declared.no_memory.NoMemory.{NoMemory}
use Rattle.ql_why.specs.Why.{Appended}

pub appended_ok : {A : Type 0} (Says : List ℕ → Type 0) (old new text : List ℕ) (last : Result A NoMemory) → Says text → OnOk last (new ≡ old ++ text) → OnOk last (Appended Says old new)
appended_ok Says old new text (Ok done) says longer = (text, says, longer)
appended_ok Says old new text (Err e) says longer = tt

-- a name stands twice among other words
pub named_twice : {A : Type 0} (old t1 t2 t3 t4 t5 t6 one name two three four two_bytes four_bytes : List ℕ) (last : Result A NoMemory) → t1 ≡ old ++ one → t2 ≡ t1 ++ name → t3 ≡ t2 ++ two_bytes → two_bytes ≡ two
    → t4 ≡ t3 ++ three → t5 ≡ t4 ++ name → OnOk last (t6 ≡ t5 ++ four_bytes) → four_bytes ≡ four → OnOk last (t6 ≡ old ++ (one ++ name ++ two ++ three ++ name ++ four))
named_twice old t1 t2 t3 t4 t5 t6 one name two three four two_bytes four_bytes (Ok done) e1 e2 e3 same_two e4 e5 e6 same_four =
    let told : t3 ≡ old ++ one ++ name ++ two = e3 ∙ ap (λ z. t2 ++ z) same_two ∙ ap (λ z. z ++ two) (e2 ∙ ap (λ z. z ++ name) e1) ∙ simp append_assoc in
    e6 ∙ ap (λ z. t5 ++ z) same_four ∙ ap (λ z. z ++ four) (e5 ∙ ap (λ z. z ++ name) (e4 ∙ ap (λ z. z ++ three) told)) ∙ simp append_assoc
named_twice old t1 t2 t3 t4 t5 t6 one name two three four two_bytes four_bytes (Err e) e1 e2 e3 same_two e4 e5 e6 same_four = tt

pub whole_section : (first strong ways warned reason t1 t2 t3 : List ℕ) → t1 ≡ first → t2 ≡ t1 ++ strong ++ ways ++ warned → t3 ≡ t2 ++ reason → t3 ≡ first ++ strong ++ ways ++ warned ++ reason
whole_section first strong ways warned reason t1 t2 t3 e1 e2 e3 = e3 ∙ ap (λ z. z ++ reason) (e2 ∙ ap (λ z. z ++ strong ++ ways ++ warned) e1) ∙ simp append_assoc

pub whole_counter : (words warned end counter t2 t3 t4 : List ℕ) → t2 ≡ words ++ warned → t3 ≡ t2 ++ end → t4 ≡ t3 ++ counter → t4 ≡ words ++ warned ++ end ++ counter
whole_counter words warned end counter t2 t3 t4 e2 e3 e4 = e4 ∙ ap (λ z. z ++ counter) (e3 ∙ ap (λ z. z ++ end) e2) ∙ simp append_assoc
