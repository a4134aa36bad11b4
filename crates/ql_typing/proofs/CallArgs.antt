use Rattle.std.proofs.Common.{◌≡◌, ◌<◌, ◌≤◌, ◌+◌, ◌&&◌, ℕ, List, [], ◌∷◌, Option, None, length, get_or, drop, refl, sym, ap, ◌∙◌, arith}
use Rattle.ql_lang.specs.declared.name.Name.{Name}
use Rattle.ql_lang.specs.declared.operation.Kind.{Kind}
use Rattle.ql_lang.specs.declared.expression.Expr.{Expr}
use Rattle.ql_lang.specs.Expressions.{Calling, expression_of, operands_of}
use Rattle.ql_typing.specs.declared.fault.TypeFault.{TypeFault}
use Rattle.ql_typing.specs.declared.function.Function.{Function}
use Rattle.ql_typing.specs.declared.scope.Known.{Known}
use Rattle.ql_typing.specs.Faults.{earlier, first_fault}
use Rattle.ql_typing.specs.Functions.{function_named}
use Rattle.ql_typing.specs.Kinds.{begins_at, call_faults, count_faults, faults_of, head_faults, kind_of, kind_where, meets, mismatch, operand_faults, result_of, second_of, signature_at, third_of}
use Rattle.ql_typing.proofs.Each.{next_item, no_item}
use Rattle.ql_typing.proofs.FirstFault.{earlier_assoc, earlier_none, first_append, first_none}

-- lists of one, two and three items, read by their places
pub list_of_one : {A : Type 0} (xs : List A) (a : A) → length xs ≡ 1 → a ≡ get_or xs 0 a → xs ≡ a ∷ []
list_of_one [] a long is = absurd (omega (arith, long))
list_of_one (x ∷ []) a long is = ap (λ y. y ∷ []) (sym is)
list_of_one (x ∷ y ∷ xs) a long is = absurd (omega (arith, long))

pub list_of_two : {A : Type 0} (xs : List A) (a b : A) → length xs ≡ 2 → a ≡ get_or xs 0 a → b ≡ get_or xs 1 b → xs ≡ a ∷ b ∷ []
list_of_two [] a b long is js = absurd (omega (arith, long))
list_of_two (x ∷ xs) a b long is js = (λ i. sym is i ∷ list_of_one xs b (omega (arith, long)) js i)

pub list_of_three : {A : Type 0} (xs : List A) (a b c : A) → length xs ≡ 3 → a ≡ get_or xs 0 a → b ≡ get_or xs 1 b → c ≡ get_or xs 2 c → xs ≡ a ∷ b ∷ c ∷ []
list_of_three [] a b c long is js ks = absurd (omega (arith, long))
list_of_three (x ∷ xs) a b c long is js ks = (λ i. sym is i ∷ list_of_two xs b c (omega (arith, long)) js ks i)

module _ (scope : List Known) (at : ℕ) (name : Name) (f : Option Function) (f_is : f ≡ function_named name.word) (xs : List Expr) where
  pub one_kind : (a : Expr) (k : Option Kind) → xs ≡ a ∷ [] → k ≡ kind_of scope (expression_of a)
      → result_of (signature_at f 1 k) ≡ kind_of scope (Calling at name (operands_of xs))
  unfolding kind_of
  one_kind a k xs_are k_is = rw (xs_are, f_is, k_is) refl

  pub two_kind : (a b : Expr) (k l : Option Kind) → xs ≡ a ∷ b ∷ [] → k ≡ kind_of scope (expression_of a) → l ≡ kind_of scope (expression_of b)
      → kind_where (meets (second_of (signature_at f 2 k)) l) (result_of (signature_at f 2 k)) ≡ kind_of scope (Calling at name (operands_of xs))
  unfolding kind_of
  two_kind a b k l xs_are k_is l_is = rw (xs_are, f_is, k_is, l_is) refl

  pub three_kind : (a b c : Expr) (k l m : Option Kind) → xs ≡ a ∷ b ∷ c ∷ [] → k ≡ kind_of scope (expression_of a) → l ≡ kind_of scope (expression_of b) → m ≡ kind_of scope (expression_of c)
      → kind_where (meets (second_of (signature_at f 3 k)) l && meets (third_of (signature_at f 3 k)) m) (result_of (signature_at f 3 k)) ≡ kind_of scope (Calling at name (operands_of xs))
  unfolding kind_of
  three_kind a b c k l m xs_are k_is l_is m_is = rw (xs_are, f_is, k_is, l_is, m_is) refl

  pub one_fault : (a : Expr) (p : ℕ) (k : Option Kind) (g : Option TypeFault) → xs ≡ a ∷ []
      → p ≡ begins_at (expression_of a) → k ≡ kind_of scope (expression_of a) → g ≡ first_fault (faults_of scope (expression_of a))
      → earlier g (first_fault (head_faults at name f 1 p k)) ≡ first_fault (faults_of scope (Calling at name (operands_of xs)))
  unfolding faults_of call_faults
  one_fault a p k g xs_are p_is k_is g_is = rw (xs_are, f_is, p_is, k_is, g_is) (simp (first_append, first_none, earlier_none) refl)

  pub two_fault : (a b : Expr) (p q : ℕ) (k l : Option Kind) (g h : Option TypeFault) → xs ≡ a ∷ b ∷ []
      → p ≡ begins_at (expression_of a) → k ≡ kind_of scope (expression_of a) → g ≡ first_fault (faults_of scope (expression_of a))
      → q ≡ begins_at (expression_of b) → l ≡ kind_of scope (expression_of b) → h ≡ first_fault (faults_of scope (expression_of b))
      → earlier (earlier g h) (earlier (first_fault (head_faults at name f 2 p k)) (first_fault (mismatch (second_of (signature_at f 2 k)) q l)))
      ≡ first_fault (faults_of scope (Calling at name (operands_of xs)))
  unfolding faults_of call_faults
  two_fault a b p q k l g h xs_are p_is k_is g_is q_is l_is h_is =
      rw (xs_are, f_is, p_is, k_is, g_is, q_is, l_is, h_is) (simp (first_append, first_none, earlier_none) refl)

  pub three_fault : (a b c : Expr) (p q r : ℕ) (k l m : Option Kind) (g h j : Option TypeFault) → xs ≡ a ∷ b ∷ c ∷ []
      → p ≡ begins_at (expression_of a) → k ≡ kind_of scope (expression_of a) → g ≡ first_fault (faults_of scope (expression_of a))
      → q ≡ begins_at (expression_of b) → l ≡ kind_of scope (expression_of b) → h ≡ first_fault (faults_of scope (expression_of b))
      → r ≡ begins_at (expression_of c) → m ≡ kind_of scope (expression_of c) → j ≡ first_fault (faults_of scope (expression_of c))
      → earlier (earlier g (earlier h j)) (earlier (first_fault (head_faults at name f 3 p k))
      (earlier (first_fault (mismatch (second_of (signature_at f 3 k)) q l)) (first_fault (mismatch (third_of (signature_at f 3 k)) r m))))
      ≡ first_fault (faults_of scope (Calling at name (operands_of xs)))
  unfolding faults_of call_faults
  three_fault a b c p q r k l m g h j xs_are p_is k_is g_is q_is l_is h_is r_is m_is j_is =
      rw (xs_are, f_is, p_is, k_is, g_is, q_is, l_is, h_is, r_is, m_is, j_is) (simp (first_append, first_none, earlier_none) refl)

-- no function takes another number of arguments
pub other_kind_none : (scope : List Known) (at : ℕ) (name : Name) (xs : List Expr) → ¬ length xs ≡ 1 → ¬ length xs ≡ 2 → ¬ length xs ≡ 3
    → None ≡ kind_of scope (Calling at name (operands_of xs))
unfolding kind_of
other_kind_none scope at name [] x y z = refl
other_kind_none scope at name (a ∷ []) x y z = absurd (x (omega arith))
other_kind_none scope at name (a ∷ b ∷ []) x y z = absurd (y (omega arith))
other_kind_none scope at name (a ∷ b ∷ c ∷ []) x y z = absurd (z (omega arith))
other_kind_none scope at name (a ∷ b ∷ c ∷ d ∷ xs) x y z = refl

pub other_count : (scope : List Known) (at : ℕ) (name : Name) (xs : List Expr) → ¬ length xs ≡ 1 → ¬ length xs ≡ 2 → ¬ length xs ≡ 3
    → count_faults at name (function_named name.word) ≡ call_faults scope at name (operands_of xs)
unfolding call_faults
other_count scope at name [] x y z = refl
other_count scope at name (a ∷ []) x y z = absurd (x (omega arith))
other_count scope at name (a ∷ b ∷ []) x y z = absurd (y (omega arith))
other_count scope at name (a ∷ b ∷ c ∷ []) x y z = absurd (z (omega arith))
other_count scope at name (a ∷ b ∷ c ∷ d ∷ xs) x y z = refl

pub count_fault_of : (scope : List Known) (at : ℕ) (name : Name) (f : Option Function) (xs : List Expr) (g : Option TypeFault)
    → f ≡ function_named name.word → g ≡ first_fault (operand_faults scope (operands_of xs))
    → ¬ length xs ≡ 1 → ¬ length xs ≡ 2 → ¬ length xs ≡ 3
    → earlier g (first_fault (count_faults at name f)) ≡ first_fault (faults_of scope (Calling at name (operands_of xs)))
unfolding faults_of
count_fault_of scope at name f xs g f_is g_is x y z =
    rw (f_is, g_is) (ap (λ fs. earlier (first_fault (operand_faults scope (operands_of xs))) (first_fault fs)) (other_count scope at name xs x y z)
    ∙ sym (first_append (operand_faults scope (operands_of xs)) (call_faults scope at name (operands_of xs))))

-- arguments one after another
pub inside_step : (scope : List Known) (fault g : Option TypeFault) (args : List Expr) (i : ℕ) (a : Expr) → i < length args → a ≡ get_or args i a
    → g ≡ first_fault (faults_of scope (expression_of a))
    → earlier fault (first_fault (operand_faults scope (operands_of (drop i args)))) ≡ first_fault (operand_faults scope (operands_of args))
    → earlier (earlier fault g) (first_fault (operand_faults scope (operands_of (drop (i + 1) args)))) ≡ first_fault (operand_faults scope (operands_of args))
unfolding faults_of
inside_step scope fault g args i a below is g_is h =
    rw g_is (earlier_assoc fault _ _ ∙ ap (λ r. earlier fault r) (sym (first_append (faults_of scope (expression_of a)) (operand_faults scope (operands_of (drop (i + 1) args)))))
    ∙ ap (λ ys. earlier fault (first_fault (operand_faults scope (operands_of ys)))) (sym (next_item args i a below is)) ∙ h)

pub inside_start : (r : Option TypeFault) → earlier None r ≡ r
unfolding earlier
inside_start r = refl

pub inside_end : (scope : List Known) (fault : Option TypeFault) (args : List Expr) (i : ℕ) → length args ≤ i
    → earlier fault (first_fault (operand_faults scope (operands_of (drop i args)))) ≡ first_fault (operand_faults scope (operands_of args))
    → fault ≡ first_fault (operand_faults scope (operands_of args))
unfolding faults_of first_fault
inside_end scope fault args i past h =
    sym (earlier_none fault) ∙ ap (λ ys. earlier fault (first_fault (operand_faults scope (operands_of ys)))) (sym (no_item args i past)) ∙ h
