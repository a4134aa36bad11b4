-- `prove` of a source, and then `check` of that source and of what `prove` wrote.
use Rattle.std.specs.Prelude.{◌≡◌, ℕ, ◌≤◌, List, [], ◌∷◌, ◌++◌, length, Option, Some, codes}
use Rattle.ql_reply.specs.Arguments.{IsFileName}
use Rattle.ql_ports.specs.Faults.{Rose}

-- The arguments of both calls, what the shelf of each holds, and what the first one's sink took before it and after it.
pub record AreInTurn (words : List (List ℕ)) (held : List ℕ → Option (List ℕ)) (was is : Option (List ℕ)) (next : List (List ℕ)) (next_held : List ℕ → Option (List ℕ)) : Type 0 where
  -- the first is `prove NAME` of a source, and wrote a certificate
  pub name : List ℕ
  pub source : List ℕ
  pub before : List ℕ
  pub certificate : List ℕ
  pub proves : words ≡ codes "prove" ∷ name ∷ []
  pub source_held : held name ≡ Some source
  pub began : was ≡ Some before
  pub wrote : is ≡ Some (before ++ certificate)
  -- the second is `check AGAIN OTHER` of the same source and of this certificate
  pub again : List ℕ
  pub other : List ℕ
  pub checks : next ≡ codes "check" ∷ again ∷ other ∷ []
  pub again_named : IsFileName again
  pub other_named : IsFileName other
  pub again_held : next_held again ≡ Some source
  pub certificate_held : next_held other ≡ Some certificate
  -- which is within the limit of certificates
  pub within : length certificate ≤ 67108864

-- neither file's count of faults rose, nor the sink's
pub record NothingFailed (before after : List ℕ → ℕ) (name other : List ℕ) (faults sums : ℕ) : Type 0 where
  pub first_file : Rose (before name) (after name) → ⊥
  pub second_file : Rose (before other) (after other) → ⊥
  pub sink : Rose faults sums → ⊥
