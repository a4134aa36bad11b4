-- Files that couldn't be read whole.
use Rattle.std.specs.Prelude.{◌≡◌, ℕ, List, ◌++◌, codes}
use Rattle.ql_ports.specs.declared.whole.ReadWhy.{ReadWhy}
use Rattle.ql_ports.specs.declared.whole.ReadWhy.TheVariants.{Failed, TooLong}
use Rattle.ql_reply.specs.declared.status.Status.{Status}
use Rattle.ql_reply.specs.declared.status.Status.TheVariants.{ReadFault, TooLarge}

-- the reply if the file with this name couldn't be read whole
abbrev pub IsUnread : ReadWhy → List ℕ → Status → List ℕ → Type 0
IsUnread Failed name ReadFault text = text ≡ codes "read fault " ++ name ++ codes "\n"
IsUnread TooLong name TooLarge text = text ≡ codes "too large " ++ name ++ codes "\n"
IsUnread _ _ _ _ = ⊥
