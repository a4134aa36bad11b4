-- Places of items that are read off others.
use Rattle.std.proofs.Common.{◌≡◌, ◌+◌, ℕ, Bool, cond, not, nat_lt, List, [], ◌∷◌, Some, None, map, refl, ap, ◌∙◌}
use Rattle.std.specs.List.{position, prefix_len}
use Rattle.std.specs.Str.{bytes_eq}
use Rattle.std.proofs.lemmas.List.{length-map}
use Rattle.ql_base.specs.Numbering.{place}
use Rattle.ql_lang.specs.declared.program.TypeDecl.{TypeDecl}
use Rattle.ql_lang.specs.declared.operation.OpDecl.{OpDecl}
use Rattle.ql_typing.specs.Operations.{all_ops, op_place, op_words}

prefix_len-map : {A B : Type 0} (p : B → Bool) (f : A → B) (xs : List A) → prefix_len p (map f xs) ≡ prefix_len (λ x. p (f x)) xs
prefix_len-map p f [] = refl
prefix_len-map p f (x ∷ xs) = ap (λ n. cond (p (f x)) (1 + n) 0) (prefix_len-map p f xs)

-- the first that passes stands at the same place
pub position-map : {A B : Type 0} (p : B → Bool) (f : A → B) (xs : List A) → position p (map f xs) ≡ position (λ x. p (f x)) xs
position-map p f xs =
    λ i. cond (nat_lt (prefix_len-map (λ y. not (p y)) f xs i) (length-map xs f i)) (Some (prefix_len-map (λ y. not (p y)) f xs i)) None

-- an operation's place is that of its name
pub op_place_of : (names : List (List ℕ)) (types : List TypeDecl) (w : List ℕ) → names ≡ op_words types → place names w ≡ op_place types w
op_place_of names types w are = ap (λ ns. place ns w) are ∙ position-map (bytes_eq w) (λ (o : OpDecl). o.name.word) (all_ops types)
