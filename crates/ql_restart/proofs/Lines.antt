-- Ids of a line, one after another.
use Rattle.std.proofs.Common.{◌≡◌, ◌<◌, ◌+◌, ℕ, List, [], ◌∷◌, ◌++◌, map, take, length, get_or, decimal, codes, sym, ap, ◌∙◌, append_assoc}
use Rattle.std.proofs.lemmas.List.{append-nil, map-append, take_more}
use Rattle.ql_lines.specs.Texts.{spaced_fields}
use Rattle.ql_lines.proofs.TextLaws.{spaced_fields-append}

pub nothing_behind : (out : List ℕ) → out ≡ out ++ spaced_fields []
unfolding spaced_fields
nothing_behind out = sym (append-nil out)

one_behind : (ids : List ℕ) (id : ℕ) → spaced_fields (map decimal (ids ++ id ∷ [])) ≡ spaced_fields (map decimal ids) ++ (codes " " ++ decimal id)
unfolding spaced_fields
one_behind ids id =
    ap spaced_fields (map-append decimal ids (id ∷ [])) ∙ spaced_fields-append (map decimal ids) (decimal id ∷ []) ∙ ap (λ (t : List ℕ). spaced_fields (map decimal ids) ++ 32 ∷ t) (append-nil (decimal id))

pub id_behind : (ids : List ℕ) (i : ℕ) (out : List ℕ) → i < length ids
    → ((out ++ spaced_fields (map decimal (take i ids))) ++ codes " ") ++ decimal (get_or ids i 0) ≡ out ++ spaced_fields (map decimal (take (i + 1) ids))
id_behind ids i out less =
    append_assoc (out ++ spaced_fields (map decimal (take i ids))) (codes " ") (decimal (get_or ids i 0))
    ∙ append_assoc out (spaced_fields (map decimal (take i ids))) (codes " " ++ decimal (get_or ids i 0))
    ∙ ap (λ (t : List ℕ). out ++ t) (sym (one_behind (take i ids) (get_or ids i 0)) ∙ ap (λ (l : List ℕ). spaced_fields (map decimal l)) (sym (take_more ids i 0 less)))
