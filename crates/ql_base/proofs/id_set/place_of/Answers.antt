use Rattle.std.proofs.Common.{sym}
use Rattle.std.proofs.lemmas.Option.{get_or_from_slice_get}
use Rattle.ql_base.proofs.IdLemmas.{found-place, absent-place, end-place}
use Rattle.ql_base.proofs.id_set.place_of.Goals as goal

pub returns-in-Some-clause-found : goal.returns-in-Some-clause-found
returns-in-Some-clause-found c = found-place _ _ _ c.requires c.binary_search.ensures.position

pub returns-in-Some-clause-absent : goal.returns-in-Some-clause-absent
returns-in-Some-clause-absent c = absent-place _ _ _ c.requires c.binary_search.ensures.position

pub returns-in_default-clause-absent : goal.returns-in_default-clause-absent
returns-in_default-clause-absent c =
    end-place _ _ c.requires
    (λ _. rw (get_or_from_slice_get _ _ _ 0 (sym c.in-Some.ensures.value)) c.if-id-last.false)
