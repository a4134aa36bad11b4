use Rattle.std.proofs.Common.{◌≡◌, ℕ, List, [], ◌∷◌, ◌++◌, Option, None, refl, sym, ap, ◌∙◌, append_assoc}
use Rattle.ql_base.specs.Numbering.{has_name, with_name}
use Rattle.ql_lang.specs.declared.name.Name.{Name}
use Rattle.ql_typing.specs.declared.fault.TypeFault.{TypeFault}
use Rattle.ql_typing.specs.declared.fault.TypeFault.TheVariants.{Twice}
use Rattle.ql_typing.specs.Faults.{earlier, first_fault, repeats, names_met, where_so}
use Rattle.ql_typing.specs.Invariant.{IsRest}
use Rattle.ql_typing.proofs.FirstFault.{earlier_assoc, earlier_none, first_append}

pub rest_start : (before : List (List ℕ)) (all : List Name) → IsRest before before None all all
unfolding earlier
rest_start before all = record { names = refl; faults = refl }

pub rest_step : (before met : List (List ℕ)) (fault : Option TypeFault) (n : Name) (ns all : List Name) → IsRest before met fault (n ∷ ns) all
    → IsRest before (with_name met n.word) (earlier fault (first_fault (where_so (has_name met n.word) (Twice n.at)))) ns all
unfolding names_met repeats
rest_step before met fault n ns all h = record {
  names = h.names;
  faults = earlier_assoc fault _ _ ∙ ap (λ r. earlier fault r) (sym (first_append (where_so (has_name met n.word) (Twice n.at)) (repeats (with_name met n.word) ns))) ∙ h.faults;
}

pub rest_end : (before met : List (List ℕ)) (fault : Option TypeFault) (all : List Name) → IsRest before met fault [] all → (met ≡ names_met before all) × (fault ≡ first_fault (repeats before all))
unfolding names_met repeats first_fault
rest_end before met fault all h = (h.names, sym (earlier_none fault) ∙ h.faults)

pub names_met-append : (met : List (List ℕ)) (ns ms : List Name) → names_met met (ns ++ ms) ≡ names_met (names_met met ns) ms
unfolding names_met
names_met-append met [] ms = refl
names_met-append met (n ∷ ns) ms = names_met-append (with_name met n.word) ns ms

repeats-append : (met : List (List ℕ)) (ns ms : List Name) → repeats met (ns ++ ms) ≡ repeats met ns ++ repeats (names_met met ns) ms
unfolding names_met repeats
repeats-append met [] ms = refl
repeats-append met (n ∷ ns) ms =
    ap (λ r. where_so (has_name met n.word) (Twice n.at) ++ r) (repeats-append (with_name met n.word) ns ms)
    ∙ sym (append_assoc (where_so (has_name met n.word) (Twice n.at)) (repeats (with_name met n.word) ns) (repeats (names_met (with_name met n.word) ns) ms))

pub rest_lists : (before met : List (List ℕ)) (fault : Option TypeFault) (ns ms all : List Name) → IsRest before met fault (ns ++ ms) all
    → IsRest before (names_met met ns) (earlier fault (first_fault (repeats met ns))) ms all
rest_lists before met fault ns ms all h = record {
  names = sym (names_met-append met ns ms) ∙ h.names;
  faults = earlier_assoc fault _ _ ∙ ap (λ r. earlier fault r) (sym (ap first_fault (repeats-append met ns ms) ∙ first_append (repeats met ns) (repeats (names_met met ns) ms))) ∙ h.faults;
}
