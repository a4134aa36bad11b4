-- A receipt as it begins: the package's first effect tells whether it is new.
use Rattle.std.proofs.Common.{◌≡◌, ℕ, ◌<◌, true, false, List, length, get_or, sym, subst, arith}
use Rattle.ql_base.specs.IdLists.{has_id, union_of}
use Rattle.ql_exec.specs.declared.effect.Effect.{Effect}
use Rattle.ql_holder.specs.Closed.{Has}
use Rattle.ql_holder.specs.Needs.{AreWhole, IsPackage}
use Rattle.ql_holder.proofs.Members.{has_id-index, index-has}
use Rattle.ql_holder.proofs.Packages.{package-member, package-in, package-out}
use Rattle.ql_holder.specs.Arrivals.{IsNew}

pub first-has : (x : List Effect) (pack : List ℕ) → IsPackage x pack → (0 < length pack) × Has pack (get_or pack 0 0)
first-has x pack p = (some, index-has pack 0 some)
  where
    some : 0 < length pack
    some = (let at = has_id-index pack p.member (package-member x pack p) in let inside = at.1 in omega (arith, inside))

pub new-from : (x : List Effect) (received pack after : List ℕ) (id : ℕ) → IsPackage x pack → AreWhole x received → id ≡ get_or pack 0 0 → false ≡ has_id received id → after ≡ union_of received pack → IsNew received pack after
new-from x received pack after id p whole is none added = record {
  none_before = package-out x pack received p whole id (subst (Has pack) (sym is) (first-has x pack p).1) (sym none);
  added = added;
}

pub again-from : (x : List Effect) (received pack : List ℕ) (id : ℕ) → IsPackage x pack → AreWhole x received → id ≡ get_or pack 0 0 → true ≡ has_id received id → (a : ℕ) → Has pack a → Has received a
again-from x received pack id p whole is there = package-in x pack received p whole id (subst (Has pack) (sym is) (first-has x pack p).1) (sym there)
