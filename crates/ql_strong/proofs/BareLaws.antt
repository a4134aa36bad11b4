-- All that some effects need, as a set of whole transactions.
use Rattle.std.proofs.Common.{ℕ, List, [], refl, inl, inr}
use Rattle.std.proofs.lemmas.Bool.{false≢true}
use Rattle.ql_base.specs.IdLists.{IsAscending}
use Rattle.ql_exec.specs.declared.effect.Effect.{Effect}
use Rattle.ql_holder.specs.Closed.{Has, Reaches, here, through}
use Rattle.ql_holder.specs.Needs.{AreWhole, IsNeeded, Needs}
use Rattle.ql_machine.specs.Sets.{AreThose}
use Rattle.ql_ranges.specs.Reach.{InEither, IsReach}

found-from : (found : List ℕ) (a : ℕ) → InEither [] found a → Has found a
found-from found a (inl never) = absurd (false≢true never)
found-from found a (inr has) = has

pub needed-whole : (x : List Effect) (asked found : List ℕ) → IsReach x asked [] found → AreWhole x found
needed-whole x asked found is = record {
  there = is.there;
  whole = λ a b has same. found-from found b (is.whole a b has (inr (refl, same)));
}

reached : (x : List Effect) (asked found : List ℕ) → IsReach x asked [] found → (a b : ℕ) → Reaches (Needs x) a b → Has found a → Has found b
reached x asked found is a b (here c) has = has
reached x asked found is a b (through c d e step rest) has = reached x asked found is d e rest (found-from found d (is.whole c d has step))

pub needed-those : (x : List Effect) (asked found : List ℕ) → IsAscending found → IsReach x asked [] found → AreThose (IsNeeded x asked) found
needed-those x asked found ascending is = record {
  ascending = ascending;
  all = λ a needed. reached x asked found is needed.0 a needed.2 (found-from found needed.0 (is.begins needed.0 needed.1));
  only = is.needed;
}
