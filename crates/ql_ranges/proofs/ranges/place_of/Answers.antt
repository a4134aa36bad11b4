use Rattle.std.proofs.Common.{◌+◌, nat_lt, arith, rules}
use Rattle.std.proofs.lemmas.Bool.{ltb-true, ltb-false}
use Rattle.std.proofs.lemmas.List.Sorted.{IsPartitionPoint-from_clause, IsPartitionedBy-ltb}
use Rattle.ql_ranges.proofs.RangeLemmas.{ends_rise}
use Rattle.ql_ranges.proofs.ranges.place_of.Goals as goal

pub returns : goal.returns
returns c =
    let parted = IsPartitionedBy-ltb (λ p. p.to + 1) c.args.ranges.now c.args.id (ends_rise c.args.ranges.now c.requires) in
    let point = IsPartitionPoint-from_clause (λ p. nat_lt (p.to + 1) c.args.id) _ _ c.partition_point.ensures.partitioned parted (λ a r q k. search rules) in
    record {
      bound = c.partition_point.ensures.bound;
      before = λ k d h. (let is = ltb-true _ _ (point.0 k d (omega arith) h) in omega (arith, is));
      behind = λ k d low high. (let is = ltb-false _ _ (point.1 k d low high) in omega (arith, is));
    }
