-- The best partition that a search has found so far.
use Rattle.std.specs.Prelude.{◌≡◌, slice_index}
use Rattle.clu_partition.specs.Pairs.{Pairs, weight_of}
use Rattle.clu_partition.specs.Partition.{below, IsPartition}
use Rattle.clu_partition.specs.Closed.{Closed, IsPermitted}
use Rattle.clu_partition.specs.Values.{value_on}
use Rattle.clu_search.specs.declared.incumbent.Incumbent.{Incumbent}

-- a partition of all vertices that the rules permit, and its value
pub record IsIncumbent (pairs : Pairs) (start : Closed) (best : Incumbent) : Type 0 where
  pub partition : IsPartition pairs.n best.partition
  pub permitted : IsPermitted start (slice_index best.partition)
  pub value : best.value ≡ value_on (weight_of pairs) (slice_index best.partition) (below pairs.n)
