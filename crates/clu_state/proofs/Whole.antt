-- All vertices are members.
use Rattle.std.proofs.Common.{ℕ, ◌<◌, length, slice_index, Contains, sym, subst, arith}
use Rattle.clu_partition.specs.Closed.{Closed, IsClosed}
use Rattle.clu_partition.specs.Partition.{below}
use Rattle.clu_partition.proofs.Ranges.{below_at, below_size}
use Rattle.clu_state.specs.State.{AreMembers}

pub among_below : (n v : ℕ) → v < n → Contains (below n) v
among_below n v l = (v, (let s = below_size n in omega (arith, s, l)), below_at n v v l)

pub all_members : (c : Closed) → IsClosed c → AreMembers c (below (length c.group))
all_members c h = record {
  rising = λ i j l k.
      let n = below_size (length c.group) in
      let a = below_at (length c.group) i 0 (omega (arith, l, k, n)) in
      let b = below_at (length c.group) j 0 (omega (arith, k, n)) in
      omega (arith, a, b, l);
  below = λ k d l.
      let n = below_size (length c.group) in
      let e = below_at (length c.group) k d (omega (arith, l, n)) in
      omega (arith, e, l, n);
  whole = λ k d l.
      let n = below_size (length c.group) in
      let i : k < length c.group = omega (arith, l, n) in
      let e = below_at (length c.group) k d i in
      let low = h.below k i in
      subst (λ v. Contains (below (length c.group)) (slice_index c.group v)) (sym e) (among_below (length c.group) (slice_index c.group k) (omega (arith, low, i)));
  closed = λ v l _. among_below (length c.group) v l;
}
