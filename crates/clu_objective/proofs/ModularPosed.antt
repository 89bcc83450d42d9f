-- The table of a network's modular weights poses the problem of modularity.
use Rattle.std.proofs.Common.{All, ◌≡◌, ℕ, ◌*◌, ◌<◌, ◌≤◌, ◌^◌, ℤ, pos, ◌-ℤ◌, ◌*ℤ◌, ◌≤ℤ◌, ◌==◌, List, length, get_or, None, unsigned_abs, inr, refl, sym, ◌∙◌, ap, subst, arith}
use Rattle.std.proofs.Math.IntN.{pos-*ℤ-pos}
use Rattle.std.proofs.lemmas.Int.{ints}
use Rattle.clu_partition.specs.Partition.{below}
use Rattle.clu_partition.specs.Pairs.{Pairs, weight_of, IsTable}
use Rattle.clu_partition.specs.Sums.{total, only_if}
use Rattle.clu_partition.proofs.RangeLaws.{each_range}
use Rattle.clu_partition.proofs.SumLaws.{total_cong_on}
use Rattle.clu_network.specs.declared.network.NetLine.{NetLine}
use Rattle.clu_network.specs.Network.{Net}
use Rattle.clu_objective.specs.Lines.{all_weight, all_sizes, line_weight, loop_weight, degree, first_negative}
use Rattle.clu_objective.specs.Modularity.{modular_weight, modular_base, HasTotals, PosesModularity}
use Rattle.clu_objective.specs.Problem.{Posed, IsPosed}
use Rattle.clu_objective.specs.declared.objective.Objective.TheVariants.{Modularity}
use Rattle.clu_objective.proofs.AgreementPosed.{same_sums}
use Rattle.clu_objective.proofs.LineLaws.{AreBelow, are_below}
use Rattle.clu_objective.proofs.LineSteps.{line_sym}
use Rattle.clu_objective.proofs.ModularSizes.{NoneBelow, none_below, all_is, degree_in, line_in, all_in, loops_in, loops_total, modular_total, base_in}
use Rattle.clu_objective.proofs.Poses.{both_orders}
use Rattle.clu_objective.proofs.Products.{total_less, total_times, times_turn}

modular_turned : (lines : List NetLine) (u v : ℕ) → modular_weight lines u v ≡ modular_weight lines v u
modular_turned lines u v = (λ i. pos 2 *ℤ all_weight lines *ℤ line_sym lines u v i -ℤ times_turn (degree lines u) (degree lines v) i)

abbrev pub modular_problem : Pairs → ℤ → ℕ → Posed
modular_problem pairs base scale = record { objective = Modularity; pairs = pairs; base = base; factor = pos 2; scale = scale }

pub base_split : (net : Net) → modular_base net ≡ pos 4 *ℤ all_weight net.lines *ℤ total (loop_weight net.lines) (below net.n) -ℤ total (λ u. degree net.lines u *ℤ degree net.lines u) (below net.n)
base_split net =
    let parts = total_less (λ u. pos 4 *ℤ all_weight net.lines *ℤ loop_weight net.lines u) (λ u. degree net.lines u *ℤ degree net.lines u) (below net.n) in
    let scaled = total_times (pos 4 *ℤ all_weight net.lines) (loop_weight net.lines) (below net.n) in
    omega (arith, ints, parts, scaled)

module _ (net : Net) (all : ℤ) (ds : List ℤ) (t : HasTotals net all ds) where
  below_n : AreBelow net.n net.lines
  below_n = are_below net.n net.lines t.within

  no_negative : NoneBelow net.lines
  no_negative = none_below net.lines t.none

  pub sizes_few : all_sizes net.lines ≤ 2 ^ 43
  sizes_few = let s = all_is net.lines no_negative in let a = t.sum in let f = t.few in omega (arith, ints, s, a, f)

  pub table_few : all_sizes net.lines ≤ 2 ^ 88
  table_few = let f = sizes_few in omega (arith, f)

  pub all_small : (pos 0 ≤ℤ all) × (all ≤ℤ pos (2 ^ 43))
  all_small = let a = all_in net.n net.lines below_n no_negative sizes_few in let s = t.sum in (omega (arith, ints, s, a.0), t.few)

  pub loops_small : (loops : ℤ) → loops ≡ total (λ l. only_if (l.u == l.v) l.weight) net.lines → (pos 0 ≤ℤ loops) × (loops ≤ℤ pos (2 ^ 43))
  loops_small loops is =
      let t = loops_total net.n net.lines below_n in
      let h = loops_in net.n net.lines below_n no_negative sizes_few in
      let a = all_in net.n net.lines below_n no_negative sizes_few in
      (omega (arith, ints, is, t, h.0), omega (arith, ints, is, t, h.1, a.1))

  pub pairs_small : (pairs : Pairs) → ((x z : ℕ) → x < z → z < net.n → weight_of pairs x z ≡ line_weight net.lines x z)
      → (x z : ℕ) → x < z → z < net.n → (pos 0 ≤ℤ weight_of pairs x z) × (weight_of pairs x z ≤ℤ pos (2 ^ 43))
  pairs_small pairs weights x z l h =
      let w = weights x z l h in
      let i = line_in net.n net.lines below_n no_negative sizes_few x z in
      (omega (arith, ints, w, i.0), omega (arith, ints, w, i.1))

  pub degrees_small : (v : ℕ) → v < net.n → (pos 0 ≤ℤ get_or ds v (pos 0)) × (get_or ds v (pos 0) ≤ℤ pos (2 ^ 44))
  degrees_small v l =
      let e = t.each v l in
      let i = degree_in net.n net.lines below_n no_negative sizes_few v in
      (omega (arith, ints, e, i.0), omega (arith, ints, e, i.1))

  pub squares_small : (v : ℕ) → v < length ds → unsigned_abs (get_or ds v (pos 0)) ≤ 2 ^ 44
  squares_small v l = let s = t.size in let h = degrees_small v (omega (arith, l, s)) in omega (arith, ints, h.0, h.1)

  squares_are : total (λ u. get_or ds u (pos 0) *ℤ get_or ds u (pos 0)) (below (length ds)) ≡ total (λ u. degree net.lines u *ℤ degree net.lines u) (below net.n)
  squares_are =
      ap (λ k. total (λ u. get_or ds u (pos 0) *ℤ get_or ds u (pos 0)) (below k)) t.size ∙
      total_cong_on (λ u. get_or ds u (pos 0) *ℤ get_or ds u (pos 0)) (λ u. degree net.lines u *ℤ degree net.lines u) (λ u. u < net.n) (below net.n)
      (each_range (λ u. u < net.n) 0 net.n (λ u _ l. omega (arith, l))) (λ u l. λ i. t.each u l i *ℤ t.each u l i)

  pub weights_are : (pairs new : Pairs) → pairs.n ≡ net.n → ((x z : ℕ) → x < z → z < net.n → weight_of pairs x z ≡ line_weight net.lines x z)
      → ((x z : ℕ) → x < z → z < pairs.n → weight_of new x z ≡ pos 2 *ℤ all *ℤ weight_of pairs x z -ℤ get_or ds x (pos 0) *ℤ get_or ds z (pos 0))
      → (x z : ℕ) → x < z → z < net.n → weight_of new x z ≡ modular_weight net.lines x z
  weights_are pairs new size weights weighed x z l h =
      let w = weights x z l h in
      let p = t.each x (omega (arith, l, h)) in
      let q = t.each z h in
      weighed x z l (omega (arith, h, size)) ∙ (λ i. pos 2 *ℤ t.sum i *ℤ w i -ℤ p i *ℤ q i)

  pub base_is : (base loops squares : ℤ) → base ≡ pos 4 *ℤ all *ℤ loops -ℤ squares → loops ≡ total (λ l. only_if (l.u == l.v) l.weight) net.lines
      → squares ≡ total (λ u. get_or ds u (pos 0) *ℤ get_or ds u (pos 0)) (below (length ds)) → base ≡ modular_base net
  base_is base loops squares is loops_are squares_is =
      let l = loops_are ∙ loops_total net.n net.lines below_n in
      let s = squares_is ∙ squares_are in
      is ∙ (λ i. pos 4 *ℤ t.sum i *ℤ l i -ℤ s i) ∙ sym (base_split net)

module _ (net : Net) (pairs : Pairs) (base : ℤ) (scale : ℕ) (table : IsTable pairs) (size : pairs.n ≡ net.n)
    (weights : (x z : ℕ) → x < z → z < net.n → weight_of pairs x z ≡ modular_weight net.lines x z) (is : base ≡ modular_base net) where
  pub poses : pos scale ≡ pos 4 *ℤ all_weight net.lines *ℤ all_weight net.lines → PosesModularity net (modular_problem pairs base scale)
  poses scaled = record {
    objective = refl;
    table = table;
    vertices = size;
    weights = both_orders pairs net.n (modular_weight net.lines) (modular_turned net.lines) weights;
    base = is;
    factor = refl;
    scale = scaled;
  }

  pub posed : All (λ l. (l.u < net.n) × (l.v < net.n)) net.lines → first_negative net.lines ≡ None → all_weight net.lines ≤ℤ pos (2 ^ 43) → IsPosed (modular_problem pairs base scale)
  posed within none few =
      let ends = are_below net.n net.lines within in
      let least = none_below net.lines none in
      let all = all_is net.lines least in
      let small : all_sizes net.lines ≤ 2 ^ 43 = omega (arith, ints, all, few) in
      let same = same_sums (λ z. pos (unsigned_abs z)) pairs net.n (modular_weight net.lines) size weights in
      let most = modular_total net.n net.lines ends least small in
      record {
        table = table;
        total = omega (arith, ints, same, most);
        base = subst (λ (k : ℤ). unsigned_abs k ≤ 2 ^ 89) (sym (is ∙ base_split net)) (base_in net.n net.lines ends least small);
        factor = inr refl;
      }

pub scale_is : (sum : ℕ) → pos (4 * sum * sum) ≡ pos 4 *ℤ pos sum *ℤ pos sum
scale_is sum = sym (pos-*ℤ-pos (4 * sum) sum) ∙ ap (λ k. k *ℤ pos sum) (sym (pos-*ℤ-pos 4 sum))
