-- The walk over the triples.
use Rattle.std.proofs.Common.{⊎_elim, ℕ, ◌<◌, ◌+◌, List, length, sym, subst, arith}
use Rattle.std.proofs.lemmas.Bool.{cases_eq}
use Rattle.clu_rows.specs.Rows.{TwoSet}
use Rattle.clu_partition.specs.Pairs.{Pairs}
use Rattle.clu_state.specs.State.{State}
use Rattle.clu_rows.specs.Table.{IsLeftTable, NearerZero, AllStuck}
use Rattle.clu_rows.proofs.Steps.{settled_stays}

-- one more of a loop's triples
pub more_third : (s : State) (groups : List ℕ) (old new : Pairs) (r0 r1 : List TwoSet) (i j k : ℕ) → IsLeftTable s groups old r0 → IsLeftTable s groups new r1 → NearerZero old new → i < j → j < k → k < length groups →
    ((z : ℕ) → j < z → z < k → AllStuck s groups old i j z) → AllStuck s groups new i j k → (z : ℕ) → j < z → z < k + 1 → AllStuck s groups new i j z
more_third s groups old new r0 r1 i j k p q n ij jk kl h here z jz zk = ⊎_elim
    (λ e. subst (AllStuck s groups new i j) (sym e) here)
    (λ d. let e = p.size in settled_stays s groups old new i j z n (omega (arith, e)) (omega (arith, e)) (omega (arith, e, d)) (h z jz (omega (arith, d))))
    (cases_eq z k)

pub more_second : (s : State) (groups : List ℕ) (old new : Pairs) (r0 r1 : List TwoSet) (i j : ℕ) → IsLeftTable s groups old r0 → IsLeftTable s groups new r1 → NearerZero old new → i < j → j < length groups →
    ((y z : ℕ) → i < y → y < j → y < z → z < length groups → AllStuck s groups old i y z) → ((z : ℕ) → j < z → z < length groups → AllStuck s groups new i j z) →
    (y z : ℕ) → i < y → y < j + 1 → y < z → z < length groups → AllStuck s groups new i y z
more_second s groups old new r0 r1 i j p q n ij jl h here y z iy yj yz zl = ⊎_elim
    (λ e. subst (λ y. AllStuck s groups new i y z) (sym e) (here z (omega (arith, e)) zl))
    (λ d. let e = p.size in settled_stays s groups old new i y z n (omega (arith, e)) (omega (arith, e)) (omega (arith, e)) (h y z iy (omega (arith, d)) yz zl))
    (cases_eq y j)

pub more_first : (s : State) (groups : List ℕ) (old new : Pairs) (r0 r1 : List TwoSet) (i : ℕ) → IsLeftTable s groups old r0 → IsLeftTable s groups new r1 → NearerZero old new → i < length groups →
    ((x y z : ℕ) → x < i → x < y → y < z → z < length groups → AllStuck s groups old x y z) → ((y z : ℕ) → i < y → y < z → z < length groups → AllStuck s groups new i y z) →
    (x y z : ℕ) → x < i + 1 → x < y → y < z → z < length groups → AllStuck s groups new x y z
more_first s groups old new r0 r1 i p q n il h here x y z xi xy yz zl = ⊎_elim
    (λ e. subst (λ x. AllStuck s groups new x y z) (sym e) (here y z (omega (arith, e)) yz zl))
    (λ d. let e = p.size in settled_stays s groups old new x y z n (omega (arith, e)) (omega (arith, e)) (omega (arith, e)) (h x y z (omega (arith, d)) xy yz zl))
    (cases_eq x i)
