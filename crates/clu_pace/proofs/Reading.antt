-- The edges read so far, and the lines that are left.
use Rattle.std.proofs.Common.{ℕ, List, [], ◌++◌, subst}
use Rattle.std.proofs.lemmas.List.{append-nil}
use Rattle.clu_pace.specs.Pace.{AreEdges, unnumbered}
use Rattle.clu_pace.specs.Refusals.{FailsEdges}
use Rattle.clu_pace.specs.declared.error.PaceError.{PaceError}

-- of the lines, those before `left` are the edges `done`
pub record Reading (n m : ℕ) (lines left : List (ℕ × List (List ℕ))) (done : List (ℕ × ℕ)) : Type 0 where
  pub back : (tail : List (ℕ × ℕ)) → AreEdges n (unnumbered left) tail → AreEdges n (unnumbered lines) (done ++ tail)
  pub fails : (error : PaceError) → FailsEdges n m done left error → FailsEdges n m [] lines error

pub are_all : (n m : ℕ) (lines : List (ℕ × List (List ℕ))) (done : List (ℕ × ℕ)) → Reading n m lines [] done → AreEdges n (unnumbered lines) done
are_all n m lines done all = subst (λ (edges : List (ℕ × ℕ)). AreEdges n (unnumbered lines) edges) (append-nil done) (all.back [] tt)
