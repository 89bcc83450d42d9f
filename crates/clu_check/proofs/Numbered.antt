-- What is left of a numbering.
use Rattle.std.proofs.Common.{◌≡◌, ℕ, zero, suc, ◌+◌, ◌<◌, ◌≤◌, List, [], ◌∷◌, length, drop, max, get_or, arith}
use Rattle.clu_partition.specs.Partition.{IsNumberedFrom}

-- the first i labels are numbered where the others are, begun at the next label
pub record IsReduced (labels : List ℕ) (i next : ℕ) : Type 0 where
  pub low : next ≤ i
  pub onward : IsNumberedFrom 0 labels → IsNumberedFrom next (drop i labels)
  pub back : IsNumberedFrom next (drop i labels) → IsNumberedFrom 0 labels

pub none : (labels : List ℕ) → IsReduced labels 0 0
none labels = record { low = omega arith; onward = λ h. h; back = λ h. h }

pub ahead : (labels : List ℕ) (i next d : ℕ) → i < length labels → IsNumberedFrom next (drop i labels)
    → (get_or labels i d ≤ next) × IsNumberedFrom (max next (get_or labels i d + 1)) (drop (i + 1) labels)
ahead [] i next d l h = absurd (omega arith)
ahead (x ∷ xs) zero next d l h = h
ahead (x ∷ xs) (suc i) next d l h = let more : suc i + 1 ≡ suc (i + 1) = omega arith in rw more (ahead xs i next d (omega arith) h)

behind : (labels : List ℕ) (i next d : ℕ) → i < length labels → get_or labels i d ≤ next
    → IsNumberedFrom (max next (get_or labels i d + 1)) (drop (i + 1) labels) → IsNumberedFrom next (drop i labels)
behind [] i next d l low h = absurd (omega arith)
behind (x ∷ xs) zero next d l low h = (low, h)
behind (x ∷ xs) (suc i) next d l low h = let more : suc i + 1 ≡ suc (i + 1) = omega arith in behind xs i next d (omega arith) low (rw more at h)

pub one_more : (labels : List ℕ) (i next d : ℕ) → i < length labels → IsReduced labels i next → get_or labels i d ≤ next
    → IsReduced labels (i + 1) (max next (get_or labels i d + 1))
one_more labels i next d l old low = record {
  low = let h = old.low in omega (arith, h, low);
  onward = λ h. (ahead labels i next d l (old.onward h)).1;
  back = λ h. old.back (behind labels i next d l low h);
}

drop_all : (xs : List ℕ) (next : ℕ) → IsNumberedFrom next (drop (length xs) xs)
drop_all [] next = tt
drop_all (x ∷ xs) next = drop_all xs next

pub all : (labels : List ℕ) (next : ℕ) → IsReduced labels (length labels) next → IsNumberedFrom 0 labels
all labels next old = old.back (drop_all labels next)

-- a label past the next one ends the numbering
pub none_past : (labels : List ℕ) (i next d : ℕ) → i < length labels → IsReduced labels i next → next < get_or labels i d →
    IsNumberedFrom 0 labels → ⊥
none_past labels i next d l old high h = let k = (ahead labels i next d l (old.onward h)).0 in omega (arith, k, high)
