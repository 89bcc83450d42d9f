-- The numbers of a range: they rise, and each number between its ends is among them.
use Rattle.std.proofs.Common.{inl, inr, ⊎_elim, ℕ, zero, suc, ◌+◌, ◌<◌, ◌≤◌, arith}
use Rattle.std.specs.List.{range_with_len}
use Rattle.std.proofs.lemmas.Bool.{cases_eq}
use Rattle.clu_partition.proofs.SumLaws.{Each, Among, Rising}

pub each_range : (P : ℕ → Type 0) (a n : ℕ) → ((x : ℕ) → a ≤ x → x < a + n → P x) → Each P (range_with_len a n)
each_range P a zero f = tt
each_range P a (suc n) f = (f a (omega arith) (omega arith), each_range P (a + 1) n (λ x l m. f x (omega arith) (omega arith)))

pub rising_range : (a n : ℕ) → Rising (range_with_len a n)
rising_range a zero = tt
rising_range a (suc n) = (each_range (λ y. a < y) (a + 1) n (λ x l m. omega arith), rising_range (a + 1) n)

pub among_range : (a n c : ℕ) → a ≤ c → c < a + n → Among c (range_with_len a n)
among_range a zero c l m = absurd (omega arith)
among_range a (suc n) c l m = ⊎_elim (λ e. inl e) (λ d. inr (among_range (a + 1) n c (omega arith) (omega arith))) (cases_eq c a)
