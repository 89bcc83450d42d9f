-- Keys whose pairs are in a set.
use Rattle.std.specs.Prelude.{◌≡◌, ℕ, Bool, true, false, List}
use Rattle.std.specs.Borrow.{Bor}
use Rattle.std.specs.Str.{bytes_eq}
use Rattle.indexmap.specs.IndexSet.{IndexSet, contains_by}
use Rattle.clu_partition.specs.PairSets.{Chosen, has}
use Rattle.clu_rules.specs.Lines.{Rule}
use Rattle.clu_rules.specs.Puts.{OfKey}
use Rattle.clu_rules.specs.declared.pairs.Done.{Done}

-- whether the key is done
abbrev pub is_done : {S : Type 0} → IndexSet (Bor (List ℕ)) S → List ℕ → Bool
is_done keys key = contains_by (λ k. bytes_eq key k.now) keys

-- the set has the pairs of each key that is done
pub record HoldPairs {S : Type 0} (R : List ℕ → ℕ → ℕ → Type 0) (keys : IndexSet (Bor (List ℕ)) S) (set : Chosen) : Type 0 where
  pub holds : (key : List ℕ) (u v : ℕ) → is_done keys key ≡ true → R key u v → has set u v ≡ true

-- the sets of required and of forbidden pairs have those of the keys that are done
pub record AreDone (rules : List Rule) (done : Done) (required forbidden : Chosen) : Type 0 where
  pub shared : HoldPairs (OfKey true rules) done.shared required
  pub differing : HoldPairs (OfKey true rules) done.differing forbidden
  pub alike : HoldPairs (OfKey false rules) done.alike forbidden
