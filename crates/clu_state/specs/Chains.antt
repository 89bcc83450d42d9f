-- Two vertices tied by a chain of required pairs and of pairs that a decision put together.
use Rattle.std.specs.Prelude.{ℕ, ◌<◌, ◌≤◌, length, slice_index, Contains}
use Rattle.clu_state.specs.State.{State}
use Rattle.clu_state.specs.declared.decision.Decision.TheVariants.{Together}

pub data Chained (s : State) : ℕ → ℕ → Type 0 where
  same : {v : ℕ} → Chained s v v
  required : {v : ℕ} → v < length s.start.group → Chained s (slice_index s.start.group v) v
  joined : {u v : ℕ} → Contains s.decisions (Together u v) → Chained s u v
  back : {u v : ℕ} → Chained s u v → Chained s v u
  chain : {u v w : ℕ} → Chained s u v → Chained s v w → Chained s u w

-- a is the least vertex to which a chain leads from v
pub record IsLeastChained (s : State) (v a : ℕ) : Type 0 where
  pub tied : Chained s a v
  pub least : (u : ℕ) → u < length s.start.group → Chained s u v → a ≤ u
