-- Laws of keys whose pairs are in a set.
use Rattle.std.proofs.Common.{◌≡◌, ℕ, List, Bool, true, false, cond, refl, sym, ◌∙◌, subst}
use Rattle.std.specs.Borrow.{Bor}
use Rattle.std.specs.Str.{bytes_eq}
use Rattle.std.specs.Cmp.Lexicographic.{bytes_decides}
use Rattle.indexmap.specs.IndexSet.{IndexSet, Updates}
use Rattle.clu_partition.specs.PairSets.{Chosen, has}
use Rattle.clu_rules.specs.Puts.{Puts}
use Rattle.clu_rules.specs.Done.{is_done, HoldPairs}

module _ {S : Type 0} (R : List ℕ → ℕ → ℕ → Type 0) where
  -- a set that has grown holds what it held
  pub holds_on : (T : ℕ → ℕ → Type 0) (keys : IndexSet (Bor (List ℕ)) S) (old new : Chosen) → Puts T old new → HoldPairs R keys old → HoldPairs R keys new
  holds_on T keys old new p m = record { holds = λ key u v d r. p.keeps u v (m.holds key u v d r) }

  -- one key more is done, and its pairs are put
  pub holds_more : (key : Bor (List ℕ)) (keys now : IndexSet (Bor (List ℕ)) S) (old new : Chosen) → Updates (λ x y. bytes_eq x.now y.now) keys now key true
      → Puts (R key.now) old new → HoldPairs R keys old → HoldPairs R now new
  holds_more key keys now old new h p m = record {
    holds = λ q u v d r. by q u v r (bytes_eq key.now q) refl (sym (h.0 (record key { now = q })) ∙ d);
  }
    where
      by : (q : List ℕ) (u v : ℕ) → R q u v → (b : Bool) → bytes_eq key.now q ≡ b → cond b true (is_done keys q) ≡ true → has new u v ≡ true
      by q u v r true e d = p.each u v (subst (λ k. R k u v) (sym ((bytes_decides key.now q).0 e)) r)
      by q u v r false e d = p.keeps u v (m.holds q u v d r)
