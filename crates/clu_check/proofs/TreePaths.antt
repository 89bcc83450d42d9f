-- A choice more at the end of a way, and a choice less.
use Rattle.std.proofs.Common.{◌≡◌, ℕ, List, [], ◌∷◌, ◌++◌, refl, sym, ap, ◌∙◌, subst}
use Rattle.clu_state.specs.State.{State, CanDecide, decided}
use Rattle.clu_state.specs.declared.decision.Decision.{Decision}
use Rattle.clu_state.specs.declared.decision.Decision.TheVariants.{Together, Apart}
use Rattle.clu_check.specs.declared.tree.Choice.{Choice}
use Rattle.clu_check.specs.declared.tree.Choice.TheVariants.{First, Last}
use Rattle.clu_check.specs.Tree.{choice_decision, after, CanGo, waiting}

pub after_more : (s : State) (path : List Choice) (c : Choice) → after s (path ++ c ∷ []) ≡ decided (after s path) (choice_decision c)
after_more s [] c = refl
after_more s (d ∷ path) c = after_more (decided s (choice_decision d)) path c

pub after_pairs : (s : State) (path : List Choice) → (after s path).pairs ≡ s.pairs
after_pairs s [] = refl
after_pairs s (c ∷ path) = after_pairs (decided s (choice_decision c)) path

pub go_more : (s : State) (path : List Choice) (c : Choice) → CanGo s path → CanDecide (after s path) (choice_decision c) → CanGo s (path ++ c ∷ [])
go_more s [] c g can = (can, tt)
go_more s (d ∷ path) c g can = (g.0, go_more (decided s (choice_decision d)) path c g.1 can)

pub go_less : (s : State) (path : List Choice) (c : Choice) → CanGo s (path ++ c ∷ []) → CanGo s path × CanDecide (after s path) (choice_decision c)
go_less s [] c g = (tt, g.0)
go_less s (d ∷ path) c g = let h = go_less (decided s (choice_decision d)) path c g.1 in ((g.0, h.0), h.1)

pub waits_first : (s : State) (others : List State) (path : List Choice) (u v : ℕ) →
    waiting s others (path ++ First u v ∷ []) ≡ decided (after s path) (Apart u v) ∷ waiting s others path
waits_first s others [] u v = refl
waits_first s others (First x z ∷ path) u v = waits_first (decided s (Together x z)) (decided s (Apart x z) ∷ others) path u v
waits_first s others (Last d ∷ path) u v = waits_first (decided s d) others path u v

pub waits_last : (s : State) (others : List State) (path : List Choice) (d : Decision) →
    waiting s others (path ++ Last d ∷ []) ≡ waiting s others path
waits_last s others [] d = refl
waits_last s others (First x z ∷ path) d = waits_last (decided s (Together x z)) (decided s (Apart x z) ∷ others) path d
waits_last s others (Last e ∷ path) d = waits_last (decided s e) others path d

-- ---- back to a first choice and on to its other subtree
pub turned : (s : State) (old left new : List Choice) (u v : ℕ) → old ≡ left ++ First u v ∷ [] → new ≡ left ++ Last (Apart u v) ∷ [] →
    waiting s [] old ≡ after s new ∷ waiting s [] new
turned s old left new u v e f =
    ap (waiting s []) e ∙ waits_first s [] left u v
    ∙ ap (λ x. x ∷ waiting s [] left) (sym (ap (after s) f ∙ after_more s left (Last (Apart u v))))
    ∙ ap (λ xs. after s new ∷ xs) (sym (ap (waiting s []) f ∙ waits_last s [] left (Apart u v)))

pub goes_on : (s : State) (old left new : List Choice) (u v : ℕ) → old ≡ left ++ First u v ∷ [] → new ≡ left ++ Last (Apart u v) ∷ [] →
    CanGo s old → CanGo s new
goes_on s old left new u v e f g =
    let h = go_less s left (First u v) (subst (CanGo s) e g) in
    subst (CanGo s) (sym f) (go_more s left (Last (Apart u v)) h.0 h.1)

pub waits_back : (s : State) (old left : List Choice) (d : Decision) → old ≡ left ++ Last d ∷ [] → waiting s [] old ≡ waiting s [] left
waits_back s old left d e = ap (waiting s []) e ∙ waits_last s [] left d

pub goes_back : (s : State) (old left : List Choice) (c : Choice) → old ≡ left ++ c ∷ [] → CanGo s old → CanGo s left
goes_back s old left c e g = (go_less s left c (subst (CanGo s) e g)).0
