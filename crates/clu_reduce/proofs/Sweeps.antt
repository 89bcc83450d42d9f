-- A sweep that takes no step has looked at each pair in one state.
use Rattle.std.proofs.Common.{◌≡◌, ℕ, ◌<◌, ◌+◌, List, length, get_or, Bool, true, false, ◌||◌, Contains, refl, sym, ap, ◌∙◌, subst}
use Rattle.std.proofs.lemmas.Bool.{false≢true}
use Rattle.clu_state.specs.State.{State, IsState}
use Rattle.clu_reduce.specs.Reduction.{Reduces}
use Rattle.clu_reduce.specs.Sweep.{IsDue}
use Rattle.clu_reduce.specs.declared.step.Kind.{Kind}
use Rattle.clu_reduce.specs.declared.step.Kind.TheVariants.{Twin, Pair, Heavy, Light}
use Rattle.clu_reduce.specs.declared.step.Step.{Step}
use Rattle.clu_reduce.proofs.Turns.{due_of}
use Rattle.clu_reduce.proofs.Meets.{all_more}

no_or : (m k : Bool) → (m || k) ≡ false → (m ≡ false) × (k ≡ false)
no_or true k e = absurd (false≢true (sym e))
no_or false k e = (refl, e)

abbrev pub NoneWith : Kind → State → ℕ → Type 0
NoneWith kind s u = (v : ℕ) → Contains s.members v → IsDue s (record { kind = kind; u = u; v = v }) → ⊥

abbrev pub NoneOf : Kind → State → Type 0
NoneOf kind s = (u v : ℕ) → Contains s.members u → Contains s.members v → IsDue s (record { kind = kind; u = u; v = v }) → ⊥

-- one vertex more
pub kind_next : (old now : State) (kind : Kind) (i u : ℕ) (m k : Bool) → i < length old.members → u ≡ get_or old.members i u → (m ≡ false → now ≡ old) →
    (m ≡ false → (j d : ℕ) → j < i → NoneWith kind old (get_or old.members j d)) → (k ≡ false → NoneWith kind now u) → (m || k) ≡ false →
    (j d : ℕ) → j < i + 1 → NoneWith kind old (get_or old.members j d)
kind_next old now kind i u m k l e idle h g n =
    let f = no_or m k n in
    all_more (NoneWith kind old) old.members i u l e (h f.0) (subst (λ (s : State). NoneWith kind s u) (idle f.0) (g f.1))

-- the vertex at a place
pub same_place : (old now : State) (list ends : List ℕ) (i u : ℕ) → now.members ≡ old.members → list ≡ now.members → ends ≡ old.members →
    i < length ends → u ≡ get_or list i u → (i < length old.members) × (u ≡ get_or old.members i u)
same_place old now list ends i u m e f l g = (subst (λ xs. i < length xs) f l, g ∙ ap (λ xs. get_or xs i u) (e ∙ m))

-- ---- all kinds
by_kind : (s : State) → IsState s → ((kind : Kind) → NoneOf kind s) → (kind : Kind) (u v : ℕ) → Reduces s (record { kind = kind; u = u; v = v }) → ⊥
by_kind s i none kind u v r =
    let d = due_of s i kind u v r in
    none kind d.u d.v d.due.reduces.holds.free.first d.due.reduces.holds.free.second d.due

each_kind : (s : State) → NoneOf Twin s → NoneOf Pair s → NoneOf Heavy s → NoneOf Light s → (kind : Kind) → NoneOf kind s
each_kind s t p h l Twin = t
each_kind s t p h l Pair = p
each_kind s t p h l Heavy = h
each_kind s t p h l Light = l

pub none_left : (a b c d : State) → IsState a → (t p h l : Bool) → (t ≡ false → b ≡ a) → (p ≡ false → c ≡ b) → (h ≡ false → d ≡ c) →
    (t ≡ false → NoneOf Twin a) → (p ≡ false → NoneOf Pair b) → (h ≡ false → NoneOf Heavy c) → (l ≡ false → NoneOf Light d) →
    (((t || p) || h) || l) ≡ false → (step : Step) → Reduces a step → ⊥
none_left a b c d i t p h l ba cb dc nt np nh nl e step r =
    let f = no_or ((t || p) || h) l e in
    let g = no_or (t || p) h f.0 in
    let k = no_or t p g.0 in
    let ca : c ≡ a = cb k.1 ∙ ba k.0 in
    by_kind a i
    (each_kind a (nt k.0) (subst (NoneOf Pair) (ba k.0) (np k.1)) (subst (NoneOf Heavy) ca (nh g.1)) (subst (NoneOf Light) (dc g.1 ∙ ca) (nl f.1)))
    step.kind step.u step.v r
