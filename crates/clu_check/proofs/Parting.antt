-- The parts taken so far.
use Rattle.std.proofs.Common.{◌≡◌, ℕ, zero, suc, ◌+◌, ◌<◌, ◌≤◌, List, [], ◌∷◌, ◌++◌, length, take, drop, map, get_or, All, Contains, refl, sym, ◌∙◌, ap, subst, arith, append_assoc, append-nil, replicate, Option, ◌⊎◌}
use Rattle.std.specs.Option.{IfSome, IfNone}
use Rattle.std.proofs.lemmas.List.{take_more, map-append, length-map, get_or-replicate, length-replicate, length-take-le}
use Rattle.std.proofs.lemmas.List.Elements.{All-nil, All-from_get_or, All-contains}
use Rattle.std.proofs.Math.Seq.{take-length}
use Rattle.clu_partition.specs.Partition.{below}
use Rattle.clu_partition.proofs.Ranges.{below_size, below_at}
use Rattle.clu_partition.specs.Closed.{Closed, IsClosed}
use Rattle.clu_partition.specs.Pairs.{Pairs}
use Rattle.clu_objective.specs.Problem.{Posed}
use Rattle.clu_state.specs.State.{State, AreMembers, undecided}
use Rattle.clu_state.proofs.Whole.{all_members}
use Rattle.clu_cert.specs.Valid.{AllParts, IsPart, IsOutside, Cover, whole_state}
use Rattle.clu_cert.specs.declared.certificate.Proof.{Proof}
use Rattle.clu_check.specs.Parts.{AreOwned}
use Rattle.clu_check.proofs.Membership.{below_member}
use Rattle.clu_check.proofs.TakePart.{part_of}
use Rattle.clu_check.specs.Rejected.{IsFirstBadPart, MissesVertex}

abbrev pub parts : List Proof → List (List ℕ)
parts proofs = map (λ proof. proof.part) proofs

-- the first i proofs have parts, and the table says whose each vertex is
pub record AreTaken (s : State) (proofs : List Proof) (i : ℕ) (old owner : List ℕ) : Type 0 where
  pub size : length owner ≡ length old
  pub right : AllParts s [] (parts (take i proofs))
  pub owned : AreOwned (parts (take i proofs)) owner

none_taken : (proofs : List Proof) → [] ≡ parts (take 0 proofs)
none_taken [] = refl
none_taken (p ∷ proofs) = refl

pub taken_none : (s : State) (proofs : List Proof) (owner : List ℕ) → AreOwned [] owner → AreTaken s proofs 0 owner owner
taken_none s proofs owner h = record {
  size = refl;
  right = subst (AllParts s []) (none_taken proofs) tt;
  owned = subst (λ (ps : List (List ℕ)). AreOwned ps owner) (none_taken proofs) h;
}

-- ---- one part more
parts_push : (s : State) (earlier ps : List (List ℕ)) (p : List ℕ) → AllParts s earlier ps → IsPart s (earlier ++ ps) p →
    AllParts s earlier (ps ++ p ∷ [])
parts_push s earlier [] p all is = (subst (λ (e : List (List ℕ)). IsPart s e p) (append-nil earlier) is, tt)
parts_push s earlier (q ∷ ps) p all is = (
  all.0,
  parts_push s (earlier ++ q ∷ []) ps p all.1
      (subst (λ (e : List (List ℕ)). IsPart s e p) (sym (append_assoc earlier (q ∷ []) ps)) is),
)

pub parts_more : (proofs : List Proof) (i : ℕ) (p : Proof) → i < length proofs → get_or proofs i p ≡ p →
    parts (take (i + 1) proofs) ≡ parts (take i proofs) ++ p.part ∷ []
parts_more proofs i p l e =
    ap parts (take_more proofs i p l) ∙ map-append (λ (q : Proof). q.part) (take i proofs) (get_or proofs i p ∷ []) ∙ ap
    (λ (q : Proof). parts (take i proofs) ++ q.part ∷ []) e

pub count : (proofs : List Proof) (i : ℕ) → i ≤ length proofs → length (parts (take i proofs)) ≡ i
count proofs i l = length-map (take i proofs) (λ (q : Proof). q.part) ∙ length-take-le i proofs l

pub next_number : (proofs : List Proof) (i : ℕ) → i < length proofs → i + 1 ≡ length (parts (take i proofs)) + 1
next_number proofs i l = let h = count proofs i (omega arith) in omega (arith, h)

pub taken_more : (s : State) (proofs : List Proof) (i : ℕ) (p : Proof) (old owner new : List ℕ) → i < length proofs → get_or proofs i p ≡ p →
    AreTaken s proofs i old owner
    → IsPart s (parts (take i proofs)) p.part → AreOwned (parts (take i proofs) ++ p.part ∷ []) new → length new ≡ length owner →
    AreTaken s proofs (i + 1) old new
taken_more s proofs i p old owner new l e was is owned size =
    let more = parts_more proofs i p l e in
    record {
      size = size ∙ was.size;
      right = subst (AllParts s []) (sym more) (parts_push s [] (parts (take i proofs)) p.part was.right is);
      owned = subst (λ (ps : List (List ℕ)). AreOwned ps new) (sym more) owned;
    }

pub cut_at : (proofs : List Proof) (i : ℕ) (p : Proof) → i < length proofs → get_or proofs i p ≡ p → proofs ≡ take i proofs ++ p ∷ drop (i + 1) proofs
cut_at [] i p l e = absurd (omega arith)
cut_at (q ∷ proofs) zero p l e = ap (λ (r : Proof). r ∷ proofs) e
cut_at (q ∷ proofs) (suc i) p l e =
    let more : suc i + 1 ≡ suc (i + 1) = omega arith in
    rw more (ap (λ (r : List Proof). q ∷ r) (cut_at proofs i p (omega arith) e))

pub first_bad : (s : State) (proofs : List Proof) (i : ℕ) (p : Proof) (old owner : List ℕ) → i < length proofs → get_or proofs i p ≡ p →
    AreTaken s proofs i old owner
    → (IsPart s (parts (take i proofs)) p.part → ⊥) → IsFirstBadPart s (parts proofs) (i + 1)
first_bad s proofs i p old owner l e was bad = record {
  before = parts (take i proofs);
  part = p.part;
  after = parts (drop (i + 1) proofs);
  parts_are = ap parts (cut_at proofs i p l e) ∙ map-append (λ (q : Proof). q.part) (take i proofs) (p ∷ drop (i + 1) proofs);
  counted = let h = count proofs i (omega arith) in omega (arith, h);
  right = was.right;
  bad = bad;
}

-- ---- all parts
pub taken_all : (s : State) (proofs : List Proof) (i : ℕ) (old owner : List ℕ) → i ≡ length proofs → AreTaken s proofs i old owner →
    AllParts s [] (parts proofs) × AreOwned (parts proofs) owner
taken_all s proofs i old owner e was =
    let all : take i proofs ≡ proofs = ap (λ (k : ℕ). take k proofs) e ∙ take-length proofs in
    (subst (λ (ps : List Proof). AllParts s [] (parts ps)) all was.right, subst (λ (ps : List Proof). AreOwned (parts ps) owner) all was.owned)

pub none_owned : (n : ℕ) → AreOwned [] (replicate n 0)
none_owned n =
    let size : length {A = ℕ} (replicate n 0) ≡ n = length-replicate n 0 in
    record {
      without = λ v l e. All-nil (λ part. IsOutside part v);
      given = λ v l d. absurd (d (get_or-replicate {A = ℕ} n v 0 0 (omega (arith, size, l))));
      numbers = λ v l. let e = get_or-replicate {A = ℕ} n v 0 0 (omega (arith, size, l)) in omega (arith, e);
    }

module _ (s : State) (ps : List (List ℕ)) (owner : List ℕ) (members : s.members ≡ below (length owner)) (owned : AreOwned ps owner) where
  pub covered : (Contains owner 0 → ⊥) → Cover s ps
  covered none = subst (All (λ v. (part : List ℕ) × Contains ps part × Contains part v)) (sym members)
      (All-from_get_or (λ v. (part : List ℕ) × Contains ps part × Contains part v) (below (length owner)) 0 (λ i l.
      let size = below_size (length owner) in
      let at : i < length owner = omega (arith, l, size) in
      subst (λ (v : ℕ). (part : List ℕ) × Contains ps part × Contains part v) (sym (below_at (length owner) i 0 at))
      (part_of ps owner owned i at (λ e. none (i, at, e)))))

  pub uncovered : Contains owner 0 → AllParts s [] ps → MissesVertex s ps (length ps + 1)
  uncovered c right = record {
    right = right;
    missing = λ cover.
        let h = All-contains (λ v. (part : List ℕ) × Contains ps part × Contains part v) s.members c.0 cover
        (below_member s.members (length owner) c.0 members c.1) in
        All-contains (λ part. IsOutside part c.0) ps h.0 (owned.without c.0 c.1 c.2) h.1 h.2;
    counted = refl;
  }

-- ---- all vertices
pub members_all : (start : Closed) (n : ℕ) (slice list : List ℕ) → IsClosed start → n ≡ length start.group → slice ≡ list → list ≡ below n →
    AreMembers start slice
members_all start n slice list closed size is are = subst (AreMembers start) (sym (is ∙ are ∙ ap below size)) (all_members start closed)

pub state_is : (problem : Posed) (pairs : Pairs) (start : Closed) (n : ℕ) (slice list : List ℕ) (state : State) → pairs ≡ problem.pairs →
    n ≡ length start.group → length start.group ≡ problem.pairs.n
    → slice ≡ list → list ≡ below n → state ≡ undecided pairs start slice → state ≡ whole_state problem start
state_is problem pairs start n slice list state are size sizes is all it =
    it ∙ ap (undecided pairs start) (is ∙ all ∙ ap below (size ∙ sizes)) ∙ ap (λ (t : Pairs). undecided t start (below problem.pairs.n)) are

pub members_still : (members : List ℕ) (old new : List ℕ) → members ≡ below (length old) → length new ≡ length old → members ≡ below (length new)
members_still members old new are size = are ∙ ap below (sym size)

pub one_left : (s : State) (proofs : List Proof) (owner : List ℕ) → s.members ≡ below (length owner) → AllParts s [] (parts proofs) →
    AreOwned (parts proofs) owner → Contains owner 0
    → MissesVertex s (parts proofs) (length proofs + 1)
one_left s proofs owner members right owned some =
    subst (λ (k : ℕ). MissesVertex s (parts proofs) (k + 1)) (length-map proofs (λ (q : Proof). q.part))
    (uncovered s (parts proofs) owner members owned some right)

pub right_there : (s t : State) (proofs : List Proof) (o : Option ℕ) → s ≡ t → IfNone o (AllParts s [] (parts proofs) × Cover s (parts proofs)) →
    IfNone o (AllParts t [] (parts proofs) × Cover t (parts proofs))
right_there s t proofs o same h = subst (λ (u : State). IfNone o (AllParts u [] (parts proofs) × Cover u (parts proofs))) same h

pub fault_there : (s t : State) (proofs : List Proof) (o : Option ℕ) → s ≡ t →
    IfSome o (λ number. IsFirstBadPart s (parts proofs) number ⊎ MissesVertex s (parts proofs) number)
    → IfSome o (λ number. IsFirstBadPart t (parts proofs) number ⊎ MissesVertex t (parts proofs) number)
fault_there s t proofs o same h = subst (λ (u : State). IfSome o
    (λ number. IsFirstBadPart u (parts proofs) number ⊎ MissesVertex u (parts proofs) number)) same h
