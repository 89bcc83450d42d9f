-- The triples that need no visit.
use Rattle.std.proofs.Common.{◌≡◌, ◌⊎◌, ◌↔◌, inl, inr, ⊎_elim, ℕ, ◌<◌, ◌≤◌, ◌+◌, ℤ, pos, negsuc, ◌≤ℤ◌, ◌<ℤ◌, List, length, get_or, sym, ap, ◌∙◌, subst, arith, All, zero, suc, slice_index, Bool, true, false, not}
use Rattle.std.proofs.lemmas.Int.{ints}
use Rattle.std.proofs.lemmas.Bool.{cases_eq}
use Rattle.std.proofs.lemmas.Grind.{get_or_default_zero}
use Rattle.clu_rows.specs.Rows.{TwoSet}
use Rattle.clu_partition.specs.Pairs.{Pairs, weight_of}
use Rattle.clu_partition.proofs.TableLaws.{weight_sym}
use Rattle.clu_state.specs.State.{State, are_apart}
use Rattle.clu_partition.specs.Sums.{only_if}
use Rattle.clu_rows.specs.Table.{IsLeftTable, NearerZero, AllStuck, Allied, AreNear}
use Rattle.clu_rows.proofs.Steps.{settled_second, settled_third, settled_stays}

-- with fewer than two pairs above 0 no centre can be applied
pub settled_idle : (s : State) (groups : List ℕ) (left : Pairs) (i j k : ℕ) → weight_of left i j ≤ℤ pos 0 → weight_of left i k ≤ℤ pos 0 → AllStuck s groups left i j k
settled_idle s groups left i j k p q = record {
  at_first = λ a b c. omega (arith, ints, a, p);
  at_second = λ a b c. let e = weight_sym left j i in omega (arith, ints, a, p, e);
  at_third = λ a b c. let e = weight_sym left k i in omega (arith, ints, a, q, e);
}

pub settled_idle_second : (s : State) (groups : List ℕ) (left : Pairs) (i j k : ℕ) → weight_of left i j ≤ℤ pos 0 → weight_of left j k ≤ℤ pos 0 → AllStuck s groups left i j k
settled_idle_second s groups left i j k p q = settled_second s groups left i j k (settled_idle s groups left j i k (let e = weight_sym left j i in omega (arith, ints, e, p)) q)

pub settled_idle_third : (s : State) (groups : List ℕ) (left : Pairs) (i j k : ℕ) → weight_of left i k ≤ℤ pos 0 → weight_of left j k ≤ℤ pos 0 → AllStuck s groups left i j k
settled_idle_third s groups left i j k p q = settled_third s groups left i j k (settled_idle s groups left k i j (let e = weight_sym left k i in omega (arith, ints, e, p)) (let e = weight_sym left k j in omega (arith, ints, e, q)))

above_or_not : (z : ℤ) → (pos 0 <ℤ z) ⊎ (z ≤ℤ pos 0)
above_or_not (pos zero) = inr (omega (arith, ints))
above_or_not (pos (suc n)) = inl (omega (arith, ints))
above_or_not (negsuc n) = inr (omega (arith, ints))

not_above : (old new : ℤ) → (pos 0 <ℤ new → pos 0 <ℤ old) → old ≤ℤ pos 0 → new ≤ℤ pos 0
not_above old new f h = ⊎_elim (λ a. absurd (let b = f a in omega (arith, ints, b, h))) (λ a. a) (above_or_not new)

pub idle_stays : (s : State) (groups : List ℕ) (old new : Pairs) (rows : List TwoSet) (i j : ℕ) → IsLeftTable s groups old rows → i < j → j < length groups → NearerZero old new → weight_of old i j ≤ℤ pos 0 → weight_of new i j ≤ℤ pos 0
idle_stays s groups old new rows i j p ij jl f idle = let size = p.size in not_above (weight_of old i j) (weight_of new i j) (f i j (omega (arith, size)) (omega (arith, size))).0 idle

-- ---- the thirds near j
pub near_settled : (s : State) (groups near : List ℕ) (old new : Pairs) (rows : List TwoSet) (i j n : ℕ) → IsLeftTable s groups old rows → i < j → j < length groups → length near ≤ n → weight_of new i j ≤ℤ pos 0 → AreNear old (length groups) j near → NearerZero old new →
    ((m : ℕ) → m < n → AllStuck s groups new i j (get_or near m 0)) → (z : ℕ) → j < z → z < length groups → AllStuck s groups new i j z
near_settled s groups near old new rows i j n p ij jl e idle a f done z jz zl =
    let size = p.size in
    ⊎_elim
    (λ h.
    let m = a.all z jz zl ((f j z (omega (arith, size)) (omega (arith, size))).0 h) in
    let l : m.0 < length near = m.1 in
    subst (AllStuck s groups new i j) (sym (get_or_default_zero near m.0 z m.1) ∙ m.2) (done m.0 (omega (arith, l, e))))
    (λ h. settled_idle_second s groups new i j z idle h)
    (above_or_not (weight_of new j z))

pub near_more : (s : State) (groups near : List ℕ) (old new : Pairs) (r0 r1 : List TwoSet) (i j n k : ℕ) → IsLeftTable s groups old r0 → IsLeftTable s groups new r1 → NearerZero old new → i < j → j < length groups → All (λ z. (j < z) × (z < length groups)) near → n < length near → get_or near n 0 ≡ k →
    ((m : ℕ) → m < n → AllStuck s groups old i j (get_or near m 0)) → AllStuck s groups new i j k → (m : ℕ) → m < n + 1 → AllStuck s groups new i j (get_or near m 0)
near_more s groups near old new r0 r1 i j n k p q f ij jl w nl at' done here m ml =
    let size = p.size in
    ⊎_elim
    (λ e. subst (AllStuck s groups new i j) (sym (ap (λ t. get_or near t 0) e ∙ at')) here)
    (λ d. let b = (w m 0 (omega (arith, ml, nl))).1 in settled_stays s groups old new i j (get_or near m 0) f (omega (arith, size)) (omega (arith, size)) (omega (arith, size, b)) (done m (omega (arith, ml, d))))
    (cases_eq m n)

-- with three pairs above 0 no centre can be applied
opposed_not : (apart : Bool) (w l : ℤ) → w ≡ only_if (not apart) l → pos 0 <ℤ w → (apart ≡ true) ⊎ (w <ℤ pos 0) → ⊥
opposed_not true w l e p h = omega (arith, ints, e, p)
opposed_not false w l e p h = ⊎_elim no (λ q. omega (arith, ints, q, p)) h
  where
    no : false ≡ true → ⊥
    no e = cc

pub settled_full : (s : State) (groups : List ℕ) (left : Pairs) (rows : List TwoSet) (i j k : ℕ) → IsLeftTable s groups left rows → i < j → j < k → k < length groups →
    pos 0 <ℤ weight_of left j k → pos 0 <ℤ weight_of left i k → pos 0 <ℤ weight_of left i j → AllStuck s groups left i j k
settled_full s groups left rows i j k p ij jk kl a b c = record {
  at_first = λ q r o. opposed_not (are_apart s (slice_index groups j) (slice_index groups k)) _ _ (p.agrees j k (omega arith) kl (λ e. omega (arith, e))) a o;
  at_second = λ q r o. opposed_not (are_apart s (slice_index groups i) (slice_index groups k)) _ _ (p.agrees i k (omega arith) kl (λ e. omega (arith, e))) b o;
  at_third = λ q r o. opposed_not (are_apart s (slice_index groups i) (slice_index groups j)) _ _ (p.agrees i j (omega arith) (omega arith) (λ e. omega (arith, e))) c o;
}

pub allied : (s : State) (groups : List ℕ) (left : Pairs) (rows : List TwoSet) (i j : ℕ) → IsLeftTable s groups left rows → i < j → j < length groups → pos 0 <ℤ weight_of left i j → Allied s groups left i j
allied s groups left rows i j p ij jl h = λ o. opposed_not (are_apart s (slice_index groups i) (slice_index groups j)) _ _ (p.agrees i j (omega arith) jl (λ e. omega (arith, e))) h o

pub allied_stays : (s : State) (groups : List ℕ) (old new : Pairs) (rows : List TwoSet) (i j : ℕ) → IsLeftTable s groups old rows → i < j → j < length groups → NearerZero old new → Allied s groups old i j → Allied s groups new i j
allied_stays s groups old new rows i j p ij jl f a = λ o. let size = p.size in a (⊎_elim (λ e. inl e) (λ l. inr ((f i j (omega (arith, size)) (omega (arith, size))).1 l)) o)

pub settled_alike : (s : State) (groups : List ℕ) (left : Pairs) (rows : List TwoSet) (i j k : ℕ) → IsLeftTable s groups left rows → i < j → j < k → k < length groups → Allied s groups left i j →
    ((pos 0 <ℤ weight_of left i k) ↔ (pos 0 <ℤ weight_of left j k)) → AllStuck s groups left i j k
settled_alike s groups left rows i j k p ij jk kl a h = ⊎_elim
    (λ b. record {
      at_first = λ q r o. opposed_not (are_apart s (slice_index groups j) (slice_index groups k)) _ _ (p.agrees j k (omega arith) kl (λ e. omega (arith, e))) (h.0 b) o;
      at_second = λ q r o. opposed_not (are_apart s (slice_index groups i) (slice_index groups k)) _ _ (p.agrees i k (omega arith) kl (λ e. omega (arith, e))) b o;
      at_third = λ q r o. a o;
    })
    (λ n. settled_idle_third s groups left i j k n (not_above (weight_of left i k) (weight_of left j k) h.1 n))
    (above_or_not (weight_of left i k))
