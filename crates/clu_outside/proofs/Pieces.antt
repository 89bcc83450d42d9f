-- What is stored under a name, piece by piece.
use Rattle.std.proofs.Common.{◌≡◌, ◌≢◌, ◌≤◌, ◌<◌, ◌-◌, ◌+◌, ◌%◌, ◌++◌, ℕ, List, [], length, take, drop, arith, sym, ◌∙◌, ap, refl, Option, Some, None, min, inl, inr, unwrap_or, subst, Result, Ok, Err, length-take}
use Rattle.std.specs.Prelude.{◌⊎◌, IsErr}
use Rattle.std.proofs.lemmas.Bool.{false≢true}
use Rattle.clu_outside.specs.declared.sink.WriteErr.{WriteErr}
use Rattle.std.proofs.lemmas.List.{take_all, take-take}
use Rattle.clu_outside.specs.Counts.{later_count, Rose}
use Rattle.clu_outside.specs.Folder.{Told, BothTell, HoldsWhole, HoldsPartly, IsStored, IsStoredPartly, IsAppended, IsAppendedPartly, CallsLater, CallsWithin, StoresWhole, bytes_under, stores_of}
use Rattle.clu_outside.proofs.Taken.{take_more}

-- from what is told once to what is told later, and on from there
pub both_then : (a b c : Option Told) (P Q R : Told → Told → Type 0) → ((x y z : Told) → P x y → Q y z → R x z)
    → BothTell a b P → BothTell b c Q → BothTell a c R
both_then None None None P Q R step p q = tt
both_then None None (Some z) P Q R step p q = absurd q
both_then None (Some y) c P Q R step p q = absurd p
both_then (Some x) None c P Q R step p q = absurd p
both_then (Some x) (Some y) None P Q R step p q = absurd q
both_then (Some x) (Some y) (Some z) P Q R step p q = step x y z p q

-- what holds of the two, and so something else
pub both_so : (a b : Option Told) (P Q : Told → Told → Type 0) → ((x y : Told) → P x y → Q x y) → BothTell a b P → BothTell a b Q
both_so None None P Q step p = tt
both_so None (Some y) P Q step p = absurd p
both_so (Some x) None P Q step p = absurd p
both_so (Some x) (Some y) P Q step p = step x y p

-- a piece more
pub stored_more : (a b c : Option Told) (name bytes : List ℕ) (done next : ℕ) → done ≤ next → next ≤ length bytes
    → IsStored a b name (take done bytes) → IsAppended b c name (take (next - done) (drop done bytes)) → IsStored a c name (take next bytes)
stored_more a b c name bytes done next after within p q =
    both_then a b c (λ x y. HoldsWhole x y name (take done bytes))
    (λ y z. HoldsWhole y z name (bytes_under y name ++ take (next - done) (drop done bytes)))
    (λ x z. HoldsWhole x z name (take next bytes))
    (λ x y z h k. record {
      whole = k.whole
          ∙ ap (λ (o : Option (List ℕ)). Some (unwrap_or o [] ++ take (next - done) (drop done bytes))) h.whole
          ∙ ap Some (sym (take_more bytes done (next - done) (omega arith))
          ∙ ap (λ (n : ℕ). take n bytes) (omega arith));
      others = λ other differ. k.others other differ ∙ h.others other differ;
      loads = k.loads ∙ h.loads;
    }) p q

-- a prefix of a piece, after what was done, is a prefix of the whole
front_of_piece : (bytes : List ℕ) (done count part : ℕ) → done + count ≤ length bytes → part ≤ count
    → take done bytes ++ take part (take count (drop done bytes)) ≡ take (done + part) bytes
front_of_piece bytes done count part within small =
    ap (λ (xs : List ℕ). take done bytes ++ xs) (take-take part count (drop done bytes) small)
    ∙ sym (take_more bytes done part (omega arith))

-- what stands under a name while a file is stored, after an append that was refused
partly_more : (x y z : Told) (name bytes : List ℕ) (done count : ℕ) → done + count ≤ length bytes → HoldsWhole x y name (take done bytes)
    → (part : ℕ) → part ≤ length (take count (drop done bytes))
    → (z.held name ≡ y.held name) ⊎ (z.held name ≡ Some (bytes_under y name ++ take part (take count (drop done bytes))))
    → ((other : List ℕ) → other ≢ name → z.held other ≡ y.held other) → z.loads ≡ y.loads
    → HoldsPartly x z name [] bytes
partly_more x y z name bytes done count within h part small (inl same) others loads =
    record {
      count = done;
      within = omega arith;
      partly = inr (same ∙ h.whole);
      others = λ other differ. others other differ ∙ h.others other differ;
      loads = loads ∙ h.loads;
    }
partly_more x y z name bytes done count within h part small (inr more) others loads =
    let short : part ≤ count = omega (arith, small, length-take {A = ℕ}) in
    record {
      count = done + part;
      within = omega arith;
      partly = inr (more
          ∙ ap (λ (o : Option (List ℕ)). Some (unwrap_or o [] ++ take part (take count (drop done bytes)))) h.whole
          ∙ ap Some (front_of_piece bytes done count part within short));
      others = λ other differ. others other differ ∙ h.others other differ;
      loads = loads ∙ h.loads;
    }

-- a piece that was refused
stored_partly : (a b c : Option Told) (name bytes : List ℕ) (done next : ℕ) → done ≤ next → next ≤ length bytes
    → IsStored a b name (take done bytes) → IsAppendedPartly b c name (take (next - done) (drop done bytes)) → IsStoredPartly a c name bytes
stored_partly a b c name bytes done next after within p q =
    both_then a b c (λ x y. HoldsWhole x y name (take done bytes))
    (λ y z. HoldsPartly y z name (bytes_under y name) (take (next - done) (drop done bytes)))
    (λ x z. HoldsPartly x z name [] bytes)
    (λ x y z h k. partly_more x y z name bytes done (next - done) (omega arith) h k.count k.within k.partly k.others k.loads) p q

-- a create that was refused
none_partly : (x y : Told) (name bytes : List ℕ) (part : ℕ) → (y.held name ≡ x.held name) ⊎ (y.held name ≡ Some (take part []))
    → ((other : List ℕ) → other ≢ name → y.held other ≡ x.held other) → y.loads ≡ x.loads → HoldsPartly x y name [] bytes
none_partly x y name bytes part (inl same) others loads = record { count = 0; within = omega arith; partly = inl same; others = others; loads = loads }
none_partly x y name bytes part (inr none) others loads =
    record { count = 0; within = omega arith; partly = inr (none ∙ ap Some (take_all part [] (omega arith))); others = others; loads = loads }

created_partly : (a b : Option Told) (name bytes : List ℕ) → IsStoredPartly a b name [] → IsStoredPartly a b name bytes
created_partly a b name bytes p =
    both_so a b (λ x y. HoldsPartly x y name [] []) (λ x y. HoldsPartly x y name [] bytes)
    (λ x y h. none_partly x y name bytes h.count h.partly h.others h.loads) p

-- all the bytes are a prefix of them
whole_partly : (a b : Option Told) (name bytes : List ℕ) → IsStored a b name bytes → IsStoredPartly a b name bytes
whole_partly a b name bytes p =
    both_so a b (λ x y. HoldsWhole x y name bytes) (λ x y. HoldsPartly x y name [] bytes)
    (λ x y h. record {
      count = length bytes;
      within = omega arith;
      partly = inr (h.whole ∙ ap Some (sym (take_all (length bytes) bytes (omega arith))));
      others = h.others;
      loads = h.loads;
    }) p

-- one call more
pub calls_more : (a b c : Option Told) (n next : ℕ) → next ≡ n + 1 → CallsLater n a b → CallsLater 1 b c → CallsLater next a c
calls_more a b c n next is p q =
    both_then a b c (λ x y. y.calls ≡ later_count n x.calls) (λ y z. z.calls ≡ later_count 1 y.calls)
    (λ x z. z.calls ≡ later_count next x.calls) (λ x y z h k. omega (arith, h, k)) p q

-- so many calls are at most more
calls_within : (a b : Option Told) (n most : ℕ) → 0 < n → n ≤ most → CallsLater n a b → CallsWithin most a b
calls_within a b n most some fits p =
    both_so a b (λ x y. y.calls ≡ later_count n x.calls) (λ x y. Rose x.calls y.calls × y.calls ≤ later_count most x.calls)
    (λ x y h. (omega (arith, h), omega (arith, h))) p

-- a piece more is a call more
pub pieces_more : (size done count : ℕ) → done < size → done % 4096 ≡ 0 → count ≡ min 4096 (size - done) → stores_of (done + count) ≡ stores_of done + 1
pieces_more size done count before full is = omega arith

-- the calls for a front with a rest are fewer than those for the whole
pieces_fit : (size done : ℕ) → done < size → done % 4096 ≡ 0 → stores_of done + 1 ≤ stores_of size
pieces_fit size done before full = omega arith

-- after a piece with a rest, whole pieces are done
pub pieces_full : (size done count : ℕ) → done % 4096 ≡ 0 → count ≡ min 4096 (size - done) → done + count < size → (done + count) % 4096 ≡ 0
pieces_full size done count full is before = omega arith

-- a file whose create was refused
pub create_refused : {T : Type 0} (a b : Option Told) (name bytes : List ℕ) (result : Result T WriteErr) → IsErr result
    → CallsLater 1 a b → IsStoredPartly a b name [] → StoresWhole a b name bytes result
create_refused a b name bytes (Ok _) e one part = absurd (false≢true e)
create_refused a b name bytes (Err _) e one part =
    record {
      stored = tt;
      partly = created_partly a b name bytes part;
      calls = tt;
      at_most = calls_within a b 1 _ (omega arith) (omega arith) one;
    }

-- a file of which a piece was refused
pub piece_refused : {T : Type 0} (a b c : Option Told) (name bytes : List ℕ) (done next : ℕ) (result : Result T WriteErr) → IsErr result
    → done < length bytes → done % 4096 ≡ 0 → done ≤ next → next ≤ length bytes
    → IsStored a b name (take done bytes) → CallsLater (stores_of done) a b
    → CallsLater 1 b c → IsAppendedPartly b c name (take (next - done) (drop done bytes)) → StoresWhole a c name bytes result
piece_refused a b c name bytes done next (Ok _) e before full after within whole calls one part = absurd (false≢true e)
piece_refused a b c name bytes done next (Err _) e before full after within whole calls one part =
    record {
      stored = tt;
      partly = stored_partly a b c name bytes done next after within whole part;
      calls = tt;
      at_most = calls_within a c (stores_of done + 1) _ (omega arith) (pieces_fit (length bytes) done before full)
          (calls_more a b c (stores_of done) _ refl calls one);
    }

-- a file that was stored to its end
pub all_stored : (a b : Option Told) (name bytes : List ℕ) (done : ℕ) → done ≡ length bytes
    → IsStored a b name (take done bytes) → CallsLater (stores_of done) a b → StoresWhole {T = Unit} a b name bytes (Ok tt)
all_stored a b name bytes done is whole calls =
    let all : take done bytes ≡ bytes = take_all done bytes (omega arith) in
    let whole_bytes : IsStored a b name bytes = subst (λ (xs : List ℕ). IsStored a b name xs) all whole in
    let counted : CallsLater (stores_of (length bytes)) a b = subst (λ (n : ℕ). CallsLater (stores_of n) a b) is calls in
    record {
      stored = whole_bytes;
      partly = whole_partly a b name bytes whole_bytes;
      calls = counted;
      at_most = calls_within a b _ _ (omega arith) (omega arith) counted;
    }
