-- Rows in flat storage: a row more, the row at a place, and how many there are.
use Rattle.std.proofs.Common.{◌≡◌, ℕ, ◌<◌, ◌≤◌, ◌+◌, ◌-◌, List, [], ◌∷◌, ◌++◌, length, take, drop, get_or, zero, suc, refl, sym, ap, ◌∙◌, subst, arith, slice_range, length-append, length-drop}
use Rattle.std.proofs.lemmas.List.{drop-append-le, take-append-le, drop_at, take_all}
use Rattle.clu_rows.specs.Rows.{TwoSet}
use Rattle.clu_rows.specs.Flat.{rows_from, AreRowEnds, start_at}
use Rattle.clu_rows.specs.declared.rows.RowEnd.{RowEnd}

abbrev pub two_set : (s t : List ℕ) (y : ℕ) → TwoSet
two_set s t y = record { s = s; t = t; y = y }

-- ---- parts of a list to which more is put
part_kept : (xs more : List ℕ) (i j : ℕ) → i ≤ j → j ≤ length xs → slice_range (xs ++ more) i j ≡ slice_range xs i j
part_kept xs more i j l m =
    let d = length-drop i xs in
    ap (take (j - i)) (drop-append-le i xs more (omega (arith, l, m))) ∙ take-append-le (j - i) (drop i xs) more (omega (arith, l, m, d))

last_part : (xs more : List ℕ) (i j : ℕ) → i ≡ length xs → j ≡ length (xs ++ more) → slice_range (xs ++ more) i j ≡ more
last_part xs more i j e f =
    let l = length-append xs more in
    ap (take (j - i)) (drop_at xs more i (sym e)) ∙ take_all (j - i) more (omega (arith, e, f, l))

-- ---- a row more
ends_within : (start size : ℕ) (ends : List RowEnd) → AreRowEnds start size ends → start ≤ size
ends_within start size [] a = omega (arith, a)
ends_within start size (e ∷ es) a = let r = ends_within e.end size es a.2 in let p = a.0 in let q = a.1 in omega (arith, p, q, r)

pub ends_more : (start size : ℕ) (ends : List RowEnd) (e : RowEnd) → AreRowEnds start size ends → size ≤ e.middle → e.middle ≤ e.end → AreRowEnds start e.end (ends ++ e ∷ [])
ends_more start size [] e a l m = (omega (arith, a, l), m, refl)
ends_more start size (d ∷ ds) e a l m = (a.0, a.1, ends_more d.end size ds e a.2 l m)

pub rows_more : (vertices s t : List ℕ) (start : ℕ) (ends : List RowEnd) (e : RowEnd) → AreRowEnds start (length vertices) ends → e.middle ≡ length (vertices ++ s) → e.end ≡ length ((vertices ++ s) ++ t) →
    rows_from ((vertices ++ s) ++ t) start (ends ++ e ∷ []) ≡ rows_from vertices start ends ++ two_set s t e.y ∷ []
rows_more vertices s t start [] e a m n =
    let l = length-append (vertices ++ s) t in
    let k = length-append vertices s in
    let f = part_kept (vertices ++ s) t start e.middle (omega (arith, a, m, k)) (omega (arith, m)) ∙ last_part vertices s start e.middle a m in
    let g = last_part (vertices ++ s) t e.middle e.end m n in
    ap (λ xs. two_set xs (slice_range ((vertices ++ s) ++ t) e.middle e.end) e.y ∷ []) f ∙ ap (λ xs. two_set s xs e.y ∷ []) g
rows_more vertices s t start (d ∷ ds) e a m n =
    let w = ends_within d.end (length vertices) ds a.2 in
    let l = length-append vertices s in
    let p = a.0 in
    let q = a.1 in
    let f = part_kept (vertices ++ s) t start d.middle p (omega (arith, q, w, l)) ∙ part_kept vertices s start d.middle p (omega (arith, q, w)) in
    let g = part_kept (vertices ++ s) t d.middle d.end q (omega (arith, w, l)) ∙ part_kept vertices s d.middle d.end q w in
    ap (λ xs. two_set xs (slice_range ((vertices ++ s) ++ t) d.middle d.end) d.y ∷ rows_from ((vertices ++ s) ++ t) d.end (ds ++ e ∷ [])) f
    ∙ ap (λ xs. two_set (slice_range vertices start d.middle) xs d.y ∷ rows_from ((vertices ++ s) ++ t) d.end (ds ++ e ∷ [])) g
    ∙ ap (λ rows. two_set (slice_range vertices start d.middle) (slice_range vertices d.middle d.end) d.y ∷ rows) (rows_more vertices s t d.end ds e a.2 m n)

-- ---- the row at a place
pub rows_count : (vertices : List ℕ) (start : ℕ) (ends : List RowEnd) → length (rows_from vertices start ends) ≡ length ends
rows_count vertices start [] = refl
rows_count vertices start (e ∷ es) = ap suc (rows_count vertices e.end es)

pub start_next : (start : ℕ) (ends : List RowEnd) (i : ℕ) (d : RowEnd) → i < length ends → start_at start ends (suc i) ≡ (get_or ends i d).end
start_next start [] i d l = absurd (omega (arith, l))
start_next start (e ∷ es) zero d l = refl
start_next start (e ∷ es) (suc i) d l = start_next e.end es i d (omega (arith, l))

-- the row at a place is between its ends
pub record Stands (vertices : List ℕ) (start : ℕ) (ends : List RowEnd) (i : ℕ) (e : RowEnd) : Type 0 where
  pub first : start_at start ends i ≤ e.middle
  pub second : e.middle ≤ e.end
  pub within : e.end ≤ length vertices
  pub row : (d : TwoSet) → two_set (slice_range vertices (start_at start ends i) e.middle) (slice_range vertices e.middle e.end) e.y ≡ get_or (rows_from vertices start ends) i d

pub row_stands : (vertices : List ℕ) (start : ℕ) (ends : List RowEnd) (i : ℕ) (e : RowEnd) → AreRowEnds start (length vertices) ends → i < length ends → e ≡ get_or ends i e → Stands vertices start ends i e
row_stands vertices start [] i e a l q = absurd (omega (arith, l))
row_stands vertices start (d ∷ ds) zero e a l q = subst (Stands vertices start (d ∷ ds) 0) (sym q) (record {
  first = a.0;
  second = a.1;
  within = ends_within d.end (length vertices) ds a.2;
  row = λ _. refl;
})
row_stands vertices start (d ∷ ds) (suc i) e a l q =
    let h = row_stands vertices d.end ds i e a.2 (omega (arith, l)) q in
    record { first = h.first; second = h.second; within = h.within; row = h.row }

-- what a push leaves, where the lists are as they were with the row's vertices and its ends behind them
pub record Pushed (vertices : List ℕ) (ends : List RowEnd) (rows : List TwoSet) : Type 0 where
  pub ends_fill : AreRowEnds 0 (length vertices) ends
  pub rows_are : rows_from vertices 0 ends ≡ rows

pub pushed : (vs s t vs' : List ℕ) (es es' : List RowEnd) (e : RowEnd) (rows : List TwoSet) → AreRowEnds 0 (length vs) es → rows_from vs 0 es ≡ rows → vs' ≡ (vs ++ s) ++ t → es' ≡ es ++ e ∷ [] →
    e.middle ≡ length vs + length s → e.end ≡ (length vs + length s) + length t → Pushed vs' es' (rows ++ two_set s t e.y ∷ [])
pushed vs s t vs' es es' e rows a r p q m n =
    let k = length-append vs s in
    let l = length-append (vs ++ s) t in
    subst (λ xs. Pushed xs es' (rows ++ two_set s t e.y ∷ [])) (sym p) (subst (λ ends. Pushed ((vs ++ s) ++ t) ends (rows ++ two_set s t e.y ∷ [])) (sym q) (record {
      ends_fill = subst (λ size. AreRowEnds 0 size (es ++ e ∷ [])) (n ∙ ap (λ x. x + length t) (sym k) ∙ sym l) (ends_more 0 (length vs) es e a (omega (arith, m)) (omega (arith, m, n)));
      rows_are = rows_more vs s t 0 es e a (m ∙ sym k) (n ∙ ap (λ x. x + length t) (sym k) ∙ sym l) ∙ ap (λ xs. xs ++ two_set s t e.y ∷ []) r;
    }))

pub size_more : (xs more : List ℕ) (ys : List ℕ) (n k : ℕ) → n ≡ length ys → ys ≡ xs ++ more → length xs ≡ k → n ≡ k + length more
size_more xs more ys n k e f g = let l = length-append xs more in let h = ap length f in omega (arith, e, g, l, h)
