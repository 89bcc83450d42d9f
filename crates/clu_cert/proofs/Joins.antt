-- A line as its first field and the others, each behind a space.
use Rattle.std.proofs.Common.{◌≡◌, ℕ, List, [], ◌∷◌, ◌++◌, ◌<◌, ◌≤◌, ◌+◌, ◌^◌, ℤ, pos, negsuc, to_z, of_z, FitsSigned, arith, map, take, get_or, length, codes, refl, sym, ◌∙◌, ap, append_assoc, unsigned_abs}
use Rattle.std.specs.List.{flat_map, join_with_byte}
use Rattle.std.specs.Fmt.{decimal}
use Rattle.std.specs.Int.{w128}
use Rattle.std.proofs.lemmas.Int.{to_z-of_z}
use Rattle.std.proofs.lemmas.List.{append-nil, map-append, take_more}
use Rattle.std.proofs.lemmas.Grind.{flat_map-append}
use Rattle.clu_rows.specs.Rows.{TwoSet}
use Rattle.clu_cert.specs.Text.{from_one, numbers_line, row_line, line_text, text_of, cert_text, version_line, end_line, objective_line, count_line, whole_line, step_line, proof_lines, lines_from_value, lines_from_steps, lines_from_step, lines_from_part}
use Rattle.clu_cert.specs.declared.certificate.Certificate.{Certificate}
use Rattle.clu_cert.specs.Numbers.{numbers_text}

abbrev behind_spaces : List (List ℕ) → List ℕ
behind_spaces fields = flat_map (λ f. 32 ∷ f) fields

joined : (word : List ℕ) (fields : List (List ℕ)) → join_with_byte 32 (word ∷ fields) ≡ word ++ behind_spaces fields
joined word [] = sym (append-nil word)
joined word (f ∷ fields) = ap (λ (t : List ℕ). word ++ (32 ∷ t)) (joined f fields)

spaced : (ns : List ℕ) → behind_spaces (map from_one ns) ≡ numbers_text ns
spaced [] = refl
spaced (n ∷ ns) = ap (λ (t : List ℕ). 32 ∷ (from_one n ++ t)) (spaced ns)

pub numbers_joined : (word ns : List ℕ) → text_of (numbers_line word ns ∷ []) ≡ (word ++ numbers_text ns) ++ (10 ∷ [])
numbers_joined word ns = append-nil (line_text (numbers_line word ns))
    ∙ (λ i. (joined word (map from_one ns) ∙ ap (λ (t : List ℕ). word ++ t) (spaced ns)) i ++ (10 ∷ []))

row_fields : (r : TwoSet) → join_with_byte 32 (row_line r) ≡ codes "row" ++
    ((32 ∷ decimal r.y) ++ (numbers_text r.s ++ ((32 ∷ codes "/") ++ numbers_text r.t)))
row_fields r =
    joined (codes "row") (decimal r.y ∷ (map from_one r.s ++ (codes "/" ∷ map from_one r.t)))
    ∙ ap (λ (t : List ℕ). codes "row" ++ ((32 ∷ decimal r.y) ++ t)) (flat_map-append (λ f. 32 ∷ f) (map from_one r.s) (codes "/" ∷ map from_one r.t)
    ∙ (λ i. spaced r.s i ++ ((32 ∷ codes "/") ++ spaced r.t i)))

pub row_joined : (r : TwoSet) → text_of (row_line r ∷ []) ≡ (codes "row" ++
    ((32 ∷ decimal r.y) ++ (numbers_text r.s ++ ((32 ∷ codes "/") ++ numbers_text r.t)))) ++ (10 ∷ [])
row_joined r = append-nil (line_text (row_line r)) ∙ (λ i. row_fields r i ++ (10 ∷ []))

-- what is written so far, and the lines that are left
pub next : (o new : List ℕ) (a rest : List (List (List ℕ))) → new ≡ o ++ text_of a → o ++ text_of (a ++ rest) ≡ new ++ text_of rest
next o new a rest e = ap (λ (t : List ℕ). o ++ t) (flat_map-append line_text a rest) ∙ sym (append_assoc o (text_of a) (text_of rest))
    ∙ (λ i. sym e i ++ text_of rest)

pub numbers_pushed : (a b d e word ns : List ℕ) → b ≡ a ++ word → d ≡ b ++ numbers_text ns → e ≡ d ++ (10 ∷ [])
    → e ≡ a ++ text_of (numbers_line word ns ∷ [])
numbers_pushed a b d e word ns p q r =
    r ∙ (λ i. (q ∙ (λ j. p j ++ numbers_text ns) ∙ append_assoc a word (numbers_text ns)) i ++ (10 ∷ []))
    ∙ append_assoc a (word ++ numbers_text ns) (10 ∷ []) ∙ ap (λ (t : List ℕ). a ++ t) (sym (numbers_joined word ns))

pub row_pushed : (a b d e f g h : List ℕ) (r : TwoSet) → b ≡ a ++ codes "row " → d ≡ b ++ decimal r.y → e ≡ d ++ numbers_text r.s
    → f ≡ e ++ codes " /" → g ≡ f ++ numbers_text r.t → h ≡ g ++ (10 ∷ [])
    → h ≡ a ++ text_of (row_line r ∷ [])
row_pushed a b d e f g h r p1 p2 p3 p4 p5 p6 =
    let one : d ≡ a ++ (codes "row " ++ decimal r.y) = p2 ∙ (λ i. p1 i ++ decimal r.y) ∙ append_assoc a (codes "row ") (decimal r.y) in
    let two : e ≡ a ++ ((codes "row " ++ decimal r.y) ++ numbers_text r.s) = p3 ∙ (λ i. one i ++ numbers_text r.s)
    ∙ append_assoc a (codes "row " ++ decimal r.y) (numbers_text r.s) in
    let three : f ≡ a ++ (((codes "row " ++ decimal r.y) ++ numbers_text r.s) ++ codes " /") = p4 ∙ (λ i. two i ++ codes " /")
    ∙ append_assoc a _ (codes " /") in
    let four : g ≡ a ++ ((((codes "row " ++ decimal r.y) ++ numbers_text r.s) ++ codes " /") ++ numbers_text r.t) = p5
    ∙ (λ i. three i ++ numbers_text r.t) ∙ append_assoc a _ (numbers_text r.t) in
    let five : h ≡ a ++ (((((codes "row " ++ decimal r.y) ++ numbers_text r.s) ++ codes " /") ++ numbers_text r.t) ++ (10 ∷ [])) = p6
    ∙ (λ i. four i ++ (10 ∷ [])) ∙ append_assoc a _ (10 ∷ []) in
    let group : (((codes "row " ++ decimal r.y) ++ numbers_text r.s) ++ codes " /") ++ numbers_text r.t ≡ codes "row" ++
    ((32 ∷ decimal r.y) ++ (numbers_text r.s ++ ((32 ∷ codes "/") ++ numbers_text r.t)))
    = append_assoc ((codes "row " ++ decimal r.y) ++ numbers_text r.s) (codes " /") (numbers_text r.t)
    ∙ append_assoc (codes "row " ++ decimal r.y) (numbers_text r.s) (codes " /" ++ numbers_text r.t) in
    five ∙ (λ i. a ++ (group i ++ (10 ∷ []))) ∙ ap (λ (t : List ℕ). a ++ t) (sym (row_joined r))

pub cert_pushed : (c : Certificate) (o1 o2 o3 o4 o5 o6 o7 o8 o9 o10 o11 : List ℕ)
    → o1 ≡ [] ++ text_of (version_line ∷ []) → o2 ≡ o1 ++ text_of (objective_line c.objective ∷ [])
    → o3 ≡ o2 ++ text_of (count_line (codes "vertices") (length c.labels) ∷ [])
    → o4 ≡ o3 ++ text_of (whole_line (codes "value") c.value ∷ []) → o5 ≡ o4 ++ text_of (whole_line (codes "bound") c.bound ∷ [])
    → o6 ≡ o5 ++ text_of (numbers_line (codes "blocks") c.labels ∷ [])
    → o7 ≡ o6 ++ text_of (count_line (codes "steps") (length c.root_steps) ∷ []) → o8 ≡ o7 ++ text_of (map step_line c.root_steps)
    → o9 ≡ o8 ++ text_of (count_line (codes "parts") (length c.proofs) ∷ [])
    → o10 ≡ o9 ++ text_of (flat_map proof_lines c.proofs) → o11 ≡ o10 ++ text_of (end_line ∷ []) → o11 ≡ cert_text c
cert_pushed c o1 o2 o3 o4 o5 o6 o7 o8 o9 o10 o11 e1 e2 e3 e4 e5 e6 e7 e8 e9 e10 e11 = sym (
    next [] o1 (version_line ∷ []) (objective_line c.objective ∷ count_line (codes "vertices") (length c.labels) ∷ lines_from_value c) e1
    ∙ next o1 o2 (objective_line c.objective ∷ []) (count_line (codes "vertices") (length c.labels) ∷ lines_from_value c) e2
    ∙ next o2 o3 (count_line (codes "vertices") (length c.labels) ∷ []) (lines_from_value c) e3
    ∙ next o3 o4 (whole_line (codes "value") c.value ∷ [])
    (whole_line (codes "bound") c.bound ∷ numbers_line (codes "blocks") c.labels ∷ lines_from_steps c) e4
    ∙ next o4 o5 (whole_line (codes "bound") c.bound ∷ []) (numbers_line (codes "blocks") c.labels ∷ lines_from_steps c) e5
    ∙ next o5 o6 (numbers_line (codes "blocks") c.labels ∷ []) (lines_from_steps c) e6
    ∙ next o6 o7 (count_line (codes "steps") (length c.root_steps) ∷ []) (lines_from_step c.root_steps c.proofs) e7
    ∙ next o7 o8 (map step_line c.root_steps) (count_line (codes "parts") (length c.proofs) ∷ lines_from_part c.proofs) e8
    ∙ next o8 o9 (count_line (codes "parts") (length c.proofs) ∷ []) (lines_from_part c.proofs) e9
    ∙ next o9 o10 (flat_map proof_lines c.proofs) (end_line ∷ []) e10
    ∙ next o10 o11 (end_line ∷ []) [] e11
    ∙ append-nil o11)

signed_fits : (z : ℤ) → unsigned_abs z ≤ 2 ^ 126 → FitsSigned w128 z
signed_fits (pos n) h = omega arith
signed_fits (negsuc n) h = omega arith

pub same_signed : (z : ℤ) → unsigned_abs z ≤ 2 ^ 126 → to_z w128 (of_z w128 z) ≡ z
same_signed z h = to_z-of_z w128 z (signed_fits z h)

-- the lines of the rows up to a place, and of the one there
pub row_behind : (out now new : List ℕ) (rows : List TwoSet) (i : ℕ) (r : TwoSet) → i < length rows → r ≡ get_or rows i r
    → now ≡ out ++ text_of (map row_line (take i rows)) → new ≡ now ++ text_of (row_line r ∷ []) → new ≡ out ++ text_of (map row_line (take (i + 1) rows))
row_behind out now new rows i r l e is more = more
    ∙ sym (next out now (map row_line (take i rows)) (row_line r ∷ []) is)
    ∙ ap (λ (ls : List (List (List ℕ))). out ++ text_of ls) (sym (map-append row_line (take i rows) (r ∷ [])))
    ∙ ap (λ (rs : List TwoSet). out ++ text_of (map row_line rs)) (ap (λ (q : TwoSet). take i rows ++ q ∷ []) e ∙ sym (take_more rows i r l))
