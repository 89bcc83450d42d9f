-- One line further in a list of steps, parts, items or rows.
use Rattle.std.proofs.Common.{◌≡◌, ℕ, suc, ◌<◌, ◌^◌, List, [], ◌∷◌, ◌++◌, Some, None, length, map, codes, refl, sym, ◌∙◌, ap, subst, arith, append_assoc, append-nil}
use Rattle.std.specs.List.{flat_map, AllByRecursion}
use Rattle.clu_cert.specs.declared.certificate.Item.{Item}
use Rattle.clu_cert.specs.declared.certificate.Item.TheVariants as item
use Rattle.clu_cert.specs.declared.lists.ItemLine.{ItemLine}
use Rattle.clu_cert.specs.declared.lists.ItemLine.TheVariants as line
use Rattle.clu_reduce.specs.declared.step.Step.{Step}
use Rattle.clu_rows.specs.Rows.{TwoSet}
use Rattle.clu_rows.specs.declared.row.Leaf.{Leaf}
use Rattle.clu_cert.specs.declared.certificate.Proof.{Proof}
use Rattle.clu_cert.specs.declared.certificate.Certificate.{Certificate}
use Rattle.clu_cert.specs.Reads.{ReadsSpelling}
use Rattle.clu_cert.specs.Fits.{StepFits, RowFits, ItemFits, PartFits, ProofFits}
use Rattle.clu_cert.specs.ItemLines.{item_line, ItemLineFits}
use Rattle.clu_cert.specs.Text.{count_line, numbers_line, proof_lines, end_line, step_line, row_line, leaf_line, item_lines, lines_from_part, lines_from_step}
use Rattle.clu_cert.specs.Reading.{SameHead, StepLeft, PartLeft, ItemsLeft, ItemLeft, RowLeft, lines_from_item}

push_front : {X : Type 0} → (xs : List X) (x : X) (ys : List X) → xs ++ (x ∷ ys) ≡ (xs ++ (x ∷ [])) ++ ys
push_front xs x ys = sym (append_assoc xs (x ∷ []) ys)

module _ (left : ℕ) (cert : Certificate) (l : List (List ℕ)) (s : Step) (done : List Step) (reads : ReadsSpelling step_line StepFits l (Some s))
    (is : done ≡ cert.root_steps ++ (s ∷ [])) (c : Certificate) (more : List (List (List ℕ))) where
  step_to_at : (steps : List Step) → SameHead cert c → c.root_steps ≡ cert.root_steps ++ steps → length steps ≡ suc left → AllByRecursion StepFits steps
      → length c.proofs < 2 ^ 64 → AllByRecursion ProofFits c.proofs → l ∷ more ≡ lines_from_step steps c.proofs
      → StepLeft left (record cert { root_steps = done }) c more
  step_to_at [] head are count fits pc ps lines = absurd (omega (arith, count))
  step_to_at (x ∷ xs) head are count fits pc ps lines =
      let here : l ≡ step_line x = cc lines in
      let same : x ≡ s = reads.2 x fits.0 here in
      record {
        head = record { objective = head.objective; value = head.value; bound = head.bound; labels = head.labels };
        steps = xs;
        steps_are = are ∙ (λ i. cert.root_steps ++ (same i ∷ xs)) ∙ push_front cert.root_steps s xs ∙ (λ i. sym is i ++ xs);
        count = omega (arith, count);
        fits = fits.1;
        proof_count = pc;
        proofs = ps;
        lines = cc lines;
      }

  pub step_to : StepLeft (suc left) cert c (l ∷ more) → StepLeft left (record cert { root_steps = done }) c more
  step_to h = step_to_at h.steps h.head h.steps_are h.count h.fits h.proof_count h.proofs h.lines

  pub step_from : StepLeft left (record cert { root_steps = done }) c more → StepLeft (suc left) cert c (l ∷ more)
  step_from h = record {
    head = record { objective = h.head.objective; value = h.head.value; bound = h.head.bound; labels = h.head.labels };
    steps = s ∷ h.steps;
    steps_are = h.steps_are ∙ (λ i. is i ++ h.steps) ∙ sym (push_front cert.root_steps s h.steps);
    count = omega (arith, h.count);
    fits = (reads.0, h.fits);
    proof_count = h.proof_count;
    proofs = h.proofs;
    lines = (λ i. reads.1 i ∷ h.lines i);
  }

module _ (left : ℕ) (cert : Certificate) (l : List (List ℕ)) (none : ReadsSpelling step_line StepFits l None) (c : Certificate)
    (more : List (List (List ℕ))) where
  step_none_at : (steps : List Step) → length steps ≡ suc left → AllByRecursion StepFits steps → l ∷ more ≡ lines_from_step steps c.proofs → ⊥
  step_none_at [] count fits lines = absurd (omega (arith, count))
  step_none_at (x ∷ xs) count fits lines = none x fits.0 (cc lines)

  pub step_none : StepLeft (suc left) cert c (l ∷ more) → ⊥
  step_none h = step_none_at h.steps h.count h.fits h.lines

module _ (left : ℕ) (cert : Certificate) (l : List (List ℕ)) (vs : List ℕ) (part : Proof)
    (reads : ReadsSpelling (numbers_line (codes "part")) PartFits l (Some vs)) (is : part.part ≡ vs) (c : Certificate) (more : List (List (List ℕ))) where
  part_to_at : (proofs : List Proof) → SameHead cert c → c.root_steps ≡ cert.root_steps → c.proofs ≡ cert.proofs ++ proofs → length proofs ≡ suc left
      → AllByRecursion ProofFits proofs
      → l ∷ more ≡ lines_from_part proofs → ItemsLeft left cert part c more
  part_to_at [] head steps are count fits lines = absurd (omega (arith, count))
  part_to_at (p ∷ ps) head steps are count fits lines =
      let here : l ≡ numbers_line (codes "part") p.part = cc lines in
      let same : p.part ≡ part.part = reads.2 p.part fits.0.part here ∙ sym is in
      let rest : more ≡ count_line (codes "items") (length p.items) ∷
      ((flat_map item_lines p.items ++ flat_map proof_lines ps) ++ (end_line ∷ [])) = cc lines in
      record {
        head = head;
        steps_are = steps;
        items = p.items;
        proofs = ps;
        proofs_are = are ∙ (λ i. cert.proofs ++ ((record { part = same i; items = p.items }) ∷ ps));
        count = omega (arith, count);
        fits = fits.1;
        item_count = fits.0.count;
        items_fit = fits.0.items;
        lines = rest ∙ ap (λ (t : List (List (List ℕ))). count_line (codes "items") (length p.items) ∷ t)
            (append_assoc (flat_map item_lines p.items) (flat_map proof_lines ps) (end_line ∷ []));
      }

  pub part_to : PartLeft (suc left) cert c (l ∷ more) → ItemsLeft left cert part c more
  part_to h = part_to_at h.proofs h.head h.steps_are h.proofs_are h.count h.fits h.lines

  pub part_from : ItemsLeft left cert part c more → PartLeft (suc left) cert c (l ∷ more)
  part_from h =
      let p : Proof = record { part = part.part; items = h.items } in
      let spelled : l ≡ numbers_line (codes "part") part.part = reads.1 ∙ ap (numbers_line (codes "part")) (sym is) in
      record {
        head = h.head;
        steps_are = h.steps_are;
        proofs = p ∷ h.proofs;
        proofs_are = h.proofs_are;
        count = omega (arith, h.count);
        fits = (record { part = subst PartFits (sym is) reads.0; count = h.item_count; items = h.items_fit }, h.fits);
        lines = (λ i. spelled i ∷ (h.lines ∙ ap (λ (t : List (List (List ℕ))). count_line (codes "items") (length h.items) ∷ t)
            (sym (append_assoc (flat_map item_lines h.items) (flat_map proof_lines h.proofs) (end_line ∷ [])))) i);
      }

module _ (left : ℕ) (cert : Certificate) (l : List (List ℕ)) (none : ReadsSpelling (numbers_line (codes "part")) PartFits l None) (c : Certificate)
    (more : List (List (List ℕ))) where
  part_none_at : (proofs : List Proof) → length proofs ≡ suc left → AllByRecursion ProofFits proofs → l ∷ more ≡ lines_from_part proofs → ⊥
  part_none_at [] count fits lines = absurd (omega (arith, count))
  part_none_at (p ∷ ps) count fits lines = none p.part fits.0.part (cc lines)

  pub part_none : PartLeft (suc left) cert c (l ∷ more) → ⊥
  part_none h = part_none_at h.proofs h.count h.fits h.lines

module _ (parts left : ℕ) (cert : Certificate) (l : List (List ℕ)) (part new : Proof) (e : ItemLine) (x : Item)
    (reads : ReadsSpelling item_line ItemLineFits l (Some e)) (same_part : new.part ≡ part.part) (is : new.items ≡ part.items ++ (x ∷ []))
    (c : Certificate) (more : List (List (List ℕ))) where
  pub item_to_at : (y : Item) (ys : List Item) (proofs : List Proof) → SameHead cert c → c.root_steps ≡ cert.root_steps
      → c.proofs ≡ cert.proofs ++ ((record { part = part.part; items = part.items ++ (y ∷ ys) }) ∷ proofs) → length proofs ≡ parts
      → AllByRecursion ProofFits proofs
      → length ys ≡ left → AllByRecursion ItemFits ys → y ≡ x → more ≡ lines_from_item ys proofs → ItemLeft parts left cert new c more
  item_to_at y ys proofs head steps are count fits ic fit same lines = record {
    head = head;
    steps_are = steps;
    items = ys;
    proofs = proofs;
    proofs_are = are ∙ (λ i. cert.proofs ++ ((record {
      part = sym same_part i;
      items = ((λ j. part.items ++ (same j ∷ ys)) ∙ push_front part.items x ys ∙ (λ j. sym is j ++ ys)) i;
    }) ∷ proofs));
    count = count;
    fits = fits;
    item_count = ic;
    items_fit = fit;
    lines = lines;
  }

  pub item_from_at : (l ≡ item_line e) → (item_lines x ≡ item_line e ∷ []) → ItemFits x → ItemLeft parts left cert new c more
      → ItemLeft parts (suc left) cert part c (l ∷ more)
  item_from_at here one fit h = record {
    head = h.head;
    steps_are = h.steps_are;
    items = x ∷ h.items;
    proofs = h.proofs;
    proofs_are = h.proofs_are ∙ (λ i. cert.proofs ++ ((record {
      part = same_part i;
      items = ((λ j. is j ++ h.items) ∙ sym (push_front part.items x h.items)) i;
    }) ∷ h.proofs));
    count = h.count;
    fits = h.fits;
    item_count = omega (arith, h.item_count);
    items_fit = (fit, h.items_fit);
    lines = (λ i. here i ∷ h.lines i) ∙ (λ i. (sym one i ++ flat_map item_lines h.items) ++ lines_from_part h.proofs);
  }

-- a branch
module _ (parts left : ℕ) (cert : Certificate) (l : List (List ℕ)) (part new : Proof) (u v : ℕ)
    (reads : ReadsSpelling item_line ItemLineFits l (Some (line.Branch u v))) (same_part : new.part ≡ part.part)
    (is : new.items ≡ part.items ++ (item.Branch u v ∷ []))
    (c : Certificate) (more : List (List (List ℕ))) where
  branch_to_at : (items : List Item) (proofs : List Proof) → SameHead cert c → c.root_steps ≡ cert.root_steps
      → c.proofs ≡ cert.proofs ++ ((record { part = part.part; items = part.items ++ items }) ∷ proofs) → length proofs ≡ parts
      → AllByRecursion ProofFits proofs
      → length items ≡ suc left → AllByRecursion ItemFits items → l ∷ more ≡ lines_from_item items proofs → ItemLeft parts left cert new c more
  branch_to_at [] ps head steps are count fits ic fit lines = absurd (omega (arith, ic))
  branch_to_at (item.Branch a b ∷ ys) ps head steps are count fits ic fit lines =
      let same : line.Branch a b ≡ line.Branch u v = reads.2 (line.Branch a b) fit.0 (cc lines) in
      item_to_at parts left cert l part new (line.Branch u v) (item.Branch u v) reads same_part is c more (item.Branch a b) ys ps head steps are
      count fits (omega (arith, ic)) fit.1 (cc same) (cc lines)
  branch_to_at (item.Reduce s ∷ ys) ps head steps are count fits ic fit lines =
      let same : line.Reduce s ≡ line.Branch u v = reads.2 (line.Reduce s) fit.0 (cc lines) in absurd (cc same)
  branch_to_at (item.Leaf f ∷ ys) ps head steps are count fits ic fit lines =
      let same : line.Leaf f.den (length f.rows) ≡ line.Branch u v = reads.2 (line.Leaf f.den (length f.rows)) (
        fit.0.den,
        fit.0.count,
      ) (cc lines) in absurd (cc same)

  pub branch_to : ItemLeft parts (suc left) cert part c (l ∷ more) → ItemLeft parts left cert new c more
  branch_to h = branch_to_at h.items h.proofs h.head h.steps_are h.proofs_are h.count h.fits h.item_count h.items_fit h.lines

  pub branch_from : ItemLeft parts left cert new c more → ItemLeft parts (suc left) cert part c (l ∷ more)
  branch_from = item_from_at parts left cert l part new (line.Branch u v) (item.Branch u v) reads same_part is c more reads.1 refl reads.0

-- a reduction
module _ (parts left : ℕ) (cert : Certificate) (l : List (List ℕ)) (part new : Proof) (s : Step)
    (reads : ReadsSpelling item_line ItemLineFits l (Some (line.Reduce s))) (same_part : new.part ≡ part.part)
    (is : new.items ≡ part.items ++ (item.Reduce s ∷ []))
    (c : Certificate) (more : List (List (List ℕ))) where
  reduce_to_at : (items : List Item) (proofs : List Proof) → SameHead cert c → c.root_steps ≡ cert.root_steps
      → c.proofs ≡ cert.proofs ++ ((record { part = part.part; items = part.items ++ items }) ∷ proofs) → length proofs ≡ parts
      → AllByRecursion ProofFits proofs
      → length items ≡ suc left → AllByRecursion ItemFits items → l ∷ more ≡ lines_from_item items proofs → ItemLeft parts left cert new c more
  reduce_to_at [] ps head steps are count fits ic fit lines = absurd (omega (arith, ic))
  reduce_to_at (item.Branch a b ∷ ys) ps head steps are count fits ic fit lines =
      let same : line.Branch a b ≡ line.Reduce s = reads.2 (line.Branch a b) fit.0 (cc lines) in absurd (cc same)
  reduce_to_at (item.Reduce t ∷ ys) ps head steps are count fits ic fit lines =
      let same : line.Reduce t ≡ line.Reduce s = reads.2 (line.Reduce t) fit.0 (cc lines) in
      item_to_at parts left cert l part new (line.Reduce s) (item.Reduce s) reads same_part is c more (item.Reduce t) ys ps head steps are count
      fits (omega (arith, ic)) fit.1 (cc same) (cc lines)
  reduce_to_at (item.Leaf f ∷ ys) ps head steps are count fits ic fit lines =
      let same : line.Leaf f.den (length f.rows) ≡ line.Reduce s = reads.2 (line.Leaf f.den (length f.rows)) (
        fit.0.den,
        fit.0.count,
      ) (cc lines) in absurd (cc same)

  pub reduce_to : ItemLeft parts (suc left) cert part c (l ∷ more) → ItemLeft parts left cert new c more
  reduce_to h = reduce_to_at h.items h.proofs h.head h.steps_are h.proofs_are h.count h.fits h.item_count h.items_fit h.lines

  pub reduce_from : ItemLeft parts left cert new c more → ItemLeft parts (suc left) cert part c (l ∷ more)
  reduce_from = item_from_at parts left cert l part new (line.Reduce s) (item.Reduce s) reads same_part is c more reads.1 refl reads.0

-- no line of an item
module _ (parts left : ℕ) (cert : Certificate) (l : List (List ℕ)) (part : Proof) (none : ReadsSpelling item_line ItemLineFits l None) (c : Certificate)
    (more : List (List (List ℕ))) where
  item_none_at : (items : List Item) (proofs : List Proof) → length items ≡ suc left → AllByRecursion ItemFits items
      → l ∷ more ≡ lines_from_item items proofs → ⊥
  item_none_at [] ps ic fit lines = absurd (omega (arith, ic))
  item_none_at (item.Branch a b ∷ ys) ps ic fit lines = none (line.Branch a b) fit.0 (cc lines)
  item_none_at (item.Reduce s ∷ ys) ps ic fit lines = none (line.Reduce s) fit.0 (cc lines)
  item_none_at (item.Leaf f ∷ ys) ps ic fit lines = none (line.Leaf f.den (length f.rows)) (fit.0.den, fit.0.count) (cc lines)

  pub item_none : ItemLeft parts (suc left) cert part c (l ∷ more) → ⊥
  item_none h = item_none_at h.items h.proofs h.item_count h.items_fit h.lines

-- a leaf begins
module _ (parts left : ℕ) (cert : Certificate) (l : List (List ℕ)) (part : Proof) (den rows : ℕ) (leaf : Leaf)
    (reads : ReadsSpelling item_line ItemLineFits l (Some (line.Leaf den rows))) (den_is : leaf.den ≡ den) (is : leaf.rows ≡ [])
    (c : Certificate) (more : List (List (List ℕ))) where
  leaf_to_at : (items : List Item) (proofs : List Proof) → SameHead cert c → c.root_steps ≡ cert.root_steps
      → c.proofs ≡ cert.proofs ++ ((record { part = part.part; items = part.items ++ items }) ∷ proofs) → length proofs ≡ parts
      → AllByRecursion ProofFits proofs
      → length items ≡ suc left → AllByRecursion ItemFits items → l ∷ more ≡ lines_from_item items proofs
      → RowLeft parts left rows cert part leaf c more
  leaf_to_at [] ps head steps are count fits ic fit lines = absurd (omega (arith, ic))
  leaf_to_at (item.Branch a b ∷ ys) ps head steps are count fits ic fit lines =
      let same : line.Branch a b ≡ line.Leaf den rows = reads.2 (line.Branch a b) fit.0 (cc lines) in absurd (cc same)
  leaf_to_at (item.Reduce t ∷ ys) ps head steps are count fits ic fit lines =
      let same : line.Reduce t ≡ line.Leaf den rows = reads.2 (line.Reduce t) fit.0 (cc lines) in absurd (cc same)
  leaf_to_at (item.Leaf f ∷ ys) ps head steps are count fits ic fit lines =
      let same : line.Leaf f.den (length f.rows) ≡ line.Leaf den rows = reads.2 (line.Leaf f.den (length f.rows)) (
        fit.0.den,
        fit.0.count,
      ) (cc lines) in
      let den_same : f.den ≡ leaf.den = cc (same, den_is) in
      let rest : more ≡ (map row_line f.rows ++ flat_map item_lines ys) ++ lines_from_part ps = cc lines in
      record {
        head = head;
        steps_are = steps;
        rows = f.rows;
        items = ys;
        proofs = ps;
        proofs_are = are ∙ (λ i. cert.proofs ++ ((record {
          part = part.part;
          items = part.items ++ (item.Leaf (record { den = den_same i; rows = sym is i ++ f.rows }) ∷ ys);
        }) ∷ ps));
        count = count;
        fits = fits;
        item_count = omega (arith, ic);
        items_fit = fit.1;
        row_count = cc same;
        rows_fit = fit.0.rows;
        lines = rest ∙ append_assoc (map row_line f.rows) (flat_map item_lines ys) (lines_from_part ps);
      }

  pub leaf_to : ItemLeft parts (suc left) cert part c (l ∷ more) → RowLeft parts left rows cert part leaf c more
  leaf_to h = leaf_to_at h.items h.proofs h.head h.steps_are h.proofs_are h.count h.fits h.item_count h.items_fit h.lines

  pub leaf_from : RowLeft parts left rows cert part leaf c more → ItemLeft parts (suc left) cert part c (l ∷ more)
  leaf_from h =
      let f : Leaf = record { den = leaf.den; rows = h.rows } in
      let here : l ≡ leaf_line leaf.den (length h.rows) = reads.1 ∙ (λ i. leaf_line (sym den_is i) (sym h.row_count i)) in
      record {
        head = h.head;
        steps_are = h.steps_are;
        items = item.Leaf f ∷ h.items;
        proofs = h.proofs;
        proofs_are = h.proofs_are ∙ (λ i. cert.proofs ++ ((record {
          part = part.part;
          items = part.items ++ (item.Leaf (record { den = leaf.den; rows = is i ++ h.rows }) ∷ h.items);
        }) ∷ h.proofs));
        count = h.count;
        fits = h.fits;
        item_count = omega (arith, h.item_count);
        items_fit = (
          record { den = omega (arith, den_is, reads.0.0); count = omega (arith, h.row_count, reads.0.1); rows = h.rows_fit },
          h.items_fit,
        );
        lines = (λ i. here i ∷ (h.lines ∙ sym (append_assoc (map row_line h.rows) (flat_map item_lines h.items) (lines_from_part h.proofs))) i);
      }

-- a row
module _ (parts later left : ℕ) (cert : Certificate) (l : List (List ℕ)) (part : Proof) (leaf new : Leaf) (r : TwoSet)
    (reads : ReadsSpelling row_line RowFits l (Some r)) (den_is : new.den ≡ leaf.den) (is : new.rows ≡ leaf.rows ++ (r ∷ []))
    (c : Certificate) (more : List (List (List ℕ))) where
  row_to_at : (rows : List TwoSet) (items : List Item) (proofs : List Proof) → SameHead cert c → c.root_steps ≡ cert.root_steps
      → c.proofs ≡ cert.proofs ++ ((record {
        part = part.part;
        items = part.items ++ (item.Leaf (record { den = leaf.den; rows = leaf.rows ++ rows }) ∷ items);
      }) ∷ proofs)
      → length proofs ≡ parts → AllByRecursion ProofFits proofs → length items ≡ later → AllByRecursion ItemFits items → length rows ≡ suc left
      → AllByRecursion RowFits rows
      → l ∷ more ≡ map row_line rows ++ lines_from_item items proofs → RowLeft parts later left cert part new c more
  row_to_at [] items ps head steps are count fits ic fit rc rf lines = absurd (omega (arith, rc))
  row_to_at (q ∷ qs) items ps head steps are count fits ic fit rc rf lines =
      let same : q ≡ r = reads.2 q rf.0 (cc lines) in
      let rows_are : leaf.rows ++ (q ∷ qs) ≡ new.rows ++ qs = (λ i. leaf.rows ++ (same i ∷ qs)) ∙ push_front leaf.rows r qs ∙ (λ i. sym is i ++ qs) in
      record {
        head = head;
        steps_are = steps;
        rows = qs;
        items = items;
        proofs = ps;
        proofs_are = are ∙ (λ i. cert.proofs ++ ((record {
          part = part.part;
          items = part.items ++ (item.Leaf (record { den = sym den_is i; rows = rows_are i }) ∷ items);
        }) ∷ ps));
        count = count;
        fits = fits;
        item_count = ic;
        items_fit = fit;
        row_count = omega (arith, rc);
        rows_fit = rf.1;
        lines = cc lines;
      }

  pub row_to : RowLeft parts later (suc left) cert part leaf c (l ∷ more) → RowLeft parts later left cert part new c more
  row_to h = row_to_at h.rows h.items h.proofs h.head h.steps_are h.proofs_are h.count h.fits h.item_count h.items_fit h.row_count h.rows_fit h.lines

  pub row_from : RowLeft parts later left cert part new c more → RowLeft parts later (suc left) cert part leaf c (l ∷ more)
  row_from h =
      let rows_are : new.rows ++ h.rows ≡ leaf.rows ++ (r ∷ h.rows) = (λ i. is i ++ h.rows) ∙ sym (push_front leaf.rows r h.rows) in
      record {
        head = h.head;
        steps_are = h.steps_are;
        rows = r ∷ h.rows;
        items = h.items;
        proofs = h.proofs;
        proofs_are = h.proofs_are ∙ (λ i. cert.proofs ++ ((record {
          part = part.part;
          items = part.items ++ (item.Leaf (record { den = den_is i; rows = rows_are i }) ∷ h.items);
        }) ∷ h.proofs));
        count = h.count;
        fits = h.fits;
        item_count = h.item_count;
        items_fit = h.items_fit;
        row_count = omega (arith, h.row_count);
        rows_fit = (reads.0, h.rows_fit);
        lines = (λ i. reads.1 i ∷ h.lines i);
      }

module _ (parts later left : ℕ) (cert : Certificate) (l : List (List ℕ)) (part : Proof) (leaf : Leaf) (none : ReadsSpelling row_line RowFits l None)
    (c : Certificate) (more : List (List (List ℕ))) where
  row_none_at : (rows : List TwoSet) (items : List Item) (proofs : List Proof) → length rows ≡ suc left → AllByRecursion RowFits rows
      → l ∷ more ≡ map row_line rows ++ lines_from_item items proofs → ⊥
  row_none_at [] items ps rc rf lines = absurd (omega (arith, rc))
  row_none_at (q ∷ qs) items ps rc rf lines = none q rf.0 (cc lines)

  pub row_none : RowLeft parts later (suc left) cert part leaf c (l ∷ more) → ⊥
  row_none h = row_none_at h.rows h.items h.proofs h.row_count h.rows_fit h.lines

-- a leaf whose rows are all read is an item behind the others
module _ (parts later : ℕ) (cert : Certificate) (part : Proof) (leaf : Leaf) (items : List Item) (is : items ≡ part.items ++ (item.Leaf leaf ∷ []))
    (c : Certificate) (more : List (List (List ℕ))) where
  leaf_behind : (rest : List Item) → part.items ++ (item.Leaf (record { den = leaf.den; rows = leaf.rows ++ [] }) ∷ rest) ≡ items ++ rest
  leaf_behind rest = (λ i. part.items ++ (item.Leaf (record { den = leaf.den; rows = append-nil leaf.rows i }) ∷ rest))
      ∙ push_front part.items (item.Leaf leaf) rest ∙ (λ i. sym is i ++ rest)

  leaf_done_at : (rows : List TwoSet) (rest : List Item) (proofs : List Proof) → SameHead cert c → c.root_steps ≡ cert.root_steps
      → c.proofs ≡ cert.proofs ++ ((record {
        part = part.part;
        items = part.items ++ (item.Leaf (record { den = leaf.den; rows = leaf.rows ++ rows }) ∷ rest);
      }) ∷ proofs)
      → length proofs ≡ parts → AllByRecursion ProofFits proofs → length rest ≡ later → AllByRecursion ItemFits rest → length rows ≡ 0
      → more ≡ map row_line rows ++ lines_from_item rest proofs → ItemLeft parts later cert (record { part = part.part; items = items }) c more
  leaf_done_at (q ∷ qs) rest ps head steps are count fits ic fit rc lines = absurd (omega (arith, rc))
  leaf_done_at [] rest ps head steps are count fits ic fit rc lines = record {
    head = head;
    steps_are = steps;
    items = rest;
    proofs = ps;
    proofs_are = are ∙ (λ i. cert.proofs ++ ((record { part = part.part; items = leaf_behind rest i }) ∷ ps));
    count = count;
    fits = fits;
    item_count = ic;
    items_fit = fit;
    lines = lines;
  }

  pub leaf_done : RowLeft parts later 0 cert part leaf c more → ItemLeft parts later cert (record { part = part.part; items = items }) c more
  leaf_done h = leaf_done_at h.rows h.items h.proofs h.head h.steps_are h.proofs_are h.count h.fits h.item_count h.items_fit h.row_count h.lines

  pub leaf_undone : ItemLeft parts later cert (record { part = part.part; items = items }) c more → RowLeft parts later 0 cert part leaf c more
  leaf_undone h = record {
    head = h.head;
    steps_are = h.steps_are;
    rows = [];
    items = h.items;
    proofs = h.proofs;
    proofs_are = h.proofs_are ∙ (λ i. cert.proofs ++ ((record { part = part.part; items = sym (leaf_behind h.items) i }) ∷ h.proofs));
    count = h.count;
    fits = h.fits;
    item_count = h.item_count;
    items_fit = h.items_fit;
    row_count = refl;
    rows_fit = tt;
    lines = h.lines;
  }
