-- What is read so far always begins a text.
use Rattle.std.proofs.Common.{◌≡◌, ℕ, pos, zero, suc, ◌<◌, List, [], ◌∷◌, ◌++◌, length, map, codes, refl, sym, ◌∙◌, ap, arith, length-append, append_assoc}
use Rattle.std.specs.List.{flat_map, AllByRecursion}
use Rattle.clu_reduce.specs.declared.step.Kind.TheVariants.{Twin}
use Rattle.clu_cert.specs.declared.certificate.Item.{Item}
use Rattle.clu_cert.specs.declared.certificate.Item.TheVariants as item
use Rattle.clu_reduce.specs.declared.step.Step.{Step}
use Rattle.clu_rows.specs.Rows.{TwoSet}
use Rattle.clu_rows.specs.declared.row.Leaf.{Leaf}
use Rattle.clu_cert.specs.declared.certificate.Proof.{Proof}
use Rattle.clu_cert.specs.declared.certificate.Certificate.{Certificate}
use Rattle.clu_cert.specs.declared.reader.Stage.{Stage}
use Rattle.clu_cert.specs.declared.reader.Stage.TheVariants as at
use Rattle.clu_cert.specs.Fits.{IndexFits, StepFits, RowFits, ItemFits, ProofFits, Fits}
use Rattle.clu_cert.specs.Text.{count_line, whole_line, numbers_line, objective_line, step_line, row_line, item_lines, proof_lines, lines_from_part, lines_from_step, lines_from_steps, lines_from_value, cert_lines}
use Rattle.clu_cert.specs.Reading.{AtStage, StepsFit, lines_from_item}

abbrev copies : {X : Type 0} → ℕ → X → List X
copies zero x = []
copies (suc n) x = x ∷ copies n x

length-copies : {X : Type 0} → (n : ℕ) (x : X) → length (copies n x) ≡ n
length-copies zero x = refl
length-copies (suc n) x = omega (arith, length-copies n x)

all-copies : {X : Type 0} → (P : X → Type 0) (n : ℕ) (x : X) → P x → AllByRecursion P (copies n x)
all-copies P zero x p = tt
all-copies P (suc n) x p = (p, all-copies P n x p)

abbrev a_step : Step
a_step = record { kind = Twin; u = 0; v = 0 }

abbrev a_row : TwoSet
a_row = record { s = 0 ∷ []; t = 0 ∷ []; y = 0 }

abbrev a_proof : Proof
a_proof = record { part = 0 ∷ []; items = [] }

a_row_fits : RowFits a_row
a_row_fits = record { y = omega arith; some_s = omega arith; s = (omega arith, tt); some_t = omega arith; t = (omega arith, tt) }

a_proof_fits : ProofFits a_proof
a_proof_fits = record { part = (omega arith, (omega arith, tt)); count = omega arith; items = tt }

abbrev blank : Certificate → List ℕ → Certificate
blank cert labels = record { objective = cert.objective; labels = labels; value = cert.value; bound = cert.bound; root_steps = []; proofs = [] }

abbrev zeros : Certificate → List ℕ → Certificate
zeros cert labels = record { objective = cert.objective; labels = labels; value = pos 0; bound = pos 0; root_steps = []; proofs = [] }

no_steps : (cert : Certificate) (labels : List ℕ) → StepsFit (blank cert labels)
no_steps cert labels = record { step_count = omega arith; steps = tt; proof_count = omega arith; proofs = tt }

zeros_fit : (cert : Certificate) → Fits (zeros cert [])
zeros_fit cert = record {
  count = omega arith;
  labels = tt;
  value = omega arith;
  bound = omega arith;
  step_count = omega arith;
  steps = tt;
  proof_count = omega arith;
  proofs = tt;
}

pub alive : (s : Stage) (cert : Certificate) (part : Proof) (leaf : Leaf) → (c : Certificate) × (more : List (List (List ℕ)))
    × AtStage s cert part leaf c more
alive at.Version cert part leaf = (zeros cert [], cert_lines (zeros cert []), (zeros_fit cert, refl))
alive at.Objective cert part leaf = let c = zeros cert [] in (
  c,
  objective_line c.objective ∷ count_line (codes "vertices") (length c.labels) ∷ lines_from_value c,
  (zeros_fit cert, refl),
)
alive at.Vertices cert part leaf = let c = zeros cert [] in (
  c,
  count_line (codes "vertices") (length c.labels) ∷ lines_from_value c,
  record { fits = zeros_fit cert; objective = refl; lines = refl },
)
alive (at.Value n) cert part leaf =
    let c = zeros cert (copies n 0) in (
      c,
      lines_from_value c,
      record {
        objective = refl;
        count = length-copies n 0;
        value = omega arith;
        bound = omega arith;
        labels = all-copies IndexFits n 0 (omega arith);
        rest = record {
          step_count = omega arith;
          steps = tt;
          proof_count = omega arith;
          proofs = tt;
        };
        lines = refl;
      },
    )
alive (at.Bound n) cert part leaf =
    let c : Certificate = record {
      objective = cert.objective;
      labels = copies n 0;
      value = cert.value;
      bound = pos 0;
      root_steps = [];
      proofs = [];
    } in (
      c,
      whole_line (codes "bound") c.bound ∷ numbers_line (codes "blocks") c.labels ∷ lines_from_steps c,
      record {
        objective = refl;
        value = refl;
        count = length-copies n 0;
        bound = omega arith;
        labels = all-copies IndexFits n 0 (omega arith);
        rest = record { step_count = omega arith; steps = tt; proof_count = omega arith; proofs = tt };
        lines = refl;
      },
    )
alive (at.Blocks n) cert part leaf =
    let c = blank cert (copies n 0) in (
      c,
      numbers_line (codes "blocks") c.labels ∷ lines_from_steps c,
      record {
        objective = refl;
        value = refl;
        bound = refl;
        count = length-copies n 0;
        labels = all-copies IndexFits n 0 (omega arith);
        rest = no_steps cert (copies n 0);
        lines = refl;
      },
    )
alive at.Steps cert part leaf =
    let c = blank cert cert.labels in (
      c,
      lines_from_steps c,
      record {
        head = record { objective = refl; value = refl; bound = refl; labels = refl };
        rest = no_steps cert cert.labels;
        lines = refl;
      },
    )
alive (at.Step left) cert part leaf =
    let c : Certificate = record {
      objective = cert.objective;
      labels = cert.labels;
      value = cert.value;
      bound = cert.bound;
      root_steps = cert.root_steps ++ copies left a_step;
      proofs = [];
    } in (
      c,
      lines_from_step (copies left a_step) c.proofs,
      record {
        head = record { objective = refl; value = refl; bound = refl; labels = refl };
        steps = copies left a_step;
        steps_are = refl;
        count = length-copies left a_step;
        fits = all-copies StepFits left a_step (omega arith, omega arith);
        proof_count = omega arith;
        proofs = tt;
        lines = refl;
      },
    )
alive (at.Part left) cert part leaf =
    let ps : List Proof = copies left a_proof in
    let c : Certificate = record {
      objective = cert.objective;
      labels = cert.labels;
      value = cert.value;
      bound = cert.bound;
      root_steps = cert.root_steps;
      proofs = cert.proofs ++ ps;
    } in (
      c,
      lines_from_part ps,
      record {
        head = record { objective = refl; value = refl; bound = refl; labels = refl };
        steps_are = refl;
        proofs = ps;
        proofs_are = refl;
        count = length-copies left a_proof;
        fits = all-copies ProofFits left a_proof a_proof_fits;
        lines = refl;
      },
    )
alive (at.Items left) cert part leaf =
    let ps : List Proof = copies left a_proof in
    let c : Certificate = record {
      objective = cert.objective;
      labels = cert.labels;
      value = cert.value;
      bound = cert.bound;
      root_steps = cert.root_steps;
      proofs = cert.proofs ++ ((record { part = part.part; items = [] }) ∷ ps);
    } in (
      c,
      count_line (codes "items") 0 ∷ lines_from_item [] ps,
      record {
        head = record { objective = refl; value = refl; bound = refl; labels = refl };
        steps_are = refl;
        items = [];
        proofs = ps;
        proofs_are = refl;
        count = length-copies left a_proof;
        fits = all-copies ProofFits left a_proof a_proof_fits;
        item_count = omega arith;
        items_fit = tt;
        lines = refl;
      },
    )
alive (at.Item parts left) cert part leaf =
    let ps : List Proof = copies parts a_proof in
    let is : List Item = copies left (item.Branch 0 0) in
    let c : Certificate = record {
      objective = cert.objective;
      labels = cert.labels;
      value = cert.value;
      bound = cert.bound;
      root_steps = cert.root_steps;
      proofs = cert.proofs ++ ((record { part = part.part; items = part.items ++ is }) ∷ ps);
    } in (
      c,
      lines_from_item is ps,
      record {
        head = record { objective = refl; value = refl; bound = refl; labels = refl };
        steps_are = refl;
        items = is;
        proofs = ps;
        proofs_are = refl;
        count = length-copies parts a_proof;
        fits = all-copies ProofFits parts a_proof a_proof_fits;
        item_count = length-copies left (item.Branch 0 0);
        items_fit = all-copies ItemFits left (item.Branch 0 0) (omega arith, omega arith);
        lines = refl;
      },
    )
alive (at.Row parts later left) cert part leaf =
    let ps : List Proof = copies parts a_proof in
    let is : List Item = copies later (item.Branch 0 0) in
    let rs : List TwoSet = copies left a_row in
    let c : Certificate = record {
      objective = cert.objective;
      labels = cert.labels;
      value = cert.value;
      bound = cert.bound;
      root_steps = cert.root_steps;
      proofs = cert.proofs ++ ((record {
        part = part.part;
        items = part.items ++ (item.Leaf (record {
          den = leaf.den;
          rows = leaf.rows ++ rs;
        }) ∷ is);
      }) ∷ ps);
    } in (
      c,
      map row_line rs ++ lines_from_item is ps,
      record {
        head = record { objective = refl; value = refl; bound = refl; labels = refl };
        steps_are = refl;
        rows = rs;
        items = is;
        proofs = ps;
        proofs_are = refl;
        count = length-copies parts a_proof;
        fits = all-copies ProofFits parts a_proof a_proof_fits;
        item_count = length-copies later (item.Branch 0 0);
        items_fit = all-copies ItemFits later (item.Branch 0 0) (omega arith, omega arith);
        row_count = length-copies left a_row;
        rows_fit = all-copies RowFits left a_row a_row_fits;
        lines = refl;
      },
    )
alive at.Done cert part leaf = (cert, [], (refl, refl))

not_nil : (xs ys : List (List (List ℕ))) → 0 < length ys → [] ≡ xs ++ ys → ⊥
not_nil xs ys some e = omega (arith, some, ap length e, length-append xs ys)

from_part_some : (ps : List Proof) → 0 < length (lines_from_part ps)
from_part_some ps = omega (arith, length-append (flat_map proof_lines ps) ((codes "end" ∷ []) ∷ []))

-- only a whole text needs no further line
pub ends_done : (s : Stage) (cert : Certificate) (part : Proof) (leaf : Leaf) (c : Certificate) → AtStage s cert part leaf c [] → (s ≡ at.Done)
    × (c ≡ cert)
ends_done at.Version cert part leaf c h = absurd (cc h.1)
ends_done at.Objective cert part leaf c h = absurd (cc h.1)
ends_done at.Vertices cert part leaf c h = absurd (cc h.lines)
ends_done (at.Value n) cert part leaf c h = absurd (cc h.lines)
ends_done (at.Bound n) cert part leaf c h = absurd (cc h.lines)
ends_done (at.Blocks n) cert part leaf c h = absurd (cc h.lines)
ends_done at.Steps cert part leaf c h = absurd (cc h.lines)
ends_done (at.Step left) cert part leaf c h = absurd
    (not_nil (map step_line h.steps) (count_line (codes "parts") (length c.proofs) ∷ lines_from_part c.proofs) (omega arith) h.lines)
ends_done (at.Part left) cert part leaf c h = absurd (not_nil (flat_map proof_lines h.proofs) ((codes "end" ∷ []) ∷ []) (omega arith) h.lines)
ends_done (at.Items parts) cert part leaf c h = absurd (cc h.lines)
ends_done (at.Item parts left) cert part leaf c h = absurd
    (not_nil (flat_map item_lines h.items) (lines_from_part h.proofs) (from_part_some h.proofs) h.lines)
ends_done (at.Row parts later left) cert part leaf c h = absurd
    (not_nil (map row_line h.rows ++ flat_map item_lines h.items) (lines_from_part h.proofs) (from_part_some h.proofs) (h.lines
    ∙ sym (append_assoc (map row_line h.rows) (flat_map item_lines h.items) (lines_from_part h.proofs))))
ends_done at.Done cert part leaf c h = (refl, h.0)
