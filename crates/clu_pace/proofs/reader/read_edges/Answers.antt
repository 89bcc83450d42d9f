use Rattle.std.proofs.Common.{ℕ, List, sym, ◌∙◌, subst, ap, length}
use Rattle.clu_pace.specs.Pace.{kept_of}
use Rattle.clu_pace.proofs.Reading.{Reading, are_all}
use Rattle.clu_pace.proofs.reader.read_edges.Goals as goal

pub returns-clause-edges : goal.returns-clause-edges
returns-clause-edges c =
    let all = subst (λ (ls : List (ℕ × List (List ℕ))). Reading c.args.n c.args.m (kept_of c.args.lines.now) ls c.loop-line.graph.edges) c.in_default.ensures c.loop-line.invariant.read in
    record {
      each = are_all _ _ _ _ all;
      once = c.edges-found.ensures.once;
      counted = ap length (sym c.edges-found.ensures.edges) ∙ c.if-found-m.false;
    }
