use Rattle.std.proofs.Common.{ℕ, List, ap, ◌∙◌, sym, subst, arith}
use Rattle.clu_pace.specs.Adjacency.{IsAdjacency}
use Rattle.clu_pace.specs.Graph.{PaceGraph, are_adjacent}
use Rattle.clu_pace.proofs.Adjacency.{one_edge_more}
use Rattle.clu_pace.proofs.graph.Graph.add.Goals as goal

pub invariant_of-self-2 : goal.invariant_of-self-2
invariant_of-self-2 c =
    let size = ap (λ (g : PaceGraph). g.n) c.self.view_is in
    let edges = ap (λ (g : PaceGraph). g.edges) c.self.view_is in
    let within = c.requires.within in
    let absent = ap (λ (es : List (ℕ × ℕ)). are_adjacent es c.args.u c.args.v) edges ∙ c.requires.absent in
    subst (λ (es : List (ℕ × ℕ)). IsAdjacency es c.put.new.self) (sym c.in_ok-push.ensures.items)
    (one_edge_more c.self.inside.edges.items c.self.inside.adjacent c.put.new.self c.args.u c.args.v c.self.invariant c.put.ensures.grid c.requires.order (omega (arith, size, within)) absent c.put.ensures.put)
