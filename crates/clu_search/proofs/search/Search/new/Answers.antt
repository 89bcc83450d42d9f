use Rattle.std.proofs.Common.{◌≡◌, ◌≤◌, ap, ◌∙◌, subst, arith, to_z, of_z}
use Rattle.std.specs.Int.{w128}
use Rattle.std.proofs.lemmas.Int.{ints}
use Rattle.clu_partition.specs.Pairs.{Pairs}
use Rattle.clu_partition.specs.Partition.{below}
use Rattle.clu_objective.specs.Problem.{Posed, IsPosed}
use Rattle.clu_state.specs.State.{State}
use Rattle.clu_search.specs.Incumbent.{IsIncumbent}
use Rattle.clu_search.specs.declared.search.Search.{Search}
use Rattle.clu_search.proofs.Searching.{first_search, none_made, root_of, state_for}
use Rattle.clu_search.proofs.search.Search.new.Goals as goal

pub new-requires-2-clause-valid : goal.new-requires-2-clause-valid
new-requires-2-clause-valid c = state_for c.args.problem.now _ c.args.start.now c.n.result c.problem.view_is c.problem.invariant
    c.in_ok-incumbent.ensures.closed c.n.ensures.value c.n.ensures.small c.requires

pub returns-clause-search : goal.returns-clause-search
returns-clause-search c =
    let problem = c.args.problem.now in
    let start = c.args.start.now in
    let s : Search = record { problem = c.args.problem; start = c.args.start; states = c.in_ok-states.states; tree = c.in_ok-tree.tree; incumbent = c.fresh.new.best; scratch = c.fresh.new.scratch } in
    let pairs : c.problem.inside.pairs ≡ problem.pairs = ap (λ (p : Posed). p.pairs) c.problem.view_is in
    let size : c.n.result ≡ problem.pairs.n = c.n.ensures.value ∙ ap (λ (t : Pairs). t.n) pairs in
    let vertices : c.in_ok-vertices.vertices ≡ below problem.pairs.n = c.in_ok-vertices.ensures ∙ ap below size in
    let floor : to_z w128 (of_z w128 c.fresh.new.best.value) ≡ c.fresh.new.best.value = omega (arith, ints) in
    let root = root_of problem start c.problem.inside.pairs c.as_slice-members.result.now (to_z w128 (of_z w128 c.fresh.new.best.value)) c.in_ok-root.root
    c.in_ok-tree.tree pairs (c.as_slice-members.ensures ∙ vertices) c.in_ok-tree.ensures in
    let room : problem.pairs.n ≤ c.fresh.new.scratch.n =
    (let size = c.n-2.ensures.value in let same = ap (λ (t : Pairs). t.n) pairs in let first = c.in_ok-scratch.ensures in let last = c.in_ok-root.ensures.room in
    omega (arith, size, same, first, last)) in
    let known : IsIncumbent problem.pairs start c.fresh.new.best =
    subst (λ (t : State). IsIncumbent t.pairs t.start c.fresh.new.best) c.in_ok-states.ensures.root c.in_ok-root.ensures.known in
    first_search s c.in_ok-root.root (to_z w128 (of_z w128 c.fresh.new.best.value)) (subst IsPosed c.problem.view_is c.problem.invariant)
    (state_for problem _ start c.n.result c.problem.view_is c.problem.invariant c.in_ok-incumbent.ensures.closed c.n.ensures.value c.n.ensures.small c.requires)
    c.in_ok-states.ensures root floor room known c.in_ok-root.ensures.settled

pub returns-clause-unbranched : goal.returns-clause-unbranched
returns-clause-unbranched c =
    let problem = c.args.problem.now in
    let s : Search = record { problem = c.args.problem; start = c.args.start; states = c.in_ok-states.states; tree = c.in_ok-tree.tree; incumbent = c.fresh.new.best; scratch = c.fresh.new.scratch } in
    let pairs : c.problem.inside.pairs ≡ problem.pairs = ap (λ (p : Posed). p.pairs) c.problem.view_is in
    let size : c.n.result ≡ problem.pairs.n = c.n.ensures.value ∙ ap (λ (t : Pairs). t.n) pairs in
    let vertices : c.in_ok-vertices.vertices ≡ below problem.pairs.n = c.in_ok-vertices.ensures ∙ ap below size in
    none_made s c.in_ok-root.root (to_z w128 (of_z w128 c.fresh.new.best.value))
    (root_of problem c.args.start.now c.problem.inside.pairs c.as_slice-members.result.now (to_z w128 (of_z w128 c.fresh.new.best.value)) c.in_ok-root.root
    c.in_ok-tree.tree pairs (c.as_slice-members.ensures ∙ vertices) c.in_ok-tree.ensures)
