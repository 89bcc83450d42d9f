use Rattle.std.proofs.Common.{◌∙◌, sym, subst}
use Rattle.clu_tree.specs.Links.{IsUnsplit}
use Rattle.clu_tree.proofs.QueueLaws.{best_once, popped_less, popped_keeps}
use Rattle.clu_tree.proofs.Queued.{not_unsplit, leaf_of}
use Rattle.clu_tree.proofs.grow.clear_split.Goals as goal

pub index-requires : goal.index-requires
index-requires c = c.requires c.in-Some.top.0 c.in-Some.top.1 (c.loop-top.invariant.0 c.in-Some.top.0 c.in-Some.top.1 c.in-Some.ensures.best.there)

pub loop-top-preserved : goal.loop-top-preserved
loop-top-preserved c =
    let w = c.pop.ensures.best in
    let q = best_once c.loop-top.queue.entries c.in-Some.top.0 w.0 c.in-Some.top.1 w.1 c.in-Some.ensures.best w.2 in (
      (λ b k h. c.loop-top.invariant.0 b k (popped_less c.loop-top.queue.entries c.pop.new.self.entries w.0 b w.1 k w.3 h)),
      (λ b k h u. popped_keeps c.loop-top.queue.entries c.pop.new.self.entries w.0 b w.1 k w.3 (c.loop-top.invariant.1 b k h u)
          (λ e. not_unsplit c.args.nodes.now c.in-Some.top.1 k c.index.result.now c.index.ensures (sym c.is_split.ensures ∙ c.if-not-is_split.false) u (q.1 ∙ e))),
    )

pub returns-then-not-is_split-clause-best : goal.returns-then-not-is_split-clause-best
returns-then-not-is_split-clause-best c = λ b k h.
    let q = best_once c.loop-top.queue.entries c.in-Some.top.0 b c.in-Some.top.1 k c.in-Some.ensures.best h in
    subst (IsUnsplit c.args.nodes.now) q.1 (c.index.result.now, c.index.ensures, leaf_of c.index.result.now.standing (sym c.is_split.ensures ∙ c.if-not-is_split.true))
