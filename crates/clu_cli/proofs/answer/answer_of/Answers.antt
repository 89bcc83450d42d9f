use Rattle.std.proofs.Common.{◌≡◌, ◌↔◌, ◌<◌, ◌≤◌, IsTrue, ℕ, ℤ, slice_index, ◌∙◌, sym, subst}
use Rattle.clu_partition.specs.Partition.{EachOnce, blocks_of}
use Rattle.clu_partition.proofs.Once.{each_once}
use Rattle.clu_rules.proofs.ClosureLaws.{permitted_obeys}
use Rattle.clu_search.specs.Count.{count}
use Rattle.clu_cli.specs.Instances.{IsReached, vertices_of}
use Rattle.clu_cli.proofs.Answered.{all_made, at_most_one, one_where, zero_where}
use Rattle.clu_cli.proofs.answer.answer_of.Goals as goal

pub returns : goal.returns
returns c = λ rules closes.
    let instance = c.args.task.now.instance in
    let start = c.args.task.now.start in
    let found = c.in_ok-found.found in
    let cert = found.certificate in
    let told = c.in_ok-found.ensures in
    let facts = c.facts_of-facts.result in
    let said = c.facts_of-facts.ensures in
    let equal : IsTrue c.is_optimal.result ↔ (cert.value ≡ cert.bound) =
    subst (λ (v : ℤ). IsTrue c.is_optimal.result ↔ (v ≡ cert.bound)) said.value
    (subst (λ (b : ℤ). IsTrue c.is_optimal.result ↔ (facts.value ≡ b)) said.bound c.is_optimal.ensures.equal) in
    record {
      labels = found.partition;
      allowed = record { partition = told.partition; obeys = (permitted_obeys (vertices_of instance) rules start closes (slice_index found.partition)).0 told.permitted };
      each_once = subst (λ (n : ℕ). EachOnce n (blocks_of found.partition)) told.partition.one_each (each_once found.partition);
      facts = facts;
      objective = said.objective;
      vertices = said.vertices;
      value = said.value ∙ told.value;
      none_better = λ others is. subst (λ (b : ℤ). IsReached instance b others) (sym said.bound)
          (told.none_better others is.partition ((permitted_obeys (vertices_of instance) rules start closes (slice_index others)).1 is.obeys));
      scale = said.scale;
      text = c.in_ok-text.ensures;
      known = at_most_one c.is_optimal.result;
      optimal = zero_where c.is_optimal.result (facts.value ≡ facts.bound) c.is_optimal.ensures.equal;
      gap = λ one. said.branchings ∙ all_made found.end (cert.value ≡ cert.bound) found.branchings c.args.branchings told.optimal told.gap
          (one_where c.is_optimal.result (cert.value ≡ cert.bound) equal one);
      within = subst (λ (n : ℕ). n ≤ c.args.branchings) (sym said.branchings) told.within;
      fits = told.fits;
      searched = record {
        problem = c.args.task.now.problem;
        poses = c.requires.poses;
        start = start;
        closes = closes;
        valid = told.valid;
        exact = told.exact;
        counted = subst (λ (n : ℕ). n < count start) told.branchings told.counted;
      };
      stated_blocks = told.labels;
      stated_value = sym said.value;
      stated_bound = sym said.bound;
      stated_branchings = sym told.branchings ∙ sym said.branchings;
    }
