-- Bytes are a text of one instance at most, and of none where they are refused; an instance poses one problem, whose printed
-- numbers are what partitions are worth.
use Rattle.std.proofs.Common.{◌≡◌, ◌≢◌, ℕ, pos, ◌≤◌, ◌≤ℤ◌, ◌^◌, List, [], slice_index, length, Option, Some, None, Err, refl, sym, ◌∙◌, ap, subst, arith}
use Rattle.std.specs.List.{enumerate_from}
use Rattle.std.proofs.lemmas.Int.{ints}
use Rattle.clu_text.specs.Lines.{lines_of}
use Rattle.clu_partition.specs.Pairs.{weight_of}
use Rattle.clu_partition.specs.Partition.{below}
use Rattle.clu_partition.specs.Values.{value_on}
use Rattle.clu_pace.proofs.Whole.{one_graph}
use Rattle.clu_pace.proofs.Refused.{no_graph}
use Rattle.clu_network.specs.Network.{Net}
use Rattle.clu_network.specs.declared.error.NetError.{NetError}
use Rattle.clu_network.proofs.Exclusive.{not_refused}
use Rattle.clu_network.proofs.OneNetwork.{one_network}
use Rattle.clu_objective.specs.Agreement.{AnswersAgreement}
use Rattle.clu_objective.specs.Lines.{all_sizes, all_weight, first_negative}
use Rattle.clu_objective.specs.Modularity.{AnswersModularity}
use Rattle.clu_objective.specs.Problem.{Posed, printed}
use Rattle.clu_objective.specs.declared.error.ObjError.{ObjError}
use Rattle.clu_objective.specs.declared.error.ObjError.TheVariants.{NegativeWeight, NoWeight, TotalWeight, Memory}
use Rattle.clu_objective.proofs.Poses.{one_problem as one_edit_problem}
use Rattle.clu_objective.proofs.OneNetwork.{one_agreement, one_modularity}
use Rattle.clu_cli.specs.Instances.{FailsToRead, IsEdgeList, IsInstance, Poses, PrintsWorth, Refuses, objective_of, scale_of, vertices_of, worth}
use Rattle.clu_cli.specs.declared.form.Form.{Form}
use Rattle.clu_cli.specs.declared.form.Form.TheVariants as form
use Rattle.clu_cli.specs.declared.instance.Instance.{Instance}
use Rattle.clu_cli.specs.declared.instance.Instance.TheVariants.{Edits, Agreement, Modularity}
use Rattle.clu_cli.specs.declared.refusal.Refusal.{Refusal}
use Rattle.clu_cli.specs.declared.refusal.Refusal.TheVariants as refusal

-- ---- one instance
one_list : (places : Option ℕ) (bytes : List ℕ) (net other : Net) → IsEdgeList places bytes net → IsEdgeList places bytes other → other ≡ net
one_list places bytes net other this that =
    let same = one_network places bytes net other this.text that.text in
    let counts : other.n ≡ net.n = that.counted ∙ ap length same.0 ∙ sym this.counted in
    λ i. record { n = counts i; names = same.0 i; places = same.1 i; lines = same.2 i }

pub one_instance : (f : Form) (bytes : List ℕ) (instance other : Instance) → IsInstance f bytes instance → IsInstance f bytes other → other ≡ instance
one_instance form.Edits bytes (Edits graph) (Edits other) this that = ap Edits (one_graph bytes graph other this that)
one_instance form.Edits bytes (Edits graph) (Agreement other) this that = absurd that
one_instance form.Edits bytes (Edits graph) (Modularity other) this that = absurd that
one_instance form.Edits bytes (Agreement net) other this that = absurd this
one_instance form.Edits bytes (Modularity net) other this that = absurd this
one_instance (form.Agreement places) bytes (Edits graph) other this that = absurd this
one_instance (form.Agreement places) bytes (Agreement net) (Edits other) this that = absurd that
one_instance (form.Agreement places) bytes (Agreement net) (Agreement other) this that = ap Agreement (one_list places bytes net other this.list that.list)
one_instance (form.Agreement places) bytes (Agreement net) (Modularity other) this that = absurd that
one_instance (form.Agreement places) bytes (Modularity net) other this that = absurd this
one_instance (form.Modularity places) bytes (Edits graph) other this that = absurd this
one_instance (form.Modularity places) bytes (Agreement net) other this that = absurd this
one_instance (form.Modularity places) bytes (Modularity net) (Edits other) this that = absurd that
one_instance (form.Modularity places) bytes (Modularity net) (Agreement other) this that = absurd that
one_instance (form.Modularity places) bytes (Modularity net) (Modularity other) this that = ap Modularity (one_list places bytes net other this.list that.list)

-- ---- refused or an instance
unread : (places : Option ℕ) (bytes : List ℕ) (net : Net) (error : NetError) → IsEdgeList places bytes net → FailsToRead places bytes error → ⊥
unread places bytes net error list fails =
    let counted = list.counted in
    let small = list.small in
    fails.0 (not_refused places (enumerate_from 1 (lines_of bytes)) [] net.names list.text.joints error list.text.reads (omega (arith, counted, small)) fails.1)

not_agreeable : (net : Net) (error : ObjError) → error ≢ Memory → AnswersAgreement net (Err error) → all_sizes net.lines ≤ 2 ^ 88 → ⊥
not_agreeable net (NegativeWeight line) some bars light = absurd bars
not_agreeable net NoWeight some bars light = absurd bars
not_agreeable net (TotalWeight sum) some bars light = let is = bars.0 in let more = bars.1 in omega (arith, is, more, light)
not_agreeable net Memory some bars light = some refl

not_modular : (net : Net) (error : ObjError) → error ≢ Memory → AnswersModularity net (Err error) → first_negative net.lines ≡ None → all_weight net.lines ≢ pos 0
    → all_weight net.lines ≤ℤ pos (2 ^ 43) → ⊥
not_modular net (NegativeWeight line) some bars none weighs light = let e : Some line ≡ None = sym bars ∙ none in cc
not_modular net NoWeight some bars none weighs light = weighs bars.1
not_modular net (TotalWeight sum) some bars none weighs light = let is = bars.1 in let more = bars.2 in omega (arith, ints, is, more, light)
not_modular net Memory some bars none weighs light = some refl

pub refused_or_instance : (f : Form) (bytes : List ℕ) (r : Refusal) (instance : Instance) → Refuses f bytes r → IsInstance f bytes instance → ⊥
refused_or_instance form.Edits bytes (refusal.Graph error) (Edits graph) refused is = no_graph bytes error refused.1 graph is
refused_or_instance form.Edits bytes (refusal.Graph error) (Agreement net) refused is = absurd is
refused_or_instance form.Edits bytes (refusal.Graph error) (Modularity net) refused is = absurd is
refused_or_instance form.Edits bytes (refusal.Network error) instance refused is = absurd refused
refused_or_instance form.Edits bytes (refusal.Objective error) instance refused is = absurd refused
refused_or_instance form.Edits bytes (refusal.Rules error) instance refused is = absurd refused
refused_or_instance (form.Agreement places) bytes (refusal.Graph error) instance refused is = absurd refused
refused_or_instance (form.Agreement places) bytes (refusal.Network error) (Edits graph) refused is = absurd is
refused_or_instance (form.Agreement places) bytes (refusal.Network error) (Agreement net) refused is = unread places bytes net error is.list refused
refused_or_instance (form.Agreement places) bytes (refusal.Network error) (Modularity net) refused is = absurd is
refused_or_instance (form.Agreement places) bytes (refusal.Objective error) (Edits graph) refused is = absurd is
refused_or_instance (form.Agreement places) bytes (refusal.Objective error) (Agreement net) refused is =
    let same = one_list places bytes refused.1 net refused.2 is.list in
    not_agreeable refused.1 error refused.0 refused.3 (subst (λ (one : Net). all_sizes one.lines ≤ 2 ^ 88) same is.light)
refused_or_instance (form.Agreement places) bytes (refusal.Objective error) (Modularity net) refused is = absurd is
refused_or_instance (form.Agreement places) bytes (refusal.Rules error) instance refused is = absurd refused
refused_or_instance (form.Modularity places) bytes (refusal.Graph error) instance refused is = absurd refused
refused_or_instance (form.Modularity places) bytes (refusal.Network error) (Edits graph) refused is = absurd is
refused_or_instance (form.Modularity places) bytes (refusal.Network error) (Agreement net) refused is = absurd is
refused_or_instance (form.Modularity places) bytes (refusal.Network error) (Modularity net) refused is = unread places bytes net error is.list refused
refused_or_instance (form.Modularity places) bytes (refusal.Objective error) (Edits graph) refused is = absurd is
refused_or_instance (form.Modularity places) bytes (refusal.Objective error) (Agreement net) refused is = absurd is
refused_or_instance (form.Modularity places) bytes (refusal.Objective error) (Modularity net) refused is =
    let same = one_list places bytes refused.1 net refused.2 is.list in
    not_modular refused.1 error refused.0 refused.3
    (subst (λ (one : Net). first_negative one.lines ≡ None) same is.none_negative)
    (subst (λ (one : Net). all_weight one.lines ≢ pos 0) same is.some)
    (subst (λ (one : Net). all_weight one.lines ≤ℤ pos (2 ^ 43)) same is.light)
refused_or_instance (form.Modularity places) bytes (refusal.Rules error) instance refused is = absurd refused

-- ---- one problem
pub one_problem : (instance : Instance) (p q : Posed) → Poses instance p → Poses instance q → p ≡ q
one_problem (Edits graph) p q this that = one_edit_problem graph p q this that
one_problem (Agreement net) p q this that = one_agreement net p q this that
one_problem (Modularity net) p q this that = one_modularity net p q this that

pub vertices_posed : (instance : Instance) (problem : Posed) → Poses instance problem → problem.pairs.n ≡ vertices_of instance
vertices_posed (Edits graph) problem poses = poses.vertices
vertices_posed (Agreement net) problem poses = poses.vertices
vertices_posed (Modularity net) problem poses = poses.vertices

pub objective_posed : (instance : Instance) (problem : Posed) → Poses instance problem → problem.objective ≡ objective_of instance
objective_posed (Edits graph) problem poses = poses.objective
objective_posed (Agreement net) problem poses = poses.objective
objective_posed (Modularity net) problem poses = poses.objective

pub worth_printed : (instance : Instance) (problem : Posed) → Poses instance problem → PrintsWorth instance problem → (labels : List ℕ)
    → length labels ≡ vertices_of instance → printed problem (value_on (weight_of problem.pairs) (slice_index labels) (below problem.pairs.n)) ≡ worth instance labels
worth_printed (Edits graph) problem poses prints labels each =
    ap (λ (n : ℕ). printed problem (value_on (weight_of problem.pairs) (slice_index labels) (below n))) poses.vertices ∙ prints labels
worth_printed (Agreement net) problem poses prints labels each =
    ap (λ (n : ℕ). printed problem (value_on (weight_of problem.pairs) (slice_index labels) (below n))) poses.vertices ∙ prints labels
worth_printed (Modularity net) problem poses prints labels each =
    ap (λ (n : ℕ). printed problem (value_on (weight_of problem.pairs) (slice_index labels) (below n))) poses.vertices ∙ prints labels each

pub scale_posed : (instance : Instance) (problem : Posed) → Poses instance problem → pos problem.scale ≡ scale_of instance
scale_posed (Edits graph) problem poses = ap pos poses.scale
scale_posed (Agreement net) problem poses = ap pos poses.scale
scale_posed (Modularity net) problem poses = poses.scale
