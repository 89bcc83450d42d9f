use Rattle.std.proofs.Common.{◌≡◌, ap, sym, ◌∙◌, subst, arith, to_z, of_z}
use mir.Syntax.{w128}
use Rattle.std.proofs.lemmas.Int.{ints}
use Rattle.clu_partition.specs.Pairs.{Pairs}
use Rattle.clu_partition.specs.PairSets.{Chosen}
use Rattle.clu_state.specs.Rebuilt.{TablesAgree}
use Rattle.clu_state.specs.State.{State}
use Rattle.clu_state.proofs.Joined.{fixed_small, agrees_same}
use Rattle.clu_state.proofs.rebuilt.Rebuilt.copy_from.Goals as goal

pub invariant_of-self : goal.invariant_of-self
invariant_of-self c =
    let mine = c.self.inside in
    let other = c.other.inside in
    let small = fixed_small _ other.group.items other.place.items other.weights other.apart other.fixed c.other.invariant in
    let fixed : to_z w128 (of_z w128 other.fixed) ≡ other.fixed = omega (arith, ints, small) in
    let pairs = ap (λ (s : State). s.pairs) c.self.view_is ∙ c.requires.pairs ∙ sym (ap (λ (s : State). s.pairs) c.other.view_is) in
    let start = ap (λ (s : State). s.start) c.self.view_is ∙ c.requires.start ∙ sym (ap (λ (s : State). s.start) c.other.view_is) in
    let members = ap (λ (s : State). s.members) c.self.view_is ∙ c.requires.members ∙ sym (ap (λ (s : State). s.members) c.other.view_is) in
    let decisions = c.in_ok-decisions.ensures ∙ c.deref.ensures.value in
    let s : State = record { pairs = mine.pairs.now; start = mine.start.now; members = mine.members.items; decisions = c.in_ok-decisions.decisions.items } in
    let group = c.copy_from_slice.new.self.items in
    let place = c.copy_from_slice-2.new.self.items in
    subst (λ (w : Pairs). TablesAgree s group place w c.copy_from-2.new.self (to_z w128 (of_z w128 other.fixed))) (sym c.copy_from.ensures)
    (subst (λ (a : Chosen). TablesAgree s group place other.weights a (to_z w128 (of_z w128 other.fixed))) (sym c.copy_from-2.ensures)
    (agrees_same (record { pairs = other.pairs.now; start = other.start.now; members = other.members.items; decisions = other.decisions.items }) s other.group.items group other.place.items place other.weights other.apart other.fixed (to_z w128 (of_z w128 other.fixed)) c.other.invariant
    (λ i. record { pairs = pairs i; start = start i; members = members i; decisions = decisions i })
    (c.copy_from_slice.ensures.items ∙ c.deref-2.ensures.value) (c.copy_from_slice-2.ensures.items ∙ c.deref-3.ensures.value) fixed))
