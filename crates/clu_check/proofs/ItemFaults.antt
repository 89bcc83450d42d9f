-- A fault of a part's tree, as the rejection says it.
use Rattle.std.proofs.Common.{◌≡◌, ◌⊎◌, ℕ, ℤ, ◌+◌, ◌-◌, ◌^◌, min, List, Result, Err, refl, sym, subst, arith}
use Rattle.clu_state.specs.State.{State}
use Rattle.clu_cert.specs.Upper.{IsBadStep, IsBadLeaf, FailsAt, EndsEarly, GoesOn}
use Rattle.clu_cert.specs.declared.certificate.Item.{Item}
use Rattle.clu_check.specs.Rejected.{as_count}
use Rattle.clu_check.specs.Proved.{IsItemFault, rejected_by}
use Rattle.clu_check.specs.declared.reject.Reject.{Reject}
use Rattle.clu_check.specs.declared.tree.TreeFault.{TreeFault}
use Rattle.clu_check.specs.declared.tree.TreeFault.TheVariants.{Step, Leaf, Unfinished, Memory}

-- a count that stands still goes on standing still
pub saturated : (most count earlier number : ℕ) → earlier ≡ min count most → min (earlier + number) most ≡ min (count + number) most
saturated most count earlier number e = omega arith

record Faults (s : State) (items : List Item) (r : Result ℤ TreeFault) : Type 0 where
  at_step : (number : ℕ) → r ≡ Err (Step number) → FailsAt IsBadStep s items number
  at_leaf : (number : ℕ) → r ≡ Err (Leaf number) → FailsAt IsBadLeaf s items number
  not_whole : r ≡ Err Unfinished → EndsEarly s items ⊎ GoesOn s items

by_fault : (s : State) (items : List Item) (count earlier part : ℕ) (r : Result ℤ TreeFault) (fault : TreeFault) → r ≡ Err fault →
    earlier ≡ as_count count → Faults s items r
    → IsItemFault s items count part (rejected_by fault earlier part)
by_fault s items count earlier part r (Step number) is e f = (number, f.at_step number is, saturated (2 ^ 64 - 1) count earlier number e)
by_fault s items count earlier part r (Leaf number) is e f = (number, f.at_leaf number is, saturated (2 ^ 64 - 1) count earlier number e)
by_fault s items count earlier part r Unfinished is e f = (f.not_whole is, refl)
by_fault s items count earlier part r Memory is e f = tt

pub item_fault : (s t : State) (items given : List Item) (count earlier part : ℕ) (r : Result ℤ TreeFault) (fault : TreeFault)
    (reject : Reject) → s ≡ t → items ≡ given
    → r ≡ Err fault → reject ≡ rejected_by fault earlier part → earlier ≡ as_count count
    → ((number : ℕ) → r ≡ Err (Step number) → FailsAt IsBadStep s items number)
    → ((number : ℕ) → r ≡ Err (Leaf number) → FailsAt IsBadLeaf s items number)
    → (r ≡ Err Unfinished → EndsEarly s items ⊎ GoesOn s items)
    → IsItemFault t given count part reject
item_fault s t items given count earlier part r fault reject states are is by e at_step at_leaf not_whole =
    subst (λ (u : State). IsItemFault u given count part reject) states
    (subst (λ (xs : List Item). IsItemFault s xs count part reject) are
    (subst (λ (k : Reject). IsItemFault s items count part k) (sym by)
    (by_fault s items count earlier part r fault is e (record { at_step = at_step; at_leaf = at_leaf; not_whole = not_whole }))))
