use Rattle.std.proofs.Common.{◌≡◌, ◌+ℤ◌, ◌++◌, ℕ, List, length, arith, subst, sym, ap, refl, take, drop}
use Rattle.std.proofs.lemmas.Int.{ints}
use Rattle.std.proofs.lemmas.Grind.{common_steps}
use Rattle.clu_state.specs.State.{State, IsFree, CanDecide, decided}
use Rattle.clu_state.specs.declared.decision.Decision.TheVariants.{Together, Apart}
use Rattle.clu_state.proofs.Joined.{fixed_small, agrees_same}
use Rattle.clu_state.proofs.rebuilt.RebuiltSituation.decide.Goals as goal

put_back : (n : ℕ) (ys zs : List ℕ) → n ≡ length ys → take n (ys ++ zs) ≡ ys
put_back n ys zs e = grind (arith, common_steps)

pub overflow_add-self : goal.overflow_add-self
overflow_add-self c =
    let s : State = record { pairs = c.self.inside.pairs.now; start = c.self.inside.start.now; members = c.self.inside.members.items; decisions = c.self.inside.decisions.items } in
    let f : IsFree s c.in-Together.u c.in-Together.v = subst (λ d. CanDecide s d) c.in-Together.is (subst (λ t. CanDecide t c.args.d) (sym c.self.view_is) c.requires) in
    let g = agrees_same s s c.self.inside.group.items c.deref_mut.result.now c.self.inside.place.items c.deref-in-Together.result.now c.self.inside.weights c.self.inside.apart c.self.inside.fixed c.self.inside.fixed c.self.invariant refl c.deref_mut.ensures.value c.deref-in-Together.ensures.value refl in
    let h = c.join-gained.ensures s c.self.inside.fixed (sym c.deref.ensures.value) g f in
    let k = fixed_small (decided s (Together c.in-Together.u c.in-Together.v)) c.join-gained.new.group c.deref-in-Together.result.now c.join-gained.new.weights c.join-gained.new.apart (c.self.inside.fixed +ℤ c.join-gained.result) h in
    omega (arith, ints, k)

pub invariant_of-self-in-Together : goal.invariant_of-self-in-Together
invariant_of-self-in-Together c =
    let s : State = record { pairs = c.self.inside.pairs.now; start = c.self.inside.start.now; members = c.self.inside.members.items; decisions = c.self.inside.decisions.items } in
    let f : IsFree s c.in-Together.u c.in-Together.v = subst (λ d. CanDecide s d) c.in-Together.is (subst (λ t. CanDecide t c.args.d) (sym c.self.view_is) c.requires) in
    let g = agrees_same s s c.self.inside.group.items c.deref_mut.result.now c.self.inside.place.items c.deref-in-Together.result.now c.self.inside.weights c.self.inside.apart c.self.inside.fixed c.self.inside.fixed c.self.invariant refl c.deref_mut.ensures.value c.deref-in-Together.ensures.value refl in
    let h = c.join-gained.ensures s c.self.inside.fixed (sym c.deref.ensures.value) g f in
    let k = fixed_small (decided s (Together c.in-Together.u c.in-Together.v)) c.join-gained.new.group c.deref-in-Together.result.now c.join-gained.new.weights c.join-gained.new.apart (c.self.inside.fixed +ℤ c.join-gained.result) h in
    let a = c.join-gained.auto.group in
    let b = c.deref_mut.ensures.len in
    agrees_same (decided s (Together c.in-Together.u c.in-Together.v)) _ c.join-gained.new.group _ c.deref-in-Together.result.now c.self.inside.place.items c.join-gained.new.weights c.join-gained.new.apart (c.self.inside.fixed +ℤ c.join-gained.result) _ h
    (ap (λ ds. record s { decisions = ds }) c.in_ok-push-in-Together.ensures.items)
    (put_back c.self.inside.group.len c.join-gained.new.group (drop (length c.join-gained.new.group) c.self.inside.group.items) (omega (arith, a, b)))
    (sym c.deref-in-Together.ensures.value)
    (omega (arith, ints, k))

pub separate-requires : goal.separate-requires
separate-requires c =
    let s : State = record { pairs = c.self.inside.pairs.now; start = c.self.inside.start.now; members = c.self.inside.members.items; decisions = c.self.inside.decisions.items } in
    let f : IsFree s c.in-Apart.u c.in-Apart.v = subst (λ d. CanDecide s d) c.in-Apart.is (subst (λ t. CanDecide t c.args.d) (sym c.self.view_is) c.requires) in
    let g = agrees_same s s c.self.inside.group.items c.deref-in-Apart-2.result.now c.self.inside.place.items c.deref-in-Apart.result.now c.self.inside.weights c.self.inside.apart c.self.inside.fixed c.self.inside.fixed c.self.invariant refl c.deref-in-Apart-2.ensures.value c.deref-in-Apart.ensures.value refl in
    record { some = (s, c.self.inside.weights, c.self.inside.fixed, g, f) }

pub invariant_of-self-in-Apart : goal.invariant_of-self-in-Apart
invariant_of-self-in-Apart c =
    let s : State = record { pairs = c.self.inside.pairs.now; start = c.self.inside.start.now; members = c.self.inside.members.items; decisions = c.self.inside.decisions.items } in
    let f : IsFree s c.in-Apart.u c.in-Apart.v = subst (λ d. CanDecide s d) c.in-Apart.is (subst (λ t. CanDecide t c.args.d) (sym c.self.view_is) c.requires) in
    let g = agrees_same s s c.self.inside.group.items c.deref-in-Apart-2.result.now c.self.inside.place.items c.deref-in-Apart.result.now c.self.inside.weights c.self.inside.apart c.self.inside.fixed c.self.inside.fixed c.self.invariant refl c.deref-in-Apart-2.ensures.value c.deref-in-Apart.ensures.value refl in
    let h = c.separate.ensures s c.self.inside.weights c.self.inside.fixed g f in
    agrees_same (decided s (Apart c.in-Apart.u c.in-Apart.v)) _ c.deref-in-Apart-2.result.now c.self.inside.group.items c.deref-in-Apart.result.now c.self.inside.place.items c.self.inside.weights c.separate.new.apart c.self.inside.fixed c.self.inside.fixed h
    (ap (λ ds. record s { decisions = ds }) c.in_ok-push-in-Apart.ensures.items) (sym c.deref-in-Apart-2.ensures.value) (sym c.deref-in-Apart.ensures.value) refl
