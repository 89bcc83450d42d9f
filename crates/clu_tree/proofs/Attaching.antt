-- Two inserts, a link between them and a write of the split node put two new leaves into the arena.
use Rattle.std.proofs.Common.{◌≡◌, ◌≢◌, ℕ, ◌+◌, sym, ap, subst, ◌∙◌, arith, Option, Some, None, is_some, cond, count_by}
use Rattle.std.proofs.lemmas.List.Sums.{sum_by-set}
use Rattle.slab.specs.Slab.{Slab, get, slab_len, with_value, Updates}
use Rattle.slab.proofs.SlabLemmas.{Updates-with_value, ContainsKey-within}
use Rattle.clu_state.specs.declared.decision.Decision.TheVariants.{Together, Apart}
use Rattle.clu_tree.specs.declared.node.Fresh.{Fresh}
use Rattle.clu_tree.specs.declared.node.Node.{Node}
use Rattle.clu_tree.specs.declared.node.Standing.{Standing}
use Rattle.clu_tree.specs.Nodes.{split_on}
use Rattle.clu_tree.specs.Links.{Attached, leaf_node, side_of}
use Rattle.clu_tree.proofs.Arena.{some_one, not_none}
use Rattle.clu_tree.proofs.Queued.{there_is}

written_len : (s : Slab Node) (key : ℕ) (m n : Node) → get s key ≡ Some m → slab_len (with_value s key n) ≡ slab_len s
written_len s key m n e =
    let h = sum_by-set (λ (o : Option Node). cond (is_some o) 1 0) s.slots key (Some n) None (ContainsKey-within s key (there_is (get s key) m e)) in
    let one : ◌≡◌ {A = ℕ} (cond (is_some (get s key)) 1 0) 1 = ap (λ o. cond (is_some o) 1 0) e in
    omega (arith, h, one)

-- the arena before, with room, with the first leaf, with the second one, and with the first linked to it
pub record Inserted (old room one two three : Slab Node) (key p q : ℕ) (n m x y w : Node) : Type 0 where
  pub slots : room.slots ≡ old.slots
  pub had : get room key ≡ Some n
  pub first_vacant : get room p ≡ None
  pub first : Updates room one p (Some x)
  pub first_len : slab_len one ≡ slab_len room + 1
  pub second_vacant : get one q ≡ None
  pub second : Updates one two q (Some y)
  pub second_len : slab_len two ≡ slab_len one + 1
  pub first_there : get two p ≡ Some w
  pub linked : three ≡ with_value two p (record w { next = q })
  pub has : get three key ≡ Some m

module _ (old room one two three : Slab Node) (key p q : ℕ) (n m x y w : Node) (i : Inserted old room one two three key p q n m x y w) where
  same : (k : ℕ) → get room k ≡ get old k
  same k = ap (λ slots. get (record room { slots = slots }) k) i.slots

  same_len : slab_len room ≡ slab_len old
  same_len = ap (count_by is_some) i.slots

  first_differs : key ≢ p
  first_differs e = not_none (get room key) n i.had (ap (get room) e ∙ i.first_vacant)

  key_one : get one key ≡ Some n
  key_one = i.first.others key first_differs ∙ i.had

  second_differs : key ≢ q
  second_differs e = not_none (get one key) n key_one (ap (get one) e ∙ i.second_vacant)

  both_differ : p ≢ q
  both_differ e = not_none (get one p) x i.first.changed (ap (get one) e ∙ i.second_vacant)

  link : Updates two three p (Some (record w { next = q }))
  link = subst (λ t. Updates two t p (Some (record w { next = q }))) (sym i.linked)
      (Updates-with_value two p (record w { next = q }) (there_is (get two p) w i.first_there))

  link_len : slab_len three ≡ slab_len two
  link_len = ap slab_len i.linked ∙ written_len two p w (record w { next = q }) i.first_there

  first_is : w ≡ x
  first_is = some_one (get two p) w x i.first_there (i.second.others p both_differ ∙ i.first.changed)

  key_three : n ≡ m
  key_three = some_one (get three key) n m (link.others key first_differs ∙ i.second.others key second_differs ∙ key_one) i.has

pub attached : (old room one two three : Slab Node) (key p q later : ℕ) (pair : ℕ × ℕ) (together apart : Fresh) (n m w : Node) (standing : Standing)
    → Inserted old room one two three key p q n m (leaf_node together later (side_of key (Together pair.0 pair.1)))
    (leaf_node apart n.next (side_of key (Apart pair.0 pair.1))) w
    → standing ≡ split_on pair m.standing
    → Attached old (with_value three key (record m { standing = standing; next = p })) key pair together apart (p, q)
attached old room one two three key p q later pair together apart n m w standing i z =
    let x = leaf_node together later (side_of key (Together pair.0 pair.1)) in
    let y = leaf_node apart n.next (side_of key (Apart pair.0 pair.1)) in
    let now = record m { standing = standing; next = p } in
    let written = Updates-with_value three key now (there_is (get three key) m i.has) in
    let linked = link old room one two three key p q n m x y w i in
    let was = same old room one two three key p q n m x y w i in
    let differ = both_differ old room one two three key p q n m x y w i in
    let not_first = first_differs old room one two three key p q n m x y w i in
    let not_second = second_differs old room one two three key p q n m x y w i in
    let had = λ (k : Node) (e : get old key ≡ Some k). some_one (get room key) n k i.had (was key ∙ e) in
    record {
      len = let h = written_len three key m now i.has in
          let l = link_len old room one two three key p q n m x y w i in
          let a = i.first_len in
          let b = i.second_len in
          let c = same_len old room one two three key p q n m x y w i in
          omega (arith, h, l, a, b, c);
      first_vacant = sym (was p) ∙ i.first_vacant;
      second_vacant = sym (was q) ∙ sym (i.first.others q (λ e. differ (sym e))) ∙ i.second_vacant;
      differ = differ;
      first = written.others p (λ e. not_first (sym e)) ∙ linked.changed
          ∙ ap (λ (r : Node). Some (record r { next = q })) (first_is old room one two three key p q n m x y w i);
      second = λ k e. written.others q (λ f. not_second (sym f)) ∙ linked.others q (λ f. differ (sym f)) ∙ i.second.changed
          ∙ ap (λ (r : Node). Some (leaf_node apart r.next (side_of key (Apart pair.0 pair.1)))) (had k e);
      split = λ k e. written.changed ∙ ap (λ (c : Standing). Some (record m { standing = c; next = p })) z ∙ ap (λ (r : Node). Some (record r { standing = split_on pair r.standing; next = p }))
          (sym (key_three old room one two three key p q n m x y w i) ∙ had k e);
      others = λ k d e f. written.others k d ∙ linked.others k e ∙ i.second.others k f ∙ i.first.others k e ∙ was k;
    }
