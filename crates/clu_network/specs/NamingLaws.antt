-- Each vertex of a network is named by its name, and no other: the laws of `Names` for networks. They stand here since an
-- `impl` can import the proofs of its laws from nowhere else.
use Rattle.std.specs.Prelude.{◌≡◌, ℕ, ◌<◌, ◌≤◌, Bool, true, false, ◌||◌, if◌then◌else◌, List, [], ◌∷◌, ◌++◌, Some, None, length, slice_get, get_or}
use Rattle.std.specs.List.{position_or_len, list_any, IsDistinct, AllByRecursion}
use Rattle.std.specs.Str.{bytes_eq}
use Rattle.std.proofs.Common.{arith, refl, sym, subst, ◌∙◌, ap, append_assoc, nat_lt, cond}
use Rattle.std.proofs.lemmas.Bool.Decides.{nat_tests}
use Rattle.std.proofs.lemmas.List.{append-nil}
use Rattle.std.proofs.lemmas.Cmp.{nat_list_eq_equiv}
use Rattle.std.proofs.lemmas.Map.Keys.{IsDistinct-push, apart_from_distinct}
use Rattle.std.proofs.lemmas.List.Quantifiers.{position-Some}
use Rattle.std.proofs.lemmas.List.Sums.{position_or_len_is}
use Rattle.std.proofs.lemmas.Option.{slice_get_within, get_or_from_slice_get}
use Rattle.clu_network.specs.NameList.{with_name, with_names}
use Rattle.clu_network.specs.Naming.{net_names, IsNameOf}
use Rattle.clu_network.specs.Network.{Net}

by_test : (b : Bool) (old : List (List ℕ)) (name : List ℕ) → list_any (bytes_eq name) old ≡ b → IsDistinct bytes_eq old
    → IsDistinct bytes_eq (if b then old else old ++ name ∷ [])
by_test true old name is apart = apart
by_test false old name is apart = IsDistinct-push nat_list_eq_equiv old name apart is

-- no name is there twice
all_apart : (old names : List (List ℕ)) → IsDistinct bytes_eq old → IsDistinct bytes_eq (with_names old names)
all_apart old [] apart = apart
all_apart old (name ∷ names) apart = all_apart (with_name old name) names (by_test (list_any (bytes_eq name) old) old name refl apart)

each_apart : (net : Net) → IsDistinct bytes_eq (net_names net)
unfolding IsDistinct net_names
each_apart net = all_apart [] net.names tt

-- a list that has no name twice is read as it stands
in_middle : (P : List ℕ → Type 0) (xs : List (List ℕ)) (name : List ℕ) (names : List (List ℕ)) → AllByRecursion P (xs ++ name ∷ names) → P name
in_middle P [] name names all = all.0
in_middle P (x ∷ xs) name names all = in_middle P xs name names all.1

absent : (old : List (List ℕ)) (name : List ℕ) (names : List (List ℕ)) → IsDistinct bytes_eq (old ++ name ∷ names) → list_any (bytes_eq name) old ≡ false
unfolding IsDistinct
absent [] name names apart = refl
absent (x ∷ old) name names apart =
    let differ = nat_list_eq_equiv.symm name x ∙ in_middle (λ y. bytes_eq x y ≡ false) old name names apart.0 in
    let rest = absent old name names apart.1 in
    λ i. differ i || rest i

all_there : (old names : List (List ℕ)) → IsDistinct bytes_eq (old ++ names) → with_names old names ≡ old ++ names
all_there old [] apart = sym (append-nil old)
all_there old (name ∷ names) apart =
    let first : with_name old name ≡ old ++ name ∷ [] = ap (λ b. if b then old else old ++ name ∷ []) (absent old name names apart) in
    let again : (old ++ name ∷ []) ++ names ≡ old ++ name ∷ names = append_assoc old (name ∷ []) names in
    ap (λ (ns : List (List ℕ)). with_names ns names) first ∙ all_there (old ++ name ∷ []) names (subst (IsDistinct bytes_eq) (sym again) apart) ∙ again

-- a network's names are its list of them
pub names_are : (net : Net) → IsDistinct bytes_eq net.names → net_names net ≡ net.names
unfolding net_names
names_are net apart = all_there [] net.names apart

-- ---- the laws
pub one_name : (net : Net) (name : List ℕ) (u v : ℕ) → IsNameOf net name u → IsNameOf net name v → u ≡ v
one_name net name u v is_u is_v = let e : Some u ≡ Some v = sym is_u ∙ is_v in cc

pub named_within : (net : Net) (name : List ℕ) (v : ℕ) → IsNameOf net name v → v < length (net_names net)
named_within net name v is = (position-Some (bytes_eq name) (net_names net) v [] is).0

first_place : (names : List (List ℕ)) (v : ℕ) (name : List ℕ) → IsDistinct bytes_eq names → slice_get names v ≡ Some name → position_or_len (bytes_eq name) names ≡ v
first_place names v name apart is =
    let there : get_or names v [] ≡ name = get_or_from_slice_get names v name [] is in
    let within : v < length names = slice_get_within names v name is in
    position_or_len_is (bytes_eq name) names v [] (omega (arith, within))
    (λ k before. nat_list_eq_equiv.symm name (get_or names k []) ∙ ap (bytes_eq (get_or names k [])) (sym there) ∙ apart_from_distinct bytes_eq names k v [] apart before within)
    (λ _. ap (bytes_eq name) there ∙ nat_list_eq_equiv.refl name)

pub own_name : (net : Net) (v : ℕ) (name : List ℕ) → length (net_names net) ≤ 1000 → slice_get (net_names net) v ≡ Some name → IsNameOf net name v
own_name net v name small is =
    let at = first_place (net_names net) v name (each_apart net) is in
    let within : v < length (net_names net) = slice_get_within (net_names net) v name is in
    let test : nat_lt v (length (net_names net)) ≡ true = grind (arith, nat_tests) in
    ap (λ (k : ℕ). cond (nat_lt k (length (net_names net))) (Some k) None) at ∙ ap (λ b. cond b (Some v) None) test
