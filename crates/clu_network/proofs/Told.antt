-- Each line of a network is told by the text that it was read from.
use Rattle.std.proofs.Common.{◌≡◌, ⊎_elim, ℕ, zero, suc, ◌+◌, ◌<◌, ◌≤◌, Bool, true, false, if◌then◌else◌, bytes_eq, List, [], ◌∷◌, ◌++◌, All, map, length, take, cond, Option, Some, slice_get, get_or, ◌==◌, refl, sym, ◌∙◌, ap, subst, arith}
use Rattle.std.specs.List.{enumerate_from, filter, flat_map, list_any, position_or_len}
use Rattle.std.proofs.lemmas.List.Sums.{passes_at_first}
use Rattle.std.proofs.lemmas.Option.{slice_get-get_or, slice_get_within}
use Rattle.std.proofs.lemmas.Slice.Eq.{bytes_eq-Decides}
use Rattle.clu_partition.proofs.SumLaws.{Each}
use Rattle.clu_partition.proofs.ListLaws.{each_at, each_map}
use Rattle.clu_text.specs.Lines.{fields_of, lines_of}
use Rattle.clu_network.specs.Entries.{Weighs}
use Rattle.clu_network.specs.NameList.{with_name, with_names, number_of}
use Rattle.clu_network.specs.Network.{Net}
use Rattle.clu_network.specs.Reading.{is_kept_in_network, IsKeptText, AddsNames, AddsJoint, ReadsNetwork}
use Rattle.clu_network.specs.Scaling.{scaled_to, IsNetwork}
use Rattle.clu_network.specs.Telling.{names_in, all_names_in, has_two, numbers_in, IsLineOf}
use Rattle.clu_network.specs.declared.network.NetLine.{NetLine}
use Rattle.clu_network.specs.declared.reader.Joint.{Joint}
use Rattle.clu_network.proofs.NameLaws.{none_passes}
use Rattle.clu_network.proofs.ReadLaws.{any_in}
use Rattle.clu_network.proofs.Whole.{each_most}

-- ---- a name stays at its number
behind : {A : Type 0} (xs ys : List A) (k : ℕ) (x : A) → slice_get xs k ≡ Some x → slice_get (xs ++ ys) k ≡ Some x
behind [] ys k x e = absurd (let l = slice_get_within [] k x e in omega (arith, l))
behind (a ∷ xs) ys zero x e = e
behind (a ∷ xs) ys (suc k) x e = behind xs ys k x e

at_end : {A : Type 0} (xs : List A) (x : A) → slice_get (xs ++ x ∷ []) (length xs) ≡ Some x
at_end [] x = refl
at_end (a ∷ xs) x = at_end xs x

stays_by : (b : Bool) (names : List (List ℕ)) (name : List ℕ) (k : ℕ) (x : List ℕ) → slice_get names k ≡ Some x → slice_get (if b then names else names ++ name ∷ []) k ≡ Some x
stays_by true names name k x e = e
stays_by false names name k x e = behind names (name ∷ []) k x e

stays : (names : List (List ℕ)) (name : List ℕ) (k : ℕ) (x : List ℕ) → slice_get names k ≡ Some x → slice_get (with_name names name) k ≡ Some x
stays names name k x e = stays_by (list_any (bytes_eq name) names) names name k x e

placed_by : (b : Bool) (names : List (List ℕ)) (name : List ℕ) → list_any (bytes_eq name) names ≡ b → slice_get (if b then names else names ++ name ∷ []) (number_of names name) ≡ Some name
placed_by true names name is =
    let within : position_or_len (bytes_eq name) names < length names = any_in (bytes_eq name) names is in
    let same : name ≡ get_or names (position_or_len (bytes_eq name) names) [] = (bytes_eq-Decides name (get_or names (position_or_len (bytes_eq name) names) [])).0 (passes_at_first (bytes_eq name) names [] within) in
    slice_get-get_or names (position_or_len (bytes_eq name) names) [] within ∙ ap Some (sym same)
placed_by false names name is = ap (slice_get (names ++ name ∷ [])) (none_passes (bytes_eq name) names is) ∙ at_end names name

-- a name is at its number
placed : (names : List (List ℕ)) (name : List ℕ) → slice_get (with_name names name) (number_of names name) ≡ Some name
placed names name = placed_by (list_any (bytes_eq name) names) names name refl

added_stays : (old : List (List ℕ)) (bytes : List ℕ) (next : List (List ℕ)) (k : ℕ) (x : List ℕ) → AddsNames old bytes next → slice_get old k ≡ Some x → slice_get next k ≡ Some x
added_stays old bytes next k x a e = ⊎_elim
    (λ h. ap (λ (ns : List (List ℕ)). slice_get ns k) h.1 ∙ e)
    (λ h. ap (λ (ns : List (List ℕ)). slice_get ns k) h.3 ∙ stays old h.1 k x e)
    a

joined_stays : (cut : Option ℕ) (old : List (List ℕ)) (number : ℕ) (bytes : List ℕ) (next : List (List ℕ)) (joint : Joint) (k : ℕ) (x : List ℕ) → AddsJoint cut old number bytes next joint → slice_get old k ≡ Some x → slice_get next k ≡ Some x
joined_stays cut old number bytes next joint k x j e =
    ap (λ (ns : List (List ℕ)). slice_get ns k) j.names ∙ stays (with_name old j.u) j.v k x (stays old j.u k x e)

all_stay : (cut : Option ℕ) (lines : List (ℕ × List ℕ)) (old names : List (List ℕ)) (joints : List Joint) (k : ℕ) (x : List ℕ) → ReadsNetwork cut lines old names joints → slice_get old k ≡ Some x → slice_get names k ≡ Some x
all_stay cut [] old names joints k x r e = ap (λ (ns : List (List ℕ)). slice_get ns k) (sym r.0) ∙ e
all_stay cut (line ∷ lines) old names joints k x r e = ⊎_elim
    (λ h. all_stay cut lines r.0 names joints k x h.1 (added_stays old line.1 r.0 k x h.0.1 e))
    (λ h. all_stay cut lines r.0 names h.1 k x h.4 (joined_stays cut old line.0 line.1 r.0 h.0 k x h.2.1 e))
    r.1

-- ---- a joint, by the lines from number `first` on
record IsJointOf (cut : Option ℕ) (first : ℕ) (lines names : List (List ℕ)) (joint : Joint) : Type 0 where
  place : ℕ
  text : List ℕ
  number : joint.line ≡ place + first
  there : slice_get lines place ≡ Some text
  kept : IsKeptText text
  u : List ℕ
  v : List ℕ
  says : Weighs cut (fields_of text) u v joint.weight
  u_is : slice_get names joint.u ≡ Some u
  v_is : slice_get names joint.v ≡ Some v

later : (cut : Option ℕ) (first : ℕ) (line : List ℕ) (lines names : List (List ℕ)) (joint : Joint) → IsJointOf cut (first + 1) lines names joint → IsJointOf cut first (line ∷ lines) names joint
later cut first line lines names joint is =
    let number : joint.line ≡ suc is.place + first = is.number ∙ (omega arith) in
    record { place = suc is.place; text = is.text; number = number; there = is.there; kept = is.kept; u = is.u; v = is.v; says = is.says; u_is = is.u_is; v_is = is.v_is }

here : (cut : Option ℕ) (first : ℕ) (line : List ℕ) (lines old next names : List (List ℕ)) (joint : Joint) (joints : List Joint)
    → AddsJoint cut old first line next joint → ReadsNetwork cut (enumerate_from (first + 1) lines) next names joints → IsJointOf cut first (line ∷ lines) names joint
here cut first line lines old next names joint joints j r =
    let u_there : slice_get next joint.u ≡ Some j.u =
    (λ i. slice_get (j.names i) (j.u_is i)) ∙ stays (with_name old j.u) j.v (number_of old j.u) j.u (placed old j.u) in
    let v_there : slice_get next joint.v ≡ Some j.v = (λ i. slice_get (j.names i) (j.v_is i)) ∙ placed (with_name old j.u) j.v in
    let number : joint.line ≡ 0 + first = j.line_is ∙ (omega arith) in
    record {
      place = 0;
      text = line;
      number = number;
      there = refl;
      kept = j.text;
      u = j.u;
      v = j.v;
      says = j.weighs;
      u_is = all_stay cut (enumerate_from (first + 1) lines) next names joints joint.u j.u r u_there;
      v_is = all_stay cut (enumerate_from (first + 1) lines) next names joints joint.v j.v r v_there;
    }

each_joint : (cut : Option ℕ) (first : ℕ) (lines old names : List (List ℕ)) (joints : List Joint) → ReadsNetwork cut (enumerate_from first lines) old names joints → Each (IsJointOf cut first lines names) joints
each_joint cut first [] old names joints r = subst (Each (IsJointOf cut first [] names)) (sym r.1) tt
each_joint cut first (line ∷ lines) old names joints r = ⊎_elim
    (λ h. each_map (IsJointOf cut (first + 1) lines names) (IsJointOf cut first (line ∷ lines) names) joints (later cut first line lines names) (each_joint cut (first + 1) lines r.0 names joints h.1))
    (λ h. subst (Each (IsJointOf cut first (line ∷ lines) names)) (sym h.3)
    (here cut first line lines old r.0 names h.0 h.1 h.2.1 h.4, each_map (IsJointOf cut (first + 1) lines names) (IsJointOf cut first (line ∷ lines) names) h.1 (later cut first line lines names) (each_joint cut (first + 1) lines r.0 names h.1 h.4)))
    r.1

-- ---- the lines of a network
module _ (cut : Option ℕ) (bytes : List ℕ) (net : Net) where
  scaled_told : (joint : Joint) → IsJointOf cut 1 (lines_of bytes) net.names joint → joint.weight.places ≤ net.places → IsLineOf cut bytes net (scaled_to net.places joint)
  scaled_told joint is few = record {
    place = is.place;
    text = is.text;
    number = is.number;
    there = is.there;
    kept = is.kept;
    u = is.u;
    v = is.v;
    weight = joint.weight;
    says = is.says;
    u_is = is.u_is;
    v_is = is.v_is;
    places = few;
    weighs = refl;
  }

  each_scaled : (joints : List Joint) → Each (IsJointOf cut 1 (lines_of bytes) net.names) joints → Each (λ j. j.weight.places ≤ net.places) joints → Each (IsLineOf cut bytes net) (map (scaled_to net.places) joints)
  each_scaled [] all few = tt
  each_scaled (joint ∷ joints) all few = (scaled_told joint all.0 few.0, each_scaled joints all.1 few.1)

  pub lines_told : IsNetwork cut bytes net → All (λ l. IsLineOf cut bytes net l) net.lines
  lines_told is =
      let few = subst (λ (p : ℕ). Each (λ j. j.weight.places ≤ p) is.joints) (sym is.places_is) (each_most is.joints) in
      let all = each_scaled is.joints (each_joint cut 1 (lines_of bytes) [] net.names is.joints is.reads) few in
      subst (λ (ls : List NetLine). All (λ l. IsLineOf cut bytes net l) ls) (sym is.lines_are)
      (λ k d l. each_at (λ m. IsLineOf cut bytes net m) (map (scaled_to net.places) is.joints) k d l all)

-- ---- the names of a text, and the lines that have two
skipped_none : (line : List ℕ) → is_kept_in_network (fields_of line) ≡ false → names_in line ≡ []
skipped_none line skipped = ap (λ b. if b then take 2 (fields_of line) else []) skipped

kept_some : (line : List ℕ) → IsKeptText line → names_in line ≡ take 2 (fields_of line)
kept_some line is = ap (λ b. if b then take 2 (fields_of line) else []) is.kept

two_names : (cut : Option ℕ) (old : List (List ℕ)) (number : ℕ) (line : List ℕ) (next : List (List ℕ)) (joint : Joint) (j : AddsJoint cut old number line next joint) → names_in line ≡ j.u ∷ j.v ∷ []
two_names cut old number line next joint j = kept_some line j.text ∙ ⊎_elim (λ h. ap (take 2) h.0) (λ h. ap (take 2) h.1) j.weighs

names_after : (lines : List (List ℕ)) (cut : Option ℕ) (first : ℕ) (old names : List (List ℕ)) (joints : List Joint) → ReadsNetwork cut (enumerate_from first lines) old names joints → names ≡ with_names old (flat_map names_in lines)
names_after [] cut first old names joints r = sym r.0
names_after (line ∷ lines) cut first old names joints r = ⊎_elim
    (λ h. names_after lines cut (first + 1) r.0 names joints h.1 ∙ ⊎_elim
    (λ k. λ i. with_names (k.1 i) (sym (skipped_none line k.0) i ++ flat_map names_in lines))
    (λ k.
    let one : names_in line ≡ k.1 ∷ [] = kept_some line k.0 ∙ ap (take 2) k.2 in
    ap (λ (ns : List (List ℕ)). with_names ns (flat_map names_in lines)) k.3 ∙ ap (λ (ns : List (List ℕ)). with_names old (ns ++ flat_map names_in lines)) (sym one))
    h.0.1)
    (λ h.
    let two = two_names cut old first line r.0 h.0 h.2.1 in
    names_after lines cut (first + 1) r.0 names h.1 h.4
    ∙ ap (λ (ns : List (List ℕ)). with_names ns (flat_map names_in lines)) h.2.1.names
    ∙ ap (λ (ns : List (List ℕ)). with_names old (ns ++ flat_map names_in lines)) (sym two))
    r.1

numbers_after : (lines : List (ℕ × List ℕ)) (cut : Option ℕ) (old names : List (List ℕ)) (joints : List Joint) → ReadsNetwork cut lines old names joints → map (λ (j : Joint). j.line) joints ≡ map (λ (l : ℕ × List ℕ). l.0) (filter has_two lines)
numbers_after [] cut old names joints r = ap (map (λ (j : Joint). j.line)) r.1
numbers_after (line ∷ lines) cut old names joints r = ⊎_elim
    (λ h.
    let few : has_two line ≡ false = ⊎_elim
    (λ k. ap (λ (ns : List (List ℕ)). length ns == 2) (skipped_none line.1 k.0))
    (λ k. ap (λ (ns : List (List ℕ)). length ns == 2) (kept_some line.1 k.0 ∙ ap (take 2) k.2))
    h.0.1 in
    numbers_after lines cut r.0 names joints h.1 ∙ ap (λ b. map (λ (l : ℕ × List ℕ). l.0) (cond b (line ∷ filter has_two lines) (filter has_two lines))) (sym few))
    (λ h.
    let two : has_two line ≡ true = ap (λ (ns : List (List ℕ)). length ns == 2) (two_names cut old line.0 line.1 r.0 h.0 h.2.1) in
    ap (map (λ (j : Joint). j.line)) h.3
    ∙ (λ i. h.2.1.line_is i ∷ numbers_after lines cut r.0 names h.1 h.4 i)
    ∙ ap (λ b. map (λ (l : ℕ × List ℕ). l.0) (cond b (line ∷ filter has_two lines) (filter has_two lines))) (sym two))
    r.1

scaled_numbers : (places : ℕ) (joints : List Joint) → map (λ (l : NetLine). l.line) (map (scaled_to places) joints) ≡ map (λ (j : Joint). j.line) joints
scaled_numbers places [] = refl
scaled_numbers places (joint ∷ joints) = ap (λ (ns : List ℕ). joint.line ∷ ns) (scaled_numbers places joints)

pub names_told : (cut : Option ℕ) (bytes : List ℕ) (net : Net) → IsNetwork cut bytes net → net.names ≡ with_names [] (all_names_in bytes)
names_told cut bytes net is = names_after (lines_of bytes) cut 1 [] net.names is.joints is.reads

pub numbers_told : (cut : Option ℕ) (bytes : List ℕ) (net : Net) → IsNetwork cut bytes net → map (λ (l : NetLine). l.line) net.lines ≡ numbers_in bytes
numbers_told cut bytes net is =
    ap (map (λ (l : NetLine). l.line)) is.lines_are
    ∙ scaled_numbers net.places is.joints
    ∙ numbers_after (enumerate_from 1 (lines_of bytes)) cut [] net.names is.joints is.reads
