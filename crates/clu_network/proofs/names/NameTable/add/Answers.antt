use Rattle.std.proofs.Common.{ℕ, List, [], ◌∷◌, ◌++◌, length, length-append, map, bytes_eq, sym, ◌∙◌, ap, subst, arith}
use Rattle.std.specs.List.{list_any, IsDistinct}
use Rattle.std.specs.String.{string_bytes}
use Rattle.std.proofs.lemmas.List.{length-map}
use Rattle.std.proofs.lemmas.Cmp.{nat_list_eq_equiv}
use Rattle.std.proofs.lemmas.Map.Keys.{IsDistinct-push}
use Rattle.clu_network.proofs.NameLaws.{pushed}
use Rattle.clu_network.proofs.names.NameTable.add.Goals as goal

pub returns-clause-ok : goal.returns-clause-ok
returns-clause-ok c =
    let absent = ap (list_any (bytes_eq c.args.name.now)) c.self.view_is ∙ c.requires.absent in
    pushed c.self.inside.names.keys c.insert.new.self.keys c.in_ok-owned.owned c.args.name.now c.in_ok-insert.ensures.keys c.in_ok-owned.ensures.ok absent ∙ ap (λ (ns : List (List ℕ)). ns ++ c.args.name.now ∷ []) c.self.view_is

pub invariant_of-self-2 : goal.invariant_of-self-2
invariant_of-self-2 c =
    let absent = ap (list_any (bytes_eq c.args.name.now)) c.self.view_is ∙ c.requires.absent in
    let old : List (List ℕ) = map string_bytes c.self.inside.names.keys in
    let new = pushed c.self.inside.names.keys c.insert.new.self.keys c.in_ok-owned.owned c.args.name.now c.in_ok-insert.ensures.keys c.in_ok-owned.ensures.ok absent in
    let size = length-map c.insert.new.self.keys string_bytes in
    let long = ap length new ∙ length-append old (c.args.name.now ∷ []) in
    let before = ap length c.self.view_is in
    (omega (arith, size, long, before, c.requires.room), subst (IsDistinct bytes_eq) (sym new) (IsDistinct-push nat_list_eq_equiv old c.args.name.now c.self.invariant.1 absent))
