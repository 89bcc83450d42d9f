use Rattle.std.proofs.Common.{arith, ℕ, List, ◌∙◌, subst, sym, Option}
use Rattle.std.specs.Option.{option_map}
use Rattle.clu_partition.specs.Closed.{BindsNothing}
use Rattle.clu_cli.proofs.Sources.{closes_file, closes_nothing, stops_closing}
use Rattle.clu_cli.specs.Steps.{ClosesRules, StopsRules}
use Rattle.clu_cli.proofs.commands.read_rules.Goals as goal
use denote.Bor.{Bor}

pub returns-in_default-clause-closes : goal.returns-in_default-clause-closes
returns-in_default-clause-closes g c =
    let told = g.F.Folder.told c.args.folder.now in
    subst (λ (o : Option (Bor (List ℕ))). ClosesRules (option_map (λ (n : Bor (List ℕ)). n.now) o) told c.args.instance.now c.in_ok-start.start) (sym c.in_default.is)
    (closes_nothing told c.args.instance.now c.in_ok-start.start (subst (λ (n : ℕ). BindsNothing n c.in_ok-start.start) c.n-vertices.ensures.n c.in_ok-start.ensures))

pub returns-in-Ok-clause-closes : goal.returns-in-Ok-clause-closes
returns-in-Ok-clause-closes g c =
    let told = g.F.Folder.told c.args.folder.now in
    let tells = c.in_ok-bytes.ensures.tells in
    subst (λ (o : Option (Bor (List ℕ))). ClosesRules (option_map (λ (n : Bor (List ℕ)). n.now) o) told c.args.instance.now c.in-Ok.start) (sym c.in-Some.is)
    (closes_file c.in-Some.name.now told c.args.instance.now c.in_ok-bytes.bytes.items c.deref.result.now c.in-Ok.start tells.found (tells.within (omega arith)) c.deref.ensures.value
    (sym c.n-vertices.ensures.names ∙ c.n-vertices.ensures.n) c.in-Ok.ensures.closes)

pub returns-clause-stops : goal.returns-clause-stops
returns-clause-stops g c =
    let told = g.F.Folder.told c.args.folder.now in
    let tells = c.in_ok-bytes.ensures.tells in
    subst (λ (o : Option (Bor (List ℕ))). StopsRules told (option_map (λ (n : Bor (List ℕ)). n.now) o) c.args.instance.now c.in-Err.stop) (sym c.in-Some.is)
    (stops_closing c.in-Some.name.now told c.args.instance.now c.in_ok-bytes.bytes.items c.deref.result.now tells.found (tells.within (omega arith)) c.deref.ensures.value
    (sym c.n-vertices.ensures.names ∙ c.n-vertices.ensures.n) c.in-Err.stop c.in-Err.ensures.stops)
