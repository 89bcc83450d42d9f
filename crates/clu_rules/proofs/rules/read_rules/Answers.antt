use Rattle.std.proofs.Common.{inl, inr, ⊎_elim, Err, ℕ, All, length, ap, sym, subst}
use Rattle.std.specs.List.{enumerate_from}
use Rattle.clu_text.specs.Lines.{lines_of}
use Rattle.clu_rules.specs.Puts.{IsBelow}
use Rattle.clu_rules.specs.Rules.{IsListOf, Requires, Forbids}
use Rattle.clu_rules.proofs.BelowLaws.{rules_below}
use Rattle.clu_rules.proofs.Excluded.{read_faultless, refused_once, first_fault}
use Rattle.clu_rules.proofs.OneReading.{one_reading}
use Rattle.clu_rules.proofs.rules.read_rules.Goals as goal

pub pairs_of-requires-clause-below : goal.pairs_of-requires-clause-below
pairs_of-requires-clause-below g c =
    subst (λ (n : ℕ). All (IsBelow n) c.in-Ok.rules) (sym c.count-n.ensures.count)
    (rules_below (length (g.N.Names.names c.args.names.now)) (g.N.Names.is_named c.args.names.now) (g.met.N.Names.within c.args.names.now) (enumerate_from 1 (lines_of c.args.bytes.now)) c.in-Ok.rules c.in-Ok.ensures.ok)

pub returns-in-Err-clause-first : goal.returns-in-Err-clause-first
returns-in-Err-clause-first g c = λ e f. ⊎_elim (λ h. inl (ap Err h)) (λ h. inr (ap Err h))
    (first_fault (g.N.Names.is_named c.args.names.now) (g.met.N.Names.one c.args.names.now) c.args.bytes.now c.in-Err.error e c.in-Err.ensures.err f)

pub returns-in-Err-clause-only : goal.returns-in-Err-clause-only
returns-in-Err-clause-only g c = λ d required forbidden m.
    refused_once (g.N.Names.is_named c.args.names.now) (g.met.N.Names.one c.args.names.now) (length (g.N.Names.names c.args.names.now)) c.args.bytes.now c.in-Err.error required forbidden d c.in-Err.ensures.err m

pub returns-in-Ok-pairs_of-clause-first : goal.returns-in-Ok-pairs_of-clause-first
returns-in-Ok-pairs_of-clause-first g c = λ e f. absurd
    (read_faultless (g.N.Names.is_named c.args.names.now) (g.met.N.Names.one c.args.names.now) c.args.bytes.now c.in-Ok.rules e c.in-Ok.ensures.ok f)

pub returns-in-Ok-pairs_of-clause-one : goal.returns-in-Ok-pairs_of-clause-one
returns-in-Ok-pairs_of-clause-one g c = λ required forbidden m.
    one_reading (g.N.Names.is_named c.args.names.now) (g.met.N.Names.one c.args.names.now) c.in-Ok-pairs_of.lists.n c.args.bytes.now c.in-Ok-pairs_of.lists.required c.in-Ok-pairs_of.lists.forbidden required forbidden
    (record {
      rules = c.in-Ok.rules;
      reads = c.in-Ok.ensures.ok;
      required_are = subst (λ (n : ℕ). IsListOf n (Requires c.in-Ok.rules) c.in-Ok-pairs_of.lists.required) (sym c.in-Ok-pairs_of.ensures.n) c.in-Ok-pairs_of.ensures.required;
      forbidden_are = subst (λ (n : ℕ). IsListOf n (Forbids c.in-Ok.rules) c.in-Ok-pairs_of.lists.forbidden) (sym c.in-Ok-pairs_of.ensures.n) c.in-Ok-pairs_of.ensures.forbidden;
    })
    m
