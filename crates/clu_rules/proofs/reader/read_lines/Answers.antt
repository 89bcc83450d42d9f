use Rattle.std.proofs.Common.{rules, List, sym, subst}
use Rattle.std.specs.List.{enumerate_from}
use Rattle.clu_text.specs.Lines.{lines_of}
use Rattle.clu_rules.specs.Lines.{Rule}
use Rattle.clu_rules.proofs.ReadLaws.{SoFar}
use Rattle.clu_rules.proofs.reader.read_lines.Goals as goal

pub loop-line-preserved-then-is_kept : goal.loop-line-preserved-then-is_kept
loop-line-preserved-then-is_kept g c = subst (λ (rs : List Rule). SoFar (g.N.Names.is_named c.args.names.now) (enumerate_from 1 (lines_of c.args.bytes.now)) c.next.new.self rs) (sym c.in_ok-rules.ensures) (search rules)
