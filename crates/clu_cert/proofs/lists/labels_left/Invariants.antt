use Rattle.std.proofs.Common.{◌≡◌, map, length, ◌++◌}
use Rattle.std.specs.List.{AllByRecursion}
use Rattle.clu_cert.specs.Text.{from_one}
use Rattle.clu_cert.specs.Fits.{IndexFits}
use Rattle.clu_cert.proofs.lists.labels_left.Given as goal

abbrev pub invariant-loop-field : goal.invariant-loop-field
invariant-loop-field l = record { fits : AllByRecursion IndexFits l.labels; spelled : l.initial.rest ≡ map from_one l.labels ++ l.rest }

abbrev pub decreases-loop-field : goal.decreases-loop-field
decreases-loop-field l = length l.rest
