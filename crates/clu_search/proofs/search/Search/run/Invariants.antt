use Rattle.std.proofs.Common.{◌≡◌}
use Rattle.clu_search.specs.Search.{IsSearch, SameTask, made}
use Rattle.clu_search.proofs.search.Search.run.Given as goal

abbrev pub invariant-loop : goal.invariant-loop
invariant-loop l = IsSearch l.self × SameTask l.initial.self l.self × (made l.self ≡ l.counter)
