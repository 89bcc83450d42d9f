-- What storing a certificate leaves.
use Rattle.std.proofs.Common.{◌≡◌, ℕ, List, length, sym, ap, subst, inr, Option, Some}
use Rattle.std.specs.Option.{option_map}
use Rattle.clu_outside.specs.Folder.{Told, IsStoredPartly, CallsWithin, stores_of}
use Rattle.clu_cert.specs.Text.{cert_text}
use Rattle.clu_cert.specs.declared.certificate.Certificate.{Certificate}
use Rattle.clu_cli.specs.Steps.{StopsKeeping, StopsWrite}
use Rattle.clu_cli.specs.declared.stop.Stop.{Stop}
use denote.Bor.{Bor}

module _ (given : Option (Bor (List ℕ))) (name : Bor (List ℕ)) (at : given ≡ Some name)
    (bytes : List ℕ) (old new : Option Told) (cert : Certificate) (is : bytes ≡ cert_text cert) (few : CallsWithin (stores_of (length bytes)) old new) where
  named : option_map (λ (n : Bor (List ℕ)). n.now) given ≡ Some name.now
  named = ap (option_map (λ (n : Bor (List ℕ)). n.now)) at

  few_here : CallsWithin (stores_of (length (cert_text cert))) old new
  few_here = subst (λ (bs : List ℕ). CallsWithin (stores_of (length bs)) old new) is few

  pub kept_partly : (stop : Stop) → StopsWrite stop → IsStoredPartly old new name.now bytes
      → StopsKeeping (option_map (λ (n : Bor (List ℕ)). n.now) given) old new cert stop
  kept_partly stop s h = subst (λ (o : Option (List ℕ)). StopsKeeping o old new cert stop) (sym named)
      (inr (s, (subst (λ (bs : List ℕ). IsStoredPartly old new name.now bs) is h, few_here)))
