-- Bytes as lines of fields.
use Rattle.std.specs.Prelude.{◌≡◌, ℕ, ◌+◌, ◌<◌, List, [], ◌∷◌, ◌++◌, length, map}
use Rattle.clu_cert.specs.declared.certificate.Certificate.{Certificate}
use Rattle.clu_cert.specs.declared.read.CertError.{CertError}
use Rattle.clu_cert.specs.declared.read.CertError.TheVariants.{Memory, Bad}
use Rattle.clu_cert.specs.Cut.{spaced_fields}
use Rattle.clu_cert.specs.Faults.{pieces}
use Rattle.clu_cert.specs.Fits.{Fits}
use Rattle.clu_cert.specs.Text.{cert_lines}

-- the lines are the first ones of a certificate's
pub record BeginsTable (lines : List (List ℕ)) : Type 0 where
  pub cert : Certificate
  pub more : List (List (List ℕ))
  pub fits : Fits cert
  pub is : map spaced_fields lines ++ more ≡ cert_lines cert

-- the lines are those of the certificate, and nothing stands behind the last line feed
pub record IsCertTable (bytes : List ℕ) (c : Certificate) : Type 0 where
  pub ended : List (List ℕ)
  pub pieces_are : pieces bytes ≡ ended ++ ([] ∷ [])
  pub fits : Fits c
  pub is : map spaced_fields ended ≡ cert_lines c

-- the same fault by lines: here is the line, and before and after it stand the others
pub record TableFault (bytes : List ℕ) (line : ℕ) : Type 0 where
  pub before : List (List ℕ)
  pub here : List ℕ
  pub after : List (List ℕ)
  pub pieces_are : pieces bytes ≡ before ++ (here ∷ after)
  pub number : length before + 1 ≡ line
  pub begins : BeginsTable before
  pub fails : 0 < length after → BeginsTable (before ++ (here ∷ [])) → ⊥
  pub whole : after ≡ [] → (c : Certificate) → IsCertTable bytes c → ⊥

-- a fault by lines, or want of memory
abbrev pub IsTableError : List ℕ → CertError → Type 0
IsTableError bytes Memory = Unit {0}
IsTableError bytes (Bad b) = TableFault bytes b.line
