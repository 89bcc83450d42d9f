-- Which line is the fault.
use Rattle.std.specs.Prelude.{◌≡◌, ℕ, ◌-◌, ◌<◌, ◌≤◌, List, [], ◌∷◌, ◌++◌, length, take}
use Rattle.std.specs.List.{flat_map, slice_split}
use Rattle.clu_cert.specs.declared.certificate.Certificate.{Certificate}
use Rattle.clu_cert.specs.Fits.{Fits}
use Rattle.clu_cert.specs.Text.{cert_text}
use Rattle.clu_cert.specs.declared.read.CertError.{CertError}
use Rattle.clu_cert.specs.declared.read.CertError.TheVariants.{Memory, Bad}
use Rattle.clu_cert.specs.Cut.{is_byte}

-- the pieces between line feeds: a line is each of them but the last, which no line feed ends
abbrev pub pieces : List ℕ → List (List ℕ)
pieces bytes = slice_split (is_byte 10) bytes

-- each piece with a line feed behind it
abbrev pub with_feeds : List (List ℕ) → List ℕ
with_feeds ps = flat_map (λ p. p ++ (10 ∷ [])) ps

-- the first k lines, with their line feeds
abbrev pub first_lines : ℕ → List ℕ → List ℕ
first_lines k bytes = with_feeds (take k (pieces bytes))

-- the bytes begin the text of a certificate
pub record Begins (bytes : List ℕ) : Type 0 where
  pub cert : Certificate
  pub rest : List ℕ
  pub fits : Fits cert
  pub is : cert_text cert ≡ bytes ++ rest

-- The bytes are no text of a certificate, and this is the least line such that the lines up to it begin none: those before it do.
-- The last piece of the bytes, which no line feed ends, counts as a line, also where it is empty.
pub record IsCertFault (bytes : List ℕ) (line : ℕ) : Type 0 where
  pub first : 1 ≤ line
  pub last : line ≤ length (pieces bytes)
  pub begins : Begins (first_lines (line - 1) bytes)
  pub fails : line < length (pieces bytes) → Begins (first_lines line bytes) → ⊥
  pub whole : (c : Certificate) → Fits c → bytes ≡ cert_text c → ⊥

-- a fault of the text names its first bad line; want of memory says nothing of the text
abbrev pub IsCertError : List ℕ → CertError → Type 0
IsCertError bytes Memory = Unit {0}
IsCertError bytes (Bad b) = IsCertFault bytes b.line
