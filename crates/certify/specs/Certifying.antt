-- The canonical certificate of a formula as a text, and what of it was written.
use Rattle.std.specs.Prelude.{◌≡◌, ℕ, ◌≤◌, Bool, List, Option, Result, Ok, Err}
use Rattle.std.specs.Io.KnownBytes.{Appends}
use Rattle.pota_base.specs.declared.fault.Failed.{Failed}
use Rattle.pota_base.specs.Outside.{IsPrefix, Rose}
use Rattle.pota_base.specs.Limits.{most_parts}
use Rattle.pota_base.specs.Changes.{Change}
use Rattle.rctl_parts.specs.Pieces.{Piece}
use Rattle.rctl_parts.specs.MadeFor.{AllFit, disjuncts_count}
use Rattle.part_pulls.specs.declared.observed.Observed.{Observed}
use Rattle.part_pulls.specs.Observing.{IsReady, clocks_seen, scope_seen}
use Rattle.part_pulls.specs.Counters.{CountersRise}
use Rattle.certificate_lines.specs.declared.line.Line.{Line}
use Rattle.certificate_lines.specs.Spelling.{lines_text}
use Rattle.certificate_text.specs.Running.{certificate_lines}
use Rattle.certificate_next_line.specs.PassedOn.{NodesView, AreNodes, fresh_nodes}
use Rattle.certificate_next_line.specs.PassedOn.{plan_of}
use Rattle.certificate_next_line.specs.PassedOn.{IsWhole}

-- the formula of these disjuncts can be certified on what was observed: it may be judged, they are
-- made for it and have few parts, and none of their counters falls
pub record CanBeCertified (seen : Observed) (ds : List (List Piece)) : Type 0 where
  pub ready : IsReady seen
  pub fits : AllFit (scope_seen seen) ds
  pub counters : CountersRise seen ds
  pub count : disjuncts_count ds ≤ most_parts

-- the nodes of the formula of these disjuncts on what was observed, before one is begun
abbrev pub nodes_of : Observed → List (List Piece) → NodesView
nodes_of seen ds = fresh_nodes (clocks_seen seen) (plan_of seen ds)

-- The text is the canonical certificate of the formula of these disjuncts on what was observed, and
-- tells this verdict. `formula` is the formula's line, without its line feed. The nodes stand: they
-- are those of an order of events and of a plan that fits it.
pub record IsCertificateOf (seen : Observed) (ds : List (List Piece)) (formula text : List ℕ)
    (told : Bool) : Type 0 where
  pub nodes : AreNodes (nodes_of seen ds)
  pub lines : List Line
  pub whole : IsWhole (nodes_of seen ds) lines told
  pub text_is : text ≡ lines_text (certificate_lines formula lines)

-- the bytes are the front of the canonical certificate
abbrev pub IsFrontOfCertificate : Observed → List (List Piece) → List ℕ → List ℕ → Type 0
IsFrontOfCertificate seen ds formula part =
    (text : List ℕ) (told : Bool) → IsCertificateOf seen ds formula text told → IsPrefix part text

-- ---- what was written

-- all of the canonical certificate was written, without a fault
pub record IsCertified (sink : Change) (seen : Observed) (ds : List (List Piece)) (formula : List ℕ)
    (told : Bool) : Type 0 where
  pub text : List ℕ
  pub certificate : IsCertificateOf seen ds formula text told
  pub written : Appends sink.before sink.after text
  pub calm : sink.faults_after ≡ sink.faults_before

-- a front of it was written
pub record HasFront (held held' : Option (List ℕ)) (seen : Observed) (ds : List (List Piece))
    (formula : List ℕ) : Type 0 where
  pub part : List ℕ
  pub front : IsFrontOfCertificate seen ds formula part
  pub written : Appends held held' part

-- a write failed, and a front of it was written
pub record IsCut (sink : Change) (seen : Observed) (ds : List (List Piece)) (formula : List ℕ)
    : Type 0 where
  pub later : sink.faults_before ≤ sink.faults_after
  pub rose : Rose sink.faults_before sink.faults_after
  pub part : HasFront sink.before sink.after seen ds formula

-- what was written until the certificate was whole, with the verdict that it tells, or until a
-- write failed
abbrev pub IsCertifying : Result Bool Failed → Change → Observed → List (List Piece) → List ℕ
    → Type 0
IsCertifying (Ok told) sink seen ds formula = IsCertified sink seen ds formula told
IsCertifying (Err failed) sink seen ds formula = IsCut sink seen ds formula
