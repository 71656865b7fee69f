-- A certificate that is written of a log that was read, whose formula may name no watch.
use Rattle.std.specs.Prelude.{◌≡◌, ℕ, ◌≤◌, ◌⊎◌, ◌↔◌, Bool, true, false, List, [], Option}
use Rattle.std.specs.Prelude.{Some, None}
use Rattle.std.specs.Prelude.{Result, Ok, Err}
use Rattle.std.specs.Io.KnownBytes.{Appends, Consumes, IsAtEnd}
use Rattle.pota_base.specs.Outside.{Rose}
use Rattle.pota_base.specs.declared.fault.Failed.{Failed}
use Rattle.run_model.specs.Cut.{initial}
use Rattle.run_model.specs.Meaning.{Sat}
use Rattle.pota_base.specs.Changes.{Behind, Change, Counts, behind_both, faults_of}
use Rattle.rctl_grammar.specs.Shape.{shape_of}
use Rattle.rctl_grammar.specs.declared.tree.Tree.{Tree}
use Rattle.rctl_print.specs.Canonical.{canonical}
use Rattle.rctl_parts.specs.Pieces.{Piece, disjuncts_of}
use Rattle.rctl_parts.specs.Spelled.{disjunction_of}
use Rattle.part_pulls.specs.declared.observed.Observed.{Observed}
use Rattle.part_pulls.specs.Observing.{Reading, AreAnswers, clocks_seen, run_seen}
use Rattle.part_pulls.specs.Observing.{names_seen}
use Rattle.log_rules.specs.Passage.{Passage, passage_of}
use Rattle.log_rules.specs.SoFar.{counted}
use Rattle.stated_formula.specs.declared.formula.Stated.{Stated}
use Rattle.log_rules.specs.Judgement.{Prefix}
use Rattle.log_rules.specs.Readings.{log_reading}
use Rattle.batch_answers.specs.PassedOn.{Aim, aim_of}
use Rattle.batch_answers.specs.PassedOn.{observed_alone}
use Rattle.batch_answers.specs.PassedOn.{CheckedLog}
use Rattle.certify.specs.Certifying.{HasFront, IsCertifying}
use Rattle.log_answers.specs.Asking.{asking_of}
use Rattle.log_answers.specs.declared.stop.StopCause.{StopCause}
use Rattle.log_answers.specs.declared.stop.StopCause.TheVariants as causes
use Rattle.log_answers.specs.declared.stop.Stop.{Stop}
use Rattle.log_answers.specs.declared.stop.Verdict.{Verdict}
use Rattle.log_answers.specs.Inputs.{due_by, TellsDueBy}
use Rattle.call_promise.specs.Certificates.{IsTrueAtStart, no_watches, disjuncts_on}
use Rattle.call_promise.specs.Certificates.{IsCertificateText, IsCertificateFront}

-- a formula, and the log that it is certified on
pub record Certified : Type 0 where
  pub tree : Tree
  pub log : Prefix

abbrev pub certified_of : (tree : Tree) → (log : Prefix) → Certified
certified_of tree log = record { tree = tree; log = log }

-- what is asked of a log for the certificate of a formula
abbrev pub aim_for : Stated → Aim
aim_for s = aim_of s (record { slice = false; witness = false }) [] no_watches

-- ---- behind the whole log

-- the names and the answers of no watches
abbrev pub unwatched : Reading
unwatched = record { watch_names = []; watches = no_watches }

-- the disjuncts are true at the initial cut of what was observed
abbrev pub HoldsOn : Observed → List (List Piece) → Type 0
HoldsOn seen ds =
    Sat (run_seen seen unwatched) (disjunction_of (names_seen seen unwatched) ds)
    (initial (clocks_seen seen))

-- the log was observed for the formula of this tree, which is true there where it is of the log
pub record IsLogSeen (t : Tree) (log : Prefix) (checked : CheckedLog) : Type 0 where
  pub text : checked.stated.text ≡ canonical (shape_of t)
  pub seen : checked.seen ≡ observed_alone log
  pub split : disjuncts_of checked.disjuncts ≡ disjuncts_on log t
  pub answers : AreAnswers checked.seen unwatched
  pub truth : HoldsOn checked.seen (disjuncts_of checked.disjuncts)
      ↔ IsTrueAtStart no_watches t log

-- what the writing of a certificate of so many batches led to
abbrev pub verdict_of : Result Bool Failed → ℕ → Result Verdict Stop
verdict_of (Ok told) batches = Ok (record { batches = batches; truth = told })
verdict_of (Err failed) batches = Err (record { batches = batches; cause = causes.Write })

-- the certificate of the formula of these disjuncts was to be written: memory ran out, or it went
-- on
abbrev pub PutsCertificate : (sink : Change) → Observed → List (List Piece) → (line : List ℕ)
    → (batches : ℕ) → Result Verdict Stop → Type 0
PutsCertificate sink seen ds line batches result =
    ((result ≡ Err (record { batches = 0; cause = causes.Memory }))
    × (sink.faults_after ≡ sink.faults_before) × HasFront sink.before sink.after seen ds line)
    ⊎ ((ended : Result Bool Failed) × (result ≡ verdict_of ended batches) × IsCertifying ended sink
    seen ds line)

-- a front of the certificate was written, behind so many batches
abbrev pub CertifyStops : StopCause → ℕ → Counts → Certified → ℕ → List ℕ → Type 0
CertifyStops causes.Write n faults certified batches text =
    IsCertificateFront certified.tree certified.log text × (n ≡ batches) × Rose faults.before
    faults.after
CertifyStops causes.Memory n faults certified batches text =
    IsCertificateFront certified.tree certified.log text × (n ≡ 0)
CertifyStops (causes.Refused r) n faults certified batches text = ⊥
CertifyStops causes.Read n faults certified batches text = ⊥

-- the certificate was written, with its verdict, or not
abbrev pub CertifiesTo : Counts → Tree → ℕ → Prefix → List ℕ → Result Verdict Stop → Type 0
CertifiesTo faults t batches log text (Ok v) =
    IsCertificateText t log text × ((v.truth ≡ true) ↔ IsTrueAtStart no_watches t log)
    × (v.batches ≡ batches)
CertifiesTo faults t batches log text (Err stop) =
    CertifyStops stop.cause stop.batches faults (certified_of t log) batches text

-- the certificate of a log of so many batches was to be written
pub record Certifies (sink : Change) (t : Tree) (batches : ℕ) (log : Prefix)
    (result : Result Verdict Stop) : Type 0 where
  pub written : List ℕ
  pub wrote : Appends sink.before sink.after written
  pub later : sink.faults_before ≤ sink.faults_after
  pub to : CertifiesTo (faults_of sink) t batches log written result

-- ---- the whole input

-- this log is due of the whole input, and this is the front of its certificate
pub record HasFrontBy (left : Option (List ℕ)) (aim : Aim) (t : Tree) (bytes text : List ℕ)
    : Type 0 where
  pub ended : IsAtEnd left
  pub log : Prefix
  pub whole : (due_by log_reading aim true bytes).whole ≡ Some log
  pub front : IsCertificateFront t log text

-- a stop behind these bytes, with this text written
abbrev pub CertifyStopsBy : StopCause → ℕ → Behind → Aim → Tree → Passage → Type 0
CertifyStopsBy (causes.Refused r) n behind aim t passage =
    (ended : Bool) × (ended ≡ true → IsAtEnd behind.rest) × TellsDueBy log_reading
    (asking_of aim false) ended passage (Some r) n
CertifyStopsBy causes.Read n behind aim t passage =
    TellsDueBy log_reading (asking_of aim false) false passage None n × Rose behind.source.before
    behind.source.after
CertifyStopsBy causes.Write n behind aim t passage =
    (h : HasFrontBy behind.rest aim t passage.read passage.written) × (n ≡ counted h.log.batches)
    × Rose behind.sink.before behind.sink.after
CertifyStopsBy causes.Memory n behind aim t passage =
    ((passage.written ≡ []) ⊎ HasFrontBy behind.rest aim t passage.read passage.written) × (n ≡ 0)

-- the verdict on a log without a fault, whose certificate was written
pub record IsCertifiedBy (aim : Aim) (t : Tree) (bytes text : List ℕ) (v : Verdict) : Type 0 where
  pub free : (due_by log_reading aim true bytes).fault ≡ None
  pub log : Prefix
  pub whole : (due_by log_reading aim true bytes).whole ≡ Some log
  pub certificate : IsCertificateText t log text
  pub truth : (v.truth ≡ true) ↔ IsTrueAtStart no_watches t log
  pub count : v.batches ≡ (due_by log_reading aim true bytes).batches

abbrev pub CertifiesBy : Behind → Aim → Tree → List ℕ → List ℕ → Result Verdict Stop → Type 0
CertifiesBy behind aim t read text (Ok v) = IsAtEnd behind.rest × IsCertifiedBy aim t read text v
CertifiesBy behind aim t read text (Err stop) =
    CertifyStopsBy stop.cause stop.batches behind aim t (passage_of read text)

-- the input was read and certified
pub record HasCertified (source sink : Change) (aim : Aim) (t : Tree) (result : Result Verdict Stop)
    : Type 0 where
  pub read : List ℕ
  pub written : List ℕ
  pub consumed : Consumes source.before source.after read
  pub wrote : Appends sink.before sink.after written
  pub log_later : source.faults_before ≤ source.faults_after
  pub out_later : sink.faults_before ≤ sink.faults_after
  pub to : CertifiesBy (behind_both source sink) aim t read written result
