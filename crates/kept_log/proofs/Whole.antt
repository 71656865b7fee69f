-- The kept log by numbers and counts is the kept log.
use Rattle.std.proofs.Common.{◌≡◌, ℕ, List, [], ◌∷◌, ◌++◌, length, ap, ◌∙◌}
use Rattle.event_log.specs.declared.log.Event.{Event}
use Rattle.event_log.specs.declared.log.Header.{Header}
use Rattle.event_log.specs.declared.log.Log.{Log}
use Rattle.event_log.specs.States.{trace_of_log}
use Rattle.clock_laws.specs.Joined.{as_one}
use Rattle.kept_names.specs.declared.names.Names.{Names}
use Rattle.kept_log.specs.declared.numbers.Numbers.{Numbers}
use Rattle.kept_log.specs.Kept.{kept_log}
use Rattle.kept_log.specs.Keeping.{CanBeKept}
use Rattle.kept_log.specs.Named.{names_of}
use Rattle.kept_log.specs.inside.Numbered.{numbers_in, header_by}
use Rattle.kept_log.specs.inside.Counted.{all_counts, events_by}
use Rattle.kept_log.proofs.ByNumbers.{numbers_of, vars_same}
use Rattle.kept_log.proofs.Counted.{events_same}
use Rattle.kept_log.proofs.InHeader.{numbers_are}
use Rattle.kept_log.proofs.Present.{all_counted}
use Rattle.kept_log.proofs.Rows.{are_counts}

-- the log with the events and variables that these numbers keep
abbrev pub log_by : Log → Numbers → Log
log_by log numbers = record {
  header = header_by numbers log.header;
  batches = events_by numbers (all_counts numbers (as_one log.batches) (length log.header.procs)) (as_one log.batches) ∷ [];
}

pub log_same : (log : Log) (names : Names) → CanBeKept log → log_by log (numbers_in log.header names) ≡ kept_log log (names_of names)
log_same log names can =
    let trace = trace_of_log log in
    let counts = all_counts (numbers_of trace (names_of names)) (as_one log.batches) (length log.header.procs) in
    ap (log_by log) (numbers_are log can.text.vars names)
    ∙ (λ i. record {
      header = record log.header { vars = vars_same trace (names_of names) 0 log.header.vars i };
      batches = events_same trace (names_of names) counts (are_counts log (names_of names) can.text.vars) (as_one log.batches) (all_counted log can.text.vars can.faultless) i ∷ [];
    })

-- the log that these parts make
pub log_made : (log : Log) (names : Names) → CanBeKept log → (numbers : Numbers) → numbers ≡ numbers_in log.header names → (whole : List (List Event)) → whole ≡ log.batches
    → (procs : ℕ) → procs ≡ length log.header.procs → (counts : List (List ℕ)) → counts ≡ all_counts numbers (as_one whole) procs → (rows : List (List ℕ)) → rows ≡ counts
    → (events : List Event) → events ≡ events_by numbers rows (as_one whole) → (header : Header) → header ≡ header_by numbers log.header
    → (before : List (List Event)) → before ≡ [] → (batches : List (List Event)) → batches ≡ before ++ events ∷ []
    → ◌≡◌ {A = Log} (record { header = header; batches = batches }) (kept_log log (names_of names))
log_made log names can numbers n whole w procs p counts c rows r events es header h before none batches b =
    let all : all_counts numbers (as_one whole) procs ≡ all_counts (numbers_in log.header names) (as_one log.batches) (length log.header.procs) =
    λ j. all_counts (n j) (as_one (w j)) (p j) in
    let told : rows ≡ all_counts (numbers_in log.header names) (as_one log.batches) (length log.header.procs) = r ∙ c ∙ all in
    let folded : events_by numbers rows (as_one whole) ≡ events_by (numbers_in log.header names) (all_counts (numbers_in log.header names) (as_one log.batches) (length log.header.procs)) (as_one log.batches) =
    λ i. events_by (n i) (told i) (as_one (w i)) in
    let one : batches ≡ events ∷ [] = b ∙ ap (λ (bs : List (List Event)). bs ++ events ∷ []) none in
    let top : header ≡ header_by (numbers_in log.header names) log.header = h ∙ ap (λ (ns : Numbers). header_by ns log.header) n in
    let all_events = es ∙ folded in
    (λ i. record { header = top i; batches = one i })
    ∙ (λ i. record { header = header_by (numbers_in log.header names) log.header; batches = all_events i ∷ [] })
    ∙ log_same log names can
