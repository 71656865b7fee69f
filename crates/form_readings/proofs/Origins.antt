-- A fault of a batch of the merged log stands at one of its events.
use Rattle.std.proofs.Common.{◌≡◌, ℕ, ◌+◌, ◌<◌, ◌≤◌, Bool, true, false, Option, Some, None, List, [], ◌∷◌, length, refl, sym, subst, ◌∙◌, arith}
use Rattle.std.specs.Prelude.{if◌then◌else◌}
use Rattle.std.specs.List.{AllByRecursion, list_any}
use Rattle.std.proofs.lemmas.List.{length-map}
use Rattle.log_lines.specs.Reading.{choose}
use Rattle.rctl_grammar.specs.declared.fault.FormulaFault.{FormulaFault}
use Rattle.event_log.specs.declared.item.LogCode.{LogCode}
use Rattle.event_log.specs.declared.item.LogFault.{LogFault}
use Rattle.event_log.specs.declared.log.Event.{Event}
use Rattle.event_log.specs.declared.log.Header.{Header}
use Rattle.event_log.specs.LogText.{batch_items, log_items}
use Rattle.event_log.specs.States.{StatesView, with_event, with_batch}
use Rattle.vector_clock.specs.Events.{Events, place}
use Rattle.vector_clock.specs.Faults.{event_fault, fault_from, at_line}
use Rattle.vector_clock.specs.Filled.{is_left_out, clock_of, filled_event, fill_from}
use Rattle.counter_preds.specs.declared.values.Variable.{Variable}
use Rattle.counter_preds.specs.Falls.{fall_fault, fall_of, is_lowered, behind_event}
use Rattle.log_merge.specs.declared.merged.Origin.{Origin}
use Rattle.log_merge.specs.Merging.{Placed, numbered, merged_events}
use Rattle.log_sources.specs.Sources.{no_sources, after, logs_of}
use Rattle.fault_kinds.specs.declared.refusal.Refusal.TheVariants as refusal
use Rattle.log_rules.specs.Judgement.{Prefix, events_of, states_of, with_clocks, clock_fault, fault_behind, Rules, with_rules, waiting, growing, finished, refused, closing, judged}
use Rattle.log_rules.proofs.Items.{prefix_at, refused-stays}
use Rattle.log_rules.proofs.Logs.{judged-batch, judged-none}
use Rattle.form_readings.specs.Sources.{merged_of, merged_log_of}

-- a line from the first one up to so many more
abbrev IsWithin : ℕ → ℕ → ℕ → Type 0
IsWithin low high line = (low ≤ line) × (line < high)

abbrev AreWithin : ℕ → ℕ → List Event → Type 0
AreWithin low high es = AllByRecursion (λ (e : Event). IsWithin low high e.line) es

numbered_within : (low n high : ℕ) (xs : List Placed) → low ≤ n → n + length xs ≤ high → AreWithin low high (numbered n xs)
numbered_within low n high [] from upto = tt
numbered_within low n high (x ∷ xs) from upto =
    ((from, omega (arith, upto)), numbered_within low (n + 1) high xs (omega (arith, from)) (omega (arith, upto)))

-- what is filled keeps its line
same_line : (all before : Events) (e : Event) → (filled_event all before e).line ≡ e.line
same_line all before e = go (is_left_out e)
  where
    go : (out : Bool) → (if out then record e { clock = clock_of all (record { process = e.process; position = place before e }) } else e).line ≡ e.line
    go true = refl
    go false = refl

filled_within : (low high : ℕ) (all before : Events) (es : List Event) → AreWithin low high es → AreWithin low high (fill_from all before es)
unfolding fill_from
filled_within low high all before [] h = tt
filled_within low high all before (e ∷ es) h = (
  subst (IsWithin low high) (sym (same_line all before e)) h.0,
  filled_within low high all (with_event before (filled_event all before e)) es h.1,
)

-- the fault of a clock or a message has the line of its event
fault_within : (low high : ℕ) (before all : Events) (es : List Event) (f : LogFault) → AreWithin low high es → fault_from before all es ≡ Some f → IsWithin low high f.line
unfolding fault_from
fault_within low high before all [] f h some = absurd cc
fault_within low high before all (e ∷ es) f h some =
    go (event_fault before all e) some (λ is. fault_within low high (with_event before e) all es f h.1 is)
  where
    go : (o : Option LogCode) → choose o (λ c. Some (at_line e c)) (fault_from (with_event before e) all es) ≡ Some f → (fault_from (with_event before e) all es ≡ Some f → IsWithin low high f.line) → IsWithin low high f.line
    go None is later = later is
    go (Some c) is later = let same : f ≡ at_line e c = cc in subst (λ (g : LogFault). IsWithin low high g.line) (sym same) h.0

-- and so that of a counter that falls
fall_within : (low high : ℕ) (states : StatesView) (counters : List Variable) (es : List Event) (f : LogFault) → AreWithin low high es → fall_fault states counters es ≡ Some f → IsWithin low high f.line
unfolding fall_fault
fall_within low high states counters [] f h some = absurd cc
fall_within low high states counters (e ∷ es) f h some =
    go (list_any (is_lowered states e) counters) some (λ is. fall_within low high (behind_event states e) counters es f h.1 is)
  where
    go : (falls : Bool) → (if falls then Some (fall_of e) else fall_fault (behind_event states e) counters es) ≡ Some f → (fall_fault (behind_event states e) counters es ≡ Some f → IsWithin low high f.line) → IsWithin low high f.line
    go false is later = later is
    go true is later = let same : f ≡ fall_of e = cc in subst (λ (g : LogFault). IsWithin low high g.line) (sym same) h.0

batch_within : (low high : ℕ) (counters : List Variable) (log : Prefix) (es : List Event) (f : LogFault) → AreWithin low high es → fault_behind counters log es ≡ Some f → IsWithin low high f.line
batch_within low high counters log es f h some = go (fall_fault (states_of log) counters es) refl some
  where
    go : (o : Option LogFault) → fall_fault (states_of log) counters es ≡ o → choose o (λ g. Some g) (clock_fault log es) ≡ Some f → IsWithin low high f.line
    go None is clock = fault_within low high (events_of log) (with_batch (events_of log) es) es f h clock
    go (Some g) is told = fall_within low high (states_of log) counters es f h (is ∙ told)

-- ---- the fault of a log of one batch

module _ (rules : Rules) (h : Header) (b : List Event) (past : Option Prefix) (f : LogFault) where
  abbrev first : Prefix
  first = prefix_at h []

  abbrev full : List Event
  full = with_clocks first b

  closed_so : (o : Option LogFault) → choose o (λ g. refused (Some first) (refusal.Log g)) (finished first full) ≡ refused past (refusal.Log f) → o ≡ Some f
  closed_so None is = absurd cc
  closed_so (Some g) is = cc

  grown_so : judged rules (growing first []) (batch_items (b ∷ [])) ≡ refused past (refusal.Log f) → rules.batch first full ≡ Some f
  grown_so is =
      closed_so (rules.batch first full) (sym (judged-batch rules first b [] ∙ judged-none rules (closing rules first full (finished first full))) ∙ is)

  opened_so : (o : Option FormulaFault) → judged rules (choose o (λ g. refused None (refusal.Formula g)) (growing first [])) (batch_items (b ∷ [])) ≡ refused past (refusal.Log f) → rules.batch first full ≡ Some f
  opened_so None is = grown_so is
  opened_so (Some g) is =
      let never : refused None (refusal.Formula g) ≡ refused past (refusal.Log f) = sym (refused-stays rules None (refusal.Formula g) (batch_items (b ∷ []))) ∙ is in
      absurd cc

  one_batch_so : judged rules waiting (log_items (record { header = h; batches = b ∷ [] })) ≡ refused past (refusal.Log f) → rules.batch first full ≡ Some f
  unfolding judged
  one_batch_so is = opened_so (rules.names h) is

-- ---- the merged log

abbrev origin_of : Placed → Origin
origin_of x = record { source = x.source; line = x.event.line }

pub have_an_origin : (names : Header → Option FormulaFault) (counters : Header → List Variable) (bytes : List ℕ) (past : Option Prefix) (f : LogFault)
    → judged (with_rules names counters) waiting (log_items (merged_log_of bytes)) ≡ refused past (refusal.Log f)
    → (0 < f.line) × (f.line ≤ length (merged_of bytes).origins)
have_an_origin names counters bytes past f is =
    let xs : List Placed = merged_events (logs_of (after no_sources bytes)) in
    let h : Header = (merged_log_of bytes).header in
    let b : List Event = numbered 1 xs in
    let log : Prefix = prefix_at h [] in
    let some : fault_behind (counters h) log (with_clocks log b) ≡ Some f = one_batch_so (with_rules names counters) h b past f is in
    let lines : AreWithin 1 (1 + length xs) b = numbered_within 1 1 (1 + length xs) xs (omega arith) (omega arith) in
    let filled : AreWithin 1 (1 + length xs) (with_clocks log b) = filled_within 1 (1 + length xs) (with_batch (events_of log) b) (events_of log) b lines in
    let within = batch_within 1 (1 + length xs) (counters h) log (with_clocks log b) f filled some in
    let long : length (merged_of bytes).origins ≡ length xs = length-map xs origin_of in
    (omega (arith, within.0), omega (arith, within.1, long))
