-- The log in front of an input.
use Rattle.std.proofs.Common.{◌≡◌, ℕ, ◌-◌, Bool, true, false, Option, Some, None, List, [], length, take, refl, sym, ap, subst, ◌∙◌, arith}
use Rattle.std.specs.Option.{option_map}
use Rattle.std.proofs.lemmas.List.{length-append}
use Rattle.std.proofs.lemmas.Option.{none-some, same_Some}
use Rattle.std.proofs.Math.Seq.{take-append_seam}
use Rattle.event_log.specs.declared.item.LogFault.{LogFault}
use Rattle.event_log.specs.declared.reader.Reader.{Reader}
use Rattle.event_log.specs.Faults.{fault_of, end_fault, items_in}
use Rattle.event_log.specs.LogEnd.{log_upto, behind_log}
use Rattle.event_log.specs.LogText.{onto}
use Rattle.event_log.proofs.LogEnds.{parted}
use Rattle.vector_clock.specs.Filled.{filled_log}
use Rattle.fault_kinds.specs.declared.refusal.Refusal.{Refusal}
use Rattle.fault_kinds.specs.declared.refusal.Refusal.TheVariants as refusal
use Rattle.log_rules.specs.Judgement.{Prefix, followed_by, Judgement, waiting, growing, finished, refused, judged}
use Rattle.log_rules.specs.Due.{whole_of, fault_in, at_end}
use Rattle.log_rules.specs.Readings.{text_fault}
use Rattle.log_rules.specs.WholeLogs.{all_of}
use Rattle.log_rules.proofs.Logs.{log_due as due_of_log, due_log}
use Rattle.log_trace.specs.declared.trace.LogTrace.{LogTrace}
use Rattle.log_trace.specs.Judging.{without_formula, IsRefused, HasTrace, Keeps}
use Rattle.view_top.specs.Viewing.{report_in, log_in, log_due, HasLog, IsViewIn}
use Rattle.view_top.specs.inside.Inputs.{HasReadLog, IsViewBehind, NoReportIn, NoViewIn}
use Rattle.view_top.specs.declared.asking.View.{View}
use Rattle.view_top.specs.declared.fault.Fault.{Fault}
use Rattle.view_top.specs.declared.fault.Fault.TheVariants as fault
use Rattle.input_reading.specs.declared.reading.End.{End}
use Rattle.input_reading.specs.declared.reading.End.TheVariants as end
use Rattle.view_parts.specs.Series.{IsLastOf, IsFaultInAll}
use Rattle.trace_growth.specs.Growing.{TraceView}

-- ---- the bytes of the log

pub log_past : (input : List ℕ) → onto (log_in input) [] ≡ log_upto [] input
log_past input =
    let p = parted input [] in
    let count : length input - length (report_in input) ≡ length p.front = omega (arith, ap length p.bytes_are, length-append p.front (behind_log [] input)) in
    ap (λ (n : ℕ). onto (take n input) []) count ∙ ap (λ (xs : List ℕ). onto (take (length p.front) xs) []) p.bytes_are
    ∙ ap (λ (xs : List ℕ). onto xs []) (take-append_seam p.front (behind_log [] input)) ∙ sym p.upto_is

-- ---- what is due of it

-- how a fault of a batch is told
abbrev pub as_is : LogFault → Refusal
as_is f = refusal.Log f

abbrev pub of_text : Option LogFault → Option Refusal
of_text fault = option_map as_is fault

pub kept_told : (kept : LogTrace) (j : Judgement) (fault : Option Refusal) → Keeps kept j → fault_in as_is j fault ≡ fault
kept_told kept waiting fault keeps = refl
kept_told kept (growing log since) fault keeps = refl
kept_told kept (finished log last) fault keeps = refl
kept_told kept (refused log why) fault keeps = absurd keeps

pub refused_told : (j : Judgement) (fault : Option Refusal) (f : LogFault) → IsRefused j f → fault_in as_is j fault ≡ Some (refusal.Log f)
refused_told j fault f is = ap (λ (k : Judgement). fault_in as_is k fault) is.1

pub text_fault_is : (bytes : List ℕ) (f : LogFault) → fault_of bytes ≡ Some f → (ended : Bool) → text_fault ended bytes ≡ Some f
text_fault_is bytes f there false = there
text_fault_is bytes f there true = rw there refl

-- ---- no byte of it has a fault

module _ (reader : Reader) (kept : LogTrace) (input rest : List ℕ) (h : HasReadLog reader kept input rest) where
  abbrev j : Judgement
  j = judged without_formula waiting (items_in (log_in input))

  pub free_so_far : (log_due false input).fault ≡ None
  free_so_far = kept_told kept j (of_text (fault_of (log_in input))) h.keeps ∙ ap of_text h.free

  -- it isn't whole
  pub end_due : (f : LogFault) → end_fault (onto (log_in input) []) ≡ Some f → (log_due true input).fault ≡ Some (refusal.Log f)
  end_due f there = kept_told kept j (of_text (end_fault (onto (log_in input) []))) h.keeps ∙ ap of_text there

  module _ (whole : end_fault (onto (log_in input) []) ≡ None) where
    none_due : (log_due true input).fault ≡ None
    none_due = kept_told kept j (of_text (end_fault (onto (log_in input) []))) h.keeps ∙ ap of_text whole

    found : (log : Prefix) × ((log_due true input).whole ≡ Some log)
    found =
        let log = due_log (λ h. None) (λ h. []) (log_in input) none_due in
        let due_is = due_of_log (λ h. None) (λ h. []) (log_in input) log.0 log.1 in
        (all_of (filled_log log.0), due_is.whole)

    whole_is : whole_of j ≡ Some found.0
    whole_is = sym (ap (λ (o : Option LogFault). at_end true (of_text o) (whole_of j)) whole) ∙ found.1

    kept_whole : (k : Judgement) (log : Prefix) → Keeps kept k → whole_of k ≡ Some log → HasTrace kept log
    kept_whole waiting log keeps is = absurd (none-some log is)
    kept_whole (growing so_far since) log keeps is = absurd (none-some log is)
    kept_whole (finished so_far last) log keeps is = subst (HasTrace kept) (same_Some (followed_by so_far last) log is) keeps.0
    kept_whole (refused so_far why) log keeps is = absurd keeps

    has_trace : HasTrace kept found.0
    has_trace = kept_whole j found.0 h.keeps whole_is

    pub no_trace : kept.trace ≡ None → ⊥
    no_trace none = none-some has_trace.trace (sym none ∙ has_trace.is)

    module _ (trace : TraceView) (is : kept.trace ≡ Some trace) where
      one : has_trace.trace ≡ trace
      one = same_Some has_trace.trace trace (sym has_trace.is ∙ is)

      pub here : trace.spent ≡ false
      here = ap (λ (t : TraceView). t.spent) (sym one) ∙ has_trace.here

      pub has_log : HasLog input trace.states
      has_log = record {
        free = none_due;
        log = found.0;
        whole = found.1;
        states = ap (λ (t : TraceView). t.states) (sym one) ∙ has_trace.states;
      }

      -- the view of it by the report behind it
      pub view_behind : (asked : View) (shown : List ℕ) → IsViewBehind asked trace.states rest shown → IsViewIn asked input shown
      view_behind asked shown v = record {
        states = trace.states;
        log = has_log;
        report = v.report;
        text = subst (λ (t : List ℕ). IsLastOf t v.report) h.rest_is v.is.text_is;
        fits = v.is.fits;
        view = v.view;
      }

      -- or why there is none
      pub no_report : (e : End) (f : Fault) → e ≡ end.Ended → NoReportIn trace.states rest f → NoViewIn e input f
      no_report e fault.Usage ended why = why
      no_report e (fault.Log f) ended why = absurd why
      no_report e fault.NoReport ended why = (
        ended,
        record { states = trace.states; log = has_log; nothing = sym h.rest_is ∙ why },
      )
      no_report e (fault.Report f) ended why = (
        ended,
        record {
          states = trace.states;
          log = has_log;
          something = λ nothing. why.0 (h.rest_is ∙ nothing);
          fault = subst (λ (t : List ℕ). IsFaultInAll t f.line) h.rest_is why.1;
        },
      )
      no_report e fault.TooLong ended why = absurd why
      no_report e fault.OtherLog ended why = (
        ended,
        record { states = trace.states; log = has_log; report = why.0; text = subst (λ (t : List ℕ). IsLastOf t why.0) h.rest_is why.1; other = why.2 },
      )
      no_report e fault.Read ended why = absurd why
      no_report e fault.Write ended why = why
      no_report e fault.Memory ended why = tt
