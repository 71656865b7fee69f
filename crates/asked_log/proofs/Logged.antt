-- A log that is observed for a list of questions.
use Rattle.std.proofs.Common.{◌≡◌, List, length, sym, ap, subst, ◌∙◌, arith}
use Rattle.std.specs.Prelude.{Some}
use Rattle.std.proofs.lemmas.List.{length-map}
use Rattle.run_model.specs.Run.{Name}
use Rattle.event_log.specs.LogText.{HeaderFits}
use Rattle.event_log.specs.States.{opened}
use Rattle.event_log.specs.declared.item.LogFault.{LogFault}
use Rattle.event_log.specs.declared.log.Header.{Header}
use Rattle.event_log.specs.declared.log.Log.{Log}
use Rattle.asked_list.specs.Lists.{asked_each, disjuncts_in}
use Rattle.asked_list.specs.declared.list.AskedList.{AskedList}
use Rattle.asked_observation.specs.Observed.{IsObservedList}
use Rattle.log_check.proofs.Steps.{can_resolve}
use Rattle.log_intake.specs.Taking.{trace_after}
use Rattle.log_rules.specs.SoFar.{counted}
use Rattle.log_rules.specs.WholeLogs.{all_of, first_fall}
use Rattle.observation.specs.Fed.{AreFedFrom}
use Rattle.observation.specs.Growing.{GrowingView}
use Rattle.observation.specs.declared.observation.Observation.{Observation}
use Rattle.part_pulls.specs.Counters.{counters_of}
use Rattle.rctl_names.specs.Resolving.{CanResolve, IsResolved}
use Rattle.rctl_parts.specs.Pieces.{Piece, disjuncts_of}
use Rattle.trace_growth.specs.Growing.{TraceView, opened_trace}
use Rattle.watch.specs.declared.predicate.Handed.{Handed}
use Rattle.asked_log.specs.Logs.{CanObserve, HasFall, IsObservedOn}
use Rattle.asked_log.specs.Watches.{AreWatches, Says, names_of}
use Rattle.asked_log.specs.inside.Observing.{CanTake, FallsIn, IsObservedLog}

pub names_so : {X : Type 0} {P : X → Type 0} (handed slice : List (Handed X P)) (watches : List Name) → slice ≡ handed → watches ≡ names_of slice → watches ≡ names_of handed
names_so {X} {P} handed slice watches same is = is ∙ ap (λ (hs : List (Handed X P)). names_of hs) same

pub can_look_up : {X : Type 0} {P : X → Type 0} (handed : List (Handed X P)) (h : Header) (watches : List Name) → HeaderFits h → AreWatches handed → watches ≡ names_of handed → CanResolve h watches
can_look_up {X} {P} handed h watches fits are is =
    can_resolve h watches fits (let many = ap length is ∙ length-map handed (λ (w : Handed X P). w.name) in omega (arith, many, are.few))

pub can_take : (log : Log) (h : Header) → CanObserve log → h ≡ log.header → CanTake h log.batches
can_take log h can is = subst (λ (x : Header). CanTake x log.batches) (sym is) (record { log_is = can.log_is; procs = let some = can.header.procs.some in omega (arith, some) })

module _ (list : AskedList) (log : Log) (watches : List Name) (growing : GrowingView) (fresh : growing.seen.trace ≡ opened_trace log.header) (observed : IsObservedList list watches growing) where
  header_is : growing.seen.trace.states.header ≡ log.header
  header_is = ap (λ (t : TraceView). t.states.header) fresh

  known : IsResolved log.header watches (disjuncts_in list) observed.resolved
  known = subst (λ (h : Header). IsResolved h watches (disjuncts_in list) observed.resolved) header_is observed.known

  pub falls_so : (fall : LogFault) → FallsIn log.batches growing fall → HasFall watches list log fall
  falls_so fall falls = record {
    known = known.free;
    falls =
        let asked = observed.asked ∙ ap (asked_each list.forms) known.numbered in
        let here : first_fall (opened log.header) (counters_of (disjuncts_of growing.disjuncts)) log.batches ≡ Some fall =
        subst (λ (h : Header). first_fall (opened h) (counters_of (disjuncts_of growing.disjuncts)) log.batches ≡ Some fall) header_is falls in
        subst (λ (ds : List (List Piece)). first_fall (opened log.header) (counters_of ds) log.batches ≡ Some fall) asked here;
  }

module _ {X : Type 0} {P : X → Type 0} (says : Says X P) (handed : List (Handed X P)) (list : AskedList) (log : Log) (can : CanObserve log) (first made : Observation X P)
    (fresh : first.growing.seen.trace ≡ opened_trace log.header) (observed : IsObservedList list (names_of handed) first.growing)
    (since : AreFedFrom says handed first.watches.items first.growing.seen) (is : IsObservedLog says log.batches first made) where
  trace_is : made.growing.seen.trace ≡ trace_after (all_of log)
  trace_is = is.trace ∙ ap (λ (t : TraceView). trace_after (record { header = t.states.header; batches = log.batches })) fresh

  pub observed_on : (kept : AskedList) → kept ≡ list → IsObservedOn says handed list log (record { list = kept; observation = made })
  observed_on kept same = record {
    list_is = same;
    observed = record {
      resolved = observed.resolved;
      known =
          subst (λ (h : Header). IsResolved h (names_of handed) (disjuncts_in list) observed.resolved)
          (ap (λ (t : TraceView). t.states.header) fresh ∙ sym (ap (λ (t : TraceView). t.states.header) trace_is)) observed.known;
      asked = ap disjuncts_of is.disjuncts ∙ observed.asked;
    };
    taken = record {
      unspent = is.unspent;
      taken = let some = can.some in let many : made.growing.seen.trace.batches ≡ counted log.batches = ap (λ (t : TraceView). t.batches) trace_is in omega (arith, many, some);
    };
    trace = trace_is;
    fed = is.fed handed since;
  }
