-- The loop that makes the events.
use Rattle.std.proofs.Common.{◌≡◌, ℕ, suc, ◌+◌, ◌-◌, ◌<◌, ◌≤◌, List, [], ◌∷◌, ◌++◌, length, sym, ap, ap₂, ◌∙◌, subst, arith, append-nil, append_assoc}
use Rattle.pota_base.specs.Limits.{most_events, most_processes}
use Rattle.event_log.specs.declared.log.Event.{Event}
use Rattle.event_log.specs.States.{with_event, with_batch}
use Rattle.vector_clock.specs.Events.{Events, no_events}
use Rattle.vector_clock.proofs.Counting.{batch_push}
use Rattle.trace_gen.specs.Words.{word, first_state, next_state}
use Rattle.trace_gen.specs.Making.{Processes, Made, process_at, made}
use Rattle.trace_gen.specs.inside.Making.{CanStep, CanMake}
use Rattle.trace_gen.specs.Generated.{events_from, at_rest, generated_events}
use Rattle.trace_gen.proofs.Steps.{Going, can_step}
use Rattle.trace_gen.proofs.Choices.{made_well}
use Rattle.trace_gen.proofs.Clear.{start_going}

-- k events were made, the generator stands at s, and those that are still to come make it the whole
pub record MadeSoFar (seed procs count : ℕ) (events : List Event) (k s : ℕ) (ps : Processes) : Type 0 where
  pub going : Going procs (with_batch (no_events procs) events) k ps
  pub all : events ++ events_from procs k (count - k) s ps ≡ generated_events seed procs count

pub so_far_none : (seed procs count s : ℕ) (events : List Event) (ps : Processes) → events ≡ [] → s ≡ first_state seed → ps ≡ at_rest procs → MadeSoFar seed procs count events 0 s ps
unfolding with_batch
so_far_none seed procs count s events ps none first rest =
    let all : count - 0 ≡ count = omega arith in
    subst (λ (es : List Event). MadeSoFar seed procs count es 0 s ps) (sym none)
    (subst (λ n. MadeSoFar seed procs count [] 0 n ps) (sym first)
    (subst (MadeSoFar seed procs count [] 0 (first_state seed)) (sym rest)
    (record { going = start_going procs; all = ap (λ n. events_from procs 0 n (first_state seed) (at_rest procs)) all })))

pub so_far_can : (seed procs count : ℕ) (events : List Event) (k s : ℕ) (ps : Processes) → MadeSoFar seed procs count events k s ps → 1 ≤ procs → procs ≤ most_processes → k < most_events → CanMake k ps
so_far_can seed procs count events k s ps h some few limit = record {
  some = omega (arith, h.going.all);
  few = omega (arith, h.going.all);
  limit = limit;
  each = λ i lt. subst (λ n. CanStep n k (process_at ps i)) (sym h.going.all) (can_step procs (with_batch (no_events procs) events) k ps i h.going (omega (arith, h.going.all)));
}

next_event : (procs k n s : ℕ) (ps : Processes) (x : Made) → x ≡ made procs k (word s) ps
    → events_from procs k (suc n) s ps ≡ x.event ∷ events_from procs (k + 1) n (next_state s) x.processes
unfolding events_from
next_event procs k n s ps x is = ap (λ (y : Made). y.event ∷ events_from procs (k + 1) n (next_state s) y.processes) (sym is)

pub so_far_next : (seed procs count : ℕ) (events : List Event) (k s w t : ℕ) (ps now : Processes) (e : Event) → MadeSoFar seed procs count events k s ps → 1 ≤ procs → k < count
    → w ≡ word s → t ≡ next_state s → ◌≡◌ {A = Made} (record { event = e; processes = now }) (made (length ps) k w ps)
    → MadeSoFar seed procs count (events ++ e ∷ []) (k + 1) t now
so_far_next seed procs count events k s w t ps now e h some lt drawn moved is =
    let before = with_batch (no_events procs) events in
    let x : Made = record { event = e; processes = now } in
    let made_is : x ≡ made procs k (word s) ps = is ∙ ap₂ (λ n v. made n k v ps) h.going.all drawn in
    let goes : Going procs (with_event before e) (k + 1) now =
    subst (λ (y : Made). Going procs (with_event before y.event) (k + 1) y.processes) (sym made_is) (made_well procs before k (word s) ps some h.going).goes in
    let left : count - k ≡ suc (count - (k + 1)) = omega arith in
    record {
      going = subst (λ (b : Events). Going procs b (k + 1) now) (sym (batch_push (no_events procs) events e)) goes;
      all = ap (λ n. (events ++ e ∷ []) ++ events_from procs (k + 1) (count - (k + 1)) n now) moved
          ∙ append_assoc events (e ∷ []) _
          ∙ ap (λ (es : List Event). events ++ es) (sym (next_event procs k (count - (k + 1)) s ps x made_is) ∙ ap (λ n. events_from procs k n s ps) (sym left))
          ∙ h.all;
    }

pub so_far_all : (seed procs count : ℕ) (events : List Event) (k s : ℕ) (ps : Processes) → MadeSoFar seed procs count events k s ps → count ≤ k → events ≡ generated_events seed procs count
unfolding events_from
so_far_all seed procs count events k s ps h done =
    let none : count - k ≡ 0 = omega arith in
    sym (append-nil events) ∙ ap (λ n. events ++ events_from procs k n s ps) (sym none) ∙ h.all
