-- Events folded by numbers and counts are those folded by names.
use Rattle.std.proofs.Common.{◌≡◌, ℕ, suc, ◌+◌, ◌≤◌, List, [], ◌∷◌, length, map, refl, sym, ap, ◌∙◌, subst, arith, inl, inr}
use Rattle.std.specs.Prelude.{if◌then◌else◌}
use Rattle.std.specs.List.{AllByRecursion, filter}
use Rattle.std.proofs.lemmas.Bool.{cases_Bool, cond-true, cond-false}
use Rattle.run_model.specs.Cut.{Cut, count}
use Rattle.run_model.specs.Run as run
use Rattle.kept_runs.specs.Kept.{Names, kept_count, counted, kept_cut}
use Rattle.event_log.specs.declared.log.Kind.TheVariants as kind
use Rattle.event_log.specs.declared.log.Event.{Event}
use Rattle.kept_log.specs.Kept.{is_kept_here, kept_here, kept_events}
use Rattle.kept_log.specs.inside.Numbered as by
use Rattle.kept_log.specs.inside.Counted.{count_at, clock_by, event_by, events_by}
use Rattle.kept_log.proofs.Folded.{kept_one, dropped_one}
use Rattle.kept_log.proofs.ByNumbers.{numbers_of, kept_same, open_same, assigned_same}

-- the rows hold, for each process and each number of its first events, how many of these are kept
abbrev pub AreCounts : run.Trace → Names → List (List ℕ) → Type 0
AreCounts trace names counts =
    (j a : ℕ) → a ≤ length (run.process_at trace j).events → count_at counts j a ≡ kept_count trace names j a

-- the event's clock counts no event that is not there
abbrev pub IsCounted : run.Trace → Event → Type 0
IsCounted trace e = (j : ℕ) → count e.clock j ≤ length (run.process_at trace j).events

module _ (trace : run.Trace) (names : Names) (counts : List (List ℕ)) (are : AreCounts trace names counts) where
  clock_from : (j : ℕ) (c : Cut) → ((k : ℕ) → count c k ≤ length (run.process_at trace (j + k)).events) → clock_by counts j c ≡ counted (kept_count trace names) j c
  unfolding counted
  clock_from j [] within = refl
  clock_from j (a ∷ c) within =
      let here : a ≤ length (run.process_at trace j).events = subst (λ (i : ℕ). a ≤ length (run.process_at trace i).events) (omega arith) (within 0) in
      let next : j + 1 ≡ suc j = omega arith in
      ap (λ (n : ℕ). n ∷ clock_by counts (j + 1) c) (are j a here)
      ∙ ap (λ (i : ℕ). kept_count trace names j a ∷ clock_by counts i c) next
      ∙ ap (λ (r : Cut). kept_count trace names j a ∷ r)
      (clock_from (suc j) c (λ k. subst (λ (i : ℕ). count c k ≤ length (run.process_at trace i).events) (omega arith) (within (suc k))))

  one_same : (e : Event) → IsCounted trace e → event_by (numbers_of trace names) counts e ≡ kept_here trace names e
  one_same e within =
      let numbers = numbers_of trace names in
      ap (λ (c : Cut). record e { clock = c; kind = if by.is_open numbers e then e.kind else kind.Internal; assigns = by.assigns_by numbers e.process e.assigns }) (clock_from 0 e.clock (λ k. subst (λ (i : ℕ). count e.clock k ≤ length (run.process_at trace i).events) (omega arith) (within k)))
      ∙ (λ i. record e { clock = kept_cut trace names e.clock; kind = if open_same trace names e i then e.kind else kind.Internal; assigns = assigned_same trace names e.process e.assigns i })

  pub events_same : (es : List Event) → AllByRecursion (IsCounted trace) es → events_by (numbers_of trace names) counts es ≡ kept_events trace names es
  events_same [] all = refl
  events_same (e ∷ es) all = elim (cases_Bool (is_kept_here trace names e)) [
    | inl on ↦
        ap (map (event_by (numbers_of trace names) counts)) (cond-true (by.is_kept (numbers_of trace names) e) (e ∷ filter (by.is_kept (numbers_of trace names)) es) (filter (by.is_kept (numbers_of trace names)) es) (kept_same trace names e ∙ on))
        ∙ ap (λ (x : Event). x ∷ events_by (numbers_of trace names) counts es) (one_same e all.0)
        ∙ ap (λ (xs : List Event). kept_here trace names e ∷ xs) (events_same es all.1)
        ∙ sym (kept_one trace names e es on)
    | inr off ↦
        ap (map (event_by (numbers_of trace names) counts)) (cond-false (by.is_kept (numbers_of trace names) e) (e ∷ filter (by.is_kept (numbers_of trace names)) es) (filter (by.is_kept (numbers_of trace names)) es) (kept_same trace names e ∙ off))
        ∙ events_same es all.1
        ∙ sym (dropped_one trace names e es off)
  ]
