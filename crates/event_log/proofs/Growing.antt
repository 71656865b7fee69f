-- Histories that grow, and that are cut back to what they were.
use Rattle.std.proofs.Common.{◌≡◌, ℕ, zero, suc, ◌<◌, ◌≤◌, List, [], ◌∷◌, ◌++◌, length, map, get_or, set, refl, sym, ap, ◌∙◌, subst, arith, append_assoc, append-nil, length-append}
use Rattle.std.specs.Prelude.{ℤ}
use Rattle.std.proofs.Common.{inl, inr}
use Rattle.std.proofs.lemmas.Bool.{cases_eq, cases_lt}
use Rattle.std.proofs.lemmas.List.{length-set, length-map, get_or_past, get_or-set_same, get_or-set_other, get_or-map}
use Rattle.event_log.specs.declared.log.Event.{Event}
use Rattle.event_log.specs.States.{HistoryView, with_event, with_batch}
use Rattle.event_log.specs.inside.States.{nothing, events_in, Grown, Added}

pub grown_none : (old : List HistoryView) → Grown old old
grown_none old = record { count = refl; each = λ p. ([], ap (λ (es : List Event). let h : HistoryView = record { opening = (get_or old p nothing).opening; events = es } in h) (sym (append-nil _))) }

pub added_none : (old : List HistoryView) → Added old [] old
unfolding with_batch
added_none old = record { grown = grown_none old; events = refl }

-- ---- one event more

pub with_batch-push : (events : List (List Event)) (batch : List Event) (e : Event) → with_batch events (batch ++ e ∷ []) ≡ with_event (with_batch events batch) e
unfolding with_batch
with_batch-push events [] e = refl
with_batch-push events (f ∷ batch) e = with_batch-push (with_event events f) batch e

events_in-set : (hs : List HistoryView) (p : ℕ) (h : HistoryView) → events_in (set hs p h) ≡ set (events_in hs) p h.events
events_in-set [] p h = refl
events_in-set (x ∷ hs) zero h = refl
events_in-set (x ∷ hs) (suc p) h = ap (λ (l : List (List Event)). x.events ∷ l) (events_in-set hs p h)

-- a history with an event more
abbrev pub longer : HistoryView → Event → HistoryView
longer h e = record { opening = h.opening; events = h.events ++ e ∷ [] }

same_view : (o : List ℤ) (es es' : List Event) → es ≡ es' → ◌≡◌ {A = HistoryView} (record { opening = o; events = es }) (record { opening = o; events = es' })
same_view o es es' q = ap (λ (x : List Event). let h : HistoryView = record { opening = o; events = x } in h) q

pub grown_more : (old now : List HistoryView) (p : ℕ) (e : Event) → Grown old now → p < length now → Grown old (set now p (longer (get_or now p nothing) e))
grown_more old now p e h there = record {
  count = length-set now p _ ∙ h.count;
  each = λ q. elim (cases_eq q p) [
    | inl same ↦
        let g = h.each p in
        subst (λ (k : ℕ). (more : List Event) × (get_or (set now p (longer (get_or now p nothing) e)) k nothing ≡ record { opening = (get_or old k nothing).opening; events = (get_or old k nothing).events ++ more }))
        (sym same) (
          g.0 ++ e ∷ [],
          get_or-set_same now p _ nothing there ∙ ap (λ (x : HistoryView). longer x e) g.1
              ∙ same_view _ _ _ (append_assoc (get_or old p nothing).events g.0 (e ∷ [])),
        )
    | inr other ↦
        let g = h.each q in
        (g.0, get_or-set_other now p q _ nothing other ∙ g.1)
  ];
}

pub added_more : (old now : List HistoryView) (batch : List Event) (e : Event) → Added old batch now → e.process < length now
    → Added old (batch ++ e ∷ []) (set now e.process (longer (get_or now e.process nothing) e))
added_more old now batch e h there =
    let p = e.process in
    let read : get_or (events_in now) p [] ≡ (get_or now p nothing).events = get_or-map (λ (x : HistoryView). x.events) now p nothing [] there in
    record {
      grown = grown_more old now p e h.grown there;
      events = events_in-set now p _ ∙ ap (λ (es : List Event). set (events_in now) p (es ++ e ∷ [])) (sym read)
          ∙ ap (λ (ess : List (List Event)). with_event ess e) h.events ∙ sym (with_batch-push (events_in old) batch e);
    }

-- ---- read by place

-- the lengths from before are there in what grew
pub grown_fits : (shape : List ℕ) (before old : List HistoryView) → Grown before old → shape ≡ map (λ (h : HistoryView). length h.events) before
    → (p : ℕ) → get_or shape p 0 ≤ length (get_or old p nothing).events
grown_fits shape before old grown lens p = elim (cases_lt p (length before)) [
  | inl there ↦
      let g = grown.each p in
      let len : get_or shape p 0 ≡ length (get_or before p nothing).events =
      ap (λ (s : List ℕ). get_or s p 0) lens ∙ get_or-map (λ (x : HistoryView). length x.events) before p nothing 0 there in
      omega (arith, len, ap (λ (x : HistoryView). length x.events) g.1, length-append (get_or before p nothing).events g.0)
  | inr past ↦
      let none : get_or shape p 0 ≡ 0 = get_or_past shape p 0 (omega (arith, ap length lens, length-map before (λ (h : HistoryView). length h.events))) in
      omega (arith, none)
]
