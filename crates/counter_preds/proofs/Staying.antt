-- A counter stays one behind events that don't leave it lower, and is one where there are no events.
use Rattle.std.proofs.Common.{◌≡◌, ℕ, ◌+◌, ◌≤◌, Bool, true, false, ℤ, ◌≤ℤ◌, List, [], ◌∷◌, ◌++◌, length, replicate, Option, inl, inr, refl, ap, sym, subst, ◌∙◌, arith}
use Rattle.std.specs.Prelude.{All, None, Some, if◌then◌else◌}
use Rattle.std.specs.List.{list_any}
use Rattle.std.proofs.lemmas.Int.{ints}
use Rattle.std.proofs.lemmas.Bool.{cases_lt, or_parts}
use Rattle.std.proofs.lemmas.List.{get_or-replicate, get_or_past, length-replicate}
use Rattle.std.proofs.lemmas.List.Elements.{All-nil, All-cons}
use Rattle.event_log.specs.declared.log.Event.{Event}
use Rattle.event_log.specs.declared.log.Header.{Header}
use Rattle.event_log.specs.declared.item.LogFault.{LogFault}
use Rattle.event_log.specs.States.{StatesView, AreWhole, opened, with_batch}
use Rattle.channel_preds.specs.Channels.{events_at}
use Rattle.counter_preds.specs.declared.values.Variable.{Variable}
use Rattle.counter_preds.specs.Counters.{IsVariable, IsCounter, values_of, value_at, value_in}
use Rattle.counter_preds.specs.Falls.{value_now, behind_event, behind_batch, is_lowered, fall_of}
use Rattle.counter_preds.specs.Falls.{fall_fault}
use Rattle.counter_preds.proofs.Along.{length-values_of, value_at-values_of}
use Rattle.counter_preds.proofs.Growing.{value_stays}
use Rattle.counter_preds.proofs.Tests.{not_lower}
use Rattle.counter_preds.proofs.Behind.{whole_behind, variable_behind, more_behind, length-events_behind}

-- ---- one event

same_le : (a b : ℤ) → a ≡ b → a ≤ℤ b
same_le a b same = subst (λ z. a ≤ℤ z) same (omega (arith, ints))

stays_behind : (states : StatesView) → AreWhole states → (e : Event) (x : Variable) → IsVariable states x → IsCounter states x → is_lowered states e x ≡ false → IsCounter (behind_event states e) x
stays_behind states whole e x is rising kept =
    let after = behind_event states e in
    let n = length (events_at states x.process) in
    let size = length-values_of after x in
    let one_more = length-events_behind states e x.process in
    let old : (a : ℕ) → a ≤ n → value_in after x a ≡ value_at (values_of states x) a =
    λ a le. sym (value_stays states after (more_behind states e) whole (whole_behind states e whole) x is a le) ∙ sym (value_at-values_of states x a le) in
    record {
      some = omega (arith, size);
      rises = λ a b up lt.
          let at_a : value_at (values_of after x) a ≡ value_in after x a = value_at-values_of after x a (omega (arith, size, up, lt)) in
          let at_b : value_at (values_of after x) b ≡ value_in after x b = value_at-values_of after x b (omega (arith, size, lt)) in
          elim (cases_lt n b) [
            | inl new ↦
                let last : b ≡ length (events_at after x.process) = omega (arith, new, size, lt, one_more) in
                let now : value_in after x b ≡ value_now after x = ap (value_in after x) last in
                elim (cases_lt n a) [
                  | inl same ↦ same_le _ _ (ap (value_at (values_of after x)) (omega (arith, up, same, last, one_more)))
                  | inr le ↦
                      let low : value_at (values_of states x) a ≤ℤ value_at (values_of states x) n = rising.rises a n le (omega (arith, length-values_of states x)) in
                      let before : value_at (values_of states x) n ≡ value_now states x = value_at-values_of states x n (omega arith) in
                      let high : value_now states x ≤ℤ value_now after x = not_lower (value_now states x) (value_now after x) kept in
                      let between : value_at (values_of states x) a ≤ℤ value_now after x = omega (arith, ints, low, high, same_le _ _ before) in
                      subst (λ z. z ≤ℤ value_at (values_of after x) b) (sym (at_a ∙ old a le)) (subst (λ z. value_at (values_of states x) a ≤ℤ z) (sym (at_b ∙ now)) between)
                ]
            | inr le ↦
                subst (λ z. z ≤ℤ value_at (values_of after x) b) (sym (at_a ∙ old a (omega (arith, up, le))))
                (subst (λ z. value_at (values_of states x) a ≤ℤ z) (sym (at_b ∙ old b le)) (rising.rises a b up (omega (arith, le, length-values_of states x))))
          ];
    }

-- ---- a batch

-- of a fault that isn't there: the first event lowers none of the counters, and the rest of the batch has no fault
none_here : (b : Bool) (fault : LogFault) (rest : Option LogFault) → (if b then Some fault else rest) ≡ None → (b ≡ false) × (rest ≡ None)
none_here true fault rest none = cc
none_here false fault rest none = (refl, none)

all_kept : (states : StatesView) (e : Event) (counters : List Variable) → list_any (is_lowered states e) counters ≡ false → All (λ (x : Variable). is_lowered states e x ≡ false) counters
all_kept states e [] none = All-nil (λ (x : Variable). is_lowered states e x ≡ false)
all_kept states e (x ∷ rest) none =
    let parts = or_parts (is_lowered states e x) (list_any (is_lowered states e) rest) none in
    All-cons (λ (y : Variable). is_lowered states e y ≡ false) x rest parts.0 (all_kept states e rest parts.1)

all_stay_behind : (states : StatesView) → AreWhole states → (e : Event) (counters : List Variable) → All (IsVariable states) counters → All (IsCounter states) counters
    → All (λ (x : Variable). is_lowered states e x ≡ false) counters → All (IsCounter (behind_event states e)) counters
all_stay_behind states whole e counters are rising kept = λ k d lt. stays_behind states whole e _ (are k d lt) (rising k d lt) (kept k d lt)

pub counters_stay_lem : (states : StatesView) (counters : List Variable) (batch : List Event) → AreWhole states → All (IsVariable states) counters → All (IsCounter states) counters
    → fall_fault states counters batch ≡ None → All (IsCounter (behind_batch states batch)) counters
unfolding with_batch fall_fault
counters_stay_lem states counters [] whole are rising none = rising
counters_stay_lem states counters (e ∷ rest) whole are rising none =
    let parts = none_here (list_any (is_lowered states e) counters) (fall_of e) (fall_fault (behind_event states e) counters rest) none in
    counters_stay_lem (behind_event states e) counters rest (whole_behind states e whole) (λ k d lt. variable_behind states e _ (are k d lt))
    (all_stay_behind states whole e counters are rising (all_kept states e counters parts.0)) parts.1

-- without counters there is no fault
pub none_without : (states : StatesView) (batch : List Event) → fall_fault states [] batch ≡ None
unfolding fall_fault
none_without states [] = refl
none_without states (e ∷ rest) = none_without (behind_event states e) rest

-- behind a batch without a fall
none_between : (b : Bool) (fault : LogFault) (rest : Option LogFault) → b ≡ false → rest ≡ None → (if b then Some fault else rest) ≡ None
none_between true fault rest none same = cc
none_between false fault rest none same = same

pub none_joined : (states : StatesView) (counters : List Variable) (batch more : List Event) → fall_fault states counters batch ≡ None
    → fall_fault (behind_batch states batch) counters more ≡ None → fall_fault states counters (batch ++ more) ≡ None
unfolding with_batch fall_fault
none_joined states counters [] more none later = later
none_joined states counters (e ∷ rest) more none later =
    let parts = none_here (list_any (is_lowered states e) counters) (fall_of e) (fall_fault (behind_event states e) counters rest) none in
    none_between (list_any (is_lowered states e) counters) (fall_of e) (fall_fault (behind_event states e) counters (rest ++ more)) parts.0
    (none_joined (behind_event states e) counters rest more parts.1 later)

-- ---- a header

no_events_at : (h : Header) (p : ℕ) → length (events_at (opened h) p) ≡ 0
no_events_at h p = elim (cases_lt p (length h.procs)) [
  | inl there ↦ ap (λ (es : List Event). length es) (get_or-replicate (length h.procs) p [] [] there)
  | inr past ↦
      let nil : List Event = [] in
      ap (λ (es : List Event). length es) (get_or_past (replicate (length h.procs) nil) p [] (omega (arith, past, length-replicate (length h.procs) nil)))
]

pub opened_counter : (h : Header) (x : Variable) → IsCounter (opened h) x
opened_counter h x =
    let size : length (values_of (opened h) x) ≡ 1 = length-values_of (opened h) x ∙ ap (λ (n : ℕ). n + 1) (no_events_at h x.process) in
    record { some = omega (arith, size); rises = λ a b up lt. same_le _ _ (ap (value_at (values_of (opened h) x)) (omega (arith, size, up, lt))) }
