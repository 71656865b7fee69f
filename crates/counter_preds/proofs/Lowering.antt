-- The value in hand along a batch, and whether the next event leaves less.
use Rattle.std.proofs.Common.{◌≡◌, ℕ, ◌+◌, ◌<◌, ◌==◌, ℤ, int_lt, List, length, take, get_or, ap, sym, ◌∙◌}
use Rattle.std.specs.Prelude.{if◌then◌else◌}
use Rattle.std.proofs.lemmas.List.Sums.{fold_more}
use Rattle.event_log.specs.declared.log.Assign.{Assign}
use Rattle.event_log.specs.declared.log.Event.{Event}
use Rattle.event_log.specs.States.{StatesView, AreWhole, with_batch}
use Rattle.channel_preds.specs.Channels.{events_at}
use Rattle.counter_preds.specs.declared.values.Variable.{Variable}
use Rattle.counter_preds.specs.Counters.{IsVariable, value_in}
use Rattle.counter_preds.specs.Falls.{value_now, behind_batch}
use Rattle.counter_preds.specs.inside.Falls.{falls_at, assigned_value, left_by}
use Rattle.counter_preds.proofs.Behind.{next_value}

-- one assignment more
pub assigned_more : (number : ℕ) (z : ℤ) (assigns : List Assign) (i : ℕ) (d : Assign) → i < length assigns → (now next : ℤ) → now ≡ assigned_value number z (take i assigns)
    → next ≡ (if (get_or assigns i d).variable == number then (get_or assigns i d).value else now) → next ≡ assigned_value number z (take (i + 1) assigns)
assigned_more number z assigns i d there now next so_far is =
    is ∙ ap (λ (w : ℤ). if (get_or assigns i d).variable == number then (get_or assigns i d).value else w) so_far
    ∙ sym (fold_more (λ (value : ℤ) (a : Assign). if a.variable == number then a.value else value) z assigns i d there)

-- before the batch
pub first_value : (states : StatesView) (x : Variable) (batch : List Event) (len : ℕ) (z : ℤ) → len ≡ length (events_at states x.process) → z ≡ value_in states x len → z ≡ value_now (behind_batch states (take 0 batch)) x
unfolding with_batch
first_value states x batch len z size is = is ∙ ap (value_in states x) size

-- behind the event of this number
pub value_next : (states : StatesView) → AreWhole states → (x : Variable) → IsVariable states x → (batch : List Event) (k : ℕ) (e : Event) → k < length batch → e ≡ get_or batch k e
    → (z next : ℤ) → z ≡ value_now (behind_batch states (take k batch)) x → next ≡ left_by e x z → next ≡ value_now (behind_batch states (take (k + 1) batch)) x
value_next states whole x is batch k e there at z next now left = left ∙ ap (left_by e x) now ∙ sym (next_value states whole x is batch k e there at)

-- whether it leaves less
pub falls_test : (states : StatesView) (x : Variable) (batch : List Event) (k : ℕ) (z next : ℤ) → z ≡ value_now (behind_batch states (take k batch)) x → next ≡ value_now (behind_batch states (take (k + 1) batch)) x
    → falls_at states batch x k ≡ int_lt next z
falls_test states x batch k z next now behind =
    ap (λ (w : ℤ). int_lt w (value_now (behind_batch states (take k batch)) x)) (sym behind) ∙ ap (λ (w : ℤ). int_lt next w) (sym now)
