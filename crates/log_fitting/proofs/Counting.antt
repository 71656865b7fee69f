-- The events of batches, counted one batch after the other.
use Rattle.std.proofs.Common.{◌≡◌, ℕ, ◌+◌, ◌-◌, ◌<◌, ◌≤◌, List, [], ◌∷◌, ◌++◌, length, get_or, take, sym, ap, ◌∙◌, arith}
use Rattle.std.proofs.lemmas.List.{take_more}
use Rattle.pota_base.specs.Limits.{most_events}
use Rattle.event_log.specs.declared.log.Event.{Event}
use Rattle.event_log.specs.LogText.{event_count}

event_count-push : (bs : List (List Event)) (b : List Event) → event_count (bs ++ b ∷ []) ≡ event_count bs + length b
event_count-push [] b = omega arith
event_count-push (x ∷ bs) b = omega (arith, event_count-push bs b)

pub counted_more : (bs : List (List Event)) (i : ℕ) (x : List Event) (left m : ℕ) → i < length bs → x ≡ get_or bs i x → event_count (take i bs) + left ≡ most_events → length x ≤ left → m ≡ length x
    → event_count (take (i + 1) bs) + (left - m) ≡ most_events
counted_more bs i x left m lt is before room len =
    let taken : event_count (take (i + 1) bs) ≡ event_count (take i bs ++ x ∷ []) = ap event_count (take_more bs i x lt ∙ ap (λ (y : List Event). take i bs ++ y ∷ []) (sym is)) in
    omega (arith, taken, event_count-push (take i bs) x, before, room, len)
