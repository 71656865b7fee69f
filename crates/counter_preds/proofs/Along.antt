-- The values of a variable along the events of its process.
use Rattle.std.proofs.Common.{◌≡◌, ℕ, ◌+◌, ◌≤◌, List, [], ◌∷◌, ◌++◌, length, map, ℤ, pos, ap, sym, ◌∙◌, arith}
use Rattle.std.specs.List.{range_with_len}
use Rattle.std.proofs.lemmas.List.FromFn.{map-range_with_len_more, length-map-range_with_len, get_or-map-range_with_len}
use Rattle.event_log.specs.States.{StatesView}
use Rattle.channel_preds.specs.Channels.{events_at}
use Rattle.counter_preds.specs.declared.values.Variable.{Variable}
use Rattle.counter_preds.specs.Counters.{value_in, values_of, value_at}

pub length-values_of : (states : StatesView) (x : Variable) → length (values_of states x) ≡ length (events_at states x.process) + 1
length-values_of states x = length-map-range_with_len (value_in states x) 0 (length (events_at states x.process) + 1)

pub value_at-values_of : (states : StatesView) (x : Variable) (a : ℕ) → a ≤ length (events_at states x.process) → value_at (values_of states x) a ≡ value_in states x a
value_at-values_of states x a h = get_or-map-range_with_len (value_in states x) 0 (length (events_at states x.process) + 1) a a (pos 0) (omega arith) (omega arith)

-- one value more
pub values_more : (states : StatesView) (x : Variable) (a : ℕ) (values new : List ℤ) (value : ℤ) → values ≡ map (value_in states x) (range_with_len 0 a) → new ≡ values ++ value ∷ [] → value ≡ value_in states x a
    → new ≡ map (value_in states x) (range_with_len 0 (a + 1))
values_more states x a values new value h more is =
    more ∙ ap (λ (zs : List ℤ). zs ++ value ∷ []) h ∙ ap (λ (z : ℤ). map (value_in states x) (range_with_len 0 a) ++ z ∷ []) is ∙ sym (map-range_with_len_more (value_in states x) 0 a a (omega arith))
