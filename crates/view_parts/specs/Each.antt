-- Lists that are put together one number after the other.
use Rattle.std.specs.Prelude.{ℕ, zero, suc, ◌+◌, List, [], ◌∷◌, ◌++◌, length, get_or}
use Rattle.pota_base.specs.declared.shape.EventId.{EventId}

-- what is made of each number below the count, in their order
abbrev pub each_below : {A : Type 0} → ℕ → (ℕ → List A) → List A
each_below zero made = []
each_below (suc n) made = each_below n made ++ made n

-- the first events of a process
abbrev pub own_places : ℕ → ℕ → List EventId
own_places process events =
    each_below events (λ k. record { process = process; position = k + 1 } ∷ [])

-- the events of processes with these lengths, in the order of the processes
abbrev pub places : List ℕ → List EventId
places lens = each_below (length lens) (λ process. own_places process (get_or lens process 0))
