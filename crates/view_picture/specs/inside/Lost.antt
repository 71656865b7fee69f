-- Inside: events of a process behind its first ones.
use Rattle.std.specs.Prelude.{ℕ, ◌+◌, List, [], ◌∷◌}
use Rattle.pota_base.specs.declared.shape.EventId.{EventId}
use Rattle.view_parts.specs.Each.{each_below}

-- so many of them
abbrev pub places_behind : ℕ → ℕ → ℕ → List EventId
places_behind process first count =
    each_below count (λ k. record { process = process; position = first + k + 1 } ∷ [])
