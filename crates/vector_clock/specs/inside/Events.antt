-- Inside: how many events each process has after some more.
use Rattle.std.specs.Prelude.{ℕ, ◌+◌}
use Rattle.std.specs.Prelude.{List, [], ◌∷◌}
use Rattle.std.specs.Prelude.{get_or, set}
use Rattle.event_log.specs.declared.log.Event.{Event}

-- how many events each process has after these events more
unfoldable pub raised : List ℕ → List Event → List ℕ
raised lens [] = lens
raised lens (e ∷ es) = raised (set lens e.process (get_or lens e.process 0 + 1)) es
