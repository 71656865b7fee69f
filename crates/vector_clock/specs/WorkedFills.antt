-- Small batches with clocks left out.
use Rattle.std.specs.Prelude.{List, [], ◌∷◌}
use Rattle.event_log.specs.declared.log.Kind.TheVariants as kind
use Rattle.event_log.specs.declared.log.Event.{Event}
use Rattle.vector_clock.specs.Worked.{event}

-- ev P ~ recv Q 2 / ev P ~ send Q 1 / ev Q ~ recv P 1 / ev Q ~ send P 2
abbrev pub goes_round : List Event
goes_round =
    event 0 3 [] (kind.Receive 1 2) ∷ event 0 4 [] (kind.Send 1 1)
    ∷ event 1 5 [] (kind.Receive 0 1) ∷ event 1 6 [] (kind.Send 0 2) ∷ []

-- the same with its clocks
abbrev pub gone_round : List Event
gone_round =
    event 0 3 (2 ∷ 2 ∷ []) (kind.Receive 1 2) ∷ event 0 4 (2 ∷ 2 ∷ []) (kind.Send 1 1)
    ∷ event 1 5 (2 ∷ 2 ∷ []) (kind.Receive 0 1) ∷ event 1 6 (2 ∷ 2 ∷ []) (kind.Send 0 2) ∷ []

-- ev P 1,0 send Q 1 / ev Q ~ recv P 1 / ev Q 0,2 int
abbrev pub falls_back : List Event
falls_back =
    event 0 3 (1 ∷ 0 ∷ []) (kind.Send 1 1) ∷ event 1 4 [] (kind.Receive 0 1)
    ∷ event 1 5 (0 ∷ 2 ∷ []) kind.Internal ∷ []

abbrev pub fallen_back : List Event
fallen_back =
    event 0 3 (1 ∷ 0 ∷ []) (kind.Send 1 1) ∷ event 1 4 (1 ∷ 1 ∷ []) (kind.Receive 0 1)
    ∷ event 1 5 (0 ∷ 2 ∷ []) kind.Internal ∷ []

-- ev Q ~ recv P 1 / ev P ~ send Q 1: the send stands behind the receipt in the text
abbrev pub turned_round : List Event
turned_round = event 1 3 [] (kind.Receive 0 1) ∷ event 0 4 [] (kind.Send 1 1) ∷ []

abbrev pub turned_back : List Event
turned_back =
    event 1 3 (1 ∷ 1 ∷ []) (kind.Receive 0 1) ∷ event 0 4 (1 ∷ 0 ∷ []) (kind.Send 1 1) ∷ []
