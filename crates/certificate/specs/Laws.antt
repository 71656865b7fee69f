-- What the laws of this crate say.
use Rattle.std.specs.Prelude.{◌↔◌, ℕ, Bool, List, IsTrue, ◌≡◌, length}
use Rattle.run_model.specs.Cut.{initial}
use Rattle.run_model.specs.Meaning.{Sat}
use Rattle.trace_growth.specs.Growing.{IsTrace}
use Rattle.rctl_parts.specs.Pieces.{Piece}
use Rattle.rctl_parts.specs.MadeFor.{AllFit}
use Rattle.rctl_parts.specs.Spelled.{disjunction_of}
use Rattle.part_pulls.specs.declared.observed.Observed.{Observed}
use Rattle.part_pulls.specs.Observing.{Reading, AreAnswers, clocks_seen, run_seen, names_seen}
use Rattle.part_pulls.specs.Observing.{scope_seen}
use Rattle.part_pulls.specs.Counters.{CountersRise}
use Rattle.certificate_text.specs.Taking.{AreAccepted, fresh}
use Rattle.certificate_nodes.specs.Nodes.{AreNodes, fresh_nodes}
use Rattle.certificate.specs.Following.{Follows}
use Rattle.certificate.specs.Numbering.{plan_of}
use Rattle.slice_graph.specs.Views.{SliceView}
use Rattle.certificate_nodes.specs.Given.{AreGiven, SomeCloses}

-- an accepted certificate of the nodes of a formula tells whether it is true at the initial cut
abbrev pub AcceptedCertificatesAreTrue : Type 0
AcceptedCertificatesAreTrue = (seen : Observed) (ds : List (List Piece)) (formula : List ℕ)
    (texts : List (List ℕ)) (told : Bool)
    → IsTrace seen.trace.states → AllFit (scope_seen seen) ds → CountersRise seen ds
    → AreNodes (fresh_nodes (clocks_seen seen) (plan_of seen ds))
    → AreAccepted Follows
    (fresh formula (fresh_nodes (clocks_seen seen) (plan_of seen ds))) texts told
    → (reading : Reading) → AreAnswers seen reading
    → IsTrue told ↔ Sat (run_seen seen reading) (disjunction_of (names_seen seen reading) ds)
    (initial (clocks_seen seen))

-- where all nodes have slices, some disjunct closes exactly where the formula is true
abbrev pub ConclusionsAreTheTruth : Type 0
ConclusionsAreTheTruth = (seen : Observed) (ds : List (List Piece)) (slices : List SliceView)
    → IsTrace seen.trace.states → AllFit (scope_seen seen) ds → CountersRise seen ds
    → AreGiven (clocks_seen seen) (plan_of seen ds) slices
    → length slices ≡ length (plan_of seen ds).nodes
    → (reading : Reading) → AreAnswers seen reading
    → SomeCloses (clocks_seen seen) (plan_of seen ds) slices
    ↔ Sat (run_seen seen reading) (disjunction_of (names_seen seen reading) ds)
    (initial (clocks_seen seen))
