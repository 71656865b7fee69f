-- Witnesses as the model of runs sees them.
use Rattle.std.specs.Prelude.{ℕ, List, map}
use Rattle.pota_base.specs.declared.shape.EventId.{EventId}
use Rattle.run_model.specs.Witness as model
use Rattle.witness_kinds.specs.declared.Path.{Path}
use Rattle.witness_kinds.specs.declared.Witness.{Witness}
use Rattle.witness_kinds.specs.declared.Witness.TheVariants as witness

-- an event by its process and position
abbrev pub place_of : EventId → model.Place
place_of e = record { process = e.process; position = e.position }

abbrev pub places_of : List EventId → List model.Place
places_of events = map place_of events

abbrev pub path_of : Path → model.PathTo
path_of path = record { goal = path.goal; steps = places_of path.steps }

abbrev pub witness_of : Witness → model.Witness
witness_of witness.Nothing = model.Nothing
witness_of (witness.Reach path) = model.Reach (path_of path)
witness_of (witness.Against path) = model.Against (path_of path)
witness_of (witness.Always path) = model.Always (path_of path)
witness_of witness.StuckStart = model.StuckStart
witness_of witness.StuckFinish = model.StuckFinish
witness_of (witness.StuckPair first other) = model.StuckPair (place_of first) (place_of other)
