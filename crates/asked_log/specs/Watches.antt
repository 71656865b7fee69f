-- The watches that are handed in, by their names.
use Rattle.std.specs.Prelude.{List}
use Rattle.log_check.specs.Aims.{watches_of}
use Rattle.part_pulls.specs.Observing.{Reading}
use Rattle.watch.specs.declared.predicate.Handed.{Handed}
pub use Rattle.log_check.specs.Aims.{AreWatches, Says, names_of, said_by}

-- which names they have, and what the one of a name says of the states of a process
abbrev pub handed_watches : {X : Type 0} {P : X → Type 0} → Says X P → List (Handed X P) → Reading
handed_watches says handed =
    record { watch_names = names_of handed; watches = watches_of says handed }
