-- What the code's values show.
use Rattle.std.specs.Prelude.{List, map}
use Rattle.run_model.specs.Run.{Name}
use Rattle.event_log.specs.declared.log.Binding.{Binding}
use Rattle.event_log.specs.declared.log.Header.{Header}
use Rattle.rctl_parts.specs.Spelled.{Names}

-- the names of variables
abbrev pub variables_in : List Binding → List Name
variables_in bindings = map (λ (b : Binding). b.name) bindings

-- the names of a header and of watches
abbrev pub names_of : Header → List Name → Names
names_of header watches =
    record { processes = header.procs; variables = map variables_in header.vars; watches = watches }
