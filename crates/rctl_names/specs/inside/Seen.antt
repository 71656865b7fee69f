-- Inside: the names that a scope and its watches hold.
use Rattle.std.specs.Prelude.{List, [], map}
use Rattle.run_model.specs.Run.{Name}
use Rattle.rctl_parts.specs.Spelled.{Names}
use Rattle.rctl_names.specs.declared.process.Process.{Process}
use Rattle.rctl_names.specs.declared.scope.Scope.{Scope}
use Rattle.rctl_names.specs.declared.watches.Watches.{Watches}
use Rattle.rctl_names.specs.inside.Numbers.{Watched}
use Rattle.rctl_names.specs.Seen.{variables_in}

-- the names of the processes
abbrev pub processes_in : Scope → List Name
processes_in scope = scope.processes.now

-- the watches, and the process that each is on
abbrev pub watched_in : Watches → Watched
watched_in watches = record { names = watches.names.now; on = watches.on }

-- the names of the variables of a process
abbrev pub variables_on : Process → List Name
variables_on on = variables_in on.variables.now

-- the names of a scope alone
abbrev pub header_names : Scope → Names
header_names scope =
    record {
      processes = scope.processes.now;
      variables = map variables_in scope.variables.now;
      watches = [];
    }

-- the names of a scope and of the watches beside it
abbrev pub names_in : Scope → Watches → Names
names_in scope watches =
    record {
      processes = scope.processes.now;
      variables = map variables_in scope.variables.now;
      watches = watches.names.now;
    }
