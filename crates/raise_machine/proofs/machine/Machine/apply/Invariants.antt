use Rattle.raise_machine.proofs.machine.Machine.apply.Given as goal

abbrev pub ghosts-entry : goal.ghosts-entry
ghosts-entry a = record { name = a.blank.name; parts = a.blank.parts }
