use Rattle.std.proofs.Common.{◌≡◌, true, take}
use Rattle.std.specs.List.{AllByRecursion}
use Rattle.pota_names.specs.Names.{is_name}
use Rattle.answer_report.proofs.told.read_names.Given as goal

abbrev pub invariant-loop-name : goal.invariant-loop-name
invariant-loop-name l = AllByRecursion (λ name. is_name name ≡ true) (take l.name-index l.names)
