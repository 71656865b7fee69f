use Rattle.std.proofs.Common.{◌≡◌, [], drop}
use Rattle.log_lines.specs.Drafts.{values_of}
use Rattle.event_log.specs.Numbers.{binding_names, assigns_in}
use Rattle.event_log.proofs.numbers.assigns_in.Given as goal

abbrev pub invariant-loop-setting : goal.invariant-loop-setting
invariant-loop-setting l = assigns_in (binding_names l.variables) [] (values_of l.settings) ≡ assigns_in (binding_names l.variables) l.assigns (values_of (drop l.setting-index l.settings))
