use Rattle.std.proofs.Common.{sym, ap, ◌∙◌}
use Rattle.std.specs.Prelude.{is_some}
use Rattle.vclog_import.specs.inside.Reading.{record_of}
use Rattle.vclog_import.proofs.LineLists.{bad_where_bad, told_bad}
use Rattle.vclog_import.proofs.events.has_bad_clock.Goals as goal

pub returns-then-is_bad : goal.returns-then-is_bad
returns-then-is_bad c = sym (ap is_some (bad_where_bad (record_of c.args.line.now) (sym c.is_bad.ensures ∙ c.if-is_bad.true)))

pub returns : goal.returns
returns c = told_bad (record_of c.args.line.now) _ c.in_ok-clock.clock c.is_none.result (sym c.is_bad.ensures ∙ c.if-is_bad.false) c.in_ok-clock.ensures c.is_none.ensures
