use Rattle.std.proofs.Common.{ap, subst, ◌∙◌}
use Rattle.log_lines.specs.Spelling.{event_line, EventLineFits}
use Rattle.log_lines.specs.Reading.{event_in}
use Rattle.log_lines.specs.Drafts.{Gives, event_of}
use Rattle.log_lines.proofs.LineLaws.{is_found, event_takes, event_again}
use Rattle.log_lines.proofs.lines.read_event.Goals as goal

pub returns-clause-found : goal.returns-clause-found
returns-clause-found c = is_found event_of event_line EventLineFits event_in (λ l y g. let t = event_takes l y g in (t.text, t.fits)) c.args.line.now c.event_in.result c.event_in.ensures.event

pub returns-clause-only : goal.returns-clause-only
returns-clause-only c = λ y fits same. subst (λ f. Gives event_of c.event_in.result f) (ap event_in same ∙ event_again y fits) c.event_in.ensures.event
