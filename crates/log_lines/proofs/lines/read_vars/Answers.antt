use Rattle.std.proofs.Common.{ap, subst, ◌∙◌}
use Rattle.log_lines.specs.Spelling.{vars_line, VarsLineFits}
use Rattle.log_lines.specs.Reading.{vars_in}
use Rattle.log_lines.specs.Drafts.{Gives, vars_of}
use Rattle.log_lines.proofs.LineLaws.{is_found, vars_take, vars_again}
use Rattle.log_lines.proofs.lines.read_vars.Goals as goal

pub returns-clause-found : goal.returns-clause-found
returns-clause-found c = is_found vars_of vars_line VarsLineFits vars_in (λ l y g. let t = vars_take l y g in (t.text, t.fits)) c.args.line.now c.vars_in.result c.vars_in.ensures

pub returns-clause-only : goal.returns-clause-only
returns-clause-only c = λ y fits same. subst (λ f. Gives vars_of c.vars_in.result f) (ap vars_in same ∙ vars_again y fits) c.vars_in.ensures
