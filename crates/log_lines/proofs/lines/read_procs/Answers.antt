use Rattle.std.proofs.Common.{ap, subst, ◌∙◌}
use Rattle.log_lines.specs.Spelling.{procs_line, ProcsFit}
use Rattle.log_lines.specs.Reading.{procs_in}
use Rattle.log_lines.specs.Drafts.{Gives, texts_of}
use Rattle.log_lines.proofs.LineLaws.{is_found, procs_take, procs_again}
use Rattle.log_lines.proofs.lines.read_procs.Goals as goal

pub returns-clause-found : goal.returns-clause-found
returns-clause-found c = is_found (λ names. texts_of names.items) procs_line ProcsFit procs_in (λ l y g. let t = procs_take l y g in (t.text, t.fits)) c.args.line.now c.procs_in.result c.procs_in.ensures

pub returns-clause-only : goal.returns-clause-only
returns-clause-only c = λ y fits same. subst (λ f. Gives (λ names. texts_of names.items) c.procs_in.result f) (ap procs_in same ∙ procs_again y fits) c.procs_in.ensures
