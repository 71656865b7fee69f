use Rattle.std.proofs.Common.{◌++◌, List, ℕ, ap, ◌∙◌, append_assoc}
use Rattle.std.specs.Prelude.{codes}
use Rattle.report_lines.specs.Spelling.{event_text}
use Rattle.report_lines.proofs.writing.put_pair.Goals as goal

pub returns : goal.returns
returns c =
    let first = event_text c.args.procs.now c.args.first in
    let other = event_text c.args.procs.now c.args.other in
    c.in_ok-put_event-2.ensures ∙ ap (λ (t : List ℕ). t ++ other) (c.in_ok-put_event.ensures ∙ ap (λ (t : List ℕ). t ++ first) c.in_ok-extend_from_slice.ensures.ok)
    ∙ append_assoc (c.args.out.now ++ codes "stuck pair") first other ∙ append_assoc c.args.out.now (codes "stuck pair") (first ++ other)
