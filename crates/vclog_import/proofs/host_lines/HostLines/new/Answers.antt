use Rattle.std.proofs.Common.{Bool, List, ℕ, ap, ◌∙◌, true, length, take, ◌+◌}
use Rattle.std.specs.Prelude.{not}
use Rattle.pota_base.specs.Limits.{longest_log}
use Rattle.vclog_import.specs.Lines.{lines_in, records_in, feeds}
use Rattle.vclog_import.specs.Faults.{is_too_long}
use Rattle.vclog_import.proofs.LineSteps.{front_is, not_longer}
use Rattle.vclog_import.proofs.host_lines.HostLines.new.Goals as goal

pub returns-clause-left : goal.returns-clause-left
returns-clause-left c =
    let text = c.args.text.now in
    ap (λ (u : Bool). records_in true 1 (lines_in u (take c.min.result text))) (not_longer (length text) longest_log)
    ∙ ap (λ (front : List ℕ). records_in true 1 (lines_in (not (is_too_long text)) front)) (front_is text longest_log c.min.result c.min.ensures)

pub returns-clause-lines : goal.returns-clause-lines
returns-clause-lines c =
    let text = c.args.text.now in
    ap (λ (u : Bool). lines_in u (take c.min.result text)) (not_longer (length text) longest_log)
    ∙ ap (λ (front : List ℕ). lines_in (not (is_too_long text)) front) (front_is text longest_log c.min.result c.min.ensures)

pub returns-clause-line : goal.returns-clause-line
returns-clause-line c = ap (λ (front : List ℕ). feeds front + 1) (front_is c.args.text.now longest_log c.min.result c.min.ensures)
