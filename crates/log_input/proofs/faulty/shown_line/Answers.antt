use Rattle.std.proofs.Common.{◌∙◌, ℕ, List, ◌++◌, take, ap}
use Rattle.std.proofs.lemmas.List.{take_min}
use Rattle.log_input.specs.FaultyLine.{line_at}
use Rattle.log_input.proofs.faulty.shown_line.Goals as goal

pub returns : goal.returns
returns c =
    c.in_ok-extend_from_slice.ensures.ok ∙ ap (λ (xs : List ℕ). xs ++ take c.min.result c.line_at-line.result.now) c.new-text.ensures
    ∙ ap (λ (n : ℕ). take n c.line_at-line.result.now) c.min.ensures ∙ take_min 120 c.line_at-line.result.now
    ∙ ap (λ (line : List ℕ). take 120 line) (c.line_at-line.ensures ∙ ap (λ (n : ℕ). line_at n c.args.bytes.now) c.line_number.ensures)
