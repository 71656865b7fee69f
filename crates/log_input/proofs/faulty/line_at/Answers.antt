use Rattle.std.proofs.Common.{eqb, rules, tests, ◌∙◌}
use Rattle.std.specs.List.{slice_split}
use Rattle.std.proofs.lemmas.Iterator.Consumers.{nth_from_yields_List}
use Rattle.std.proofs.lemmas.Iterator.Splits.{YieldsList-from_slice_split}
use Rattle.log_input.proofs.Lines.{found_line, line_behind}
use Rattle.log_input.proofs.faulty.line_at.Goals as goal

pub returns : goal.returns
returns c =
    found_line (slice_split (λ b. eqb b 10) c.args.bytes.now) c.in-Some.before c.nth.result c.unwrap_or_default.result
    (nth_from_yields_List _ _ c.in-Some.before c.nth.ensures.ran
    (YieldsList-from_slice_split _ _ c.args.bytes.now c.split-lines.ensures.rest c.split-lines.ensures.done c.split-lines.ensures.closure (λ x r q k. search (rules, tests))))
    c.unwrap_or_default.ensures ∙ line_behind c.args.bytes.now c.args.number c.in-Some.before (search rules)
