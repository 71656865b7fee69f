use Rattle.std.proofs.Common.{◌≡◌, ℕ, List, [], ◌∷◌, ◌++◌, ap, subst, ◌∙◌}
use Rattle.certificate_lines.specs.declared.line.Line.{Line}
use Rattle.certificate_lines.specs.declared.line.Line.TheVariants.{Verdict}
use Rattle.certificate_lines.specs.Spelling.{line_text, lines_text, title}
use Rattle.certificate_next_line.specs.PassedOn.{IsNext}
use Rattle.certify.proofs.Fronts.{stands-first, stands-more, stands-flushed, stands-cut, stands-memory, nothing_written, ended-is, is_of_node, on_err}
use Rattle.certify.proofs.writing.write_lines.Goals as goal

pub returns-in_err-put_head-clause-memory : goal.returns-in_err-put_head-clause-memory
returns-in_err-put_head-clause-memory g c = on_err _ (nothing_written _ _ _)

pub lines-init : goal.lines-init
lines-init g c =
    stands-first _ _ _ _ _ (c.in_ok-put_head.ensures ∙ ap (λ (x : List ℕ). x ++ lines_text (title ∷ c.args.formula.now ∷ [])) c.new-text.ensures)

pub returns-in_err-line-clause-memory : goal.returns-in_err-line-clause-memory
returns-in_err-line-clause-memory g c = on_err _ (stands-memory _ _ _ _ _ _ _ _ c.lines.invariant)

pub returns-in_err-line-clause-calm : goal.returns-in_err-line-clause-calm
returns-in_err-line-clause-calm g c = on_err _ c.lines.invariant.calm

pub returns-in_err-put_end-clause-memory : goal.returns-in_err-put_end-clause-memory
returns-in_err-put_end-clause-memory g c = on_err _ (stands-memory _ _ _ _ _ _ _ _ c.lines.invariant)

pub returns-in_err-put_end-clause-calm : goal.returns-in_err-put_end-clause-calm
returns-in_err-put_end-clause-calm g c = on_err _ c.lines.invariant.calm

pub returns-in-Verdict-clause-written : goal.returns-in-Verdict-clause-written
returns-in-Verdict-clause-written g c =
    let next : IsNext c.lines.nodes (Verdict c.in-Verdict.told) c.put_next.new.nodes = subst (λ (l : Line). IsNext c.lines.nodes l c.put_next.new.nodes) c.in-Verdict.is c.in_ok-line.ensures.next in
    let text : c.put_next.new.text ≡ c.lines.text ++ lines_text (line_text (Verdict c.in-Verdict.told) ∷ []) =
    subst (λ (l : Line). c.put_next.new.text ≡ c.lines.text ++ lines_text (line_text l ∷ [])) c.in-Verdict.is c.in_ok-line.ensures.text in
    ended-is _ _ _ _ _ _ _ _ _ _ _ _ _ c.in-Verdict.told c.finish.result c.lines.invariant next text (c.as_slice.ensures ∙ c.in_ok-put_end.ensures)
    c.finish.ensures.same c.finish.ensures.whole c.finish.ensures.calm c.finish.ensures.part c.finish.ensures.cause

pub lines-preserved-in-Ok : goal.lines-preserved-in-Ok
lines-preserved-in-Ok g c =
    let more = stands-more _ _ _ _ _ _ _ _ _ _ c.in_ok-line.line c.lines.invariant c.in_ok-line.ensures.next (is_of_node c.in_ok-line.line c.in_default.not-Verdict) c.in_ok-line.ensures.text in
    stands-flushed _ _ _ _ _ _ _ _ _ _ _ more c.in-Ok.ensures.whole c.in-Ok.ensures.calm c.in-Ok.ensures.none

pub lines-smaller-in-Ok : goal.lines-smaller-in-Ok
lines-smaller-in-Ok g c = c.in_ok-line.ensures.less (is_of_node c.in_ok-line.line c.in_default.not-Verdict)

pub returns-in-Err-clause-written : goal.returns-in-Err-clause-written
returns-in-Err-clause-written g c =
    let more = stands-more _ _ _ _ _ _ _ _ _ _ c.in_ok-line.line c.lines.invariant c.in_ok-line.ensures.next (is_of_node c.in_ok-line.line c.in_default.not-Verdict) c.in_ok-line.ensures.text in
    stands-cut _ _ _ _ _ _ _ _ _ _ more c.in-Err.ensures.part c.in-Err.ensures.cause.later c.in-Err.ensures.cause.failed

pub lines-preserved : goal.lines-preserved
lines-preserved g c =
    stands-more _ _ _ _ _ _ _ _ _ _ c.in_ok-line.line c.lines.invariant c.in_ok-line.ensures.next (is_of_node c.in_ok-line.line c.in_default.not-Verdict) c.in_ok-line.ensures.text

pub lines-smaller : goal.lines-smaller
lines-smaller g c = c.in_ok-line.ensures.less (is_of_node c.in_ok-line.line c.in_default.not-Verdict)
