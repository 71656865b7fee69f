use Rattle.std.proofs.Common.{◌≡◌, ℕ, List, [], ◌∷◌, ◌++◌, ap, ◌∙◌}
use Rattle.std.specs.Prelude.{codes}
use Rattle.event_log.specs.LogText.{text_of}
use Rattle.bench_summary.proofs.Joining.{summary_put}
use Rattle.bench_summary.proofs.writing.write_summary.Goals as goal

pub returns : goal.returns
returns c =
    let title : c.extend_from_slice.new.self ≡ text_of (codes "pota-bench 1" ∷ []) =
    c.in_ok-extend_from_slice.ensures.ok ∙ ap (λ (t : List ℕ). t ++ text_of (codes "pota-bench 1" ∷ [])) c.new-out.ensures in
    summary_put c.args.sizes c.args.report.now c.extend_from_slice.new.self c.put_sizes.new.out c.put_formula.new.out c.put_verdict.new.out c.put_slice_lines.new.out c.extend_from_slice-2.new.self
    title c.in_ok-put_sizes.ensures c.in_ok-put_formula.ensures c.in_ok-put_verdict.ensures c.in_ok-put_slice_lines.ensures c.in_ok-extend_from_slice-2.ensures.ok
