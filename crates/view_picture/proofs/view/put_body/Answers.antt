use Rattle.std.proofs.Common.{◌≡◌, ◌++◌, List, ℕ, length, map, ap, sym, subst, ◌∙◌}
use Rattle.std.specs.Prelude.{OnOk}
use Rattle.std.specs.List.{AllByRecursion, flat_map}
use Rattle.pota_base.specs.declared.shape.EventId.{EventId}
use Rattle.pota_base.specs.Shape.{HasEvent}
use Rattle.slice_graph.specs.declared.edges.Edge.{Edge}
use Rattle.view_parts.specs.Each.{places}
use Rattle.view_parts.proofs.Each.{puts_more, puts_last}
use Rattle.view_picture.specs.Told.{edges_of}
use Rattle.view_picture.specs.Shown.{is_shown}
use Rattle.view_picture.specs.Ties.{ties_to, ties_of}
use Rattle.view_picture.specs.Picture.{run_drawn, report_drawn, meaning_drawn}
use Rattle.view_picture.proofs.Places.{places_there, all_filter}
use Rattle.view_picture.proofs.view.put_body.Goals as goal

pub ties_of-requires-clause-there : goal.ties_of-requires-clause-there
ties_of-requires-clause-there c =
    let lens = map length c.args.run.now.trace.now.states.events in
    subst (λ (es : List EventId). AllByRecursion (HasEvent lens) es) (sym c.requires.shown) (all_filter (HasEvent lens) (is_shown c.args.run.now.columns.now) (places lens) (places_there lens))

pub put_run-requires-clause-there : goal.put_run-requires-clause-there
put_run-requires-clause-there c =
    let lens = map length c.args.run.now.trace.now.states.events in
    subst (λ (es : List EventId). AllByRecursion (HasEvent lens) es) (sym c.requires.shown) (all_filter (HasEvent lens) (is_shown c.args.run.now.columns.now) (places lens) (places_there lens))

pub put_report-requires-clause-there : goal.put_report-requires-clause-there
put_report-requires-clause-there c =
    let lens = map length c.args.run.now.trace.now.states.events in
    subst (λ (es : List EventId). AllByRecursion (HasEvent lens) es) (sym c.requires.shown) (all_filter (HasEvent lens) (is_shown c.args.run.now.columns.now) (places lens) (places_there lens))

pub returns : goal.returns
returns c =
    let out = c.args.out.now in
    let s = c.args.run.now.trace.now.states in
    let f = c.args.run.now.frame.now in
    let rows = c.args.run.now.columns.now in
    let r = c.args.report.now in
    let a0 = run_drawn s f rows in
    let a1 = report_drawn s f rows r in
    let a2 = meaning_drawn s f rows (length (edges_of r.slice)) (length (ties_of s rows)) in
    let ties : c.len-count.result ≡ length (ties_of s rows) = c.len-count.ensures ∙ ap length (c.in_ok-ties.ensures ∙ ap (λ (es : List EventId). flat_map (ties_to s rows) es) c.requires.shown) in
    let edges : length c.edges_of-edges.result.now ≡ length (edges_of r.slice) = ap (λ (es : List Edge). length es) c.edges_of-edges.ensures in
    let f0 : c.put_run.new.out ≡ out ++ a0 = c.in_ok-put_run.ensures in
    let f1 : c.put_report.new.out ≡ out ++ (a0 ++ a1) = puts_more out a0 a1 c.put_run.new.out c.put_report.new.out f0 c.in_ok-put_report.ensures in
    puts_last c.put_meaning.result out (a0 ++ a1) a2 c.put_report.new.out c.put_meaning.new.out f1
    (subst (λ (n : ℕ). OnOk c.put_meaning.result (c.put_meaning.new.out ≡ c.put_report.new.out ++ meaning_drawn s f rows n (length (ties_of s rows)))) edges
    (subst (λ (n : ℕ). OnOk c.put_meaning.result (c.put_meaning.new.out ≡ c.put_report.new.out ++ meaning_drawn s f rows (length c.edges_of-edges.result.now) n)) ties c.put_meaning.ensures))
