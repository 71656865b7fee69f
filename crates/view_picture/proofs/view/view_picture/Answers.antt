use Rattle.std.proofs.Common.{◌≡◌, ◌++◌, ◌∷◌, [], List, ℕ, ap, ◌∙◌}
use Rattle.std.specs.Prelude.{codes}
use Rattle.event_log.specs.States.{StatesView}
use Rattle.view_picture.specs.declared.frame.Frame.{Frame}
use Rattle.view_picture.specs.Frame.{frame_of}
use Rattle.view_picture.specs.Picture.{heading, body}
use Rattle.view_picture.proofs.view.view_picture.Goals as goal

pub returns : goal.returns
returns c =
    let s = c.args.trace.now.states in
    let r = c.args.report.now in
    let rows = c.in_ok-columns.columns in
    let close = codes "</svg>" ++ 10 ∷ [] in
    let framed : c.new-frame.result ≡ frame_of s rows r = c.new-frame.ensures ∙ ap (λ (v : StatesView). frame_of v rows r) c.states-2.ensures.states in
    let first : c.put_heading.new.out ≡ heading (frame_of s rows r) r =
    c.in_ok-put_heading.ensures ∙ ap (λ (t : List ℕ). t ++ heading c.new-frame.result r) c.new-out.ensures ∙ ap (λ (f : Frame). heading f r) framed in
    let second = c.in_ok-put_body.ensures ∙ ap (λ (f : Frame). c.put_heading.new.out ++ body s f rows r) framed in
    record {
      rows = rows;
      columns = c.in_ok-columns.ensures;
      text_is = c.in_ok-extend_from_slice.ensures.ok ∙ ap (λ (t : List ℕ). t ++ close) (second ∙ ap (λ (t : List ℕ). t ++ body s (frame_of s rows r) rows r) first);
    }
