use Rattle.std.proofs.Common.{◌≡◌, ℕ, List, take, drop, ◌+◌, ◌++◌, ap, ◌∙◌}
use Rattle.log_lines.specs.Spelling.{clock_rest}
use Rattle.log_lines.specs.inside.Frames.{clock_front}
use Rattle.log_lines.proofs.FrameLaws.{frame_fits}
use Rattle.log_lines.proofs.frames.Frame.renewed.Goals as goal

pub invariant_of-result : goal.invariant_of-result
invariant_of-result c =
    let clock = c.args.clock.now in
    let counts : c.extend_from_slice.new.self.items ≡ clock =
    c.in_ok-extend_from_slice.ensures.items ∙ ap (λ (xs : List ℕ). xs ++ clock) c.buffers-counts.ensures.counts in
    let before : c.extend_from_slice-2.new.self.items ≡ clock_front (take c.args.place clock) =
    c.in_ok-extend_from_slice-2.ensures.items ∙ ap (λ (xs : List ℕ). xs ++ c.split_text.result.0.now) c.buffers-counts.ensures.before ∙ c.split_text.ensures.before in
    let behind : c.extend_from_slice-3.new.self.items ≡ clock_rest (drop (c.args.place + 1) clock) =
    c.in_ok-extend_from_slice-3.ensures.items ∙ ap (λ (xs : List ℕ). xs ++ c.split_text.result.1.now) c.buffers-counts.ensures.behind ∙ c.split_text.ensures.behind in
    record { fits = rw (counts, before, behind) (frame_fits clock c.args.place c.requires.there c.requires.small) }
