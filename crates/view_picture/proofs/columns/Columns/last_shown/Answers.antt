use Rattle.std.proofs.Common.{List, ℕ, get_or, ap, ◌∙◌}
use Rattle.view_picture.specs.Columns.{Rows, column}
use Rattle.view_picture.specs.inside.Placing.{latest_of}
use Rattle.view_picture.proofs.Latest.{latest_at}
use Rattle.view_picture.proofs.columns.Columns.last_shown.Goals as goal

pub returns : goal.returns
returns c =
    let p = c.args.process in
    let n = c.args.events in
    c.number_at.ensures ∙ ap (λ (l : Rows). column l p n) c.as_slice.ensures.value ∙ ap (λ (row : List ℕ). get_or row n 0) (c.self.invariant.each p)
    ∙ ap (λ (rows : Rows). get_or (latest_of rows p) n 0) c.self.view_is ∙ latest_at c.args.self.now p n c.requires
