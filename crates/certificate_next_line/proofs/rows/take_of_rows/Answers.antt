use Rattle.std.proofs.Common.{◌≡◌, sym, ap, subst, ◌∙◌}
use Rattle.std.proofs.lemmas.Bool.{OnTrue_at}
use Rattle.certificate_lines.specs.declared.line.Line.{Line}
use Rattle.certificate_lines.specs.declared.line.Line.TheVariants.{Row, Raise}
use Rattle.certificate_nodes.specs.Nodes.{OfPresent, with_begun_row, with_present, with_raised_row}
use Rattle.certificate_next_line.specs.inside.Coming.{IsNextOfRows, with_line}
use Rattle.certificate_next_line.proofs.Steps.{may_begin, may_raise}
use Rattle.certificate_next_line.proofs.rows.take_of_rows.Goals as goal

pub returns-in-Row : goal.returns-in-Row
returns-in-Row g c =
    let v = c.args.nodes.now in
    let row = c.in-Row.row in
    let other = c.in-Row.after in
    let next : OfPresent (λ rows. IsNextOfRows rows (Row row other)) v.present = subst (λ (l : Line). OfPresent (λ rows. IsNextOfRows rows l) v.present) c.in-Row.is c.requires in
    let begun : c.begin_row.new.self ≡ with_begun_row v row other = OnTrue_at (c.begin_row.ensures.allowed.1 (may_begin v row other next)) c.begin_row.ensures.begun in
    begun ∙ ap (λ (l : Line). with_present v (λ rows. with_line rows l)) (sym c.in-Row.is)

pub returns-in-Raise : goal.returns-in-Raise
returns-in-Raise g c =
    let v = c.args.nodes.now in
    let pull = c.in-Raise.pull in
    let value = c.in-Raise.value in
    let next : OfPresent (λ rows. IsNextOfRows rows (Raise pull value)) v.present = subst (λ (l : Line). OfPresent (λ rows. IsNextOfRows rows l) v.present) c.in-Raise.is c.requires in
    let raised : c.raise.new.self ≡ with_raised_row v pull value = OnTrue_at (c.raise.ensures.allowed.1 (may_raise v pull value next)) c.raise.ensures.raised in
    raised ∙ ap (λ (l : Line). with_present v (λ rows. with_line rows l)) (sym c.in-Raise.is)
