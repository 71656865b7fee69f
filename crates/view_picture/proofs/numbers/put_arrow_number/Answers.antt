use Rattle.std.proofs.Common.{◌≡◌, ◌++◌, List, ℕ, ap, subst, ◌∙◌}
use Rattle.std.specs.Prelude.{OnOk}
use Rattle.std.specs.Fmt.{decimal}
use Rattle.view_picture.specs.declared.svg.Point.{Point}
use Rattle.view_picture.specs.Frame.{at}
use Rattle.view_picture.specs.Svg.{text}
use Rattle.view_picture.specs.Drawing.{lanes_apart, on_arrow, message_number_look}
use Rattle.view_picture.proofs.numbers.put_arrow_number.Goals as goal

pub returns : goal.returns
returns c =
    let from : Point = at c.args.frame.now c.args.columns.now c.args.send in
    let to : Point = at c.args.frame.now c.args.columns.now c.args.receipt in
    let place : c.on_arrow-place.result ≡ on_arrow from to (lanes_apart c.args.send.process c.args.receipt.process) =
    c.on_arrow-place.ensures ∙ ap (λ (p : Point). on_arrow p c.at-to.result c.lanes_apart.result) c.at-from.ensures.point ∙ ap (λ (p : Point). on_arrow from p c.lanes_apart.result) c.at-to.ensures.point
    ∙ ap (λ (n : ℕ). on_arrow from to n) c.lanes_apart.ensures.apart in
    let digits : c.as_slice.result.now ≡ decimal c.args.number = c.as_slice.ensures ∙ c.in_ok-put_u64.ensures.ok ∙ ap (λ (l : List ℕ). l ++ decimal c.args.number) c.new-digits.ensures in
    subst (λ (p : Point). OnOk c.put_text.result (c.put_text.new.out ≡ c.args.out.now ++ text p message_number_look (decimal c.args.number))) place
    (subst (λ (l : List ℕ). OnOk c.put_text.result (c.put_text.new.out ≡ c.args.out.now ++ text c.on_arrow-place.result message_number_look l)) digits c.put_text.ensures)
