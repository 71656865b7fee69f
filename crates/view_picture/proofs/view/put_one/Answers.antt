use Rattle.std.proofs.Common.{◌≡◌, ◌++◌, List, ℕ, sym, subst, ◌∙◌}
use Rattle.std.specs.Prelude.{Option, OnOk}
use Rattle.std.specs.Option.{option_copied}
use Rattle.std.specs.Borrow.{Bor}
use Rattle.report_lines.specs.declared.kinds.WitnessText.{WitnessText}
use Rattle.view_parts.proofs.Each.{puts_last}
use Rattle.view_picture.specs.declared.svg.Point.{Point}
use Rattle.view_picture.specs.Drawing.{witness_drawn, goal_look}
use Rattle.view_picture.specs.Picture.{row_at, sample, witness_meaning, one_drawn}
use Rattle.view_picture.proofs.view.put_one.Goals as goal

pub returns-in_ok-meaning-in-Some : goal.returns-in_ok-meaning-in-Some
returns-in_ok-meaning-in-Some c =
    let out = c.args.out.now in
    let f = c.args.frame.now in
    let rows = c.args.columns.now in
    let w = c.in-Some.witness.now in
    let meaning = c.as_slice.ensures ∙ c.in_ok-meaning-in-Some.ensures in
    let placed = subst (λ (p : Point). OnOk c.put_sample.result (c.put_sample.new.out ≡ c.put_witness.new.out ++ sample p goal_look c.as_slice.result.now)) c.row_at.ensures.at c.put_sample.ensures in
    let last = subst (λ (m : List ℕ). OnOk c.put_sample.result (c.put_sample.new.out ≡ c.put_witness.new.out ++ sample (row_at f 20 3) goal_look m)) meaning placed in
    let all = puts_last c.put_sample.result out (witness_drawn f rows w.witness) (sample (row_at f 20 3) goal_look (witness_meaning w)) c.put_witness.new.out c.put_sample.new.out c.in_ok-put_witness-in-Some.ensures last in
    subst (λ (o : Option (Bor WitnessText)). OnOk c.put_sample.result (c.put_sample.new.out ≡ out ++ one_drawn f rows (option_copied o))) (sym c.in-Some.is) all
