use Rattle.std.proofs.Common.{◌≡◌, ℕ, List, ◌+◌, ◌<◌, ap, ◌∙◌, subst, arith}
use Rattle.std.specs.Prelude.{IsTrue, ◌↔◌}
use Rattle.run_model.specs.Cut.{count, IsWithin, with_next}
use Rattle.slice_graph.specs.Words.{row_words}
use Rattle.witness.proofs.Leads.{slice_step}
use Rattle.witness.proofs.ways.InSliceWay.goes_on.Goals as goal

pub returns : goal.returns
returns c =
    let o = c.args.self.now.order.now in
    let v = c.args.self.now.slice.now in
    let at = c.args.at.now in
    let p = c.args.process in
    let words : c.words.result.now ≡ row_words v p (count at p + 1) = c.words.ensures.words ∙ ap (λ (n : ℕ). row_words v p (n + 1)) c.get-position.ensures in
    let less : count at p < count v.lens p = grind arith in
    slice_step o v at p c.is_within_next.result c.requires.ready c.requires.at c.requires.process less
    (subst (λ (w : List ℕ). IsTrue c.is_within_next.result ↔ IsWithin w (with_next at p)) words c.is_within_next.ensures)
