use Rattle.std.proofs.Common.{◌≡◌, ◌-◌, ◌^◌, ◌∷◌, [], ◌++◌, List, ℕ, Some, ap, ◌∙◌, arith}
use Rattle.std.proofs.lemmas.Bool.Decides.{Decides-eqb}
use Rattle.std.proofs.lemmas.Slice.Eq.{strip_prefix_is}
use Rattle.log_lines.specs.Reading.{number_at, text_at}
use Rattle.log_lines.proofs.FrameLaws.{frame_reads}
use Rattle.log_lines.proofs.frames.Frame.own_at.Goals as goal

pub returns : goal.returns
returns c =
    let frame = c.args.self.now in
    let own = c.in_ok-own.own in
    let after = c.in_ok-count.after in
    let rest = c.in_ok-rest.rest in
    let front = strip_prefix_is Decides-eqb c.args.bytes.now c.as_slice.result.now (Some own) c.in_ok-own.ensures.cases ∙ ap (λ (t : List ℕ). t ++ own.now) c.as_slice.ensures.value in
    let back = strip_prefix_is Decides-eqb after.now c.as_slice-2.result.now (Some rest) c.in_ok-rest.ensures.cases ∙ ap (λ (t : List ℕ). t ++ rest.now) c.as_slice-2.ensures.value in
    let number : number_at (2 ^ 32 - 1) own.now ≡ Some (c.in_ok-count.count, after.now) = grind arith in
    let space : text_at (32 ∷ []) rest.now ≡ Some c.in_ok-action.action.now = grind arith in
    frame_reads frame.place frame.counts.items frame.before.items frame.behind.items frame.fits c.args.bytes.now own.now after.now rest.now c.in_ok-action.action.now c.in_ok-count.count front number back space
