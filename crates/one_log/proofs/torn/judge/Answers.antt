use Rattle.std.proofs.Common.{List, ℕ, subst, ◌∙◌}
use Rattle.one_log.specs.inside.Torn.{IsTornAt}
use Rattle.one_log.proofs.Beginnings.{torn_so}
use Rattle.torn_text.specs.Mending.{mended}
use Rattle.one_log.proofs.torn.judge.Goals as goal

pub returns : goal.returns
returns c =
    torn_so c.judge_text.result (IsTornAt c.args.form c.as_slice.result.now) (IsTornAt c.args.form (mended c.args.bytes.now))
    (λ i j. subst (λ (text : List ℕ). IsTornAt c.args.form text i) (c.as_slice.ensures ∙ c.in_ok-text.ensures) j) c.judge_text.ensures
