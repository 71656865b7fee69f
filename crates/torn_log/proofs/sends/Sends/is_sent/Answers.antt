use Rattle.std.proofs.Common.{sym, ◌∙◌, arith}
use Rattle.std.proofs.lemmas.Bool.{false≢true}
use Rattle.torn_log.proofs.Passing.{count-lens}
use Rattle.torn_log.proofs.Standing.{never_sent}
use Rattle.torn_log.proofs.sends.Sends.is_sent.Goals as goal

pub returns-in-None : goal.returns-in-None
returns-in-None c = λ events has size within. (
  λ f. absurd (false≢true f),
  λ w. absurd (never_sent events c.args.message.now c.args.cut.now (omega (arith, c.requires, size)) (omega (arith, within c.args.message.now.sender, count-lens events c.args.message.now.sender)) (sym (has c.args.message.now) ∙ sym c.in-None.ensures.value) w),
)
