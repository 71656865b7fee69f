use Rattle.std.proofs.Common.{◌≡◌, length, get_or, Some, None, subst, arith}
use Rattle.event_log.proofs.FeedSteps.{no_rest, rest_faults, rest_is_faulty, Knows}
use Rattle.event_log.proofs.feeder.Feeder.fault_behind.Goals as goal

pub returns-in-empty : goal.returns-in-empty
returns-in-empty c = no_rest c.args.self.now c.args.rest.now (omega arith)

pub returns-in_err-code-in-len1-up : goal.returns-in_err-code-in-len1-up
returns-in_err-code-in-len1-up c =
    let width : c.len.result ≡ length c.args.self.now.line.items = grind arith in
    rest_is_faulty c.args.self.now c.args.rest.now c.from_residual.result (omega arith) (subst (λ w. Knows c.args.self.now w (get_or c.args.rest.now 0 0) None) width c.in_err-code-in-len1-up.ensures.known)

pub returns-in_ok-code-in-len1-up : goal.returns-in_ok-code-in-len1-up
returns-in_ok-code-in-len1-up c =
    let width : c.len.result ≡ length c.args.self.now.line.items = grind arith in
    rest_faults c.args.self.now c.args.rest.now c.in_ok-code-in-len1-up.code c.placed.result (omega arith) (subst (λ w. Knows c.args.self.now w (get_or c.args.rest.now 0 0) (Some c.in_ok-code-in-len1-up.code)) width c.in_ok-code-in-len1-up.ensures.known) c.placed.ensures
