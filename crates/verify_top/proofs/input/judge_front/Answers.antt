use Rattle.std.proofs.Common.{refl}
use Rattle.verify_top.proofs.Fronts.{whole_there}
use Rattle.verify_top.proofs.Judging.{behind_judged, front_refused, front_unread}
use Rattle.verify_top.specs.Asking.{aim_for}
use Rattle.verify_top.proofs.input.judge_front.Goals as goal

pub into_observed-checked-requires : goal.into_observed-checked-requires
into_observed-checked-requires g c =
    let tree = c.requires.0 in
    let w = whole_there (λ h. (goal.Watch-dyn g (h.watch.vtable, h.watch.value)).answers h.watch.value) (aim_for tree) c.requires.1 (g.S.Source.left c.args.input.now) c.requires.2 (g.S.Source.faults c.args.input.now) c.args.front
    c.in-Whole.check c.in-Whole.rest c.in-Whole.is c.requires.3 in
    record { check = (aim_for tree, w.judgement, w.log, w.check_is, w.closed) }

pub returns-in-Whole-clause-answers : goal.returns-in-Whole-clause-answers
returns-in-Whole-clause-answers g c words tree left faults asks h =
    behind_judged (λ h. (goal.Watch-dyn g (h.watch.vtable, h.watch.value)).answers h.watch.value) words tree asks left (g.S.Source.left c.args.input.now) (g.S.Source.left c.judge_certificate.new.source) faults (g.S.Source.faults c.args.input.now) (g.S.Source.faults c.judge_certificate.new.source)
    c.args.front h c.in-Whole.check c.in-Whole.rest c.in-Whole.is c.into_observed-checked.result (c.into_observed-checked.ensures.log (aim_for tree)) c.an_accepted_certificate_tells_the_truth.ensures c.into_observed-checked.ensures.trace c.into_observed-checked.ensures.made c.into_observed-checked.ensures.rise
    c.as_slice.result.now c.as_slice.ensures c.judge_certificate.result c.judge_certificate.ensures.judged c.judge_certificate.ensures.nodes

pub returns-in-Refused-clause-answers : goal.returns-in-Refused-clause-answers
returns-in-Refused-clause-answers g c words tree left faults asks h =
    front_refused (λ h. (goal.Watch-dyn g (h.watch.vtable, h.watch.value)).answers h.watch.value) words tree asks left (g.S.Source.left c.args.input.now) (g.S.Source.left c.args.input.now) faults (g.S.Source.faults c.args.input.now) (g.S.Source.faults c.args.input.now)
    c.args.front h c.in-Refused.refusal c.of_refusal.result c.in-Refused.is c.of_refusal.ensures

pub returns-in-Failed-clause-answers : goal.returns-in-Failed-clause-answers
returns-in-Failed-clause-answers g c words tree left faults asks h =
    front_unread (λ h. (goal.Watch-dyn g (h.watch.vtable, h.watch.value)).answers h.watch.value) words tree asks left (g.S.Source.left c.args.input.now) (g.S.Source.left c.args.input.now) faults (g.S.Source.faults c.args.input.now) (g.S.Source.faults c.args.input.now)
    c.args.front h c.in-Failed.is

pub returns-in-Whole-clause-failed : goal.returns-in-Whole-clause-failed
returns-in-Whole-clause-failed g c is = let whole = c.in-Whole.is in absurd cc

pub returns-in-Whole-clause-calm : goal.returns-in-Whole-clause-calm
returns-in-Whole-clause-calm g c = c.judge_certificate.ensures.calm

pub returns-in-Refused-clause-failed : goal.returns-in-Refused-clause-failed
returns-in-Refused-clause-failed g c is = let refused = c.in-Refused.is in absurd cc

pub returns-in-Refused-clause-calm : goal.returns-in-Refused-clause-calm
returns-in-Refused-clause-calm g c other = refl

pub returns-in-Failed-clause-failed : goal.returns-in-Failed-clause-failed
returns-in-Failed-clause-failed g c is = refl

pub returns-in-Failed-clause-calm : goal.returns-in-Failed-clause-calm
returns-in-Failed-clause-calm g c other = refl
