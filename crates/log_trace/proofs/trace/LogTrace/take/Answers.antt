use Rattle.std.proofs.Common.{◌∷◌, [], sym, subst}
use Rattle.event_log.specs.declared.item.Item.{Item}
use Rattle.event_log.specs.declared.item.Item.TheVariants as item
use Rattle.log_rules.specs.Judgement.{Judgement, judge}
use Rattle.log_trace.specs.Judging.{Keeps, without_formula, MayFollow}
use Rattle.log_trace.proofs.Steps.{adds, header_first}
use Rattle.log_trace.proofs.trace.LogTrace.take.Goals as goal

pub open-requires-clause-waiting : goal.open-requires-clause-waiting
open-requires-clause-waiting c =
    let j = c.requires.0 in
    let first = header_first j c.in-Header.header c.args.self.now c.requires.1 (subst (λ (i : Item). MayFollow j (i ∷ [])) c.in-Header.is c.requires.2) in
    subst (Keeps c.args.self.now) first.0 c.requires.1

pub open-requires-clause-header : goal.open-requires-clause-header
open-requires-clause-header c =
    let j = c.requires.0 in
    (header_first j c.in-Header.header c.args.self.now c.requires.1 (subst (λ (i : Item). MayFollow j (i ∷ [])) c.in-Header.is c.requires.2)).1

pub returns-in_ok-push-in-Event-clause-ok : goal.returns-in_ok-push-in-Event-clause-ok
returns-in_ok-push-in-Event-clause-ok c j is fit =
    subst (λ (i : Item). Keeps (record c.args.self.now { since = c.push.new.self }) (judge without_formula j i)) (sym c.in-Event.is)
    (adds j c.in-Event.event c.args.self.now c.push.new.self is (subst (λ (i : Item). MayFollow j (i ∷ [])) c.in-Event.is fit) c.in_ok-push-in-Event.ensures.ok)

pub returns-in-Ok-clause-ok : goal.returns-in-Ok-clause-ok
returns-in-Ok-clause-ok c j is fit =
    let first = header_first j c.in-Header.header c.args.self.now is (subst (λ (i : Item). MayFollow j (i ∷ [])) c.in-Header.is fit) in
    subst (λ (i : Item). Keeps c.open.new.self (judge without_formula j i)) (sym c.in-Header.is)
    (subst (λ (x : Judgement). Keeps c.open.new.self (judge without_formula x (item.Header c.in-Header.header))) (sym first.0) c.in-Ok.ensures)
