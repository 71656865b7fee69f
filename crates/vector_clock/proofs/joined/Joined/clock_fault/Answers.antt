use Rattle.std.proofs.Common.{◌≡◌, ◌∙◌, false, true, sym, arith}
use Rattle.std.proofs.lemmas.Bool.{cond-true, cond-false}
use Rattle.vector_clock.specs.Faults.{is_open, is_loop}
use Rattle.vector_clock.proofs.Below.{count_is}
use Rattle.vector_clock.proofs.NewNames.{same_open, same_loop}
use Rattle.vector_clock.proofs.Faultless.{dangles_not, passed_to_dangling, right_own}
use Rattle.vector_clock.proofs.OwnCounts.{own_count_alone}
use Rattle.vector_clock.proofs.joined.Joined.clock_fault.Goals as goal

pub returns-then-adds_only_itself : goal.returns-then-adds_only_itself
returns-then-adds_only_itself c =
    let own = count_is c.args.event.now.clock c.args.event.now.process c.get.result.now (omega (arith, c.requires.process, c.requires.width)) c.get.ensures.indexed ∙ c.if-get-place.false in
    own_count_alone c.args.self.now c.args.place c.args.event.now c.requires.before c.requires.place own (c.adds_only_itself.ensures c.if-adds_only_itself.true)

pub is_newly_open-requires-clause-named : goal.is_newly_open-requires-clause-named
is_newly_open-requires-clause-named c = dangles_not c.args.self.now c.args.event.now (sym c.is_dangling.ensures ∙ c.if-is_dangling.false)

pub is_newly_loop-requires-clause-named : goal.is_newly_loop-requires-clause-named
is_newly_loop-requires-clause-named c = dangles_not c.args.self.now c.args.event.now (sym c.is_dangling.ensures ∙ c.if-is_dangling.false)

pub returns-then-is_newly_open : goal.returns-then-is_newly_open
returns-then-is_newly_open c =
    let own = right_own c.args.place c.args.event.now (count_is c.args.event.now.clock c.args.event.now.process c.get.result.now (omega (arith, c.requires.process, c.requires.width)) c.get.ensures.indexed ∙ c.if-get-place.false) in
    let back = sym c.goes_back.ensures ∙ c.if-goes_back.false in
    let opens : is_open c.args.self.now c.args.event.now ≡ true = same_open c.args.self.now c.args.place c.args.event.now c.requires.before back ∙ sym c.is_newly_open.ensures ∙ c.if-is_newly_open.true in
    sym (passed_to_dangling c.args.self.now c.args.place c.args.event.now own back (sym c.is_dangling.ensures ∙ c.if-is_dangling.false) ∙ cond-true (is_open c.args.self.now c.args.event.now) _ _ opens)

pub returns-then-is_newly_loop : goal.returns-then-is_newly_loop
returns-then-is_newly_loop c =
    let own = right_own c.args.place c.args.event.now (count_is c.args.event.now.clock c.args.event.now.process c.get.result.now (omega (arith, c.requires.process, c.requires.width)) c.get.ensures.indexed ∙ c.if-get-place.false) in
    let back = sym c.goes_back.ensures ∙ c.if-goes_back.false in
    let opens : is_open c.args.self.now c.args.event.now ≡ false = same_open c.args.self.now c.args.place c.args.event.now c.requires.before back ∙ sym c.is_newly_open.ensures ∙ c.if-is_newly_open.false in
    let loop : is_loop c.args.self.now c.args.place c.args.event.now ≡ true = same_loop c.args.self.now c.args.place c.args.event.now c.requires.before back ∙ sym c.is_newly_loop.ensures ∙ c.if-is_newly_loop.true in
    sym (passed_to_dangling c.args.self.now c.args.place c.args.event.now own back (sym c.is_dangling.ensures ∙ c.if-is_dangling.false) ∙ cond-false (is_open c.args.self.now c.args.event.now) _ _ opens
    ∙ cond-true (is_loop c.args.self.now c.args.place c.args.event.now) _ _ loop)

pub returns-else-is_newly_loop : goal.returns-else-is_newly_loop
returns-else-is_newly_loop c =
    let own = right_own c.args.place c.args.event.now (count_is c.args.event.now.clock c.args.event.now.process c.get.result.now (omega (arith, c.requires.process, c.requires.width)) c.get.ensures.indexed ∙ c.if-get-place.false) in
    let back = sym c.goes_back.ensures ∙ c.if-goes_back.false in
    let opens : is_open c.args.self.now c.args.event.now ≡ false = same_open c.args.self.now c.args.place c.args.event.now c.requires.before back ∙ sym c.is_newly_open.ensures ∙ c.if-is_newly_open.false in
    let loop : is_loop c.args.self.now c.args.place c.args.event.now ≡ false = same_loop c.args.self.now c.args.place c.args.event.now c.requires.before back ∙ sym c.is_newly_loop.ensures ∙ c.if-is_newly_loop.false in
    sym (passed_to_dangling c.args.self.now c.args.place c.args.event.now own back (sym c.is_dangling.ensures ∙ c.if-is_dangling.false) ∙ cond-false (is_open c.args.self.now c.args.event.now) _ _ opens
    ∙ cond-false (is_loop c.args.self.now c.args.place c.args.event.now) _ _ loop)
