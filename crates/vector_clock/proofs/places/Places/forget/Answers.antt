use Rattle.std.proofs.Common.{◌≡◌, ◌<◌, ◌∙◌, length, get_or, ap, arith}
use Rattle.std.proofs.lemmas.List.{get_or_read}
use Rattle.vector_clock.specs.declared.places.Kept.{Kept}
use Rattle.vector_clock.specs.declared.places.Met.{Met}
use Rattle.vector_clock.specs.Met.{met_at}
use Rattle.vector_clock.specs.Rising.{nothing_kept}
use Rattle.vector_clock.specs.inside.Met.{without}
use Rattle.vector_clock.proofs.RisingMessages.{there, found, not_found, met_among, forgotten_among, forgotten_out}
use Rattle.vector_clock.proofs.places.Places.forget.Goals as goal

pub returns-in-Some : goal.returns-in-Some
returns-in-Some c =
    let rising = c.args.self.now.rising.items in
    let others = c.args.self.now.others in
    let n = c.args.message.now in
    let place = c.in-Some.place in
    let at = found c.deref.result.now rising n c.index_of.result place c.deref.ensures.value c.in-Some.is c.index_of.ensures.place in
    let inside : place < length rising = omega (arith, at.1, there rising n at.0) in
    let read : c.index.result.now ≡ get_or rising place nothing_kept = get_or_read rising place c.index.result.now inside c.index.ensures nothing_kept in
    let kept : c.index.result.now.met ≡ met_at c.args.self.now n = ap (λ (k : Kept). k.met) read ∙ ap (λ (k : _). (get_or rising k nothing_kept).met) at.1 ∙ met_among rising others n at.0 in
    forgotten_among rising others n c.args.met c.without-met.result place at.0 at.1
    (c.without-met.ensures.sent ∙ ap (λ (x : Met). without x.sent c.args.met.sent) kept)
    (c.without-met.ensures.received ∙ ap (λ (x : Met). without x.received c.args.met.received) kept)

pub returns : goal.returns
returns c =
    let rising = c.args.self.now.rising.items in
    let out = not_found c.deref.result.now rising c.args.message.now c.index_of.result c.deref.ensures.value c.in_default.is c.index_of.ensures.place in
    forgotten_out rising c.args.self.now.others c.forget.new.self c.args.message.now c.args.met out c.forget.ensures
