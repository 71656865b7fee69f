use Rattle.std.proofs.Common.{◌≡◌, ◌<◌, ◌∙◌, length, get_or, ap, arith}
use Rattle.std.proofs.lemmas.Result.{on_ok_weaker, on_err_weaker}
use Rattle.std.proofs.lemmas.List.{get_or_read}
use Rattle.std.specs.Option.{option_or}
use Rattle.vector_clock.specs.declared.places.Kept.{Kept}
use Rattle.vector_clock.specs.declared.places.Met.{Met}
use Rattle.vector_clock.specs.Met.{met_at}
use Rattle.vector_clock.specs.Rising.{nothing_kept}
use Rattle.vector_clock.proofs.RisingMessages.{there, found, not_found, met_among, noted_among, noted_next, noted_out, all_stays}
use Rattle.vector_clock.proofs.places.Places.note.Goals as goal

pub returns-in-Some-clause-ok : goal.returns-in-Some-clause-ok
returns-in-Some-clause-ok c =
    let rising = c.args.self.now.rising.items in
    let others = c.args.self.now.others in
    let n = c.args.message in
    let place = c.in-Some.place in
    let at = found c.deref.result.now rising n c.index_of.result place c.deref.ensures.value c.in-Some.is c.index_of.ensures.place in
    let inside : place < length rising = omega (arith, at.1, there rising n at.0) in
    let read : c.index.result.now ≡ get_or rising place nothing_kept = get_or_read rising place c.index.result.now inside c.index.ensures nothing_kept in
    let kept : c.index.result.now.met ≡ met_at c.args.self.now n = ap (λ (k : Kept). k.met) read ∙ ap (λ (k : _). (get_or rising k nothing_kept).met) at.1 ∙ met_among rising others n at.0 in
    noted_among rising others n c.args.met c.or-met.result place at.0 at.1
    (c.or-met.ensures.sent ∙ ap (λ (x : Met). option_or x.sent c.args.met.sent) kept)
    (c.or-met.ensures.received ∙ ap (λ (x : Met). option_or x.received c.args.met.received) kept)

pub returns-then-is_next-clause-ok : goal.returns-then-is_next-clause-ok
returns-then-is_next-clause-ok c =
    let next = c.is_next.ensures.next c.if-is_next.true in
    noted_next c.args.self.now.rising.items c.push.new.self.items c.args.self.now.others c.args.message c.args.met next (c.is_next.ensures.nothing c.if-is_next.true) c.in_ok-push.ensures.items

pub returns-clause-ok : goal.returns-clause-ok
returns-clause-ok c =
    let rising = c.args.self.now.rising.items in
    let out = not_found c.deref.result.now rising c.args.message c.index_of.result c.deref.ensures.value c.in_default.is c.index_of.ensures.place in
    on_ok_weaker c.note.result (λ noted. noted_out rising c.args.self.now.others c.note.new.self c.args.message c.args.met out noted) c.note.ensures.ok

pub returns-clause-err : goal.returns-clause-err
returns-clause-err c = on_err_weaker c.note.result (λ kept. all_stays c.args.self.now.rising.items c.args.self.now.others c.note.new.self kept) c.note.ensures.err
