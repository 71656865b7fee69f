use Rattle.std.proofs.Common.{◌≡◌, ◌+◌, ◌++◌, List, [], ◌∷◌, drop, ap, sym, ◌∙◌, arith}
use Rattle.std.proofs.lemmas.List.{drop_more, drop_all, take_rest, append-nil}
use Rattle.event_log.specs.declared.log.Event.{Event}
use Rattle.event_log.specs.LogText.{event_lines, batch_lines, closing_line, text_of}
use Rattle.event_log.proofs.Appends.{batch_put}
use Rattle.log_writing.proofs.writing.put_batches.Goals as goal

pub batches-preserved : goal.batches-preserved
batches-preserved c =
    let bs = c.args.batches.now in
    let i = c.batches.i in
    let b = c.index-batches-i.result in
    let split : drop i bs ≡ b ∷ drop (i + 1) bs = drop_more bs i b c.batches-test.true ∙ ap (λ (x : List Event). x ∷ drop (i + 1) bs) (sym c.index-batches-i.is) in
    let one : c.put_events.new.out ≡ c.batches.out ++ text_of (event_lines c.args.header.now b) = rw c.as_slice.ensures at c.in_ok-put_events.ensures in
    let closing : c.closing_line.result.now ≡ closing_line (drop (i + 1) bs) = c.closing_line.ensures ∙ ap closing_line (take_rest bs (i + 1)) in
    let two : c.extend_from_slice.new.self ≡ c.put_events.new.out ++ closing_line (drop (i + 1) bs) = rw closing at c.in_ok-extend_from_slice.ensures.ok in
    rw c.in_ok-push.ensures.ok (batch_put c.args.header.now (c.args.out.now ++ text_of (batch_lines c.args.header.now bs)) c.batches.out c.put_events.new.out c.extend_from_slice.new.self b (drop (i + 1) bs) (drop i bs) split c.batches.invariant one two)

pub returns : goal.returns
returns c =
    let none : drop c.batches.i c.args.batches.now ≡ [] = drop_all c.batches.i c.args.batches.now (omega arith) in
    sym (append-nil c.batches.out) ∙ ap (λ (x : List (List Event)). c.batches.out ++ text_of (batch_lines c.args.header.now x)) (sym none) ∙ c.batches.invariant
