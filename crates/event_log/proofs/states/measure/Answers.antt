use Rattle.std.proofs.Common.{◌≡◌, ◌≤◌, ◌<◌, ◌∙◌, ℕ, sym, subst, length, get_or, arith}
use Rattle.std.proofs.lemmas.List.{length-map}
use Rattle.event_log.specs.States.{HistoryView}
use Rattle.pota_base.proofs.Lengths.{measured_all, measured_shape}
use Rattle.event_log.proofs.Keeping.{lens_in, count-lens_in, item_le_sum, lens_shape}
use Rattle.event_log.proofs.states.measure.Goals as goal

pub overflow_cast-len : goal.overflow_cast-len
overflow_cast-len c =
    let hs = c.args.histories.now in
    let p = c.loop-process.process in
    omega (arith, c.len_of-len.ensures, count-lens_in hs p, item_le_sum (lens_in hs) p, c.requires.few)

pub raise-requires-clause-shape : goal.raise-requires-clause-shape
raise-requires-clause-shape c =
    let hs = c.args.histories.now in
    let p = c.loop-process.process in
    let there : p < length c.loop-process.shape = omega (arith, c.loop-process-test.true, c.procs-process-end.ensures.count, c.loop-process.invariant.count) in
    let count : length (lens_in hs) ≡ length hs = length-map hs (λ (h : HistoryView). length h.events) in
    measured_shape c.args.shape.now (lens_in hs) c.loop-process.shape p c.len_of-len.result c.loop-process.invariant there
    (c.len_of-len.ensures ∙ sym (count-lens_in hs p)) (count ∙ sym c.requires.count)
    (lens_shape hs c.args.shape.now c.procs-process-end.ensures.shape c.requires.count c.requires.few)
    (λ q. subst (λ (n : ℕ). get_or c.args.shape.now q 0 ≤ n) (sym (count-lens_in hs q)) (c.requires.fits q))

pub returns : goal.returns
returns c =
    let hs = c.args.histories.now in
    let count : length (lens_in hs) ≡ length hs = length-map hs (λ (h : HistoryView). length h.events) in
    measured_all c.args.shape.now (lens_in hs) c.loop-process.shape c.loop-process.process c.loop-process.invariant (count ∙ sym c.requires.count)
    (omega (arith, c.loop-process-test.false, c.procs-process-end.ensures.count))
