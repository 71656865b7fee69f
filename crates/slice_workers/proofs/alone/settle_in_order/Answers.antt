use Rattle.std.proofs.Common.{rules, arith, ap, sym, ◌≡◌, ◌+◌, ◌<◌, ◌≤◌, ◌∙◌, ℕ, Bool, List, length, sum, take, get_or, subst}
use Rattle.std.proofs.lemmas.List.{take_all}
use Rattle.pull_system.specs.Vector.{IsAtMost}
use Rattle.pull_system.specs.System.{SystemView}
use Rattle.bound_table.proofs.Allowed.{bounds_along}
use Rattle.slice_workers.specs.inside.Reaching.{CanSettle}
use Rattle.bound_table.specs.Firm.{AreFinal}
use Rattle.slice_workers.specs.inside.Keeping.{AreKept, TakesBottom}
use Rattle.slice_workers.proofs.Reached.{reached_more, settled_row}
use Rattle.bound_table.proofs.Own.{final_more}
use Rattle.slice_workers.proofs.Appended.{counts_none, counts_next, counts_risen, counts_takes, kept_none, kept_push, sum_next}
use Rattle.slice_workers.proofs.alone.settle_in_order.Goals as goal

pub loop-process-init : goal.loop-process-init
loop-process-init g c =
    let system : SystemView = c.args.table.now.system in
    let old = bounds_along _ system _ c.args.seat.now.floor (search rules) (search rules) c.bounds.ensures in
    let bottom = c.settle_bottom.ensures in
    let reached = settled_row system 0 _ _ _ bottom.follows bottom.least in record {
      counts = counts_none system c.args.firm.now.bottom c.firsts-firsts.result.now _ _ _ _ _ old bottom.keeps bottom.follows (subst (λ (b : Bool). TakesBottom system b c.args.seat.now.floor c.settle_bottom.new.bottom c.args.steps.now c.settle_bottom.new.steps) c.has_bottom.ensures bottom.takes);
      bottom = reached;
      kept = kept_push system _ 0 _ _ _ (kept_none system _ _ c.requires.words) reached c.in_ok-extend_from_slice.ensures.items;
    }

pub returns-in_err-extend_from_slice-clause-risen : goal.returns-in_err-extend_from_slice-clause-risen
returns-in_err-extend_from_slice-clause-risen g c =
    let bottom = c.settle_bottom.ensures in record { table = bottom.keeps.table; rises = bottom.follows.rises }

pub returns-in_err-extend_from_slice-clause-takes : goal.returns-in_err-extend_from_slice-clause-takes
returns-in_err-extend_from_slice-clause-takes g c =
    let system : SystemView = c.args.table.now.system in
    let lens : length c.shape.result.now ≡ length system.lens = ap length (c.shape.ensures.shape ∙ ap (λ s. s.lens) c.system.ensures) in
    let some : 1 ≤ length system.lens = omega (arith, c.procs-procs.ensures.shape.some, lens) in
    let old = bounds_along _ system _ c.args.seat.now.floor (search rules) (search rules) c.bounds.ensures in
    let bottom = c.settle_bottom.ensures in
    counts_takes system c.args.firm.now c.firsts-firsts.result.now _ _ _ 0 _ _ c.firsts-firsts.ensures some (omega arith) bottom.least.closed.vector
    (counts_none system c.args.firm.now.bottom c.firsts-firsts.result.now _ _ _ _ _ old bottom.keeps bottom.follows (subst (λ (b : Bool). TakesBottom system b c.args.seat.now.floor c.settle_bottom.new.bottom c.args.steps.now c.settle_bottom.new.steps) c.has_bottom.ensures bottom.takes))

pub keep_process-requires-clause-able : goal.keep_process-requires-clause-able
keep_process-requires-clause-able g c =
    let system : SystemView = c.args.table.now.system in
    let process : ℕ = c.loop-process.process in
    let first : ℕ = get_or c.firsts-firsts.result.now process 0 in
    let lens : length c.shape.result.now ≡ length system.lens = ap length (c.shape.ensures.shape ∙ ap (λ s. s.lens) c.system.ensures) in
    let there : process < length system.lens = omega (arith, c.procs-procs.ensures.count, c.loop-process-test.true, lens) in
    let inv = c.loop-process.invariant in
    let Q : List ℕ → Type 0 = AreFinal system c.loop-process.seat.floor in
    let final = subst Q (sym c.firsts-firsts.ensures) (final_more system _ _ _ inv.counts.rises c.requires.firm.firsts) in
    let P : List ℕ → Type 0 = λ f. CanSettle system f c.settle_bottom.new.bottom process first in
    subst P (sym c.claim.ensures.floor) (record { bottom = inv.bottom; first = final.few process; kept = final.each process there })

pub keep_process-requires-clause-kept : goal.keep_process-requires-clause-kept
keep_process-requires-clause-kept g c =
    let system : SystemView = c.args.table.now.system in
    let P : List ℕ → Type 0 = λ f. AreKept system f (sum (take c.loop-process.process system.lens) + (0 + 1)) c.loop-process.words.items in
    subst P (sym c.claim.ensures.floor) c.loop-process.invariant.kept

pub returns-in_err-keep_process-clause-risen : goal.returns-in_err-keep_process-clause-risen
returns-in_err-keep_process-clause-risen g c =
    let system : SystemView = c.args.table.now.system in
    let lens : length c.shape.result.now ≡ length system.lens = ap length (c.shape.ensures.shape ∙ ap (λ s. s.lens) c.system.ensures) in
    let there : c.loop-process.process < length system.lens = omega (arith, c.procs-procs.ensures.count, c.loop-process-test.true, lens) in
    let done = c.keep_process.ensures in
    counts_risen system _ _ _ _ _ _ _ _ (counts_next system _ _ _ _ _ _ _ _ _ _ _ there c.loop-process.invariant.counts c.claim.ensures.table c.claim.ensures.floor done.risen done.takes)

pub returns-in_err-keep_process-clause-takes : goal.returns-in_err-keep_process-clause-takes
returns-in_err-keep_process-clause-takes g c =
    let system : SystemView = c.args.table.now.system in
    let lens : length c.shape.result.now ≡ length system.lens = ap length (c.shape.ensures.shape ∙ ap (λ s. s.lens) c.system.ensures) in
    let some : 1 ≤ length system.lens = omega (arith, c.procs-procs.ensures.shape.some, lens) in
    let there : c.loop-process.process < length system.lens = omega (arith, c.procs-procs.ensures.count, c.loop-process-test.true, lens) in
    let inv = c.loop-process.invariant in
    let done = c.keep_process.ensures in
    counts_takes system c.args.firm.now _ _ _ _ (c.loop-process.process + 1) _ _ c.firsts-firsts.ensures some (omega (arith, there)) inv.bottom.least.closed.vector
    (counts_next system _ _ _ _ _ _ _ _ _ _ _ there inv.counts c.claim.ensures.table c.claim.ensures.floor done.risen done.takes)

pub loop-process-preserved : goal.loop-process-preserved
loop-process-preserved g c =
    let system : SystemView = c.args.table.now.system in
    let process : ℕ = c.loop-process.process in
    let lens : length c.shape.result.now ≡ length system.lens = ap length (c.shape.ensures.shape ∙ ap (λ s. s.lens) c.system.ensures) in
    let there : process < length system.lens = omega (arith, c.procs-procs.ensures.count, c.loop-process-test.true, lens) in
    let inv = c.loop-process.invariant in
    let done = c.keep_process.ensures in
    let next = counts_next system _ _ _ _ _ _ _ _ _ _ _ there inv.counts c.claim.ensures.table c.claim.ensures.floor done.risen done.takes in
    let P : List ℕ → Type 0 = λ f. IsAtMost f c.keep_process.new.seat.floor in
    let more = subst P c.claim.ensures.floor done.risen.rises in
    let Q : ℕ → Type 0 = λ n. AreKept system c.keep_process.new.seat.floor n c.keep_process.new.words.items in
    let rows : sum (take process system.lens) + (get_or system.lens process 0 + 1) ≡ sum (take (process + 1) system.lens) + (0 + 1) = omega (arith, sum_next system.lens process there) in record {
      counts = next;
      bottom = reached_more system 0 _ _ _ more inv.bottom;
      kept = subst Q rows c.in_ok-keep_process.ensures.kept;
    }

pub returns-clause-risen : goal.returns-clause-risen
returns-clause-risen g c =
    counts_risen c.args.table.now.system _ _ _ _ _ _ _ _ c.loop-process.invariant.counts

pub returns-clause-takes : goal.returns-clause-takes
returns-clause-takes g c =
    let system : SystemView = c.args.table.now.system in
    let lens : length c.shape.result.now ≡ length system.lens = ap length (c.shape.ensures.shape ∙ ap (λ s. s.lens) c.system.ensures) in
    let some : 1 ≤ length system.lens = omega (arith, c.procs-procs.ensures.shape.some, lens) in
    let end : c.loop-process.process ≡ length system.lens = omega (arith, c.procs-procs.ensures.count, c.loop-process-test.false, c.loop-process.auto.process-end, lens) in
    let inv = c.loop-process.invariant in
    counts_takes system c.args.firm.now _ _ _ _ _ _ _ c.firsts-firsts.ensures some (omega (arith, end)) inv.bottom.least.closed.vector inv.counts

pub returns-clause-kept : goal.returns-clause-kept
returns-clause-kept g c =
    let system : SystemView = c.args.table.now.system in
    let lens : length c.shape.result.now ≡ length system.lens = ap length (c.shape.ensures.shape ∙ ap (λ s. s.lens) c.system.ensures) in
    let end : c.loop-process.process ≡ length system.lens = omega (arith, c.procs-procs.ensures.count, c.loop-process-test.false, c.loop-process.auto.process-end, lens) in
    let all : sum (take c.loop-process.process system.lens) ≡ sum system.lens = ap (λ (xs : List ℕ). sum xs) (take_all c.loop-process.process system.lens (omega (arith, end))) in
    let P : ℕ → Type 0 = λ n. AreKept system c.loop-process.seat.floor n c.loop-process.words.items in
    subst P (let e : sum (take c.loop-process.process system.lens) + (0 + 1) ≡ sum system.lens + 1 = omega (arith, all) in e) c.loop-process.invariant.kept
