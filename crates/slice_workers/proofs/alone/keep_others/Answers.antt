use Rattle.std.proofs.Common.{rules, arith, ap, ◌≡◌, ◌+◌, ◌-◌, ◌≤◌, ◌∙◌, ℕ, sum, take, get_or, subst}
use Rattle.pull_system.proofs.Sums.{sum-is_vector}
use Rattle.pull_system.specs.System.{SystemView}
use Rattle.bound_table.proofs.Allowed.{bounds_along}
use Rattle.bound_table.proofs.Claiming.{keeps_refl, keeps_trans}
use Rattle.bound_table.proofs.Floors.{within_trans}
use Rattle.slice_workers.specs.Calls.{IsPaid}
use Rattle.slice_workers.specs.inside.Keeping.{AreKept}
use Rattle.slice_workers.proofs.Reached.{may_start, is_before, within_refl}
use Rattle.slice_workers.proofs.Rises.{pays_on, paid_on, looks_of}
use Rattle.slice_workers.proofs.Appended.{kept_more, up_to_next, paid_none, paid_more}
use Rattle.slice_workers.proofs.alone.keep_others.Goals as goal

pub loop-done-init : goal.loop-done-init
loop-done-init g c =
    let system : SystemView = c.args.table.now.system in
    let bounds = bounds_along _ system _ c.args.seat.now.floor (search rules) (search rules) c.bounds.ensures in record {
      risen = record { keeps = keeps_refl _; rises = within_refl _; bounds = bounds };
      kept = c.requires.kept;
      pays = omega arith;
      paid = paid_none system (c.args.first - c.args.first) c.args.seat.now c.args.seat.now c.args.steps.now bounds bounds (within_refl _);
      from = omega arith;
    }

pub settle_next-requires-clause-lends : goal.settle_next-requires-clause-lends
settle_next-requires-clause-lends g c =
    let system : SystemView = c.args.table.now.system in
    let lens : c.shape-shape.result.now ≡ system.lens = c.shape-shape.ensures.shape ∙ ap (λ s. s.lens) c.system.ensures in
    let done : ℕ = c.loop-done.done in
    let row : c.row_of-row.result ≡ sum (take c.args.process system.lens) + (done + 1) = c.row_of-row.ensures.row ∙ ap (λ xs. sum (take c.args.process xs) + (done + 1)) lens in
    let fits : done + 1 ≤ get_or system.lens c.args.process 0 = omega (arith, c.len_of-done-end.ensures.len, c.loop-done-test.true, ap (λ xs. get_or xs c.args.process 0) lens) in
    let inv = c.loop-done.invariant in record {
      from = inv.kept.there;
      to = omega (arith, c.row_of-row.ensures.within, ap sum lens);
      event = may_start system _ inv.risen.bounds c.args.process done c.loop-done.before c.row_of-row.result c.requires.process fits row (is_before system.lens c.args.process done _ inv.kept.row);
    }

pub loop-done-preserved : goal.loop-done-preserved
loop-done-preserved g c =
    let system : SystemView = c.args.table.now.system in
    let lens : c.shape-shape.result.now ≡ system.lens = c.shape-shape.ensures.shape ∙ ap (λ s. s.lens) c.system.ensures in
    let done : ℕ = c.loop-done.done in
    let row : c.row_of-row.result ≡ sum (take c.args.process system.lens) + (done + 1) = c.row_of-row.ensures.row ∙ ap (λ xs. sum (take c.args.process xs) + (done + 1)) lens in
    let there : c.row_of-row.result ≤ sum system.lens = omega (arith, c.row_of-row.ensures.within, ap sum lens) in
    let inv = c.loop-done.invariant in
    let next = c.settle_next.ensures in record {
      risen = record {
        keeps = keeps_trans _ _ _ inv.risen.keeps next.risen.keeps;
        rises = within_trans _ _ _ inv.risen.rises next.risen.rises;
        bounds = next.risen.bounds;
      };
      kept = up_to_next system c.args.process done c.row_of-row.result _ _ _ _ row there (kept_more system _ _ _ _ next.risen.rises inv.kept.kept) next.reached c.in_ok-extend_from_slice.ensures.items;
      pays = pays_on _ _ _ _ _ _ _ next.pays inv.pays;
      paid =
          let one : done - c.args.first + 1 ≡ done + 1 - c.args.first = omega (arith, inv.from) in
          let rows : ℕ → Type 0 = λ n. IsPaid system n c.args.seat.now c.settle_next.new.seat c.args.steps.now c.settle_next.new.steps in
          subst rows one (paid_on _ _ _ _ _ _ _ _ next.rises_paid inv.paid);
      from = omega (arith, inv.from);
    }

pub returns-in_err-extend_from_slice-clause-risen : goal.returns-in_err-extend_from_slice-clause-risen
returns-in_err-extend_from_slice-clause-risen g c =
    let inv = c.loop-done.invariant in
    let next = c.settle_next.ensures in record {
      keeps = keeps_trans _ _ _ inv.risen.keeps next.risen.keeps;
      rises = within_trans _ _ _ inv.risen.rises next.risen.rises;
      bounds = next.risen.bounds;
    }

pub returns-in_err-extend_from_slice-clause-looks : goal.returns-in_err-extend_from_slice-clause-looks
returns-in_err-extend_from_slice-clause-looks g c =
    let system : SystemView = c.args.table.now.system in
    let next = c.settle_next.ensures in
    looks_of _ _ _ _ _ _ (sum-is_vector system.lens _ next.reached.least.closed.vector) (sum-is_vector system.lens _ c.requires.kept.reached.least.closed.vector) (pays_on _ _ _ _ _ _ _ next.pays c.loop-done.invariant.pays)

pub returns-in_err-extend_from_slice-clause-rises_paid : goal.returns-in_err-extend_from_slice-clause-rises_paid
returns-in_err-extend_from_slice-clause-rises_paid g c =
    let system : SystemView = c.args.table.now.system in
    let lens : c.shape-shape.result.now ≡ system.lens = c.shape-shape.ensures.shape ∙ ap (λ s. s.lens) c.system.ensures in
    let done : ℕ = c.loop-done.done in
    let fits : done + 1 ≤ get_or system.lens c.args.process 0 = omega (arith, c.len_of-done-end.ensures.len, c.loop-done-test.true, ap (λ xs. get_or xs c.args.process 0) lens) in
    let inv = c.loop-done.invariant in
    paid_more system (done - c.args.first + 1) (get_or system.lens c.args.process 0 - c.args.first) c.args.seat.now c.settle_next.new.seat c.args.steps.now c.settle_next.new.steps (omega (arith, inv.from, fits)) (paid_on _ _ _ _ _ _ _ _ c.settle_next.ensures.rises_paid inv.paid)

pub returns-clause-kept : goal.returns-clause-kept
returns-clause-kept g c =
    let system : SystemView = c.args.table.now.system in
    let lens : c.shape-shape.result.now ≡ system.lens = c.shape-shape.ensures.shape ∙ ap (λ s. s.lens) c.system.ensures in
    let end : c.loop-done.done ≡ get_or system.lens c.args.process 0 = omega (arith, c.len_of-done-end.ensures.len, c.loop-done-test.false, c.loop-done.auto.done-end, ap (λ xs. get_or xs c.args.process 0) lens) in
    let P : ℕ → Type 0 = λ n. AreKept system c.loop-done.seat.floor (sum (take c.args.process system.lens) + (n + 1)) c.loop-done.words.items in
    subst P end c.loop-done.invariant.kept.kept

pub returns-clause-looks : goal.returns-clause-looks
returns-clause-looks g c =
    let system : SystemView = c.args.table.now.system in
    let inv = c.loop-done.invariant in
    looks_of _ _ _ _ _ _ (sum-is_vector system.lens _ inv.kept.reached.least.closed.vector) (sum-is_vector system.lens _ c.requires.kept.reached.least.closed.vector) inv.pays

pub returns-clause-rises_paid : goal.returns-clause-rises_paid
returns-clause-rises_paid g c =
    let system : SystemView = c.args.table.now.system in
    let lens : c.shape-shape.result.now ≡ system.lens = c.shape-shape.ensures.shape ∙ ap (λ s. s.lens) c.system.ensures in
    let end : c.loop-done.done ≡ get_or system.lens c.args.process 0 = omega (arith, c.len_of-done-end.ensures.len, c.loop-done-test.false, c.loop-done.auto.done-end, ap (λ xs. get_or xs c.args.process 0) lens) in
    let paid = c.loop-done.invariant.paid in rw end at paid
