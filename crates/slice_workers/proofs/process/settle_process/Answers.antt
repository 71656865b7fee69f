use Rattle.std.proofs.Common.{arith, ap, ◌≡◌, ◌+◌, ◌≤◌, ◌∙◌, ℕ, sum, take, get_or, subst}
use Rattle.pull_system.specs.System.{SystemView}
use Rattle.bound_table.proofs.Claiming.{keeps_trans}
use Rattle.bound_table.proofs.Floors.{within_trans}
use Rattle.bound_table.specs.Firm.{ReachesFirst}
use Rattle.slice_workers.proofs.Reached.{first_next, reaches_row, may_start, is_before}
use Rattle.bound_table.proofs.Own.{first_more}
use Rattle.slice_workers.proofs.Reached.IsBefore.{After}
use Rattle.slice_workers.proofs.process.settle_process.Goals as goal

pub loop-done-init : goal.loop-done-init
loop-done-init g c =
    let system : SystemView = c.args.table.now.system in
    let go = c.go_behind-before.ensures in record {
      risen = go.risen;
      there = go.there;
      start = is_before system.lens c.args.process c.args.first _ go.row;
      reached = go.reached;
      reaches = first_more system c.args.process _ _ _ go.risen.rises c.requires.able.kept;
    }

pub settle_next-requires-clause-lends : goal.settle_next-requires-clause-lends
settle_next-requires-clause-lends g c =
    let system : SystemView = c.args.table.now.system in
    let lens : c.shape-shape.result.now ≡ system.lens = c.shape-shape.ensures.shape ∙ ap (λ s. s.lens) c.system.ensures in
    let done : ℕ = c.loop-done.done in
    let row : c.row_of-row.result ≡ sum (take c.args.process system.lens) + (done + 1) = c.row_of-row.ensures.row ∙ ap (λ xs. sum (take c.args.process xs) + (done + 1)) lens in
    let fits : done + 1 ≤ get_or system.lens c.args.process 0 = omega (arith, c.len_of-done-end.ensures.len, c.loop-done-test.true, ap (λ xs. get_or xs c.args.process 0) lens) in
    let inv = c.loop-done.invariant in record {
      from = inv.there;
      to = omega (arith, c.row_of-row.ensures.within, ap sum lens);
      event = may_start system _ inv.risen.bounds c.args.process done c.loop-done.before c.row_of-row.result c.requires.process fits row inv.start;
    }

pub loop-done-preserved : goal.loop-done-preserved
loop-done-preserved g c =
    let system : SystemView = c.args.table.now.system in
    let lens : c.shape-shape.result.now ≡ system.lens = c.shape-shape.ensures.shape ∙ ap (λ s. s.lens) c.system.ensures in
    let done : ℕ = c.loop-done.done in
    let row : c.row_of-row.result ≡ sum (take c.args.process system.lens) + (done + 1) = c.row_of-row.ensures.row ∙ ap (λ xs. sum (take c.args.process xs) + (done + 1)) lens in
    let fits : done + 1 ≤ get_or system.lens c.args.process 0 = omega (arith, c.len_of-done-end.ensures.len, c.loop-done-test.true, ap (λ xs. get_or xs c.args.process 0) lens) in
    let inv = c.loop-done.invariant in
    let next = c.settle_next.ensures in record {
      risen = record {
        keeps = keeps_trans _ _ _ inv.risen.keeps next.risen.keeps;
        rises = within_trans _ _ _ inv.risen.rises next.risen.rises;
        bounds = next.risen.bounds;
      };
      there = omega (arith, c.row_of-row.ensures.within, ap sum lens);
      start = After (omega arith) row;
      reached = next.reached;
      reaches = first_next system c.args.process done c.row_of-row.result _ row (first_more system c.args.process done _ _ next.risen.rises inv.reaches) (reaches_row system c.row_of-row.result _ _ next.reached);
    }

pub returns-clause-reaches : goal.returns-clause-reaches
returns-clause-reaches g c =
    let system : SystemView = c.args.table.now.system in
    let lens : c.shape-shape.result.now ≡ system.lens = c.shape-shape.ensures.shape ∙ ap (λ s. s.lens) c.system.ensures in
    let end : c.loop-done.done ≡ get_or system.lens c.args.process 0 = omega (arith, c.len_of-done-end.ensures.len, c.loop-done-test.false, c.loop-done.auto.done-end, ap (λ xs. get_or xs c.args.process 0) lens) in
    let P : ℕ → Type 0 = λ n. ReachesFirst system c.args.process n c.loop-done.seat.floor in subst P end c.loop-done.invariant.reaches
