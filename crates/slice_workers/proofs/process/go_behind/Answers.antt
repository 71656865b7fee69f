use Rattle.std.proofs.Common.{arith, ap, ◌≡◌, ◌+◌, ◌∙◌, ℕ, sum, take, subst, sym}
use Rattle.pull_system.specs.System.{SystemView}
use Rattle.bound_table.specs.Firm.{Reaches}
use Rattle.slice_workers.proofs.Reached.{final_seen, settled_row}
use Rattle.slice_workers.proofs.process.go_behind.Goals as goal

pub returns-clause-reached : goal.returns-clause-reached
returns-clause-reached c =
    let system : SystemView = c.args.table.now.system in
    let lens : c.shape.result.now ≡ system.lens = c.shape.ensures.shape ∙ ap (λ s. s.lens) c.system.ensures in
    let row : c.row_of-row.result ≡ sum (take c.args.process system.lens) + c.args.first = c.row_of-row.ensures.row ∙ ap (λ xs. sum (take c.args.process xs) + c.args.first) lens in
    let P : ℕ → Type 0 = λ r. Reaches system r c.args.seat.now.floor in
    let follows = c.look_narrow.ensures.follows in
    settled_row system c.row_of-row.result _ _ _ follows
    (final_seen system c.row_of-row.result _ _ _ (omega (arith, c.row_of-row.ensures.within, ap sum lens)) follows
    (subst P (sym row) (c.requires.able.kept.each c.args.first (omega (arith, c.if-first-eq0.false)) (omega arith))))
