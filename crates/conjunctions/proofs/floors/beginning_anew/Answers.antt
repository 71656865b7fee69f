use Rattle.std.proofs.Common.{◌≡◌, ◌∙◌, ◌≤◌, ◌+◌, ◌*◌, ℕ, List, length, sum, refl, ap, sym, subst, arith}
use Rattle.pota_base.specs.Limits.{most_processes}
use Rattle.pull_system.specs.Vector.{IsVector}
use Rattle.pull_system.specs.System.{SystemView}
use Rattle.pull_system.specs.Rows.{IsLeast, row_at}
use Rattle.bound_table.proofs.Own.{zeros, length-zeros, get_or-zeros}
use Rattle.conjunctions.proofs.Anew.{least_bottom, above_least}
use Rattle.conjunctions.proofs.floors.beginning_anew.Goals as goal

pub least-requires : goal.least-requires
least-requires g c =
    let procs : c.procs.result ≡ length c.args.system.now.lens = c.procs.ensures.count ∙ ap length c.shape.ensures.shape in
    let few : c.procs.result ≤ most_processes = omega (arith, c.procs.ensures.count, c.procs.ensures.shape.few) in
    record { size = length-zeros c.procs.result most_processes few ∙ procs; within = λ i. omega (arith, get_or-zeros c.procs.result most_processes i) }

pub order_rows_above-requires : goal.order_rows_above-requires
order_rows_above-requires g c = subst (λ (lens : List ℕ). IsVector lens c.least.new.vector) c.requires.system c.least.ensures.least.closed.vector

pub returns-clause-rows : goal.returns-clause-rows
returns-clause-rows g c =
    c.in_ok-floor.ensures.begins c.args.system.now.pulls (above_least c.args.order.now c.args.system.now (zeros c.procs.result most_processes) c.least.new.vector (get_or-zeros c.procs.result most_processes) c.requires.system c.requires.order c.least.ensures.least)

pub returns-clause-bottom : goal.returns-clause-bottom
returns-clause-bottom g c =
    let system : SystemView = c.args.system.now in
    let words : List ℕ = c.in_ok-floor.floor.words in
    let row : row_at system.lens words 0 ≡ c.least.new.vector = ap (λ (l : List ℕ). row_at l words 0) c.requires.system ∙ c.in_ok-floor.ensures.bottom in
    record {
      none = λ no. absurd (cc);
      atoms = λ _. refl;
      anew = λ _. refl;
      least = λ _. subst (IsLeast system 0) (sym row) (least_bottom system (zeros c.procs.result most_processes) c.least.new.vector (get_or-zeros c.procs.result most_processes) c.least.ensures.least);
      looks = λ _. omega (arith, c.least.ensures.looks, ap (λ (v : List ℕ). length system.pulls * (1 + sum v)) row);
    }
