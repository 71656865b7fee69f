use Rattle.std.proofs.Common.{rules, arith, ap, ◌≡◌, ◌≤◌, ◌<◌, ◌∙◌, ℕ, length, get_or, refl}
use Rattle.pull_system.specs.System.{SystemView}
use Rattle.bound_table.proofs.Allowed.{lend_allowed}
use Rattle.bound_table.proofs.Moves.{few_words}
use Rattle.bound_table.proofs.Lends.{may_lend_more}
use Rattle.bound_table.proofs.Seeing.{settling_raised, raised_small, raised_within_floor, put_next, within_first}
use Rattle.bound_table.proofs.table.BoundTable.lend_row.Goals as goal

pub loop-process-init : goal.loop-process-init
loop-process-init c = record {
  settling = c.requires.settling;
  lent = c.requires.lent;
  reaches = λ p below. absurd (omega arith);
}

pub overflow_add-word : goal.overflow_add-word
overflow_add-word c =
    let system : SystemView = c.args.self.now.system in
    let there : c.loop-process.process < length system.lens = search rules in
    omega (arith, there, c.begin-begin.ensures.there, few_words system.lens c.requires.settling.system.shape)

pub raise_by_lend-became-requires-clause-found : goal.raise_by_lend-became-requires-clause-found
raise_by_lend-became-requires-clause-found c =
    c.loop-process.invariant.settling.follows.each c.loop-process.process (search rules)

pub raise_by_lend-became-requires-clause-step : goal.raise_by_lend-became-requires-clause-step
raise_by_lend-became-requires-clause-step c =
    let system : SystemView = c.args.self.now.system in
    let lent = c.loop-process.invariant.lent in
    let process : ℕ = c.loop-process.process in
    let there : process < length system.lens = search rules in
    lend_allowed system c.loop-process.seat.floor c.args.row c.args.before process _ c.requires.settling.there lent.there there (lent.reached process there) lent.event

pub overflow_cast-vector : goal.overflow_cast-vector
overflow_cast-vector c =
    let settling = c.requires.settling in
    omega (arith, raised_small c.args.self.now.system settling.system _ _ c.args.row c.loop-process.process _ _ settling.there (search rules) c.raise_by_lend-became.ensures.raised)

pub loop-process-preserved : goal.loop-process-preserved
loop-process-preserved c =
    let system : SystemView = c.args.self.now.system in
    let inv = c.loop-process.invariant in
    let process : ℕ = c.loop-process.process in
    let there : process < length system.lens = search rules in
    let raise = c.raise_by_lend-became.ensures in record {
      settling = settling_raised _ c.args.row process _ c.raise_by_lend-became.result _ _ _ _ _ inv.settling there raise.keeps raise.raised refl;
      lent = may_lend_more system.lens _ _ c.args.before c.args.row _ (raised_within_floor system _ _ c.args.row process _ _ raise.raised) inv.lent;
      reaches = put_next (λ i n. get_or c.args.lent.now i 0 ≤ n) _ _ process c.raise_by_lend-became.result (omega (arith, inv.settling.follows.size)) refl inv.reaches raise.raised.reaches;
    }

pub returns-clause-reaches : goal.returns-clause-reaches
returns-clause-reaches c =
    let end : c.procs-procs.result ≡ length c.args.self.now.system.lens = c.procs-procs.ensures.count ∙ ap length (c.shape.ensures.shape ∙ ap (λ s. s.lens) c.system.ensures) in
    within_first _ _ c.loop-process.process (omega (arith, c.requires.lent.size)) c.loop-process.invariant.reaches
