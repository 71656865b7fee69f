use Rattle.std.proofs.Common.{rules, arith, refl, ap, ◌≡◌, ◌+◌, ◌<◌, ◌≤◌, ◌∙◌, ℕ, List, length, get_or}
use Rattle.std.proofs.lemmas.List.{length-set}
use Rattle.pull_system.specs.System.{SystemView}
use Rattle.pull_fans.proofs.Asking.{pulls_from_few}
use Rattle.bound_table.proofs.Floors.{within_one}
use Rattle.bound_table.proofs.Settling.{settling_trans, settling_again, settling_rises}
use Rattle.bound_table.proofs.Seeing.{hold_none, hold_put, put_next, within_first, first_more, hold_upto}
use Rattle.bound_table.proofs.table.BoundTable.ask_all.Goals as goal

pub loop-process-init : goal.loop-process-init
loop-process-init g c = record {
  settling = c.requires.settling;
  size = c.requires.seen;
  within = λ p below. absurd (omega arith);
  held = hold_none _ _ _;
  reaches = λ p below. absurd (omega arith);
  looks = search rules;
}

pub ask_from-requires-clause-settling : goal.ask_from-requires-clause-settling
ask_from-requires-clause-settling g c =
    settling_again _ _ _ _ _ c.loop-process.invariant.settling

pub loop-process-preserved : goal.loop-process-preserved
loop-process-preserved g c =
    let system : SystemView = c.args.self.now.system in
    let inv = c.loop-process.invariant in
    let process : ℕ = c.loop-process.process in
    let vector : List ℕ = c.loop-process.vector in
    let there : process < length system.lens = search rules in
    let x : ℕ = get_or vector process 0 in
    let before = settling_rises _ _ _ _ _ c.args.vector.now vector c.requires.settling inv.settling in
    let rises = settling_rises _ _ _ _ _ vector c.ask_from.new.vector inv.settling c.ask_from.ensures.settling in
    let seen_there : process < length c.loop-process.seen = omega (arith, inv.size) in record {
      settling = settling_trans _ _ _ _ _ _ _ inv.settling c.ask_from.ensures.settling;
      size = length-set c.loop-process.seen process x ∙ inv.size;
      within = put_next (λ i n. n ≤ get_or c.ask_from.new.vector i 0) c.loop-process.seen _ process x seen_there refl (λ i below. omega (arith, inv.within i below, rises.each i)) (rises.each process);
      held = hold_put system process (process + 1) process x c.loop-process.seen _ vector _ inv.held rises seen_there refl c.ask_from.ensures.holds (λ p below. within_one p process below);
      reaches = put_next (λ i n. get_or c.args.vector.now i 0 ≤ n) c.loop-process.seen _ process x seen_there refl inv.reaches (before.each process);
      looks = omega (arith, inv.looks, c.ask_from.ensures.looks, first_more system.pulls (length system.pulls) process);
    }

pub returns-clause-asking : goal.returns-clause-asking
returns-clause-asking g c =
    let end : c.procs-process-end.result ≡ length c.args.self.now.system.lens = c.procs-process-end.ensures.count ∙ ap length (c.shape.ensures.shape ∙ ap (λ s. s.lens) c.system.ensures) in
    let inv = c.loop-process.invariant in record {
      settling = inv.settling;
      size = inv.size;
      within = within_first _ _ c.loop-process.process (omega (arith, inv.size)) inv.within;
      held = hold_upto c.args.self.now.system c.loop-process.process _ _ _ (omega arith) inv.held;
    }

pub returns-clause-reaches : goal.returns-clause-reaches
returns-clause-reaches g c =
    let end : c.procs-process-end.result ≡ length c.args.self.now.system.lens = c.procs-process-end.ensures.count ∙ ap length (c.shape.ensures.shape ∙ ap (λ s. s.lens) c.system.ensures) in
    within_first _ _ c.loop-process.process (omega (arith, c.requires.settling.follows.size)) c.loop-process.invariant.reaches

pub returns-clause-looks : goal.returns-clause-looks
returns-clause-looks g c =
    let system : SystemView = c.args.self.now.system in
    omega (arith, c.loop-process.invariant.looks, pulls_from_few system.pulls (length system.pulls) c.loop-process.process)
