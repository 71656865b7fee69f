use Rattle.std.proofs.Common.{◌≡◌, ℕ, ◌-◌, ◌*◌, List, length, take, sym, ◌∙◌, ap, subst}
use Rattle.std.specs.Prelude.{IfSome}
use Rattle.std.proofs.Math.Seq.{take-append_seam}
use Rattle.run_model.specs.Cut.{lengths}
use Rattle.run_model.proofs.Counts.{length-lengths}
use Rattle.causal_order.proofs.Growing.{grown_none}
use Rattle.pull_system.specs.declared.pull.Pull.{Pull}
use Rattle.pull_system.specs.System.{SystemView}
use Rattle.slice_graph.specs.PullLists.{pulls_of_order}
use Rattle.slice_graph.proofs.OrderPulls.{order_pulls_count}
use Rattle.slice_graph.specs.Growing.{IsEarlierSystem, system_of_order}
use Rattle.conjunctions.specs.Rounds.{RoundView}
use Rattle.conjunctions.proofs.systems.give_back.Goals as goal

pub returns-clause-order : goal.returns-clause-order
returns-clause-order c =
    let o = c.args.order.now in
    let first = c.requires.first c.if-has_order.false in
    let procs : c.procs-procs.result ≡ length o = c.procs-procs.ensures.count ∙ ap length c.shape.ensures.lens ∙ length-lengths o in
    let count : c.procs-procs.result * (c.procs-procs.result - 1) ≡ length (pulls_of_order o) = ap (λ (n : ℕ). n * (n - 1)) procs ∙ sym (order_pulls_count o) in
    let pulls : take (c.procs-procs.result * (c.procs-procs.result - 1)) c.args.system.pulls ≡ pulls_of_order o =
    ap (λ (n : ℕ). take n c.args.system.pulls) count ∙ ap (λ (list : List Pull). take (length (pulls_of_order o)) list) first.is ∙ take-append_seam (pulls_of_order o) first.others in
    let by_lens : List ℕ → SystemView = λ lens. record { lens = lens; pulls = take (c.procs-procs.result * (c.procs-procs.result - 1)) c.args.system.pulls } in
    let by_pulls : List Pull → SystemView = λ list. record { lens = lengths o; pulls = list } in
    let is : c.in_ok-system.system ≡ system_of_order o = c.in_ok-system.ensures ∙ ap by_lens c.requires.lens ∙ ap by_pulls pulls in
    record { own = subst (λ (r : RoundView). IfSome r.system (IsEarlierSystem o)) (sym c.leave_system.ensures) (record { before = o; grown = grown_none o; is = is }) }
