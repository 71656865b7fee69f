use Rattle.std.proofs.Common.{◌≡◌, ℕ, List, length, replicate, take, sym, ap, ◌∙◌, subst, arith}
use Rattle.run_model.specs.Cut.{initial, lengths}
use Rattle.run_model.proofs.Counts.{length-lengths}
use Rattle.pota_base.specs.Limits.{most_processes}
use Rattle.pull_system.specs.System.{SystemView, IsClosed}
use Rattle.pull_system.specs.Vector.{IsVector}
use Rattle.certificate_nodes.proofs.Sliced.{initial_vector, zeros_initial}
use Rattle.certificate_nodes.proofs.conclusion.closes.Goals as goal

pub is_closed-requires : goal.is_closed-requires
is_closed-requires g c =
    let o = c.args.order.now in
    let n = c.procs-procs.result in
    let size : n ≡ length o = c.procs-procs.ensures.count ∙ ap (λ (lens : List ℕ). length lens) c.shape.ensures.lens ∙ length-lengths o in
    let same : take {A = ℕ} n (replicate most_processes 0) ≡ initial o = zeros_initial o n size (omega (arith, c.procs-procs.ensures.count, c.procs-procs.ensures.shape.few)) in
    subst (λ (s : SystemView). IsVector s.lens (take {A = ℕ} n (replicate most_processes 0))) (sym c.in_ok-system.ensures) (subst (λ (v : List ℕ). IsVector (lengths o) v) (sym same) (initial_vector o))

pub returns-clause-truth : goal.returns-clause-truth
returns-clause-truth g c =
    let o = c.args.order.now in
    let n = c.procs-procs.result in
    let size : n ≡ length o = c.procs-procs.ensures.count ∙ ap (λ (lens : List ℕ). length lens) c.shape.ensures.lens ∙ length-lengths o in
    let same : take {A = ℕ} n (replicate most_processes 0) ≡ initial o = zeros_initial o n size (omega (arith, c.procs-procs.ensures.count, c.procs-procs.ensures.shape.few)) in
    let told = c.is_closed.ensures.closed in (
      λ h. subst (λ (s : SystemView). IsClosed s (initial o)) c.in_ok-system.ensures (subst (λ (v : List ℕ). IsClosed c.in_ok-system.system v) same (told.0 h)),
      λ h. told.1 (subst (λ (v : List ℕ). IsClosed c.in_ok-system.system v) (sym same) (subst (λ (s : SystemView). IsClosed s (initial o)) (sym c.in_ok-system.ensures) h)),
    )
