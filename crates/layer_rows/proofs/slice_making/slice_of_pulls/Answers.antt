use Rattle.std.proofs.Common.{◌≡◌, ◌≤◌, List, ℕ, All, length, refl, sym, ap, subst, ◌∙◌, arith}
use Rattle.run_model.specs.Cut.{lengths}
use Rattle.pull_system.specs.declared.pull.Pull.{Pull}
use Rattle.pull_system.specs.System.{SystemView, IsSystem, IsPull}
use Rattle.pull_system.specs.Rows.{AreLeastRows}
use Rattle.slice_graph.proofs.OrderPulls.{has_order}
use Rattle.layer_rows.proofs.slice_making.slice_of_pulls.Goals as goal

pub returns : goal.returns
returns g c =
    let system : SystemView = record { lens = lengths c.args.order.now; pulls = c.in_ok-pulls.pulls } in
    let is : c.in_ok-system.system ≡ system = c.in_ok-system.ensures ∙ ap (λ (lens : List ℕ). record { lens = lens; pulls = c.in_ok-pulls.pulls }) c.shape-shape.ensures.lens in
    let fit : All (IsPull c.shape-shape.result.now) c.as_slice.result.now = c.if-not-all_fit.ensures.0 refl in
    let pulls : All (IsPull (lengths c.args.order.now)) c.in_ok-pulls.pulls =
    subst (λ (lens : List ℕ). All (IsPull lens) c.in_ok-pulls.pulls) c.shape-shape.ensures.lens (subst (All (IsPull c.shape-shape.result.now)) c.as_slice.ensures fit) in
    let count : length c.in_ok-pulls.pulls ≤ 1000000 = omega (arith, c.len.ensures, c.if-len-gt1000000.false) in
    let sys : IsSystem system = record { shape = c.shape-shape.ensures.shape; pulls = pulls; count = omega (arith, count) } in
    c.in_ok-from_rows.ensures.fits system sys refl
    (has_order c.args.order.now c.shape-shape.ensures.order system c.in_ok-pulls.ensures.0 c.in_ok-pulls.ensures.1)
    (subst (λ (s : SystemView). AreLeastRows s c.in_ok-rows.rows.words) is c.in_ok-rows.ensures.least)
