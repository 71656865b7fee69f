use Rattle.std.proofs.Common.{◌≡◌, ℕ, ◌-◌, ◌*◌, ◌≤◌, List, ◌++◌, All, length, length-append, take, sym, ◌∙◌, ap, subst, arith}
use Rattle.std.proofs.lemmas.List.Elements.{All-append}
use Rattle.pota_base.specs.Shape.{IsShape}
use Rattle.std.proofs.Math.Nat.{mul-le-mul}
use Rattle.std.proofs.Math.Seq.{take-append_seam}
use Rattle.std.proofs.lemmas.List.{length-map}
use Rattle.run_model.specs.Cut.{Clocks, lengths}
use Rattle.run_model.proofs.Counts.{length-lengths}
use Rattle.pota_base.specs.Limits.{most_processes}
use Rattle.pull_system.specs.declared.pull.Pull.{Pull}
use Rattle.pull_system.specs.System.{SystemView, IsSystem, IsPull}
use Rattle.pull_fans.specs.Fans.{pulls_of_fans}
use Rattle.slice_graph.specs.PullLists.{pulls_of_order}
use Rattle.slice_graph.proofs.OrderPulls.{order_pulls_count, order_pulls_fit}
use Rattle.rctl_parts.specs.Pieces.{piece_of, pieces_of}
use Rattle.part_pulls.specs.Observing.{clocks_seen, lens_seen}
use Rattle.part_pulls.proofs.Readings.{is_order}
use Rattle.least_holding.specs.inside.Finding.{IsLeastCut}
use Rattle.least_holding.proofs.Least.{with_parts, least_holds, bottom_holds}
use Rattle.least_holding.proofs.holding.least_holding.Goals as goal

pub with_fans-requires-clause-count : goal.with_fans-requires-clause-count
with_fans-requires-clause-count g c =
    let o = clocks_seen c.args.seen.now in
    let n = length o in
    let clocks : c.order.result.now ≡ o = c.order.ensures.order ∙ sym c.order.ensures.trace.clocks in
    let small : n ≤ most_processes = omega (arith, c.shape.ensures.shape.few, ap length c.shape.ensures.lens, ap (λ (k : Clocks). length (lengths k)) clocks, length-lengths o) in
    let less : n - 1 ≤ most_processes = omega arith in
    let square : n * (n - 1) ≤ most_processes * most_processes = mul-le-mul {n₁ = n} {m₁ = n - 1} {n₂ = most_processes} {m₂ = most_processes} small less in
    let own : length c.args.system.pulls ≡ n * (n - 1) = ap (λ (s : SystemView). length s.pulls) c.requires.system ∙ order_pulls_count o in
    let asks = c.in_ok-fans.ensures in
    omega (arith, square, own, ap length asks.is, asks.few, length-map c.args.parts.now piece_of, c.requires.few)

pub returns-clause-least : goal.returns-clause-least
returns-clause-least g c =
    let seen = c.args.seen.now in
    let o = clocks_seen seen in
    let fans = pulls_of_fans c.in_ok-fans.fans in
    let is : c.in_ok-system.system ≡ with_parts seen fans = c.in_ok-system.ensures ∙ ap (λ (s : SystemView). record s { pulls = s.pulls ++ fans }) c.requires.system in
    least_holds seen (is_order seen c.order.ensures.trace) fans (pieces_of c.args.parts.now) c.in_ok-fans.ensures c.in_ok-least.least
    (subst (λ (s : SystemView). IsLeastCut s c.in_ok-least.least) is c.in_ok-least.ensures)

pub returns-clause-system : goal.returns-clause-system
returns-clause-system g c =
    let seen = c.args.seen.now in
    let o = clocks_seen seen in
    let fans = pulls_of_fans c.in_ok-fans.fans in
    let clocks : c.order.result.now ≡ o = c.order.ensures.order ∙ sym c.order.ensures.trace.clocks in
    let is : c.in_ok-system.system ≡ with_parts seen fans = c.in_ok-system.ensures ∙ ap (λ (s : SystemView). record s { pulls = s.pulls ++ fans }) c.requires.system in
    let procs : c.procs-procs.result ≡ length o = c.procs-procs.ensures.count ∙ ap length c.shape.ensures.lens ∙ ap (λ (k : Clocks). length (lengths k)) clocks ∙ length-lengths o in
    let count : c.procs-procs.result * (c.procs-procs.result - 1) ≡ length (pulls_of_order o) = ap (λ (n : ℕ). n * (n - 1)) procs ∙ sym (order_pulls_count o) in
    let first : take (c.procs-procs.result * (c.procs-procs.result - 1)) (pulls_of_order o ++ fans) ≡ pulls_of_order o =
    ap (λ (n : ℕ). take n (pulls_of_order o ++ fans)) count ∙ take-append_seam (pulls_of_order o) fans in
    c.in_ok-system-2.ensures ∙ ap (λ (s : SystemView). record s { pulls = take (c.procs-procs.result * (c.procs-procs.result - 1)) s.pulls }) is
    ∙ ap (λ (list : List Pull). record { lens = lens_seen seen; pulls = list }) first

pub returns-clause-bottom : goal.returns-clause-bottom
returns-clause-bottom g c =
    let seen = c.args.seen.now in
    let o = clocks_seen seen in
    let n = length o in
    let order = is_order seen c.order.ensures.trace in
    let fans = pulls_of_fans c.in_ok-fans.fans in
    let asks = c.in_ok-fans.ensures in
    let is : c.in_ok-system.system ≡ with_parts seen fans = c.in_ok-system.ensures ∙ ap (λ (s : SystemView). record s { pulls = s.pulls ++ fans }) c.requires.system in
    let clocks : c.order.result.now ≡ o = c.order.ensures.order ∙ sym c.order.ensures.trace.clocks in
    let shape : IsShape (lens_seen seen) = subst (λ (k : Clocks). IsShape (lengths k)) clocks c.shape.ensures.shape in
    let small : n ≤ most_processes = omega (arith, shape.few, length-lengths o) in
    let less : n - 1 ≤ most_processes = omega arith in
    let square : n * (n - 1) ≤ most_processes * most_processes = mul-le-mul {n₁ = n} {m₁ = n - 1} {n₂ = most_processes} {m₂ = most_processes} small less in
    let fit : All (IsPull (lens_seen seen)) fans = subst (λ (list : List Pull). All (IsPull (lens_seen seen)) list) (sym asks.is) asks.fit in
    let system : IsSystem (with_parts seen fans) = record {
      shape = shape;
      pulls = All-append (IsPull (lens_seen seen)) (pulls_of_order o) fans (order_pulls_fit o order) fit;
      count = omega (arith, length-append (pulls_of_order o) fans, square, order_pulls_count o, ap length asks.is, asks.few, length-map c.args.parts.now piece_of, c.requires.few);
    } in
    bottom_holds seen order fans (pieces_of c.args.parts.now) asks system c.in_ok-least.least
    (least_holds seen order fans (pieces_of c.args.parts.now) asks c.in_ok-least.least (subst (λ (s : SystemView). IsLeastCut s c.in_ok-least.least) is c.in_ok-least.ensures))
