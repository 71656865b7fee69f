use Rattle.std.proofs.Common.{ℕ, List, sym, subst}
use Rattle.run_model.specs.Cut.{Cut}
use Rattle.run_model.specs.Consistent.{IsConsistent}
use Rattle.run_model.specs.Slice.{Cuts}
use Rattle.pull_system.specs.System.{SystemView}
use Rattle.pull_system.specs.Rows.{AreLeastRows}
use Rattle.slice_graph.specs.Views.{slice_of}
use Rattle.slice_graph.specs.Fitting.{ClosedCuts}
use Rattle.certificate_table.proofs.Keeping.{whole_least}
use Rattle.certificate_nodes.proofs.Sliced.{sliced_same}
use Rattle.certificate_nodes.proofs.giving.slice_given.Goals as goal

pub sliced_by-requires-clause-fits : goal.sliced_by-requires-clause-fits
sliced_by-requires-clause-fits c =
    let system : SystemView = c.args.rows.now.system in
    let certified = c.system-system.ensures.certified in
    let least = subst (λ (words : List ℕ). AreLeastRows system words) (sym c.rows.ensures.words) (whole_least c.args.rows.now certified c.requires.whole) in
    c.in_ok-closed.ensures.fits system certified.system c.requires.lens c.requires.order least

pub returns : goal.returns
returns c =
    let o = c.args.order.now in
    let system : SystemView = c.args.rows.now.system in
    let certified = c.system-system.ensures.certified in
    let least = subst (λ (words : List ℕ). AreLeastRows system words) (sym c.rows.ensures.words) (whole_least c.args.rows.now certified c.requires.whole) in
    let closed = c.in_ok-closed.ensures.cuts system certified.system c.requires.lens c.requires.order least in
    let to : (d : Cut) → IsConsistent o d → Cuts o (slice_of c.in_ok-closed.closed) d → ClosedCuts o system d = λ d is h. (is, (closed d is).0 h) in
    let from : (d : Cut) → IsConsistent o d → ClosedCuts o system d → Cuts o (slice_of c.in_ok-closed.closed) d = λ d is h. (closed d is).1 h.1 in
    record {
      rows = c.shape-shape.ensures.rows;
      fits = c.in_ok-slice.ensures.fits;
      cuts = λ cut is.
          let same = c.in_ok-slice.ensures.cuts cut is in (
            λ h. sliced_same o c.args.operator (Cuts o (slice_of c.in_ok-closed.closed)) (ClosedCuts o system) to cut is (same.0 h),
            λ h. same.1 (sliced_same o c.args.operator (ClosedCuts o system) (Cuts o (slice_of c.in_ok-closed.closed)) from cut is h),
          );
    }
