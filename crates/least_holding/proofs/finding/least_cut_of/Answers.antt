use Rattle.std.proofs.Common.{ℕ, ◌≡◌, List, length, replicate, take, drop, ◌++◌, ap, sym, ◌∙◌, subst}
use Rattle.std.proofs.Math.Seq.{take-append_seam}
use Rattle.pull_system.specs.System.{IsLeastFrom}
use Rattle.pull_system.specs.Rows.{start_of}
use Rattle.slice_graph.specs.Fitting.{IsCutOfVector}
use Rattle.least_holding.proofs.Least.{start_zeros}
use Rattle.least_holding.proofs.finding.least_cut_of.Goals as goal

pub returns : goal.returns
returns g c =
    let system = c.args.system.now in
    let vector = c.least.new.vector in
    let items = c.in_ok-vector.vector.items in
    let procs : c.procs.result ≡ length system.lens = c.procs.ensures.count ∙ ap length c.shape-shape.ensures.shape in
    let start : c.as_mut_slice.result.now ≡ start_of system.lens 0 =
    c.as_mut_slice.ensures.value ∙ c.in_ok-vector.ensures.items_if_clones_equal (λ y is. is) ∙ ap (λ (n : ℕ). replicate n 0) procs ∙ sym (start_zeros system.lens) in
    let size : c.in_ok-vector.vector.len ≡ length vector = c.in_ok-vector.ensures.len ∙ procs ∙ sym c.least.ensures.least.closed.vector.size in
    let back : take c.in_ok-vector.vector.len (vector ++ drop (length vector) items) ≡ vector =
    ap (λ (n : ℕ). take n (vector ++ drop (length vector) items)) size ∙ take-append_seam vector (drop (length vector) items) in
    record {
      vector = vector;
      least = subst (λ (s : List ℕ). IsLeastFrom system s vector) start c.least.ensures.least;
      kept = subst (λ (lens : List ℕ). IsCutOfVector lens vector c.in_ok-cut.cut) c.shape-shape.ensures.shape
          (subst (λ (v : List ℕ). IsCutOfVector c.shape-shape.result.now v c.in_ok-cut.cut) (c.as_slice.ensures.value ∙ back) c.in_ok-cut.ensures);
    }
