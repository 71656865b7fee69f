-- The systems of a plan's conjunctions are systems.
use Rattle.std.proofs.Common.{◌≡◌, ℕ, ◌-◌, ◌*◌, ◌≤◌, List, [], ◌∷◌, ◌++◌, length, flat_map, All, sym, ap, subst, arith}
use Rattle.std.proofs.Math.Nat.{mul-le-mul_right}
use Rattle.std.proofs.lemmas.List.{length-append}
use Rattle.std.proofs.lemmas.List.Concat.{flat_map-cons}
use Rattle.std.proofs.lemmas.List.Elements.{All-nil, All-append, All-head, All-tail}
use Rattle.pota_base.specs.Shape.{IsShape}
use Rattle.run_model.specs.Cut.{Clocks, lengths}
use Rattle.run_model.specs.Consistent.{IsOrder}
use Rattle.run_model.proofs.Counts.{length-lengths}
use Rattle.pota_base.specs.Limits.{most_processes}
use Rattle.pull_system.specs.declared.pull.Pull.{Pull}
use Rattle.pull_system.specs.System.{IsPull, IsSystem}
use Rattle.slice_graph.specs.Views.{SliceView, HasAllRows}
use Rattle.slice_graph.specs.Fitting.{FitsOrder}
use Rattle.slice_graph.specs.PullLists.{pulls_of_order, pulls_of_slice}
use Rattle.slice_graph.proofs.OrderPulls.{order_pulls_fit, order_pulls_count}
use Rattle.slice_graph.proofs.SlicePulls.{slice_pulls_fit, slice_pulls_count}
use Rattle.temporal_slice.specs.NextPulls.{pulls_of_next}
use Rattle.temporal_slice.proofs.NextPulls.{next_pulls_fit, next_pulls_count}
use Rattle.rctl_grammar.specs.declared.tree.Operator.{Operator}
use Rattle.rctl_grammar.specs.declared.tree.Operator.TheVariants as operator
use Rattle.certificate_nodes.specs.declared.plan.Asked.{Asked}
use Rattle.certificate_nodes.specs.declared.plan.Asked.TheVariants as asked
use Rattle.certificate_nodes.specs.declared.plan.Plan.{Plan}
use Rattle.certificate_nodes.specs.Plans.{node_at, slice_at, pulls_given, pulls_asked, system_of, FitsPart, AreParts}
use Rattle.certificate_nodes.specs.Given.{AreGiven}

-- ---- what a slice gives

square_few : (n : ℕ) → n ≤ most_processes → n * n ≤ 1024
square_few n few = omega (arith, few, mul-le-mul_right n few)

own_fits : (o : Clocks) (slice : SliceView) → IsShape (lengths o) → FitsOrder o slice → HasAllRows slice → All (IsPull (lengths o)) (pulls_of_slice slice) × (length (pulls_of_slice slice) ≤ 1024)
own_fits o slice shape fits rows = (
  subst (λ (lens : List ℕ). All (IsPull lens) (pulls_of_slice slice)) fits.shape (slice_pulls_fit o slice fits rows),
  omega (arith, slice_pulls_count slice, square_few (length slice.lens) (omega (arith, ap (λ (lens : List ℕ). length lens) fits.shape, shape.few))),
)

next_fits : (o : Clocks) (slice : SliceView) (process : ℕ) → IsShape (lengths o) → FitsOrder o slice → HasAllRows slice → All (IsPull (lengths o)) (pulls_of_next slice process) × (length (pulls_of_next slice process) ≤ 1024)
next_fits o slice process shape fits rows = (
  subst (λ (lens : List ℕ). All (IsPull lens) (pulls_of_next slice process)) fits.shape (next_pulls_fit o slice fits rows process),
  omega (arith, next_pulls_count slice process, square_few (length slice.lens) (omega (arith, ap (λ (lens : List ℕ). length lens) fits.shape, shape.few))),
)

given_fits : (o : Clocks) (kind : Operator) (slice : SliceView) → IsShape (lengths o) → FitsOrder o slice → HasAllRows slice → All (IsPull (lengths o)) (pulls_given kind slice) × (length (pulls_given kind slice) ≤ 1024)
given_fits o operator.Ef slice shape fits rows = own_fits o slice shape fits rows
given_fits o operator.Ag slice shape fits rows = own_fits o slice shape fits rows
given_fits o operator.Eg slice shape fits rows = own_fits o slice shape fits rows
given_fits o (operator.Ex process) slice shape fits rows = next_fits o slice process shape fits rows
given_fits o operator.Af slice shape fits rows = own_fits o slice shape fits rows
given_fits o operator.Ax slice shape fits rows = own_fits o slice shape fits rows

-- ---- what the parts ask

part_fits : (o : Clocks) (plan : Plan) (slices : List SliceView) → IsShape (lengths o) → AreGiven o plan slices → (part : Asked) → FitsPart (lengths o) (length slices) part
    → All (IsPull (lengths o)) (pulls_asked plan slices part) × (length (pulls_asked plan slices part) ≤ 1024)
part_fits o plan slices shape given (asked.Own pulls) fits = (fits.0, omega (arith, fits.1))
part_fits o plan slices shape given (asked.Inner number) fits =
    let here = given.each number fits in given_fits o (node_at plan number).operator (slice_at slices number) shape here.fits here.rows

parts_fit : (o : Clocks) (plan : Plan) (slices : List SliceView) → IsShape (lengths o) → AreGiven o plan slices → (parts : List Asked) → All (FitsPart (lengths o) (length slices)) parts
    → All (IsPull (lengths o)) (flat_map (pulls_asked plan slices) parts) × (length (flat_map (pulls_asked plan slices) parts) ≤ length parts * 1024)
parts_fit o plan slices shape given [] all = (All-nil (IsPull (lengths o)), omega arith)
parts_fit o plan slices shape given (part ∷ parts) all =
    let f : Asked → List Pull = pulls_asked plan slices in
    let one = part_fits o plan slices shape given part (All-head (FitsPart (lengths o) (length slices)) part parts all) in
    let rest = parts_fit o plan slices shape given parts (All-tail (FitsPart (lengths o) (length slices)) part parts all) in
    let is : flat_map f (part ∷ parts) ≡ f part ++ flat_map f parts = flat_map-cons f part parts in (
      subst (All (IsPull (lengths o))) (sym is) (All-append (IsPull (lengths o)) (f part) (flat_map f parts) one.0 rest.0),
      omega (arith, ap (λ (pulls : List Pull). length pulls) is, length-append (f part) (flat_map f parts), one.1, rest.1),
    )

-- ---- systems

order_few : (o : Clocks) → IsShape (lengths o) → length (pulls_of_order o) ≤ 1024
order_few o shape =
    let few : length o ≤ most_processes = omega (arith, shape.few, length-lengths o) in
    omega (arith, few, order_pulls_count o, mul-le-mul_right (length o - 1) few)

pub system_is : (o : Clocks) → IsOrder o → IsShape (lengths o) → (plan : Plan) (slices : List SliceView) → AreGiven o plan slices → (parts : List Asked) → AreParts (lengths o) (length slices) parts
    → IsSystem (system_of o plan slices parts)
system_is o order shape plan slices given parts are =
    let all = parts_fit o plan slices shape given parts are.each in record {
      shape = shape;
      pulls = All-append (IsPull (lengths o)) (pulls_of_order o) (flat_map (pulls_asked plan slices) parts) (order_pulls_fit o order) all.0;
      count = omega (arith, length-append (pulls_of_order o) (flat_map (pulls_asked plan slices) parts), order_few o shape, all.1, are.few);
    }
