-- The next line of the nodes, and that fewer are left behind it.
use Rattle.std.proofs.Common.{◌≡◌, ℕ, ◌+◌, ◌-◌, ◌*◌, ◌<◌, ◌≤◌, Bool, List, length, sum, Option, None, Some, sym, ap, subst, ◌∙◌, arith, rules, refl}
use Rattle.std.specs.Prelude.{option_map}
use Rattle.run_model.specs.Cut.{Clocks, lengths}
use Rattle.pull_system.specs.System.{SystemView}
use Rattle.slice_graph.specs.Views.{SliceView}
use Rattle.certificate_lines.specs.declared.line.Line.{Line}
use Rattle.certificate_lines.specs.declared.line.Line.TheVariants.{Node, Row, Raise, Verdict}
use Rattle.certificate_table.specs.Begun.{BegunView, AreCertified, fresh_rows}
use Rattle.certificate_raises.specs.Canonical.{left_of, most_of}
use Rattle.certificate_raises.proofs.Ending.{raise_leaves, row_leaves}
use Rattle.certificate_raises.proofs.Following.{raise_follows}
use Rattle.certificate_nodes.specs.declared.plan.Plan.{Plan}
use Rattle.certificate_nodes.specs.Given.{IsEnded}
use Rattle.certificate_nodes.specs.Plans.{system_at}
use Rattle.certificate_nodes.specs.Nodes.{NodesView, OfPresent, AreNodes, IsPresent, MayBeginNode, MayBeginRow, MayRaiseRow, BeginsNode, MayConclude, nodes_begun, present_count, with_present}
use Rattle.certificate_nodes.proofs.Keeping.{given_after}
use Rattle.certificate_canonical.specs.Canonical.{IsNext, IsNextRow, IsNextRaise}
use Rattle.certificate_canonical.proofs.Following.{line_follows, row_may_begin}
use Rattle.certificate_next_line.specs.Coming.{most_rows, rows_left, lines_left}
use Rattle.certificate_next_line.specs.inside.Coming.{IsNextOfRows, with_line}

-- ---- lines of rows

abbrev NextOfPresent : Option BegunView → Line → Type 0
NextOfPresent there line = OfPresent (λ rows. IsNextOfRows rows line) there

no-rows : (there : Option BegunView) → OfPresent (λ rows. ⊥) there → ⊥
no-rows None h = h
no-rows (Some rows) h = h

pub of_rows : (v : NodesView) (line : Line) → NextOfPresent v.present line → IsNext v line (with_present v (λ rows. with_line rows line))
of_rows v (Node number) h = absurd (no-rows v.present h)
of_rows v (Row row other) h = (h, refl)
of_rows v (Raise k x) h = (h, refl)
of_rows v (Verdict told) h = absurd (no-rows v.present h)

pub may_begin : (v : NodesView) (row : ℕ) (other : Option ℕ) → NextOfPresent v.present (Row row other) → MayBeginRow v row other
may_begin v row other h = (line_follows v (Row row other) _ (of_rows v (Row row other) h)).0

pub may_raise : (v : NodesView) (k x : ℕ) → NextOfPresent v.present (Raise k x) → MayRaiseRow v k x
may_raise v k x h = (line_follows v (Raise k x) _ (of_rows v (Raise k x) h)).0

pub no_node : (v : NodesView) (number : ℕ) → NextOfPresent v.present (Node number) → ⊥
no_node v number h = no-rows v.present h

pub no_verdict : (v : NodesView) (told : Bool) → NextOfPresent v.present (Verdict told) → ⊥
no_verdict v told h = no-rows v.present h

-- the line is that of the rows that are present
pub of_these : (there : Option BegunView) (rows : BegunView) (line : Line) → there ≡ Some rows → IsNextOfRows rows line → NextOfPresent there line
of_these there rows line e h = subst (λ (p : Option BegunView). NextOfPresent p line) (sym e) h

-- ---- fewer are left

left-less : (rows : BegunView) → AreCertified rows → (line : Line) → IsNextOfRows rows line → left_of (with_line rows line) < left_of rows
left-less rows is (Node number) h = absurd h
left-less rows is (Row row other) h = row_leaves rows row other (row_may_begin rows row other h)
left-less rows is (Raise k x) h = raise_leaves rows is k x (raise_follows rows k x h.begun h.first)
left-less rows is (Verdict told) h = absurd h

left-less-of : (o : Clocks) (plan : Plan) (slices : List SliceView) (there : Option BegunView) → IsPresent o plan slices there → (line : Line) → NextOfPresent there line
    → lines_left (record { order = o; plan = plan; slices = slices; present = option_map (λ rows. with_line rows line) there }) < lines_left (record { order = o; plan = plan; slices = slices; present = there })
left-less-of o plan slices None here line h = absurd h
left-less-of o plan slices (Some rows) here line h = omega (arith, left-less rows here.2 line h)

pub rows_less : (v : NodesView) → AreNodes v → (line : Line) → NextOfPresent v.present line → lines_left (with_present v (λ rows. with_line rows line)) < lines_left v
rows_less v nodes line h = left-less-of v.order v.plan v.slices v.present nodes.present line h

fresh-left : (system : SystemView) → left_of (fresh_rows system) ≤ most_rows system.lens
fresh-left system =
    let same : (sum system.lens + 1 - 0) * (most_of system.lens + 1) ≡ (sum system.lens + 1) * (most_of system.lens + 1) = ap (λ (n : ℕ). n * (most_of system.lens + 1)) (omega arith) in
    omega (arith, same)

less-by-one : (all begun most : ℕ) (before left : ℕ) → begun + 1 ≤ all → left < most → (all - (begun + 1)) * most + left < (all - begun) * most + before
less-by-one all begun most before left there few =
    let n = all - (begun + 1) in
    let one : all - begun ≡ n + 1 = omega (arith, there) in
    let product : (n + 1) * most ≡ n * most + most = search rules in
    let first : (all - begun) * most ≡ n * most + most = ap (λ (m : ℕ). m * most) one ∙ product in
    omega (arith, first, few)

pub node_less : (v after : NodesView) (number : ℕ) → AreNodes v → MayBeginNode v number → BeginsNode v after → lines_left after < lines_left v
node_less v after number nodes may begins =
    let system : SystemView = system_at v.order v.plan after.slices (length after.slices) in
    let now : NodesView = record { order = v.order; plan = v.plan; slices = after.slices; present = Some (fresh_rows system) } in
    let same : now ≡ after = sym (λ j. record { order = begins.order j; plan = begins.plan j; slices = after.slices; present = begins.present j }) in
    let count : length after.slices ≡ nodes_begun v = (given_after v nodes after.slices begins.gives).1 in
    let left : lines_left now ≡ (length v.plan.nodes - (nodes_begun v + 1)) * (most_rows (lengths v.order) + 1) + left_of (fresh_rows system) =
    ap (λ (n : ℕ). (length v.plan.nodes - (n + 1)) * (most_rows (lengths v.order) + 1) + left_of (fresh_rows system)) count in
    let less = less-by-one (length v.plan.nodes) (nodes_begun v) (most_rows (lengths v.order) + 1) (rows_left v.present) (left_of (fresh_rows system)) (omega (arith, may.next, may.there)) (omega (arith, fresh-left system)) in
    subst (λ (u : NodesView). lines_left u < lines_left v) same (subst (λ (n : ℕ). n < lines_left v) (sym left) less)

-- ---- all nodes were begun

few-of : (o : Clocks) (plan : Plan) (slices : List SliceView) (there : Option BegunView) → length slices ≤ length plan.nodes → IsPresent o plan slices there → length slices + present_count there ≤ length plan.nodes
few-of o plan slices None few here = omega (arith, few)
few-of o plan slices (Some rows) few here = omega (arith, here.0)

pub all_begun : (v : NodesView) (number : ℕ) → AreNodes v → IsEnded v.present → number ≡ nodes_begun v + 1 → (MayBeginNode v number → ⊥) → MayConclude v
all_begun v number nodes ended next none = record { all = grind (arith, few, more); ended = ended }
  where
    few : nodes_begun v ≤ length v.plan.nodes
    few = few-of v.order v.plan v.slices v.present nodes.given.few nodes.present

    more : number ≤ length v.plan.nodes → ⊥
    more there = none (record { next = next; there = there; ended = ended })
