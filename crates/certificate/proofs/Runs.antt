-- A certificate that is accepted tells the truth of its formula.
use Rattle.std.proofs.Common.{◌≡◌, ℕ, Bool, List, [], ◌∷◌, length, sym, ◌∙◌, ap, subst}
use Rattle.std.specs.Prelude.{◌↔◌, IsTrue}
use Rattle.run_model.specs.Cut.{Clocks, initial}
use Rattle.run_model.specs.Meaning.{Sat}
use Rattle.trace_growth.specs.Growing.{IsTrace}
use Rattle.slice_graph.specs.Views.{SliceView}
use Rattle.rctl_parts.specs.Pieces.{Piece}
use Rattle.rctl_parts.specs.MadeFor.{AllFit}
use Rattle.rctl_parts.specs.Spelled.{disjunction_of}
use Rattle.part_pulls.specs.declared.observed.Observed.{Observed}
use Rattle.part_pulls.specs.Observing.{Reading, AreAnswers, clocks_seen, run_seen, names_seen, scope_seen}
use Rattle.part_pulls.specs.Counters.{CountersRise}
use Rattle.certificate_lines.specs.declared.line.Line.{Line}
use Rattle.certificate_lines.specs.declared.line.Line.TheVariants as line
use Rattle.certificate_text.specs.Taking.{AreAccepted, fresh}
use Rattle.certificate_text.specs.Running.{AllFollow, AreNodesAndVerdict}
use Rattle.certificate_text.proofs.Accepting.{accepted_run}
use Rattle.certificate_nodes.specs.declared.plan.Plan.{Plan}
use Rattle.certificate_nodes.specs.Given.{AreGiven, SomeCloses}
use Rattle.certificate_nodes.specs.Nodes.{NodesView, AreNodes, MayConclude, Concludes, fresh_nodes}
use Rattle.certificate_nodes.proofs.Keeping.{node_keeps, begun_keeps, raised_keeps, verdict_keeps, given_after}
use Rattle.certificate.specs.Numbering.{plan_of}
use Rattle.certificate.specs.Following.{Follows}
use Rattle.certificate.proofs.Disjuncts.{conclusion_true}

-- what lines leave is of the same run and plan
record Kept (v after : NodesView) : Type 0 where
  pub nodes : AreNodes after
  pub order : after.order ≡ v.order
  pub plan : after.plan ≡ v.plan

line_keeps : (v : NodesView) (said : Line) (after : NodesView) → AreNodes v → Follows v said after → Kept v after
line_keeps v (line.Node number) after is h = record { nodes = node_keeps v after number is h.0 h.1; order = h.1.order; plan = h.1.plan }
line_keeps v (line.Row row other) after is h =
    record { nodes = subst AreNodes (sym h.1) (begun_keeps v row other is h.0); order = ap (λ (u : NodesView). u.order) h.1; plan = ap (λ (u : NodesView). u.plan) h.1 }
line_keeps v (line.Raise k x) after is h =
    record { nodes = subst AreNodes (sym h.1) (raised_keeps v k x is h.0); order = ap (λ (u : NodesView). u.order) h.1; plan = ap (λ (u : NodesView). u.plan) h.1 }
line_keeps v (line.Verdict told) after is h = record { nodes = verdict_keeps v after told is h.0 h.1; order = h.1.order; plan = h.1.plan }

lines_keep : (v : NodesView) (lines : List Line) (after : NodesView) → AreNodes v → AllFollow Follows v lines after → Kept v after
lines_keep v [] after is h = record { nodes = subst AreNodes (sym h) is; order = ap (λ (u : NodesView). u.order) h; plan = ap (λ (u : NodesView). u.plan) h }
lines_keep v (said ∷ rest) after is (mid, first, others) =
    let one = line_keeps v said mid is first in
    let kept = lines_keep mid rest after one.nodes others in record { nodes = kept.nodes; order = kept.order ∙ one.order; plan = kept.plan ∙ one.plan }

-- the verdict is told by the slices of all nodes
record Told (o : Clocks) (plan : Plan) (told : Bool) : Type 0 where
  pub slices : List SliceView
  pub given : AreGiven o plan slices
  pub all : length slices ≡ length plan.nodes
  pub truth : IsTrue told ↔ SomeCloses o plan slices

verdict_told : (mid after : NodesView) (told : Bool) → AreNodes mid → MayConclude mid → Concludes mid after told → Told mid.order mid.plan told
verdict_told mid after told is may ends =
    let given = given_after mid is after.slices ends.gives in record { slices = after.slices; given = given.0; all = given.1 ∙ may.all; truth = ends.truth }

run_told : (v : NodesView) (lines : List Line) (told : Bool) → AreNodes v → AreNodesAndVerdict Follows v lines told → Told v.order v.plan told
run_told v lines told is run =
    let kept = lines_keep v run.body run.mid is run.all in
    subst (λ (o : Clocks). Told o v.plan told) kept.order
    (subst (λ (plan : Plan). Told run.mid.order plan told) kept.plan (verdict_told run.mid run.after told kept.nodes run.verdict.0 run.verdict.1))

pub accepted_true : (seen : Observed) (ds : List (List Piece)) (formula : List ℕ) (texts : List (List ℕ)) (told : Bool) → IsTrace seen.trace.states → AllFit (scope_seen seen) ds → CountersRise seen ds
    → AreNodes (fresh_nodes (clocks_seen seen) (plan_of seen ds)) → AreAccepted Follows (fresh formula (fresh_nodes (clocks_seen seen) (plan_of seen ds))) texts told
    → (reading : Reading) → AreAnswers seen reading → IsTrue told ↔ Sat (run_seen seen reading) (disjunction_of (names_seen seen reading) ds) (initial (clocks_seen seen))
accepted_true seen ds formula texts told trace fits rise is accepted reading are =
    let start = fresh_nodes (clocks_seen seen) (plan_of seen ds) in
    let run = accepted_run Follows formula start texts told accepted in
    let t = run_told start run.0 told is run.1 in
    let same = conclusion_true seen ds t.slices trace fits rise t.given t.all reading are in
    (λ h. same.0 (t.truth.0 h), λ h. t.truth.1 (same.1 h))
