-- The next line follows, and a whole text is a run.
use Rattle.std.proofs.Common.{ℕ, zero, suc, ◌^◌, ◌<◌, ◌≤◌, List, [], ◌∷◌, ◌++◌, Bool, true, false, Option, Some, None, sym, subst, arith}
use Rattle.std.specs.Prelude.{All, if◌then◌else◌}
use Rattle.std.proofs.lemmas.List.Elements.{All-append, All-cons, All-nil}
use Rattle.run_model.specs.Cut.{Clocks}
use Rattle.pull_system.specs.System.{IsPull, pull_at, source_of}
use Rattle.pull_system.proofs.Pulls.{pull-of}
use Rattle.slice_graph.specs.Views.{SliceView}
use Rattle.certificate_lines.specs.declared.line.Line.{Line}
use Rattle.certificate_lines.specs.declared.line.Line.TheVariants.{Node, Row, Raise, Verdict}
use Rattle.certificate_lines.specs.Spelling.{LineFits}
use Rattle.certificate_text.specs.Taking.{AreAccepted, fresh}
use Rattle.certificate_text.specs.Running.{AllFollow, AreNodesAndVerdict, certificate_lines}
use Rattle.certificate_text.proofs.Accepting.{run_accepted}
use Rattle.certificate_table.specs.Begun.{BegunView, AreCertified, MayBegin, present}
use Rattle.certificate_table.proofs.Keeping.{word_small}
use Rattle.certificate_raises.specs.Canonical.{after_of, is_first}
use Rattle.certificate_raises.proofs.Following.{row_follows, raise_follows}
use Rattle.certificate_nodes.specs.declared.plan.Plan.{Plan}
use Rattle.certificate_nodes.specs.Nodes.{NodesView, OfPresent, IsPresent, AreNodes}
use Rattle.certificate.specs.Following.{Follows}
use Rattle.certificate_canonical.proofs.Keeping.{all_kept}
use Rattle.certificate_canonical.specs.Canonical.{IsNextRow, IsNextRaise, IsNext, AreNext, IsWhole}

pub row_may_begin : (rows : BegunView) (row : ℕ) (other : Option ℕ) → IsNextRow rows row other → MayBegin rows row other
row_may_begin rows row other h =
    let at : MayBegin rows rows.begun (after_of rows.system.lens rows.begun) = row_follows rows h.settled h.more_rows in
    let there : MayBegin rows row (after_of rows.system.lens row) = subst (λ (n : ℕ). MayBegin rows n (after_of rows.system.lens n)) (sym h.row_is) at in
    subst (λ (o : Option ℕ). MayBegin rows row o) (sym h.other_is) there

of-present : (P Q : BegunView → Type 0) → ((rows : BegunView) → P rows → Q rows) → (present : Option BegunView) → OfPresent P present → OfPresent Q present
of-present P Q f None h = h
of-present P Q f (Some rows) h = f rows h

pub line_follows : (v : NodesView) (l : Line) (after : NodesView) → IsNext v l after → Follows v l after
line_follows v (Node number) after h = h
line_follows v (Row row other) after h = (of-present _ _ (λ rows. row_may_begin rows row other) v.present h.0, h.1)
line_follows v (Raise k x) after h = (of-present _ _ (λ rows next. raise_follows rows k x next.begun next.first) v.present h.0, h.1)
line_follows v (Verdict told) after h = h

pub all_follow : (v : NodesView) (ls : List Line) (after : NodesView) → AreNext v ls after → AllFollow Follows v ls after
all_follow v [] after h = h
all_follow v (l ∷ ls) after h = (h.0, line_follows v l h.0 h.1, all_follow h.0 ls after h.2)

-- ---- the numbers of canonical lines have 32 bits

first-row : (begun : ℕ) (first : Bool) → begun < 2 ^ 32 → (if first then 0 else begun) < 2 ^ 32
first-row begun true less = omega arith
first-row begun false less = less

row-fits : (lens : List ℕ) (row : ℕ) → row < 2 ^ 32 → LineFits (Row row (after_of lens row))
row-fits lens zero less = less
row-fits lens (suc row) less = (less, first-row row (is_first lens (suc row)) (omega (arith, less)))

next-row-fits : (rows : BegunView) → AreCertified rows → (row : ℕ) (other : Option ℕ) → IsNextRow rows row other → LineFits (Row row other)
next-row-fits rows is row other h =
    let less : row < 2 ^ 32 = omega (arith, h.row_is, h.more_rows, is.system.shape.events) in
    subst (λ (o : Option ℕ). LineFits (Row row o)) (sym h.other_is) (row-fits rows.system.lens row less)

next-raise-fits : (rows : BegunView) → AreCertified rows → (k x : ℕ) → IsNextRaise rows k x → LineFits (Raise k x)
next-raise-fits rows is k x h =
    let of : IsPull rows.system.lens (pull_at rows.system k) = pull-of rows.system is.system k h.first.pull in (
      omega (arith, h.first.pull, is.system.count),
      omega (arith, h.first.value, word_small rows is (present rows) (source_of rows.system k) of.source),
    )

row-of-present : (o : Clocks) (plan : Plan) (slices : List SliceView) (there : Option BegunView) → IsPresent o plan slices there → (row : ℕ) (other : Option ℕ) → OfPresent (λ rows. IsNextRow rows row other) there → LineFits (Row row other)
row-of-present o plan slices None here row other h = absurd h
row-of-present o plan slices (Some rows) here row other h = next-row-fits rows here.2 row other h

raise-of-present : (o : Clocks) (plan : Plan) (slices : List SliceView) (there : Option BegunView) → IsPresent o plan slices there → (k x : ℕ) → OfPresent (λ rows. IsNextRaise rows k x) there → LineFits (Raise k x)
raise-of-present o plan slices None here k x h = absurd h
raise-of-present o plan slices (Some rows) here k x h = next-raise-fits rows here.2 k x h

pub line_fits : (v : NodesView) (l : Line) (after : NodesView) → AreNodes v → IsNext v l after → LineFits l
line_fits v (Node number) after nodes h = omega (arith, h.0.there, nodes.plan.few)
line_fits v (Row row other) after nodes h = row-of-present v.order v.plan v.slices v.present nodes.present row other h.0
line_fits v (Raise k x) after nodes h = raise-of-present v.order v.plan v.slices v.present nodes.present k x h.0
line_fits v (Verdict told) after nodes h = tt

pub all_fit : (v : NodesView) (ls : List Line) (after : NodesView) → AreNodes v → AreNext v ls after → All LineFits ls
all_fit v [] after nodes h = All-nil LineFits
all_fit v (l ∷ ls) after nodes h =
    All-cons LineFits l ls (line_fits v l h.0 nodes h.1) (all_fit h.0 ls after (all_kept v l h.0 nodes (line_follows v l h.0 h.1)) h.2)

pub whole_fits : (v : NodesView) (lines : List Line) (told : Bool) → AreNodes v → IsWhole v lines told → All LineFits lines
whole_fits v lines told nodes h =
    subst (λ (ls : List Line). All LineFits ls) (sym h.lines_are)
    (All-append LineFits h.body (Verdict told ∷ []) (all_fit v h.body h.mid nodes h.next) (All-cons LineFits (Verdict told) [] tt (All-nil LineFits)))

pub whole_accepted : (formula : List ℕ) (v : NodesView) (lines : List Line) (told : Bool) → AreNodes v → IsWhole v lines told
    → AreAccepted Follows (fresh formula v) (certificate_lines formula lines) told
whole_accepted formula v lines told nodes h =
    let run : AreNodesAndVerdict Follows v lines told = record {
      body = h.body;
      of_nodes = h.of_nodes;
      fits = all_fit v h.body h.mid nodes h.next;
      mid = h.mid;
      all = all_follow v h.body h.mid h.next;
      after = h.after;
      verdict = line_follows h.mid (Verdict told) h.after h.verdict;
      lines_are = h.lines_are;
    } in
    run_accepted Follows formula v lines told run
