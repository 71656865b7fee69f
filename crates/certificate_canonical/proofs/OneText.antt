-- The nodes as they stand have one canonical line.
use Rattle.std.proofs.Common.{◌≡◌, ℕ, ◌<◌, ◌≤◌, Bool, List, [], ◌∷◌, ◌++◌, length, refl, sym, ap, subst, ◌∙◌, arith, length-append, Option, Some, None}
use Rattle.std.specs.Prelude.{All}
use Rattle.std.proofs.lemmas.List.Elements.{All-head, All-tail}
use Rattle.run_model.specs.Cut.{Clocks}
use Rattle.pull_system.specs.System.{HoldsPull, IsSystem, source_of, target_of, ask}
use Rattle.slice_graph.specs.Views.{SliceView}
use Rattle.raise_machine.specs.Bounds.{word_at}
use Rattle.certificate_lines.specs.declared.line.Line.{Line}
use Rattle.certificate_lines.specs.declared.line.Line.TheVariants.{Node, Row, Raise, Verdict}
use Rattle.certificate_text.specs.Running.{IsOfNode}
use Rattle.certificate_table.specs.Begun.{BegunView, present, present_row, LastIsClosed}
use Rattle.certificate_raises.specs.Canonical.{IsFirstFailing}
use Rattle.certificate_nodes.specs.declared.plan.Plan.{Plan}
use Rattle.certificate_nodes.specs.Given.{IsEnded}
use Rattle.certificate_nodes.specs.Plans.{system_at}
use Rattle.certificate_nodes.specs.Nodes.{NodesView, OfPresent, BeginsNode, IsPresent, AreNodes}
use Rattle.certificate_table.specs.Begun.{fresh_rows}
use Rattle.certificate_table.proofs.Keeping.{holds_at}
use Rattle.certificate_canonical.specs.Canonical.{IsNextRow, IsNextRaise, IsNext, AreNext, IsWhole}
use Rattle.certificate.proofs.OneSlice.{gives_one, concludes_one}
use Rattle.certificate_canonical.proofs.Keeping.{all_kept}
use Rattle.certificate_canonical.proofs.Following.{line_follows}

-- the present rows, if there are any, are those of a system
abbrev AreOfSystem : Option BegunView → Type 0
AreOfSystem None = Unit {0}
AreOfSystem (Some rows) = IsSystem rows.system

of_system : (o : Clocks) (plan : Plan) (slices : List SliceView) (there : Option BegunView) → IsPresent o plan slices there → AreOfSystem there
of_system o plan slices None h = tt
of_system o plan slices (Some rows) h = h.2.system

row-not-ended : (there : Option BegunView) (row : ℕ) (other : Option ℕ) → OfPresent (λ rows. IsNextRow rows row other) there → IsEnded there → ⊥
row-not-ended None row other h e = absurd h
row-not-ended (Some rows) row other h e = omega (arith, h.more_rows, e.all)

-- a pull that fails does not hold
not-held : (rows : BegunView) → IsSystem rows.system → (k x : ℕ) → IsFirstFailing rows k x → HoldsPull rows.system (present_row rows) k → ⊥
not-held rows is k x h holds =
    let most = word_at rows.system.lens rows.words (present rows) (target_of rows.system k) in
    let asked = (holds_at rows.system is rows.words (present rows) k h.pull).1 holds in
    let same : ask rows.system k x ≤ most = subst (λ (n : ℕ). ask rows.system k n ≤ most) (sym h.value) asked in
    omega (arith, same, h.fails)

fails-not-closed : (rows : BegunView) → IsSystem rows.system → (k x : ℕ) → IsNextRaise rows k x → LastIsClosed rows → ⊥
fails-not-closed rows is k x h closed = not-held rows is k x h.first ((closed h.begun).each k h.first.pull)

raise-not-ended : (there : Option BegunView) → AreOfSystem there → (k x : ℕ) → OfPresent (λ rows. IsNextRaise rows k x) there → IsEnded there → ⊥
raise-not-ended None is k x h e = absurd h
raise-not-ended (Some rows) is k x h e = fails-not-closed rows is k x h e.settled

row-not-raise : (there : Option BegunView) → AreOfSystem there → (row : ℕ) (other : Option ℕ) (k x : ℕ) → OfPresent (λ rows. IsNextRow rows row other) there → OfPresent (λ rows. IsNextRaise rows k x) there → ⊥
row-not-raise None is row other k x h g = absurd h
row-not-raise (Some rows) is row other k x h g = fails-not-closed rows is k x g h.settled

one-row : (there : Option BegunView) (row : ℕ) (other : Option ℕ) (row2 : ℕ) (other2 : Option ℕ) → OfPresent (λ rows. IsNextRow rows row other) there
    → OfPresent (λ rows. IsNextRow rows row2 other2) there → Row row other ≡ Row row2 other2
one-row None row other row2 other2 h g = absurd h
one-row (Some rows) row other row2 other2 h g = cc (h.row_is, h.other_is, g.row_is, g.other_is)

-- a pull below the first that fails does not fail
not-below : (rows : BegunView) → IsSystem rows.system → (k x j y : ℕ) → IsFirstFailing rows k x → IsFirstFailing rows j y → k < j → ⊥
not-below rows is k x j y h g lt = not-held rows is k x h (g.least k lt)

same-pull : (rows : BegunView) → IsSystem rows.system → (k x j y : ℕ) → IsFirstFailing rows k x → IsFirstFailing rows j y → k ≡ j
same-pull rows is k x j y h g = grind (arith, not-below rows is k x j y h g, not-below rows is j y k x g h)

one-raise : (there : Option BegunView) → AreOfSystem there → (k x j y : ℕ) → OfPresent (λ rows. IsNextRaise rows k x) there
    → OfPresent (λ rows. IsNextRaise rows j y) there → Raise k x ≡ Raise j y
one-raise None is k x j y h g = absurd h
one-raise (Some rows) is k x j y h g =
    let same = same-pull rows is k x j y h.first g.first in
    let value : x ≡ y = h.first.value ∙ ap (λ (n : ℕ). word_at rows.system.lens rows.words (present rows) (source_of rows.system n)) same ∙ sym g.first.value in
    cc (same, value)

one-of : (v : NodesView) → AreOfSystem v.present → (l m : Line) (a b : NodesView) → IsNext v l a → IsNext v m b → l ≡ m
one-of v is (Node number) (Node other) a b h g = ap Node (h.0.next ∙ sym g.0.next)
one-of v is (Node number) (Row row other) a b h g = absurd (row-not-ended v.present row other g.0 h.0.ended)
one-of v is (Node number) (Raise k x) a b h g = absurd (raise-not-ended v.present is k x g.0 h.0.ended)
one-of v is (Node number) (Verdict told) a b h g = absurd (omega (arith, h.0.next, h.0.there, g.0.all))
one-of v is (Row row other) (Node number) a b h g = absurd (row-not-ended v.present row other h.0 g.0.ended)
one-of v is (Row row other) (Row row2 other2) a b h g = one-row v.present row other row2 other2 h.0 g.0
one-of v is (Row row other) (Raise k x) a b h g = absurd (row-not-raise v.present is row other k x h.0 g.0)
one-of v is (Row row other) (Verdict told) a b h g = absurd (row-not-ended v.present row other h.0 g.0.ended)
one-of v is (Raise k x) (Node number) a b h g = absurd (raise-not-ended v.present is k x h.0 g.0.ended)
one-of v is (Raise k x) (Row row other) a b h g = absurd (row-not-raise v.present is row other k x g.0 h.0)
one-of v is (Raise k x) (Raise j y) a b h g = one-raise v.present is k x j y h.0 g.0
one-of v is (Raise k x) (Verdict told) a b h g = absurd (raise-not-ended v.present is k x h.0 g.0.ended)
one-of v is (Verdict told) (Node number) a b h g = absurd (omega (arith, g.0.next, g.0.there, h.0.all))
one-of v is (Verdict told) (Row row other) a b h g = absurd (row-not-ended v.present row other g.0 h.0.ended)
one-of v is (Verdict told) (Raise k x) a b h g = absurd (raise-not-ended v.present is k x g.0 h.0.ended)
one-of v is (Verdict told) (Verdict other) a b h g =
    ap Verdict (concludes_one v a b told other h.1 g.1)

pub one_next : (v : NodesView) (l m : Line) (a b : NodesView) → AreNodes v → IsNext v l a → IsNext v m b → l ≡ m
one_next v l m a b nodes h g = one-of v (of_system v.order v.plan v.slices v.present nodes.present) l m a b h g

-- ---- a line of the nodes leaves one thing

abbrev nodes_made : Clocks → Plan → List SliceView → Option BegunView → NodesView
nodes_made o plan slices there = record { order = o; plan = plan; slices = slices; present = there }

abbrev begun_with : NodesView → List SliceView → NodesView
begun_with v slices = nodes_made v.order v.plan slices (Some (fresh_rows (system_at v.order v.plan slices (length slices))))

made : (o o2 : Clocks) (plan plan2 : Plan) (slices : List SliceView) (there there2 : Option BegunView) → o ≡ o2 → plan ≡ plan2 → there ≡ there2 → nodes_made o plan slices there ≡ nodes_made o2 plan2 slices there2
made o o2 plan plan2 slices there there2 l p r =
    ap (λ (x : Clocks). nodes_made x plan slices there) l ∙ ap (λ (x : Plan). nodes_made o2 x slices there) p ∙ ap (nodes_made o2 plan2 slices) r

begun_is : (v a : NodesView) → BeginsNode v a → a ≡ begun_with v a.slices
begun_is v a h = made a.order v.order a.plan v.plan a.slices a.present _ h.order h.plan h.present

one-after : (v : NodesView) (l : Line) (a b : NodesView) → IsOfNode l → IsNext v l a → IsNext v l b → a ≡ b
one-after v (Node number) a b body h g =
    begun_is v a h.1 ∙ ap (begun_with v) (gives_one v.order v.plan v.slices v.present a.slices b.slices h.1.gives g.1.gives) ∙ sym (begun_is v b g.1)
one-after v (Row row other) a b body h g = h.1 ∙ sym g.1
one-after v (Raise k x) a b body h g = h.1 ∙ sym g.1
one-after v (Verdict told) a b body h g = absurd body

never_verdict : (l : Line) (told : Bool) → IsOfNode l → l ≡ Verdict told → ⊥
never_verdict l told h e = subst IsOfNode e h

-- ---- there is one text

keeps : (v : NodesView) (l : Line) (a : NodesView) → AreNodes v → IsNext v l a → AreNodes a
keeps v l a nodes h = all_kept v l a nodes (line_follows v l a h)

-- two next lines that are of nodes leave one thing
same-after : (v : NodesView) (l m : Line) (a b : NodesView) → AreNodes v → IsOfNode l → IsNext v l a → IsNext v m b → a ≡ b
same-after v l m a b nodes body h g =
    one-after v l a b body h (subst (λ (x : Line). IsNext v x b) (sym (one_next v l m a b nodes h g)) g)

not-verdict : (v : NodesView) (l : Line) (told : Bool) (a after : NodesView) → AreNodes v → IsOfNode l → IsNext v l a → IsNext v (Verdict told) after → ⊥
not-verdict v l told a after nodes body h g = never_verdict l told body (one_next v l (Verdict told) a after nodes h g)

front-of : (ls body : List Line) (v a mid : NodesView) (told : Bool) (after : NodesView) → AreNodes v → AreNext v ls a → All IsOfNode ls → AreNext v body mid → IsNext mid (Verdict told) after
    → (rest : List Line) × (body ++ Verdict told ∷ [] ≡ ls ++ rest)
front-of [] body v a mid told after nodes h bodies next verdict = (body ++ Verdict told ∷ [], refl)
front-of (l ∷ ls) [] v a mid told after nodes h bodies next verdict =
    absurd (not-verdict v l told h.0 after nodes (All-head IsOfNode l ls bodies) h.1 (subst (λ (x : NodesView). IsNext x (Verdict told) after) next verdict))
front-of (l ∷ ls) (m ∷ body) v a mid told after nodes h bodies next verdict =
    let same : l ≡ m = one_next v l m h.0 next.0 nodes h.1 next.1 in
    let state : h.0 ≡ next.0 = same-after v l m h.0 next.0 nodes (All-head IsOfNode l ls bodies) h.1 next.1 in
    let found = front-of ls body h.0 a mid told after (keeps v l h.0 nodes h.1) h.2 (All-tail IsOfNode l ls bodies) (subst (λ (x : NodesView). AreNext x body mid) (sym state) next.2) verdict in
    (found.0, ap (λ (x : Line). x ∷ (body ++ Verdict told ∷ [])) (sym same) ∙ ap (λ (xs : List Line). l ∷ xs) found.1)

pub is_front : (v : NodesView) (ls : List Line) (a : NodesView) (whole : List Line) (told : Bool) → AreNodes v → AreNext v ls a → All IsOfNode ls → IsWhole v whole told
    → (rest : List Line) × (whole ≡ ls ++ rest)
is_front v ls a whole told nodes h bodies w =
    let found = front-of ls w.body v a w.mid told w.after nodes h bodies w.next w.verdict in
    (found.0, w.lines_are ∙ found.1)

whole-of : (ls body : List Line) (v a mid : NodesView) (told truth : Bool) (after other : NodesView) → AreNodes v → AreNext v ls a → All IsOfNode ls → IsNext a (Verdict truth) other
    → AreNext v body mid → All IsOfNode body → IsNext mid (Verdict told) after → ls ++ Verdict truth ∷ [] ≡ body ++ Verdict told ∷ []
whole-of [] [] v a mid told truth after other nodes h hb last next nb verdict =
    let here = subst (λ (x : NodesView). IsNext x (Verdict truth) other) h last in
    let there = subst (λ (x : NodesView). IsNext x (Verdict told) after) next verdict in
    ap (λ (x : Line). x ∷ []) (one_next v (Verdict truth) (Verdict told) other after nodes here there)
whole-of [] (m ∷ body) v a mid told truth after other nodes h hb last next nb verdict =
    absurd (not-verdict v m truth next.0 other nodes (All-head IsOfNode m body nb) next.1 (subst (λ (x : NodesView). IsNext x (Verdict truth) other) h last))
whole-of (l ∷ ls) [] v a mid told truth after other nodes h hb last next nb verdict =
    absurd (not-verdict v l told h.0 after nodes (All-head IsOfNode l ls hb) h.1 (subst (λ (x : NodesView). IsNext x (Verdict told) after) next verdict))
whole-of (l ∷ ls) (m ∷ body) v a mid told truth after other nodes h hb last next nb verdict =
    let same : l ≡ m = one_next v l m h.0 next.0 nodes h.1 next.1 in
    let state : h.0 ≡ next.0 = same-after v l m h.0 next.0 nodes (All-head IsOfNode l ls hb) h.1 next.1 in
    let rest = whole-of ls body h.0 a mid told truth after other (keeps v l h.0 nodes h.1) h.2 (All-tail IsOfNode l ls hb) last (subst (λ (x : NodesView). AreNext x body mid) (sym state) next.2) (All-tail IsOfNode m body nb) verdict in
    ap (λ (x : Line). x ∷ (ls ++ Verdict truth ∷ [])) same ∙ ap (λ (xs : List Line). m ∷ xs) rest

pub one_whole : (v : NodesView) (lines other : List Line) (told truth : Bool) → AreNodes v → IsWhole v lines told → IsWhole v other truth → lines ≡ other
one_whole v lines other told truth nodes w u =
    w.lines_are ∙ whole-of w.body u.body v w.mid u.mid truth told u.after w.after nodes w.next w.of_nodes w.verdict u.next u.of_nodes u.verdict ∙ sym u.lines_are

-- the last of two equal lists
last-same : (xs ys : List Line) (l m : Line) → xs ++ l ∷ [] ≡ ys ++ m ∷ [] → l ≡ m
last-same [] [] l m e = cc
last-same [] (y ∷ ys) l m e = absurd (omega (arith, ap length e, length-append ys (m ∷ [])))
last-same (x ∷ xs) [] l m e = absurd (omega (arith, ap length e, length-append xs (l ∷ [])))
last-same (x ∷ xs) (y ∷ ys) l m e = last-same xs ys l m (cc)

pub one_verdict : (v : NodesView) (lines other : List Line) (told truth : Bool) → AreNodes v → IsWhole v lines told → IsWhole v other truth → told ≡ truth
one_verdict v lines other told truth nodes w u =
    let same : Verdict told ≡ Verdict truth = last-same w.body u.body (Verdict told) (Verdict truth) (sym w.lines_are ∙ one_whole v lines other told truth nodes w u ∙ u.lines_are) in
    cc same
