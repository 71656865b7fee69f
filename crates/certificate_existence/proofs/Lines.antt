-- Lines come to a verdict.
use Rattle.std.proofs.Common.{◌≡◌, ℕ, zero, suc, ◌+◌, ◌<◌, ◌≤◌, ◌⊎◌, Bool, true, false, List, [], ◌∷◌, ◌++◌, length, sum, Option, Some, None, refl, ap, subst, inl, inr, arith}
use Rattle.std.proofs.lemmas.Bool.{cases_lt, false≢true}
use Rattle.std.proofs.lemmas.List.Elements.{All-nil, All-cons}
use Rattle.run_model.specs.Cut.{Clocks, initial}
use Rattle.run_model.proofs.Counts.{search_below}
use Rattle.meaning_laws.proofs.DecisionLemmas.{Decided}
use Rattle.pull_system.specs.System.{SystemView, IsClosed, HoldsPull, source_of, target_of, ask}
use Rattle.raise_machine.specs.Bounds.{word_at}
use Rattle.slice_graph.specs.Views.{SliceView}
use Rattle.rctl_parts.specs.Pieces.{Piece}
use Rattle.part_pulls.specs.declared.observed.Observed.{Observed}
use Rattle.certificate_lines.specs.declared.line.Line.{Line}
use Rattle.certificate_lines.specs.declared.line.Line.TheVariants.{Node, Row, Raise, Verdict}
use Rattle.certificate_lines.specs.Spelling.{lines_text}
use Rattle.certificate_text.specs.Running.{IsOfNode, certificate_lines}
use Rattle.certificate_table.specs.Begun.{BegunView, AreCertified, IsWhole as AreWhole, LastIsClosed, fresh_rows, present, present_row}
use Rattle.certificate_table.proofs.Keeping.{holds_at}
use Rattle.certificate_raises.specs.Canonical.{after_of}
use Rattle.certificate_nodes.specs.declared.plan.Plan.{Plan}
use Rattle.certificate_nodes.specs.Plans.{node_at, disjunct_at, system_of, system_at}
use Rattle.certificate_nodes.specs.Given.{Gives, IsEnded, SomeCloses}
use Rattle.certificate_nodes.specs.Nodes.{NodesView, AreNodes, OfPresent, MayBeginNode, BeginsNode, nodes_begun, with_present}
use Rattle.certificate_nodes.proofs.Keeping.{node_keeps, begun_keeps, raised_keeps}
use Rattle.certificate_canonical.specs.Canonical.{IsNextRaise, IsNext, IsWhole}
use Rattle.certificate_next_line.specs.Coming.{lines_left}
use Rattle.certificate_next_line.specs.inside.Coming.{IsNextOfRows, with_line}
use Rattle.certificate_next_line.proofs.Steps.{of_rows, may_begin, may_raise, no_node, no_verdict, rows_less, node_less, all_begun}
use Rattle.certify.specs.Certifying.{IsCertificateOf, nodes_of}
use Rattle.node_slices.proofs.Giving.{decide_closed, given_there}

-- the first number below n with the one property, or all have the other
first_below : (P Q : ℕ → Type 0) (n : ℕ) → ((k : ℕ) → k < n → P k ⊎ Q k) → ((k : ℕ) × (k < n) × P k × ((j : ℕ) → j < k → Q j)) ⊎ ((k : ℕ) → k < n → Q k)
first_below P Q zero either = inr (λ k less. absurd (omega (arith, less)))
first_below P Q (suc n) either = elim (first_below P Q n (λ k less. either k (omega (arith, less)))) [
  | inl w ↦ inl (w.0, omega (arith, w.1), w.2, w.3)
  | inr all ↦ elim (either n (omega arith)) [
    | inl p ↦ inl (n, omega arith, p, all)
    | inr q ↦ inr (λ k less. elim (cases_lt k n) [
      | inl before ↦ all k before
      | inr past ↦ let same : n ≡ k = omega (arith, less, past) in subst Q same q
    ])
  ]
]

-- ---- the next line of rows

module _ (rows : BegunView) (is : AreCertified rows) where
  abbrev asks : ℕ → ℕ
  asks k = ask rows.system k (word_at rows.system.lens rows.words (present rows) (source_of rows.system k))

  abbrev has : ℕ → ℕ
  has k = word_at rows.system.lens rows.words (present rows) (target_of rows.system k)

  fails_or_holds : (k : ℕ) → k < length rows.system.pulls → (has k < asks k) ⊎ HoldsPull rows.system (present_row rows) k
  fails_or_holds k there = elim (cases_lt (has k) (asks k)) [
    | inl fails ↦ inl fails
    | inr held ↦ inr ((holds_at rows.system is.system rows.words (present rows) k there).0 held)
  ]

  raise_or_closed : ((k : ℕ) × (x : ℕ) × IsNextRaise rows k x) ⊎ LastIsClosed rows
  raise_or_closed = elim (cases_lt 0 rows.begun) [
    | inr none ↦ inr (λ some. absurd (omega (arith, none, some)))
    | inl some ↦ elim (first_below (λ k. has k < asks k) (HoldsPull rows.system (present_row rows)) (length rows.system.pulls) fails_or_holds) [
      | inr all ↦ inr (λ begun. record { each = all })
      | inl w ↦ inl (
        w.0,
        word_at rows.system.lens rows.words (present rows) (source_of rows.system w.0),
        record {
          begun = some;
          first = record { pull = w.1; value = refl; fails = w.2; least = w.3 };
        },
      )
    ]
  ]

  pub line_of_rows : ((line : Line) × IsNextOfRows rows line) ⊎ AreWhole rows
  line_of_rows = elim raise_or_closed [
    | inl w ↦ inl (Raise w.0 w.1, w.2)
    | inr settled ↦ elim (cases_lt (sum rows.system.lens) rows.begun) [
      | inl all ↦ inr (record { all = omega (arith, all, is.few); settled = settled })
      | inr more ↦ inl (Row rows.begun (after_of rows.system.lens rows.begun), record { settled = settled; more_rows = more; row_is = refl; other_is = refl })
    ]
  ]

of_node : (rows : BegunView) (line : Line) → IsNextOfRows rows line → IsOfNode line
of_node rows (Node number) h = tt
of_node rows (Row row other) h = tt
of_node rows (Raise k x) h = tt
of_node rows (Verdict told) h = h

rows_kept : (v : NodesView) (line : Line) → AreNodes v → OfPresent (λ rows. IsNextOfRows rows line) v.present → AreNodes (with_present v (λ rows. with_line rows line))
rows_kept v (Node number) is h = absurd (no_node v number h)
rows_kept v (Row row other) is h = begun_keeps v row other is (may_begin v row other h)
rows_kept v (Raise k x) is h = raised_keeps v k x is (may_raise v k x h)
rows_kept v (Verdict told) is h = absurd (no_verdict v told h)

-- ---- the next line of nodes

-- a line of a node is next
record Comes (v : NodesView) : Type 0 where
  line : Line
  after : NodesView
  next : IsNext v line after
  of_node : IsOfNode line
  stand : AreNodes after
  less : lines_left after < lines_left v

-- the verdict is
record Ends (v : NodesView) : Type 0 where
  told : Bool
  after : NodesView
  next : IsNext v (Verdict told) after

gives_there : (o : Clocks) (plan : Plan) (slices : List SliceView) (there : Option BegunView) → AreNodes (record { order = o; plan = plan; slices = slices; present = there })
    → (after : List SliceView) × Gives o plan slices there after
gives_there o plan slices None is = (slices, refl)
gives_there o plan slices (Some rows) is =
    let here = is.present in
    let given = given_there o is.order is.shape (node_at plan (length slices)).operator rows.system here.2.system (ap (λ (s : SystemView). s.lens) here.1) in
    (slices ++ given.0 ∷ [], (given.0, given.1, refl))

some_closes : (o : Clocks) (plan : Plan) (slices : List SliceView) → Decided (SomeCloses o plan slices)
some_closes o plan slices =
    elim (search_below (λ n. IsClosed (system n) (initial o)) (λ n. IsClosed (system n) (initial o) → ⊥) (λ n. decide_closed (system n) (initial o)) (length plan.disjuncts)) [
      | inl w ↦ inl (record { number = w.0; there = w.1; closed = w.2 })
      | inr none ↦ inr (λ h. none h.number h.there h.closed)
    ]
  where
    system : ℕ → SystemView
    system n = system_of o plan slices (disjunct_at plan n)

module _ (v : NodesView) (is : AreNodes v) (ended : IsEnded v.present) where
  given : (after : List SliceView) × Gives v.order v.plan v.slices v.present after
  given = gives_there v.order v.plan v.slices v.present is

  node_comes : nodes_begun v < length v.plan.nodes → Comes v
  node_comes more =
      let slices = given.0 in
      let after : NodesView = record { order = v.order; plan = v.plan; slices = slices; present = Some (fresh_rows (system_at v.order v.plan slices (length slices))) } in
      let may : MayBeginNode v (nodes_begun v + 1) = record { next = refl; there = omega (arith, more); ended = ended } in
      let begins : BeginsNode v after = record { order = refl; plan = refl; gives = given.1; present = refl } in
      record {
        line = Node (nodes_begun v + 1);
        after = after;
        next = (may, begins);
        of_node = tt;
        stand = node_keeps v after (nodes_begun v + 1) is may begins;
        less = node_less v after (nodes_begun v + 1) is may begins;
      }

  verdict_comes : length v.plan.nodes ≤ nodes_begun v → Ends v
  verdict_comes all =
      let after : NodesView = record { order = v.order; plan = v.plan; slices = given.0; present = None } in
      let may = all_begun v (nodes_begun v + 1) is ended refl (λ more. absurd (omega (arith, all, more.there))) in
      elim (some_closes v.order v.plan given.0) [
        | inl closes ↦ record { told = true; after = after; next = (may, record { order = refl; plan = refl; gives = given.1; present = refl; truth = (λ h. closes, λ h. refl) }) }
        | inr none ↦ record { told = false; after = after; next = (may, record { order = refl; plan = refl; gives = given.1; present = refl; truth = (λ h. absurd (false≢true h), λ h. absurd (none h)) }) }
      ]

  behind_rows : Comes v ⊎ Ends v
  behind_rows = elim (cases_lt (nodes_begun v) (length v.plan.nodes)) [
    | inl more ↦ inl (node_comes more)
    | inr all ↦ inr (verdict_comes all)
  ]

next_of : (o : Clocks) (plan : Plan) (slices : List SliceView) (there : Option BegunView) → AreNodes (record { order = o; plan = plan; slices = slices; present = there })
    → Comes (record { order = o; plan = plan; slices = slices; present = there }) ⊎ Ends (record { order = o; plan = plan; slices = slices; present = there })
next_of o plan slices None is = behind_rows (record { order = o; plan = plan; slices = slices; present = None }) is tt
next_of o plan slices (Some rows) is =
    let v : NodesView = record { order = o; plan = plan; slices = slices; present = Some rows } in
    elim (line_of_rows rows is.present.2) [
      | inr whole ↦ behind_rows v is whole
      | inl w ↦ inl (record {
        line = w.0;
        after = with_present v (λ rows. with_line rows w.0);
        next = of_rows v w.0 w.1;
        of_node = of_node rows w.0 w.1;
        stand = rows_kept v w.0 is w.1;
        less = rows_less v is w.0 w.1;
      })
    ]

-- ---- all lines

-- the verdict alone
last_line : (v : NodesView) (ends : Ends v) → IsWhole v (Verdict ends.told ∷ []) ends.told
last_line v ends = record {
  body = [];
  of_nodes = All-nil IsOfNode;
  mid = v;
  next = refl;
  after = ends.after;
  verdict = ends.next;
  lines_are = refl;
}

-- a line more in front
line_before : (v : NodesView) (comes : Comes v) (lines : List Line) (told : Bool) → IsWhole comes.after lines told → IsWhole v (comes.line ∷ lines) told
line_before v comes lines told whole = record {
  body = comes.line ∷ whole.body;
  of_nodes = All-cons IsOfNode comes.line whole.body comes.of_node whole.of_nodes;
  mid = whole.mid;
  next = (comes.after, comes.next, whole.next);
  after = whole.after;
  verdict = whole.verdict;
  lines_are = ap (λ (ls : List Line). comes.line ∷ ls) whole.lines_are;
}

whole_within : (most : ℕ) (v : NodesView) → AreNodes v → lines_left v < most → (lines : List Line) × (told : Bool) × IsWhole v lines told
whole_within zero v is few = absurd (omega (arith, few))
whole_within (suc most) v is few = elim (next_of v.order v.plan v.slices v.present is) [
  | inr ends ↦ (Verdict ends.told ∷ [], ends.told, last_line v ends)
  | inl comes ↦
      let rest = whole_within most comes.after comes.stand (omega (arith, few, comes.less)) in
      (comes.line ∷ rest.0, rest.1, line_before v comes rest.0 rest.1 rest.2)
]

pub whole_there : (v : NodesView) → AreNodes v → (lines : List Line) × (told : Bool) × IsWhole v lines told
whole_there v is = whole_within (lines_left v + 1) v is (omega arith)

-- ---- of a formula

pub certificate_there : (seen : Observed) (ds : List (List Piece)) (formula : List ℕ) → AreNodes (nodes_of seen ds) → (text : List ℕ) × (told : Bool) × IsCertificateOf seen ds formula text told
certificate_there seen ds formula nodes =
    let whole = whole_there (nodes_of seen ds) nodes in
    (lines_text (certificate_lines formula whole.0), whole.1, record { nodes = nodes; lines = whole.0; whole = whole.2; text_is = refl })
