-- What stands of nodes, through each justified step.
use Rattle.std.proofs.Common.{◌≡◌, ℕ, ◌+◌, ◌<◌, ◌≤◌, Bool, List, [], ◌∷◌, ◌++◌, length, flat_map, All, Option, None, Some, inl, inr, refl, sym, ap, ◌∙◌, subst, arith}
use Rattle.std.specs.Prelude.{option_map}
use Rattle.std.proofs.lemmas.Bool.{cases_lt}
use Rattle.std.proofs.Math.ListN.{get_or-append}
use Rattle.std.proofs.lemmas.List.{length-append, get_or_push}
use Rattle.std.proofs.lemmas.List.Concat.{flat_map-cons}
use Rattle.std.proofs.lemmas.List.Elements.{All-head, All-tail}
use Rattle.run_model.specs.Cut.{Clocks, lengths}
use Rattle.pull_system.specs.declared.pull.Pull.{Pull}
use Rattle.pull_system.specs.System.{SystemView}
use Rattle.slice_graph.specs.Views.{SliceView}
use Rattle.slice_graph.specs.PullLists.{pulls_of_order}
use Rattle.certificate_table.specs.Begun.{BegunView, MayBegin, MayRaise, fresh_rows, with_raise, with_row}
use Rattle.certificate_table.proofs.Keeping.{fresh_certified, raise_keeps, row_keeps}
use Rattle.certificate_nodes.specs.declared.plan.Asked.{Asked}
use Rattle.certificate_nodes.specs.declared.plan.Asked.TheVariants as asked
use Rattle.certificate_nodes.specs.declared.plan.Plan.{Plan}
use Rattle.certificate_nodes.specs.Plans.{node_at, slice_at, no_slice, pulls_given, pulls_asked, system_of, system_at, FitsPart, AreParts, IsPlan}
use Rattle.certificate_nodes.specs.Given.{IsGiven, AreGiven, Gives}
use Rattle.certificate_nodes.specs.Nodes.{NodesView, AreNodes, IsPresent, OfPresent, BeginsNode, Concludes, GivesSlice, MayBeginNode, MayBeginRow, MayConclude, MayRaiseRow, nodes_begun, present_count, with_begun_row, with_raised_row}
use Rattle.certificate_nodes.proofs.Fitting.{system_is}

-- ---- one slice more

asked_more : (o : Clocks) (plan : Plan) (slices : List SliceView) (slice : SliceView) (n : ℕ) → n ≤ length slices → (part : Asked) → FitsPart (lengths o) n part
    → pulls_asked plan (slices ++ slice ∷ []) part ≡ pulls_asked plan slices part
asked_more o plan slices slice n few (asked.Own pulls) fits = refl
asked_more o plan slices slice n few (asked.Inner number) fits =
    ap (λ (s : SliceView). pulls_given (node_at plan number).operator s) (get_or-append slices (slice ∷ []) no_slice number (omega (arith, fits, few)))

parts_more : (o : Clocks) (plan : Plan) (slices : List SliceView) (slice : SliceView) (n : ℕ) → n ≤ length slices → (parts : List Asked) → All (FitsPart (lengths o) n) parts
    → flat_map (pulls_asked plan (slices ++ slice ∷ [])) parts ≡ flat_map (pulls_asked plan slices) parts
parts_more o plan slices slice n few [] all = refl
parts_more o plan slices slice n few (part ∷ parts) all =
    let now : Asked → List Pull = pulls_asked plan (slices ++ slice ∷ []) in
    let old : Asked → List Pull = pulls_asked plan slices in
    let one : now part ≡ old part = asked_more o plan slices slice n few part (All-head (FitsPart (lengths o) n) part parts all) in
    let rest : flat_map now parts ≡ flat_map old parts = parts_more o plan slices slice n few parts (All-tail (FitsPart (lengths o) n) part parts all) in
    flat_map-cons now part parts ∙ ap (λ (pulls : List Pull). pulls ++ flat_map now parts) one ∙ ap (λ (pulls : List Pull). old part ++ pulls) rest ∙ sym (flat_map-cons old part parts)

-- the systems of earlier nodes stay
system_more : (o : Clocks) (plan : Plan) (slices : List SliceView) (slice : SliceView) (n : ℕ) → n ≤ length slices → (parts : List Asked) → AreParts (lengths o) n parts
    → system_of o plan (slices ++ slice ∷ []) parts ≡ system_of o plan slices parts
system_more o plan slices slice n few parts are =
    ap (λ (added : List Pull). record { lens = lengths o; pulls = pulls_of_order o ++ added }) (parts_more o plan slices slice n few parts are.each)

given_more : (o : Clocks) (plan : Plan) (slices : List SliceView) (slice : SliceView) → IsPlan (lengths o) plan → AreGiven o plan slices → length slices < length plan.nodes
    → IsGiven o (node_at plan (length slices)).operator (system_at o plan slices (length slices)) slice → AreGiven o plan (slices ++ slice ∷ [])
given_more o plan slices slice is given less here = record { few = omega (arith, less, length-append slices (slice ∷ [])); each = each }
  where
    stays : (n : ℕ) → n ≤ length slices → system_at o plan slices n ≡ system_at o plan (slices ++ slice ∷ []) n
    stays n few = sym (system_more o plan slices slice n few (node_at plan n).parts (is.nodes n (omega (arith, few, less))).parts)

    earlier : (n : ℕ) → n < length slices → IsGiven o (node_at plan n).operator (system_at o plan (slices ++ slice ∷ []) n) (slice_at (slices ++ slice ∷ []) n)
    earlier n before =
        subst (λ (s : SystemView). IsGiven o (node_at plan n).operator s (slice_at (slices ++ slice ∷ []) n)) (stays n (omega (arith, before)))
        (subst (λ (s : SliceView). IsGiven o (node_at plan n).operator (system_at o plan slices n) s) (sym (get_or-append slices (slice ∷ []) no_slice n before)) (given.each n before))

    last : (n : ℕ) → length slices ≡ n → IsGiven o (node_at plan n).operator (system_at o plan (slices ++ slice ∷ []) n) (slice_at (slices ++ slice ∷ []) n)
    last n same =
        subst (λ (m : ℕ). IsGiven o (node_at plan m).operator (system_at o plan (slices ++ slice ∷ []) m) (slice_at (slices ++ slice ∷ []) m)) same
        (subst (λ (s : SystemView). IsGiven o (node_at plan (length slices)).operator s (slice_at (slices ++ slice ∷ []) (length slices))) (stays (length slices) (omega arith))
        (subst (λ (s : SliceView). IsGiven o (node_at plan (length slices)).operator (system_at o plan slices (length slices)) s) (sym (get_or_push slices slice no_slice (length slices) refl)) here))

    each : (n : ℕ) → n < length (slices ++ slice ∷ []) → IsGiven o (node_at plan n).operator (system_at o plan (slices ++ slice ∷ []) n) (slice_at (slices ++ slice ∷ []) n)
    each n there = elim (cases_lt n (length slices)) [
      | inl before ↦ earlier n before
      | inr past ↦ last n (omega (arith, past, there, length-append slices (slice ∷ [])))
    ]

-- ---- the present node gives its slice

gives_keeps : (o : Clocks) (plan : Plan) (slices : List SliceView) (present : Option BegunView) (after : List SliceView) → IsPlan (lengths o) plan → AreGiven o plan slices → IsPresent o plan slices present
    → Gives o plan slices present after → AreGiven o plan after × (length after ≡ length slices + present_count present)
gives_keeps o plan slices None after is given here gives = (subst (λ (ss : List SliceView). AreGiven o plan ss) (sym gives) given, omega (arith, ap (λ (ss : List SliceView). length ss) gives))
gives_keeps o plan slices (Some rows) after is given here (slice, new, same) = (
  subst (λ (ss : List SliceView). AreGiven o plan ss) (sym same)
      (given_more o plan slices slice is given here.0 (subst (λ (s : SystemView). IsGiven o (node_at plan (length slices)).operator s slice) here.1 new)),
  omega (arith, ap (λ (ss : List SliceView). length ss) same, length-append slices (slice ∷ [])),
)

pub given_after : (v : NodesView) → AreNodes v → (after : List SliceView) → Gives v.order v.plan v.slices v.present after → AreGiven v.order v.plan after × (length after ≡ nodes_begun v)
given_after v is after gives = gives_keeps v.order v.plan v.slices v.present after is.plan is.given is.present gives

gives_count : (o : Clocks) (plan : Plan) (slices : List SliceView) (present : Option BegunView) (after : List SliceView) → Gives o plan slices present after → length after ≡ length slices + present_count present
gives_count o plan slices None after gives = omega (arith, ap (λ (ss : List SliceView). length ss) gives)
gives_count o plan slices (Some rows) after (slice, new, same) = omega (arith, ap (λ (ss : List SliceView). length ss) same, length-append slices (slice ∷ []))

-- the next node is there
pub next_there : (v after : NodesView) (number : ℕ) → MayBeginNode v number → GivesSlice v after → length after.slices < length after.plan.nodes
next_there v after number may h =
    omega (arith, gives_count v.order v.plan v.slices v.present after.slices h.gives, may.next, may.there, ap (λ (p : Plan). length p.nodes) h.plan)

-- no rows are present
pub none_present : (v after : NodesView) → AreNodes v → after.order ≡ v.order → after.plan ≡ v.plan → Gives v.order v.plan v.slices v.present after.slices → after.present ≡ None → AreNodes after
none_present v after is order plan gives present =
    let now : NodesView = record { order = v.order; plan = v.plan; slices = after.slices; present = None } in
    let same : now ≡ after = sym (λ j. record { order = order j; plan = plan j; slices = after.slices; present = present j }) in
    let stands : AreNodes now = record { order = is.order; shape = is.shape; plan = is.plan; given = (given_after v is after.slices gives).0; present = tt } in
    subst (λ (u : NodesView). AreNodes u) same stands

-- the rows of the next node are
pub fresh_present : (v : NodesView) → AreNodes v → length v.slices < length v.plan.nodes
    → IsPresent v.order v.plan v.slices (Some (fresh_rows (system_at v.order v.plan v.slices (length v.slices))))
fresh_present v is less = (
  less,
  refl,
  fresh_certified (system_at v.order v.plan v.slices (length v.slices))
      (system_is v.order is.order is.shape v.plan v.slices is.given (node_at v.plan (length v.slices)).parts (is.plan.nodes (length v.slices) less).parts),
)

pub node_keeps : (v after : NodesView) (number : ℕ) → AreNodes v → MayBeginNode v number → BeginsNode v after → AreNodes after
node_keeps v after number is may begins =
    let given = given_after v is after.slices begins.gives in
    let rows : Option BegunView = Some (fresh_rows (system_at v.order v.plan after.slices (length after.slices))) in
    let ended : NodesView = record { order = v.order; plan = v.plan; slices = after.slices; present = None } in
    let now : NodesView = record { order = v.order; plan = v.plan; slices = after.slices; present = rows } in
    let same : now ≡ after = sym (λ j. record { order = begins.order j; plan = begins.plan j; slices = after.slices; present = begins.present j }) in
    let before : AreNodes ended = record { order = is.order; shape = is.shape; plan = is.plan; given = given.0; present = tt } in
    let less : length after.slices < length v.plan.nodes = omega (arith, given.1, may.next, may.there) in
    let stands : AreNodes now = record { order = is.order; shape = is.shape; plan = is.plan; given = given.0; present = fresh_present ended before less } in
    subst (λ (u : NodesView). AreNodes u) same stands

pub verdict_keeps : (v after : NodesView) (told : Bool) → AreNodes v → MayConclude v → Concludes v after told → AreNodes after
verdict_keeps v after told is may ends = none_present v after is ends.order ends.plan ends.gives ends.present

-- ---- the present rows are begun and raised

row_present : (o : Clocks) (plan : Plan) (slices : List SliceView) (present : Option BegunView) (row : ℕ) (other : Option ℕ) → IsPresent o plan slices present
    → OfPresent (λ rows. MayBegin rows row other) present → IsPresent o plan slices (option_map (λ rows. with_row rows row other) present)
row_present o plan slices None row other here may = absurd may
row_present o plan slices (Some rows) row other here may = (here.0, here.1, row_keeps rows here.2 row other may)

raise_present : (o : Clocks) (plan : Plan) (slices : List SliceView) (present : Option BegunView) (k x : ℕ) → IsPresent o plan slices present
    → OfPresent (λ rows. MayRaise rows k x) present → IsPresent o plan slices (option_map (λ rows. with_raise rows k x) present)
raise_present o plan slices None k x here may = absurd may
raise_present o plan slices (Some rows) k x here may = (here.0, here.1, raise_keeps rows here.2 k x may)

pub begun_keeps : (v : NodesView) (row : ℕ) (other : Option ℕ) → AreNodes v → MayBeginRow v row other → AreNodes (with_begun_row v row other)
begun_keeps v row other is may = record { order = is.order; shape = is.shape; plan = is.plan; given = is.given; present = row_present v.order v.plan v.slices v.present row other is.present may }

pub raised_keeps : (v : NodesView) (k x : ℕ) → AreNodes v → MayRaiseRow v k x → AreNodes (with_raised_row v k x)
raised_keeps v k x is may = record { order = is.order; shape = is.shape; plan = is.plan; given = is.given; present = raise_present v.order v.plan v.slices v.present k x is.present may }
