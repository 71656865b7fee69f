-- How a log that has no fault without a formula is judged with one: its batches are closed one behind the other, up to the first in which a counter falls.
use Rattle.std.proofs.Common.{◌≡◌, ◌<◌, Bool, true, false, Option, Some, None, List, [], ◌∷◌, ◌++◌, length, refl, sym, ap, subst, ◌∙◌, arith, append_assoc, true≢false}
use Rattle.std.specs.Prelude.{is_some, ◌||◌, if◌then◌else◌}
use Rattle.std.specs.List.{list_any}
use Rattle.std.proofs.lemmas.Option.{none-some, same_Some}
use Rattle.log_lines.specs.Reading.{choose}
use Rattle.rctl_grammar.specs.declared.fault.FormulaFault.{FormulaFault}
use Rattle.run_model.specs.Formula.{Formula}
use Rattle.event_log.specs.declared.item.Item.{Item}
use Rattle.event_log.specs.declared.item.Item.TheVariants as item
use Rattle.event_log.specs.declared.item.LogFault.{LogFault}
use Rattle.event_log.specs.declared.log.Event.{Event}
use Rattle.event_log.specs.declared.log.Header.{Header}
use Rattle.event_log.specs.States.{StatesView, with_batch}
use Rattle.vector_clock.specs.Events.{no_events}
use Rattle.fault_kinds.specs.declared.refusal.Refusal.{Refusal}
use Rattle.fault_kinds.specs.declared.refusal.Refusal.TheVariants as refusal
use Rattle.counter_preds.specs.declared.values.Variable.{Variable}
use Rattle.counter_preds.specs.Falls.{fall_fault, fall_of, is_lowered, behind_event, behind_batch}
use Rattle.log_rules.specs.Counters.{counters_in}
use Rattle.log_rules.specs.Judgement.{Prefix, followed_by, states_of, with_clocks, clock_fault, Rules, with_rules, Judgement, waiting, growing, finished, refused, opened, closing, judged}
use Rattle.log_rules.specs.Due.{whole_of}
use Rattle.log_rules.specs.WholeLogs.{first_fall}
use Rattle.log_rules.proofs.Items.{prefix_at, refused-stays}
use Rattle.log_rules.proofs.Orders.{with_batches-push, chosen_none}
use Rattle.log_trace.specs.Judging.{without_formula}
use Rattle.log_merge.specs.Sources.{all_events}
use Rattle.one_log.specs.Logging.{batches_by}
use Rattle.same_answers.specs.Laws.{Lookup}

abbrev pub is_refused : Judgement → Bool
is_refused waiting = false
is_refused (growing log since) = false
is_refused (finished log last) = false
is_refused (refused log why) = true

-- a fault of a batch, where there is one
abbrev pub unless : Option LogFault → Prefix → Judgement → Judgement
unless o log next = choose o (λ f. refused (Some log) (refusal.Log f)) next

-- ---- no item comes behind the end

judged_none : (rules : Rules) (j : Judgement) → judged rules j [] ≡ j
unfolding judged
judged_none rules j = refl

finished_stays : (rules : Rules) (log : Prefix) (last : List Event) (items : List Item) → judged rules (finished log last) items ≡ finished log last
unfolding judged
finished_stays rules log last [] = refl
finished_stays rules log last (i ∷ items) = finished_stays rules log last items

-- a fault that is there is the first
stops : (rules : Rules) (log : Prefix) (o : Option LogFault) (next : Judgement) (items : List Item)
    → judged rules (unless o log next) items ≡ unless o log (judged rules next items)
stops rules log None next items = refl
stops rules log (Some f) next items = refused-stays rules (Some log) (refusal.Log f) items

unnamed : (rules : Rules) (o : Option FormulaFault) (next : Judgement) (items : List Item)
    → judged rules (choose o (λ f. refused None (refusal.Formula f)) next) items ≡ choose o (λ f. refused None (refusal.Formula f)) (judged rules next items)
unnamed rules None next items = refl
unnamed rules (Some f) next items = refused-stays rules None (refusal.Formula f) items

-- ---- batch by batch

module _ (names : Lookup) (f : Formula) where
  abbrev pub rules : Rules
  rules = with_rules (λ h. names h.procs h.vars) (counters_in f)

  -- the first event of a filled batch in which a counter falls
  abbrev pub falls : Prefix → List Event → Option LogFault
  falls log b = fall_fault (states_of log) (counters_in f log.header) b

  -- filled batches without a fault of their clocks, of which the last ends the log
  abbrev pub closed_by : Prefix → List Event → List (List Event) → Judgement
  closed_by log b [] = unless (falls log b) log (finished log b)
  closed_by log b (c ∷ bs) = unless (falls log b) log (closed_by (followed_by log b) c bs)

  abbrev pub closed_all : Prefix → List (List Event) → Judgement
  closed_all log [] = growing log []
  closed_all log (b ∷ bs) = closed_by log b bs

  abbrev pub judged_log : Prefix → Judgement
  judged_log log = choose (names log.header.procs log.header.vars) (λ f. refused None (refusal.Formula f)) (closed_all (prefix_at log.header []) log.batches)

  -- of items behind a log, which without a formula lead to this one
  record Ends (before log : Prefix) (j : Judgement) : Type 0 where
    first : List Event
    rest : List (List Event)
    all : log ≡ prefix_at before.header (before.batches ++ first ∷ rest)
    is : j ≡ closed_by before first rest

  -- a filled batch without a fault of its clocks
  batch_is : (log : Prefix) (b : List Event) → without_formula.batch log b ≡ None → rules.batch log b ≡ falls log b
  batch_is log b none = go (falls log b)
    where
      free : clock_fault log b ≡ None
      free = (chosen_none (fall_fault (states_of log) [] b) (clock_fault log b) none).1

      go : (o : Option LogFault) → choose o (λ x. Some x) (clock_fault log b) ≡ o
      go None = free
      go (Some x) = refl

  closes : (log : Prefix) (b : List Event) (next : Judgement) → without_formula.batch log b ≡ None → closing rules log b next ≡ unless (falls log b) log next
  closes log b next none = ap (λ (o : Option LogFault). unless o log next) (batch_is log b none)

  abbrev Leads : Judgement → List Item → Prefix → Type 0
  Leads j items log = whole_of (judged without_formula j items) ≡ Some log

  never : (log : Prefix) (why : Refusal) (items : List Item) (whole : Prefix) → Leads (refused (Some log) why) items whole → ⊥
  never log why items whole leads =
      none-some whole (sym (ap whole_of (refused-stays without_formula (Some log) why items)) ∙ leads)

  on_close : (before : Prefix) (full : List Event) (items : List Item) (log : Prefix) (o : Option LogFault) → without_formula.batch before full ≡ o
      → Leads (unless o before (growing (followed_by before full) [])) items log
      → (Leads (growing (followed_by before full) []) items log → Ends (followed_by before full) log (judged rules (growing (followed_by before full) []) items))
      → Ends before log (judged rules (closing rules before full (growing (followed_by before full) [])) items)
  on_close before full items log (Some x) is leads behind = absurd (never before (refusal.Log x) items log leads)
  on_close before full items log None is leads behind =
      let later = behind leads in
      let next : Judgement = growing (followed_by before full) [] in
      record {
        first = full;
        rest = later.first ∷ later.rest;
        all = later.all ∙ ap (prefix_at before.header) (append_assoc before.batches (full ∷ []) (later.first ∷ later.rest));
        is = ap (λ (j : Judgement). judged rules j items) (closes before full next is)
            ∙ stops rules before (falls before full) next items
            ∙ ap (unless (falls before full) before) later.is;
      }

  on_end : (before : Prefix) (full : List Event) (items : List Item) (log : Prefix) (o : Option LogFault) → without_formula.batch before full ≡ o
      → Leads (unless o before (finished before full)) items log
      → Ends before log (judged rules (closing rules before full (finished before full)) items)
  on_end before full items log (Some x) is leads = absurd (never before (refusal.Log x) items log leads)
  on_end before full items log None is leads = record {
    first = full;
    rest = [];
    all = same_Some log (followed_by before full) (sym leads ∙ ap whole_of (finished_stays without_formula before full items));
    is = ap (λ (j : Judgement). judged rules j items) (closes before full (finished before full) is)
        ∙ stops rules before (falls before full) (finished before full) items
        ∙ ap (unless (falls before full) before) (finished_stays rules before full items);
  }

  ends : (before : Prefix) (since : List Event) (items : List Item) (log : Prefix) → Leads (growing before since) items log → Ends before log (judged rules (growing before since) items)
  unfolding judged
  ends before since [] log leads = absurd (none-some log leads)
  ends before since (item.Header h ∷ items) log leads = ends before since items log leads
  ends before since (item.Event e ∷ items) log leads = ends before (since ++ e ∷ []) items log leads
  ends before since (item.BatchEnd ∷ items) log leads =
      on_close before (with_clocks before since) items log (without_formula.batch before (with_clocks before since)) refl leads (ends (followed_by before (with_clocks before since)) [] items log)
  ends before since (item.End ∷ items) log leads =
      on_end before (with_clocks before since) items log (without_formula.batch before (with_clocks before since)) refl leads

  opens : (h : Header) (items : List Item) (log : Prefix) → Leads (growing (prefix_at h []) []) items log → judged rules (opened rules h) items ≡ judged_log log
  opens h items log leads =
      let all = ends (prefix_at h []) [] items log leads in
      unnamed rules (names h.procs h.vars) (growing (prefix_at h []) []) items
      ∙ ap (choose (names h.procs h.vars) (λ f. refused None (refusal.Formula f))) all.is
      ∙ ap judged_log (sym all.all)

  -- items that without a formula lead to a whole log
  pub rejudged : (items : List Item) (log : Prefix) → Leads waiting items log → judged rules waiting items ≡ judged_log log
  unfolding judged
  rejudged [] log leads = absurd (none-some log leads)
  rejudged (item.Header h ∷ items) log leads = opens h items log leads
  rejudged (item.Event e ∷ items) log leads = rejudged items log leads
  rejudged (item.BatchEnd ∷ items) log leads = rejudged items log leads
  rejudged (item.End ∷ items) log leads = rejudged items log leads

  -- ---- where a counter falls

  states_behind : (log : Prefix) (b : List Event) → states_of (followed_by log b) ≡ behind_batch (states_of log) b
  states_behind log b =
      ap (λ (ess : List (List Event)). record { header = log.header; events = ess }) (with_batches-push (no_events (length log.header.procs)) log.batches b)

  -- the first fall in batches behind a log
  abbrev pub first_behind : Prefix → List (List Event) → Option LogFault
  first_behind log bs = first_fall (states_of log) (counters_in f log.header) bs

  next_fall : (log : Prefix) (b : List Event) (bs : List (List Event)) → first_behind log (b ∷ bs) ≡ choose (falls log b) (λ x. Some x) (first_behind (followed_by log b) bs)
  unfolding first_fall
  next_fall log b bs =
      ap (λ (s : StatesView). choose (falls log b) (λ x. Some x) (first_fall s (counters_in f log.header) bs)) (sym (states_behind log b))

  no_batch : (log : Prefix) → first_behind log [] ≡ None
  unfolding first_fall
  no_batch log = refl

  -- a log is refused where a counter falls, and else it is whole
  abbrev IsClosed : Prefix → List Event → List (List Event) → Judgement → Option LogFault → Type 0
  IsClosed log b bs j None = (is_refused j ≡ false) × (whole_of j ≡ Some (prefix_at log.header (log.batches ++ b ∷ bs)))
  IsClosed log b bs j (Some x) = is_refused j ≡ true

  one_closed : (log : Prefix) (b : List Event) (o : Option LogFault) → IsClosed log b [] (unless o log (finished log b)) (choose o (λ x. Some x) None)
  one_closed log b None = (refl, refl)
  one_closed log b (Some x) = refl

  more_closed : (log : Prefix) (b c : List Event) (bs : List (List Event)) (j : Judgement) (o later : Option LogFault) → IsClosed (followed_by log b) c bs j later
      → IsClosed log b (c ∷ bs) (unless o log j) (choose o (λ x. Some x) later)
  more_closed log b c bs j None None is = (is.0, is.1 ∙ ap (λ (xs : List (List Event)). Some (prefix_at log.header xs)) (append_assoc log.batches (b ∷ []) (c ∷ bs)))
  more_closed log b c bs j None (Some x) is = is
  more_closed log b c bs j (Some x) later is = refl

  closed_so : (log : Prefix) (b : List Event) (bs : List (List Event)) → IsClosed log b bs (closed_by log b bs) (first_behind log (b ∷ bs))
  closed_so log b [] =
      subst (IsClosed log b [] (closed_by log b []))
      (ap (choose (falls log b) (λ x. Some x)) (sym (no_batch (followed_by log b))) ∙ sym (next_fall log b [])) (one_closed log b (falls log b))
  closed_so log b (c ∷ bs) =
      subst (IsClosed log b (c ∷ bs) (closed_by log b (c ∷ bs))) (sym (next_fall log b (c ∷ bs)))
      (more_closed log b c bs (closed_by (followed_by log b) c bs) (falls log b) (first_behind (followed_by log b) (c ∷ bs)) (closed_so (followed_by log b) c bs))

  -- the first fall in all of a log, and the first name that it lacks
  abbrev pub all_falls : Prefix → Option LogFault
  all_falls log = first_behind (prefix_at log.header []) log.batches

  abbrev pub lacks : Prefix → Option FormulaFault
  lacks log = names log.header.procs log.header.vars

  -- a log is refused where it lacks a name or a counter falls, and else it is whole
  abbrev pub IsJudged : Prefix → Judgement → Option FormulaFault → Option LogFault → Type 0
  IsJudged log j None None = (is_refused j ≡ false) × (whole_of j ≡ Some log)
  IsJudged log j None (Some x) = is_refused j ≡ true
  IsJudged log j (Some y) fall = is_refused j ≡ true

  named : (log : Prefix) (b : List Event) (bs : List (List Event)) (j : Judgement) (o : Option LogFault) → IsClosed (prefix_at log.header []) b bs j o → IsJudged (prefix_at log.header (b ∷ bs)) j None o
  named log b bs j None is = is
  named log b bs j (Some x) is = is

  pub judged_so : (log : Prefix) → 0 < length log.batches → IsJudged log (judged_log log) (lacks log) (all_falls log)
  judged_so log some = go log.batches some (lacks log)
    where
      go : (bs : List (List Event)) → 0 < length bs → (o : Option FormulaFault)
          → IsJudged (prefix_at log.header bs) (choose o (λ x. refused None (refusal.Formula x)) (closed_all (prefix_at log.header []) bs)) o (first_behind (prefix_at log.header []) bs)
      go [] some o = absurd (omega (arith, some))
      go (b ∷ bs) some (Some y) = refl
      go (b ∷ bs) some None = named log b bs (closed_by (prefix_at log.header []) b bs) (first_behind (prefix_at log.header []) (b ∷ bs)) (closed_so (prefix_at log.header []) b bs)

  refused_so : (log : Prefix) (j : Judgement) (o : Option FormulaFault) (fall : Option LogFault) → IsJudged log j o fall → is_refused j ≡ (is_some o || is_some fall)
  refused_so log j None None is = is.0
  refused_so log j None (Some x) is = is
  refused_so log j (Some y) fall is = is

  whole_so : (log : Prefix) (j : Judgement) (o : Option FormulaFault) (fall : Option LogFault) → IsJudged log j o fall → is_refused j ≡ false → whole_of j ≡ Some log
  whole_so log j None None is free = is.1
  whole_so log j None (Some x) is free = absurd (true≢false (sym is ∙ free))
  whole_so log j (Some y) fall is free = absurd (true≢false (sym is ∙ free))

  pub is_whole : (log : Prefix) → 0 < length log.batches → is_refused (judged_log log) ≡ false → whole_of (judged_log log) ≡ Some log
  is_whole log some = whole_so log (judged_log log) (lacks log) (all_falls log) (judged_so log some)

  pub refused_alike : (log other : Prefix) → 0 < length log.batches → 0 < length other.batches → lacks log ≡ lacks other → all_falls log ≡ all_falls other
      → is_refused (judged_log log) ≡ is_refused (judged_log other)
  refused_alike log other some others names_same falls_same =
      refused_so log (judged_log log) (lacks log) (all_falls log) (judged_so log some)
      ∙ (λ i. is_some (names_same i) || is_some (falls_same i))
      ∙ sym (refused_so other (judged_log other) (lacks other) (all_falls other) (judged_so other others))

-- ---- in one batch

choose_if : (here : Bool) (x : LogFault) (o other : Option LogFault) → (if here then Some x else choose o (λ y. Some y) other) ≡ choose (if here then Some x else o) (λ y. Some y) other
choose_if true x o other = refl
choose_if false x o other = refl

joined_fall : (s : StatesView) (counters : List Variable) (xs ys : List Event)
    → fall_fault s counters (xs ++ ys) ≡ choose (fall_fault s counters xs) (λ x. Some x) (fall_fault (behind_batch s xs) counters ys)
unfolding with_batch fall_fault
joined_fall s counters [] ys = refl
joined_fall s counters (e ∷ xs) ys =
    ap (λ (o : Option LogFault). if list_any (is_lowered s e) counters then Some (fall_of e) else o) (joined_fall (behind_event s e) counters xs ys)
    ∙ choose_if (list_any (is_lowered s e) counters) (fall_of e) (fall_fault (behind_event s e) counters xs) (fall_fault (behind_batch (behind_event s e) xs) counters ys)

none_behind : (s : StatesView) (counters : List Variable) → fall_fault s counters [] ≡ None
unfolding fall_fault
none_behind s counters = refl

-- the first fall in batches is that of all their events in one
one_fall : (s : StatesView) (counters : List Variable) (bs : List (List Event)) → first_fall s counters bs ≡ fall_fault s counters (all_events bs)
unfolding first_fall
one_fall s counters [] = sym (none_behind s counters)
one_fall s counters (b ∷ bs) =
    ap (choose (fall_fault s counters b) (λ x. Some x)) (one_fall (behind_batch s b) counters bs)
    ∙ sym (joined_fall s counters b (all_events bs))

some_or_none : (o : Option LogFault) → choose o (λ x. Some x) None ≡ o
some_or_none None = refl
some_or_none (Some x) = refl

alone : (s : StatesView) (counters : List Variable) (b : List Event) → first_fall s counters (b ∷ []) ≡ fall_fault s counters b
unfolding first_fall
alone s counters b = some_or_none (fall_fault s counters b)

pub same_falls : (s : StatesView) (counters : List Variable) (one : Bool) (bs : List (List Event)) → first_fall s counters (batches_by one bs) ≡ first_fall s counters bs
same_falls s counters false bs = refl
same_falls s counters true bs = alone s counters (all_events bs) ∙ sym (one_fall s counters bs)
