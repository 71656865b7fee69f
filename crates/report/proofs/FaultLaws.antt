-- The line of the fault.
use Rattle.std.proofs.Common.{◌≡◌, ℕ, zero, suc, ◌+◌, ◌^◌, ◌<◌, ◌≤◌, Bool, true, false, Option, Some, None, List, [], ◌∷◌, ◌++◌, length, map, refl, sym, ap, subst, ◌∙◌, arith, inl, inr, append_assoc, append-nil}
use Rattle.std.specs.Prelude.{IfSome, ◌⊎◌}
use Rattle.std.specs.Str.{bytes_eq}
use Rattle.std.specs.List.{AllByRecursion}
use Rattle.std.proofs.lemmas.Bool.{cases_lt}
use Rattle.std.proofs.lemmas.List.{length-append, append_cancel_left}
use Rattle.std.proofs.lemmas.Option.{same_Some, cond_some}
use Rattle.std.proofs.lemmas.Slice.Eq.{bytes_eq-Decides}
use Rattle.pota_base.specs.declared.shape.EventId.{EventId}
use Rattle.pota_base.specs.Shape.{HasEvent}
use Rattle.pota_base.specs.Number.{◌>>=◌}
use Rattle.log_lines.specs.Names.{Name}
use Rattle.log_lines.specs.Spelling.{end_line}
use Rattle.log_lines.proofs.WordLaws.{bind_some}
use Rattle.event_log.specs.Before.{Line}
use Rattle.event_log.specs.LogText.{text_of}
use Rattle.event_log.specs.Moments.{HasNoFeed}
use Rattle.event_log.proofs.Lists.{all_append, all_push}
use Rattle.event_log.proofs.Appends.{text_of-append}
use Rattle.witness_kinds.specs.declared.Witness.{Witness}
use Rattle.witness_kinds.specs.declared.Witness.TheVariants as witness
use Rattle.report_lines.specs.PassedOn.{Edge}
use Rattle.report_lines.specs.declared.kinds.WitnessText.{WitnessText}
use Rattle.report_lines.specs.Spelling.{title, step_line, edge_line, EdgeFits, WitnessFits, WitnessTextFits, RunFits}
use Rattle.report_lines.specs.Reading.{is_title, steps_of}
use Rattle.report_lines.proofs.Plain.{title_plain, end_plain, batch_plain, procs_plain, lengths_plain, formula_plain, verdict_plain, slice_plain, edge_plain, witness_plain, step_plain}
use Rattle.report.specs.declared.report.SliceText.{SliceText}
use Rattle.report.specs.declared.report.Report.{Report}
use Rattle.report.specs.declared.draft.Draft.{Draft}
use Rattle.report.specs.declared.draft.Draft.TheVariants as draft
use Rattle.report.specs.Spelling.{IsWellFormed, SliceFits, slice_lines, lines_of_slice, witness_lines, lines_of_witnesses, head_lines, body_lines, report_lines, report_text}
use Rattle.report.specs.Fault.{feeds, BeginsReport, IsFront, IsLongestFront, IsFaultIn, IsTextOf}
use Rattle.report.specs.Machine.{step, IsGood}
use Rattle.report.specs.inside.Machine.{run, IsUnfinished, lines_of}
use Rattle.report.proofs.Kept.{run_reached}
use Rattle.report.proofs.Ends.{can_end}
use Rattle.report.proofs.Taken.{run_then, run_split, report_run}
use Rattle.report.proofs.TextLines.{ArePlain, feeds-append, feeds-plain, feeds-text, continues, no_lines, longer_front}

-- ---- no line of a report holds a line feed

edges_plain : (r : Report) → RunFits r.procs r.lengths → (es : List Edge) → AllByRecursion (EdgeFits r.lengths) es → ArePlain (map (edge_line r.procs) es)
edges_plain r run_fits [] fits = tt
edges_plain r run_fits (e ∷ es) fits = (edge_plain r.procs r.lengths run_fits e fits.0, edges_plain r run_fits es fits.1)

slice_part_plain : (r : Report) → RunFits r.procs r.lengths → (o : Option SliceText) → IfSome o (SliceFits r.lengths) → ArePlain (lines_of_slice r.procs o)
slice_part_plain r run_fits None fits = tt
slice_part_plain r run_fits (Some s) fits = (slice_plain r.procs r.lengths run_fits s.bounds fits.bounds, edges_plain r run_fits s.edges fits.edges)

steps_plain : (r : Report) → RunFits r.procs r.lengths → (es : List EventId) → AllByRecursion (HasEvent r.lengths) es → ArePlain (map (step_line r.procs) es)
steps_plain r run_fits [] fits = tt
steps_plain r run_fits (e ∷ es) fits = (step_plain r.procs r.lengths run_fits e fits.0, steps_plain r run_fits es fits.1)

walk_plain : (r : Report) → RunFits r.procs r.lengths → (w : Witness) → WitnessFits r.lengths w → ArePlain (map (step_line r.procs) (steps_of w))
walk_plain r run_fits witness.Nothing fits = tt
walk_plain r run_fits (witness.Reach path) fits = steps_plain r run_fits path.steps fits.steps
walk_plain r run_fits (witness.Against path) fits = steps_plain r run_fits path.steps fits.steps
walk_plain r run_fits (witness.Always path) fits = steps_plain r run_fits path.steps fits.steps
walk_plain r run_fits witness.StuckStart fits = tt
walk_plain r run_fits witness.StuckFinish fits = tt
walk_plain r run_fits (witness.StuckPair first other) fits = tt

witnesses_plain : (r : Report) → RunFits r.procs r.lengths → (ws : List WitnessText) → AllByRecursion (WitnessTextFits r.lengths) ws → ArePlain (lines_of_witnesses r.procs ws)
witnesses_plain r run_fits [] fits = tt
witnesses_plain r run_fits (w ∷ ws) fits =
    all_append HasNoFeed (witness_lines r.procs w) (lines_of_witnesses r.procs ws) (witness_plain r.procs r.lengths run_fits w fits.0, walk_plain r run_fits w.witness fits.0.witness) (witnesses_plain r run_fits ws fits.1)

pub report_plain : (r : Report) → IsWellFormed r → ArePlain (report_lines r)
report_plain r fits =
    let head : ArePlain (head_lines r) = (title_plain, (batch_plain r.batch fits.batch, (procs_plain r.procs r.lengths fits.run, (lengths_plain r.procs r.lengths fits.run.lengths, (formula_plain r.formula fits.formula, (verdict_plain r.verdict, tt)))))) in
    let slices = lines_of_slice r.procs r.slice in
    let witnesses = lines_of_witnesses r.procs r.witnesses in
    let parts : ArePlain (slices ++ witnesses) = all_append HasNoFeed slices witnesses (slice_part_plain r fits.run r.slice fits.slice) (witnesses_plain r fits.run r.witnesses fits.witnesses) in
    all_append HasNoFeed (body_lines r) (end_line ∷ []) (all_append HasNoFeed (head_lines r) (slices ++ witnesses) head parts) (end_plain, tt)

-- ---- how far the lines have come

-- these lines of the text were taken
pub record AreTaken (text rest : List ℕ) (line : ℕ) (d : Draft) : Type 0 where
  pub lines : List Line
  pub text_is : text ≡ text_of lines ++ rest
  pub taken : run draft.Start lines ≡ Some d
  pub line_is : line ≡ 1 + length lines
  pub plain : ArePlain lines

pub none_taken : (text : List ℕ) → AreTaken text text 1 draft.Start
unfolding run
none_taken text = record { lines = []; text_is = refl; taken = refl; line_is = refl; plain = tt }

pub taken_good : (text rest : List ℕ) (line : ℕ) (d : Draft) → AreTaken text rest line d → IsGood d
taken_good text rest line d t = (run_reached draft.Start t.lines d tt t.taken).good

pub one_taken : (text rest front after : List ℕ) (line : ℕ) (d e : Draft) → AreTaken text rest line d → HasNoFeed front → rest ≡ front ++ 10 ∷ after → step d front ≡ Some e → AreTaken text after (line + 1) e
unfolding run
one_taken text rest front after line d e t plain split next = record {
  lines = t.lines ++ front ∷ [];
  text_is = t.text_is ∙ ap (λ (r : List ℕ). text_of t.lines ++ r) split ∙ sym (ap (λ (x : List ℕ). x ++ after) (text_of-append t.lines (front ∷ [])) ∙ append_assoc (text_of t.lines) (front ++ 10 ∷ []) after
      ∙ ap (λ (x : List ℕ). text_of t.lines ++ x) (append_assoc front (10 ∷ []) after));
  taken = run_then draft.Start t.lines (front ∷ []) d t.taken ∙ rw next refl;
  line_is = omega (arith, t.line_is, length-append t.lines (front ∷ []));
  plain = all_push HasNoFeed t.lines front t.plain plain;
}

lines_short : (ls : List Line) → length ls ≤ length (text_of ls)
lines_short [] = omega arith
lines_short (l ∷ ls) = omega (arith, length-append l (10 ∷ text_of ls), lines_short ls)

-- the first line has more than two bytes
first_long : (ls : List Line) (d : Draft) → run draft.Start ls ≡ Some d → (length ls ≡ 0) ⊎ (length ls + 2 ≤ length (text_of ls))
unfolding run step
first_long [] d h = inl refl
first_long (l ∷ ls) d h =
    let b = bind_some (step draft.Start l) _ d h in
    let word = (bytes_eq-Decides l title).0 (cond_some (is_title l) draft.Titled b.0 b.1).0 in
    inr (omega (arith, ap length word, length-append l (10 ∷ text_of ls), lines_short ls))

-- a line's number has room for one more
pub line_room : (text rest front after : List ℕ) (line : ℕ) (d : Draft) → AreTaken text rest line d → rest ≡ front ++ 10 ∷ after → length text < 2 ^ 64 → line + 1 < 2 ^ 64
line_room text rest front after line d t split small = elim (first_long t.lines d t.taken) [
  | inl none ↦ omega (arith, t.line_is, none)
  | inr long ↦ omega (arith, t.line_is, long, length-append (text_of t.lines) rest, ap length t.text_is)
]

-- ---- no report goes on from there

-- the front that the lines are, and no other with more line feeds
fault_at : (text rest : List ℕ) (line : ℕ) (d : Draft) → (t : AreTaken text rest line d) → ((r : Report) → IsWellFormed r → text ≡ report_text r → ⊥)
    → ((other : List ℕ) → IsFront text other → feeds other ≤ length t.lines) → IsFaultIn text line
fault_at text rest line d t none most =
    let reached = run_reached draft.Start t.lines d tt t.taken in
    let ends = can_end d reached.good in
    let front = text_of t.lines in
    let feeds_are : feeds front ≡ length t.lines = feeds-text t.lines t.plain in
    let line_is : line ≡ 1 + feeds front = t.line_is ∙ ap (λ (n : ℕ). 1 + n) (sym feeds_are) in
    let text_is : report_text ends.report ≡ front ++ text_of ends.rest = ap text_of (ends.lines_are ∙ ap (λ (ls : List Line). ls ++ ends.rest) reached.lines_are) ∙ text_of-append t.lines ends.rest in
    let is_front : IsFront text front = record { rest = rest; text_is = t.text_is; begins = record { report = ends.report; fits = ends.fits; rest = text_of ends.rest; text_is = text_is } } in
    let below : (other : List ℕ) → IsFront text other → feeds other ≤ feeds front = λ other f. omega (arith, most other f, feeds_are) in
    record {
      none = none;
      front = front;
      is_front = is_front;
      line_is = line_is;
      most = below;
      longest = λ other l. omega (arith, line_is, below other l.is, longer_front front other rest l.is.rest (sym t.text_is ∙ l.is.text_is) (l.longest front is_front));
    }

module _ (text rest : List ℕ) (line : ℕ) (d : Draft) (t : AreTaken text rest line d) where
  -- a line that is not taken
  pub refused_line : (front after : List ℕ) → HasNoFeed front → rest ≡ front ++ 10 ∷ after → step d front ≡ None → IsFaultIn text line
  unfolding run
  refused_line front after plain split refused =
      let all = t.lines ++ front ∷ [] in
      let text_is : text ≡ text_of all ++ after = t.text_is ∙ ap (λ (r : List ℕ). text_of t.lines ++ r) split ∙ sym (ap (λ (x : List ℕ). x ++ after) (text_of-append t.lines (front ∷ [])) ∙ append_assoc (text_of t.lines) (front ++ 10 ∷ []) after
      ∙ ap (λ (x : List ℕ). text_of t.lines ++ x) (append_assoc front (10 ∷ []) after)) in
      let all_plain : ArePlain all = all_push HasNoFeed t.lines front t.plain plain in
      let count : length all ≡ length t.lines + 1 = length-append t.lines (front ∷ []) in
      let stops : (r : Report) → IsWellFormed r → (p x y : List ℕ) → p ++ x ≡ text → p ++ y ≡ report_text r → length all ≤ feeds p → ⊥ = λ r fits p x y e f enough.
      let on = continues all (report_lines r) after p x y all_plain (report_plain r fits) (e ∙ text_is) f enough in
      let lines : report_lines r ≡ t.lines ++ front ∷ on.more = on.lines_are ∙ append_assoc t.lines (front ∷ []) on.more in
      let ran : run draft.Start (t.lines ++ front ∷ on.more) ≡ Some (draft.Over r) = ap (run draft.Start) (sym lines) ∙ report_run r fits in
      let next : run d (front ∷ on.more) ≡ Some (draft.Over r) = sym (run_then draft.Start t.lines (front ∷ on.more) d t.taken) ∙ ran in
      stuck r on.more next in
      fault_at text rest line d t
      (λ r fits same. stops r fits text [] [] (append-nil text) (append-nil text ∙ same) (omega (arith, count, ap feeds text_is, feeds-append (text_of all) after, feeds-text all all_plain)))
      (λ other f. elim (cases_lt (length t.lines) (feeds other)) [
        | inl more ↦ absurd (stops f.begins.report f.begins.fits other f.rest f.begins.rest (sym f.text_is) (sym f.begins.text_is) (omega (arith, count)))
        | inr few ↦ few
      ])
    where
      stuck : (r : Report) (more : List Line) → run d (front ∷ more) ≡ Some (draft.Over r) → ⊥
      stuck r more ran =
          let b = bind_some (step d front) _ (draft.Over r) ran in
          absurd (cc (sym refused ∙ b.1))

  -- a text that ends too early
  pub cut_short : HasNoFeed rest → IsUnfinished d rest → IsFaultIn text line
  cut_short plain unfinished =
      let feeds_are : feeds text ≡ length t.lines = ap feeds t.text_is ∙ feeds-append (text_of t.lines) rest ∙ rw (feeds-plain rest plain, feeds-text t.lines t.plain) (omega arith) in
      fault_at text rest line d t
      (λ r fits same.
      let on = continues t.lines (report_lines r) rest text [] [] t.plain (report_plain r fits) (append-nil text ∙ t.text_is) (append-nil text ∙ same) (omega (arith, feeds_are)) in
      let left : rest ≡ text_of on.more = append_cancel_left (text_of t.lines) rest (text_of on.more) (sym t.text_is ∙ same ∙ ap text_of on.lines_are ∙ text_of-append t.lines on.more) in
      let none : on.more ≡ [] = no_lines on.more (subst HasNoFeed left plain) in
      let lines : report_lines r ≡ t.lines = on.lines_are ∙ ap (λ (ls : List Line). t.lines ++ ls) none ∙ append-nil t.lines in
      let over : d ≡ draft.Over r = same_Some _ _ (sym t.taken ∙ ap (run draft.Start) (sym lines) ∙ report_run r fits) in
      unfinished r over (left ∙ ap text_of none))
      (λ other f. omega (arith, feeds_are, ap feeds f.text_is, feeds-append other f.rest))

-- ---- a whole report

pub whole_report : (text rest : List ℕ) (line : ℕ) (d : Draft) (r : Report) → AreTaken text rest line d → d ≡ draft.Over r → rest ≡ [] → IsTextOf text r
whole_report text rest line d r t over none =
    let reached = run_reached draft.Start t.lines d tt t.taken in
    let fits : IsWellFormed r = subst IsGood over reached.good in
    let lines : report_lines r ≡ t.lines = sym (ap lines_of over) ∙ reached.lines_are in
    record { fits = fits; text_is = t.text_is ∙ ap (λ (x : List ℕ). text_of t.lines ++ x) none ∙ append-nil (text_of t.lines) ∙ ap text_of (sym lines) }

one_over : (r q : Report) → ◌≡◌ {A = Option Draft} (Some (draft.Over q)) (Some (draft.Over r)) → r ≡ q
one_over r q h = cc

-- behind the end no line comes
over_ends : (r q : Report) (more : List Line) → run (draft.Over q) more ≡ Some (draft.Over r) → r ≡ q
unfolding run step
over_ends r q [] h = one_over r q h
over_ends r q (l ∷ more) h = absurd cc

-- equal texts, equal reports
pub one_report : (r q : Report) → IsWellFormed r → IsWellFormed q → report_text r ≡ report_text q → r ≡ q
one_report r q fr fq same =
    let on = continues (report_lines q) (report_lines r) [] (report_text r) [] [] (report_plain q fq) (report_plain r fr) (ap (λ (t : List ℕ). t ++ []) same) (append-nil (report_text r)) (omega (arith, ap feeds same, feeds-text (report_lines q) (report_plain q fq))) in
    let split = run_split draft.Start (report_lines q) on.more (draft.Over r) (ap (run draft.Start) (sym on.lines_are) ∙ report_run r fr) in
    let over : draft.Over q ≡ split.middle = same_Some _ _ (sym (report_run q fq) ∙ split.first) in
    over_ends r q on.more (ap (λ (d : Draft). run d on.more) over ∙ split.second)
