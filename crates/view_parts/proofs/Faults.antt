-- The line at which no reports go on.
use Rattle.std.proofs.Common.{◌≡◌, ℕ, ◌+◌, ◌^◌, ◌<◌, ◌≤◌, Option, Some, None, List, [], ◌∷◌, ◌++◌, length, refl, sym, ap, subst, ◌∙◌, arith, inl, inr, append_assoc, append-nil}
use Rattle.std.specs.Prelude.{◌⊎◌}
use Rattle.std.specs.List.{AllByRecursion}
use Rattle.std.proofs.lemmas.Bool.{cases_lt}
use Rattle.std.proofs.lemmas.List.{length-append, append_cancel_left}
use Rattle.std.proofs.lemmas.Option.{same_Some, cond_some}
use Rattle.std.proofs.lemmas.Slice.Eq.{bytes_eq-Decides}
use Rattle.log_lines.proofs.WordLaws.{bind_some}
use Rattle.event_log.specs.Before.{Line}
use Rattle.event_log.specs.LogText.{text_of}
use Rattle.event_log.specs.Moments.{HasNoFeed}
use Rattle.event_log.proofs.Appends.{text_of-append}
use Rattle.event_log.proofs.Lists.{all_push}
use Rattle.report_lines.specs.Spelling.{title}
use Rattle.report_lines.specs.Reading.{is_title}
use Rattle.report.specs.declared.report.Report.{Report}
use Rattle.report.specs.declared.draft.Draft.{Draft}
use Rattle.report.specs.declared.draft.Draft.TheVariants as draft
use Rattle.report.specs.Fault.{feeds}
use Rattle.report.specs.Spelling.{IsWellFormed, report_lines, report_text}
use Rattle.report.specs.Machine.{step, IsGood}
use Rattle.report.specs.inside.Machine.{lines_of, IsUnfinished}
use Rattle.report.proofs.Ends.{can_end}
use Rattle.report.proofs.TextLines.{ArePlain, feeds-append, feeds-plain, feeds-text, continues, no_lines, longer_front}
use Rattle.view_parts.specs.Series.{texts_of, IsLastOf, BeginsReports, IsFrontOf, IsFaultInAll}
use Rattle.view_parts.specs.inside.Machine.{all_lines, begun_anew, run_on}
use Rattle.view_parts.proofs.Running.{text_of_all, lines_push, texts_push, all_plain, run_on_then, several_run, last_run, IsReachedOn, reached_on}

-- ---- how far the lines have come

-- these lines of the text were taken
pub record AreTakenOn (text rest : List ℕ) (line : ℕ) (d : Draft) : Type 0 where
  pub lines : List Line
  pub text_is : text ≡ text_of lines ++ rest
  pub taken : run_on draft.Start lines ≡ Some d
  pub line_is : line ≡ 1 + length lines
  pub plain : ArePlain lines

pub none_taken : (text : List ℕ) → AreTakenOn text text 1 draft.Start
unfolding run_on
none_taken text = record { lines = []; text_is = refl; taken = refl; line_is = refl; plain = tt }

-- what was taken is whole reports, and a part of one behind them
pub reached : (text rest : List ℕ) (line : ℕ) (d : Draft) → (t : AreTakenOn text rest line d) → IsReachedOn t.lines d
reached text rest line d t = reached_on [] tt draft.Start tt t.lines d t.taken

pub one_taken : (text rest front after : List ℕ) (line : ℕ) (d e : Draft) → AreTakenOn text rest line d → HasNoFeed front → rest ≡ front ++ 10 ∷ after → step (begun_anew d) front ≡ Some e → AreTakenOn text after (line + 1) e
unfolding run_on
one_taken text rest front after line d e t plain split next = record {
  lines = t.lines ++ front ∷ [];
  text_is = t.text_is ∙ ap (λ (r : List ℕ). text_of t.lines ++ r) split ∙ sym (ap (λ (x : List ℕ). x ++ after) (text_of-append t.lines (front ∷ [])) ∙ append_assoc (text_of t.lines) (front ++ 10 ∷ []) after
      ∙ ap (λ (x : List ℕ). text_of t.lines ++ x) (append_assoc front (10 ∷ []) after));
  taken = run_on_then draft.Start t.lines (front ∷ []) d t.taken ∙ rw next refl;
  line_is = omega (arith, t.line_is, length-append t.lines (front ∷ []));
  plain = all_push HasNoFeed t.lines front t.plain plain;
}

lines_short : (ls : List Line) → length ls ≤ length (text_of ls)
lines_short [] = omega arith
lines_short (l ∷ ls) = omega (arith, length-append l (10 ∷ text_of ls), lines_short ls)

-- the first line has more than two bytes
first_long : (ls : List Line) (d : Draft) → run_on draft.Start ls ≡ Some d → (length ls ≡ 0) ⊎ (length ls + 2 ≤ length (text_of ls))
unfolding run_on step
first_long [] d h = inl refl
first_long (l ∷ ls) d h =
    let b = bind_some (step draft.Start l) _ d h in
    let word = (bytes_eq-Decides l title).0 (cond_some (is_title l) draft.Titled b.0 b.1).0 in
    inr (omega (arith, ap length word, length-append l (10 ∷ text_of ls), lines_short ls))

-- a line's number has room for one more
pub line_room : (text rest front after : List ℕ) (line : ℕ) (d : Draft) → AreTakenOn text rest line d → rest ≡ front ++ 10 ∷ after → length text < 2 ^ 64 → line + 1 < 2 ^ 64
line_room text rest front after line d t split small = elim (first_long t.lines d t.taken) [
  | inl none ↦ omega (arith, t.line_is, none)
  | inr long ↦ omega (arith, t.line_is, long, length-append (text_of t.lines) rest, ap length t.text_is)
]

-- ---- no reports go on from there

-- the reports of a text, the last one among them
abbrev whole : (text : List ℕ) (r : Report) → IsLastOf text r → List Report
whole text r is = is.before ++ r ∷ []

whole_each : (text : List ℕ) (r : Report) (is : IsLastOf text r) → AllByRecursion IsWellFormed (whole text r is)
whole_each text r is = all_push IsWellFormed is.before r is.each is.fits

whole_text : (text : List ℕ) (r : Report) (is : IsLastOf text r) → text ≡ texts_of (whole text r is)
whole_text text r is = is.text_is ∙ sym (texts_push is.before r)

whole_run : (text : List ℕ) (r : Report) (is : IsLastOf text r) → run_on draft.Start (all_lines (whole text r is)) ≡ Some (draft.Over r)
whole_run text r is = ap (run_on draft.Start) (lines_push is.before r) ∙ last_run is.before r is.each is.fits

-- the front that the lines are, and no other with more line feeds
fault_at : (text rest : List ℕ) (line : ℕ) (d : Draft) → (t : AreTakenOn text rest line d) → ((r : Report) → IsLastOf text r → ⊥)
    → ((other : List ℕ) → IsFrontOf text other → feeds other ≤ length t.lines) → IsFaultInAll text line
fault_at text rest line d t none most =
    let got = reached text rest line d t in
    let ends = can_end d got.good in
    let front = text_of t.lines in
    let reports = got.before ++ ends.report ∷ [] in
    let feeds_are : feeds front ≡ length t.lines = feeds-text t.lines t.plain in
    let line_is : line ≡ 1 + feeds front = t.line_is ∙ ap (λ (n : ℕ). 1 + n) (sym feeds_are) in
    let lines_are : all_lines reports ≡ t.lines ++ ends.rest =
    lines_push got.before ends.report ∙ ap (λ (ls : List Line). all_lines got.before ++ ls) ends.lines_are
    ∙ sym (append_assoc (all_lines got.before) (lines_of d) ends.rest) ∙ ap (λ (ls : List Line). ls ++ ends.rest) (sym got.lines_are) in
    let text_is : texts_of reports ≡ front ++ text_of ends.rest = sym (text_of_all reports) ∙ ap text_of lines_are ∙ text_of-append t.lines ends.rest in
    let begins : BeginsReports front = record { reports = reports; each = all_push IsWellFormed got.before ends.report got.each ends.fits; rest = text_of ends.rest; text_is = text_is } in
    let is_front : IsFrontOf text front = record { rest = rest; text_is = t.text_is; begins = begins } in
    let below : (other : List ℕ) → IsFrontOf text other → feeds other ≤ feeds front = λ other f. omega (arith, most other f, feeds_are) in
    record {
      none = none;
      front = front;
      is_front = is_front;
      line_is = line_is;
      most = below;
      longest = λ other l. omega (arith, line_is, below other l.is, longer_front front other rest l.is.rest (sym t.text_is ∙ l.is.text_is) (l.longest front is_front));
    }

module _ (text rest : List ℕ) (line : ℕ) (d : Draft) (t : AreTakenOn text rest line d) where
  -- a line that is not taken
  pub refused_line : (front after : List ℕ) → HasNoFeed front → rest ≡ front ++ 10 ∷ after → step (begun_anew d) front ≡ None → IsFaultInAll text line
  unfolding run_on
  refused_line front after plain split refused =
      let all = t.lines ++ front ∷ [] in
      let text_is : text ≡ text_of all ++ after = t.text_is ∙ ap (λ (r : List ℕ). text_of t.lines ++ r) split ∙ sym (ap (λ (x : List ℕ). x ++ after) (text_of-append t.lines (front ∷ [])) ∙ append_assoc (text_of t.lines) (front ++ 10 ∷ []) after
      ∙ ap (λ (x : List ℕ). text_of t.lines ++ x) (append_assoc front (10 ∷ []) after)) in
      let each_plain : ArePlain all = all_push HasNoFeed t.lines front t.plain plain in
      let count : length all ≡ length t.lines + 1 = length-append t.lines (front ∷ []) in
      let stops : (rs : List Report) → AllByRecursion IsWellFormed rs → (p x y : List ℕ) → p ++ x ≡ text → p ++ y ≡ texts_of rs → length all ≤ feeds p → ⊥ = λ rs each p x y e f enough.
      let on = continues all (all_lines rs) after p x y each_plain (all_plain rs each) (e ∙ text_is) (f ∙ sym (text_of_all rs)) enough in
      let lines : all_lines rs ≡ t.lines ++ front ∷ on.more = on.lines_are ∙ append_assoc t.lines (front ∷ []) on.more in
      let several = several_run rs draft.Start refl each in
      let ran : run_on draft.Start (t.lines ++ front ∷ on.more) ≡ Some several.0 = ap (run_on draft.Start) (sym lines) ∙ several.1 in
      let next : run_on d (front ∷ on.more) ≡ Some several.0 = sym (run_on_then draft.Start t.lines (front ∷ on.more) d t.taken) ∙ ran in
      stuck several.0 on.more next in
      fault_at text rest line d t
      (λ r is. stops (whole text r is) (whole_each text r is) text [] [] (append-nil text) (append-nil text ∙ whole_text text r is)
      (omega (arith, count, ap feeds text_is, feeds-append (text_of all) after, feeds-text all each_plain)))
      (λ other f. elim (cases_lt (length t.lines) (feeds other)) [
        | inl more ↦ absurd (stops f.begins.reports f.begins.each other f.rest f.begins.rest (sym f.text_is) (sym f.begins.text_is) (omega (arith, count)))
        | inr few ↦ few
      ])
    where
      stuck : (e : Draft) (more : List Line) → run_on d (front ∷ more) ≡ Some e → ⊥
      stuck e more ran =
          let b = bind_some (step (begun_anew d) front) _ e ran in
          absurd (cc (sym refused ∙ b.1))

  -- a text that ends too early
  pub cut_short : HasNoFeed rest → IsUnfinished d rest → IsFaultInAll text line
  cut_short plain unfinished =
      let feeds_are : feeds text ≡ length t.lines = ap feeds t.text_is ∙ feeds-append (text_of t.lines) rest ∙ rw (feeds-plain rest plain, feeds-text t.lines t.plain) (omega arith) in
      fault_at text rest line d t
      (λ r is.
      let rs = whole text r is in
      let same : text ≡ text_of (all_lines rs) = whole_text text r is ∙ sym (text_of_all rs) in
      let on = continues t.lines (all_lines rs) rest text [] [] t.plain (all_plain rs (whole_each text r is)) (append-nil text ∙ t.text_is) (append-nil text ∙ same) (omega (arith, feeds_are)) in
      let left : rest ≡ text_of on.more = append_cancel_left (text_of t.lines) rest (text_of on.more) (sym t.text_is ∙ same ∙ ap text_of on.lines_are ∙ text_of-append t.lines on.more) in
      let none : on.more ≡ [] = no_lines on.more (subst HasNoFeed left plain) in
      let lines : all_lines rs ≡ t.lines = on.lines_are ∙ ap (λ (ls : List Line). t.lines ++ ls) none ∙ append-nil t.lines in
      let over : d ≡ draft.Over r = same_Some _ _ (sym t.taken ∙ ap (run_on draft.Start) (sym lines) ∙ whole_run text r is) in
      unfinished r over (left ∙ ap text_of none))
      (λ other f. omega (arith, feeds_are, ap feeds f.text_is, feeds-append other f.rest))

-- ---- whole reports

pub whole_reports : (text rest : List ℕ) (line : ℕ) (d : Draft) (r : Report) → AreTakenOn text rest line d → d ≡ draft.Over r → rest ≡ [] → IsLastOf text r
whole_reports text rest line d r t over none =
    let got = reached text rest line d t in
    let lines : t.lines ≡ all_lines got.before ++ report_lines r = got.lines_are ∙ ap (λ (e : Draft). all_lines got.before ++ lines_of e) over in
    record {
      fits = subst IsGood over got.good;
      before = got.before;
      each = got.each;
      text_is = t.text_is ∙ ap (λ (x : List ℕ). text_of t.lines ++ x) none ∙ append-nil (text_of t.lines) ∙ ap text_of lines
          ∙ text_of-append (all_lines got.before) (report_lines r) ∙ ap (λ (x : List ℕ). x ++ report_text r) (text_of_all got.before);
    }

one_over : (r q : Report) → ◌≡◌ {A = Option Draft} (Some (draft.Over q)) (Some (draft.Over r)) → q ≡ r
one_over r q h = cc

-- a text has one last report
pub one_last : (text : List ℕ) (q r : Report) → IsLastOf text q → IsLastOf text r → q ≡ r
one_last text q r q_is r_is =
    let qs = whole text q q_is in
    let rs = whole text r r_is in
    let q_text : text ≡ text_of (all_lines qs) = whole_text text q q_is ∙ sym (text_of_all qs) in
    let r_text : text ≡ text_of (all_lines rs) = whole_text text r r_is ∙ sym (text_of_all rs) in
    let q_plain = all_plain qs (whole_each text q q_is) in
    let on = continues (all_lines qs) (all_lines rs) [] text [] [] q_plain (all_plain rs (whole_each text r r_is))
    (ap (λ (t : List ℕ). t ++ []) q_text) (append-nil text ∙ r_text) (omega (arith, ap feeds q_text, feeds-text (all_lines qs) q_plain)) in
    let left : [] ≡ text_of on.more = append_cancel_left (text_of (all_lines qs)) [] (text_of on.more)
    (append-nil (text_of (all_lines qs)) ∙ sym q_text ∙ r_text ∙ ap text_of on.lines_are ∙ text_of-append (all_lines qs) on.more) in
    let none : on.more ≡ [] = no_lines on.more (subst HasNoFeed left tt) in
    let lines : all_lines rs ≡ all_lines qs = on.lines_are ∙ ap (λ (ls : List Line). all_lines qs ++ ls) none ∙ append-nil (all_lines qs) in
    one_over r q (sym (whole_run text q q_is) ∙ ap (run_on draft.Start) (sym lines) ∙ whole_run text r r_is)
