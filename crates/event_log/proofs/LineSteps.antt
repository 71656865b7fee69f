-- How the reader of lines follows the lines before.
use Rattle.std.proofs.Common.{◌≡◌, ℕ, ◌+◌, ◌≤◌, Bool, true, false, cond, Option, Some, None, Result, Ok, Err, List, [], ◌∷◌, ◌++◌, length, refl, sym, ap, subst, ◌∙◌, arith, append_assoc, inl, inr}
use Rattle.std.specs.Prelude.{◌==◌, nat_le, not, ◌&&◌, ◌||◌, IfOk, IsOk, OnOk}
use Rattle.std.specs.Str.{bytes_eq}
use Rattle.std.proofs.lemmas.Bool.{cases_Bool, eqb-true, ne_eqb, eq-eqb, le-leb, leb-true, and_parts, or_cases}
use Rattle.std.proofs.lemmas.List.{append-nil}
use Rattle.std.proofs.lemmas.Option.{none-some}
use Rattle.std.proofs.lemmas.Slice.Eq.{bytes_eq-Decides}
use Rattle.pota_base.specs.declared.fault.NoMemory.{NoMemory}
use Rattle.pota_base.specs.declared.fault.Refused.{Refused}
use Rattle.pota_base.specs.declared.fault.Refused.TheVariants as refused
use Rattle.log_lines.specs.Names.{Name}
use Rattle.log_lines.specs.Spelling.{EventLine, batch_line, end_line}
use Rattle.log_lines.specs.Reading.{choose, text_at, event_in, begins_vars}
use Rattle.log_lines.proofs.WordLaws.{bind_some}
use Rattle.event_log.specs.declared.item.LogCode.{LogCode}
use Rattle.event_log.specs.declared.item.LogCode.TheVariants as code
use Rattle.event_log.specs.declared.item.Item.{Item}
use Rattle.event_log.specs.declared.item.Item.TheVariants as item
use Rattle.event_log.specs.declared.log.Binding.{Binding}
use Rattle.event_log.specs.declared.log.Header.{Header}
use Rattle.event_log.specs.declared.log.Event.{Event}
use Rattle.event_log.specs.declared.line_reader.LineReader.{LineReader}
use Rattle.event_log.specs.declared.line_reader.Stage.{Stage}
use Rattle.event_log.specs.declared.line_reader.Stage.TheVariants as stage
use Rattle.event_log.specs.Numbers.{event_named}
use Rattle.event_log.specs.Before.{Line, filled, version, names, variables, variables_after, events, begins_event, is_header_over, is_ended, headed, header_of, Told, gives, refuses, heading_told, procs_told, vars_told, event_told, body_told, told}
use Rattle.event_log.specs.Lines.{StageIs, HasReadLines}
use Rattle.event_log.specs.inside.Lines.{JudgedAs, IsFaultOf, events_after, stage_after, TakesHeading, TakesProcs, TakesVars, Passes, TakesBody, LineTaken, TakesLine}

-- ---- what a line gives, by the stage

module _ (older : List Line) (line : Line) where
  pub told-ended : is_ended older ≡ true → told older line ≡ refuses code.Trailing
  unfolding told
  told-ended e = rw e refl

  module _ (open_ : is_ended older ≡ false) where
    pub told-heading : length older ≡ 0 → told older line ≡ heading_told line
    unfolding told
    told-heading len = rw (open_, eq-eqb _ _ len) refl

    pub told-procs : length older ≡ 1 → told older line ≡ procs_told line
    unfolding told
    told-procs len = rw (open_, len) refl

    module _ (long : 2 ≤ length older) where
      nonzero : (length older == 0) ≡ false
      nonzero = ne_eqb (length older) 0 (λ e. absurd (omega arith))

      nonone : (length older == 1) ≡ false
      nonone = ne_eqb (length older) 1 (λ e. absurd (omega arith))

      pub told-vars : is_header_over older ≡ false → begins_vars line ≡ true → told older line ≡ vars_told (names older) (variables older) line
      unfolding told
      told-vars over begins = rw (open_, nonzero, nonone, over, begins) refl

      pub told-first : is_header_over older ≡ false → begins_vars line ≡ false → (body : Told) → body_told (version older) (names older) (variables older) (length older + 1) (events older) line ≡ body
          → told older line ≡ record { items = item.Header (header_of older) ∷ body.items; fault = body.fault }
      unfolding told
      told-first over begins body e = rw (open_, nonzero, nonone, over, begins, e) refl

      pub told-body : is_header_over older ≡ true → told older line ≡ body_told (version older) (names older) (variables older) (length older + 1) (events older) line
      unfolding told
      told-body over = rw (open_, nonzero, nonone, over) refl

-- ---- what a whole answer says

judged_takes : {A : Type 0} (old new : LineReader) (line : Line) (before after : List Item) (answer : Result (Option LogCode) NoMemory) (judged : Result A (Refused LogCode)) → IsFaultOf judged answer
    → ((o : Option LogCode) → IsFaultOf judged (Ok o) → (older : List Line) → HasReadLines old older → LineTaken older line before o after new) → IfOk answer (λ fault. TakesLine old line before fault after new)
judged_takes old new line before after (Ok o) judged is taken = taken o is
judged_takes old new line before after (Err e) judged is taken = tt

-- a line without an item
none_given : {A : Type 0} (new : LineReader) (line : Line) (before : List Item) (judged : Result A (Refused LogCode)) (o : Option LogCode) (older : List Line) → IsFaultOf judged (Ok o) → JudgedAs judged (told older line)
    → (IsOk judged → HasReadLines new (line ∷ older)) → LineTaken older line before o before new
none_given new line before (Ok x) o older is value next =
    let none : o ≡ None = cc in
    record { items_are = sym (ap (λ (t : Told). before ++ t.items) value ∙ append-nil before); fault_is = ap (λ (t : Told). t.fault) value ∙ sym none; reads = λ _. next refl }
none_given new line before (Err (refused.Fault c)) o older is value next =
    let some : o ≡ Some c = cc in
    record {
      items_are = sym (ap (λ (t : Told). before ++ t.items) value ∙ append-nil before);
      fault_is = ap (λ (t : Told). t.fault) value ∙ sym some;
      reads = λ none. absurd (none-some c (sym none ∙ some));
    }
none_given new line before (Err refused.NoMemory) o older is value next = absurd cc

pub on_ok : {A E : Type 0} (r : Result A E) (P : Type 0) → OnOk r P → IsOk r → P
on_ok (Ok x) P p ok = p
on_ok (Err e) P p ok = absurd cc

-- ---- the lines with one more

pub heading_next : (old new : LineReader) (line : Line) (older : List Line) → HasReadLines old older → old.stage ≡ stage.Header → old.lines ≡ 0 → TakesHeading old new line → HasReadLines new (line ∷ older)
unfolding version names variables events is_header_over is_ended
heading_next old new line older has at none counts =
    let len : length older ≡ 0 = omega (arith, has.lines_are) in
    let is = subst (λ (s : Stage). StageIs s older) at has.stage_is in
    let kept : new.stage ≡ stage.Header = counts.stage_is ∙ at in
    record {
      lines_are = omega (arith, has.lines_are, counts.lines_are);
      version_is = rw len counts.version_is;
      procs_are = rw len (counts.procs_are ∙ has.procs_are);
      variables_are = rw len (counts.variables_are ∙ has.variables_are);
      events_are = rw len (counts.events_are ∙ has.events_are);
      stage_is = subst (λ (s : Stage). StageIs s (line ∷ older)) (sym kept) (rw len is.0, rw len is.1);
    }

pub procs_next : (old new : LineReader) (line : Line) (older : List Line) → HasReadLines old older → old.stage ≡ stage.Header → old.lines ≡ 1 → TakesProcs old new line → HasReadLines new (line ∷ older)
unfolding version names variables events is_header_over is_ended
procs_next old new line older has at one takes =
    let len : length older ≡ 1 = omega (arith, has.lines_are) in
    let is = subst (λ (s : Stage). StageIs s older) at has.stage_is in
    let kept : new.stage ≡ stage.Header = takes.stage_is ∙ at in
    record {
      lines_are = omega (arith, has.lines_are, takes.lines_are);
      version_is = rw len (takes.version_is ∙ has.version_is);
      procs_are = rw len takes.procs_are;
      variables_are = rw len (takes.variables_are ∙ has.variables_are);
      events_are = rw len (takes.events_are ∙ has.events_are);
      stage_is = subst (λ (s : Stage). StageIs s (line ∷ older)) (sym kept) (rw len is.0, rw len is.1);
    }

-- a line that begins with `vars` begins no event and doesn't end the log
pub record IsNoOther (line : Line) : Type 0 where
  pub event : begins_event line ≡ false
  pub ended : bytes_eq line end_line ≡ false

pub vars_no_other : (line : Line) → begins_vars line ≡ true → IsNoOther line
unfolding text_at
vars_no_other [] h = absurd cc
vars_no_other (b ∷ bs) h = elim (cases_Bool (b == 118)) [
  | inl v ↦
      let e : b ≡ 118 = eqb-true b 118 v in
      rw e (record { event = refl; ended = refl })
  | inr other ↦ let none = rw other at h in absurd (cc none)
]

pub vars_next : (old new : LineReader) (line : Line) (older : List Line) → HasReadLines old older → old.stage ≡ stage.Header → 2 ≤ old.lines → begins_vars line ≡ true → TakesVars old new line → HasReadLines new (line ∷ older)
unfolding version names variables events is_header_over is_ended
vars_next old new line older has at long begins takes =
    let two : nat_le 2 (length older) ≡ true = le-leb 2 (length older) (omega (arith, has.lines_are)) in
    let other : (length older == 1) ≡ false = ne_eqb (length older) 1 (λ e. absurd (omega (arith, e, has.lines_are))) in
    let some : (length older == 0) ≡ false = ne_eqb (length older) 0 (λ e. absurd (omega (arith, e, has.lines_are))) in
    let is = subst (λ (s : Stage). StageIs s older) at has.stage_is in
    let no_other = vars_no_other line begins in
    let kept : new.stage ≡ stage.Header = takes.stage_is ∙ at in
    let added : new.variables ≡ variables_after (names older) (variables older) line = rw (← has.procs_are, ← has.variables_are) takes.variables_are in
    record {
      lines_are = omega (arith, has.lines_are, takes.lines_are);
      version_is = rw some (takes.version_is ∙ has.version_is);
      procs_are = rw other (takes.procs_are ∙ has.procs_are);
      variables_are = rw (two, is.0, begins) added;
      events_are = rw (two, no_other.event) (takes.events_are ∙ has.events_are);
      stage_is = subst (λ (s : Stage). StageIs s (line ∷ older)) (sym kept) (rw (two, begins) is.0, rw (two, no_other.ended) is.1);
    }

-- ---- lines behind the header

abbrev pub is_event_item : Item → Bool
is_event_item (item.Event e) = true
is_event_item (item.Header h) = false
is_event_item item.BatchEnd = false
is_event_item item.End = false

abbrev pub is_end_item : Item → Bool
is_end_item (item.Event e) = false
is_end_item (item.Header h) = false
is_end_item item.BatchEnd = false
is_end_item item.End = true

-- the line begins an event, and ends the log, where it gives such an item
pub record BodySays (line : Line) (i : Item) : Type 0 where
  pub event : begins_event line ≡ is_event_item i
  pub ended : bytes_eq line end_line ≡ is_end_item i

abbrev first_item : Item → List Item → Item
first_item i [] = i
first_item i (x ∷ xs) = x

gives_same : (x y : Item) → gives (x ∷ []) ≡ gives (y ∷ []) → x ≡ y
gives_same x y e = ap (λ (t : Told). first_item x t.items) e

refuses_nothing : {P : Type 0} (c : LogCode) (items : List Item) → refuses c ≡ gives items → P
refuses_nothing c items e = absurd (none-some c (sym (ap (λ (t : Told). t.fault) e)))

pub event_begins : (line : Line) (d : EventLine) → event_in line ≡ Some d → begins_event line ≡ true
unfolding event_in
event_begins line d h = let b = bind_some (text_at (101 ∷ 118 ∷ []) line) _ d h in rw b.1 refl

event_says : (line : Line) (named : EventLine → Result Event LogCode) (o : Option EventLine) (i : Item) → event_in line ≡ o → bytes_eq line end_line ≡ false
    → choose o (λ e. event_told (named e)) (refuses code.BadLine) ≡ gives (i ∷ []) → BodySays line i
event_says line named None i is ended e = refuses_nothing code.BadLine (i ∷ []) e
event_says line named (Some d) i is ended e = named_says (named d) e
  where
    named_says : (r : Result Event LogCode) → event_told r ≡ gives (i ∷ []) → BodySays line i
    named_says (Ok event) g = subst (BodySays line) (gives_same (item.Event event) i g) (record { event = event_begins line d is; ended = ended })
    named_says (Err c) g = refuses_nothing c (i ∷ []) g

pub body_says : (version : ℕ) (procs : List Name) (vars : List (List Binding)) (number count : ℕ) (line : Line) (i : Item) → body_told version procs vars number count line ≡ gives (i ∷ []) → BodySays line i
unfolding text_at
body_says version procs vars number count line i e = elim (cases_Bool (bytes_eq line batch_line)) [
  | inl batch ↦
      let same : line ≡ batch_line = (bytes_eq-Decides line batch_line).0 batch in
      let says : BodySays batch_line item.BatchEnd = record { event = refl; ended = refl } in
      subst (BodySays line) (gives_same item.BatchEnd i (rw batch at e)) (subst (λ (l : Line). BodySays l item.BatchEnd) (sym same) says)
  | inr other ↦ elim (cases_Bool (bytes_eq line end_line)) [
    | inl end ↦
        let same : line ≡ end_line = (bytes_eq-Decides line end_line).0 end in
        let says : BodySays end_line item.End = record { event = refl; ended = refl } in
        subst (BodySays line) (gives_same item.End i (rw (other, end) at e)) (subst (λ (l : Line). BodySays l item.End) (sym same) says)
    | inr more ↦ event_says line (event_named version procs vars number count) (event_in line) i refl more (rw (other, more) at e)
  ]
]

-- the header is over only behind its second line
pub over_long : (older : List Line) → is_header_over older ≡ true → 2 ≤ length older
unfolding is_header_over
over_long [] h = absurd cc
over_long (line ∷ older) h = elim (or_cases (nat_le 2 (length older) && not (begins_vars line)) (is_header_over older) h) [
  | inl here ↦ omega (arith, leb-true 2 (length older) (and_parts _ _ here).0)
  | inr before ↦ omega (arith, over_long older before)
]

counts_event : (test : Bool) (i : Item) (n : ℕ) → test ≡ is_event_item i → events_after i n ≡ cond test (n + 1) n
counts_event test (item.Event e) n h = rw h refl
counts_event test (item.Header x) n h = rw h refl
counts_event test item.BatchEnd n h = rw h refl
counts_event test item.End n h = rw h refl

stage_follows : (i : Item) (over ended : Bool) (lines : List Line) → is_header_over lines ≡ true → is_ended lines ≡ is_end_item i → StageIs (stage_after i) lines
stage_follows (item.Event e) over ended lines h g = (h, g)
stage_follows (item.Header x) over ended lines h g = (h, g)
stage_follows item.BatchEnd over ended lines h g = (h, g)
stage_follows item.End over ended lines h g = g

pub or_false : (b : Bool) → (b || false) ≡ b
or_false true = refl
or_false false = refl

-- one line more, behind the header
pub body_next : (old new : LineReader) (line : Line) (older : List Line) (i : Item) → HasReadLines old older → 2 ≤ length older → is_ended older ≡ false → (is_header_over older || not (begins_vars line)) ≡ true
    → body_told old.version old.procs old.variables (old.lines + 1) old.events line ≡ gives (i ∷ []) → Passes old new i → HasReadLines new (line ∷ older)
unfolding version names variables events is_header_over is_ended
body_next old new line older i has long open_ behind gave passes =
    let says = body_says old.version old.procs old.variables (old.lines + 1) old.events line i gave in
    let two : nat_le 2 (length older) ≡ true = le-leb 2 (length older) long in
    let other : (length older == 1) ≡ false = ne_eqb (length older) 1 (λ e. absurd (omega (arith, e))) in
    let some : (length older == 0) ≡ false = ne_eqb (length older) 0 (λ e. absurd (omega (arith, e))) in
    let out : (not (is_header_over older) && begins_vars line) ≡ false = grind arith in
    let over : (not (begins_vars line) || is_header_over older) ≡ true = grind arith in
    let at = stage_follows i true true (line ∷ older) (rw two over) (rw (two, open_) (or_false (bytes_eq line end_line) ∙ says.ended)) in
    record {
      lines_are = omega (arith, has.lines_are, passes.lines_are);
      version_is = rw some (passes.version_is ∙ has.version_is);
      procs_are = rw other (passes.procs_are ∙ has.procs_are);
      variables_are = rw (two, out) (passes.variables_are ∙ has.variables_are);
      events_are = rw two (passes.events_are ∙ ap (events_after i) has.events_are ∙ counts_event (begins_event line) i (events older) says.event);
      stage_is = subst (λ (s : Stage). StageIs s (line ∷ older)) (sym passes.stage_is) at;
    }

-- ---- the calls of the reader

pub heading_takes : {A : Type 0} (old new : LineReader) (line : Line) (before : List Item) (answer : Result (Option LogCode) NoMemory) (judged : Result A (Refused LogCode)) → old.stage ≡ stage.Header → old.lines ≡ 0
    → IsFaultOf judged answer → JudgedAs judged (heading_told line) → OnOk judged (TakesHeading old new line) → IfOk answer (λ fault. TakesLine old line before fault before new)
heading_takes old new line before answer judged at none is value counts =
    judged_takes old new line before before answer judged is
    (λ o o_is older has.
    let stage_is = subst (λ (s : Stage). StageIs s older) at has.stage_is in
    let same = told-heading older line stage_is.1 (omega (arith, has.lines_are)) in
    none_given new line before judged o older o_is (subst (JudgedAs judged) (sym same) value) (λ fine. heading_next old new line older has at none (on_ok judged _ counts fine)))

pub procs_takes : {A : Type 0} (old new : LineReader) (line : Line) (before : List Item) (answer : Result (Option LogCode) NoMemory) (judged : Result A (Refused LogCode)) → old.stage ≡ stage.Header → old.lines ≡ 1
    → IsFaultOf judged answer → JudgedAs judged (procs_told line) → OnOk judged (TakesProcs old new line) → IfOk answer (λ fault. TakesLine old line before fault before new)
procs_takes old new line before answer judged at one is value takes =
    judged_takes old new line before before answer judged is
    (λ o o_is older has.
    let stage_is = subst (λ (s : Stage). StageIs s older) at has.stage_is in
    let same = told-procs older line stage_is.1 (omega (arith, has.lines_are)) in
    none_given new line before judged o older o_is (subst (JudgedAs judged) (sym same) value) (λ fine. procs_next old new line older has at one (on_ok judged _ takes fine)))

pub vars_takes : {A : Type 0} (old new : LineReader) (line : Line) (before : List Item) (answer : Result (Option LogCode) NoMemory) (judged : Result A (Refused LogCode)) → old.stage ≡ stage.Header → 2 ≤ old.lines → begins_vars line ≡ true
    → IsFaultOf judged answer → JudgedAs judged (vars_told old.procs old.variables line) → OnOk judged (TakesVars old new line) → IfOk answer (λ fault. TakesLine old line before fault before new)
vars_takes old new line before answer judged at long begins is value takes =
    judged_takes old new line before before answer judged is
    (λ o o_is older has.
    let stage_is = subst (λ (s : Stage). StageIs s older) at has.stage_is in
    let same : told older line ≡ vars_told old.procs old.variables line = told-vars older line stage_is.1 (omega (arith, has.lines_are)) stage_is.0 begins ∙ rw (has.procs_are, has.variables_are) refl in
    none_given new line before judged o older o_is (subst (JudgedAs judged) (sym same) value) (λ fine. vars_next old new line older has at long begins (on_ok judged _ takes fine)))

-- the body of a log as the reader judges it
abbrev pub own_body : LineReader → Line → Told
own_body r line = body_told r.version r.procs r.variables (r.lines + 1) r.events line

own_body_is : (r : LineReader) (line : Line) (older : List Line) → HasReadLines r older → body_told (version older) (names older) (variables older) (length older + 1) (events older) line ≡ own_body r line
own_body_is r line older has = rw (has.version_is, has.procs_are, has.variables_are, has.lines_are, has.events_are) refl

-- what a line behind the header gave stands behind these
record BodyTaken (older : List Line) (line : Line) (body : Told) (middle : List Item) (o : Option LogCode) (after : List Item) (new : LineReader) : Type 0 where
  items_are : after ≡ middle ++ body.items
  fault_is : body.fault ≡ o
  reads : o ≡ None → HasReadLines new (line ∷ older)

body_given : {A : Type 0} (old new : LineReader) (line : Line) (middle after : List Item) (judged : Result A (Refused LogCode)) (o : Option LogCode) (older : List Line) → HasReadLines old older → 2 ≤ length older → is_ended older ≡ false → (is_header_over older || not (begins_vars line)) ≡ true
    → IsFaultOf judged (Ok o) → TakesBody (own_body old line) old middle judged after new → BodyTaken older line (own_body old line) middle o after new
body_given old new line middle after (Ok x) o older has long open_ behind is takes =
    let none : o ≡ None = cc in
    let gave = takes.1.0 in
    record {
      items_are = takes.1.1 ∙ ap (λ (t : Told). middle ++ t.items) (sym gave);
      fault_is = ap (λ (t : Told). t.fault) gave ∙ sym none;
      reads = λ _. body_next old new line older takes.0 has long open_ behind gave takes.1.2;
    }
body_given old new line middle after (Err (refused.Fault c)) o older has long open_ behind is takes =
    let some : o ≡ Some c = cc in
    record {
      items_are = takes.1 ∙ sym (append-nil middle) ∙ ap (λ (t : Told). middle ++ t.items) (sym takes.0);
      fault_is = ap (λ (t : Told). t.fault) takes.0 ∙ sym some;
      reads = λ none. absurd (none-some c (sym none ∙ some));
    }
body_given old new line middle after (Err refused.NoMemory) o older has long open_ behind is takes = absurd cc

pub first_takes : {A : Type 0} (old new : LineReader) (line : Line) (before middle after : List Item) (answer : Result (Option LogCode) NoMemory) (header : Header) (judged : Result A (Refused LogCode)) → old.stage ≡ stage.Header → 2 ≤ old.lines → begins_vars line ≡ false
    → header ≡ headed old.version old.procs (filled old.variables (length old.procs)) → middle ≡ before ++ item.Header header ∷ []
    → IsFaultOf judged answer → TakesBody (own_body old line) old middle judged after new → IfOk answer (λ fault. TakesLine old line before fault after new)
first_takes old new line before middle after answer header judged at long begins made pushed is takes =
    judged_takes old new line before after answer judged is
    (λ o o_is older has.
    let stage_is = subst (λ (s : Stage). StageIs s older) at has.stage_is in
    let same : header_of older ≡ header = rw (← has.version_is, ← has.procs_are, ← has.variables_are) (sym made) in
    let says : told older line ≡ record { items = item.Header header ∷ (own_body old line).items; fault = (own_body old line).fault } =
    told-first older line stage_is.1 (omega (arith, has.lines_are)) stage_is.0 begins (own_body old line) (own_body_is old line older has) ∙ rw same refl in
    let body = body_given old new line middle after judged o older has (omega (arith, has.lines_are)) stage_is.1 (rw (stage_is.0, begins) refl) o_is takes in
    record {
      items_are = body.items_are ∙ ap (λ (xs : List Item). xs ++ (own_body old line).items) pushed ∙ append_assoc before (item.Header header ∷ []) (own_body old line).items ∙ ap (λ (t : Told). before ++ t.items) (sym says);
      fault_is = ap (λ (t : Told). t.fault) says ∙ body.fault_is;
      reads = body.reads;
    })

pub body_takes : {A : Type 0} (old new : LineReader) (line : Line) (before after : List Item) (answer : Result (Option LogCode) NoMemory) (judged : Result A (Refused LogCode)) → old.stage ≡ stage.Body
    → IsFaultOf judged answer → TakesBody (own_body old line) old before judged after new → IfOk answer (λ fault. TakesLine old line before fault after new)
body_takes old new line before after answer judged at is takes =
    judged_takes old new line before after answer judged is
    (λ o o_is older has.
    let stage_is = subst (λ (s : Stage). StageIs s older) at has.stage_is in
    let long = over_long older stage_is.0 in
    let says : told older line ≡ own_body old line = told-body older line stage_is.1 long stage_is.0 ∙ own_body_is old line older has in
    let body = body_given old new line before after judged o older has long stage_is.1 (rw stage_is.0 refl) o_is takes in
    record {
      items_are = body.items_are ∙ ap (λ (t : Told). before ++ t.items) (sym says);
      fault_is = ap (λ (t : Told). t.fault) says ∙ body.fault_is;
      reads = body.reads;
    })

pub ended_takes : (r : LineReader) (line : Line) (before : List Item) → r.stage ≡ stage.Ended → TakesLine r line before (Some code.Trailing) before r
ended_takes r line before at older has =
    let stage_is = subst (λ (s : Stage). StageIs s older) at has.stage_is in
    let says = told-ended older line stage_is in
    record {
      items_are = sym (ap (λ (t : Told). before ++ t.items) says ∙ append-nil before);
      fault_is = ap (λ (t : Told). t.fault) says;
      reads = λ none. absurd (none-some code.Trailing (sym none));
    }

-- so the line that ends the header has two before it
pub over_long_more : (line : Line) (older : List Line) → is_header_over (line ∷ older) ≡ true → 2 ≤ length older
unfolding is_header_over
over_long_more line older h = elim (or_cases (nat_le 2 (length older) && not (begins_vars line)) (is_header_over older) h) [
  | inl here ↦ leb-true 2 (length older) (and_parts _ _ here).0
  | inr before ↦ over_long older before
]

pub events_after_is : (line : Line) (i : Item) (n : ℕ) → begins_event line ≡ is_event_item i → cond (begins_event line) (n + 1) n ≡ events_after i n
events_after_is line i n h = sym (counts_event (begins_event line) i n h)
