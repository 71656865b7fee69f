-- Lines that are taken one after the other.
use Rattle.std.proofs.Common.{◌≡◌, ℕ, zero, suc, ◌+◌, ◌-◌, ◌<◌, Bool, true, false, Option, Some, None, List, [], ◌∷◌, ◌++◌, length, take, drop, refl, sym, ap, ◌∙◌, arith, min, leb, ltb, inl, inr, length-drop, zero-add, cond}
use Rattle.std.specs.Prelude.{not, ◌==◌}
use Rattle.std.proofs.lemmas.List.Sums.{sum_by-cons}
use Rattle.std.proofs.lemmas.Bool.{cases_lt}
use Rattle.std.proofs.lemmas.Bool.Decides.{nat_tests}
use Rattle.std.proofs.lemmas.List.{take_all}
use Rattle.memchr.specs.Find.{Nowhere, Passes, is_byte, IsFirstByte}
use Rattle.event_log.specs.Moments.{HasNoFeed}
use Rattle.vclog_import.specs.declared.host_lines.HostLines.{HostLines}
use Rattle.vclog_import.specs.Lines.{Line, Record, lines_in, feeds, is_passed, parted, record_in, records_in, is_due_behind}
use Rattle.vclog_import.specs.inside.Reading.{lines_left, left, due_at_end, line_at_end, Goes}
use Rattle.vclog_import.specs.inside.Reading.{TakesLine, EndsLines, Gives, Ends}

-- ---- lines and their feeds

pub lines_are_split : (u : Bool) (line rest : List ℕ) → HasNoFeed line → lines_in u (line ++ 10 ∷ rest) ≡ line ∷ lines_in u rest
unfolding lines_in
lines_are_split u [] rest none = refl
lines_are_split u (b ∷ line) rest none = rw (none.0, lines_are_split u line rest none.1) refl

pub unfinished_line : (b : ℕ) (line : List ℕ) → HasNoFeed (b ∷ line) → lines_in true (b ∷ line) ≡ (b ∷ line) ∷ []
unfolding lines_in
unfinished_line b [] none = rw none.0 refl
unfinished_line b (c ∷ line) none = rw (none.0, unfinished_line c line none.1) refl

pub no_whole_line : (line : List ℕ) → HasNoFeed line → lines_in false line ≡ []
unfolding lines_in
no_whole_line [] none = refl
no_whole_line (b ∷ line) none = rw (none.0, no_whole_line line none.1) refl

pub no_line : (u : Bool) → lines_in u [] ≡ []
unfolding lines_in
no_line u = refl

feeds-cons : (b : ℕ) (bytes : List ℕ) → feeds (b ∷ bytes) ≡ cond (b == 10) 1 0 + feeds bytes
feeds-cons b bytes = sum_by-cons (λ (x : ℕ). cond (x == 10) 1 0) b bytes

feeds_none : (b : ℕ) (bytes : List ℕ) → (b == 10) ≡ false → feeds (b ∷ bytes) ≡ feeds bytes
feeds_none b bytes none = feeds-cons b bytes ∙ ap (λ (t : Bool). cond t 1 0 + feeds bytes) none ∙ zero-add (feeds bytes)

pub feeds-split : (line rest : List ℕ) → HasNoFeed line → feeds (line ++ 10 ∷ rest) ≡ feeds rest + 1
feeds-split [] rest none = feeds-cons 10 rest ∙ first (feeds rest)
  where
    first : (n : ℕ) → 1 + n ≡ n + 1
    first n = omega arith
feeds-split (b ∷ line) rest none = feeds_none b (line ++ 10 ∷ rest) none.0 ∙ feeds-split line rest none.1

pub no_feeds : (line : List ℕ) → HasNoFeed line → feeds line ≡ 0
no_feeds [] none = refl
no_feeds (b ∷ line) none = feeds_none b line none.0 ∙ no_feeds line none.1

-- ---- the first space

not_here : (b : Bool) → (b ≡ true → ⊥) → b ≡ false
not_here true other = absurd (other refl)
not_here false other = refl

pub parted_at : (line : List ℕ) (k : ℕ) → k < length line → Nowhere (Passes (is_byte 32) line) 0 k → Passes (is_byte 32) line k → parted line ≡ Some (take k line, drop (suc k) line)
unfolding parted
parted_at [] k lt before here = absurd (omega arith)
parted_at (b ∷ line) zero lt before here = rw here refl
parted_at (b ∷ line) (suc k) lt before here =
    rw (not_here (is_byte 32 b) (before 0 (omega arith) (omega arith)), parted_at line k (omega arith) (λ j low high. before (suc j) (omega arith) (omega arith)) here) refl

pub parted_nowhere : (line : List ℕ) → Nowhere (Passes (is_byte 32) line) 0 (length line) → parted line ≡ None
unfolding parted
parted_nowhere [] none = refl
parted_nowhere (b ∷ line) none =
    rw (not_here (is_byte 32 b) (none 0 (omega arith) (omega arith)), parted_nowhere line (λ j low high. none (suc j) (omega arith) (omega arith))) refl

-- ---- the next line

pub takes_whole : (old new : HostLines) (line rest : List ℕ) → HasNoFeed line → old.rest.now ≡ line ++ 10 ∷ rest → new.rest.now ≡ rest → new.line ≡ old.line + 1 → new.unfinished ≡ old.unfinished → new.is_due ≡ old.is_due → TakesLine old new line
takes_whole old new line rest none split rest_is line_is unfinished due = record {
  goes = record {
    unfinished_is = unfinished;
    line_is = omega (arith, ap feeds split, feeds-split line rest none, ap feeds rest_is);
  };
  lines_are = ap (lines_in old.unfinished) split ∙ lines_are_split old.unfinished line rest none ∙ ap (λ (ls : List Line). line ∷ ls) (sym now);
  numbers = λ d. ap (λ (n : ℕ). records_in d n (lines_left new)) line_is;
  due_is = due;
}
  where
    now : lines_left new ≡ lines_in old.unfinished rest
    now = ap (λ (u : Bool). lines_in u new.rest.now) unfinished ∙ ap (lines_in old.unfinished) rest_is

-- at the end nothing is left
pub nothing_left : (u : Bool) (bytes : List ℕ) → bytes ≡ [] → lines_in u bytes ≡ []
nothing_left u bytes none = ap (lines_in u) none ∙ no_line u

stays : (old new : HostLines) → HasNoFeed old.rest.now → new.rest.now ≡ [] → new.line ≡ old.line → line_at_end new ≡ line_at_end old
stays old new none rest_is line_is = omega (arith, no_feeds old.rest.now none, ap feeds rest_is)

pub takes_last : (old new : HostLines) → HasNoFeed old.rest.now → 0 < length old.rest.now → old.unfinished ≡ true → new.rest.now ≡ [] → new.line ≡ old.line → new.unfinished ≡ old.unfinished → new.is_due ≡ old.is_due → TakesLine old new old.rest.now
unfolding records_in
takes_last old new none some last rest_is line_is unfinished due = record {
  goes = record { unfinished_is = unfinished; line_is = stays old new none rest_is line_is };
  lines_are = ap (λ (u : Bool). lines_in u old.rest.now) last ∙ one old.rest.now none some ∙ ap (λ (ls : List Line). old.rest.now ∷ ls) (sym (nothing_left new.unfinished new.rest.now rest_is));
  numbers = λ d. no_records d new.line (lines_left new) (nothing_left new.unfinished new.rest.now rest_is) ∙ sym (no_records d (old.line + 1) (lines_left new) (nothing_left new.unfinished new.rest.now rest_is));
  due_is = due;
}
  where
    one : (line : List ℕ) → HasNoFeed line → 0 < length line → lines_in true line ≡ line ∷ []
    one [] n s = absurd (omega arith)
    one (b ∷ line) n s = unfinished_line b line n

    no_records : (d : Bool) (n : ℕ) (ls : List Line) → ls ≡ [] → records_in d n ls ≡ []
    no_records d n ls none = ap (records_in d n) none

pub ends_lines : (old new : HostLines) → HasNoFeed old.rest.now → lines_left old ≡ [] → new.rest.now ≡ [] → new.line ≡ old.line → new.unfinished ≡ old.unfinished → new.is_due ≡ old.is_due → EndsLines old new
ends_lines old new plain none rest_is line_is unfinished due = record {
  goes = record { unfinished_is = unfinished; line_is = stays old new plain rest_is line_is };
  none = none;
  rest_is = rest_is;
  due_is = due;
}

-- ---- the next record

-- lines were taken, and no record
pub record Passed (old new : HostLines) : Type 0 where
  pub goes : Goes old new
  pub left_is : left new ≡ left old
  pub due_is : due_at_end new ≡ due_at_end old

pub goes_on : (a b c : HostLines) → Goes a b → Goes b c → Goes a c
goes_on a b c one two = record { unfinished_is = two.unfinished_is ∙ one.unfinished_is; line_is = two.line_is ∙ one.line_is }

pub passed_more : (a b c : HostLines) → Passed a b → Passed b c → Passed a c
passed_more a b c one two = record { goes = goes_on a b c one.goes two.goes; left_is = two.left_is ∙ one.left_is; due_is = two.due_is ∙ one.due_is }

pub then_gives : (a b c : HostLines) (r : Record) → Passed a b → Gives b c r → Gives a c r
then_gives a b c r one two = record { goes = goes_on a b c one.goes two.goes; left_is = sym one.left_is ∙ two.left_is; due_is = two.due_is ∙ one.due_is }

pub then_ends : (a b c : HostLines) → Passed a b → Ends b c → Ends a c
then_ends a b c one two = record { goes = goes_on a b c one.goes two.goes; none = sym one.left_is ∙ two.none; rest_is = two.rest_is; due_is = two.due_is ∙ one.due_is }

module _ (old new after : HostLines) (line : List ℕ) (takes : TakesLine old new line) (rest_is : after.rest.now ≡ new.rest.now) (line_is : after.line ≡ new.line) (unfinished_is : after.unfinished ≡ new.unfinished) where
  lines_same : lines_left after ≡ lines_left new
  lines_same = ap (λ (u : Bool). lines_in u after.rest.now) unfinished_is ∙ ap (lines_in new.unfinished) rest_is

  goes_too : Goes old after
  goes_too = record {
    unfinished_is = unfinished_is ∙ takes.goes.unfinished_is;
    line_is = omega (arith, takes.goes.line_is, ap feeds rest_is, line_is);
  }

  -- the records behind the line
  behind : (d : Bool) → records_in d (old.line + 1) (lines_left new) ≡ records_in d after.line (lines_left after)
  behind d = sym (takes.numbers d) ∙ ap (λ (n : ℕ). records_in d n (lines_left new)) (sym line_is) ∙ ap (records_in d after.line) (sym lines_same)

  pub passes_description : old.is_due ≡ false → after.is_due ≡ true → Passed old after
  unfolding records_in is_due_behind
  passes_description was is = record {
    goes = goes_too;
    left_is = sym (ap (λ (d : Bool). records_in d old.line (lines_left old)) was ∙ ap (records_in false old.line) takes.lines_are ∙ behind true ∙ ap (λ (d : Bool). records_in d after.line (lines_left after)) (sym is));
    due_is = sym (ap (λ (d : Bool). is_due_behind d (lines_left old)) was ∙ ap (is_due_behind false) takes.lines_are ∙ ap (is_due_behind true) (sym lines_same) ∙ ap (λ (d : Bool). is_due_behind d (lines_left after)) (sym is));
  }

  pub passes_line : old.is_due ≡ true → is_passed line ≡ true → after.is_due ≡ true → Passed old after
  unfolding records_in is_due_behind
  passes_line was passed is = record {
    goes = goes_too;
    left_is = sym (ap (λ (d : Bool). records_in d old.line (lines_left old)) was ∙ ap (records_in true old.line) takes.lines_are ∙ first ∙ behind true ∙ ap (λ (d : Bool). records_in d after.line (lines_left after)) (sym is));
    due_is = sym (ap (λ (d : Bool). is_due_behind d (lines_left old)) was ∙ ap (is_due_behind true) takes.lines_are ∙ ap (λ (d : Bool). is_due_behind d (lines_left new)) passed ∙ ap (is_due_behind true) (sym lines_same) ∙ ap (λ (d : Bool). is_due_behind d (lines_left after)) (sym is));
  }
    where
      first : records_in true old.line (line ∷ lines_left new) ≡ records_in true (old.line + 1) (lines_left new)
      first = rw passed refl

  pub gives_record : old.is_due ≡ true → is_passed line ≡ false → after.is_due ≡ false → Gives old after (record_in old.line line)
  unfolding records_in is_due_behind
  gives_record was passed is = record {
    goes = goes_too;
    left_is = ap (λ (d : Bool). records_in d old.line (lines_left old)) was ∙ ap (records_in true old.line) takes.lines_are ∙ first ∙ ap (λ (rs : List Record). record_in old.line line ∷ rs) (behind false ∙ ap (λ (d : Bool). records_in d after.line (lines_left after)) (sym is));
    due_is = sym (ap (λ (d : Bool). is_due_behind d (lines_left old)) was ∙ ap (is_due_behind true) takes.lines_are ∙ ap (λ (d : Bool). is_due_behind d (lines_left new)) passed ∙ ap (is_due_behind false) (sym lines_same) ∙ ap (λ (d : Bool). is_due_behind d (lines_left after)) (sym is));
  }
    where
      first : records_in true old.line (line ∷ lines_left new) ≡ record_in old.line line ∷ records_in false (old.line + 1) (lines_left new)
      first = rw passed refl

pub ends_records : (old new : HostLines) → EndsLines old new → Ends old new
unfolding records_in is_due_behind
ends_records old new ends = record {
  goes = ends.goes;
  none = ap (records_in old.is_due old.line) ends.none ∙ nothing old.is_due;
  rest_is = ends.rest_is;
  due_is = ends.due_is ∙ sym (ap (is_due_behind old.is_due) ends.none);
}
  where
    nothing : (d : Bool) → records_in d old.line [] ≡ []
    nothing d = refl

-- ---- what `memchr` finds, as the parts of a line

pub parted_here : (line : List ℕ) (k : ℕ) → IsFirstByte (is_byte 32) line (Some k) → ◌≡◌ {A = Option (List ℕ × List ℕ)} (Some (take k line, take (length line - (k + 1)) (drop (k + 1) line))) (parted line)
parted_here line k first =
    let rest : take (length line - (k + 1)) (drop (k + 1) line) ≡ drop (k + 1) line = take_all (length line - (k + 1)) (drop (k + 1) line) (omega (arith, length-drop (k + 1) line)) in
    ap (λ (x : List ℕ). let o : Option (List ℕ × List ℕ) = Some (take k line, x) in o) (rest ∙ ap (λ (n : ℕ). drop n line) one)
    ∙ sym (parted_at line k first.0.high first.0.before first.1)
  where
    one : k + 1 ≡ suc k
    one = omega arith

-- ---- the front of a text

pub front_is : (text : List ℕ) (m n : ℕ) → n ≡ min (length text) m → take n text ≡ take m text
front_is text m n is = elim (cases_lt m (length text)) [
  | inr within ↦ take_all n text (omega (arith, is)) ∙ sym (take_all m text within)
  | inl longer ↦ let same : n ≡ m = omega (arith, is) in ap (λ (k : ℕ). take k text) same
]

pub not_longer : (n m : ℕ) → leb n m ≡ not (ltb m n)
not_longer n m = grind (arith, nat_tests)

-- ---- whether there are bytes

is_zero : (n : ℕ) → (n == 0) ≡ true → n ≡ 0
is_zero n e = grind (arith, nat_tests)

not_zero : (n : ℕ) → (n == 0) ≡ false → 0 < n
not_zero n e = grind (arith, nat_tests)

pub some_bytes : (bytes : List ℕ) (empty : Bool) → empty ≡ (length bytes == 0) → empty ≡ false → 0 < length bytes
some_bytes bytes empty is other = not_zero (length bytes) (sym is ∙ other)

pub no_bytes : (bytes : List ℕ) (empty : Bool) → empty ≡ (length bytes == 0) → empty ≡ true → bytes ≡ []
no_bytes [] empty is empty_is = refl
no_bytes (b ∷ bytes) empty is empty_is = absurd (omega (arith, is_zero (length (b ∷ bytes)) (sym is ∙ empty_is)))
