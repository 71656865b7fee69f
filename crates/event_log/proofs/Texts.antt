-- The text of a log is read as its lines.
use Rattle.std.proofs.Common.{◌≡◌, ℕ, List, [], ◌∷◌, ◌++◌, refl, sym, ap, subst, ◌∙◌, inl, inr, append_assoc}
use Rattle.std.specs.Prelude.{◌==◌}
use Rattle.std.specs.List.{AllByRecursion}
use Rattle.std.proofs.lemmas.Bool.{cases_Bool, eqb-true}
use Rattle.std.proofs.lemmas.List.{append-nil}
use Rattle.event_log.specs.Before.{Line, is_ended}
use Rattle.event_log.specs.inside.Before.{AreFine, items_of}
use Rattle.event_log.specs.Moments.{HasNoFeed, line_now, lines}
use Rattle.event_log.specs.inside.Moments.{IsText}
use Rattle.event_log.specs.declared.log.Log.{Log}
use Rattle.event_log.specs.LogText.{text_of, lines_of, log_text, log_items, LogFits, HasVarLines, lined, onto}
use Rattle.event_log.proofs.Lists.{onto-append, all_onto}
use Rattle.event_log.proofs.ReadLaws.{fine_next}
use Rattle.event_log.proofs.BodyLaws.{log_read}
use Rattle.event_log.proofs.WriteLaws.{log_again}

-- the past of whole lines
pub feeds : List Line → List ℕ
feeds [] = []
feeds (line ∷ older) = 10 ∷ onto line (feeds older)

pub line_now-plain : (bytes past : List ℕ) → HasNoFeed bytes → line_now (onto bytes past) ≡ line_now past ++ bytes
unfolding line_now
line_now-plain [] past plain = sym (append-nil (line_now past))
line_now-plain (b ∷ bytes) past plain = line_now-plain bytes (b ∷ past) plain.1 ∙ rw plain.0 (append_assoc (line_now past) (b ∷ []) bytes)

pub lines-plain : (bytes past : List ℕ) → HasNoFeed bytes → lines (onto bytes past) ≡ lines past
unfolding lines
lines-plain [] past plain = refl
lines-plain (b ∷ bytes) past plain = lines-plain bytes (b ∷ past) plain.1 ∙ rw plain.0 refl

line_now-feeds : (ls : List Line) → line_now (feeds ls) ≡ []
unfolding line_now feeds
line_now-feeds [] = refl
line_now-feeds (l ∷ ls) = refl

lines-feeds : (ls : List Line) → AllByRecursion HasNoFeed ls → lines (feeds ls) ≡ ls
unfolding lines feeds
lines-feeds [] plain = refl
lines-feeds (l ∷ ls) plain =
    rw (line_now-plain l (feeds ls) plain.0, lines-plain l (feeds ls) plain.0, line_now-feeds ls, lines-feeds ls plain.1) refl

feeds-onto : (ls older : List Line) → feeds (onto ls older) ≡ onto (text_of ls) (feeds older)
unfolding feeds
feeds-onto [] older = refl
feeds-onto (l ∷ ls) older = feeds-onto ls (l ∷ older) ∙ sym (onto-append l (10 ∷ text_of ls) (feeds older))

-- a past is its whole lines and the line now
pub past_whole : (past : List ℕ) → past ≡ onto (line_now past) (feeds (lines past))
unfolding line_now lines feeds
past_whole [] = refl
past_whole (b ∷ past) = elim (cases_Bool (b == 10)) [
  | inl feed ↦
      let e : b ≡ 10 = eqb-true b 10 feed in
      rw feed (rw e (ap (λ (p : List ℕ). 10 ∷ p) (past_whole past)))
  | inr plain ↦ rw plain (ap (λ (p : List ℕ). b ∷ p) (past_whole past) ∙ sym (onto-append (line_now past) (b ∷ []) (feeds (lines past))))
]

onto_back : (xs past ys : List ℕ) → onto (onto xs past) ys ≡ onto past (xs ++ ys)
onto_back [] past ys = refl
onto_back (x ∷ xs) past ys = onto_back xs (x ∷ past) ys

-- a past says its bytes
pub onto_same : (xs ys : List ℕ) → onto xs [] ≡ onto ys [] → xs ≡ ys
onto_same xs ys e = sym (append-nil xs) ∙ sym (onto_back xs [] []) ∙ ap (λ (p : List ℕ). onto p []) e ∙ onto_back ys [] [] ∙ append-nil ys

fine_byte : (b : ℕ) (past : List ℕ) → AreFine (lines (b ∷ past)) → AreFine (lines past)
unfolding lines
fine_byte b past fine = elim (cases_Bool (b == 10)) [
  | inl feed ↦ (fine_next (line_now past) (lines past) (rw feed at fine)).1
  | inr plain ↦ rw plain at fine
]

-- what comes later does not mend a fault
pub fine_before : (bytes past : List ℕ) → AreFine (lines (onto bytes past)) → AreFine (lines past)
fine_before [] past fine = fine
fine_before (b ∷ bytes) past fine = fine_byte b past (fine_before bytes (b ∷ past) fine)

nothing_before : (bytes : List ℕ) → onto bytes (feeds []) ≡ onto bytes []
unfolding feeds
nothing_before bytes = refl

pub record TextRead (bytes : List ℕ) : Type 0 where
  pub log : Log
  pub fits : LogFits log
  pub lined : HasVarLines log.header
  pub text_is : bytes ≡ log_text log
  pub items_are : items_of (lines (onto bytes [])) ≡ log_items log

-- a text of lines without a fault is that of a log
pub text_read : (bytes : List ℕ) → IsText (onto bytes []) → TextRead bytes
text_read bytes is =
    let r = log_read (lines (onto bytes [])) is.fine is.ended in
    let past : onto bytes [] ≡ feeds (lines (onto bytes [])) = past_whole (onto bytes []) ∙ ap (λ (l : Line). onto l (feeds (lines (onto bytes [])))) is.whole in
    let same : onto bytes [] ≡ onto (log_text r.log) [] = past ∙ ap feeds r.lines_are ∙ feeds-onto (lines_of r.log) [] ∙ nothing_before (log_text r.log) in
    record { log = r.log; fits = r.fits; lined = r.lined; text_is = onto_same bytes (log_text r.log) same; items_are = r.items_are }

-- the text of a log is one of lines without a fault
pub text_again : (log : Log) → LogFits log → AllByRecursion HasNoFeed (lines_of log) → IsText (onto (log_text log) []) × (items_of (lines (onto (log_text log) [])) ≡ log_items (lined log))
text_again log fits plain =
    let a = log_again log fits in
    let past : onto (log_text log) [] ≡ feeds (onto (lines_of log) []) = sym (feeds-onto (lines_of log) [] ∙ nothing_before (log_text log)) in
    let lines_are : lines (onto (log_text log) []) ≡ onto (lines_of log) [] = ap lines past ∙ lines-feeds (onto (lines_of log) []) (all_onto HasNoFeed (lines_of log) [] plain tt) in
    let whole : line_now (onto (log_text log) []) ≡ [] = ap line_now past ∙ line_now-feeds (onto (lines_of log) []) in
    (record { fine = subst AreFine (sym lines_are) a.fine; ended = ap is_ended lines_are ∙ a.ended; whole = whole }, ap items_of lines_are ∙ a.items_are)

-- the lines of the text of a log
pub lines-text : (log : Log) → AllByRecursion HasNoFeed (lines_of log) → lines (onto (log_text log) []) ≡ onto (lines_of log) []
lines-text log plain =
    let past : onto (log_text log) [] ≡ feeds (onto (lines_of log) []) = sym (feeds-onto (lines_of log) [] ∙ nothing_before (log_text log)) in
    ap lines past ∙ lines-feeds (onto (lines_of log) []) (all_onto HasNoFeed (lines_of log) [] plain tt)
