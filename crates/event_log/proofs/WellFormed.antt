-- Texts without a fault, and logs.
use Rattle.std.proofs.Common.{◌≡◌, ℕ, ◌+◌, ◌<◌, ◌≤◌, Bool, true, false, cond, Option, Some, None, List, [], ◌∷◌, ◌++◌, length, refl, sym, ap, subst, ◌∙◌, arith, inl, inr}
use Rattle.std.specs.Prelude.{◌==◌, nat_lt, nat_le, not, ◌&&◌, ◌⊎◌}
use Rattle.std.specs.Option.{option_map}
use Rattle.std.specs.List.{AllByRecursion}
use Rattle.std.proofs.lemmas.Bool.{cases_Bool, cases_lt, lt-leb, lt-ltb, le-ltb}
use Rattle.std.proofs.lemmas.List.{append-nil, length_push}
use Rattle.std.proofs.lemmas.Option.{none-some}
use Rattle.pota_base.specs.Limits.{longest_line, longest_log}
use Rattle.log_lines.specs.Reading.{choose}
use Rattle.event_log.specs.declared.item.LogCode.{LogCode}
use Rattle.event_log.specs.declared.item.LogCode.TheVariants as code
use Rattle.event_log.specs.declared.item.LogFault.{LogFault}
use Rattle.event_log.specs.declared.item.Item.{Item}
use Rattle.event_log.specs.declared.log.Log.{Log}
use Rattle.event_log.specs.Before.{Line, IsVersion, is_ended, Told, refuses}
use Rattle.event_log.specs.inside.Before.{AreFine, items_of}
use Rattle.event_log.specs.LogText.{onto, log_text, log_items, lined}
use Rattle.event_log.specs.Moments.{line_now, lines}
use Rattle.event_log.specs.Faults.{heading_line, is_heading_byte, byte_fault, feed_told, moment_told, placed, first_fault, items, end_fault, items_in}
use Rattle.event_log.specs.Laws.{IsLog, IsWellFormed, IsTextOf}
use Rattle.event_log.proofs.LineSteps.{told-ended}
use Rattle.event_log.proofs.ReadLaws.{items-next, fine_next}
use Rattle.event_log.proofs.Texts.{text_read, text_again}
use Rattle.event_log.proofs.Lists.{length-onto}
use Rattle.event_log.proofs.Plain.{log_plain}
use Rattle.event_log.proofs.FaultLaws.{fault_free, free_small, fault-next, items_byte-next}

-- ---- a text without a fault is that of a log

ended_fault : (past : List ℕ) → end_fault past ≡ None → (first_fault past ≡ None) × (is_ended (lines past) ≡ true)
ended_fault past h = go (first_fault past) refl h
  where
    rest : (b : Bool) → is_ended (lines past) ≡ b → cond b None (Some (placed past code.Truncated)) ≡ None → is_ended (lines past) ≡ true
    rest true e g = e
    rest false e g = absurd (none-some (placed past code.Truncated) (sym g))

    go : (o : Option LogFault) → first_fault past ≡ o → choose o (λ f. Some f) (cond (is_ended (lines past)) None (Some (placed past code.Truncated))) ≡ None → (first_fault past ≡ None) × (is_ended (lines past) ≡ true)
    go None e g = (e, rest (is_ended (lines past)) refl g)
    go (Some f) e g = absurd (none-some f (sym g))

pub fault_free_log : (bytes : List ℕ) → IsWellFormed bytes → (log : Log) × IsTextOf bytes log
fault_free_log bytes h =
    let e = ended_fault (onto bytes []) h in
    let f = fault_free (onto bytes []) e.0 in
    let r = text_read bytes (record { fine = f.fine; ended = e.1; whole = f.end_now e.1 }) in
    let small : length (log_text r.log) ≤ longest_log = omega (arith, free_small (onto bytes []) e.0, length-onto bytes [], ap length r.text_is) in
    (r.log, record { log_is = record { fits = r.fits; small = small }; lines_are = r.lined; text_is = r.text_is; items_are = f.items_are ∙ r.items_are })

-- ---- the text of a log has no fault

-- the first bytes are those of the heading
HeadingFine : List ℕ → Type 0
HeadingFine [] = Unit {0}
HeadingFine (b ∷ past) = (length past < 11 → is_heading_byte (length past) b ≡ true) × HeadingFine past

heading_later : (bytes past : List ℕ) → HeadingFine past → 11 ≤ length past → HeadingFine (onto bytes past)
unfolding HeadingFine
heading_later [] past fine long = fine
heading_later (b ∷ bytes) past fine long = heading_later bytes (b ∷ past) (λ short. absurd (omega arith), fine) (omega arith)

-- the line of either version
heading_begins : (n : ℕ) → IsVersion n → HeadingFine (onto (heading_line n) [])
unfolding HeadingFine
heading_begins n (inl one) = subst (λ (k : ℕ). HeadingFine (onto (heading_line k) [])) (sym one) ((λ _. refl), ((λ _. refl), ((λ _. refl), ((λ _. refl), ((λ _. refl), ((λ _. refl), ((λ _. refl), ((λ _. refl), ((λ _. refl), ((λ _. refl), ((λ _. refl), tt)))))))))))
heading_begins n (inr two) = subst (λ (k : ℕ). HeadingFine (onto (heading_line k) [])) (sym two) ((λ _. refl), ((λ _. refl), ((λ _. refl), ((λ _. refl), ((λ _. refl), ((λ _. refl), ((λ _. refl), ((λ _. refl), ((λ _. refl), ((λ _. refl), ((λ _. refl), tt)))))))))))

heading_fine : (n : ℕ) → IsVersion n → (rest : List ℕ) → HeadingFine (onto (heading_line n ++ rest) [])
heading_fine n versioned rest = heading_later rest (onto (heading_line n) []) (heading_begins n versioned) (omega arith)

-- what a text needs to have no fault, beside what its lines need
record HasRoom (past : List ℕ) : Type 0 where
  fine : AreFine (lines past)
  end_now : is_ended (lines past) ≡ true → line_now past ≡ []
  narrow : AllByRecursion (λ (l : Line). length l ≤ longest_line) (lines past)
  narrow_now : length (line_now past) ≤ longest_line
  small : length past ≤ longest_log
  heading : HeadingFine past

record ReadsFree (past : List ℕ) : Type 0 where
  fault_is : first_fault past ≡ None
  items_are : items past ≡ items_of (lines past)

byte_free : (total width b : ℕ) → total < longest_log → (total < 11 → is_heading_byte total b ≡ true) → (b == 10) ≡ true ⊎ (width < longest_line) → byte_fault total false width b ≡ None
unfolding byte_fault
byte_free total width b room heading narrow =
    let started : (nat_lt total 11 && not (is_heading_byte total b)) ≡ false = elim (cases_lt total 11) [
      | inl early ↦ rw (lt-ltb total 11 early, heading early) refl
      | inr late ↦ rw (le-ltb total 11 late) refl
    ] in
    let fits : (nat_le longest_line width && not (b == 10)) ≡ false = elim narrow [
      | inl feed ↦ rw feed (and_false (nat_le longest_line width))
      | inr small ↦ rw (lt-leb longest_line width small) refl
    ] in
    rw (lt-leb longest_log total room, started, fits) refl
  where
    and_false : (x : Bool) → (x && false) ≡ false
    and_false true = refl
    and_false false = refl

module _ (b : ℕ) (past : List ℕ) (r : HasRoom (b ∷ past)) where
  room_before_feed : (b == 10) ≡ true → HasRoom past
  unfolding lines line_now HeadingFine
  room_before_feed feed =
      let fine = fine_next (line_now past) (lines past) (rw feed at r.fine) in
      let narrow = rw feed at r.narrow in
      record {
        fine = fine.1;
        end_now = λ ended. absurd (none-some code.Trailing (sym fine.0 ∙ ap (λ (t : Told). t.fault) (told-ended (lines past) (line_now past) ended)));
        narrow = narrow.1;
        narrow_now = narrow.0;
        small = omega (arith, r.small);
        heading = r.heading.1;
      }

  room_before_plain : (b == 10) ≡ false → HasRoom past
  unfolding lines line_now HeadingFine
  room_before_plain plain =
      let width : length (line_now past) + 1 ≤ longest_line = rw (length_push (line_now past) b) at (rw plain at r.narrow_now) in
      record {
        fine = rw plain at r.fine;
        end_now = λ ended. absurd (not_nil (line_now past) b (rw plain at (r.end_now (rw plain ended))));
        narrow = rw plain at r.narrow;
        narrow_now = omega (arith, width);
        small = omega (arith, r.small);
        heading = r.heading.1;
      }
    where
      not_nil : (xs : List ℕ) (x : ℕ) → xs ++ x ∷ [] ≡ [] → ⊥
      not_nil [] x e = cc e
      not_nil (y ∷ ys) x e = cc e

no_end_before : (b : ℕ) (past : List ℕ) → HasRoom (b ∷ past) → is_ended (lines past) ≡ false
unfolding lines line_now
no_end_before b past r = elim (cases_Bool (is_ended (lines past))) [
  | inr open_ ↦ open_
  | inl ended ↦ elim (cases_Bool (b == 10)) [
    | inl feed ↦
        let fine = fine_next (line_now past) (lines past) (rw feed at r.fine) in
        absurd (none-some code.Trailing (sym fine.0 ∙ ap (λ (t : Told). t.fault) (told-ended (lines past) (line_now past) ended)))
    | inr plain ↦
        let none : line_now past ++ b ∷ [] ≡ [] = rw plain at (r.end_now (rw plain ended)) in
        absurd (omega (arith, ap length none, length_push (line_now past) b))
  ]
]

byte_quiet : (b : ℕ) (past : List ℕ) → HasRoom (b ∷ past) → byte_fault (length past) (is_ended (lines past)) (length (line_now past)) b ≡ None
unfolding lines line_now HeadingFine
byte_quiet b past r =
    let small : length past < longest_log = omega (arith, r.small) in
    rw (no_end_before b past r) (elim (cases_Bool (b == 10)) [
      | inl feed ↦ byte_free (length past) (length (line_now past)) b small r.heading.0 (inl feed)
      | inr plain ↦
          let width : length (line_now past) + 1 ≤ longest_line = rw (length_push (line_now past) b) at (rw plain at r.narrow_now) in
          byte_free (length past) (length (line_now past)) b small r.heading.0 (inr (omega arith))
    ])

told_quiet : (b : ℕ) (past : List ℕ) → HasRoom (b ∷ past) → (feed_told b past).fault ≡ None
unfolding lines
told_quiet b past r = elim (cases_Bool (b == 10)) [
  | inl feed ↦ rw feed (fine_next (line_now past) (lines past) (rw feed at r.fine)).0
  | inr plain ↦ rw plain refl
]

items_told : (b : ℕ) (past : List ℕ) → items_of (lines (b ∷ past)) ≡ items_of (lines past) ++ (feed_told b past).items
unfolding lines
items_told b past = elim (cases_Bool (b == 10)) [
  | inl feed ↦ rw feed (items-next (line_now past) (lines past))
  | inr plain ↦ rw plain (sym (append-nil (items_of (lines past))))
]

room_before : (b : ℕ) (past : List ℕ) → HasRoom (b ∷ past) → HasRoom past
room_before b past r = elim (cases_Bool (b == 10)) [
  | inl feed ↦ room_before_feed b past r feed
  | inr plain ↦ room_before_plain b past r plain
]

reads_free : (past : List ℕ) → HasRoom past → ReadsFree past
unfolding first_fault items items_of lines
reads_free [] r = record { fault_is = refl; items_are = refl }
reads_free (b ∷ past) r =
    let before = reads_free past (room_before b past r) in
    let m : moment_told b past ≡ feed_told b past = ap (λ (o : Option LogCode). choose o refuses (feed_told b past)) (byte_quiet b past r) in
    record {
      fault_is = fault-next b past before.fault_is ∙ ap (λ (t : Told). option_map (placed past) t.fault) m ∙ ap (option_map (placed past)) (told_quiet b past r);
      items_are = items_byte-next b past before.fault_is ∙ ap (λ (t : Told). items past ++ t.items) m ∙ ap (λ (xs : List Item). xs ++ (feed_told b past).items) before.items_are ∙ sym (items_told b past);
    }

-- the text begins with the heading
text_heading : (log : Log) → (rest : List ℕ) × (log_text log ≡ heading_line log.header.version ++ rest)
text_heading log = (_, refl)

pub log_fault_free : (log : Log) → IsLog log → AllByRecursion (λ (l : Line). length l ≤ longest_line) (lines (onto (log_text log) [])) → IsWellFormed (log_text log) × (items_in (log_text log) ≡ log_items (lined log))
log_fault_free log is narrow =
    let again = text_again log is.fits (log_plain log is.fits) in
    let past = onto (log_text log) [] in
    let h = text_heading log in
    let room : HasRoom past = record {
      fine = again.0.fine;
      end_now = λ _. again.0.whole;
      narrow = narrow;
      narrow_now = rw again.0.whole (omega arith);
      small = omega (arith, is.small, length-onto (log_text log) []);
      heading = subst (λ (bytes : List ℕ). HeadingFine (onto bytes [])) (sym h.1) (heading_fine log.header.version is.fits.header.version h.0);
    } in
    let free = reads_free past room in
    (ap (λ (o : Option LogFault). choose o (λ f. Some f) (cond (is_ended (lines past)) None (Some (placed past code.Truncated)))) free.fault_is ∙ rw again.0.ended refl, free.items_are ∙ again.1)
