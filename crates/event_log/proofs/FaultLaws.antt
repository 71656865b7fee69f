-- How the first fault and the items follow the bytes.
use Rattle.std.proofs.Common.{◌≡◌, ℕ, ◌+◌, ◌<◌, ◌≤◌, Bool, true, false, Option, Some, None, List, [], ◌∷◌, ◌++◌, length, refl, sym, ap, ◌∙◌, arith, inl, inr}
use Rattle.std.specs.Prelude.{◌==◌, nat_lt, nat_le, not, ◌&&◌}
use Rattle.std.specs.Option.{option_map}
use Rattle.std.proofs.lemmas.Bool.{cases_Bool, cases_lt, le-leb, lt-leb, le-ltb, true≢false}
use Rattle.std.proofs.lemmas.List.{append-nil, length_push}
use Rattle.std.proofs.lemmas.Option.{none-some}
use Rattle.pota_base.specs.Limits.{longest_line, longest_log}
use Rattle.log_lines.specs.Reading.{choose}
use Rattle.event_log.specs.declared.item.LogCode.{LogCode}
use Rattle.event_log.specs.declared.item.LogCode.TheVariants as code
use Rattle.event_log.specs.declared.item.LogFault.{LogFault}
use Rattle.event_log.specs.declared.item.Item.{Item}
use Rattle.event_log.specs.Before.{is_ended, Told, gives, refuses, told}
use Rattle.event_log.specs.inside.Before.{AreFine, items_of}
use Rattle.event_log.specs.LogText.{onto}
use Rattle.event_log.specs.Moments.{IsPlainByte, HasNoFeed, line_now, lines}
use Rattle.event_log.specs.Faults.{is_heading_byte, byte_fault, feed_told, moment_told, placed, first_fault, items}
use Rattle.event_log.proofs.ReadLaws.{items-next, fine_again}
use Rattle.event_log.proofs.Texts.{line_now-plain, lines-plain}

-- ---- a byte

pub byte_passes : (total width b : ℕ) → 11 ≤ total → total < longest_log → width < longest_line → byte_fault total false width b ≡ None
unfolding byte_fault
byte_passes total width b started room narrow = rw (lt-leb longest_log total room, le-ltb total 11 started, lt-leb longest_line width narrow) refl

-- no fault leaves room for the byte
pub byte_room : (total : ℕ) (ended : Bool) (width b : ℕ) → byte_fault total ended width b ≡ None → total < longest_log
unfolding byte_fault
byte_room total ended width b h = elim (cases_lt total longest_log) [
  | inl room ↦ room
  | inr full ↦ absurd (none-some code.LogTooLong (sym (rw (le-leb longest_log total full) at h)))
]

module _ (b : ℕ) (past : List ℕ) where
  pub stuck-byte : (f : LogFault) → first_fault past ≡ Some f → first_fault (b ∷ past) ≡ Some f
  unfolding first_fault
  stuck-byte f h = rw h refl

  pub stuck_items-byte : (f : LogFault) → first_fault past ≡ Some f → items (b ∷ past) ≡ items past
  unfolding items
  stuck_items-byte f h = rw h refl

  pub fault-next : first_fault past ≡ None → first_fault (b ∷ past) ≡ option_map (placed past) (moment_told b past).fault
  unfolding first_fault
  fault-next h = rw h refl

  pub items_byte-next : first_fault past ≡ None → items (b ∷ past) ≡ items past ++ (moment_told b past).items
  unfolding items
  items_byte-next h = rw h refl

  pub fault_before : first_fault (b ∷ past) ≡ None → first_fault past ≡ None
  unfolding first_fault
  fault_before h = go (first_fault past) refl
    where
      go : (o : Option LogFault) → first_fault past ≡ o → first_fault past ≡ None
      go None e = e
      go (Some f) e = absurd (none-some f (sym (sym (rw e refl) ∙ h)))

-- nothing follows a fault
pub stuck : (bytes past : List ℕ) (f : LogFault) → first_fault past ≡ Some f → (first_fault (onto bytes past) ≡ Some f) × (items (onto bytes past) ≡ items past)
stuck [] past f h = (h, refl)
stuck (b ∷ bytes) past f h =
    let more = stuck bytes (b ∷ past) f (stuck-byte b past f h) in
    (more.0, more.1 ∙ stuck_items-byte b past f h)

-- ---- a byte that has no fault and is no line feed

pub record Passed (bytes past : List ℕ) : Type 0 where
  pub fault_is : first_fault (onto bytes past) ≡ None
  pub items_are : items (onto bytes past) ≡ items past

quiet_moment : (b : ℕ) (past : List ℕ) → IsPlainByte b → byte_fault (length past) (is_ended (lines past)) (length (line_now past)) b ≡ None → moment_told b past ≡ gives []
quiet_moment b past plain none = rw (none, plain) refl

pub one_passes : (b : ℕ) (past : List ℕ) → first_fault past ≡ None → IsPlainByte b → byte_fault (length past) (is_ended (lines past)) (length (line_now past)) b ≡ None → Passed (b ∷ []) past
one_passes b past before plain none =
    let m = quiet_moment b past plain none in
    record {
      fault_is = fault-next b past before ∙ ap (λ (t : Told). option_map (placed past) t.fault) m;
      items_are = items_byte-next b past before ∙ ap (λ (t : Told). items past ++ t.items) m ∙ append-nil (items past);
    }

-- a fault at a byte
pub one_faults : (b : ℕ) (past : List ℕ) (c : LogCode) → first_fault past ≡ None → byte_fault (length past) (is_ended (lines past)) (length (line_now past)) b ≡ Some c → (first_fault (b ∷ past) ≡ Some (placed past c)) × (items (b ∷ past) ≡ items past)
one_faults b past c before some =
    let m : moment_told b past ≡ refuses c = rw some refl in
    (fault-next b past before ∙ ap (λ (t : Told). option_map (placed past) t.fault) m, items_byte-next b past before ∙ ap (λ (t : Told). items past ++ t.items) m ∙ append-nil (items past))

-- a whole chunk with room for it
pub quiet_passes : (bytes past : List ℕ) → first_fault past ≡ None → HasNoFeed bytes → 11 ≤ length past → length past + length bytes ≤ longest_log → is_ended (lines past) ≡ false → length (line_now past) + length bytes ≤ longest_line → Passed bytes past
quiet_passes [] past before plain started room open_ narrow = record { fault_is = before; items_are = refl }
quiet_passes (b ∷ bytes) past before plain started room open_ narrow =
    let none : byte_fault (length past) (is_ended (lines past)) (length (line_now past)) b ≡ None = rw open_ (byte_passes (length past) (length (line_now past)) b started (omega arith) (omega arith)) in
    let one = one_passes b past before plain.0 none in
    let width : length (line_now (b ∷ past)) ≡ length (line_now past) + 1 = ap length (line_now-plain (b ∷ []) past (plain.0, tt)) ∙ length_push (line_now past) b in
    let same : lines (b ∷ past) ≡ lines past = lines-plain (b ∷ []) past (plain.0, tt) in
    let more = quiet_passes bytes (b ∷ past) one.fault_is plain.1 (omega arith) (omega arith) (ap is_ended same ∙ open_) (omega (arith, width, narrow)) in
    record { fault_is = more.fault_is; items_are = more.items_are ∙ one.items_are }

-- ---- a line feed

pub feed_moment : (past : List ℕ) → byte_fault (length past) (is_ended (lines past)) (length (line_now past)) 10 ≡ None → moment_told 10 past ≡ told (lines past) (line_now past)
feed_moment past none = rw none refl

pub lines-feed : (past : List ℕ) → lines (10 ∷ past) ≡ line_now past ∷ lines past
unfolding lines
lines-feed past = refl

pub line_now-feed : (past : List ℕ) → line_now (10 ∷ past) ≡ []
unfolding line_now
line_now-feed past = refl

-- ---- without a fault

pub record FaultFree (past : List ℕ) : Type 0 where
  pub fine : AreFine (lines past)
  pub end_now : is_ended (lines past) ≡ true → line_now past ≡ []
  pub items_are : items past ≡ items_of (lines past)

-- what a moment without a fault says of its byte
moment_quiet : (o : Option LogCode) (t : Told) → (choose o refuses t).fault ≡ None → (o ≡ None) × (t.fault ≡ None)
moment_quiet None t h = (refl, h)
moment_quiet (Some c) t h = absurd (none-some c (sym h))

mapped_none : (past : List ℕ) (o : Option LogCode) → option_map (placed past) o ≡ None → o ≡ None
mapped_none past None h = refl
mapped_none past (Some c) h = absurd (none-some (placed past c) (sym h))

-- each byte behind the `end` line is a fault
pub ended_byte : (total width b : ℕ) → byte_fault total true width b ≡ None → ⊥
unfolding byte_fault
ended_byte total width b h = elim (cases_Bool (nat_le longest_log total)) [
  | inl full ↦ none-some code.LogTooLong (sym (rw full at h))
  | inr room ↦ elim (cases_Bool (nat_lt total 11 && not (is_heading_byte total b))) [
    | inl bad ↦ none-some code.BadHeader (sym (rw (room, bad) at h))
    | inr good ↦ none-some code.Trailing (sym (rw (room, good) at h))
  ]
]

free_byte : (b : ℕ) (past : List ℕ) → FaultFree past → first_fault past ≡ None → (moment_told b past).fault ≡ None → FaultFree (b ∷ past)
unfolding lines line_now
free_byte b past free before none =
    let quiet = moment_quiet (byte_fault (length past) (is_ended (lines past)) (length (line_now past)) b) (feed_told b past) none in
    let m : moment_told b past ≡ feed_told b past = rw quiet.0 refl in
    let open_ : is_ended (lines past) ≡ false = elim (cases_Bool (is_ended (lines past))) [
      | inl ended ↦ absurd (ended_byte (length past) (length (line_now past)) b (rw ended at quiet.0))
      | inr open_ ↦ open_
    ] in
    let given = items_byte-next b past before ∙ ap (λ (t : Told). items past ++ t.items) m in
    elim (cases_Bool (b == 10)) [
      | inl feed ↦
          let line_fine : (told (lines past) (line_now past)).fault ≡ None = rw feed at quiet.1 in
          record {
            fine = rw feed (fine_again (line_now past) (lines past) line_fine free.fine);
            end_now = λ _. rw feed refl;
            items_are = rw feed at given ∙ ap (λ (xs : List Item). xs ++ (told (lines past) (line_now past)).items) free.items_are ∙ rw feed (sym (items-next (line_now past) (lines past)));
          }
      | inr plain ↦ record {
        fine = rw plain free.fine;
        end_now = λ ended. absurd (true≢false (sym (rw plain at ended) ∙ open_));
        items_are = rw plain at given ∙ append-nil (items past) ∙ free.items_are ∙ rw plain refl;
      }
    ]

-- a text without a fault is no longer than a log may be
pub free_small : (past : List ℕ) → first_fault past ≡ None → length past ≤ longest_log
free_small [] h = omega arith
free_small (b ∷ past) h =
    let before = fault_before b past h in
    let quiet = moment_quiet (byte_fault (length past) (is_ended (lines past)) (length (line_now past)) b) (feed_told b past) (mapped_none past (moment_told b past).fault (sym (fault-next b past before) ∙ h)) in
    omega (arith, byte_room (length past) (is_ended (lines past)) (length (line_now past)) b quiet.0)

pub fault_free : (past : List ℕ) → first_fault past ≡ None → FaultFree past
unfolding lines line_now items items_of AreFine
fault_free [] h = record { fine = tt; end_now = λ _. refl; items_are = refl }
fault_free (b ∷ past) h =
    let before = fault_before b past h in
    free_byte b past (fault_free past before) before (mapped_none past (moment_told b past).fault (sym (fault-next b past before) ∙ h))
