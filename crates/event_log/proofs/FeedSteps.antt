-- How the feeder follows the bytes.
use Rattle.std.proofs.Common.{◌≡◌, ℕ, ◌+◌, ◌<◌, ◌≤◌, Bool, true, false, Option, Some, None, List, [], ◌∷◌, ◌++◌, length, refl, sym, ap, subst, ◌∙◌, arith, append_assoc, get_or, inl, inr}
use Rattle.std.specs.Prelude.{is_some}
use Rattle.std.specs.Option.{option_map}
use Rattle.std.proofs.lemmas.Bool.{cases_Bool}
use Rattle.std.proofs.lemmas.List.{append-nil}
use Rattle.std.proofs.lemmas.Option.{none-some}
use Rattle.pota_base.specs.Limits.{longest_line, longest_log}
use Rattle.event_log.specs.declared.item.LogCode.{LogCode}
use Rattle.event_log.specs.declared.item.LogFault.{LogFault}
use Rattle.event_log.specs.declared.item.Item.{Item}
use Rattle.event_log.specs.declared.feeder.Feeder.{Feeder}
use Rattle.event_log.specs.Before.{Line, is_ended, Told, told}
use Rattle.event_log.specs.LogText.{onto}
use Rattle.event_log.specs.Lines.{HasReadLines}
use Rattle.event_log.specs.inside.Lines.{TakesLine}
use Rattle.event_log.specs.Moments.{IsPlainByte, HasNoFeed, line_now, lines}
use Rattle.event_log.specs.LogEnd.{is_whole, log_upto, behind_log}
use Rattle.event_log.specs.Faults.{byte_fault, moment_told, placed, first_fault, items, FedIs}
use Rattle.event_log.specs.Feeding.{Past, CountsLines, HasFed}
use Rattle.event_log.specs.inside.Feeding.{Gains, placed_at, PlainTaken, TakesPlain, ClosesLine, TakesFedLine, TakesLog, JudgesRest}
use Rattle.event_log.specs.declared.reader.Reader.{Reader}
use Rattle.event_log.specs.declared.item.Fed.{Fed}
use Rattle.event_log.specs.Reader.{HasRead, ReadsLog}
use Rattle.event_log.proofs.ReadLaws.{some_value}
use Rattle.event_log.proofs.Lists.{onto-append, length-onto}
use Rattle.event_log.proofs.Texts.{line_now-plain, lines-plain}
use Rattle.event_log.proofs.LogEnds.{LeadsTo, then_leads, upto_line, upto_open, whole_upto, whole_behind, parted, all_read, behind_open}
use Rattle.event_log.proofs.FaultLaws.{byte_room, stuck-byte, stuck_items-byte, fault-next, items_byte-next, stuck, Passed, one_passes, one_faults, quiet_passes, ended_byte, feed_moment, lines-feed, line_now-feed}

-- what the feeder knows of the next byte's fault
abbrev pub Knows : Feeder → ℕ → ℕ → Option LogCode → Type 0
Knows f width b o = (past : Past) → CountsLines f past → o ≡ byte_fault (length past) (is_ended (lines past)) width b

-- no fault leaves room
pub room_none : (total : ℕ) (ended : Bool) (width b : ℕ) (o : Option LogCode) → o ≡ byte_fault total ended width b → o ≡ None → total < longest_log
room_none total ended width b o is none = byte_room total ended width b (sym is ∙ none)

fault_placed : (f : Feeder) (past : Past) (c : LogCode) → CountsLines f past → placed_at (f.reader.lines + 1) c ≡ placed past c
fault_placed f past c counts = ap (λ (n : ℕ). placed_at (n + 1) c) counts.knows.lines_are

-- ---- a byte

pub byte_faults : (f new : Feeder) (b : ℕ) (c : LogCode) → Knows f (length f.line.items) b (Some c) → TakesPlain f (b ∷ []) (Some (placed_at (f.reader.lines + 1) c)) new
byte_faults f new b c knows past has =
    let some : byte_fault (length past) (is_ended (lines past)) (length (line_now past)) b ≡ Some c = sym (knows past has.counts ∙ ap (λ (l : Line). byte_fault (length past) (is_ended (lines past)) (length l) b) has.line_is) in
    let one = one_faults b past c has.counts.fault_is some in
    record {
      fault_is = ap (λ (x : LogFault). Some x) (fault_placed f past c has.counts) ∙ sym one.0;
      items_are = one.1;
      feeds = λ none. absurd (none-some _ (sym none));
    }

-- bytes that have no fault
gains_fed : (f new : Feeder) (bytes : List ℕ) (past : Past) → HasFed f past → HasNoFeed bytes → Passed bytes past → Gains f new bytes → HasFed new (onto bytes past)
gains_fed f new bytes past has plain passed gains = record {
  counts = record {
    fault_is = passed.fault_is;
    total_is = omega (arith, gains.total_is, has.counts.total_is, length-onto bytes past);
    knows = rw (gains.reader_is, lines-plain bytes past plain) has.counts.knows;
  };
  line_is = gains.line_is ∙ ap (λ (l : Line). l ++ bytes) has.line_is ∙ sym (line_now-plain bytes past plain);
}

taken_passed : (f new : Feeder) (bytes : List ℕ) (past : Past) → HasFed f past → HasNoFeed bytes → Passed bytes past → Gains f new bytes → PlainTaken bytes past None new
taken_passed f new bytes past has plain passed gains = record { fault_is = sym passed.fault_is; items_are = passed.items_are; feeds = λ _. gains_fed f new bytes past has plain passed gains }

pub byte_takes : (f new : Feeder) (b : ℕ) → IsPlainByte b → Knows f (length f.line.items) b None → Gains f new (b ∷ []) → TakesPlain f (b ∷ []) None new
byte_takes f new b plain knows gains past has =
    let none : byte_fault (length past) (is_ended (lines past)) (length (line_now past)) b ≡ None = sym (knows past has.counts ∙ ap (λ (l : Line). byte_fault (length past) (is_ended (lines past)) (length l) b) has.line_is) in
    taken_passed f new (b ∷ []) past has (plain, tt) (one_passes b past has.counts.fault_is plain none) gains

-- ---- bytes that can have no fault

pub record CanTake (f : Feeder) (len : ℕ) : Type 0 where
  pub room : (11 ≤ f.total) × (f.total + len ≤ longest_log) × (length f.line.items + len ≤ longest_line)
  pub open_ : (past : Past) → CountsLines f past → is_ended (lines past) ≡ false

chunk_passes : (f : Feeder) (bytes : List ℕ) (past : Past) → HasFed f past → HasNoFeed bytes → CanTake f (length bytes) → Passed bytes past
chunk_passes f bytes past has plain can =
    quiet_passes bytes past has.counts.fault_is plain (omega (arith, can.room.0, has.counts.total_is)) (omega (arith, can.room.1, has.counts.total_is)) (can.open_ past has.counts) (omega (arith, can.room.2, ap length has.line_is))

pub quiet_takes : (f new : Feeder) (bytes : List ℕ) → HasNoFeed bytes → CanTake f (length bytes) → Gains f new bytes → TakesPlain f bytes None new
quiet_takes f new bytes plain can gains past has = taken_passed f new bytes past has plain (chunk_passes f bytes past has plain can) gains

-- ---- one after the other

pub then_plain : (a b c : Feeder) (xs ys : List ℕ) (o : Option LogFault) → TakesPlain a xs None b → TakesPlain b ys o c → TakesPlain a (xs ++ ys) o c
then_plain a b c xs ys o first second past has =
    let p = first past has in
    let q = second (onto xs past) (p.feeds refl) in
    let e = onto-append xs ys past in
    record { fault_is = q.fault_is ∙ ap first_fault (sym e); items_are = ap items e ∙ q.items_are ∙ p.items_are; feeds = λ none. subst (HasFed c) (sym e) (q.feeds none) }

-- nothing follows a fault
pub fault_stays : (a b c : Feeder) (xs ys : List ℕ) (f : LogFault) → TakesPlain a xs (Some f) b → TakesPlain a (xs ++ ys) (Some f) c
fault_stays a b c xs ys f taken past has =
    let p = taken past has in
    let s = stuck ys (onto xs past) f (sym p.fault_is) in
    let e = onto-append xs ys past in
    record { fault_is = sym (ap first_fault e ∙ s.0); items_are = ap items e ∙ s.1 ∙ p.items_are; feeds = λ none. absurd (none-some f (sym none)) }

-- ---- a line feed

pub close_faults : (f new : Feeder) (line : List ℕ) (before : List Item) (c : LogCode) → Knows f (length line) 10 (Some c) → ClosesLine f line before (Some (placed_at (f.reader.lines + 1) c)) before new
close_faults f new line before c knows past counts is =
    let some : byte_fault (length past) (is_ended (lines past)) (length (line_now past)) 10 ≡ Some c = sym (knows past counts ∙ ap (λ (l : Line). byte_fault (length past) (is_ended (lines past)) (length l) 10) is) in
    let one = one_faults 10 past c counts.fault_is some in
    (record { items_are = λ front at. one.1 ∙ at; fault_is = ap (λ (x : LogFault). Some x) (fault_placed f past c counts) ∙ sym one.0 }, λ none. absurd (none-some _ (sym none)))

pub close_takes : (f new : Feeder) (line : List ℕ) (before after : List Item) (o : Option LogCode) → Knows f (length line) 10 None → TakesLine f.reader line before o after new.reader → new.total ≡ f.total + 1
    → ClosesLine f line before (option_map (placed_at (f.reader.lines + 1)) o) after new
close_takes f new line before after o knows takes more past counts is =
    let none : byte_fault (length past) (is_ended (lines past)) (length (line_now past)) 10 ≡ None = sym (knows past counts ∙ ap (λ (l : Line). byte_fault (length past) (is_ended (lines past)) (length l) 10) is) in
    let taken = takes (lines past) counts.knows in
    let given : List Item = (told (lines past) line).items in
    let m : moment_told 10 past ≡ told (lines past) line = feed_moment past none ∙ ap (told (lines past)) (sym is) in
    let fault : first_fault (10 ∷ past) ≡ option_map (placed past) o = fault-next 10 past counts.fault_is ∙ ap (λ (x : Told). option_map (placed past) x.fault) m ∙ ap (option_map (placed past)) taken.fault_is in
    let at : option_map (placed_at (f.reader.lines + 1)) o ≡ option_map (placed past) o = ap (λ (n : ℕ). option_map (placed_at (n + 1)) o) counts.knows.lines_are in (
      record {
        items_are = λ front had.
            items_byte-next 10 past counts.fault_is ∙ ap (λ (x : Told). items past ++ x.items) m ∙ ap (λ (xs : List Item). xs ++ given) had ∙ append_assoc front before given ∙ ap (λ (xs : List Item). front ++ xs) (sym taken.items_are);
        fault_is = at ∙ sym fault;
      },
      λ g. record {
        fault_is = fault ∙ sym at ∙ g;
        total_is = omega (arith, more, counts.total_is);
        knows = subst (HasReadLines new.reader) (ap (λ (l : Line). l ∷ lines past) is ∙ sym (lines-feed past)) (taken.reads (mapped_none o g));
      },
    )
  where
    mapped_none : (x : Option LogCode) → option_map (placed_at (f.reader.lines + 1)) x ≡ None → x ≡ None
    mapped_none None h = refl
    mapped_none (Some c) h = absurd (none-some (placed_at (f.reader.lines + 1) c) (sym h))

-- ---- a whole line

-- a line that lies whole in the piece
pub whole_line : (f middle new : Feeder) (line : List ℕ) (before : List Item) (fault : Option LogFault) (after : List Item) → HasNoFeed line → CanTake f (length line) → f.line.items ≡ [] → middle.total ≡ f.total + length line → middle.reader ≡ f.reader → middle.line.items ≡ [] → new.line.items ≡ middle.line.items
    → ClosesLine middle line before fault after new → TakesFedLine f line before fault after new
whole_line f middle new line before fault after plain can empty total reader line_is same closes past has =
    let passed = chunk_passes f line past has plain can in
    let now_is : line_now past ≡ [] = sym has.line_is ∙ empty in
    let is : line ≡ line_now (onto line past) = sym (line_now-plain line past plain ∙ ap (λ (l : Line). l ++ line) now_is) in
    let counts : CountsLines middle (onto line past) = record {
      fault_is = passed.fault_is;
      total_is = omega (arith, total, has.counts.total_is, length-onto line past);
      knows = rw (reader, lines-plain line past plain) has.counts.knows;
    } in
    let c = closes (onto line past) counts is in (
      record { items_are = λ front had. c.0.items_are front (passed.items_are ∙ had); fault_is = c.0.fault_is },
      λ none. record { counts = c.1 none; line_is = same ∙ line_is ∙ sym (line_now-feed (onto line past)) },
    )

-- a fault before the line feed
pub line_faults : (f new last : Feeder) (line : List ℕ) (before : List Item) (x : LogFault) → TakesPlain f line (Some x) new → TakesFedLine f line before (Some x) before last
line_faults f new last line before x taken past has =
    let p = taken past has in (
      record { items_are = λ front had. stuck_items-byte 10 (onto line past) x (sym p.fault_is) ∙ p.items_are ∙ had; fault_is = sym (stuck-byte 10 (onto line past) x (sym p.fault_is)) },
      λ none. absurd (none-some x (sym none)),
    )

-- a line that was kept
pub kept_line : (f kept bare closed new : Feeder) (chunk line : List ℕ) (before : List Item) (fault : Option LogFault) (after : List Item) → TakesPlain f chunk None kept → line ≡ kept.line.items → bare.total ≡ kept.total → bare.reader ≡ kept.reader → ClosesLine bare line before fault after closed
    → new.total ≡ closed.total → new.reader ≡ closed.reader → new.line.items ≡ [] → TakesFedLine f chunk before fault after new
kept_line f kept bare closed new chunk line before fault after taken line_is total reader closes new_total new_reader new_line past has =
    let p = taken past has in
    let fed = p.feeds refl in
    let counts : CountsLines bare (onto chunk past) = record { fault_is = fed.counts.fault_is; total_is = total ∙ fed.counts.total_is; knows = rw reader fed.counts.knows } in
    let c = closes (onto chunk past) counts (line_is ∙ fed.line_is) in (
      record { items_are = λ front had. c.0.items_are front (p.items_are ∙ had); fault_is = c.0.fault_is },
      λ none.
          let k = c.1 none in
          record { counts = record { fault_is = k.fault_is; total_is = new_total ∙ k.total_is; knows = rw new_reader k.knows }; line_is = new_line ∙ sym (line_now-feed (onto chunk past)) },
    )

-- ---- a piece

-- whole lines of the piece were read, and this is left
pub record HasReadTo (now : Feeder) (piece rest : List ℕ) (given : List Item) (past : Past) : Type 0 where
  pub at : Past
  pub fed : HasFed now at
  pub leads : LeadsTo past piece at rest
  pub items_are : items at ≡ items past ++ given

abbrev pub ReadsTo : Feeder → Feeder → List ℕ → List ℕ → List Item → Type 0
ReadsTo old now piece rest given = (past : Past) → HasFed old past → HasReadTo now piece rest given past

-- what the feeder knows of the end of the log
abbrev pub KnowsEnd : Feeder → Bool → Type 0
KnowsEnd f ended = (older : List Line) → HasReadLines f.reader older → ended ≡ is_ended older

-- the bytes behind one line
line_leads : (rest line after : List ℕ) (at : Past) → rest ≡ line ++ 10 ∷ after → HasNoFeed line → is_whole at ≡ false → LeadsTo at rest (10 ∷ onto line at) after
line_leads rest line after at split plain open_ = subst (λ (xs : List ℕ). LeadsTo at xs (10 ∷ onto line at) after) (sym split) (upto_line line after at plain open_)

pub record LineFound (rest line after : List ℕ) : Type 0 where
  pub plain : HasNoFeed line
  pub split : rest ≡ line ++ 10 ∷ after

pub piece_goes_on : (old now new : Feeder) (piece rest line after : List ℕ) (given more : List Item) (fault : Option LogFault) → ReadsTo old now piece rest given → KnowsEnd now false → LineFound rest line after → TakesFedLine now line given fault more new → fault ≡ None
    → ReadsTo old new piece after more
piece_goes_on old now new piece rest line after given more fault reads knows found takes none past has =
    let r = reads past has in
    let t = takes r.at r.fed in
    let open_ : is_whole r.at ≡ false = sym (knows (lines r.at) r.fed.counts.knows) in
    record {
      at = 10 ∷ onto line r.at;
      fed = t.1 none;
      leads = then_leads past piece r.at rest (10 ∷ onto line r.at) after r.leads (line_leads rest line after r.at found.split found.plain open_);
      items_are = t.0.items_are (items past) r.items_are;
    }

pub piece_faults : (old now new : Feeder) (piece rest line after : List ℕ) (given more : List Item) (fault : Option LogFault) (x : LogFault) → ReadsTo old now piece rest given → KnowsEnd now false → LineFound rest line after → TakesFedLine now line given fault more new → fault ≡ Some x
    → (left : List ℕ) (last : Feeder) → TakesLog old piece (record { items = more; fault = fault }) left last
piece_faults old now new piece rest line after given more fault x reads knows found takes some left last past has =
    let r = reads past has in
    let t = takes r.at r.fed in
    let open_ : is_whole r.at ≡ false = sym (knows (lines r.at) r.fed.counts.knows) in
    let p = parted after (10 ∷ onto line r.at) in
    let s = stuck p.front (10 ∷ onto line r.at) x (sym t.0.fault_is ∙ some) in
    let text : log_upto past piece ≡ onto p.front (10 ∷ onto line r.at) = r.leads.upto_is ∙ (line_leads rest line after r.at found.split found.plain open_).upto_is ∙ p.upto_is in
    let items_are : items (log_upto past piece) ≡ items past ++ more = ap items text ∙ s.1 ∙ t.0.items_are (items past) r.items_are in
    record {
      fed_is = record { items_are = items_are; fault_is = some ∙ sym (ap first_fault text ∙ s.0) };
      feeds = λ none. absurd (none-some x (sym none ∙ some));
      rest_is = λ none. absurd (none-some x (sym none ∙ some));
    }

-- the piece ends in the log
pub piece_ends : (old now new last : Feeder) (piece rest : List ℕ) (given : List Item) (o : Option LogFault) → ReadsTo old now piece rest given → KnowsEnd now false → HasNoFeed rest → TakesPlain now rest o new → last.total ≡ new.total → last.reader ≡ new.reader → last.line ≡ new.line
    → TakesLog old piece (record { items = given; fault = o }) [] last
piece_ends old now new last piece rest given o reads knows plain taken total reader line_is past has =
    let r = reads past has in
    let p = taken r.at r.fed in
    let open_ : is_whole r.at ≡ false = sym (knows (lines r.at) r.fed.counts.knows) in
    let u = upto_open rest r.at plain open_ in
    let text : onto rest r.at ≡ log_upto past piece = sym (r.leads.upto_is ∙ u.0) in
    let kept : HasFed new (onto rest r.at) → HasFed last (onto rest r.at) = λ fed. record {
      counts = record { fault_is = fed.counts.fault_is; total_is = total ∙ fed.counts.total_is; knows = rw reader fed.counts.knows };
      line_is = rw line_is fed.line_is;
    } in
    record {
      fed_is = record { items_are = ap items (sym text) ∙ p.items_are ∙ r.items_are; fault_is = p.fault_is ∙ ap first_fault text };
      feeds = λ none. subst (HasFed last) text (kept (p.feeds none));
      rest_is = λ none. sym (r.leads.behind_is ∙ u.1);
    }

-- the log ends in the piece
pub log_ends : (old now new : Feeder) (piece rest : List ℕ) (given : List Item) → ReadsTo old now piece rest given → KnowsEnd now true → new ≡ now → TakesLog old piece (record { items = given; fault = None }) rest new
log_ends old now new piece rest given reads knows same past has =
    let r = reads past has in
    let whole : is_whole r.at ≡ true = sym (knows (lines r.at) r.fed.counts.knows) in
    let text : r.at ≡ log_upto past piece = sym (r.leads.upto_is ∙ whole_upto r.at rest whole) in
    let fed : HasFed new r.at = subst (λ (f : Feeder). HasFed f r.at) (sym same) r.fed in
    record {
      fed_is = record { items_are = ap items (sym text) ∙ r.items_are; fault_is = sym (ap first_fault (sym text) ∙ r.fed.counts.fault_is) };
      feeds = λ none. subst (HasFed new) text fed;
      rest_is = λ none. sym (r.leads.behind_is ∙ whole_behind r.at rest whole);
    }

-- ---- what stands behind the log

-- there is nothing
rest_is_none : (f : Feeder) → JudgesRest f [] None
rest_is_none f past bytes fed is =
    let all : onto bytes past ≡ log_upto past bytes = all_read bytes past ∙ ap (λ (xs : List ℕ). onto xs (log_upto past bytes)) (sym is) in
    sym (ap first_fault all ∙ fed.counts.fault_is)

pub no_rest : (f : Feeder) (rest : List ℕ) → length rest < 1 → JudgesRest f rest None
no_rest f [] none = rest_is_none f
no_rest f (b ∷ rest) none = absurd (omega arith)

-- there is a byte
pub rest_faults : (f : Feeder) (rest : List ℕ) (c : LogCode) (x : LogFault) → 1 ≤ length rest → Knows f (length f.line.items) (get_or rest 0 0) (Some c) → x ≡ placed_at (f.reader.lines + 1) c → JudgesRest f rest (Some x)
rest_faults f [] c x some knows x_is past bytes fed is = absurd (omega arith)
rest_faults f (b ∷ rest) c x some knows x_is past bytes fed is =
    let taken = byte_faults f f b c knows (log_upto past bytes) fed in
    let s = stuck rest (b ∷ log_upto past bytes) (placed_at (f.reader.lines + 1) c) (sym taken.fault_is) in
    let all : onto bytes past ≡ onto rest (b ∷ log_upto past bytes) = all_read bytes past ∙ ap (λ (xs : List ℕ). onto xs (log_upto past bytes)) (sym is) in
    ap (λ (y : LogFault). Some y) x_is ∙ sym (ap first_fault all ∙ s.0)

-- it is a fault, since the log has ended
pub rest_is_faulty : (f : Feeder) (rest : List ℕ) (o : Option LogFault) → 1 ≤ length rest → Knows f (length f.line.items) (get_or rest 0 0) None → JudgesRest f rest o
rest_is_faulty f [] o some knows past bytes fed is = absurd (omega arith)
rest_is_faulty f (b ∷ rest) o some knows past bytes fed is =
    let now = log_upto past bytes in
    let none : byte_fault (length now) (is_ended (lines now)) (length (line_now now)) b ≡ None = sym (knows now fed.counts ∙ ap (λ (l : Line). byte_fault (length now) (is_ended (lines now)) (length l) b) fed.line_is) in
    absurd (elim (cases_Bool (is_whole now)) [
      | inl whole ↦ ended_byte (length now) (length (line_now now)) b (rw whole at none)
      | inr open_ ↦ cc (is, behind_open bytes past open_)
    ])

-- ---- as the calls give their answers

pub close_faults_is : (f new : Feeder) (line : List ℕ) (before : List Item) (c : LogCode) (x : LogFault) → Knows f (length line) 10 (Some c) → x ≡ placed_at (f.reader.lines + 1) c → ClosesLine f line before (Some x) before new
close_faults_is f new line before c x knows x_is = subst (λ (y : LogFault). ClosesLine f line before (Some y) before new) (sym x_is) (close_faults f new line before c knows)

pub close_takes_is : (f new : Feeder) (line : List ℕ) (before after : List Item) (o : Option LogCode) (n : ℕ) (g : Option LogFault) → Knows f (length line) 10 None → TakesLine f.reader line before o after new.reader → new.total ≡ f.total + 1 → n ≡ f.reader.lines → g ≡ option_map (placed_at (n + 1)) o
    → ClosesLine f line before g after new
close_takes_is f new line before after o n g knows takes more n_is g_is =
    subst (λ (y : Option LogFault). ClosesLine f line before y after new) (sym (g_is ∙ ap (λ (k : ℕ). option_map (placed_at (k + 1)) o) n_is)) (close_takes f new line before after o knows takes more)

pub line_faults_is : (f new last : Feeder) (line : List ℕ) (before : List Item) (x : LogFault) (o : Option LogFault) → TakesPlain f line o new → o ≡ Some x → TakesFedLine f line before (Some x) before last
line_faults_is f new last line before x o taken o_is = line_faults f new last line before x (subst (λ (z : Option LogFault). TakesPlain f line z new) o_is taken)

pub none_value : {A : Type 0} (o : Option A) → is_some o ≡ false → o ≡ None
none_value None h = refl
none_value (Some x) h = absurd cc

-- ---- after a fault

pub stays_read : (r new : Reader) (given : List Item) (piece rest : List ℕ) → is_some r.fault ≡ true → given ≡ [] → new.fault ≡ r.fault → new.spent ≡ r.spent
    → (past : Past) → HasRead r past → ReadsLog new piece (record { items = given; fault = r.fault }) rest past
stays_read r new given piece rest some none same spent past has =
    let x = some_value r.fault some in
    let p = parted piece past in
    let s = stuck p.front past x.0 (sym has.fault_is ∙ x.1) in
    let fault : r.fault ≡ first_fault (log_upto past piece) = x.1 ∙ sym (ap first_fault p.upto_is ∙ s.0) in
    record {
      fed_is = record { items_are = ap items p.upto_is ∙ s.1 ∙ sym (ap (λ (xs : List Item). items past ++ xs) none ∙ append-nil (items past)); fault_is = fault };
      reads = record { not_spent = spent ∙ has.not_spent; fault_is = same ∙ fault; feeds = λ free. absurd (none-some x.0 (sym free ∙ same ∙ x.1)) };
      rest_is = λ free. absurd (none-some x.0 (sym free ∙ x.1));
    }

-- ---- all bytes

pub record RestFaults (now rest : Past) : Type 0 where
  pub fault : LogFault
  pub fault_is : first_fault (onto rest now) ≡ Some fault
  pub items_are : items (onto rest now) ≡ items now

-- a byte behind a whole log is a fault
rest_faulty : (now : Past) (b : ℕ) (rest : Past) → first_fault now ≡ None → is_whole now ≡ true → RestFaults now (b ∷ rest)
rest_faulty now b rest none whole = go (byte_fault (length now) (is_ended (lines now)) (length (line_now now)) b) refl
  where
    go : (o : Option LogCode) → byte_fault (length now) (is_ended (lines now)) (length (line_now now)) b ≡ o → RestFaults now (b ∷ rest)
    go None e = absurd (ended_byte (length now) (length (line_now now)) b (rw whole at e))
    go (Some c) e =
        let one = one_faults b now c none e in
        let s = stuck rest (b ∷ now) (placed now c) one.0 in
        record { fault = placed now c; fault_is = s.0; items_are = s.1 ∙ one.1 }

-- all bytes are those of the log, or those behind it begin with a fault
pub data AllAre (piece past : Past) : Type 0 where
  OfLog : onto piece past ≡ log_upto past piece → AllAre piece past
  Faulty : RestFaults (log_upto past piece) (behind_log past piece) → AllAre piece past

all_are : (piece past : Past) → first_fault (log_upto past piece) ≡ None → AllAre piece past
all_are piece past none = go (behind_log past piece) refl
  where
    now : Past
    now = log_upto past piece

    go : (rest : Past) → behind_log past piece ≡ rest → AllAre piece past
    go [] e = OfLog (all_read piece past ∙ ap (λ (xs : Past). onto xs now) e)
    go (b ∷ rest) e = elim (cases_Bool (is_whole now)) [
      | inl whole ↦ Faulty (subst (RestFaults now) (sym e) (rest_faulty now b rest none whole))
      | inr open_ ↦ absurd (cc (e, behind_open piece past open_))
    ]

-- a fault of the log is that of all bytes
pub faults_all : (r : Reader) (piece rest : Past) (fed : Fed) (x : LogFault) (past : Past) → ReadsLog r piece fed rest past → fed.fault ≡ Some x → FedIs fed past (onto piece past) × HasRead r (onto piece past)
faults_all r piece rest fed x past reads some =
    let all = all_read piece past in
    let s = stuck (behind_log past piece) (log_upto past piece) x (sym reads.fed_is.fault_is ∙ some) in
    let fault : fed.fault ≡ first_fault (onto piece past) = some ∙ sym (ap first_fault all ∙ s.0) in
    let same : r.fault ≡ fed.fault = reads.reads.fault_is ∙ sym reads.fed_is.fault_is in (
      record { items_are = ap items all ∙ s.1 ∙ reads.fed_is.items_are; fault_is = fault },
      record { not_spent = reads.reads.not_spent; fault_is = same ∙ fault; feeds = λ free. absurd (none-some x (sym free ∙ same ∙ some)) },
    )

-- else that of the bytes behind it is
pub reads_all : (r new : Reader) (piece rest : Past) (fed : Fed) (o : Option LogFault) (past : Past) → ReadsLog r piece fed rest past → fed.fault ≡ None → JudgesRest r.feeder rest o → new.fault ≡ o → new.spent ≡ r.spent → new.feeder ≡ r.feeder
    → FedIs (record { items = fed.items; fault = o }) past (onto piece past) × HasRead new (onto piece past)
reads_all r new piece rest fed o past reads none judges fault_is spent feeder =
    let now_none : first_fault (log_upto past piece) ≡ None = sym reads.fed_is.fault_is ∙ none in
    let has = reads.reads.feeds (reads.reads.fault_is ∙ now_none) in
    let judged : o ≡ first_fault (onto piece past) = judges past piece has (reads.rest_is none) in
    let all = all_read piece past in
    let items_are : items (onto piece past) ≡ items (log_upto past piece) = elim (all_are piece past now_none) [
      | OfLog same ↦ ap items same
      | Faulty faults ↦ ap items all ∙ faults.items_are
    ] in
    let feeds : new.fault ≡ None → HasFed new.feeder (onto piece past) = λ free. elim (all_are piece past now_none) [
      | OfLog same ↦ rw (feeder, same) has
      | Faulty faults ↦ absurd (none-some faults.fault (sym free ∙ fault_is ∙ judged ∙ ap first_fault all ∙ faults.fault_is))
    ] in (
      record { items_are = items_are ∙ reads.fed_is.items_are; fault_is = judged },
      record { not_spent = spent ∙ reads.reads.not_spent; fault_is = fault_is ∙ judged; feeds = feeds },
    )
