-- Lines behind the header that have no fault are those of batches, and give their events.
use Rattle.std.proofs.Common.{◌≡◌, ℕ, zero, suc, ◌+◌, ◌-◌, ◌<◌, ◌≤◌, Bool, true, false, cond, Option, Some, None, Result, Ok, Err, List, [], ◌∷◌, ◌++◌, length, replicate, refl, sym, ap, subst, ◌∙◌, arith, inl, inr, append_assoc}
use Rattle.std.specs.Prelude.{nat_le, not, ◌&&◌, ◌||◌}
use Rattle.std.specs.Str.{bytes_eq}
use Rattle.std.proofs.lemmas.Bool.{cases_Bool, cases_lt, true≢false, and_parts, leb-true}
use Rattle.std.proofs.lemmas.List.{append-nil, length-map, length-append, length_push, map_push}
use Rattle.std.proofs.lemmas.Option.{none-some}
use Rattle.std.proofs.lemmas.Slice.Eq.{bytes_eq-Decides}
use Rattle.pota_base.specs.Limits.{most_events}
use Rattle.log_lines.specs.Names.{Name}
use Rattle.log_lines.specs.Spelling.{EventLine, event_line, procs_line, batch_line, end_line}
use Rattle.log_lines.specs.Reading.{choose, text_at, event_in, begins_vars}
use Rattle.log_lines.proofs.LineLaws.{event_takes as line_takes}
use Rattle.event_log.specs.declared.item.LogCode.{LogCode}
use Rattle.event_log.specs.declared.item.LogCode.TheVariants as code
use Rattle.event_log.specs.declared.item.Item.{Item}
use Rattle.event_log.specs.declared.item.Item.TheVariants as item
use Rattle.event_log.specs.declared.log.Binding.{Binding}
use Rattle.event_log.specs.declared.log.Header.{Header}
use Rattle.event_log.specs.declared.log.Event.{Event}
use Rattle.event_log.specs.declared.log.Log.{Log}
use Rattle.event_log.specs.Numbers.{variables_at, event_named}
use Rattle.event_log.specs.Before.{Line, heading_of, version, names, filled, variables, events, begins_event, is_header_over, is_ended, header_of, Told, gives, refuses, event_told, body_told, told}
use Rattle.event_log.specs.inside.Before.{AreFine, items_of}
use Rattle.event_log.specs.LogText.{line_of, vars_lines, header_lines, event_lines, closing_line, batch_lines, lines_of, event_items, closing_item, batch_items, log_items, BindingsFit, HeaderFits, EventFits, EventsFit, BatchesFit, event_count, LogFits, HasVarLines, onto}
use Rattle.event_log.proofs.Lists.{onto-push, length-onto, all_append}
use Rattle.event_log.proofs.EventLaws.{SameVariables, event_takes}
use Rattle.event_log.proofs.LineSteps.{told-ended, told-first, told-body, over_long, over_long_more, event_begins, or_false}
use Rattle.event_log.proofs.ReadLaws.{HeaderRead, header_read, no_variables_fit, vars_lines-filled, length-filled, items-next, fine_next, open_next, names-next, variables-stay, events-next, behind_parts, ended-next, version-next}

-- ---- what a line behind the header may be

data BodyIs (n : ℕ) (procs : List Name) (vars : List (List Binding)) (number count : ℕ) (line : Line) (t : Told) : Type 0 where
  a_batch : line ≡ batch_line → t ≡ gives (item.BatchEnd ∷ []) → BodyIs n procs vars number count line t
  an_end : line ≡ end_line → t ≡ gives (item.End ∷ []) → BodyIs n procs vars number count line t
  an_event : (d : EventLine) (e : Event) → event_in line ≡ Some d → event_named n procs vars number count d ≡ Ok e → t ≡ gives (item.Event e ∷ []) → BodyIs n procs vars number count line t
  a_fault : (c : LogCode) → t ≡ refuses c → BodyIs n procs vars number count line t

body_is : (n : ℕ) (procs : List Name) (vars : List (List Binding)) (number count : ℕ) (line : Line) → BodyIs n procs vars number count line (body_told n procs vars number count line)
body_is n procs vars number count line = elim (cases_Bool (bytes_eq line batch_line)) [
  | inl batch ↦ a_batch ((bytes_eq-Decides line batch_line).0 batch) (rw batch refl)
  | inr other ↦ elim (cases_Bool (bytes_eq line end_line)) [
    | inl end ↦ an_end ((bytes_eq-Decides line end_line).0 end) (rw (other, end) refl)
    | inr more ↦ read (event_in line) refl (rw (other, more) refl)
  ]
]
  where
    t : Told
    t = body_told n procs vars number count line

    judged : (d : EventLine) → event_in line ≡ Some d → (r : Result Event LogCode) → event_named n procs vars number count d ≡ r → t ≡ event_told r → BodyIs n procs vars number count line t
    judged d is (Ok e) named says = an_event d e is named says
    judged d is (Err c) named says = a_fault c says

    read : (o : Option EventLine) → event_in line ≡ o → t ≡ choose o (λ d. event_told (event_named n procs vars number count d)) (refuses code.BadLine) → BodyIs n procs vars number count line t
    read None is says = a_fault code.BadLine says
    read (Some d) is says = judged d is (event_named n procs vars number count d) refl says

-- ---- batches that are still open

-- the lines of batches that are closed, and of the open one
pub open_lines : Header → List (List Event) → List Event → List Line
open_lines h [] current = event_lines h current
open_lines h (b ∷ done) current = event_lines h b ++ batch_line ∷ open_lines h done current

pub open_items : List (List Event) → List Event → List Item
open_items [] current = event_items current
open_items (b ∷ done) current = event_items b ++ item.BatchEnd ∷ open_items done current

open_lines-event : (h : Header) (done : List (List Event)) (current : List Event) (e : Event) → open_lines h done (current ++ e ∷ []) ≡ open_lines h done current ++ event_line (line_of h e) ∷ []
unfolding open_lines
open_lines-event h [] current e = map_push (λ (x : Event). event_line (line_of h x)) current e
open_lines-event h (b ∷ done) current e =
    ap (λ (ls : List Line). event_lines h b ++ batch_line ∷ ls) (open_lines-event h done current e) ∙ sym (append_assoc (event_lines h b) (batch_line ∷ open_lines h done current) (event_line (line_of h e) ∷ []))

open_lines-batch : (h : Header) (done : List (List Event)) (current : List Event) → open_lines h (done ++ current ∷ []) [] ≡ open_lines h done current ++ batch_line ∷ []
unfolding open_lines
open_lines-batch h [] current = refl
open_lines-batch h (b ∷ done) current =
    ap (λ (ls : List Line). event_lines h b ++ batch_line ∷ ls) (open_lines-batch h done current) ∙ sym (append_assoc (event_lines h b) (batch_line ∷ open_lines h done current) (batch_line ∷ []))

closing_later : (xs : List (List Event)) (x : List Event) → closing_line (xs ++ x ∷ []) ≡ batch_line
closing_later [] x = refl
closing_later (y ∷ ys) x = refl

closing_item_later : (xs : List (List Event)) (x : List Event) → closing_item (xs ++ x ∷ []) ≡ item.BatchEnd
closing_item_later [] x = refl
closing_item_later (y ∷ ys) x = refl

open_lines-end : (h : Header) (done : List (List Event)) (current : List Event) → batch_lines h (done ++ current ∷ []) ≡ open_lines h done current ++ end_line ∷ []
unfolding open_lines
open_lines-end h [] current = refl
open_lines-end h (b ∷ done) current =
    rw (closing_later done current) (ap (λ (ls : List Line). event_lines h b ++ batch_line ∷ ls) (open_lines-end h done current) ∙ sym (append_assoc (event_lines h b) (batch_line ∷ open_lines h done current) (end_line ∷ [])))

open_items-event : (done : List (List Event)) (current : List Event) (e : Event) → open_items done (current ++ e ∷ []) ≡ open_items done current ++ item.Event e ∷ []
unfolding open_items
open_items-event [] current e = map_push (λ (x : Event). item.Event x) current e
open_items-event (b ∷ done) current e =
    ap (λ (ls : List Item). event_items b ++ item.BatchEnd ∷ ls) (open_items-event done current e) ∙ sym (append_assoc (event_items b) (item.BatchEnd ∷ open_items done current) (item.Event e ∷ []))

open_items-batch : (done : List (List Event)) (current : List Event) → open_items (done ++ current ∷ []) [] ≡ open_items done current ++ item.BatchEnd ∷ []
unfolding open_items
open_items-batch [] current = refl
open_items-batch (b ∷ done) current =
    ap (λ (ls : List Item). event_items b ++ item.BatchEnd ∷ ls) (open_items-batch done current) ∙ sym (append_assoc (event_items b) (item.BatchEnd ∷ open_items done current) (item.BatchEnd ∷ []))

open_items-end : (done : List (List Event)) (current : List Event) → batch_items (done ++ current ∷ []) ≡ open_items done current ++ item.End ∷ []
unfolding open_items
open_items-end [] current = refl
open_items-end (b ∷ done) current =
    rw (closing_item_later done current) (ap (λ (ls : List Item). event_items b ++ item.BatchEnd ∷ ls) (open_items-end done current) ∙ sym (append_assoc (event_items b) (item.BatchEnd ∷ open_items done current) (item.End ∷ [])))

-- one event more in the open batch
events_push : (h : Header) (line : ℕ) (es : List Event) (e : Event) → EventsFit h line es → EventFits h e → e.line ≡ line + length es → EventsFit h line (es ++ e ∷ [])
events_push h line [] e fits one at = ((one, omega arith), tt)
events_push h line (x ∷ es) e fits one at = (fits.0, events_push h (line + 1) es e fits.1 one (omega arith))

batches_event : (h : Header) (line : ℕ) (done : List (List Event)) (current : List Event) (e : Event) → BatchesFit h line (done ++ current ∷ []) → EventFits h e → e.line ≡ line + length (open_lines h done current) → BatchesFit h line (done ++ (current ++ e ∷ []) ∷ [])
unfolding open_lines
batches_event h line [] current e fits one at = (events_push h line current e fits.0 one (omega (arith, at, length-map current (λ (x : Event). event_line (line_of h x)))), tt)
batches_event h line (b ∷ done) current e fits one at =
    let len : e.line ≡ line + length b + 1 + length (open_lines h done current) = omega (arith, at, length-append (event_lines h b) (batch_line ∷ open_lines h done current), length-map b (λ (x : Event). event_line (line_of h x))) in
    (fits.0, batches_event h (line + length b + 1) done current e fits.1 one len)

batches_empty : (h : Header) (line : ℕ) (bs : List (List Event)) → BatchesFit h line bs → BatchesFit h line (bs ++ [] ∷ [])
batches_empty h line [] fits = (tt, tt)
batches_empty h line (b ∷ bs) fits = (fits.0, batches_empty h (line + length b + 1) bs fits.1)

count_push : (done : List (List Event)) (current : List Event) (e : Event) → event_count (done ++ (current ++ e ∷ []) ∷ []) ≡ event_count (done ++ current ∷ []) + 1
count_push [] current e = omega (arith, length_push current e)
count_push (b ∷ done) current e = omega (arith, count_push done current e)

count_empty : (bs : List (List Event)) → event_count (bs ++ [] ∷ []) ≡ event_count bs
count_empty [] = omega arith
count_empty (b ∷ bs) = omega (arith, count_empty bs)

-- ---- what was read behind the header

pub record OpenRead (h : Header) (older : List Line) (given : List Item) : Type 0 where
  pub done : List (List Event)
  pub current : List Event
  pub lines_are : older ≡ onto (header_lines h ++ open_lines h done current) []
  pub fit : BatchesFit h (length (header_lines h) + 1) (done ++ current ∷ [])
  pub items_are : given ≡ open_items done current
  pub count_is : events older ≡ event_count (done ++ current ∷ [])
  pub few : events older ≤ most_events

module _ (h : Header) (older : List Line) (given : List Item) (r : OpenRead h older given) where
  -- the lines with one more
  pushed : (line : Line) (more : List Line) → more ≡ open_lines h r.done r.current ++ line ∷ [] → line ∷ older ≡ onto (header_lines h ++ more) []
  pushed line more e =
      ap (λ (ls : List Line). line ∷ ls) r.lines_are ∙ sym (onto-push (header_lines h ++ open_lines h r.done r.current) line [])
      ∙ ap (λ (ls : List Line). onto ls []) (append_assoc (header_lines h) (open_lines h r.done r.current) (line ∷ []) ∙ ap (λ (ls : List Line). header_lines h ++ ls) (sym e))

  count_lines : length older ≡ length (header_lines h) + length (open_lines h r.done r.current)
  count_lines = ap length r.lines_are ∙ length-onto (header_lines h ++ open_lines h r.done r.current) [] ∙ omega (arith, length-append (header_lines h) (open_lines h r.done r.current))

  pub batch_more : (line : Line) → line ≡ batch_line → events (line ∷ older) ≡ events older → OpenRead h (line ∷ older) (given ++ item.BatchEnd ∷ [])
  batch_more line is same = record {
    done = r.done ++ r.current ∷ [];
    current = [];
    lines_are = pushed line (open_lines h (r.done ++ r.current ∷ []) []) (open_lines-batch h r.done r.current ∙ ap (λ (l : Line). open_lines h r.done r.current ++ l ∷ []) (sym is));
    fit = batches_empty h (length (header_lines h) + 1) (r.done ++ r.current ∷ []) r.fit;
    items_are = ap (λ (xs : List Item). xs ++ item.BatchEnd ∷ []) r.items_are ∙ sym (open_items-batch r.done r.current);
    count_is = same ∙ r.count_is ∙ sym (count_empty (r.done ++ r.current ∷ []));
    few = omega (arith, same, r.few);
  }

  pub event_more : (line : Line) (e : Event) → line ≡ event_line (line_of h e) → EventFits h e → e.line ≡ length older + 1 → events older < most_events → events (line ∷ older) ≡ events older + 1 → OpenRead h (line ∷ older) (given ++ item.Event e ∷ [])
  event_more line e is fits at few more = record {
    done = r.done;
    current = r.current ++ e ∷ [];
    lines_are = pushed line (open_lines h r.done (r.current ++ e ∷ [])) (open_lines-event h r.done r.current e ∙ ap (λ (l : Line). open_lines h r.done r.current ++ l ∷ []) (sym is));
    fit = batches_event h (length (header_lines h) + 1) r.done r.current e r.fit fits (omega (arith, at, count_lines));
    items_are = ap (λ (xs : List Item). xs ++ item.Event e ∷ []) r.items_are ∙ sym (open_items-event r.done r.current e);
    count_is = omega (arith, more, r.count_is, count_push r.done r.current e);
    few = omega (arith, more, few);
  }

-- the header alone
header_opens : (older : List Line) → HeaderRead older → OpenRead (header_of older) older []
unfolding open_lines open_items
header_opens older r =
    let k = length (names older) - length (variables older) in
    let same : vars_lines (names older) (filled (variables older) (length (names older))) ≡ vars_lines (names older) (variables older) = vars_lines-filled (names older) (variables older) k in
    record {
      done = [];
      current = [];
      lines_are = r.lines_are ∙ ap (λ (ls : List Line). onto ls []) (ap (λ (ls : List Line). heading_of (version older) ∷ procs_line (names older) ∷ ls) (sym same) ∙ sym (append-nil (header_lines (header_of older))));
      fit = (tt, tt);
      items_are = refl;
      count_is = r.events_are;
      few = omega (arith, r.events_are);
    }

header_fits : (older : List Line) → HeaderRead older → HeaderFits (header_of older)
header_fits older r = record {
  version = r.version_fits;
  procs = r.procs_fit;
  all = length-filled (variables older) (length (names older)) r.few;
  vars = all_append BindingsFit (variables older) (replicate (length (names older) - length (variables older)) []) r.vars_fit (no_variables_fit (length (names older) - length (variables older)));
}

-- lists added without variables change nothing
pub filled_same : (vars : List (List Binding)) (count : ℕ) → SameVariables (filled vars count) vars
filled_same [] count p = none_at (count - 0) p
  where
    none_at : (k p : ℕ) → variables_at (replicate k []) p ≡ []
    none_at zero p = refl
    none_at (suc k) zero = refl
    none_at (suc k) (suc p) = none_at k p
filled_same (v ∷ vs) zero zero = refl
filled_same (v ∷ vs) (suc count) zero = refl
filled_same (v ∷ vs) zero (suc p) = let e : zero - suc (length vs) ≡ zero - length vs = omega arith in rw e (filled_same vs zero p)
filled_same (v ∷ vs) (suc count) (suc p) = let e : suc count - suc (length vs) ≡ count - length vs = omega arith in rw e (filled_same vs count p)

-- ---- the whole of it

pub record BodyRead (older : List Line) : Type 0 where
  pub given : List Item
  pub items_are : items_of older ≡ item.Header (header_of older) ∷ given
  pub header : HeaderFits (header_of older)
  pub opened : OpenRead (header_of older) older given

-- a line behind the header keeps the header
header_stays : (line : Line) (older : List Line) → 2 ≤ length older → (is_header_over older || not (begins_vars line)) ≡ true → header_of (line ∷ older) ≡ header_of older
header_stays line older long behind = rw (version-next line older long, names-next line older long, variables-stay line older long behind) refl

-- one line more behind the header
record OneMore (h : Header) (line : Line) (older : List Line) (given : List Item) (t : Told) : Type 0 where
  i : Item
  gives_it : t ≡ gives (i ∷ [])
  opened : OpenRead h (line ∷ older) (given ++ i ∷ [])

ends_nothing : {P : Type 0} (line : Line) → line ≡ end_line → bytes_eq line end_line ≡ false → P
ends_nothing line is other = absurd (true≢false (sym ((bytes_eq-Decides line end_line).1 is) ∙ other))

one_more : (line : Line) (older : List Line) (given : List Item) → 2 ≤ length older → HeaderFits (header_of older) → OpenRead (header_of older) older given → bytes_eq line end_line ≡ false
    → (t : Told) → BodyIs (version older) (names older) (variables older) (length older + 1) (events older) line t → t.fault ≡ None → OneMore (header_of older) line older given t
unfolding text_at
one_more line older given long header r not_end t (a_batch is says) none =
    let begins : begins_event line ≡ false = subst (λ (l : Line). begins_event l ≡ false) (sym is) refl in
    let same : events (line ∷ older) ≡ events older = events-next line older long ∙ ap (λ (b : Bool). cond b (events older + 1) (events older)) begins in
    record { i = item.BatchEnd; gives_it = says; opened = batch_more (header_of older) older given r line is same }
one_more line older given long header r not_end t (an_end is says) none = ends_nothing line is not_end
one_more line older given long header r not_end t (an_event d e read named says) none =
    let taken = line_takes line d read in
    let n = event_takes (header_of older) (variables older) (length older + 1) (events older) d e (filled_same (variables older) (length (names older))) taken.fits named in
    let more : events (line ∷ older) ≡ events older + 1 = events-next line older long ∙ ap (λ (b : Bool). cond b (events older + 1) (events older)) (event_begins line d read) in
    record { i = item.Event e; gives_it = says; opened = event_more (header_of older) older given r line e (taken.text ∙ ap event_line (sym n.line_is)) n.fits n.at n.few more }
one_more line older given long header r not_end t (a_fault c says) none = absurd (none-some c (sym none ∙ ap (λ (x : Told). x.fault) says))

-- a line behind the header's first one
next_read : (line : Line) (older : List Line) → 2 ≤ length older → (is_header_over older || not (begins_vars line)) ≡ true → bytes_eq line end_line ≡ false → (t : Told) → BodyIs (version older) (names older) (variables older) (length older + 1) (events older) line t → t.fault ≡ None
    → (given : List Item) → HeaderFits (header_of older) → OpenRead (header_of older) older given → items_of older ++ (told older line).items ≡ item.Header (header_of older) ∷ (given ++ t.items) → BodyRead (line ∷ older)
next_read line older long behind not_end t is none given header r items =
    let m = one_more line older given long header r not_end t is none in
    let same = header_stays line older long behind in
    record {
      given = given ++ m.i ∷ [];
      items_are = items-next line older ∙ items ∙ ap (λ (x : Told). item.Header (header_of older) ∷ (given ++ x.items)) m.gives_it ∙ ap (λ (h : Header). item.Header h ∷ (given ++ m.i ∷ [])) (sym same);
      header = subst HeaderFits (sym same) header;
      opened = subst (λ (h : Header). OpenRead h (line ∷ older) (given ++ m.i ∷ [])) (sym same) m.opened;
    }

module _ (line : Line) (older : List Line) (long : 2 ≤ length older) (fine : AreFine (line ∷ older)) (open_ : is_ended older ≡ false) (not_end : bytes_eq line end_line ≡ false) where
  abbrev body : Told
  body = body_told (version older) (names older) (variables older) (length older + 1) (events older) line

  body_first : is_header_over older ≡ false → begins_vars line ≡ false → BodyRead (line ∷ older)
  body_first over begins =
      let f = fine_next line older fine in
      let h = header_read older f.1 long over open_ in
      let value = told-first older line open_ long over begins body refl in
      let none : body.fault ≡ None = sym (ap (λ (t : Told). t.fault) value) ∙ f.0 in
      let items : items_of older ++ (told older line).items ≡ item.Header (header_of older) ∷ body.items = rw h.items_are (ap (λ (t : Told). t.items) value) in
      next_read line older long (rw (over, begins) refl) not_end body (body_is (version older) (names older) (variables older) (length older + 1) (events older) line) none [] (header_fits older h) (header_opens older h) items

  body_later : is_header_over older ≡ true → BodyRead older → BodyRead (line ∷ older)
  body_later over b =
      let f = fine_next line older fine in
      let value = told-body older line open_ long over in
      let none : body.fault ≡ None = sym (ap (λ (t : Told). t.fault) value) ∙ f.0 in
      let items : items_of older ++ (told older line).items ≡ item.Header (header_of older) ∷ (b.given ++ body.items) = rw b.items_are (ap (λ (t : Told). item.Header (header_of older) ∷ (b.given ++ t.items)) value) in
      next_read line older long (rw over refl) not_end body (body_is (version older) (names older) (variables older) (length older + 1) (events older) line) none b.given b.header b.opened items

pub body_read : (older : List Line) → AreFine older → is_header_over older ≡ true → is_ended older ≡ false → BodyRead older
body_read [] fine over open_ = absurd (omega (arith, over_long [] over))
body_read (line ∷ older) fine over open_ = elim (cases_lt (length older) 2) [
  | inl short ↦ absurd (omega (arith, over_long_more line older over, short))
  | inr long ↦
      let still = open_next line older open_ in
      let not_end : bytes_eq line end_line ≡ false = sym (ended-next line older long still) ∙ open_ in
      elim (cases_Bool (is_header_over older)) [
        | inl before ↦ body_later line older long fine still not_end before (body_read older (fine_next line older fine).1 before still)
        | inr now ↦
            let behind = behind_parts line older long over in
            let begins : begins_vars line ≡ false = grind arith in
            body_first line older long fine still not_end now begins
      ]
]

-- ---- the end

pub record LogRead (older : List Line) : Type 0 where
  pub log : Log
  pub fits : LogFits log
  pub lined : HasVarLines log.header
  pub lines_are : older ≡ onto (lines_of log) []
  pub items_are : items_of older ≡ log_items log

log_closed : (line : Line) (older : List Line) (given : List Item) → line ≡ end_line → HeaderFits (header_of older) → OpenRead (header_of older) older given → items_of older ++ (told older line).items ≡ item.Header (header_of older) ∷ (given ++ item.End ∷ []) → LogRead (line ∷ older)
log_closed line older given is header r items =
    let batches = r.done ++ r.current ∷ [] in
    record {
      log = record { header = header_of older; batches = batches };
      lined = refl;
      fits = record { header = header; some = omega (arith, length-append r.done (r.current ∷ [])); batches = r.fit; few = omega (arith, r.count_is, r.few) };
      lines_are = pushed (header_of older) older given r line (batch_lines (header_of older) batches) (open_lines-end (header_of older) r.done r.current ∙ ap (λ (l : Line). open_lines (header_of older) r.done r.current ++ l ∷ []) (sym is));
      items_are = items-next line older ∙ items ∙ ap (λ (xs : List Item). item.Header (header_of older) ∷ (xs ++ item.End ∷ [])) r.items_are ∙ ap (λ (xs : List Item). item.Header (header_of older) ∷ xs) (sym (open_items-end r.done r.current));
    }

end_gives : (n : ℕ) (procs : List Name) (vars : List (List Binding)) (number count : ℕ) (line : Line) → line ≡ end_line → body_told n procs vars number count line ≡ gives (item.End ∷ [])
end_gives n procs vars number count line is = subst (λ (l : Line). body_told n procs vars number count l ≡ gives (item.End ∷ [])) (sym is) refl

module _ (line : Line) (older : List Line) (long : 2 ≤ length older) (fine : AreFine older) (open_ : is_ended older ≡ false) (is : line ≡ end_line) where
  gives_end : body_told (version older) (names older) (variables older) (length older + 1) (events older) line ≡ gives (item.End ∷ [])
  gives_end = end_gives (version older) (names older) (variables older) (length older + 1) (events older) line is

  end_first : is_header_over older ≡ false → LogRead (line ∷ older)
  unfolding text_at
  end_first over =
      let begins : begins_vars line ≡ false = subst (λ (l : Line). begins_vars l ≡ false) (sym is) refl in
      let h = header_read older fine long over open_ in
      let value = told-first older line open_ long over begins (gives (item.End ∷ [])) gives_end in
      log_closed line older [] is (header_fits older h) (header_opens older h) (rw h.items_are (ap (λ (t : Told). t.items) value))

  end_later : is_header_over older ≡ true → LogRead (line ∷ older)
  end_later over =
      let b = body_read older fine over open_ in
      let value = told-body older line open_ long over ∙ gives_end in
      log_closed line older b.given is b.header b.opened (rw b.items_are (ap (λ (t : Told). item.Header (header_of older) ∷ (b.given ++ t.items)) value))

pub log_read : (older : List Line) → AreFine older → is_ended older ≡ true → LogRead older
unfolding is_ended
log_read [] fine ended = absurd cc
log_read (line ∷ older) fine ended =
    let f = fine_next line older fine in
    elim (cases_Bool (is_ended older)) [
      | inl before ↦ absurd (none-some code.Trailing (sym f.0 ∙ ap (λ (t : Told). t.fault) (told-ended older line before)))
      | inr open_ ↦
          let here : (nat_le 2 (length older) && bytes_eq line end_line) ≡ true = sym (or_false (nat_le 2 (length older) && bytes_eq line end_line)) ∙ rw open_ at ended in
          let parts = and_parts (nat_le 2 (length older)) (bytes_eq line end_line) here in
          let is : line ≡ end_line = (bytes_eq-Decides line end_line).0 parts.1 in
          let long : 2 ≤ length older = leb-true 2 (length older) parts.0 in
          elim (cases_Bool (is_header_over older)) [
            | inl over ↦ end_later line older long f.1 open_ is over
            | inr over ↦ end_first line older long f.1 open_ is over
          ]
    ]
