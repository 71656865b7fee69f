-- The items that the reader gives are those of a log, as far as they go.
use Rattle.std.proofs.Common.{◌≡◌, ℕ, ◌+◌, ◌<◌, ◌≤◌, Bool, true, false, Option, Some, None, Result, Ok, Err, List, [], ◌∷◌, ◌++◌, length, refl, sym, ap, subst, ◌∙◌, arith, inl, inr, append_assoc}
use Rattle.std.specs.Prelude.{◌==◌, nat_le, if◌then◌else◌}
use Rattle.std.specs.Str.{bytes_eq}
use Rattle.std.proofs.lemmas.Bool.{cases_Bool, cases_lt, le-leb}
use Rattle.std.proofs.lemmas.List.{append-nil}
use Rattle.std.proofs.lemmas.Option.{none-some}
use Rattle.pota_base.specs.Limits.{most_events}
use Rattle.log_lines.specs.Names.{Name, place_of}
use Rattle.log_lines.specs.Spelling.{batch_line, end_line}
use Rattle.log_lines.specs.Reading.{choose, text_at, begins_vars, event_in, vars_in}
use Rattle.event_log.specs.declared.item.LogCode.{LogCode}
use Rattle.event_log.specs.declared.item.LogCode.TheVariants as code
use Rattle.event_log.specs.declared.item.LogFault.{LogFault}
use Rattle.event_log.specs.declared.item.Item.{Item}
use Rattle.event_log.specs.declared.item.Item.TheVariants as item
use Rattle.event_log.specs.declared.log.Binding.{Binding}
use Rattle.event_log.specs.declared.log.Header.{Header}
use Rattle.event_log.specs.declared.log.Event.{Event}
use Rattle.event_log.specs.declared.log.Log.{Log}
use Rattle.event_log.specs.Before.{Line, version, names, variables, events, is_header_over, is_ended, header_of, Told, gives, refuses, requires, event_told, vars_placed, body_told, told}
use Rattle.event_log.specs.inside.Before.{AreFine, items_of}
use Rattle.event_log.specs.LogText.{EventsFit, BatchesFit, LogFits, event_count, event_items, closing_item, batch_items, log_items}
use Rattle.event_log.specs.Moments.{line_now, lines}
use Rattle.event_log.specs.Faults.{byte_fault, feed_told, moment_told, first_fault, items}
use Rattle.event_log.proofs.LineSteps.{told-ended, told-heading, told-procs, told-vars, told-first, told-body}
use Rattle.event_log.proofs.ReadLaws.{items-next, fine_again}
use Rattle.event_log.proofs.BodyLaws.{LogRead, log_read}
use Rattle.event_log.proofs.FaultLaws.{fault_free, stuck_items-byte, items_byte-next}
use Rattle.event_log.specs.FittingItems.{FitFrom, FitFirst}

-- ---- fronts

front_from : (h : Header) (n : ℕ) (xs ys : List Item) → FitFrom h n (xs ++ ys) → FitFrom h n xs
front_from h n [] ys fit = tt
front_from h n (item.Header x ∷ xs) ys fit = absurd fit
front_from h n (item.Event e ∷ xs) ys fit = (fit.0, fit.1, front_from h (n + 1) xs ys fit.2)
front_from h n (item.BatchEnd ∷ xs) ys fit = front_from h n xs ys fit
front_from h n (item.End ∷ xs) ys fit = front_from h n xs ys fit

front_fits : (xs ys : List Item) → FitFirst (xs ++ ys) → FitFirst xs
front_fits [] ys fit = tt
front_fits (item.Header h ∷ xs) ys fit = (fit.0, front_from h 0 xs ys fit.1)
front_fits (item.Event e ∷ xs) ys fit = absurd fit
front_fits (item.BatchEnd ∷ xs) ys fit = absurd fit
front_fits (item.End ∷ xs) ys fit = absurd fit

-- ---- whole logs

events_then : (h : Header) (line n : ℕ) (es : List Event) (rest : List Item) → EventsFit h line es → n + length es ≤ most_events → FitFrom h (n + length es) rest → FitFrom h n (event_items es ++ rest)
events_then h line n [] rest fits few then_fits = let e : n + 0 ≡ n = omega arith in subst (λ (k : ℕ). FitFrom h k rest) e then_fits
events_then h line n (e ∷ es) rest fits few then_fits =
    let more : n + length (e ∷ es) ≡ n + 1 + length es = omega arith in
    (fits.0.0, omega (arith, few), events_then h (line + 1) (n + 1) es rest fits.1 (omega (arith, few)) (subst (λ (k : ℕ). FitFrom h k rest) more then_fits))

closing_fits : (h : Header) (n : ℕ) (batches : List (List Event)) (rest : List Item) → FitFrom h n rest → FitFrom h n (closing_item batches ∷ rest)
closing_fits h n [] rest fits = fits
closing_fits h n (b ∷ bs) rest fits = fits

batches_then : (h : Header) (line n : ℕ) (bs : List (List Event)) → BatchesFit h line bs → n + event_count bs ≤ most_events → FitFrom h n (batch_items bs)
batches_then h line n [] fits few = tt
batches_then h line n (b ∷ bs) fits few =
    events_then h line n b (closing_item bs ∷ batch_items bs) fits.0 (omega (arith, few))
    (closing_fits h (n + length b) bs (batch_items bs) (batches_then h (line + length b + 1) (n + length b) bs fits.1 (omega (arith, few))))

log_fits_first : (log : Log) → LogFits log → FitFirst (log_items log)
log_fits_first log fits = (fits.header, batches_then log.header _ 0 log.batches fits.batches (omega (arith, fits.few)))

-- ---- a line that has a fault gives no items of its own

abbrev Quiet : Told → Type 0
Quiet t = (c : LogCode) → t.fault ≡ Some c → t.items ≡ []

quiet_gives : (xs : List Item) → Quiet (gives xs)
quiet_gives xs c h = absurd (none-some c h)

quiet_refuses : (d : LogCode) → Quiet (refuses d)
quiet_refuses d c h = refl

none_required : (c : LogCode) (b : Bool) → (requires c b).items ≡ []
none_required c true = refl
none_required c false = refl

quiet_if : (b : Bool) (t u : Told) → Quiet t → Quiet u → Quiet (if b then t else u)
quiet_if true t u p q = p
quiet_if false t u p q = q

quiet_choose : {A : Type 0} (o : Option A) (f : A → Told) (u : Told) → ((x : A) → Quiet (f x)) → Quiet u → Quiet (choose o f u)
quiet_choose None f u p q = q
quiet_choose (Some x) f u p q = p x

quiet_event : (r : Result Event LogCode) → Quiet (event_told r)
quiet_event (Ok e) = quiet_gives (item.Event e ∷ [])
quiet_event (Err c) = quiet_refuses c

quiet_placed : (vars : List (List Binding)) (o : Option ℕ) → Quiet (vars_placed vars o)
quiet_placed vars None c h = refl
quiet_placed vars (Some p) c h = none_required code.BadLine (nat_le (length vars) p)

quiet_body : (n : ℕ) (procs : List Name) (vars : List (List Binding)) (number count : ℕ) (line : Line) → Quiet (body_told n procs vars number count line)
quiet_body n procs vars number count line =
    quiet_if (bytes_eq line batch_line) _ _ (quiet_gives (item.BatchEnd ∷ []))
    (quiet_if (bytes_eq line end_line) _ _ (quiet_gives (item.End ∷ [])) (quiet_choose (event_in line) _ _ (λ e. quiet_event _) (quiet_refuses code.BadLine)))

-- ---- lines without a fault

module _ (older : List Line) (fine : AreFine older) (open_ : is_ended older ≡ false) (long : 2 ≤ length older) where
  end_told : Bool → Told
  end_told true = gives (item.End ∷ [])
  end_told false = record { items = item.Header (header_of older) ∷ item.End ∷ []; fault = None }

  end_is : (over : Bool) → is_header_over older ≡ over → told older end_line ≡ end_told over
  unfolding end_told text_at
  end_is true over = told-body older end_line open_ long over
  end_is false over = told-first older end_line open_ long over refl (gives (item.End ∷ [])) refl

  end_passes : (over : Bool) → (end_told over).fault ≡ None
  unfolding end_told
  end_passes true = refl
  end_passes false = refl

  with_end : LogRead (end_line ∷ older)
  unfolding is_ended
  with_end =
      let none : (told older end_line).fault ≡ None = ap (λ (t : Told). t.fault) (end_is (is_header_over older) refl) ∙ end_passes (is_header_over older) in
      log_read (end_line ∷ older) (fine_again end_line older none fine) (rw (le-leb 2 (length older) long) refl)

  ended_fits : FitFirst (items_of older ++ (told older end_line).items)
  ended_fits =
      let r = with_end in
      subst FitFirst (sym r.items_are ∙ items-next end_line older) (log_fits_first r.log r.fits)

  -- a faulty line gives no more than the `end` line
  line_front : (line : Line) (over begins : Bool) → is_header_over older ≡ over → begins_vars line ≡ begins → (c : LogCode) → (told older line).fault ≡ Some c
      → (more : List Item) × ((told older end_line).items ≡ (told older line).items ++ more)
  unfolding end_told
  line_front line true begins over is c h =
      let value = told-body older line open_ long over in
      let none : (told older line).items ≡ [] = ap (λ (t : Told). t.items) value ∙ quiet_body (version older) (names older) (variables older) (length older + 1) (events older) line c (sym (ap (λ (t : Told). t.fault) value) ∙ h) in
      ((told older end_line).items, rw none refl)
  line_front line false true over is c h =
      let value = told-vars older line open_ long over is in
      let none : (told older line).items ≡ [] = ap (λ (t : Told). t.items) value
      ∙ quiet_choose (vars_in line) (λ v. vars_placed (variables older) (place_of (names older) v.process)) (refuses code.BadLine) (λ v. quiet_placed (variables older) (place_of (names older) v.process)) (quiet_refuses code.BadLine)
      c (sym (ap (λ (t : Told). t.fault) value) ∙ h) in
      ((told older end_line).items, rw none refl)
  line_front line false false over is c h =
      let body = body_told (version older) (names older) (variables older) (length older + 1) (events older) line in
      let value = told-first older line open_ long over is body refl in
      let none : body.items ≡ [] = quiet_body (version older) (names older) (variables older) (length older + 1) (events older) line c (sym (ap (λ (t : Told). t.fault) value) ∙ h) in
      let given : (told older line).items ≡ item.Header (header_of older) ∷ [] = ap (λ (t : Told). t.items) value ∙ ap (λ (xs : List Item). item.Header (header_of older) ∷ xs) none in
      (item.End ∷ [], ap (λ (t : Told). t.items) (end_is false over) ∙ rw given refl)

  faulty_fits : (line : Line) (c : LogCode) → (told older line).fault ≡ Some c → FitFirst (items_of older ++ (told older line).items)
  faulty_fits line c h =
      let f = line_front line (is_header_over older) (begins_vars line) refl refl c h in
      front_fits (items_of older ++ (told older line).items) f.0
      (subst FitFirst (ap (λ (xs : List Item). items_of older ++ xs) f.1 ∙ sym (append_assoc (items_of older) (told older line).items f.0)) ended_fits)

short_told : (older : List Line) (line : Line) → is_ended older ≡ false → length older < 2 → (told older line).items ≡ []
short_told [] line open_ short = ap (λ (t : Told). t.items) (told-heading [] line open_ refl) ∙ none_required code.BadHeader _
short_told (first ∷ []) line open_ short = ap (λ (t : Told). t.items) (told-procs (first ∷ []) line open_ refl) ∙ none_required code.BadProcs _
short_told (second ∷ first ∷ older) line open_ short = absurd (omega (arith, short))

short_items : (older : List Line) → length older < 2 → items_of older ≡ []
unfolding items_of is_ended
short_items [] short = refl
short_items (first ∷ []) short = short_told [] first refl (omega arith)
short_items (second ∷ first ∷ older) short = absurd (omega (arith, short))

fine_fit : (older : List Line) → AreFine older → FitFirst (items_of older)
fine_fit older fine = elim (cases_Bool (is_ended older)) [
  | inl ended ↦ let r = log_read older fine ended in subst FitFirst (sym r.items_are) (log_fits_first r.log r.fits)
  | inr open_ ↦ elim (cases_lt (length older) 2) [
    | inl short ↦ subst FitFirst (sym (short_items older short)) tt
    | inr long ↦ front_fits (items_of older) (told older end_line).items (ended_fits older fine open_ long)
  ]
]

nothing_more : (xs ys : List Item) → ys ≡ [] → FitFirst xs → FitFirst (xs ++ ys)
nothing_more xs ys none fit = subst FitFirst (sym (append-nil xs) ∙ ap (λ (zs : List Item). xs ++ zs) (sym none)) fit

line_fit : (older : List Line) (line : Line) → AreFine older → FitFirst (items_of older ++ (told older line).items)
line_fit older line fine = go (told older line).fault refl
  where
    go : (o : Option LogCode) → (told older line).fault ≡ o → FitFirst (items_of older ++ (told older line).items)
    go None h = subst FitFirst (items-next line older) (fine_fit (line ∷ older) (fine_again line older h fine))
    go (Some c) h = elim (cases_Bool (is_ended older)) [
      | inl ended ↦ nothing_more (items_of older) (told older line).items (ap (λ (t : Told). t.items) (told-ended older line ended)) (fine_fit older fine)
      | inr open_ ↦ elim (cases_lt (length older) 2) [
        | inl short ↦ nothing_more (items_of older) (told older line).items (short_told older line open_ short) (fine_fit older fine)
        | inr long ↦ faulty_fits older fine open_ long line c h
      ]
    ]

-- ---- bytes

module _ (b : ℕ) (past : List ℕ) (none : first_fault past ≡ None) where
  so_far : FitFirst (items past)
  so_far = let free = fault_free past none in subst FitFirst (sym free.items_are) (fine_fit (lines past) free.fine)

  feed_fit : (test : Bool) → FitFirst (items past ++ (if test then told (lines past) (line_now past) else gives []).items)
  feed_fit true =
      let free = fault_free past none in
      subst (λ (xs : List Item). FitFirst (xs ++ (told (lines past) (line_now past)).items)) (sym free.items_are) (line_fit (lines past) (line_now past) free.fine)
  feed_fit false = nothing_more (items past) [] refl so_far

  moment_fit : (o : Option LogCode) → FitFirst (items past ++ (choose o refuses (feed_told b past)).items)
  moment_fit None = feed_fit (b == 10)
  moment_fit (Some c) = nothing_more (items past) [] refl so_far

  byte_fit : FitFirst (items past ++ (moment_told b past).items)
  byte_fit = moment_fit (byte_fault (length past) (is_ended (lines past)) (length (line_now past)) b)

more_fit : (b : ℕ) (past : List ℕ) (o : Option LogFault) → first_fault past ≡ o → FitFirst (items past) → FitFirst (items (b ∷ past))
more_fit b past None h fit = subst FitFirst (sym (items_byte-next b past h)) (byte_fit b past h)
more_fit b past (Some f) h fit = subst FitFirst (sym (stuck_items-byte b past f h)) fit

pub items_fit : (past : List ℕ) → FitFirst (items past)
unfolding items
items_fit [] = tt
items_fit (b ∷ past) = more_fit b past (first_fault past) refl (items_fit past)
