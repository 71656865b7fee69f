-- The lines of a log that fits have no fault, come to their end, and give its items.
use Rattle.std.proofs.Common.{◌≡◌, ℕ, suc, ◌+◌, ◌-◌, ◌<◌, ◌≤◌, Bool, true, false, cond, Option, Some, None, Ok, List, [], ◌∷◌, ◌++◌, length, replicate, refl, sym, ap, subst, ◌∙◌, arith, inl, inr, append_assoc}
use Rattle.std.specs.Prelude.{nat_le, not, ◌||◌}
use Rattle.std.specs.List.{AllByRecursion}
use Rattle.std.proofs.lemmas.Bool.{cases_Bool, le-leb}
use Rattle.std.proofs.lemmas.List.{append-nil, length-map, length-append, length_push, get_or_at, replicate_more}
use Rattle.pota_base.specs.Limits.{most_events}
use Rattle.log_lines.specs.Names.{Name, is_name, place_of, are_distinct}
use Rattle.log_lines.specs.Spelling.{NamedValue, ValueFits, EventLine, event_line, VarsLine, vars_line, VarsLineFits, ProcsFit, procs_line, batch_line, end_line, names_of}
use Rattle.log_lines.specs.Reading.{choose, text_at, event_in, begins_vars}
use Rattle.log_lines.proofs.LineLaws.{procs_again, vars_again, event_again as line_again}
use Rattle.event_log.specs.declared.item.LogCode.TheVariants as code
use Rattle.event_log.specs.declared.item.Item.{Item}
use Rattle.event_log.specs.declared.item.Item.TheVariants as item
use Rattle.event_log.specs.declared.log.Binding.{Binding}
use Rattle.event_log.specs.declared.log.Header.{Header}
use Rattle.event_log.specs.declared.log.Event.{Event}
use Rattle.event_log.specs.declared.log.Log.{Log}
use Rattle.event_log.specs.Numbers.{binding_names, event_named}
use Rattle.event_log.specs.Before.{Line, heading_of, IsVersion, version, names, filled, bindings_of, variables, events, is_header_over, is_ended, headed, header_of, Told, gives, refuses, vars_told, event_told, body_told, told}
use Rattle.event_log.specs.inside.Before.{AreFine, items_of}
use Rattle.event_log.specs.LogText.{name_at, values_of, line_of, vars_lines, header_lines, event_lines, closing_line, batch_lines, lines_of, event_items, batch_items, log_items, BindingFits, BindingsFit, HeaderFits, EventFits, EventsFit, BatchesFit, event_count, LogFits, HasVarLines, lined, onto}
use Rattle.event_log.proofs.Lists.{onto-append, onto-push, length-onto}
use Rattle.event_log.proofs.NameLaws.{place_again}
use Rattle.event_log.proofs.EventLaws.{SameVariables, event_again, line_fits}
use Rattle.event_log.proofs.NumberSteps.{filled-done}
use Rattle.event_log.proofs.LineSteps.{told-heading, told-procs, told-vars, told-first, told-body, vars_no_other, body_says, is_end_item, events_after_is}
use Rattle.event_log.proofs.ReadLaws.{version_again, items-next, version-next, names-next, variables-added, variables-stay, events-next, ended-next, over_again, over_now, fine_again, bindings_back}
use Rattle.event_log.specs.inside.Lines.{events_after}
use Rattle.event_log.proofs.BodyLaws.{filled_same}

-- ---- the header

-- the header's lines up to those of the processes whose variables are given
record HeaderReady (n : ℕ) (procs : List Name) (given : List (List Binding)) (older : List Line) : Type 0 where
  fine : AreFine older
  long : 2 ≤ length older
  open_ : is_ended older ≡ false
  over : is_header_over older ≡ false
  version_is : version older ≡ n
  names_are : names older ≡ procs
  few : length (variables older) ≤ length given
  vars_are : filled (variables older) (length given) ≡ given
  items_are : items_of older ≡ []
  events_are : events older ≡ 0

heading_ready : (n : ℕ) (procs : List Name) → IsVersion n → ProcsFit procs → HeaderReady n procs [] (procs_line procs ∷ heading_of n ∷ [])
unfolding AreFine items_of version names variables events is_ended is_header_over
heading_ready n procs versioned fits =
    let read = procs_again procs fits in
    let named = version_again n versioned in
    let first : told [] (heading_of n) ≡ gives [] = told-heading [] (heading_of n) refl refl ∙ rw named refl in
    let second : told (heading_of n ∷ []) (procs_line procs) ≡ gives [] = told-procs (heading_of n ∷ []) (procs_line procs) refl refl ∙ rw read refl in
    record {
      fine = (ap (λ (t : Told). t.fault) second, (ap (λ (t : Told). t.fault) first, tt));
      long = omega arith;
      open_ = refl;
      over = refl;
      version_is = rw named refl;
      names_are = rw read refl;
      few = omega arith;
      vars_are = refl;
      items_are = rw (first, second) refl;
      events_are = refl;
    }

-- a process without variables more
none_ready : (n : ℕ) (procs : List Name) (given : List (List Binding)) (older : List Line) → HeaderReady n procs given older → HeaderReady n procs (given ++ [] ∷ []) older
none_ready n procs given older r =
    let len : length (given ++ [] ∷ []) ≡ length given + 1 = length_push given [] in
    let k = length given - length (variables older) in
    let more : length given + 1 - length (variables older) ≡ k + 1 = omega (arith, r.few) in
    let grown : filled (variables older) (length given + 1) ≡ given ++ [] ∷ [] =
    rw (more, ← replicate_more k (let none : List Binding = [] in none)) (sym (append_assoc (variables older) (replicate k []) ([] ∷ [])) ∙ ap (λ (xs : List (List Binding)). xs ++ [] ∷ []) r.vars_are) in
    record {
      fine = r.fine;
      long = r.long;
      open_ = r.open_;
      over = r.over;
      version_is = r.version_is;
      names_are = r.names_are;
      few = omega (arith, r.few, len);
      vars_are = rw len grown;
      items_are = r.items_are;
      events_are = r.events_are;
    }

values_named : (bs : List Binding) → names_of (values_of bs) ≡ binding_names bs
values_named [] = refl
values_named (b ∷ bs) = ap (λ (ns : List Name). b.name ∷ ns) (values_named bs)

values_each : (bs : List Binding) → AllByRecursion BindingFits bs → AllByRecursion ValueFits (values_of bs)
values_each [] fits = tt
values_each (b ∷ bs) fits = (record { name = fits.0.name; value = fits.0.value }, values_each bs fits.1)

pub vars_fit : (process : Name) (b : Binding) (bs : List Binding) → is_name process ≡ true → BindingsFit (b ∷ bs) → VarsLineFits (record { process = process; variables = values_of (b ∷ bs) })
vars_fit process b bs name fits = record {
  process = name;
  some = omega arith;
  variables = record { few = omega (arith, fits.few, length-map {B = NamedValue} bs (λ (x : Binding). record { name = x.name; value = x.value })); each = values_each (b ∷ bs) fits.each; distinct = subst (λ (ns : List Name). are_distinct ns ≡ true) (sym (values_named (b ∷ bs))) fits.distinct };
}

-- one `vars` line more
vars_ready : (n : ℕ) (procs : List Name) (given : List (List Binding)) (older : List Line) (process : Name) (b : Binding) (bs : List Binding) → HeaderReady n procs given older → place_of procs process ≡ Some (length given) → is_name process ≡ true → BindingsFit (b ∷ bs)
    → HeaderReady n procs (given ++ (b ∷ bs) ∷ []) (vars_line (record { process = process; variables = values_of (b ∷ bs) }) ∷ older)
unfolding text_at
vars_ready n procs given older process b bs r place name fits =
    let v : VarsLine = record { process = process; variables = values_of (b ∷ bs) } in
    let line = vars_line v in
    let read = vars_again v (vars_fit process b bs name fits) in
    let begins : begins_vars line ≡ true = refl in
    let after : nat_le (length (variables older)) (length given) ≡ true = le-leb _ _ r.few in
    let quiet : vars_told (names older) (variables older) line ≡ gives [] = rw (read, r.names_are, place, after) refl in
    let value : told older line ≡ gives [] = told-vars older line r.open_ r.long r.over begins ∙ quiet in
    let back : bindings_of (values_of (b ∷ bs)) ≡ b ∷ bs = bindings_back (b ∷ bs) in
    let added : variables (line ∷ older) ≡ given ++ (b ∷ bs) ∷ [] = variables-added line older r.long r.over begins ∙ rw (read, r.names_are, place) (rw (r.vars_are, back) refl) in
    let len : length (given ++ (b ∷ bs) ∷ []) ≡ length given + 1 = length_push given (b ∷ bs) in
    let no_other = vars_no_other line begins in
    record {
      fine = fine_again line older (ap (λ (t : Told). t.fault) value) r.fine;
      long = omega (arith, r.long);
      open_ = ended-next line older r.long r.open_ ∙ no_other.ended;
      over = over_again line older begins r.over;
      version_is = version-next line older r.long ∙ r.version_is;
      names_are = names-next line older r.long ∙ r.names_are;
      few = omega (arith, ap length added);
      vars_are = rw added (filled-done (given ++ (b ∷ bs) ∷ []) (length (given ++ (b ∷ bs) ∷ [])) (omega arith));
      items_are = items-next line older ∙ ap (λ (t : Told). items_of older ++ t.items) value ∙ append-nil (items_of older) ∙ r.items_are;
      events_are = events-next line older r.long ∙ ap (λ (x : Bool). cond x (events older + 1) (events older)) no_other.event ∙ r.events_are;
    }

header_ready : (n : ℕ) (before procs : List Name) (given vars : List (List Binding)) (older : List Line) → length before ≡ length given → length vars ≤ length procs → are_distinct (before ++ procs) ≡ true → AllByRecursion (λ n. is_name n ≡ true) procs → AllByRecursion BindingsFit vars
    → HeaderReady n (before ++ procs) given older → HeaderReady n (before ++ procs) (given ++ vars) (onto (vars_lines procs vars) older)
header_ready n before procs given [] older len few distinct names fits r = subst (λ (g : List (List Binding)). HeaderReady n (before ++ procs) g older) (sym (append-nil given)) r
header_ready n before [] given (v ∷ vars) older len few distinct names fits r = absurd (omega arith)
header_ready n before (p ∷ procs) given ([] ∷ vars) older len few distinct names fits r =
    let all : (before ++ p ∷ []) ++ procs ≡ before ++ p ∷ procs = append_assoc before (p ∷ []) procs in
    let longer : length (before ++ p ∷ []) ≡ length (given ++ [] ∷ []) = omega (arith, len, length_push before p, length_push given (let none : List Binding = [] in none)) in
    let here = none_ready n (before ++ p ∷ procs) given older r in
    let rest = header_ready n (before ++ p ∷ []) procs (given ++ [] ∷ []) vars older longer (omega arith) (subst (λ (ns : List Name). are_distinct ns ≡ true) (sym all) distinct) names.1 fits.1 (subst (λ (ns : List Name). HeaderReady n ns (given ++ [] ∷ []) older) (sym all) here) in
    subst (λ (ns : List Name). HeaderReady n ns (given ++ [] ∷ vars) (onto (vars_lines procs vars) older)) all (subst (λ (g : List (List Binding)). HeaderReady n ((before ++ p ∷ []) ++ procs) g (onto (vars_lines procs vars) older)) (append_assoc given ([] ∷ []) vars) rest)
header_ready n before (p ∷ procs) given ((b ∷ bs) ∷ vars) older len few distinct names fits r =
    let all : (before ++ p ∷ []) ++ procs ≡ before ++ p ∷ procs = append_assoc before (p ∷ []) procs in
    let longer : length (before ++ p ∷ []) ≡ length (given ++ (b ∷ bs) ∷ []) = omega (arith, len, length_push before p, length_push given (b ∷ bs)) in
    let at : name_at (before ++ p ∷ procs) (length given) ≡ p = get_or_at before p procs [] (length given) len in
    let within : length given < length (before ++ p ∷ procs) = omega (arith, len, length-append before (p ∷ procs)) in
    let place : place_of (before ++ p ∷ procs) p ≡ Some (length given) = ap (place_of (before ++ p ∷ procs)) (sym at) ∙ place_again (before ++ p ∷ procs) (length given) distinct within in
    let here = vars_ready n (before ++ p ∷ procs) given older p b bs r place names.0 fits.0 in
    let line = vars_line (record { process = p; variables = values_of (b ∷ bs) }) in
    let rest = header_ready n (before ++ p ∷ []) procs (given ++ (b ∷ bs) ∷ []) vars (line ∷ older) longer (omega arith) (subst (λ (ns : List Name). are_distinct ns ≡ true) (sym all) distinct) names.1 fits.1 (subst (λ (ns : List Name). HeaderReady n ns (given ++ (b ∷ bs) ∷ []) (line ∷ older)) (sym all) here) in
    subst (λ (ns : List Name). HeaderReady n ns (given ++ (b ∷ bs) ∷ vars) (onto (vars_lines procs vars) (line ∷ older))) all (subst (λ (g : List (List Binding)). HeaderReady n ((before ++ p ∷ []) ++ procs) g (onto (vars_lines procs vars) (line ∷ older))) (append_assoc given ((b ∷ bs) ∷ []) vars) rest)

-- ---- behind the header

-- the header, where the lines have not given it
abbrev header_left : List Line → List Item
header_left older = cond (is_header_over older) [] (item.Header (header_of older) ∷ [])

-- the lines of a log before a line that is no part of its header, after so many events and these items behind the header
record BodyReady (h : Header) (count : ℕ) (given : List Item) (older : List Line) : Type 0 where
  fine : AreFine older
  long : 2 ≤ length older
  open_ : is_ended older ≡ false
  version_is : version older ≡ h.version
  procs_are : names older ≡ h.procs
  same : SameVariables h.vars (variables older)
  header_is : header_of older ≡ h
  items_are : items_of older ++ header_left older ≡ item.Header h ∷ given
  events_are : events older ≡ count

told_behind : (line : Line) (older : List Line) → is_ended older ≡ false → 2 ≤ length older → begins_vars line ≡ false → (body : Told) → body_told (version older) (names older) (variables older) (length older + 1) (events older) line ≡ body
    → told older line ≡ record { items = header_left older ++ body.items; fault = body.fault }
told_behind line older open_ long begins body e = elim (cases_Bool (is_header_over older)) [
  | inl over ↦ told-body older line open_ long over ∙ e ∙ rw over refl
  | inr not_over ↦ told-first older line open_ long not_over begins body e ∙ rw not_over refl
]

behind : (line : Line) (older : List Line) → begins_vars line ≡ false → (is_header_over older || not (begins_vars line)) ≡ true
behind line older begins = rw begins (or_true (is_header_over older))
  where
    or_true : (b : Bool) → (b || true) ≡ true
    or_true true = refl
    or_true false = refl

module _ (h : Header) (count : ℕ) (given : List Item) (older : List Line) (r : BodyReady h count given older) (line : Line) (i : Item) (begins : begins_vars line ≡ false)
    (gave : body_told (version older) (names older) (variables older) (length older + 1) (events older) line ≡ gives (i ∷ [])) where
  value : told older line ≡ record { items = header_left older ++ i ∷ []; fault = None }
  value = told_behind line older r.open_ r.long begins (gives (i ∷ [])) gave

  still_fine : AreFine (line ∷ older)
  still_fine = fine_again line older (ap (λ (t : Told). t.fault) value) r.fine

  items_more : items_of (line ∷ older) ≡ item.Header h ∷ (given ++ i ∷ [])
  items_more = items-next line older ∙ ap (λ (t : Told). items_of older ++ t.items) value ∙ sym (append_assoc (items_of older) (header_left older) (i ∷ [])) ∙ ap (λ (xs : List Item). xs ++ i ∷ []) r.items_are

  line_ready : is_end_item i ≡ false → BodyReady h (events_after i count) (given ++ i ∷ []) (line ∷ older)
  line_ready not_end =
      let says = body_says (version older) (names older) (variables older) (length older + 1) (events older) line i gave in
      let stays : variables (line ∷ older) ≡ variables older = variables-stay line older r.long (behind line older begins) in
      let versioned : version (line ∷ older) ≡ version older = version-next line older r.long in
      let named : names (line ∷ older) ≡ names older = names-next line older r.long in
      let over : is_header_over (line ∷ older) ≡ true = over_now line older r.long begins in
      record {
        fine = still_fine;
        long = omega (arith, r.long);
        open_ = ended-next line older r.long r.open_ ∙ says.ended ∙ not_end;
        version_is = versioned ∙ r.version_is;
        procs_are = named ∙ r.procs_are;
        same = rw stays r.same;
        header_is = rw (versioned, named, stays) r.header_is;
        items_are = rw over (append-nil (items_of (line ∷ older)) ∙ items_more);
        events_are = events-next line older r.long ∙ events_after_is line i (events older) says.event ∙ ap (events_after i) r.events_are;
      }

-- one event more
event_ready : (h : Header) (count : ℕ) (given : List Item) (older : List Line) (e : Event) → HeaderFits h → BodyReady h count given older → EventFits h e → e.line ≡ length older + 1 → count < most_events
    → BodyReady h (count + 1) (given ++ item.Event e ∷ []) (event_line (line_of h e) ∷ older)
unfolding text_at
event_ready h count given older e header r fits at few =
    let line = event_line (line_of h e) in
    let read : event_in line ≡ Some (line_of h e) = line_again (line_of h e) (line_fits h e header fits) in
    let few_now : events older < most_events = omega (arith, r.events_are, few) in
    let judged : event_named (version older) (names older) (variables older) (length older + 1) (events older) (line_of h e) ≡ Ok e = rw (r.version_is, r.procs_are, ← at) (event_again h (variables older) (events older) e header r.same fits few_now) in
    let gave : body_told (version older) (names older) (variables older) (length older + 1) (events older) line ≡ gives (item.Event e ∷ []) = ap (λ (o : Option EventLine). choose o (λ d. event_told (event_named (version older) (names older) (variables older) (length older + 1) (events older) d)) (refuses code.BadLine)) read ∙ ap event_told judged in
    line_ready h count given older r line (item.Event e) refl gave refl

events_ready : (h : Header) (count : ℕ) (given : List Item) (older : List Line) (es : List Event) → HeaderFits h → BodyReady h count given older → EventsFit h (length older + 1) es → count + length es ≤ most_events
    → BodyReady h (count + length es) (given ++ event_items es) (onto (event_lines h es) older)
events_ready h count given older [] header r fits few =
    let none : count + 0 ≡ count = omega arith in
    rw none (subst (λ (g : List Item). BodyReady h count g older) (sym (append-nil given)) r)
events_ready h count given older (e ∷ es) header r fits few =
    let here = event_ready h count given older e header r fits.0.0 fits.0.1 (omega arith) in
    let sum : count + 1 + length es ≡ count + suc (length es) = omega arith in
    let at : length older + 1 + 1 ≡ length (event_line (line_of h e) ∷ older) + 1 = omega arith in
    let rest = events_ready h (count + 1) (given ++ item.Event e ∷ []) (event_line (line_of h e) ∷ older) es header here (subst (λ (n : ℕ). EventsFit h n es) at fits.1) (omega arith) in
    rw (← sum) (subst (λ (g : List Item). BodyReady h (count + 1 + length es) g (onto (event_lines h es) (event_line (line_of h e) ∷ older))) (append_assoc given (item.Event e ∷ []) (event_items es)) rest)

pub record AreLinesOf (items : List Item) (older : List Line) : Type 0 where
  pub fine : AreFine older
  pub ended : is_ended older ≡ true
  pub items_are : items_of older ≡ items

-- the line behind the last batch
end_ready : (h : Header) (count : ℕ) (given : List Item) (older : List Line) → BodyReady h count given older → AreLinesOf (item.Header h ∷ (given ++ item.End ∷ [])) (end_line ∷ older)
unfolding text_at
end_ready h count given older r = record {
  fine = still_fine h count given older r end_line item.End refl refl;
  ended = ended-next end_line older r.long r.open_;
  items_are = items_more h count given older r end_line item.End refl refl;
}

batch_ready : (h : Header) (count : ℕ) (given : List Item) (older : List Line) → BodyReady h count given older → BodyReady h count (given ++ item.BatchEnd ∷ []) (batch_line ∷ older)
unfolding text_at
batch_ready h count given older r = line_ready h count given older r batch_line item.BatchEnd refl refl refl

batches_ready : (h : Header) (count : ℕ) (given : List Item) (older : List Line) (b : List Event) (rest : List (List Event)) → HeaderFits h → BodyReady h count given older → BatchesFit h (length older + 1) (b ∷ rest) → count + event_count (b ∷ rest) ≤ most_events
    → AreLinesOf (item.Header h ∷ (given ++ batch_items (b ∷ rest))) (onto (batch_lines h (b ∷ rest)) older)
batches_ready h count given older b [] header r fits few =
    let here = events_ready h count given older b header r fits.0 (omega arith) in
    let ended = end_ready h (count + length b) (given ++ event_items b) (onto (event_lines h b) older) here in
    subst (λ (ls : List Line). AreLinesOf (item.Header h ∷ (given ++ batch_items (b ∷ []))) ls) (sym (onto-push (event_lines h b) end_line older))
    (subst (λ (xs : List Item). AreLinesOf (item.Header h ∷ xs) (end_line ∷ onto (event_lines h b) older)) (append_assoc given (event_items b) (item.End ∷ [])) ended)
batches_ready h count given older b (c ∷ rest) header r fits few =
    let here = events_ready h count given older b header r fits.0 (omega arith) in
    let closed = batch_ready h (count + length b) (given ++ event_items b) (onto (event_lines h b) older) here in
    let at : length older + 1 + length b + 1 ≡ length (batch_line ∷ onto (event_lines h b) older) + 1 = omega (arith, length-onto (event_lines h b) older, length-map b (λ (e : Event). event_line (line_of h e))) in
    let others = batches_ready h (count + length b) ((given ++ event_items b) ++ item.BatchEnd ∷ []) (batch_line ∷ onto (event_lines h b) older) c rest header closed (subst (λ (n : ℕ). BatchesFit h n (c ∷ rest)) at fits.1) (omega arith) in
    let items : ((given ++ event_items b) ++ item.BatchEnd ∷ []) ++ batch_items (c ∷ rest) ≡ given ++ batch_items (b ∷ c ∷ rest) =
    append_assoc (given ++ event_items b) (item.BatchEnd ∷ []) (batch_items (c ∷ rest)) ∙ append_assoc given (event_items b) (item.BatchEnd ∷ batch_items (c ∷ rest)) in
    let lines : onto (batch_lines h (b ∷ c ∷ rest)) older ≡ onto (batch_lines h (c ∷ rest)) (batch_line ∷ onto (event_lines h b) older) = onto-append (event_lines h b) (batch_line ∷ batch_lines h (c ∷ rest)) older in
    subst (λ (ls : List Line). AreLinesOf (item.Header h ∷ (given ++ batch_items (b ∷ c ∷ rest))) ls) (sym lines)
    (subst (λ (xs : List Item). AreLinesOf (item.Header h ∷ xs) (onto (batch_lines h (c ∷ rest)) (batch_line ∷ onto (event_lines h b) older))) items others)

-- the header's lines are before those of the body
body_begins : (h : Header) (older : List Line) → HasVarLines h → length h.vars ≡ length h.procs → HeaderReady h.version h.procs h.vars older → BodyReady h 0 [] older
body_begins h older lined all r =
    let filled_is : filled (variables older) (length (names older)) ≡ h.vars = rw (r.names_are, ← all) r.vars_are in
    let header_is : header_of older ≡ h = rw (r.version_is, r.names_are, ← all, r.vars_are, ← lined) refl in
    record {
      fine = r.fine;
      long = r.long;
      open_ = r.open_;
      version_is = r.version_is;
      procs_are = r.names_are;
      same = rw (← filled_is) (filled_same (variables older) (length (names older)));
      header_is = header_is;
      items_are = rw (r.items_are, r.over, header_is) refl;
      events_are = r.events_are;
    }

lined_again : (log : Log) → HasVarLines log.header → LogFits log → AreLinesOf (log_items log) (onto (lines_of log) [])
lined_again log lined fits = go log.batches refl
  where
    h : Header
    h = log.header

    start : List Line
    start = onto (vars_lines h.procs h.vars) (procs_line h.procs ∷ heading_of h.version ∷ [])

    ready : BodyReady h 0 [] start
    ready = body_begins h start lined fits.header.all (header_ready h.version [] h.procs [] h.vars (procs_line h.procs ∷ heading_of h.version ∷ []) refl (omega (arith, fits.header.all)) fits.header.procs.distinct fits.header.procs.each fits.header.vars (heading_ready h.version h.procs fits.header.version fits.header.procs))

    at : length (header_lines h) + 1 ≡ length start + 1
    at = omega (arith, length-onto (vars_lines h.procs h.vars) (procs_line h.procs ∷ heading_of h.version ∷ []))

    go : (bs : List (List Event)) → log.batches ≡ bs → AreLinesOf (log_items log) (onto (lines_of log) [])
    go [] e = absurd (omega (arith, fits.some, ap length e))
    go (b ∷ rest) e =
        let fit : BatchesFit h (length (header_lines h) + 1) (b ∷ rest) = subst (λ (bs : List (List Event)). BatchesFit h (length (header_lines h) + 1) bs) e fits.batches in
        let few : event_count (b ∷ rest) ≤ most_events = subst (λ (bs : List (List Event)). event_count bs ≤ most_events) e fits.few in
        let read = batches_ready h 0 [] start b rest fits.header ready (subst (λ (n : ℕ). BatchesFit h n (b ∷ rest)) at fit) (omega (arith, few)) in
        subst (λ (ls : List Line). AreLinesOf (log_items log) ls) (sym (onto-append (header_lines h) (batch_lines h log.batches) []))
        (subst (λ (bs : List (List Event)). AreLinesOf (item.Header h ∷ batch_items bs) (onto (batch_lines h bs) start)) (sym e) read)

-- the lines of the header have no part in what is spelled, nor in what fits
module _ (h : Header) where
  batches_spelled : (bs : List (List Event)) → batch_lines (headed h.version h.procs h.vars) bs ≡ batch_lines h bs
  batches_spelled [] = refl
  batches_spelled (b ∷ rest) = ap (λ (ls : List Line). event_lines h b ++ closing_line rest ∷ ls) (batches_spelled rest)

  event_fits : (e : Event) → EventFits h e → EventFits (headed h.version h.procs h.vars) e
  event_fits e fits = record { process = fits.process; width = fits.width; clock = fits.clock; kind = fits.kind; few = fits.few; assigns = fits.assigns; distinct = fits.distinct }

  events_fit : (line : ℕ) (es : List Event) → EventsFit h line es → EventsFit (headed h.version h.procs h.vars) line es
  events_fit line [] fits = tt
  events_fit line (e ∷ es) fits = ((event_fits e fits.0.0, fits.0.1), events_fit (line + 1) es fits.1)

  batches_fit : (line : ℕ) (bs : List (List Event)) → BatchesFit h line bs → BatchesFit (headed h.version h.procs h.vars) line bs
  batches_fit line [] fits = tt
  batches_fit line (b ∷ rest) fits = (events_fit line b fits.0, batches_fit (line + length b + 1) rest fits.1)

lined_fits : (log : Log) → LogFits log → LogFits (lined log)
lined_fits log fits = record {
  header = record { version = fits.header.version; procs = fits.header.procs; all = fits.header.all; vars = fits.header.vars };
  some = fits.some;
  batches = batches_fit log.header (length (header_lines log.header) + 1) log.batches fits.batches;
  few = fits.few;
}

lined_lines : (log : Log) → lines_of (lined log) ≡ lines_of log
lined_lines log = ap (λ (ls : List Line). header_lines log.header ++ ls) (batches_spelled log.header log.batches)

pub log_again : (log : Log) → LogFits log → AreLinesOf (log_items (lined log)) (onto (lines_of log) [])
log_again log fits = subst (λ (ls : List Line). AreLinesOf (log_items (lined log)) (onto ls [])) (lined_lines log) (lined_again (lined log) refl (lined_fits log fits))
