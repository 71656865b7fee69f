-- Lines without a fault that have come to their end are those of a log, and give its items.
use Rattle.std.proofs.Common.{◌≡◌, ℕ, zero, suc, ◌+◌, ◌-◌, ◌<◌, ◌≤◌, Bool, true, false, cond, Option, Some, None, List, [], ◌∷◌, ◌++◌, length, replicate, refl, sym, ap, subst, ◌∙◌, arith, inl, inr}
use Rattle.std.specs.Prelude.{◌==◌, nat_le, not, ◌&&◌, ◌||◌, is_some, unwrap_or}
use Rattle.std.specs.List.{AllByRecursion}
use Rattle.std.specs.Str.{bytes_eq}
use Rattle.std.proofs.lemmas.Bool.{cases_Bool, ne_eqb, le-leb, leb-true, or_parts, not-false}
use Rattle.std.proofs.lemmas.List.{append-nil, length-map, length-append, length-replicate}
use Rattle.std.proofs.lemmas.Option.{none-some, same_Some}
use Rattle.std.proofs.lemmas.Slice.Eq.{bytes_eq-Decides}
use Rattle.log_lines.specs.Names.{Name, place_of}
use Rattle.log_lines.specs.Spelling.{NamedValue, VarsLine, vars_line, ValueFits, ValuesFit, ProcsFit, procs_line, end_line, names_of}
use Rattle.log_lines.specs.Reading.{choose, procs_in, vars_in, begins_vars}
use Rattle.log_lines.proofs.LineLaws.{procs_take, vars_take}
use Rattle.event_log.specs.declared.item.LogCode.{LogCode}
use Rattle.event_log.specs.declared.item.LogCode.TheVariants as code
use Rattle.event_log.specs.declared.item.Item.{Item}
use Rattle.event_log.specs.declared.log.Binding.{Binding}
use Rattle.event_log.specs.Numbers.{binding_names}
use Rattle.event_log.specs.Before.{Line, heading_of, IsVersion, version_in, version, names, filled, bindings_of, headed, variables, variables_after, events, begins_event, is_header_over, is_ended, Told, gives, refuses, requires, heading_told, procs_told, vars_placed, vars_told, told}
use Rattle.event_log.specs.inside.Before.{AreFine, items_of}
use Rattle.event_log.specs.LogText.{name_at, values_of, vars_lines, header_lines, BindingFits, BindingsFit, onto}
use Rattle.event_log.proofs.Lists.{onto-push, all_push, all_append}
use Rattle.event_log.proofs.NameLaws.{place_some}
use Rattle.event_log.proofs.LineSteps.{told-heading, told-procs, told-vars, vars_no_other, or_false}

-- ---- variables

values_back : (vs : List NamedValue) → values_of (bindings_of vs) ≡ vs
values_back [] = refl
values_back (v ∷ vs) = ap (λ (xs : List NamedValue). v ∷ xs) (values_back vs)

bindings_named : (vs : List NamedValue) → binding_names (bindings_of vs) ≡ names_of vs
bindings_named [] = refl
bindings_named (v ∷ vs) = ap (λ (xs : List Name). v.name ∷ xs) (bindings_named vs)

bindings_each : (vs : List NamedValue) → AllByRecursion ValueFits vs → AllByRecursion BindingFits (bindings_of vs)
bindings_each [] fits = tt
bindings_each (v ∷ vs) fits = (record { name = fits.0.name; value = fits.0.value }, bindings_each vs fits.1)

bindings_fit : (vs : List NamedValue) → ValuesFit vs → BindingsFit (bindings_of vs)
bindings_fit vs fits = record { few = omega (arith, fits.few, length-map {B = Binding} vs (λ (v : NamedValue). record { name = v.name; value = v.value })); each = bindings_each vs fits.each; distinct = rw (bindings_named vs) fits.distinct }

pub no_variables_fit : (k : ℕ) → AllByRecursion BindingsFit (replicate k [])
no_variables_fit zero = tt
no_variables_fit (suc k) = (record { few = omega arith; each = tt; distinct = refl }, no_variables_fit k)

-- empty lists spell no line
pub vars_lines-filled : (procs : List Name) (vars : List (List Binding)) (k : ℕ) → vars_lines procs (vars ++ replicate k []) ≡ vars_lines procs vars
vars_lines-filled [] [] zero = refl
vars_lines-filled [] [] (suc k) = refl
vars_lines-filled [] (v ∷ vs) k = refl
vars_lines-filled (p ∷ ps) [] zero = refl
vars_lines-filled (p ∷ ps) [] (suc k) = vars_lines-filled ps [] k
vars_lines-filled (p ∷ ps) ([] ∷ vs) k = vars_lines-filled ps vs k
vars_lines-filled (p ∷ ps) ((b ∷ bs) ∷ vs) k = ap (λ (ls : List Line). vars_line (record { process = p; variables = values_of (b ∷ bs) }) ∷ ls) (vars_lines-filled ps vs k)

-- the line of one process more
pub vars_lines-push : (procs : List Name) (vars : List (List Binding)) (k : ℕ) (b : Binding) (bs : List Binding) → length vars + k < length procs
    → vars_lines procs ((vars ++ replicate k []) ++ (b ∷ bs) ∷ []) ≡ vars_lines procs vars ++ vars_line (record { process = name_at procs (length vars + k); variables = values_of (b ∷ bs) }) ∷ []
vars_lines-push [] vars k b bs lt = absurd (omega arith)
vars_lines-push (p ∷ ps) [] zero b bs lt = refl
vars_lines-push (p ∷ ps) [] (suc k) b bs lt =
    let e : 0 + suc k ≡ suc (0 + k) = omega arith in
    rw e (vars_lines-push ps [] k b bs (omega arith) ∙ rw (vars_lines-none ps) refl)
  where
    vars_lines-none : (ns : List Name) → vars_lines ns [] ≡ []
    vars_lines-none ns = refl
vars_lines-push (p ∷ ps) ([] ∷ vs) k b bs lt =
    let e : suc (length vs) + k ≡ suc (length vs + k) = omega arith in
    rw e (vars_lines-push ps vs k b bs (omega arith))
vars_lines-push (p ∷ ps) ((c ∷ cs) ∷ vs) k b bs lt =
    let e : suc (length vs) + k ≡ suc (length vs + k) = omega arith in
    rw e (ap (λ (ls : List Line). vars_line (record { process = p; variables = values_of (c ∷ cs) }) ∷ ls) (vars_lines-push ps vs k b bs (omega arith)))

-- ---- what was judged without a fault

requires_true : (c : LogCode) (test : Bool) → (requires c test).fault ≡ None → test ≡ true
requires_true c true h = refl
requires_true c false h = absurd (none-some c (sym h))

pub some_value : {A : Type 0} (o : Option A) → is_some o ≡ true → (x : A) × (o ≡ Some x)
some_value None h = absurd cc
some_value (Some x) h = (x, refl)

record VarsJudged (procs : List Name) (vars : List (List Binding)) (line : Line) : Type 0 where
  v : VarsLine
  place : ℕ
  read : vars_in line ≡ Some v
  found : place_of procs v.process ≡ Some place
  after : length vars ≤ place

vars_judged : (procs : List Name) (vars : List (List Binding)) (line : Line) → (vars_told procs vars line).fault ≡ None → VarsJudged procs vars line
vars_judged procs vars line h = read (vars_in line) refl h
  where
    placed : (v : VarsLine) → vars_in line ≡ Some v → (o : Option ℕ) → place_of procs v.process ≡ o → (vars_placed vars o).fault ≡ None → VarsJudged procs vars line
    placed v is None at g = absurd (none-some code.UnknownProcess (sym g))
    placed v is (Some p) at g = record { v = v; place = p; read = is; found = at; after = leb-true (length vars) p (requires_true code.BadLine (nat_le (length vars) p) g) }

    read : (o : Option VarsLine) → vars_in line ≡ o → (choose o (λ v. vars_placed vars (place_of procs v.process)) (refuses code.BadLine)).fault ≡ None → VarsJudged procs vars line
    read None is g = absurd (none-some code.BadLine (sym g))
    read (Some v) is g = placed v is (place_of procs v.process) refl g

-- ---- the header

pub record HeaderRead (older : List Line) : Type 0 where
  pub lines_are : older ≡ onto (header_lines (headed (version older) (names older) (variables older))) []
  pub version_fits : IsVersion (version older)
  pub procs_fit : ProcsFit (names older)
  pub few : length (variables older) ≤ length (names older)
  pub vars_fit : AllByRecursion BindingsFit (variables older)
  pub items_are : items_of older ≡ []
  pub events_are : events older ≡ 0

-- the first line of a version, and the version that a first line names
pub version_is : (line : Line) (n : ℕ) → version_in line ≡ Some n → (line ≡ heading_of n) × IsVersion n
version_is line n h = elim (cases_Bool (bytes_eq line (heading_of 1))) [
  | inl one ↦ subst (λ (k : ℕ). (line ≡ heading_of k) × IsVersion k) (same_Some _ _ (rw one at h)) ((bytes_eq-Decides line (heading_of 1)).0 one, inl refl)
  | inr other ↦ elim (cases_Bool (bytes_eq line (heading_of 2))) [
    | inl two ↦ subst (λ (k : ℕ). (line ≡ heading_of k) × IsVersion k) (same_Some _ _ (rw (other, two) at h)) ((bytes_eq-Decides line (heading_of 2)).0 two, inr refl)
    | inr none ↦ absurd (none-some n (rw (other, none) at h))
  ]
]

pub version_again : (n : ℕ) → IsVersion n → version_in (heading_of n) ≡ Some n
version_again n (inl one) = subst (λ (k : ℕ). version_in (heading_of k) ≡ Some k) (sym one) refl
version_again n (inr two) = subst (λ (k : ℕ). version_in (heading_of k) ≡ Some k) (sym two) refl

first_lines : (n : ℕ) (first second : Line) (procs ns : List Name) → first ≡ heading_of n → second ≡ procs_line ns → procs ≡ ns → second ∷ first ∷ [] ≡ onto (header_lines (headed n procs [])) []
first_lines n first second procs ns a b c = rw (a, b, c) refl

requires_items : (c : LogCode) (test : Bool) (t : Told) → t ≡ requires c test → t.fault ≡ None → t.items ≡ []
requires_items c true t e none = ap (λ (x : Told). x.items) e
requires_items c false t e none = absurd (none-some c (sym none ∙ ap (λ (x : Told). x.fault) e))

two_lines_read : (first second : Line) → AreFine (second ∷ first ∷ []) → HeaderRead (second ∷ first ∷ [])
unfolding AreFine items_of version names variables events is_ended is_header_over
two_lines_read first second fine =
    let heading_fine : (heading_told first).fault ≡ None = sym (ap (λ (t : Told). t.fault) (told-heading [] first refl refl)) ∙ fine.1.0 in
    let named = some_value (version_in first) (requires_true code.BadHeader (is_some (version_in first)) heading_fine) in
    let first_is = version_is first named.0 named.1 in
    let version_now : unwrap_or (version_in first) 1 ≡ named.0 = ap (λ (o : Option ℕ). unwrap_or o 1) named.1 in
    let procs_fine : (procs_told second).fault ≡ None = sym (ap (λ (t : Told). t.fault) (told-procs (first ∷ []) second refl refl)) ∙ fine.0 in
    let read = some_value (procs_in second) (requires_true code.BadProcs (is_some (procs_in second)) procs_fine) in
    let taken = procs_take second read.0 read.1 in
    let names_are : unwrap_or (procs_in second) [] ≡ read.0 = ap (λ (o : Option (List Name)). unwrap_or o []) read.1 in
    let first_told : (told [] first).items ≡ [] = requires_items code.BadHeader (is_some (version_in first)) (told [] first) (told-heading [] first refl refl) fine.1.0 in
    let second_told : (told (first ∷ []) second).items ≡ [] = requires_items code.BadProcs (is_some (procs_in second)) (told (first ∷ []) second) (told-procs (first ∷ []) second refl refl) fine.0 in
    record {
      lines_are = first_lines (unwrap_or (version_in first) 1) first second (unwrap_or (procs_in second) []) read.0 (first_is.0 ∙ ap heading_of (sym version_now)) taken.text names_are;
      version_fits = subst IsVersion (sym version_now) first_is.1;
      procs_fit = subst ProcsFit (sym names_are) taken.fits;
      few = omega arith;
      vars_fit = tt;
      items_are = rw (first_told, second_told) refl;
      events_are = refl;
    }

-- one `vars` line more
vars_text : (n : ℕ) (procs : List Name) (vars : List (List Binding)) (rest : List Line) (line : Line) (v : VarsLine) (place : ℕ)
    → rest ≡ onto (header_lines (headed n procs vars)) [] → line ≡ vars_line v → 0 < length v.variables → length vars ≤ place → place < length procs → name_at procs place ≡ v.process
    → line ∷ rest ≡ onto (header_lines (headed n procs (filled vars place ++ bindings_of v.variables ∷ []))) []
vars_text n procs vars rest line v place rest_is line_is some after within name_is = go (bindings_of v.variables) refl
  where
    at : length vars + (place - length vars) ≡ place
    at = omega arith

    go : (bs : List Binding) → bindings_of v.variables ≡ bs → line ∷ rest ≡ onto (header_lines (headed n procs (filled vars place ++ bs ∷ []))) []
    go [] e = absurd (omega (arith, some, ap length e, length-map {B = Binding} v.variables (λ (x : NamedValue). record { name = x.name; value = x.value })))
    go (b ∷ bs) e =
        let values_are : values_of (b ∷ bs) ≡ v.variables = ap values_of (sym e) ∙ values_back v.variables in
        let spelled : vars_line (record { process = name_at procs (length vars + (place - length vars)); variables = values_of (b ∷ bs) }) ≡ line =
        ap (λ (p : ℕ). vars_line (record { process = name_at procs p; variables = values_of (b ∷ bs) })) at ∙ ap (λ (p : Name). vars_line (record { process = p; variables = values_of (b ∷ bs) })) name_is ∙ ap (λ (xs : List NamedValue). vars_line (record { process = v.process; variables = xs })) values_are ∙ sym line_is in
        let more : vars_lines procs (filled vars place ++ (b ∷ bs) ∷ []) ≡ vars_lines procs vars ++ line ∷ [] =
        vars_lines-push procs vars (place - length vars) b bs (omega (arith, at, within)) ∙ ap (λ (l : Line). vars_lines procs vars ++ l ∷ []) spelled in
        ap (λ (ls : List Line). line ∷ ls) rest_is ∙ sym (onto-push (header_lines (headed n procs vars)) line []) ∙ ap (λ (ls : List Line). onto (heading_of n ∷ procs_line procs ∷ ls) []) (sym more)

vars_after_is : (procs : List Name) (vars : List (List Binding)) (line : Line) (j : VarsJudged procs vars line) → variables_after procs vars line ≡ filled vars j.place ++ bindings_of j.v.variables ∷ []
vars_after_is procs vars line j = rw (j.read, j.found) refl

vars_quiet : (procs : List Name) (vars : List (List Binding)) (line : Line) (j : VarsJudged procs vars line) → vars_told procs vars line ≡ gives []
vars_quiet procs vars line j = rw (j.read, j.found, le-leb (length vars) j.place j.after) refl

record OneVarsMore (n : ℕ) (procs : List Name) (vars : List (List Binding)) (rest : List Line) (line : Line) (new : List (List Binding)) : Type 0 where
  lines_are : line ∷ rest ≡ onto (header_lines (headed n procs new)) []
  few : length new ≤ length procs
  vars_fit : AllByRecursion BindingsFit new

pub length-filled : (vars : List (List Binding)) (k : ℕ) → length vars ≤ k → length (filled vars k) ≡ k
length-filled vars k le = omega (arith, le, length-append vars (replicate (k - length vars) []), length-replicate (k - length vars) (let none : List Binding = [] in none))

one_vars_more : (n : ℕ) (procs : List Name) (vars : List (List Binding)) (rest : List Line) (line : Line) → rest ≡ onto (header_lines (headed n procs vars)) [] → AllByRecursion BindingsFit vars
    → (j : VarsJudged procs vars line) → OneVarsMore n procs vars rest line (filled vars j.place ++ bindings_of j.v.variables ∷ [])
one_vars_more n procs vars rest line rest_is fits j =
    let taken = vars_take line j.v j.read in
    let p = place_some procs j.v.process j.place j.found in
    record {
      lines_are = vars_text n procs vars rest line j.v j.place rest_is taken.text taken.fits.some j.after p.0 p.1;
      few = omega (arith, p.0, length-append (filled vars j.place) (bindings_of j.v.variables ∷ []), length-filled vars j.place j.after);
      vars_fit = all_push BindingsFit (filled vars j.place) (bindings_of j.v.variables) (all_append BindingsFit vars (replicate (j.place - length vars) []) fits (no_variables_fit (j.place - length vars))) (bindings_fit j.v.variables taken.fits.variables);
    }

-- ---- looking back past one line more

module _ (line : Line) (older : List Line) where
  pub items-next : items_of (line ∷ older) ≡ items_of older ++ (told older line).items
  unfolding items_of
  items-next = refl

  pub fine_next : AreFine (line ∷ older) → ((told older line).fault ≡ None) × AreFine older
  unfolding AreFine
  fine_next fine = fine

  pub open_next : is_ended (line ∷ older) ≡ false → is_ended older ≡ false
  unfolding is_ended
  open_next e = (or_parts (nat_le 2 (length older) && bytes_eq line end_line) (is_ended older) e).1

  module _ (long : 2 ≤ length older) where
    two : nat_le 2 (length older) ≡ true
    two = le-leb 2 (length older) long

    pub version-next : version (line ∷ older) ≡ version older
    unfolding version
    version-next = let some : (length older == 0) ≡ false = ne_eqb (length older) 0 (λ e. absurd (omega (arith, e))) in rw some refl

    pub names-next : names (line ∷ older) ≡ names older
    unfolding names
    names-next = let other : (length older == 1) ≡ false = ne_eqb (length older) 1 (λ e. absurd (omega (arith, e))) in rw other refl

    pub variables-added : is_header_over older ≡ false → begins_vars line ≡ true → variables (line ∷ older) ≡ variables_after (names older) (variables older) line
    unfolding variables
    variables-added over begins = rw (two, over, begins) refl

    pub variables-stay : (is_header_over older || not (begins_vars line)) ≡ true → variables (line ∷ older) ≡ variables older
    unfolding variables
    variables-stay behind =
        let out : (not (is_header_over older) && begins_vars line) ≡ false = grind arith in
        rw (two, out) refl

    pub events-next : events (line ∷ older) ≡ cond (begins_event line) (events older + 1) (events older)
    unfolding events
    events-next = rw two refl

    pub header_parts : is_header_over (line ∷ older) ≡ false → (begins_vars line ≡ true) × (is_header_over older ≡ false)
    unfolding is_header_over
    header_parts over =
        let parts = or_parts (nat_le 2 (length older) && not (begins_vars line)) (is_header_over older) over in
        (not-false (begins_vars line) (rw two at parts.0), parts.1)

    pub behind_parts : is_header_over (line ∷ older) ≡ true → (is_header_over older || not (begins_vars line)) ≡ true
    unfolding is_header_over
    behind_parts over =
        let here : (not (begins_vars line) || is_header_over older) ≡ true = rw two at over in
        grind arith

    pub ended-next : is_ended older ≡ false → is_ended (line ∷ older) ≡ bytes_eq line end_line
    unfolding is_ended
    ended-next open_ = rw (two, open_) (or_false (bytes_eq line end_line))

vars_made : (line : Line) (older : List Line) (new : List (List Binding)) → HeaderRead older → version (line ∷ older) ≡ version older → names (line ∷ older) ≡ names older → variables (line ∷ older) ≡ new → items_of (line ∷ older) ≡ items_of older → events (line ∷ older) ≡ events older
    → OneVarsMore (version older) (names older) (variables older) older line new → HeaderRead (line ∷ older)
vars_made line older new h versioned named added items_same events_same more = record {
  lines_are = rw (versioned, named, added) more.lines_are;
  version_fits = rw versioned h.version_fits;
  procs_fit = rw named h.procs_fit;
  few = rw (named, added) more.few;
  vars_fit = rw added more.vars_fit;
  items_are = items_same ∙ h.items_are;
  events_are = events_same ∙ h.events_are;
}

vars_read : (line : Line) (older : List Line) → 2 ≤ length older → AreFine (line ∷ older) → is_header_over (line ∷ older) ≡ false → is_ended (line ∷ older) ≡ false
    → (AreFine older → 2 ≤ length older → is_header_over older ≡ false → is_ended older ≡ false → HeaderRead older) → HeaderRead (line ∷ older)
vars_read line older long fine over open_ before =
    let parts = header_parts line older long over in
    let still = open_next line older open_ in
    let f = fine_next line older fine in
    let h = before f.1 long parts.1 still in
    let value = told-vars older line still long parts.1 parts.0 in
    let j = vars_judged (names older) (variables older) line (sym (ap (λ (t : Told). t.fault) value) ∙ f.0) in
    let quiet : (told older line).items ≡ [] = ap (λ (t : Told). t.items) (value ∙ vars_quiet (names older) (variables older) line j) in
    let no_event = (vars_no_other line parts.0).event in
    vars_made line older (filled (variables older) j.place ++ bindings_of j.v.variables ∷ []) h (version-next line older long) (names-next line older long)
    (variables-added line older long parts.1 parts.0 ∙ vars_after_is (names older) (variables older) line j)
    (items-next line older ∙ ap (λ (xs : List Item). items_of older ++ xs) quiet ∙ append-nil (items_of older))
    (events-next line older long ∙ ap (λ (b : Bool). cond b (events older + 1) (events older)) no_event)
    (one_vars_more (version older) (names older) (variables older) older line h.lines_are h.vars_fit j)

pub header_read : (older : List Line) → AreFine older → 2 ≤ length older → is_header_over older ≡ false → is_ended older ≡ false → HeaderRead older
header_read [] fine long over open_ = absurd (omega arith)
header_read (line ∷ []) fine long over open_ = absurd (omega arith)
header_read (second ∷ first ∷ []) fine long over open_ = two_lines_read first second fine
header_read (line ∷ x ∷ y ∷ rest) fine long over open_ = vars_read line (x ∷ y ∷ rest) (omega arith) fine over open_ (header_read (x ∷ y ∷ rest))

-- ---- the other way

pub over_again : (line : Line) (older : List Line) → begins_vars line ≡ true → is_header_over older ≡ false → is_header_over (line ∷ older) ≡ false
unfolding is_header_over
over_again line older begins over = elim (cases_Bool (nat_le 2 (length older))) [
  | inl long ↦ rw (long, begins, over) refl
  | inr short ↦ rw (short, over) refl
]

pub over_now : (line : Line) (older : List Line) → 2 ≤ length older → begins_vars line ≡ false → is_header_over (line ∷ older) ≡ true
unfolding is_header_over
over_now line older long begins = rw (le-leb 2 (length older) long, begins) refl

pub fine_again : (line : Line) (older : List Line) → (told older line).fault ≡ None → AreFine older → AreFine (line ∷ older)
unfolding AreFine
fine_again line older none fine = (none, fine)

pub bindings_back : (bs : List Binding) → bindings_of (values_of bs) ≡ bs
bindings_back [] = refl
bindings_back (b ∷ bs) = ap (λ (xs : List Binding). b ∷ xs) (bindings_back bs)
