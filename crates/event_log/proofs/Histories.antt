-- The rows of a history: one state after the other, all of one width.
use Rattle.std.proofs.Common.{◌≡◌, ℕ, zero, suc, ◌+◌, ◌-◌, ◌*◌, ◌<◌, ◌≤◌, List, [], ◌∷◌, ◌++◌, length, map, take, drop, get_or, set, refl, sym, ap, ◌∙◌, subst, arith, append_assoc, append-nil, mul-le-mul_right, length-append}
use Rattle.std.specs.Prelude.{ℤ, pos, Result, Ok, Err, OnOk, OnErr, is_ok, is_err, true, false, if◌then◌else◌}
use Rattle.std.proofs.lemmas.List.{length-set, length-map, take_all, take-append-le, take_more, length-drop, get_or-drop, map_push, take_at, get_or_append_left, get_or-append-add}
use Rattle.std.proofs.Math.Seq.{drop-append-add, take-append-add}
use Rattle.run_model.specs.Run.{Assignment, Event, assigned, state_from, states_from}
use Rattle.event_log.specs.declared.log.Event as logged
use Rattle.event_log.specs.States.{joined, IsHistory, event_of, assignment_of}
use Rattle.event_log.specs.declared.log.Binding.{Binding}
use Rattle.event_log.specs.declared.log.Assign.{Assign}
use Rattle.std.specs.List.{AllByRecursion}

pub length-assigned : (state : List ℤ) (as_ : List Assignment) → length (assigned state as_) ≡ length state
unfolding assigned
length-assigned state [] = refl
length-assigned state (a ∷ rest) = length-assigned (set state a.variable a.value) rest ∙ length-set state a.variable a.value

pub length-joined : (state : List ℤ) (es : List Event) → length (joined (states_from state es)) ≡ (length es + 1) * length state
unfolding states_from
length-joined state [] = ap length (append-nil state) ∙ omega arith
length-joined state (e ∷ es) =
    let next = assigned state e.assigns in
    let more : length (joined (states_from next es)) ≡ (length es + 1) * length state =
    length-joined next es ∙ ap (λ (w : ℕ). (length es + 1) * w) (length-assigned state e.assigns) in
    length-append state (joined (states_from next es)) ∙ omega (arith, more)

-- the last row is the state after all events
pub last_row : (state : List ℤ) (es : List Event) → drop (length es * length state) (joined (states_from state es)) ≡ state_from state es
unfolding states_from state_from
last_row state [] =
    let none : 0 * length state ≡ 0 = omega arith in
    ap (λ (n : ℕ). drop n (state ++ [])) none ∙ append-nil state
last_row state (e ∷ es) =
    let next = assigned state e.assigns in
    let split : suc (length es) * length state ≡ length state + length es * length state = omega arith in
    let rest : drop (length es * length state) (joined (states_from next es)) ≡ state_from next es =
    subst (λ (w : ℕ). drop (length es * w) (joined (states_from next es)) ≡ state_from next es) (length-assigned state e.assigns) (last_row next es) in
    ap (λ (n : ℕ). drop n (state ++ joined (states_from next es))) split
    ∙ drop-append-add state (joined (states_from next es)) (length es * length state) ∙ rest

-- one event more is one row more
pub one_row : (state : List ℤ) (es : List Event) (e : Event)
    → joined (states_from state (es ++ e ∷ [])) ≡ joined (states_from state es) ++ assigned (state_from state es) e.assigns
unfolding states_from state_from
one_row state [] e = rw (append-nil (assigned state e.assigns), append-nil state) refl
one_row state (f ∷ es) e = ap (λ (xs : List ℤ). state ++ xs) (one_row (assigned state f.assigns) es e)
    ∙ sym (append_assoc state (joined (states_from (assigned state f.assigns) es)) (assigned (state_from (assigned state f.assigns) es) e.assigns))

-- the rows of the first events
pub first_rows : (state : List ℤ) (es : List Event) (k : ℕ) → k ≤ length es
    → take ((k + 1) * length state) (joined (states_from state es)) ≡ joined (states_from state (take k es))
unfolding states_from
first_rows state [] k h =
    let none : k ≡ 0 = omega arith in
    let width : (k + 1) * length state ≡ length state + 0 = rw none (omega arith) in
    rw none (ap (λ (n : ℕ). take n (state ++ [])) (sym (ap (λ (j : ℕ). (j + 1) * length state) none) ∙ width) ∙ take-append-add state [] 0)
first_rows state (e ∷ es) zero h =
    let width : 1 * length state ≡ length state + 0 = omega arith in
    ap (λ (n : ℕ). take n (state ++ joined (states_from (assigned state e.assigns) es))) width ∙ take-append-add state _ 0
first_rows state (e ∷ es) (suc k) h =
    let next = assigned state e.assigns in
    let width : (suc k + 1) * length state ≡ length state + (k + 1) * length state = omega arith in
    let rest : take ((k + 1) * length state) (joined (states_from next es)) ≡ joined (states_from next (take k es)) =
    subst (λ (w : ℕ). take ((k + 1) * w) (joined (states_from next es)) ≡ joined (states_from next (take k es))) (length-assigned state e.assigns) (first_rows next es k (omega arith)) in
    ap (λ (n : ℕ). take n (state ++ joined (states_from next es))) width
    ∙ take-append-add state (joined (states_from next es)) ((k + 1) * length state) ∙ ap (λ (xs : List ℤ). state ++ xs) rest

-- a value by its row and its place in the row
pub value_in_row : (state : List ℤ) (es : List Event) (a v : ℕ) (d : ℤ) → a ≤ length es → v < length state
    → get_or (joined (states_from state es)) (a * length state + v) d ≡ get_or (get_or (states_from state es) a []) v d
unfolding states_from
value_in_row state [] zero v d h k =
    let place : 0 * length state + v ≡ v = omega arith in
    ap (λ (n : ℕ). get_or (state ++ []) n d) place ∙ get_or_append_left state [] d v k
value_in_row state [] (suc a) v d h k = absurd (omega arith)
value_in_row state (e ∷ es) zero v d h k =
    let place : 0 * length state + v ≡ v = omega arith in
    ap (λ (n : ℕ). get_or (state ++ joined (states_from (assigned state e.assigns) es)) n d) place ∙ get_or_append_left state _ d v k
value_in_row state (e ∷ es) (suc a) v d h k =
    let next = assigned state e.assigns in
    let same = length-assigned state e.assigns in
    let place : suc a * length state + v ≡ length state + (a * length state + v) = omega arith in
    let rest : get_or (joined (states_from next es)) (a * length state + v) d ≡ get_or (get_or (states_from next es) a []) v d =
    subst (λ (w : ℕ). get_or (joined (states_from next es)) (a * w + v) d ≡ get_or (get_or (states_from next es) a []) v d) same
    (value_in_row next es a v d (omega arith) (omega (arith, same))) in
    ap (λ (n : ℕ). get_or (state ++ joined (states_from next es)) n d) place
    ∙ get_or-append-add state (joined (states_from next es)) (a * length state + v) d ∙ rest

-- the state at a place is its row
pub row_at : (state : List ℤ) (es : List Event) (a : ℕ) → a ≤ length es
    → take (length state) (drop (a * length state) (joined (states_from state es))) ≡ get_or (states_from state es) a []
unfolding states_from
row_at state [] zero h =
    let place : 0 * length state ≡ 0 = omega arith in
    ap (λ (n : ℕ). take (length state) (drop n (state ++ []))) place ∙ take_at state [] (length state) refl
row_at state [] (suc a) h = absurd (omega arith)
row_at state (e ∷ es) zero h =
    let place : 0 * length state ≡ 0 = omega arith in
    ap (λ (n : ℕ). take (length state) (drop n (state ++ joined (states_from (assigned state e.assigns) es)))) place ∙ take_at state _ (length state) refl
row_at state (e ∷ es) (suc a) h =
    let next = assigned state e.assigns in
    let place : suc a * length state ≡ length state + a * length state = omega arith in
    let rest : take (length state) (drop (a * length state) (joined (states_from next es))) ≡ get_or (states_from next es) a [] =
    subst (λ (w : ℕ). take w (drop (a * w) (joined (states_from next es))) ≡ get_or (states_from next es) a []) (length-assigned state e.assigns) (row_at next es a (omega arith)) in
    ap (λ (n : ℕ). take (length state) (drop n (state ++ joined (states_from next es)))) place
    ∙ ap (take (length state)) (drop-append-add state (joined (states_from next es)) (a * length state)) ∙ rest

-- each state has a value for each variable
pub length-state : (state : List ℤ) (es : List Event) (a : ℕ) → a ≤ length es → length (get_or (states_from state es) a []) ≡ length state
unfolding states_from
length-state state [] zero h = refl
length-state state [] (suc a) h = absurd (omega arith)
length-state state (e ∷ es) zero h = refl
length-state state (e ∷ es) (suc a) h = length-state (assigned state e.assigns) es a (omega arith) ∙ length-assigned state e.assigns

-- ---- one row more, copied from the last one and then assigned to

-- the values after the old ones are the last row's, up to that at place i of the old ones
pub record CopiedSoFar (old : List ℤ) (width i : ℕ) (values : List ℤ) : Type 0 where
  pub wide : width ≤ length old
  pub from : length old - width ≤ i
  pub upto : i ≤ length old
  pub copied : values ≡ old ++ take (i - (length old - width)) (drop (length old - width) old)

pub copied_more : (old values : List ℤ) (width i : ℕ) (v : ℤ) → CopiedSoFar old width i values → i < length old → v ≡ get_or values i v
    → CopiedSoFar old width (i + 1) (values ++ v ∷ [])
copied_more old values width i v h lt is =
    let from = length old - width in
    let k = i - from in
    let more : i + 1 - from ≡ k + 1 = omega (arith, h.from) in
    let place : from + k ≡ i = omega (arith, h.from) in
    let read : v ≡ get_or (drop from old) k v =
    is ∙ ap (λ (xs : List ℤ). get_or xs i v) h.copied ∙ get_or_append_left old _ v i lt ∙ sym (get_or-drop from old k v ∙ ap (λ (n : ℕ). get_or old n v) place) in
    record {
      wide = h.wide;
      from = omega (arith, h.from);
      upto = omega arith;
      copied = ap (λ (xs : List ℤ). xs ++ v ∷ []) h.copied ∙ append_assoc old _ (v ∷ [])
          ∙ ap (λ (xs : List ℤ). old ++ xs) (ap (λ (x : ℤ). take k (drop from old) ++ x ∷ []) read
          ∙ sym (take_more (drop from old) k v (omega (arith, length-drop from old))) ∙ ap (λ (n : ℕ). take n (drop from old)) (sym more));
    }

pub copied_all : (old values : List ℤ) (width i : ℕ) → CopiedSoFar old width i values → length old ≤ i → values ≡ old ++ drop (length old - width) old
copied_all old values width i h all =
    let from = length old - width in
    h.copied ∙ ap (λ (xs : List ℤ). old ++ xs) (take_all (i - from) (drop from old) (omega (arith, length-drop from old, h.wide)))

pub assigned_more : (state : List ℤ) (as_ : List Assignment) (a : Assignment) → assigned state (as_ ++ a ∷ []) ≡ set (assigned state as_) a.variable a.value
unfolding assigned
assigned_more state [] a = refl
assigned_more state (b ∷ rest) a = assigned_more (set state b.variable b.value) rest a

pub set_behind : (old row : List ℤ) (v : ℕ) (x : ℤ) → set (old ++ row) (length old + v) x ≡ old ++ set row v x
set_behind [] row v x = ap (λ (n : ℕ). set row n x) (omega arith)
set_behind (y ∷ old) row v x =
    let place : suc (length old) + v ≡ suc (length old + v) = omega arith in
    rw place (ap (λ (xs : List ℤ). y ∷ xs) (set_behind old row v x))

-- ---- a whole history

pub history_len : (w : ℕ) (vs : List ℤ) (es : List logged.Event) → IsHistory w vs es → length vs ≡ (length es + 1) * w
history_len w vs es h =
    let opening = take w vs in
    ap length h.rows ∙ length-joined opening (map event_of es)
    ∙ ap (λ (n : ℕ). (n + 1) * length opening) (length-map es event_of) ∙ ap (λ (n : ℕ). (length es + 1) * n) h.wide

pub history_new : (w : ℕ) (vs : List ℤ) → length vs ≡ w → IsHistory w vs []
unfolding states_from
history_new w vs len =
    let all : take w vs ≡ vs = take_all w vs (omega arith) in
    record { wide = ap length all ∙ len; rows = sym (append-nil (take w vs) ∙ all) }

pub history_last : (w : ℕ) (vs : List ℤ) (es : List logged.Event) → IsHistory w vs es → drop (length vs - w) vs ≡ state_from (take w vs) (map event_of es)
history_last w vs es h =
    let opening = take w vs in
    let len = history_len w vs es h in
    let place : length vs - w ≡ length (map event_of es) * length opening =
    omega (arith, len) ∙ ap (λ (n : ℕ). length es * n) (sym h.wide) ∙ ap (λ (n : ℕ). n * length opening) (sym (length-map es event_of)) in
    ap (λ (n : ℕ). drop n vs) place ∙ ap (drop (length (map event_of es) * length opening)) h.rows ∙ last_row opening (map event_of es)

pub record Pushed (w : ℕ) (vs vs' : List ℤ) (es : List logged.Event) (e : logged.Event) : Type 0 where
  pub history : IsHistory w vs' (es ++ e ∷ [])
  pub opening : take w vs' ≡ take w vs

pub history_push : (w : ℕ) (vs vs' : List ℤ) (es : List logged.Event) (e : logged.Event) → IsHistory w vs es
    → vs' ≡ vs ++ assigned (drop (length vs - w) vs) (map assignment_of e.assigns) → Pushed w vs vs' es e
history_push w vs vs' es e h more =
    let opening = take w vs in
    let len = history_len w vs es h in
    let some : w ≤ length vs = omega (arith, len) in
    let front : take w vs' ≡ opening = ap (take w) more ∙ take-append-le w vs _ some in
    let row : assigned (drop (length vs - w) vs) (map assignment_of e.assigns) ≡ assigned (state_from opening (map event_of es)) (map assignment_of e.assigns) =
    ap (λ (s : List ℤ). assigned s (map assignment_of e.assigns)) (history_last w vs es h) in
    let whole : vs' ≡ joined (states_from opening (map event_of (es ++ e ∷ []))) =
    more ∙ ap (λ (r : List ℤ). vs ++ r) row ∙ ap (λ (v : List ℤ). v ++ assigned (state_from opening (map event_of es)) (map assignment_of e.assigns)) h.rows
    ∙ sym (one_row opening (map event_of es) (event_of e)) ∙ ap (λ (xs : List Event). joined (states_from opening xs)) (sym (map_push event_of es e)) in
    record {
      history = record { wide = ap length front ∙ h.wide; rows = whole ∙ ap (λ (o : List ℤ). joined (states_from o (map event_of (es ++ e ∷ [])))) (sym front) };
      opening = front;
    }

pub record ValueThere (w : ℕ) (vs : List ℤ) (es : List logged.Event) (a v : ℕ) : Type 0 where
  pub within : a * w + v < length vs
  pub value : get_or vs (a * w + v) (pos 0) ≡ get_or (get_or (states_from (take w vs) (map event_of es)) a []) v (pos 0)

pub history_value : (w : ℕ) (vs : List ℤ) (es : List logged.Event) (a v : ℕ) → IsHistory w vs es → a ≤ length es → v < w → ValueThere w vs es a v
history_value w vs es a v h le lt =
    let opening = take w vs in
    let len = history_len w vs es h in
    let more : (a + 1) * w ≤ (length es + 1) * w = mul-le-mul_right w (omega arith) in
    record {
      within = omega (arith, len, more);
      value = ap (λ (n : ℕ). get_or vs (a * n + v) (pos 0)) (sym h.wide) ∙ ap (λ (xs : List ℤ). get_or xs (a * length opening + v) (pos 0)) h.rows
          ∙ value_in_row opening (map event_of es) a v (pos 0) (omega (arith, length-map es event_of)) (omega (arith, h.wide));
    }

pub record StateThere (w : ℕ) (vs : List ℤ) (es : List logged.Event) (a : ℕ) : Type 0 where
  pub within : a * w + w ≤ length vs
  pub state : take w (drop (a * w) vs) ≡ get_or (states_from (take w vs) (map event_of es)) a []

pub history_state : (w : ℕ) (vs : List ℤ) (es : List logged.Event) (a : ℕ) → IsHistory w vs es → a ≤ length es → StateThere w vs es a
history_state w vs es a h le =
    let opening = take w vs in
    let len = history_len w vs es h in
    let more : (a + 1) * w ≤ (length es + 1) * w = mul-le-mul_right w (omega arith) in
    record {
      within = omega (arith, len, more);
      state = ap (λ (n : ℕ). take n (drop (a * n) vs)) (sym h.wide) ∙ ap (λ (xs : List ℤ). take (length opening) (drop (a * length opening) xs)) h.rows
          ∙ row_at opening (map event_of es) a (omega (arith, length-map es event_of));
    }

-- ---- as the code's values say it

pub opening_values : (bindings : List Binding) (vs : List ℤ) (i : ℕ) → vs ≡ map (λ (b : Binding). b.value) (take i bindings) → length bindings ≤ i
    → vs ≡ map (λ (b : Binding). b.value) bindings
opening_values bindings vs i h all = h ∙ ap (map (λ (b : Binding). b.value)) (take_all i bindings all)

-- one assignment more, behind the old values
pub assigned_behind : (old row values : List ℤ) (as_ : List Assign) (i : ℕ) (d : Assign) → values ≡ old ++ assigned row (map assignment_of (take i as_)) → i < length as_
    → set values (length old + (get_or as_ i d).variable) (get_or as_ i d).value ≡ old ++ assigned row (map assignment_of (take (i + 1) as_))
assigned_behind old row values as_ i d h lt =
    let a = get_or as_ i d in
    ap (λ (vs : List ℤ). set vs (length old + a.variable) a.value) h
    ∙ set_behind old (assigned row (map assignment_of (take i as_))) a.variable a.value
    ∙ ap (λ (r : List ℤ). old ++ r) (sym (ap (assigned row) (ap (map assignment_of) (take_more as_ i d lt) ∙ map_push assignment_of (take i as_) a)
    ∙ assigned_more row (map assignment_of (take i as_)) (assignment_of a)))

pub behind_len : (old row values : List ℤ) (as_ : List Assign) (i w : ℕ) (d : Assign) → values ≡ old ++ assigned row (map assignment_of (take i as_)) → length row ≡ w
    → AllByRecursion (λ (a : Assign). a.variable < w) as_ → i < length as_ → length old + (get_or as_ i d).variable < length values
behind_len old row values as_ i w d h wide all lt =
    let one = all_at as_ i d all lt in
    let len : length values ≡ length old + length row =
    ap length h ∙ length-append old _ ∙ ap (λ (n : ℕ). length old + n) (length-assigned row (map assignment_of (take i as_))) in
    omega (arith, one, len, wide)
  where
    all_at : (xs : List Assign) (j : ℕ) (e : Assign) → AllByRecursion (λ (a : Assign). a.variable < w) xs → j < length xs → (get_or xs j e).variable < w
    all_at [] j e h k = absurd (omega arith)
    all_at (x ∷ xs) zero e h k = h.0
    all_at (x ∷ xs) (suc j) e h k = all_at xs j e h.1 (omega arith)

pub when_ok : {A E : Type 0} (r : Result A E) (P : Type 0) → OnOk r P → is_err r ≡ false → P
when_ok (Ok x) P h no_error = h
when_ok (Err e) P h no_error = cc

pub when_err : {A E : Type 0} (r : Result A E) (P : Type 0) → OnErr r P → is_err r ≡ true → P
when_err (Ok x) P h error = cc
when_err (Err e) P h error = h

pub items_when_ok : {A E X : Type 0} (r : Result A E) (new old : List X) (e : X) → new ≡ (if is_ok r then old ++ e ∷ [] else old) → is_err r ≡ false → new ≡ old ++ e ∷ []
items_when_ok (Ok x) new old e h no_error = h
items_when_ok (Err x) new old e h no_error = cc

pub same_default : (xs : List ℤ) (n : ℕ) (d e : ℤ) → n < length xs → get_or xs n d ≡ get_or xs n e
same_default [] n d e h = absurd (omega arith)
same_default (x ∷ xs) zero d e h = refl
same_default (x ∷ xs) (suc n) d e h = same_default xs n d e (omega arith)
