-- A line that is read is spelled so, and what is spelled so is read.
use Rattle.std.proofs.Common.{◌≡◌, ℕ, ◌-◌, ◌^◌, ◌<◌, ◌≤◌, ◌++◌, List, [], ◌∷◌, length, Option, Some, None, Result, Ok, Err, true, false, refl, sym, ap, subst, ◌∙◌, arith, append_assoc}
use Rattle.std.specs.Prelude.{nat_lt, ◌&&◌, IfOk}
use Rattle.std.proofs.lemmas.Bool.{and_parts, and_from, ltb-true, lt-ltb}
use Rattle.std.proofs.lemmas.Option.{same_Some, cond_some}
use Rattle.std.specs.Fmt.{decimal}
use Rattle.log_lines.specs.declared.draft.LineError.{LineError}
use Rattle.log_lines.specs.Names.{Name, is_name, are_distinct}
use Rattle.log_lines.specs.Spelling.{NamedValue, Action, Internal, Send, Receive, ActionFits, EventLine, EventLineFits, event_line, VarsLine, VarsLineFits, vars_line, ProcsFit, procs_line, names_of, values_text, ValuesFit, event_clock_text, action_text}
use Rattle.log_lines.specs.Reading.{◌>>=◌, choose, number_at, text_at, spaced_name_at, names_from, values_from, values_at, event_clock_at, message_at, send_at, receive_at, action_at, event_in, vars_in, procs_in}
use Rattle.log_lines.specs.Drafts.{Gives}
use Rattle.pota_base.proofs.NumberLaws.{number_takes, number_again, starts_digit}
use Rattle.pota_base.specs.Limits.{most_processes, most_variables}
use Rattle.log_lines.proofs.WordLaws.{bind_some, text_takes, spaced_name_takes, spaced_name_again, starts_name}
use Rattle.log_lines.proofs.ItemLaws.{names_take, names_again, values_take, values_from_again, event_clock_takes, event_clock_again}

-- ---- values of distinct variables

pub record ValuesRead (bytes : List ℕ) (vs : List NamedValue) : Type 0 where
  pub text : bytes ≡ values_text vs
  pub fits : ValuesFit vs

pub values_at_takes : (bytes : List ℕ) (vs : List NamedValue) → values_at bytes ≡ Some vs → ValuesRead bytes vs
unfolding values_at
values_at_takes bytes vs h =
    let b = bind_some (values_from most_variables [] bytes) _ vs h in
    let t = values_take most_variables bytes b.0 b.1 in
    let g = cond_some (are_distinct (names_of b.0)) b.0 vs b.2 in
    subst (ValuesRead bytes) g.1 (record { text = t.text; fits = record { few = t.few; each = t.fits; distinct = g.0 } })

pub values_at_again : (vs : List NamedValue) → ValuesFit vs → values_at (values_text vs) ≡ Some vs
unfolding values_at
values_at_again vs fits = rw (values_from_again most_variables vs fits.few fits.each, fits.distinct) refl

-- ---- actions

pub record MessageTaken (xs peer : List ℕ) (id : ℕ) (rest : List ℕ) : Type 0 where
  pub text : xs ≡ 32 ∷ ((peer ++ 32 ∷ decimal id) ++ rest)
  pub peer_fits : is_name peer ≡ true
  pub id_fits : id < 2 ^ 64

message_takes : (xs peer : List ℕ) (id : ℕ) (rest : List ℕ) → message_at xs ≡ Some (peer, id, rest) → MessageTaken xs peer id rest
unfolding message_at
message_takes xs peer id rest h =
    let a = bind_some (spaced_name_at xs) _ (peer, id, rest) h in
    let b = bind_some (text_at (32 ∷ []) a.0.1) _ (peer, id, rest) a.2 in
    let c = bind_some (number_at (2 ^ 64 - 1) b.0) _ (peer, id, rest) b.2 in
    let name = spaced_name_takes xs a.0.0 a.0.1 a.1 in
    let space = text_takes (32 ∷ []) a.0.1 b.0 b.1 in
    let n = number_takes (2 ^ 64 - 1) b.0 c.0.0 c.0.1 (omega arith) c.1 in
    let fits : c.0.0 < 2 ^ 64 = omega (arith, n.bound) in
    let text : xs ≡ 32 ∷ ((a.0.0 ++ 32 ∷ decimal c.0.0) ++ c.0.1) =
    name.text ∙ ap (λ (t : List ℕ). 32 ∷ (a.0.0 ++ t)) (space ∙ ap (λ (t : List ℕ). 32 ∷ t) n.text) ∙ ap (λ (t : List ℕ). 32 ∷ t) (sym (append_assoc a.0.0 (32 ∷ decimal c.0.0) c.0.1)) in
    subst (λ (p : List ℕ × ℕ × List ℕ). MessageTaken xs p.0 p.1 p.2) (same_Some _ _ c.2) (record { text = text; peer_fits = name.fits; id_fits = fits })

message_again : (peer : List ℕ) (id : ℕ) (rest : List ℕ) → is_name peer ≡ true → id < 2 ^ 64 → starts_digit rest ≡ false → message_at (32 ∷ ((peer ++ 32 ∷ decimal id) ++ rest)) ≡ Some (peer, id, rest)
unfolding message_at text_at
message_again peer id rest fits small stops =
    let most : id ≤ 2 ^ 64 - 1 = omega arith in
    rw (append_assoc peer (32 ∷ decimal id) rest, spaced_name_again peer (32 ∷ (decimal id ++ rest)) fits refl, number_again (2 ^ 64 - 1) id rest (omega arith) most stops) refl

pub record ActionTaken (xs : List ℕ) (a : Action) (rest : List ℕ) : Type 0 where
  pub text : xs ≡ action_text a ++ rest
  pub fits : ActionFits a

internal_takes : (xs after : List ℕ) (a : Action) (rest : List ℕ) → text_at (105 ∷ 110 ∷ 116 ∷ []) xs ≡ Some after → ◌≡◌ {A = Option (Action × List ℕ)} (Some (Internal, after)) (Some (a, rest)) → ActionTaken xs a rest
internal_takes xs after a rest word h =
    subst (λ (p : Action × List ℕ). ActionTaken xs p.0 p.1) (same_Some _ _ h) (record { text = text_takes (105 ∷ 110 ∷ 116 ∷ []) xs after word; fits = tt })

send_takes : (xs after : List ℕ) (a : Action) (rest : List ℕ) → text_at (115 ∷ 101 ∷ 110 ∷ 100 ∷ []) xs ≡ Some after → send_at after ≡ Some (a, rest) → ActionTaken xs a rest
send_takes xs after a rest word h =
    let m = bind_some (message_at after) _ (a, rest) h in
    let t = message_takes after m.0.0 m.0.1 m.0.2 m.1 in
    let text : xs ≡ action_text (Send m.0.0 m.0.1) ++ m.0.2 = text_takes (115 ∷ 101 ∷ 110 ∷ 100 ∷ []) xs after word ∙ ap (λ (u : List ℕ). 115 ∷ 101 ∷ 110 ∷ 100 ∷ u) t.text in
    subst (λ (p : Action × List ℕ). ActionTaken xs p.0 p.1) (same_Some _ _ m.2) (record { text = text; fits = (t.peer_fits, t.id_fits) })

receive_takes : (xs : List ℕ) (a : Action) (rest : List ℕ) → (text_at (114 ∷ 101 ∷ 99 ∷ 118 ∷ []) xs >>= receive_at) ≡ Some (a, rest) → ActionTaken xs a rest
receive_takes xs a rest h =
    let w = bind_some (text_at (114 ∷ 101 ∷ 99 ∷ 118 ∷ []) xs) _ (a, rest) h in
    let m = bind_some (message_at w.0) _ (a, rest) w.2 in
    let t = message_takes w.0 m.0.0 m.0.1 m.0.2 m.1 in
    let text : xs ≡ action_text (Receive m.0.0 m.0.1) ++ m.0.2 = text_takes (114 ∷ 101 ∷ 99 ∷ 118 ∷ []) xs w.0 w.1 ∙ ap (λ (u : List ℕ). 114 ∷ 101 ∷ 99 ∷ 118 ∷ u) t.text in
    subst (λ (p : Action × List ℕ). ActionTaken xs p.0 p.1) (same_Some _ _ m.2) (record { text = text; fits = (t.peer_fits, t.id_fits) })

action_takes : (xs : List ℕ) (a : Action) (rest : List ℕ) → action_at xs ≡ Some (a, rest) → ActionTaken xs a rest
unfolding action_at
action_takes xs a rest h = int (text_at (105 ∷ 110 ∷ 116 ∷ []) xs) refl h
  where
    sent : (o : Option (List ℕ)) → text_at (115 ∷ 101 ∷ 110 ∷ 100 ∷ []) xs ≡ o
        → choose o send_at (text_at (114 ∷ 101 ∷ 99 ∷ 118 ∷ []) xs >>= receive_at) ≡ Some (a, rest) → ActionTaken xs a rest
    sent (Some after) word g = send_takes xs after a rest word g
    sent None word g = receive_takes xs a rest g

    int : (o : Option (List ℕ)) → text_at (105 ∷ 110 ∷ 116 ∷ []) xs ≡ o
        → choose o (λ after. Some (Internal, after)) (choose (text_at (115 ∷ 101 ∷ 110 ∷ 100 ∷ []) xs) send_at (text_at (114 ∷ 101 ∷ 99 ∷ 118 ∷ []) xs >>= receive_at)) ≡ Some (a, rest) → ActionTaken xs a rest
    int (Some after) word g = internal_takes xs after a rest word g
    int None word g = sent (text_at (115 ∷ 101 ∷ 110 ∷ 100 ∷ []) xs) refl g

action_again : (a : Action) (rest : List ℕ) → ActionFits a → starts_digit rest ≡ false → action_at (action_text a ++ rest) ≡ Some (a, rest)
unfolding action_at text_at
action_again Internal rest fits stops = refl
action_again (Send to id) rest fits stops = rw (message_again to id rest fits.0 fits.1 stops) refl
action_again (Receive sender id) rest fits stops = rw (message_again sender id rest fits.0 fits.1 stops) refl

-- ---- event lines

pub record EventRead (line : List ℕ) (e : EventLine) : Type 0 where
  pub text : line ≡ event_line e
  pub fits : EventLineFits e

-- the parts of an event line put together
event_text : (line r1 actor r2 r3 clock r4 r5 : List ℕ) (action : Action) (r6 : List ℕ) (assigns : List NamedValue)
    → line ≡ 101 ∷ 118 ∷ r1 → r1 ≡ 32 ∷ (actor ++ r2) → r2 ≡ 32 ∷ r3 → r3 ≡ event_clock_text clock ++ r4 → r4 ≡ 32 ∷ r5 → r5 ≡ action_text action ++ r6 → r6 ≡ values_text assigns
    → line ≡ event_line (record { actor = actor; clock = clock; action = action; assigns = assigns })
event_text line r1 actor r2 r3 clock r4 r5 action r6 assigns e1 e2 e3 e4 e5 e6 e7 =
    e1 ∙ ap (λ (t : List ℕ). 101 ∷ 118 ∷ t) (e2 ∙ ap (λ (t : List ℕ). 32 ∷ (actor ++ t)) (e3 ∙ ap (λ (t : List ℕ). 32 ∷ t) (e4 ∙ ap (λ (t : List ℕ). event_clock_text clock ++ t) (e5 ∙ ap (λ (t : List ℕ). 32 ∷ t) (e6 ∙ ap (λ (t : List ℕ). action_text action ++ t) e7)))))

pub event_takes : (line : List ℕ) (e : EventLine) → event_in line ≡ Some e → EventRead line e
unfolding event_in
event_takes line e h =
    let a = bind_some (text_at (101 ∷ 118 ∷ []) line) _ e h in
    let b = bind_some (spaced_name_at a.0) _ e a.2 in
    let c = bind_some (text_at (32 ∷ []) b.0.1) _ e b.2 in
    let d = bind_some (event_clock_at c.0) _ e c.2 in
    let f = bind_some (text_at (32 ∷ []) d.0.1) _ e d.2 in
    let g = bind_some (action_at f.0) _ e f.2 in
    let k = bind_some (values_at g.0.1) _ e g.2 in
    let actor = spaced_name_takes a.0 b.0.0 b.0.1 b.1 in
    let clock = event_clock_takes c.0 d.0.0 d.0.1 d.1 in
    let action = action_takes f.0 g.0.0 g.0.1 g.1 in
    let assigns = values_at_takes g.0.1 k.0 k.1 in
    let text = event_text line a.0 b.0.0 b.0.1 c.0 d.0.0 d.0.1 f.0 g.0.0 g.0.1 k.0 (text_takes (101 ∷ 118 ∷ []) line a.0 a.1) actor.text (text_takes (32 ∷ []) b.0.1 c.0 c.1) clock.text (text_takes (32 ∷ []) d.0.1 f.0 f.1) action.text assigns.text in
    subst (EventRead line) (same_Some _ _ k.2) (record { text = text; fits = record { actor = actor.fits; clock = clock.fits; action = action.fits; assigns = assigns.fits } })

values_stop : (vs : List NamedValue) → starts_digit (values_text vs) ≡ false
values_stop [] = refl
values_stop (v ∷ vs) = refl

pub event_again : (e : EventLine) → EventLineFits e → event_in (event_line e) ≡ Some e
unfolding event_in text_at
event_again e fits =
    rw (
      spaced_name_again e.actor (32 ∷ (event_clock_text e.clock ++ 32 ∷ (action_text e.action ++ values_text e.assigns))) fits.actor refl,
      event_clock_again e.clock (32 ∷ (action_text e.action ++ values_text e.assigns)) fits.clock refl refl,
      action_again e.action (values_text e.assigns) fits.action (values_stop e.assigns),
      values_at_again e.assigns fits.assigns,
    ) refl

-- ---- vars lines

pub record VarsRead (line : List ℕ) (v : VarsLine) : Type 0 where
  pub text : line ≡ vars_line v
  pub fits : VarsLineFits v

values_stop_name : (vs : List NamedValue) → starts_name (values_text vs) ≡ false
values_stop_name [] = refl
values_stop_name (v ∷ vs) = refl

pub vars_take : (line : List ℕ) (v : VarsLine) → vars_in line ≡ Some v → VarsRead line v
unfolding vars_in
vars_take line v h =
    let a = bind_some (text_at (118 ∷ 97 ∷ 114 ∷ 115 ∷ []) line) _ v h in
    let b = bind_some (spaced_name_at a.0) _ v a.2 in
    let c = bind_some (values_at b.0.1) _ v b.2 in
    let g = cond_some (nat_lt 0 (length c.0)) _ v c.2 in
    let process = spaced_name_takes a.0 b.0.0 b.0.1 b.1 in
    let variables = values_at_takes b.0.1 c.0 c.1 in
    let text : line ≡ vars_line (record { process = b.0.0; variables = c.0 }) = text_takes (118 ∷ 97 ∷ 114 ∷ 115 ∷ []) line a.0 a.1 ∙ ap (λ (t : List ℕ). 118 ∷ 97 ∷ 114 ∷ 115 ∷ t) (process.text ∙ ap (λ (t : List ℕ). 32 ∷ (b.0.0 ++ t)) variables.text) in
    subst (VarsRead line) g.1 (record { text = text; fits = record { process = process.fits; some = ltb-true _ _ g.0; variables = variables.fits } })

pub vars_again : (v : VarsLine) → VarsLineFits v → vars_in (vars_line v) ≡ Some v
unfolding vars_in text_at
vars_again v fits =
    rw (spaced_name_again v.process (values_text v.variables) fits.process (values_stop_name v.variables), values_at_again v.variables fits.variables, lt-ltb 0 (length v.variables) fits.some) refl

-- ---- the procs line

pub record ProcsRead (line : List ℕ) (names : List Name) : Type 0 where
  pub text : line ≡ procs_line names
  pub fits : ProcsFit names

pub procs_take : (line : List ℕ) (names : List Name) → procs_in line ≡ Some names → ProcsRead line names
unfolding procs_in
procs_take line names h =
    let a = bind_some (text_at (112 ∷ 114 ∷ 111 ∷ 99 ∷ 115 ∷ []) line) _ names h in
    let b = bind_some (names_from most_processes [] a.0) _ names a.2 in
    let g = cond_some (nat_lt 0 (length b.0) && are_distinct b.0) b.0 names b.2 in
    let t = names_take most_processes a.0 b.0 b.1 in
    let parts = and_parts (nat_lt 0 (length b.0)) (are_distinct b.0) g.0 in
    let text : line ≡ procs_line b.0 = text_takes (112 ∷ 114 ∷ 111 ∷ 99 ∷ 115 ∷ []) line a.0 a.1 ∙ ap (λ (u : List ℕ). 112 ∷ 114 ∷ 111 ∷ 99 ∷ 115 ∷ u) t.text in
    subst (ProcsRead line) g.1 (record { text = text; fits = record { some = ltb-true _ _ parts.0; few = t.few; each = t.fits; distinct = parts.1 } })

pub procs_again : (names : List Name) → ProcsFit names → procs_in (procs_line names) ≡ Some names
unfolding procs_in text_at
procs_again names fits =
    rw (names_again most_processes names fits.few fits.each, and_from (nat_lt 0 (length names)) (are_distinct names) (lt-ltb 0 (length names) fits.some) fits.distinct) refl

-- ---- as clauses say it

pub is_found : {X Y : Type 0} (view : X → Y) (spell : Y → List ℕ) (Fits : Y → Type 0) (read : List ℕ → Option Y) (takes : (l : List ℕ) (y : Y) → read l ≡ Some y → (l ≡ spell y) × Fits y)
    → (line : List ℕ) (r : Result X LineError) → Gives view r (read line) → IfOk r (λ x. Fits (view x) × (line ≡ spell (view x)))
is_found view spell Fits read takes line (Ok x) h = let t = takes line (view x) h in (t.1, t.0)
is_found view spell Fits read takes line (Err e) h = tt
