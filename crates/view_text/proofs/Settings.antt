-- Looking for the last setting of a variable, one event back, and for the next one, one event on.
use Rattle.std.proofs.Common.{◌≡◌, ℕ, zero, suc, ◌+◌, ◌-◌, ◌<◌, ◌≤◌, true, false, List, ◌∷◌, length, drop, get_or, refl, sym, ap, subst, ◌∙◌, arith}
use Rattle.std.specs.Prelude.{Some, None}
use Rattle.event_log.specs.declared.log.Event.{Event}
use Rattle.view_parts.specs.Parts.{no_event}
use Rattle.std.proofs.lemmas.List.{drop_more, drop_all}
use Rattle.view_text.specs.Latest.{sets, last_setting, first_setting}

set_at : (events : List Event) (variable n : ℕ) → sets variable (get_or events n no_event) ≡ true → last_setting events variable (suc n) ≡ Some (suc n)
unfolding last_setting
set_at events variable n h = rw h refl

set_before : (events : List Event) (variable n : ℕ) → sets variable (get_or events n no_event) ≡ false → last_setting events variable (suc n) ≡ last_setting events variable n
unfolding last_setting
set_before events variable n h = rw h refl

pub last_here : (events : List Event) (variable position : ℕ) → 0 < position → sets variable (get_or events (position - 1) no_event) ≡ true → last_setting events variable position ≡ Some position
last_here events variable zero some h = absurd (omega arith)
last_here events variable (suc n) some h = set_at events variable n (subst (λ (k : ℕ). sets variable (get_or events k no_event) ≡ true) (omega arith) h)

pub last_earlier : (events : List Event) (variable position : ℕ) → 0 < position → sets variable (get_or events (position - 1) no_event) ≡ false → last_setting events variable position ≡ last_setting events variable (position - 1)
last_earlier events variable zero some h = absurd (omega arith)
last_earlier events variable (suc n) some h =
    let e : suc n - 1 ≡ n = omega arith in
    set_before events variable n (subst (λ (k : ℕ). sets variable (get_or events k no_event) ≡ false) e h) ∙ ap (last_setting events variable) (sym e)

pub never_set : (events : List Event) (variable position : ℕ) → position ≡ 0 → last_setting events variable position ≡ None
unfolding last_setting
never_set events variable position e = ap (last_setting events variable) e

first_now : (variable position : ℕ) (e : Event) (es : List Event) → sets variable e ≡ true → first_setting variable position (e ∷ es) ≡ Some position
unfolding first_setting
first_now variable position e es h = rw h refl

first_on : (variable position : ℕ) (e : Event) (es : List Event) → sets variable e ≡ false → first_setting variable position (e ∷ es) ≡ first_setting variable (position + 1) es
unfolding first_setting
first_on variable position e es h = rw h refl

pub next_here : (events : List Event) (variable i : ℕ) → i < length events → sets variable (get_or events i no_event) ≡ true → first_setting variable (i + 1) (drop i events) ≡ Some (i + 1)
next_here events variable i lt h =
    ap (first_setting variable (i + 1)) (drop_more events i no_event lt) ∙ first_now variable (i + 1) (get_or events i no_event) (drop (i + 1) events) h

pub next_later : (events : List Event) (variable i : ℕ) → i < length events → sets variable (get_or events i no_event) ≡ false → first_setting variable (i + 1) (drop i events) ≡ first_setting variable ((i + 1) + 1) (drop (i + 1) events)
next_later events variable i lt h =
    ap (first_setting variable (i + 1)) (drop_more events i no_event lt) ∙ first_on variable (i + 1) (get_or events i no_event) (drop (i + 1) events) h

pub next_never : (events : List Event) (variable i : ℕ) → length events ≤ i → first_setting variable (i + 1) (drop i events) ≡ None
unfolding first_setting
next_never events variable i past = ap (first_setting variable (i + 1)) (drop_all i events past)

pub one_less : (n : ℕ) → (n + 1) - 1 ≡ n
one_less n = omega arith
