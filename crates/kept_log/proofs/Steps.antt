-- Steps of the loops.
use Rattle.std.proofs.Common.{◌≡◌, ℕ, zero, suc, ◌+◌, ◌<◌, ◌≤◌, Bool, true, false, List, [], ◌∷◌, ◌++◌, length, map, get_or, take, refl, sym, ap, ◌∙◌, arith, inl, inr, append-nil, append_assoc}
use Rattle.std.specs.List.{filter}
use Rattle.std.proofs.lemmas.Bool.{cases_Bool, cond-true, cond-false}
use Rattle.kept_runs.specs.Chosen.{chosen}
use Rattle.kept_runs.proofs.Chosen.{chosen_more}
use Rattle.std.proofs.lemmas.List.{take_more, map-append}
use Rattle.event_log.specs.declared.log.Assign.{Assign}
use Rattle.event_log.specs.declared.log.Binding.{Binding}
use Rattle.event_log.specs.declared.log.Event.{Event}
use Rattle.clock_laws.specs.Joined.{as_one}
use Rattle.kept_log.specs.declared.numbers.Numbers.{Numbers}
use Rattle.kept_log.specs.inside.Numbered.{is_kept, is_kept_variable, chosen_one, assign_by, assigns_by, vars_by}
use Rattle.kept_log.specs.inside.Counted.{count_at, clock_by, event_by, events_by}
use Rattle.kept_log.proofs.Folded.{filter_append}

clock_push : (counts : List (List ℕ)) (j : ℕ) (xs : List ℕ) (x : ℕ) → clock_by counts j (xs ++ x ∷ []) ≡ clock_by counts j xs ++ count_at counts (j + length xs) x ∷ []
clock_push counts j [] x = ap (λ (k : ℕ). count_at counts k x ∷ []) (omega arith)
clock_push counts j (y ∷ xs) x =
    ap (λ (r : List ℕ). count_at counts j y ∷ r) (clock_push counts (j + 1) xs x)
    ∙ ap (λ (k : ℕ). count_at counts j y ∷ (clock_by counts (j + 1) xs ++ count_at counts k x ∷ [])) (omega arith)

pub length_taken : (i : ℕ) (es : List Event) → length (take i es) ≤ i
length_taken zero es = omega arith
length_taken (suc i) [] = omega arith
length_taken (suc i) (e ∷ es) = omega (arith, length_taken i es)

length_front : {A : Type 0} (xs : List A) (j : ℕ) → j < length xs → length (take j xs) ≡ j
length_front xs zero lt = refl
length_front [] (suc j) lt = absurd (omega (arith, lt))
length_front (x ∷ xs) (suc j) lt = ap suc (length_front xs j (omega (arith, lt)))

pub clock_next : (counts : List (List ℕ)) (clock : List ℕ) (j x : ℕ) → j < length clock → x ≡ get_or clock j x → clock_by counts 0 (take (j + 1) clock) ≡ clock_by counts 0 (take j clock) ++ count_at counts j x ∷ []
clock_next counts clock j x lt is =
    ap (clock_by counts 0) (take_more clock j x lt ∙ ap (λ (y : ℕ). take j clock ++ y ∷ []) (sym is))
    ∙ clock_push counts 0 (take j clock) x
    ∙ ap (λ (k : ℕ). clock_by counts 0 (take j clock) ++ count_at counts k x ∷ []) (omega (arith, length_front clock j lt))

pub events_append : (numbers : Numbers) (counts : List (List ℕ)) (xs ys : List Event) → events_by numbers counts (xs ++ ys) ≡ events_by numbers counts xs ++ events_by numbers counts ys
events_append numbers counts xs ys = ap (map (event_by numbers counts)) (filter_append (is_kept numbers) xs ys) ∙ map-append (event_by numbers counts) _ _

as_one_append : (xs : List (List Event)) (b : List Event) → as_one (xs ++ b ∷ []) ≡ as_one xs ++ b
as_one_append [] b = append-nil b
as_one_append (x ∷ xs) b = ap (λ (es : List Event). x ++ es) (as_one_append xs b) ∙ sym (append_assoc x (as_one xs) b)

pub batches_more : (batches : List (List Event)) (i : ℕ) (b : List Event) → i < length batches → b ≡ get_or batches i b → as_one (take (i + 1) batches) ≡ as_one (take i batches) ++ b
batches_more batches i b lt is =
    ap as_one (take_more batches i b lt ∙ ap (λ (y : List Event). take i batches ++ y ∷ []) (sym is))
    ∙ as_one_append (take i batches) b

pub batch_more : (numbers : Numbers) (counts : List (List ℕ)) (batches : List (List Event)) (i : ℕ) (b : List Event) → i < length batches → b ≡ get_or batches i b → events_by numbers counts (as_one (take (i + 1) batches)) ≡ events_by numbers counts (as_one (take i batches)) ++ events_by numbers counts b
batch_more numbers counts batches i b lt is =
    ap (events_by numbers counts) (batches_more batches i b lt is) ∙ events_append numbers counts (as_one (take i batches)) b

pub map_more : {A B : Type 0} (f : A → B) (xs : List A) (i : ℕ) (x : A) → i < length xs → x ≡ get_or xs i x → map f (take (i + 1) xs) ≡ map f (take i xs) ++ f x ∷ []
map_more {A} f xs i x lt is =
    ap (map f) (take_more xs i x lt ∙ ap (λ (y : A). take i xs ++ y ∷ []) (sym is))
    ∙ map-append f (take i xs) (x ∷ [])

-- ---- variables

pub chosen_empty : (t : ℕ → Bool) → chosen {A = Binding} t [] ≡ []
unfolding chosen
chosen_empty t = refl

pub is_chosen : (kept : List Binding) (b : Binding) (on : Bool) → on ≡ true → kept ++ b ∷ [] ≡ kept ++ chosen_one on b
is_chosen kept b on is = ap (λ (o : Bool). kept ++ chosen_one o b) (sym is)

pub is_not_chosen : (kept : List Binding) (b : Binding) (on : Bool) → on ≡ false → kept ≡ kept ++ chosen_one on b
is_not_chosen kept b on is = sym (ap (λ (o : Bool). kept ++ chosen_one o b) is ∙ append-nil kept)

pub chosen_step : (t : ℕ → Bool) (xs : List Binding) (j : ℕ) (x : Binding) → j < length xs → x ≡ get_or xs j x → chosen t (take (j + 1) xs) ≡ chosen t (take j xs) ++ chosen_one (t j) x
chosen_step t xs j x lt is =
    ap (chosen t) (take_more xs j x lt ∙ ap (λ (y : Binding). take j xs ++ y ∷ []) (sym is))
    ∙ chosen_more t (take j xs) x
    ∙ ap (λ (n : ℕ). chosen t (take j xs) ++ chosen_one (t n) x) (length_front xs j lt)

pub vars_empty : (numbers : Numbers) → vars_by numbers 0 [] ≡ []
unfolding vars_by
vars_empty numbers = refl

vars_push : (numbers : Numbers) (j : ℕ) (vars : List (List Binding)) (bs : List Binding) → vars_by numbers j (vars ++ bs ∷ []) ≡ vars_by numbers j vars ++ chosen (is_kept_variable numbers (j + length vars)) bs ∷ []
unfolding vars_by
vars_push numbers j [] bs = ap (λ (p : ℕ). chosen (is_kept_variable numbers p) bs ∷ []) (omega arith)
vars_push numbers j (v ∷ vars) bs =
    ap (λ (r : List (List Binding)). chosen (is_kept_variable numbers j) v ∷ r) (vars_push numbers (suc j) vars bs)
    ∙ ap (λ (p : ℕ). chosen (is_kept_variable numbers j) v ∷ (vars_by numbers (suc j) vars ++ chosen (is_kept_variable numbers p) bs ∷ [])) (omega arith)

pub vars_next : (numbers : Numbers) (vars : List (List Binding)) (j : ℕ) (bs : List Binding) → j < length vars → bs ≡ get_or vars j bs → vars_by numbers 0 (take (j + 1) vars) ≡ vars_by numbers 0 (take j vars) ++ chosen (is_kept_variable numbers j) bs ∷ []
vars_next numbers vars j bs lt is =
    ap (vars_by numbers 0) (take_more vars j bs lt ∙ ap (λ (y : List Binding). take j vars ++ y ∷ []) (sym is))
    ∙ vars_push numbers 0 (take j vars) bs
    ∙ ap (λ (p : ℕ). vars_by numbers 0 (take j vars) ++ chosen (is_kept_variable numbers p) bs ∷ []) (omega (arith, length_front vars j lt))

assigns_push : (numbers : Numbers) (p : ℕ) (xs : List Assign) (a : Assign) → assigns_by numbers p (xs ++ a ∷ []) ≡ assigns_by numbers p xs ++ assigns_by numbers p (a ∷ [])
assigns_push numbers p [] a = refl
assigns_push numbers p (x ∷ xs) a =
    let t = is_kept_variable numbers p in
    let test : Assign → Bool = λ (b : Assign). t b.variable in
    elim (cases_Bool (t x.variable)) [
      | inl on ↦
          ap (map (assign_by numbers p)) (cond-true (test x) (x ∷ filter test (xs ++ a ∷ [])) (filter test (xs ++ a ∷ [])) on)
          ∙ ap (λ (r : List Assign). assign_by numbers p x ∷ r) (assigns_push numbers p xs a)
          ∙ ap (λ (r : List Assign). map (assign_by numbers p) r ++ assigns_by numbers p (a ∷ [])) (sym (cond-true (test x) (x ∷ filter test xs) (filter test xs) on))
      | inr off ↦
          ap (map (assign_by numbers p)) (cond-false (test x) (x ∷ filter test (xs ++ a ∷ [])) (filter test (xs ++ a ∷ [])) off)
          ∙ assigns_push numbers p xs a
          ∙ ap (λ (r : List Assign). map (assign_by numbers p) r ++ assigns_by numbers p (a ∷ [])) (sym (cond-false (test x) (x ∷ filter test xs) (filter test xs) off))
    ]

taken : (numbers : Numbers) (p : ℕ) (xs : List Assign) (i : ℕ) (a : Assign) → i < length xs → a ≡ get_or xs i a → assigns_by numbers p (take (i + 1) xs) ≡ assigns_by numbers p (take i xs) ++ assigns_by numbers p (a ∷ [])
taken numbers p xs i a lt is =
    ap (assigns_by numbers p) (take_more xs i a lt ∙ ap (λ (y : Assign). take i xs ++ y ∷ []) (sym is)) ∙ assigns_push numbers p (take i xs) a

pub assign_more : (numbers : Numbers) (p : ℕ) (xs : List Assign) (i : ℕ) (a : Assign) → i < length xs → a ≡ get_or xs i a → is_kept_variable numbers p a.variable ≡ true → assigns_by numbers p (take (i + 1) xs) ≡ assigns_by numbers p (take i xs) ++ assign_by numbers p a ∷ []
assign_more numbers p xs i a lt is on =
    taken numbers p xs i a lt is
    ∙ ap (λ (r : List Assign). assigns_by numbers p (take i xs) ++ map (assign_by numbers p) r) (cond-true (is_kept_variable numbers p a.variable) (a ∷ []) [] on)

pub assign_same : (numbers : Numbers) (p : ℕ) (xs : List Assign) (i : ℕ) (a : Assign) → i < length xs → a ≡ get_or xs i a → is_kept_variable numbers p a.variable ≡ false → assigns_by numbers p (take (i + 1) xs) ≡ assigns_by numbers p (take i xs)
assign_same numbers p xs i a lt is off =
    taken numbers p xs i a lt is
    ∙ ap (λ (r : List Assign). assigns_by numbers p (take i xs) ++ map (assign_by numbers p) r) (cond-false (is_kept_variable numbers p a.variable) (a ∷ []) [] off)
    ∙ append-nil (assigns_by numbers p (take i xs))
