-- The spelling of a list with one more behind it.
use Rattle.std.proofs.Common.{◌≡◌, ℕ, ◌+◌, ◌<◌, List, [], ◌∷◌, ◌++◌, length, take, refl, sym, ap, ◌∙◌, append_assoc, arith}
use Rattle.std.specs.Prelude.{slice_index_or}
use Rattle.std.proofs.lemmas.List.{append-nil, take_more, map-append, get_or_default}
use Rattle.std.specs.Fmt.{decimal, signed_decimal}
use Rattle.log_lines.specs.Names.{Name}
use Rattle.log_lines.specs.Spelling.{NamedValue, names_text, values_text, clock_rest, event_line}
use Rattle.event_log.specs.declared.log.Binding.{Binding}
use Rattle.event_log.specs.declared.log.Assign.{Assign}
use Rattle.event_log.specs.declared.log.Header.{Header}
use Rattle.event_log.specs.declared.log.Event.{Event}
use Rattle.event_log.specs.declared.log.Log.{Log}
use Rattle.event_log.specs.Before.{Line, heading_of}
use Rattle.event_log.specs.LogText.{values_of, named, named_values, line_of, vars_lines, event_lines, closing_line, batch_lines, text_of, log_text}

pub names_text-append : (xs ys : List Name) → names_text (xs ++ ys) ≡ names_text xs ++ names_text ys
names_text-append [] ys = refl
names_text-append (x ∷ xs) ys = ap (λ (t : List ℕ). 32 ∷ (x ++ t)) (names_text-append xs ys) ∙ ap (λ (t : List ℕ). 32 ∷ t) (sym (append_assoc x (names_text xs) (names_text ys)))

pub values_text-append : (xs ys : List NamedValue) → values_text (xs ++ ys) ≡ values_text xs ++ values_text ys
values_text-append [] ys = refl
values_text-append (v ∷ xs) ys =
    ap (λ (t : List ℕ). 32 ∷ (v.name ++ 61 ∷ (signed_decimal v.value ++ t))) (values_text-append xs ys)
    ∙ ap (λ (t : List ℕ). 32 ∷ (v.name ++ 61 ∷ t)) (sym (append_assoc (signed_decimal v.value) (values_text xs) (values_text ys)))
    ∙ ap (λ (t : List ℕ). 32 ∷ t) (sym (append_assoc v.name (61 ∷ (signed_decimal v.value ++ values_text xs)) (values_text ys)))

pub clock_rest-append : (xs ys : List ℕ) → clock_rest (xs ++ ys) ≡ clock_rest xs ++ clock_rest ys
clock_rest-append [] ys = refl
clock_rest-append (n ∷ xs) ys = ap (λ (t : List ℕ). 44 ∷ (decimal n ++ t)) (clock_rest-append xs ys) ∙ ap (λ (t : List ℕ). 44 ∷ t) (sym (append_assoc (decimal n) (clock_rest xs) (clock_rest ys)))

pub text_of-append : (xs ys : List Line) → text_of (xs ++ ys) ≡ text_of xs ++ text_of ys
text_of-append [] ys = refl
text_of-append (l ∷ xs) ys = ap (λ (t : List ℕ). l ++ 10 ∷ t) (text_of-append xs ys) ∙ sym (append_assoc l (10 ∷ text_of xs) (text_of ys))

-- ---- loops that append

-- one item more, for a spelling of the items that goes over one after the other
pub puts_next : {A : Type 0} (spell : List A → List ℕ) (append : (xs ys : List A) → spell (xs ++ ys) ≡ spell xs ++ spell ys) (old out new : List ℕ) (xs : List A) (i : ℕ) (x : A) → i < length xs → x ≡ slice_index_or xs i x
    → out ≡ old ++ spell (take i xs) → new ≡ out ++ spell (x ∷ []) → new ≡ old ++ spell (take (i + 1) xs)
puts_next {A} spell append old out new xs i x lt is so_far put =
    put ∙ ap (λ (t : List ℕ). t ++ spell (x ∷ [])) so_far ∙ append_assoc old (spell (take i xs)) (spell (x ∷ [])) ∙ ap (λ (t : List ℕ). old ++ t) (sym (append (take i xs) (x ∷ [])))
    ∙ ap (λ (ys : List A). old ++ spell ys) (sym (take_more xs i x lt ∙ ap (λ (y : A). take i xs ++ y ∷ []) (sym is)))

pub bindings_append : (xs ys : List Binding) → values_text (values_of (xs ++ ys)) ≡ values_text (values_of xs) ++ values_text (values_of ys)
bindings_append xs ys = ap values_text (map-append (λ (b : Binding). record { name = b.name; value = b.value }) xs ys) ∙ values_text-append (values_of xs) (values_of ys)

pub assigns_append : (variables : List Binding) (xs ys : List Assign) → values_text (named_values variables (xs ++ ys)) ≡ values_text (named_values variables xs) ++ values_text (named_values variables ys)
assigns_append variables xs ys = ap values_text (map-append (named variables) xs ys) ∙ values_text-append (named_values variables xs) (named_values variables ys)

pub events_append : (h : Header) (xs ys : List Event) → text_of (event_lines h (xs ++ ys)) ≡ text_of (event_lines h xs) ++ text_of (event_lines h ys)
events_append h xs ys = ap text_of (map-append (λ (e : Event). event_line (line_of h e)) xs ys) ∙ text_of-append (event_lines h xs) (event_lines h ys)

-- the same for an item that is copied
pub puts_next_at : {A : Type 0} (spell : List A → List ℕ) (append : (xs ys : List A) → spell (xs ++ ys) ≡ spell xs ++ spell ys) (old out new : List ℕ) (xs : List A) (i : ℕ) (d : A) → i < length xs
    → out ≡ old ++ spell (take i xs) → new ≡ out ++ spell (slice_index_or xs i d ∷ []) → new ≡ old ++ spell (take (i + 1) xs)
puts_next_at {A} spell append old out new xs i d lt so_far put = puts_next spell append old out new xs i (slice_index_or xs i d) lt (get_or_default xs i d (slice_index_or xs i d) lt) so_far put

pub clock_put : (out middle new : List ℕ) (n : ℕ) → middle ≡ out ++ 44 ∷ [] → new ≡ middle ++ decimal n → new ≡ out ++ clock_rest (n ∷ [])
clock_put out middle new n comma number = number ∙ ap (λ (t : List ℕ). t ++ decimal n) comma ∙ append_assoc out (44 ∷ []) (decimal n) ∙ ap (λ (t : List ℕ). out ++ 44 ∷ t) (sym (append-nil (decimal n)))

pub log_put : (log : Log) (t1 t2 t3 t4 t5 : List ℕ) → t1 ≡ heading_of log.header.version ++ 10 ∷ 112 ∷ 114 ∷ 111 ∷ 99 ∷ 115 ∷ [] → t2 ≡ t1 ++ names_text log.header.procs → t3 ≡ t2 ++ 10 ∷ [] → t4 ≡ t3 ++ text_of (vars_lines log.header.procs log.header.vars)
    → t5 ≡ t4 ++ text_of (batch_lines log.header log.batches) → t5 ≡ log_text log
log_put log t1 t2 t3 t4 t5 a b c d e =
    let vars = text_of (vars_lines log.header.procs log.header.vars) in
    let rest = text_of (batch_lines log.header log.batches) in
    let names = names_text log.header.procs in
    let front : ((names ++ 10 ∷ []) ++ vars) ++ rest ≡ names ++ 10 ∷ (vars ++ rest) = append_assoc (names ++ 10 ∷ []) vars rest ∙ append_assoc names (10 ∷ []) (vars ++ rest) in
    rw (e, d, c, b, a) (ap (λ (t : List ℕ). heading_of log.header.version ++ 10 ∷ 112 ∷ 114 ∷ 111 ∷ 99 ∷ 115 ∷ t) (front ∙ ap (λ (t : List ℕ). names ++ 10 ∷ t) (sym (text_of-append (vars_lines log.header.procs log.header.vars) (batch_lines log.header log.batches)))))

-- ---- batches

pub batch_put : (h : Header) (old out t1 t2 : List ℕ) (b : List Event) (after : List (List Event)) (rest : List (List Event)) → rest ≡ b ∷ after → out ++ text_of (batch_lines h rest) ≡ old → t1 ≡ out ++ text_of (event_lines h b) → t2 ≡ t1 ++ closing_line after
    → (t2 ++ 10 ∷ []) ++ text_of (batch_lines h after) ≡ old
batch_put h old out t1 t2 b after rest is so_far one two =
    let split : text_of (batch_lines h (b ∷ after)) ≡ text_of (event_lines h b) ++ (closing_line after ++ 10 ∷ text_of (batch_lines h after)) = text_of-append (event_lines h b) (closing_line after ∷ batch_lines h after) in
    let put : (t2 ++ 10 ∷ []) ++ text_of (batch_lines h after) ≡ out ++ (text_of (event_lines h b) ++ (closing_line after ++ 10 ∷ text_of (batch_lines h after))) = rw (two, one) (simp append_assoc) in
    put ∙ ap (λ (t : List ℕ). out ++ t) (sym split) ∙ ap (λ (bs : List (List Event)). out ++ text_of (batch_lines h bs)) (sym is) ∙ so_far

-- ---- variables
