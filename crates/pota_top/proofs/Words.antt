-- The numbers among the words are in their ranges.
use Rattle.std.proofs.Common.{◌≡◌, ℕ, ◌≤◌, ◌-◌, ◌^◌, Bool, true, false, Option, Some, None, List, refl, sym, ap, subst, ◌∙◌, arith, inl, inr}
use Rattle.std.specs.Prelude.{◌&&◌, ◌||◌, nat_le, option_map, option_and_then, codes, if◌then◌else◌}
use Rattle.std.specs.Str.{bytes_eq}
use Rattle.std.proofs.lemmas.Bool.{cases_Bool}
use Rattle.std.proofs.lemmas.Bool.Decides.{nat_tests}
use Rattle.std.proofs.lemmas.Option.{none-some, same_Some}
use Rattle.pota_base.specs.Number.{number_at, whole}
use Rattle.pota_base.specs.Limits.{most_events, most_processes, most_workers}
use Rattle.rctl_grammar.specs.declared.tree.Tree.{Tree}
use Rattle.call_options.specs.declared.sizes.Sizes.{Sizes}
use Rattle.command_words.specs.declared.request.Task.{Task}
use Rattle.command_words.specs.declared.request.Form.{Form}
use Rattle.command_words.specs.declared.request.Form.TheVariants as form
use Rattle.command_words.specs.declared.request.Inquiry.{Inquiry}
use Rattle.command_words.specs.declared.request.Product.TheVariants.{Reports, Certificate}
use Rattle.command_words.specs.declared.request.Task.TheVariants.{Read, Bench}
use Rattle.command_words.specs.Numbers.{number, workers_of, needed, sizes_of}
use Rattle.command_words.specs.Request.{Values, values_of, reporting_of, has_sizes, has_flags, form_of, check_of, certify_of, bench_of, task_of, Wanted, wanted, request_of}
use Rattle.command_words.specs.Rule.{Text, given}
use Rattle.call_request.specs.declared.question.Question.{Question}
use Rattle.call_request.specs.Questions.{IsQuestion, AsksFor}
use Rattle.call_promise.specs.Asking.{certifying}
use Rattle.bench_answers.specs.Benching.{CanBeMade}

abbrev Then : {A B : Type 0} → Option A → (A → Option B) → B → Type 0
Then {A} o f b = (a : A) × (o ≡ Some a) × (f a ≡ Some b)

then_some : {A B : Type 0} (o : Option A) (f : A → Option B) (b : B) → option_and_then f o ≡ Some b → Then o f b
then_some None f b h = absurd (none-some b h)
then_some (Some a) f b h = (a, refl, h)

abbrev Within : ℕ → ℕ → ℕ → Type 0
Within low high n = (low ≤ n) × (n ≤ high)

in_range : (low high m n : ℕ) (a b : Bool) → nat_le low m ≡ a → nat_le m high ≡ b → (if a && b then Some m else None) ≡ Some n → Within low high n
in_range low high m n true true p q h =
    let same : m ≡ n = same_Some m n h in
    subst (Within low high) same (grind (arith, nat_tests, p), grind (arith, nat_tests, q))
in_range low high m n true false p q h = absurd (none-some n h)
in_range low high m n false b p q h = absurd (none-some n h)

number_within : (low high n : ℕ) (text : Text) → number low high text ≡ Some n → Within low high n
number_within low high n text h =
    let found = then_some (whole (number_at (2 ^ 64 - 1) text)) (λ m. if nat_le low m && nat_le m high then Some m else None) n h in
    in_range low high found.0 n (nat_le low found.0) (nat_le found.0 high) refl refl found.2

needed_within : (low high n : ℕ) (text : Option Text) → needed low high text ≡ Some n → Within low high n
needed_within low high n None h = absurd (none-some n h)
needed_within low high n (Some text) h = number_within low high n text h

workers_within : (text : Option Text) (n : ℕ) → workers_of text ≡ Some n → Within 1 most_workers n
workers_within None n h = subst (Within 1 most_workers) (same_Some 1 n h) (omega arith, omega arith)
workers_within (Some text) n h = number_within 1 most_workers n text h

sizes_can : (seed procs events : Option Text) (s : Sizes) → sizes_of seed procs events ≡ Some s → CanBeMade s
sizes_can seed procs events s h =
    let a = then_some (needed 0 (2 ^ 64 - 1) seed) (λ x. option_and_then (λ p. option_and_then (λ e. let z : Sizes = record { seed = x; procs = p; events = e } in Some z) (needed 0 most_events events)) (needed 1 most_processes procs)) s h in
    let b = then_some (needed 1 most_processes procs) (λ p. option_and_then (λ e. let z : Sizes = record { seed = a.0; procs = p; events = e } in Some z) (needed 0 most_events events)) s a.2 in
    let c = then_some (needed 0 most_events events) (λ e. let z : Sizes = record { seed = a.0; procs = b.0; events = e } in Some z) s b.2 in
    let here = needed_within 1 most_processes b.0 procs b.1 in
    let there = needed_within 0 most_events c.0 events c.1 in
    let made : CanBeMade (record { seed = a.0; procs = b.0; events = c.0 }) = record { some = here.0; few = here.1; limit = there.1 } in
    subst CanBeMade (same_Some _ s c.2) made

-- ---- the task

bench_can : (v : Values) (s : Sizes) → bench_of v ≡ Some (Bench s) → CanBeMade s
bench_can v s h = by_flags (has_flags v) refl
  where
    by_sizes : (o : Option Sizes) → sizes_of v.seed v.procs v.events ≡ o → option_map Bench o ≡ Some (Bench s) → CanBeMade s
    by_sizes None e k = absurd (none-some (Bench s) k)
    by_sizes (Some z) e k =
        let same : Bench z ≡ Bench s = same_Some (Bench z) (Bench s) k in
        let mine : z ≡ s = cc in
        subst CanBeMade mine (sizes_can v.seed v.procs v.events z e)

    flagged : Bool → Option Task
    flagged b = if b then None else option_map Bench (sizes_of v.seed v.procs v.events)

    by_flags : (b : Bool) → has_flags v ≡ b → CanBeMade s
    by_flags true e = absurd (none-some (Bench s) (sym (ap flagged e) ∙ h))
    by_flags false e = by_sizes (sizes_of v.seed v.procs v.events) refl (sym (ap flagged e) ∙ h)

check_not : (v : Values) (s : Sizes) → check_of v ≡ Some (Bench s) → ⊥
check_not v s h = by_sizes (has_sizes v) refl
  where
    asked : Option Form → Option Task
    asked o = option_map (λ f. Read (record { form = f; product = Reports (reporting_of v) })) o

    sized : Bool → Option Task
    sized b = if b then None else asked (form_of v)

    none_asked : (o : Option Form) → asked o ≡ Some (Bench s) → ⊥
    none_asked None k = none-some (Bench s) k
    none_asked (Some f) k = absurd cc

    by_sizes : (b : Bool) → has_sizes v ≡ b → ⊥
    by_sizes true e = none-some (Bench s) (sym (ap sized e) ∙ h)
    by_sizes false e = none_asked (form_of v) (sym (ap sized e) ∙ h)

certify_is : (v : Values) (t : Task) → certify_of v ≡ Some t → t ≡ Read certifying
certify_is v t h = by_words (has_sizes v || has_flags v) refl
  where
    asked : Bool → Option Task
    asked b = if b then None else Some (Read certifying)

    by_words : (b : Bool) → (has_sizes v || has_flags v) ≡ b → t ≡ Read certifying
    by_words true e = absurd (none-some t (sym (ap asked e) ∙ h))
    by_words false e = sym (same_Some (Read certifying) t (sym (ap asked e) ∙ h))

certify_not : (v : Values) (s : Sizes) → certify_of v ≡ Some (Bench s) → ⊥
certify_not v s h = let same : Bench s ≡ Read certifying = certify_is v (Bench s) h in absurd cc

task_can : (command : Text) (v : Values) (s : Sizes) → task_of command v ≡ Some (Bench s) → CanBeMade s
task_can command v s h = elim (cases_Bool (bytes_eq command (codes "check"))) [
  | inl it ↦ absurd (check_not v s (sym (rw it refl) ∙ h))
  | inr no_ ↦ elim (cases_Bool (bytes_eq command (codes "bench"))) [
    | inl bench ↦ bench_can v s (sym (rw (no_, bench) refl) ∙ h)
    | inr other ↦ elim (cases_Bool (bytes_eq command (codes "certify"))) [
      | inl certify ↦ absurd (certify_not v s (sym (rw (no_, other, certify) refl) ∙ h))
      | inr none ↦ absurd (none-some (Bench s) (sym (rw (no_, other, none) refl) ∙ h))
    ]
  ]
]

-- ---- a certificate is asked of the text of one log

check_reports : (v : Values) (i : Inquiry) → check_of v ≡ Some (Read i) → i.product ≡ Certificate → ⊥
check_reports v i h is = by_sizes (has_sizes v) refl
  where
    asked : Option Form → Option Task
    asked o = option_map (λ f. Read (record { form = f; product = Reports (reporting_of v) })) o

    sized : Bool → Option Task
    sized b = if b then None else asked (form_of v)

    other_asked : (o : Option Form) → asked o ≡ Some (Read i) → ⊥
    other_asked None k = none-some (Read i) k
    other_asked (Some f) k =
        let mine : Inquiry = record { form = f; product = Reports (reporting_of v) } in
        let tasks : Read mine ≡ Read i = same_Some (Read mine) (Read i) k in
        let same : mine ≡ i = cc in
        let products : Reports (reporting_of v) ≡ Certificate = ap (λ (x : Inquiry). x.product) same ∙ is in
        absurd cc

    by_sizes : (b : Bool) → has_sizes v ≡ b → ⊥
    by_sizes true e = none-some (Read i) (sym (ap sized e) ∙ h)
    by_sizes false e = other_asked (form_of v) (sym (ap sized e) ∙ h)

bench_reads : (v : Values) (i : Inquiry) → bench_of v ≡ Some (Read i) → ⊥
bench_reads v i h = by_flags (has_flags v) refl
  where
    flagged : Bool → Option Task
    flagged b = if b then None else option_map Bench (sizes_of v.seed v.procs v.events)

    none_read : (o : Option Sizes) → option_map Bench o ≡ Some (Read i) → ⊥
    none_read None k = none-some (Read i) k
    none_read (Some z) k = let tasks : Bench z ≡ Read i = same_Some (Bench z) (Read i) k in absurd cc

    by_flags : (b : Bool) → has_flags v ≡ b → ⊥
    by_flags true e = none-some (Read i) (sym (ap flagged e) ∙ h)
    by_flags false e = none_read (sizes_of v.seed v.procs v.events) (sym (ap flagged e) ∙ h)

certify_text : (v : Values) (i : Inquiry) → certify_of v ≡ Some (Read i) → i.form ≡ form.Text
certify_text v i h =
    let tasks : Read i ≡ Read certifying = certify_is v (Read i) h in
    let same : i ≡ certifying = cc in
    ap (λ (x : Inquiry). x.form) same

task_text : (command : Text) (v : Values) (i : Inquiry) → task_of command v ≡ Some (Read i) → i.product ≡ Certificate → i.form ≡ form.Text
task_text command v i h is = elim (cases_Bool (bytes_eq command (codes "check"))) [
  | inl it ↦ absurd (check_reports v i (sym (rw it refl) ∙ h) is)
  | inr no_ ↦ elim (cases_Bool (bytes_eq command (codes "bench"))) [
    | inl bench ↦ absurd (bench_reads v i (sym (rw (no_, bench) refl) ∙ h))
    | inr other ↦ elim (cases_Bool (bytes_eq command (codes "certify"))) [
      | inl certify ↦ certify_text v i (sym (rw (no_, other, certify) refl) ∙ h)
      | inr none ↦ absurd (none-some (Read i) (sym (rw (no_, other, none) refl) ∙ h))
    ]
  ]
]

record IsFound (v : Values) (w : Wanted) : Type 0 where
  command : Text
  task : task_of command v ≡ Some w.task
  workers : workers_of v.workers ≡ Some w.workers

wanted_found : (v : Values) (w : Wanted) → wanted v ≡ Some w → IsFound v w
wanted_found v w h =
    let a = then_some v.command _ w h in
    let b = then_some v.formula _ w a.2 in
    let c = then_some (task_of a.0 v) _ w b.2 in
    let d = then_some (workers_of v.workers) _ w c.2 in
    let mine : IsFound v (record { formula = b.0; workers = d.0; task = c.0 }) = record { command = a.0; task = c.1; workers = d.1 } in
    subst (IsFound v) (same_Some _ w d.2) mine

request_found : (words : List Text) (w : Wanted) → request_of words ≡ Some w → (v : Values) × IsFound v w
request_found words w h =
    let g = then_some (given words) (λ g. wanted (values_of g)) w h in
    (values_of g.0, wanted_found (values_of g.0) w g.2)

pub asks_text : (words : List (List ℕ)) (i : Inquiry) (t : Tree) → AsksFor words (Read i) t → i.product ≡ Certificate → i.form ≡ form.Text
asks_text words i t h is =
    let found = request_found words h.wanted h.asks in
    task_text found.1.command found.0 i (found.1.task ∙ ap (λ (x : Task). Some x) h.task_is) is

module _ (words : List (List ℕ)) (q : Question) (is : IsQuestion words q) where
  found : (v : Values) × IsFound v is.wanted
  found = request_found words is.wanted is.asks

  pub question_workers : Within 1 most_workers q.workers
  question_workers = subst (Within 1 most_workers) (sym is.workers) (workers_within found.0.workers is.wanted.workers found.1.workers)

  pub question_sizes : (s : Sizes) → q.task ≡ Bench s → CanBeMade s
  question_sizes s e = task_can found.1.command found.0 s (found.1.task ∙ ap (λ (t : Task). Some t) (sym is.task ∙ e))
