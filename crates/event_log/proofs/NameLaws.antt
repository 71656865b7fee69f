-- A name's place among names that are distinct, and events by names and by numbers.
use Rattle.std.proofs.Common.{◌≡◌, ℕ, zero, suc, ◌+◌, ◌-◌, ◌<◌, ◌≤◌, Bool, true, false, Option, Some, None, Result, Ok, Err, List, [], ◌∷◌, ◌++◌, length, refl, sym, ap, subst, ◌∙◌, arith, inl, inr, append_assoc}
use Rattle.std.specs.Prelude.{not, is_some, map}
use Rattle.std.specs.List.{AllByRecursion}
use Rattle.std.specs.Str.{bytes_eq}
use Rattle.std.proofs.lemmas.Bool.{cases_Bool, eqb-false, ne_eqb, and_parts, not-true}
use Rattle.std.proofs.lemmas.List.{append-nil, length-map}
use Rattle.std.proofs.lemmas.Option.{same_Some}
use Rattle.std.proofs.lemmas.Slice.Eq.{bytes_eq-Decides}
use Rattle.log_lines.specs.Names.{Name, is_name, place_from, place_of, are_distinct}
use Rattle.log_lines.specs.Spelling.{NamedValue, ValueFits, Action, Internal, Send, Receive, ActionFits}
use Rattle.event_log.specs.declared.item.LogCode.{LogCode}
use Rattle.event_log.specs.declared.item.LogCode.TheVariants as code
use Rattle.event_log.specs.declared.log.Binding.{Binding}
use Rattle.event_log.specs.declared.log.Kind.{Kind}
use Rattle.event_log.specs.declared.log.Kind.TheVariants as kind
use Rattle.event_log.specs.declared.log.Assign.{Assign}
use Rattle.event_log.specs.Numbers.{◌>>=◌, known, guarded, binding_names, kind_in, is_to_itself, assign_in, assigns_in}
use Rattle.event_log.specs.LogText.{name_at, named, action_of, BindingFits, KindFits, AssignFits}

-- ---- places

pub record IsPlace (start : ℕ) (names : List Name) (name : Name) (place : ℕ) : Type 0 where
  pub low : start ≤ place
  pub high : place < start + length names
  pub name_is : name_at names (place - start) ≡ name

place_there : (start : ℕ) (names : List Name) (name : Name) (place : ℕ) → place_from start names name ≡ Some place → IsPlace start names name place
place_there start [] name place h = absurd cc
place_there start (n ∷ ns) name place h = elim (cases_Bool (bytes_eq n name)) [
  | inl same ↦
      let at : start ≡ place = same_Some _ _ (rw same at h) in
      let none : place - start ≡ 0 = omega arith in
      record { low = omega arith; high = omega arith; name_is = rw none ((bytes_eq-Decides n name).0 same) }
  | inr other ↦
      let rest = place_there (start + 1) ns name place (rw other at h) in
      let one : place - start ≡ suc (place - (start + 1)) = omega (arith, rest.low) in
      record { low = omega (arith, rest.low); high = omega (arith, rest.high); name_is = rw one rest.name_is }
]

pub place_some : (names : List Name) (name : Name) (place : ℕ) → place_of names name ≡ Some place → (place < length names) × (name_at names place ≡ name)
place_some names name place h =
    let p = place_there 0 names name place h in
    let same : place - 0 ≡ place = omega arith in
    (omega (arith, p.high), rw same at p.name_is)

place_found : (start : ℕ) (names : List Name) (i : ℕ) → are_distinct names ≡ true → i < length names → place_from start names (name_at names i) ≡ Some (start + i)
place_found start [] i distinct lt = absurd (omega arith)
place_found start (n ∷ ns) zero distinct lt =
    let same : bytes_eq n n ≡ true = (bytes_eq-Decides n n).1 refl in
    let at : start + 0 ≡ start = omega arith in
    rw (same, at) refl
place_found start (n ∷ ns) (suc i) distinct lt =
    let parts = and_parts (not (is_some (place_of ns n))) (are_distinct ns) distinct in
    let here : i < length ns = omega arith in
    elim (cases_Bool (bytes_eq n (name_at ns i))) [
      | inl same ↦
          let equal : n ≡ name_at ns i = (bytes_eq-Decides n (name_at ns i)).0 same in
          let found : place_of ns n ≡ Some (0 + i) = ap (place_of ns) equal ∙ place_found 0 ns i parts.1 here in
          let none : is_some (place_of ns n) ≡ false = not-true (is_some (place_of ns n)) parts.0 in
          absurd (cc (rw found at none))
      | inr other ↦
          let at : start + suc i ≡ start + 1 + i = omega arith in
          rw (other, at) (place_found (start + 1) ns i parts.1 here)
    ]

pub place_again : (names : List Name) (i : ℕ) → are_distinct names ≡ true → i < length names → place_of names (name_at names i) ≡ Some i
place_again names i distinct lt =
    let at : 0 + i ≡ i = omega arith in
    rw at at (place_found 0 names i distinct lt)

-- ---- steps of a judgement

pub bind_ok : {A B : Type 0} (r : Result A LogCode) (f : A → Result B LogCode) (y : B) → (r >>= f) ≡ Ok y → (x : A) × (r ≡ Ok x) × (f x ≡ Ok y)
bind_ok (Ok x) f y e = (x, refl, e)
bind_ok (Err d) f y e = absurd cc

pub known_ok : {A : Type 0} (c : LogCode) (o : Option A) (x : A) → known c o ≡ Ok x → o ≡ Some x
known_ok c None x e = absurd cc
known_ok c (Some y) x e = cc

pub guarded_ok : {A : Type 0} (c : LogCode) (test : Bool) (r : Result A LogCode) (x : A) → guarded c test r ≡ Ok x → (test ≡ true) × (r ≡ Ok x)
guarded_ok c true r x e = (refl, e)
guarded_ok c false r x e = absurd cc

pub same_Ok : {A : Type 0} (x y : A) → ◌≡◌ {A = Result A LogCode} (Ok x) (Ok y) → x ≡ y
same_Ok x y e = cc

-- ---- kinds

pub record KindNamed (procs : List Name) (process : ℕ) (a : Action) (k : Kind) : Type 0 where
  pub action_is : action_of procs k ≡ a
  pub fits : KindFits (length procs) process k

pub kind_takes : (procs : List Name) (process : ℕ) (a : Action) (k : Kind) → ActionFits a → kind_in procs a ≡ Ok k → is_to_itself process k ≡ false → KindNamed procs process a k
kind_takes procs process Internal k fits h other = subst (KindNamed procs process Internal) (same_Ok _ _ h) (record { action_is = refl; fits = tt })
kind_takes procs process (Send to id) k fits h other =
    let b = bind_ok (known code.UnknownProcess (place_of procs to)) _ k h in
    let p = place_some procs to b.0 (known_ok _ _ _ b.1) in
    let k_is = same_Ok _ _ b.2 in
    let apart : is_to_itself process (kind.Send b.0 id) ≡ false = ap (is_to_itself process) k_is ∙ other in
    subst (KindNamed procs process (Send to id)) k_is (record { action_is = ap (λ (n : Name). Send n id) p.1; fits = (p.0, eqb-false b.0 process apart, fits.1) })
kind_takes procs process (Receive sender id) k fits h other =
    let b = bind_ok (known code.UnknownProcess (place_of procs sender)) _ k h in
    let p = place_some procs sender b.0 (known_ok _ _ _ b.1) in
    let k_is = same_Ok _ _ b.2 in
    let apart : is_to_itself process (kind.Receive b.0 id) ≡ false = ap (is_to_itself process) k_is ∙ other in
    subst (KindNamed procs process (Receive sender id)) k_is (record { action_is = ap (λ (n : Name). Receive n id) p.1; fits = (p.0, eqb-false b.0 process apart, fits.1) })

pub kind_again : (procs : List Name) (process : ℕ) (k : Kind) → are_distinct procs ≡ true → KindFits (length procs) process k → (kind_in procs (action_of procs k) ≡ Ok k) × (is_to_itself process k ≡ false)
kind_again procs process kind.Internal distinct fits = (refl, refl)
kind_again procs process (kind.Send to id) distinct fits = (rw (place_again procs to distinct fits.0) refl, ne_eqb to process fits.1)
kind_again procs process (kind.Receive sender id) distinct fits = (rw (place_again procs sender distinct fits.0) refl, ne_eqb sender process fits.1)

-- ---- assignments

pub record AssignsNamed (variables : List Binding) (front : List Assign) (vs : List NamedValue) (all : List Assign) : Type 0 where
  pub more : List Assign
  pub all_are : all ≡ front ++ more
  pub named_are : map (named variables) more ≡ vs
  pub fits : AllByRecursion (AssignFits variables) more

pub assigns_take : (variables : List Binding) (front : List Assign) (vs : List NamedValue) (all : List Assign) → AllByRecursion ValueFits vs → assigns_in (binding_names variables) front vs ≡ Ok all → AssignsNamed variables front vs all
unfolding assigns_in
assigns_take variables front [] all fits h = record { more = []; all_are = sym (same_Ok _ _ h) ∙ sym (append-nil front); named_are = refl; fits = tt }
assigns_take variables front (v ∷ vs) all fits h =
    let a = bind_ok (assign_in (binding_names variables) v) _ all h in
    let b = bind_ok (known code.UnknownVariable (place_of (binding_names variables) v.name)) _ a.0 a.1 in
    let p = place_some (binding_names variables) v.name b.0 (known_ok _ _ _ b.1) in
    let a_is : record { variable = b.0; value = v.value } ≡ a.0 = same_Ok _ _ b.2 in
    let made : (named variables (record { variable = b.0; value = v.value }) ≡ v) × AssignFits variables (record { variable = b.0; value = v.value }) =
    (ap (λ (n : Name). record { name = n; value = v.value }) p.1, record { variable = omega (arith, p.0, length-map variables (λ (x : Binding). x.name)); value = fits.0.value }) in
    let one = subst (λ (x : Assign). (named variables x ≡ v) × AssignFits variables x) a_is made in
    let others = assigns_take variables (front ++ a.0 ∷ []) vs all fits.1 a.2 in
    record {
      more = a.0 ∷ others.more;
      all_are = others.all_are ∙ append_assoc front (a.0 ∷ []) others.more;
      named_are = ap (λ (x : NamedValue). x ∷ map (named variables) others.more) one.0 ∙ ap (λ (xs : List NamedValue). v ∷ xs) others.named_are;
      fits = (one.1, others.fits);
    }

pub assigns_again : (variables : List Binding) (front all : List Assign) → are_distinct (binding_names variables) ≡ true → AllByRecursion (AssignFits variables) all → assigns_in (binding_names variables) front (map (named variables) all) ≡ Ok (front ++ all)
unfolding assigns_in
assigns_again variables front [] distinct fits = ap (λ (l : List Assign). Ok l) (sym (append-nil front))
assigns_again variables front (a ∷ all) distinct fits =
    let there : a.variable < length (binding_names variables) = omega (arith, fits.0.variable, length-map variables (λ (x : Binding). x.name)) in
    rw (place_again (binding_names variables) a.variable distinct there)
    (assigns_again variables (front ++ a ∷ []) all distinct fits.1 ∙ ap (λ (l : List Assign). Ok l) (append_assoc front (a ∷ []) all))

pub values_from_assigns : (variables : List Binding) (all : List Assign) → AllByRecursion BindingFits variables → AllByRecursion (AssignFits variables) all → AllByRecursion ValueFits (map (named variables) all)
values_from_assigns variables [] names fits = tt
values_from_assigns variables (a ∷ all) names fits = (record { name = binding_name variables a.variable names fits.0.variable; value = fits.0.value }, values_from_assigns variables all names fits.1)
  where
    binding_name : (bs : List Binding) (i : ℕ) → AllByRecursion BindingFits bs → i < length bs → is_name (name_at (binding_names bs) i) ≡ true
    binding_name [] i each lt = absurd (omega arith)
    binding_name (b ∷ bs) zero each lt = each.0.name
    binding_name (b ∷ bs) (suc i) each lt = binding_name bs i each.1 (omega arith)
