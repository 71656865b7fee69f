-- Which source has lines of which process.
use Rattle.std.proofs.Common.{◌≡◌, ℕ, zero, suc, ◌+◌, ◌<◌, ◌≤◌, Bool, true, false, cond, Option, Some, None, List, [], ◌∷◌, ◌++◌, length, get_or, set, refl, sym, ap, ◌∙◌, subst, arith, append_assoc, ◌⊎◌, inl, inr}
use Rattle.std.specs.Prelude.{◌==◌, ◌||◌}
use Rattle.std.specs.List.{list_any, AllByRecursion}
use Rattle.std.proofs.lemmas.Bool.{cases_Bool, ne_eqb, eqb-true, eq-eqb, or_parts, true≢false}
use Rattle.std.proofs.lemmas.List.{append-nil, length-append, get_or-set_same, get_or-set_other}
use Rattle.std.proofs.lemmas.List.Elements.{filter-append}
use Rattle.std.proofs.lemmas.List.Folds.{list_any-append}
use Rattle.std.proofs.lemmas.Option.{none-some}
use Rattle.pota_base.specs.Limits.{most_processes}
use Rattle.log_lines.specs.Reading.{choose}
use Rattle.event_log.specs.declared.log.Binding.{Binding}
use Rattle.event_log.specs.declared.log.Event.{Event}
use Rattle.event_log.specs.declared.log.Log.{Log}
use Rattle.event_log.specs.Numbers.{variables_at}
use Rattle.event_log.specs.Before.{lines_from}
use Rattle.fault_kinds.specs.declared.merge.MergeCode.TheVariants as code
use Rattle.log_merge.specs.declared.seen.Seen.{Seen}
use Rattle.log_merge.specs.declared.seen.Seen.TheVariants.{Nothing, One, Two}
use Rattle.log_merge.specs.Sources.{IsSource, OwnLine, own_vars_lines, own_event_lines, events_of}
use Rattle.log_merge.specs.Sources.{own_lines, has_lines_of, another, seen_of}
use Rattle.log_merge.specs.Faults.{not_alone, found}
use Rattle.log_merge.specs.Merging.{Placed, placed_events, placed_in, placed_from, of_process, variables_in}
use Rattle.log_merge.specs.Owners.{IsOwner, AreOwners, numbered_source}
use Rattle.log_merge.specs.inside.Owners.{IsOfAProcess, with_owner}
use Rattle.log_merge.proofs.Lists.{get_front, get_at}

-- ---- what was seen of lines

abbrev pub IsOf : ℕ → OwnLine → Type 0
IsOf p l = l.process ≡ p

abbrev pub is_of : ℕ → OwnLine → Bool
is_of p l = l.process == p

pub seen_none : (ls : List OwnLine) → seen_of ls ≡ Nothing → ls ≡ []
seen_none [] e = refl
seen_none (l ∷ ls) e = go (another l.process ls) e
  where
    go : (o : Option OwnLine) → choose o (λ (k : OwnLine). Two k.line) (One l.process l.line) ≡ Nothing → l ∷ ls ≡ []
    go None h = absurd cc
    go (Some k) h = absurd cc

none_other : (p : ℕ) (ls : List OwnLine) → another p ls ≡ None → AllByRecursion (IsOf p) ls
none_other p [] e = tt
none_other p (l ∷ ls) e = go (none_other p ls) (cases_Bool (p == l.process))
  where
    go : (another p ls ≡ None → AllByRecursion (IsOf p) ls) → ((p == l.process) ≡ true) ⊎ ((p == l.process) ≡ false) → AllByRecursion (IsOf p) (l ∷ ls)
    go rest (inl same) = (sym (eqb-true p l.process same), rest (sym (rw same refl) ∙ e))
    go rest (inr other) = absurd (none-some l (sym e ∙ rw other refl))

pub record IsOne (ls : List OwnLine) (p : ℕ) : Type 0 where
  pub all : AllByRecursion (IsOf p) ls
  pub some : list_any (is_of p) ls ≡ true

pub seen_one_process : (ls : List OwnLine) (p line : ℕ) → seen_of ls ≡ One p line → IsOne ls p
seen_one_process [] p line e = absurd cc
seen_one_process (l ∷ ls) p line e = go (another l.process ls) refl e
  where
    go : (o : Option OwnLine) → another l.process ls ≡ o → choose o (λ (k : OwnLine). Two k.line) (One l.process l.line) ≡ One p line → IsOne (l ∷ ls) p
    go None is h =
        let same : l.process ≡ p = cc in
        record { all = (same, subst (λ (q : ℕ). AllByRecursion (IsOf q) ls) same (none_other l.process ls is)); some = rw (eq-eqb l.process p same) refl }
    go (Some k) is h = absurd cc

pub none_of_other : (p q : ℕ) (ls : List OwnLine) → (p ≡ q → ⊥) → AllByRecursion (IsOf p) ls → list_any (is_of q) ls ≡ false
none_of_other p q [] other all = refl
none_of_other p q (l ∷ ls) other all =
    let no : (l.process == q) ≡ false = ne_eqb l.process q (λ e. other (sym all.0 ∙ e)) in
    rw (no, none_of_other p q ls other all.1) refl

-- ---- a source without lines of a process

events_none : (p n : ℕ) (es : List Event) → list_any (is_of p) (own_event_lines es) ≡ false → of_process p (placed_events n es) ≡ []
events_none p n [] none = refl
events_none p n (e ∷ es) none =
    let parts = or_parts (e.process == p) (list_any (is_of p) (own_event_lines es)) none in
    rw parts.0 (events_none p n es parts.1)

vars_none : (p q r n : ℕ) (vars : List (List Binding)) → r ≡ p + q → 0 < n → list_any (is_of r) (own_vars_lines p (lines_from n vars)) ≡ false → variables_at vars q ≡ []
vars_none p q r n [] is some none = refl
vars_none p zero r n ([] ∷ vars) is some none = refl
vars_none p (suc q) r n ([] ∷ vars) is some none = vars_none (p + 1) q r n vars (omega (arith, is)) some none
vars_none p zero r n ((b ∷ bs) ∷ vars) is some none =
    let on : (n == 0) ≡ false = ne_eqb n 0 (λ e. absurd (omega (arith, e))) in
    let same : (p == r) ≡ true = eq-eqb p r (omega (arith, is)) in
    absurd (true≢false (sym (rw (on, same) refl) ∙ none))
vars_none p (suc q) r n ((b ∷ bs) ∷ vars) is some none =
    let on : (n == 0) ≡ false = ne_eqb n 0 (λ e. absurd (omega (arith, e))) in
    let rest = own_vars_lines (p + 1) (lines_from (n + 1) vars) in
    let first : OwnLine = record { process = p; line = n } in
    let all : list_any (is_of r) (first ∷ rest) ≡ false = sym (ap (λ (b : Bool). list_any (is_of r) (cond b rest (first ∷ rest))) on) ∙ none in
    vars_none (p + 1) q r (n + 1) vars (omega (arith, is)) (omega arith) (or_parts (p == r) (list_any (is_of r) rest) all).1

pub record HasNone (p : ℕ) (s : Log) : Type 0 where
  pub events : (n : ℕ) → of_process p (placed_in n s) ≡ []
  pub variables : variables_at s.header.vars p ≡ []

pub has_none : (p : ℕ) (s : Log) → IsSource s → has_lines_of p s ≡ false → HasNone p s
has_none p s source none =
    let vs = own_vars_lines 0 s.header.var_lines in
    let es = own_event_lines (events_of s) in
    let parts = or_parts (list_any (is_of p) vs) (list_any (is_of p) es) (sym (list_any-append (is_of p) vs es) ∙ none) in
    let lines : list_any (is_of p) (own_vars_lines 0 (lines_from 3 s.header.vars)) ≡ false = ap (λ (ls : List ℕ). list_any (is_of p) (own_vars_lines 0 ls)) (sym source.lines) ∙ parts.0 in
    record { events = λ n. events_none p n (events_of s) parts.1; variables = vars_none 0 p p 3 s.header.vars (omega arith) (omega arith) lines }

-- ---- a source with lines of this process alone

events_all : (p n : ℕ) (es : List Event) → AllByRecursion (IsOf p) (own_event_lines es) → of_process p (placed_events n es) ≡ placed_events n es
events_all p n [] all = refl
events_all p n (e ∷ es) all =
    let x : Placed = record { source = n; event = e } in
    rw (eq-eqb e.process p all.0) (ap (λ (xs : List Placed). x ∷ xs) (events_all p n es all.1))

all_behind : (P : OwnLine → Type 0) (xs ys : List OwnLine) → AllByRecursion P (xs ++ ys) → AllByRecursion P ys
all_behind P [] ys all = all
all_behind P (x ∷ xs) ys all = all_behind P xs ys all.1

pub has_all : (p : ℕ) (s : Log) → IsOne (own_lines s) p → (n : ℕ) → of_process p (placed_in n s) ≡ placed_in n s
has_all p s one n = events_all p n (events_of s) (all_behind (IsOf p) (own_vars_lines 0 s.header.var_lines) (own_event_lines (events_of s)) one.all)

-- ---- one source more

placed-push : (n : ℕ) (xs : List Log) (s : Log) → placed_from n (xs ++ s ∷ []) ≡ placed_from n xs ++ placed_in (n + length xs) s
placed-push n [] s = let e : n + 0 ≡ n = omega arith in rw e (append-nil (placed_in n s))
placed-push n (x ∷ xs) s =
    let e : n + 1 + length xs ≡ n + suc (length xs) = omega arith in
    ap (λ (ys : List Placed). placed_in n x ++ ys) (placed-push (n + 1) xs s ∙ ap (λ (k : ℕ). placed_from (n + 1) xs ++ placed_in k s) e) ∙ sym (append_assoc (placed_in n x) (placed_from (n + 1) xs) (placed_in (n + suc (length xs)) s))

variables-push : (p : ℕ) (xs : List Log) (s : Log) → variables_in p (xs ++ s ∷ []) ≡ variables_in p xs ++ variables_at s.header.vars p
variables-push p [] s = append-nil (variables_at s.header.vars p)
variables-push p (x ∷ xs) s = ap (λ (bs : List Binding). variables_at x.header.vars p ++ bs) (variables-push p xs s) ∙ sym (append_assoc (variables_at x.header.vars p) (variables_in p xs) (variables_at s.header.vars p))

any-push : (p : ℕ) (xs : List Log) (s : Log) → list_any (has_lines_of p) (xs ++ s ∷ []) ≡ (list_any (has_lines_of p) xs || has_lines_of p s)
any-push p xs s = list_any-append (has_lines_of p) xs (s ∷ []) ∙ ap (λ (b : Bool). list_any (has_lines_of p) xs || b) (or_false (has_lines_of p s))
  where
    or_false : (b : Bool) → (b || false) ≡ b
    or_false true = refl
    or_false false = refl

or_none : (b c : Bool) → c ≡ false → (b || c) ≡ b
or_none true c e = refl
or_none false c e = e

or_some : (b c : Bool) → c ≡ true → (b || c) ≡ true
or_some true c e = refl
or_some false c e = e

numbered_front : (o : ℕ) (xs : List Log) (s : Log) → o ≤ length xs → numbered_source o (xs ++ s ∷ []) ≡ numbered_source o xs
numbered_front zero xs s le = refl
numbered_front (suc n) xs s le = get_front xs (s ∷ []) n (omega arith)

numbered_last : (o : ℕ) (xs : List Log) (s : Log) → o ≡ length xs + 1 → numbered_source o (xs ++ s ∷ []) ≡ Some s
numbered_last zero xs s is = absurd (omega (arith, is))
numbered_last (suc n) xs s is = get_at xs s n (omega (arith, is))

module _ (before : List Log) (s : Log) (source : IsSource s) (p : ℕ) where
  of-push : of_process p (placed_from 1 (before ++ s ∷ [])) ≡ of_process p (placed_from 1 before) ++ of_process p (placed_in (1 + length before) s)
  of-push = ap (of_process p) (placed-push 1 before s) ∙ filter-append (λ (x : Placed). x.event.process == p) (placed_from 1 before) (placed_in (1 + length before) s)

  -- a source without lines of the process
  pub owner_stays : (o : Option ℕ) → has_lines_of p s ≡ false → IsOwner before p o → IsOwner (before ++ s ∷ []) p o
  owner_stays o none is = go o is
    where
      has : HasNone p s
      has = has_none p s source none

      told : list_any (has_lines_of p) (before ++ s ∷ []) ≡ list_any (has_lines_of p) before
      told = any-push p before s ∙ or_none (list_any (has_lines_of p) before) (has_lines_of p s) none

      events : of_process p (placed_from 1 (before ++ s ∷ [])) ≡ of_process p (placed_from 1 before)
      events = of-push ∙ ap (λ (xs : List Placed). of_process p (placed_from 1 before) ++ xs) (has.events (1 + length before)) ∙ append-nil (of_process p (placed_from 1 before))

      variables : variables_in p (before ++ s ∷ []) ≡ variables_in p before
      variables = variables-push p before s ∙ ap (λ (xs : List Binding). variables_in p before ++ xs) has.variables ∙ append-nil (variables_in p before)

      go : (o : Option ℕ) → IsOwner before p o → IsOwner (before ++ s ∷ []) p o
      go None is = record { there = tt; told = told ∙ is.told; events = events ∙ is.events; variables = variables ∙ is.variables }
      go (Some n) is =
          let front = numbered_front n before s is.there.1 in
          record {
            there = (is.there.0, omega (arith, is.there.1, length-append before (s ∷ [])));
            told = told ∙ is.told;
            events = events ∙ is.events ∙ ap (λ (x : Option Log). choose x (placed_in n) []) (sym front);
            variables = variables ∙ is.variables ∙ ap (λ (x : Option Log). choose x (λ (y : Log). variables_at y.header.vars p) []) (sym front);
          }

  -- the first source with lines of the process
  pub owner_comes : (o : Option ℕ) (k : ℕ) → k ≡ length before + 1 → IsOne (own_lines s) p → list_any (has_lines_of p) before ≡ false → IsOwner before p o → IsOwner (before ++ s ∷ []) p (Some k)
  owner_comes None k number one none is =
      let last = numbered_last k before s number in
      let same : 1 + length before ≡ k = omega (arith, number) in
      record {
        there = (omega (arith, number), omega (arith, number, length-append before (s ∷ [])));
        told = any-push p before s ∙ or_some (list_any (has_lines_of p) before) (has_lines_of p s) one.some;
        events = of-push ∙ ap (λ (xs : List Placed). xs ++ of_process p (placed_in (1 + length before) s)) is.events ∙ has_all p s one (1 + length before) ∙ ap (λ (n : ℕ). placed_in n s) same ∙ ap (λ (x : Option Log). choose x (placed_in k) []) (sym last);
        variables = variables-push p before s ∙ ap (λ (xs : List Binding). xs ++ variables_at s.header.vars p) is.variables ∙ ap (λ (x : Option Log). choose x (λ (y : Log). variables_at y.header.vars p) []) (sym last);
      }
  owner_comes (Some n) k number one none is = absurd (true≢false (sym is.told ∙ none))

-- where no source before it has lines of its process
pub alone_none : (before : List Log) (p line : ℕ) → not_alone before (One p line) ≡ None → list_any (has_lines_of p) before ≡ false
alone_none before p line e = go (list_any (has_lines_of p) before) e
  where
    go : (b : Bool) → cond b (found code.ProcessTwice line) None ≡ None → b ≡ false
    go true h = absurd (none-some _ (sym h))
    go false h = refl

pub owners_more : (before : List Log) (s : Log) (owners : List (Option ℕ)) (seen : Seen) (k : ℕ) → IsSource s → seen ≡ seen_of (own_lines s) → IsOfAProcess seen → k ≡ length before + 1 → length owners ≡ most_processes
    → not_alone before (seen_of (own_lines s)) ≡ None → AreOwners before owners → AreOwners (before ++ s ∷ []) (with_owner owners seen k)
owners_more before s owners Nothing k source is within number len none are = λ p lt.
    let empty : own_lines s ≡ [] = seen_none (own_lines s) (sym is) in
    owner_stays before s source p (get_or owners p None) (ap (list_any (is_of p)) empty) (are p lt)
owners_more before s owners (Two line) k source is within number len none are = absurd (none-some _ (sym (ap (not_alone before) is ∙ none)))
owners_more before s owners (One q line) k source is within number len none are = λ p lt. go p lt (cases_Bool (q == p))
  where
    one : IsOne (own_lines s) q
    one = seen_one_process (own_lines s) q line (sym is)

    go : (p : ℕ) → p < most_processes → ((q == p) ≡ true) ⊎ ((q == p) ≡ false) → IsOwner (before ++ s ∷ []) p (get_or (set owners q (Some k)) p None)
    go p lt (inl here) =
        let same : q ≡ p = eqb-true q p here in
        let there : q < length owners = omega (arith, len, within) in
        let at : get_or (set owners q (Some k)) p None ≡ Some k = ap (λ (n : ℕ). get_or (set owners q (Some k)) n None) (sym same) ∙ get_or-set_same owners q (Some k) None there in
        subst (IsOwner (before ++ s ∷ []) p) (sym at) (owner_comes before s source p (get_or owners p None) k number (subst (IsOne (own_lines s)) same one)
        (ap (λ (n : ℕ). list_any (has_lines_of n) before) (sym same) ∙ alone_none before q line (ap (not_alone before) is ∙ none)) (are p lt))
    go p lt (inr other) =
        let apart : q ≡ p → ⊥ = λ e. true≢false (sym (eq-eqb q p e) ∙ other) in
        let at : get_or (set owners q (Some k)) p None ≡ get_or owners p None = get_or-set_other owners q p (Some k) None (λ e. apart (sym e)) in
        subst (IsOwner (before ++ s ∷ []) p) (sym at) (owner_stays before s source p (get_or owners p None) (none_of_other q p (own_lines s) apart one.all) (are p lt))

-- no source has lines
pub no_owners : (p : ℕ) → IsOwner [] p None
no_owners p = record { there = tt; told = refl; events = refl; variables = refl }
