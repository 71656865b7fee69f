-- The names `P1` to `P32` are names, and distinct.
use Rattle.std.proofs.Common.{◌≡◌, ℕ, zero, suc, ◌+◌, ◌-◌, ◌<◌, ◌≤◌, Bool, true, false, not, List, [], ◌∷◌, ◌++◌, replicate, refl, sym, ap, ◌∙◌, subst, arith, cond}
use Rattle.std.specs.Prelude.{Option, None, Some, is_some, MatchOption, IsTrue, IsSome}
use Rattle.std.specs.Fmt.{digits}
use Rattle.std.specs.List.{AllByRecursion}
use Rattle.std.specs.Str.{bytes_eq}
use Rattle.std.proofs.lemmas.Bool.{and_parts, and_from, not-false, not-true, true≢false}
use Rattle.pota_base.specs.Limits.{most_processes}
use Rattle.log_lines.specs.Names.{Name, is_name, are_distinct, place_from, place_of}
use Rattle.vector_clock.specs.Events.{some_below}
use Rattle.vector_clock.proofs.Below.{none_below}
use Rattle.trace_gen.specs.Generated.{name_of, names_from}

none_unnamed : some_below most_processes (λ n. not (is_name (name_of n))) ≡ false
unfolding digits some_below
none_unnamed = refl

pub name_is_there : (i : ℕ) → i < most_processes → is_name (name_of i) ≡ true
name_is_there i lt = not-false (is_name (name_of i)) (none_below (λ n. not (is_name (name_of n))) most_processes none_unnamed i lt)

-- so it is found where a name is looked for
pub name_found : (i : ℕ) (text : List ℕ) (found : Option Name) → i < most_processes → text ≡ name_of i → MatchOption found (is_name text ≡ false) (λ name. IsTrue (is_name text) × (name ≡ text)) → IsSome found
name_found i text (Some name) lt is h = refl
name_found i text None lt is h = absurd (true≢false (sym (ap is_name is ∙ name_is_there i lt) ∙ h))

-- ---- distinct names

names_last : (i n : ℕ) → names_from i n ++ name_of (i + n) ∷ [] ≡ names_from i (suc n)
names_last i zero = ap (λ k. name_of k ∷ []) (omega arith)
names_last i (suc n) = ap (λ (ns : List Name). name_of i ∷ ns) (ap (λ k. names_from (i + 1) n ++ name_of k ∷ []) (omega arith) ∙ names_last (i + 1) n)

-- one name more
pub names_push : (n : ℕ) → names_from 0 n ++ name_of n ∷ [] ≡ names_from 0 (n + 1)
names_push n =
    let here : 0 + n ≡ n = omega arith in
    let more : suc n ≡ n + 1 = omega arith in
    ap (λ k. names_from 0 n ++ name_of k ∷ []) (sym here) ∙ names_last 0 n ∙ ap (names_from 0) more

names_more : (i n m : ℕ) → names_from i (n + m) ≡ names_from i n ++ names_from (i + n) m
names_more i zero m =
    let none : 0 + m ≡ m = omega arith in
    let here : i ≡ i + 0 = omega arith in
    ap (names_from i) none ∙ ap (λ k. names_from k m) here
names_more i (suc n) m =
    let more : suc n + m ≡ suc (n + m) = omega arith in
    let here : i + 1 + n ≡ i + suc n = omega arith in
    ap (names_from i) more ∙ ap (λ (ns : List Name). name_of i ∷ ns) (names_more (i + 1) n m ∙ ap (λ k. names_from (i + 1) n ++ names_from k m) here)

found_still : (s : ℕ) (xs ys : List Name) (name : Name) → is_some (place_from s (xs ++ ys) name) ≡ false → is_some (place_from s xs name) ≡ false
found_still s [] ys name h = refl
found_still s (x ∷ xs) ys name h = go (bytes_eq x name) h (found_still (s + 1) xs ys name)
  where
    go : (b : Bool) → is_some (cond b (Some s) (place_from (s + 1) (xs ++ ys) name)) ≡ false → (is_some (place_from (s + 1) (xs ++ ys) name) ≡ false → is_some (place_from (s + 1) xs name) ≡ false)
        → is_some (cond b (Some s) (place_from (s + 1) xs name)) ≡ false
    go true h rest = h
    go false h rest = rest h

distinct_front : (xs ys : List Name) → are_distinct (xs ++ ys) ≡ true → are_distinct xs ≡ true
distinct_front [] ys h = refl
distinct_front (x ∷ xs) ys h =
    let parts = and_parts (not (is_some (place_of (xs ++ ys) x))) (are_distinct (xs ++ ys)) h in
    and_from _ _ (ap not (found_still 0 xs ys x (not-true _ parts.0))) (distinct_front xs ys parts.1)

most_distinct : are_distinct (names_from 0 most_processes) ≡ true
unfolding digits
most_distinct = refl

pub names_distinct : (n : ℕ) → n ≤ most_processes → are_distinct (names_from 0 n) ≡ true
names_distinct n few =
    let all : n + (most_processes - n) ≡ most_processes = omega arith in
    distinct_front (names_from 0 n) (names_from (0 + n) (most_processes - n)) (subst (λ (ns : List Name). are_distinct ns ≡ true) (names_more 0 n (most_processes - n)) (subst (λ k. are_distinct (names_from 0 k) ≡ true) (sym all) most_distinct))

pub names_are : (i n : ℕ) → i + n ≤ most_processes → AllByRecursion (λ name. is_name name ≡ true) (names_from i n)
names_are i zero lt = tt
names_are i (suc n) lt = (name_is_there i (omega arith), names_are (i + 1) n (omega arith))

-- ---- a list of the same, one more

pub replicate_more : {A : Type 0} (n : ℕ) (x : A) → replicate n x ++ x ∷ [] ≡ replicate (n + 1) x
replicate_more n x = let next : suc n ≡ n + 1 = omega arith in more n ∙ ap (λ k. replicate k x) next
  where
    more : (k : ℕ) → replicate k x ++ x ∷ [] ≡ replicate (suc k) x
    more zero = refl
    more (suc k) = ap (λ xs. x ∷ xs) (more k)
