-- Items to the end of the line, and clocks: what is read is spelled so, and what is spelled so is read.
use Rattle.std.proofs.Common.{◌≡◌, ℕ, zero, suc, ◌-◌, ◌^◌, ◌<◌, ◌≤◌, ◌++◌, List, [], ◌∷◌, length, Option, Some, None, true, false, refl, sym, ap, subst, ◌∙◌, arith, inl, inr, append_assoc, length-append}
use Rattle.std.specs.Prelude.{◌==◌}
use Rattle.std.specs.List.{AllByRecursion}
use Rattle.std.proofs.lemmas.Bool.{cases_Bool, eqb-true, ne_eqb}
use Rattle.std.proofs.lemmas.List.{append-nil, nil_from_length}
use Rattle.std.proofs.lemmas.Option.{same_Some, cond_some, none-some}
use Rattle.std.specs.Fmt.{decimal}
use Rattle.log_lines.specs.Names.{Name, is_name}
use Rattle.log_lines.specs.Spelling.{NamedValue, ValueFits, names_text, values_text, clock_rest, clock_text, event_clock_text, ClockFits}
use Rattle.log_lines.specs.Reading.{◌>>=◌, choose, number_at, text_at, spaced_name_at, value_at, items_from, names_from, values_from, clock_from, clock_at, event_clock_at}
use Rattle.pota_base.specs.Number.{digits_from}
use Rattle.pota_base.proofs.NumberLaws.{number_takes, number_again, starts_digit}
use Rattle.log_lines.proofs.WordLaws.{bind_some, text_takes, spaced_name_takes, spaced_name_again, starts_name}
use Rattle.log_lines.proofs.SignedLaws.{value_text, value_takes, value_again}

-- the items spelled one after the other
abbrev pub items_text : {A : Type 0} → (A → List ℕ → List ℕ) → List A → List ℕ
items_text spell [] = []
items_text spell (x ∷ xs) = spell x (items_text spell xs)

pub record ItemsTaken {A : Type 0} (spell : A → List ℕ → List ℕ) (Fits : A → Type 0) (most : ℕ) (front : List A) (bytes : List ℕ) (v : List A) : Type 0 where
  pub more : List A
  pub all : v ≡ front ++ more
  pub text : bytes ≡ items_text spell more
  pub few : length more ≤ most
  pub fits : AllByRecursion Fits more

module _ {A : Type 0} (item_at : List ℕ → Option (A × List ℕ)) (spell : A → List ℕ → List ℕ) (Fits : A → Type 0) where
  none_taken : (most : ℕ) (front : List A) (bytes : List ℕ) (v : List A) → (length bytes == 0) ≡ true → front ≡ v → ItemsTaken spell Fits most front bytes v
  none_taken most front bytes v empty same = record {
    more = [];
    all = sym same ∙ sym (append-nil front);
    text = nil_from_length bytes (eqb-true _ _ empty);
    few = omega arith;
    fits = tt;
  }

  pub items_take : (takes : (xs : List ℕ) (x : A) (rest : List ℕ) → item_at xs ≡ Some (x, rest) → (xs ≡ spell x rest) × Fits x)
      → (most : ℕ) (front : List A) (bytes : List ℕ) (v : List A) → items_from item_at most front bytes ≡ Some v → ItemsTaken spell Fits most front bytes v
  unfolding items_from
  items_take takes zero front bytes v h =
      let g = cond_some _ front v h in
      none_taken zero front bytes v g.0 g.1
  items_take takes (suc most) front bytes v h = elim (cases_Bool (length bytes == 0)) [
    | inl empty ↦ none_taken (suc most) front bytes v empty (same_Some _ _ (rw empty at h))
    | inr some ↦
        let b = bind_some (item_at bytes) _ v (rw some at h) in
        let one = takes bytes b.0.0 b.0.1 b.1 in
        let others = items_take takes most (front ++ b.0.0 ∷ []) b.0.1 v b.2 in
        record {
          more = b.0.0 ∷ others.more;
          all = others.all ∙ append_assoc front (b.0.0 ∷ []) others.more;
          text = one.0 ∙ ap (spell b.0.0) others.text;
          few = omega (arith, others.few);
          fits = (one.1, others.fits);
        }
  ]

  pub items_again : (again : (x : A) (xs : List A) → Fits x → item_at (spell x (items_text spell xs)) ≡ Some (x, items_text spell xs))
      → (some : (x : A) (rest : List ℕ) → (length (spell x rest) == 0) ≡ false)
      → (most : ℕ) (front xs : List A) → length xs ≤ most → AllByRecursion Fits xs → items_from item_at most front (items_text spell xs) ≡ Some (front ++ xs)
  unfolding items_from
  items_again again some zero front [] few fits = ap (λ (l : List A). Some l) (sym (append-nil front))
  items_again again some zero front (x ∷ xs) few fits = absurd (omega arith)
  items_again again some (suc most) front [] few fits = ap (λ (l : List A). Some l) (sym (append-nil front))
  items_again again some (suc most) front (x ∷ xs) few fits =
      rw (some x (items_text spell xs), again x xs fits.0)
      (items_again again some most (front ++ x ∷ []) xs (omega arith) fits.1 ∙ ap (λ (l : List A). Some l) (append_assoc front (x ∷ []) xs))

-- ---- names

abbrev name_text : Name → List ℕ → List ℕ
name_text n rest = 32 ∷ (n ++ rest)

abbrev NameFits : Name → Type 0
NameFits n = is_name n ≡ true

names_spelled : (ns : List Name) → items_text name_text ns ≡ names_text ns
names_spelled [] = refl
names_spelled (n ∷ ns) = ap (name_text n) (names_spelled ns)

names_stop : (ns : List Name) → starts_name (items_text name_text ns) ≡ false
names_stop [] = refl
names_stop (n ∷ ns) = refl

pub record NamesTaken (most : ℕ) (bytes : List ℕ) (names : List Name) : Type 0 where
  pub text : bytes ≡ names_text names
  pub few : length names ≤ most
  pub fits : AllByRecursion NameFits names

pub names_take : (most : ℕ) (bytes : List ℕ) (names : List Name) → names_from most [] bytes ≡ Some names → NamesTaken most bytes names
names_take most bytes names h =
    let t = items_take spaced_name_at name_text NameFits (λ xs x rest g. let n = spaced_name_takes xs x rest g in (n.text, n.fits)) most [] bytes names h in
    rw t.all (record { text = t.text ∙ names_spelled t.more; few = t.few; fits = t.fits })

pub names_again : (most : ℕ) (names : List Name) → length names ≤ most → AllByRecursion NameFits names → names_from most [] (names_text names) ≡ Some names
names_again most names few fits =
    rw (← names_spelled names) (items_again spaced_name_at name_text NameFits (λ x xs f. spaced_name_again x (items_text name_text xs) f (names_stop xs)) (λ x rest. ne_eqb (suc (length (x ++ rest))) 0 (omega arith)) most [] names few fits)

-- ---- values

values_spelled : (vs : List NamedValue) → items_text value_text vs ≡ values_text vs
values_spelled [] = refl
values_spelled (v ∷ vs) = ap (value_text v) (values_spelled vs)

values_stop : (vs : List NamedValue) → starts_digit (items_text value_text vs) ≡ false
values_stop [] = refl
values_stop (v ∷ vs) = refl

pub record ValuesTaken (most : ℕ) (bytes : List ℕ) (vs : List NamedValue) : Type 0 where
  pub text : bytes ≡ values_text vs
  pub few : length vs ≤ most
  pub fits : AllByRecursion ValueFits vs

pub values_take : (most : ℕ) (bytes : List ℕ) (vs : List NamedValue) → values_from most [] bytes ≡ Some vs → ValuesTaken most bytes vs
values_take most bytes vs h =
    let t = items_take value_at value_text ValueFits (λ xs x rest g. let n = value_takes xs x rest g in (n.text, n.fits)) most [] bytes vs h in
    rw t.all (record { text = t.text ∙ values_spelled t.more; few = t.few; fits = t.fits })

pub values_from_again : (most : ℕ) (vs : List NamedValue) → length vs ≤ most → AllByRecursion ValueFits vs → values_from most [] (values_text vs) ≡ Some vs
values_from_again most vs few fits =
    rw (← values_spelled vs) (items_again value_at value_text ValueFits (λ x xs f. value_again x (items_text value_text xs) f (values_stop xs)) (λ x rest. ne_eqb (length (value_text x rest)) 0 (omega arith)) most [] vs few fits)

-- ---- clocks

abbrev FitsClock : ℕ → Type 0
FitsClock n = n < 2 ^ 32

record ClockRestTaken (front bytes v rest : List ℕ) : Type 0 where
  more : List ℕ
  all : v ≡ front ++ more
  text : bytes ≡ clock_rest more ++ rest
  fits : AllByRecursion FitsClock more

clock_rest_takes : (fuel : ℕ) (front bytes v rest : List ℕ) → clock_from fuel front bytes ≡ Some (v, rest) → ClockRestTaken front bytes v rest
unfolding clock_from
clock_rest_takes zero front bytes v rest h =
    subst (λ (p : List ℕ × List ℕ). ClockRestTaken front bytes p.0 p.1) (same_Some _ _ h) (record { more = []; all = sym (append-nil front); text = refl; fits = tt })
clock_rest_takes (suc fuel) front bytes v rest h = elim (text_at (44 ∷ []) bytes) as (λ o. text_at (44 ∷ []) bytes ≡ o → choose o (λ after. number_at (2 ^ 32 - 1) after >>= λ n. clock_from fuel (front ++ n.0 ∷ []) n.1) (Some (front, bytes)) ≡ Some (v, rest) → ClockRestTaken front bytes v rest) [
  | None ↦ λ _ g. subst (λ (p : List ℕ × List ℕ). ClockRestTaken front bytes p.0 p.1) (same_Some _ _ g) (record { more = []; all = sym (append-nil front); text = refl; fits = tt })
  | Some after ↦ λ comma g.
      let b = bind_some (number_at (2 ^ 32 - 1) after) _ (v, rest) g in
      let n = number_takes (2 ^ 32 - 1) after b.0.0 b.0.1 (omega arith) b.1 in
      let bound : b.0.0 < 2 ^ 32 = omega (arith, n.bound) in
      let others = clock_rest_takes fuel (front ++ b.0.0 ∷ []) b.0.1 v rest b.2 in
      record {
        more = b.0.0 ∷ others.more;
        all = others.all ∙ append_assoc front (b.0.0 ∷ []) others.more;
        text = text_takes (44 ∷ []) bytes after comma ∙ ap (λ (t : List ℕ). 44 ∷ t) (n.text ∙ ap (λ (t : List ℕ). decimal b.0.0 ++ t) others.text ∙ sym (append_assoc (decimal b.0.0) (clock_rest others.more) rest));
        fits = (bound, others.fits);
      }
] refl h

pub record ClockTaken (xs v rest : List ℕ) : Type 0 where
  pub text : xs ≡ clock_text v ++ rest
  pub fits : ClockFits v

pub clock_takes : (xs v rest : List ℕ) → clock_at xs ≡ Some (v, rest) → ClockTaken xs v rest
unfolding clock_at
clock_takes xs v rest h =
    let b = bind_some (number_at (2 ^ 32 - 1) xs) _ (v, rest) h in
    let n = number_takes (2 ^ 32 - 1) xs b.0.0 b.0.1 (omega arith) b.1 in
    let bound : b.0.0 < 2 ^ 32 = omega (arith, n.bound) in
    let others = clock_rest_takes (length b.0.1) (b.0.0 ∷ []) b.0.1 v rest b.2 in
    let text : xs ≡ clock_text (b.0.0 ∷ others.more) ++ rest = n.text ∙ ap (λ (t : List ℕ). decimal b.0.0 ++ t) others.text ∙ sym (append_assoc (decimal b.0.0) (clock_rest others.more) rest) in
    rw others.all (record { text = text; fits = record { some = omega arith; each = (bound, others.fits) } })

clock_rest_stops : (ns rest : List ℕ) → starts_digit rest ≡ false → starts_digit (clock_rest ns ++ rest) ≡ false
clock_rest_stops [] rest h = h
clock_rest_stops (n ∷ ns) rest h = refl

length-clock_rest : (ns : List ℕ) → length ns ≤ length (clock_rest ns)
length-clock_rest [] = omega arith
length-clock_rest (n ∷ ns) = omega (arith, length-append (decimal n) (clock_rest ns), length-clock_rest ns)

clock_rest_again : (fuel : ℕ) (front ns rest : List ℕ) → length ns ≤ fuel → AllByRecursion FitsClock ns → text_at (44 ∷ []) rest ≡ None → starts_digit rest ≡ false → clock_from fuel front (clock_rest ns ++ rest) ≡ Some (front ++ ns, rest)
unfolding clock_from text_at
clock_rest_again zero front [] rest few fits end stops = ap (λ (l : List ℕ). Some (l, rest)) (sym (append-nil front))
clock_rest_again zero front (n ∷ ns) rest few fits end stops = absurd (omega arith)
clock_rest_again (suc fuel) front [] rest few fits end stops = rw end (ap (λ (l : List ℕ). Some (l, rest)) (sym (append-nil front)))
clock_rest_again (suc fuel) front (n ∷ ns) rest few fits end stops =
    rw (append_assoc (decimal n) (clock_rest ns) rest, number_again (2 ^ 32 - 1) n (clock_rest ns ++ rest) (omega arith) (omega (arith, fits.0)) (clock_rest_stops ns rest stops))
    (clock_rest_again fuel (front ++ n ∷ []) ns rest (omega arith) fits.1 end stops ∙ ap (λ (l : List ℕ). Some (l, rest)) (append_assoc front (n ∷ []) ns))

pub clock_again : (ns rest : List ℕ) → ClockFits ns → text_at (44 ∷ []) rest ≡ None → starts_digit rest ≡ false → clock_at (clock_text ns ++ rest) ≡ Some (ns, rest)
unfolding clock_at
clock_again [] rest fits end stops = absurd (omega (arith, fits.some))
clock_again (n ∷ ns) rest fits end stops =
    rw (append_assoc (decimal n) (clock_rest ns) rest, number_again (2 ^ 32 - 1) n (clock_rest ns ++ rest) (omega arith) (omega (arith, fits.each.0)) (clock_rest_stops ns rest stops))
    (clock_rest_again (length (clock_rest ns ++ rest)) (n ∷ []) ns rest (omega (arith, length-clock_rest ns, length-append (clock_rest ns) rest)) fits.each.1 end stops)

-- ---- clocks of events

abbrev Small : List ℕ → Type 0
Small ns = AllByRecursion (λ n. n < 2 ^ 32) ns

number_tilde : (after : List ℕ) → number_at (2 ^ 32 - 1) (126 ∷ after) ≡ None
unfolding digits_from
number_tilde after = refl

-- what begins with a number is no clock that is left out
no_tilde : (xs : List ℕ) (n : ℕ × List ℕ) → number_at (2 ^ 32 - 1) xs ≡ Some n → (o : Option (List ℕ)) → text_at (126 ∷ []) xs ≡ o → o ≡ None
no_tilde xs n is None at = refl
no_tilde xs n is (Some after) at =
    absurd (none-some n (sym (number_tilde after) ∙ ap (number_at (2 ^ 32 - 1)) (sym (text_takes (126 ∷ []) xs after at)) ∙ is))

-- counts that are read are the clock
pub counts_are : (xs : List ℕ) (x : List ℕ × List ℕ) → clock_at xs ≡ Some x → event_clock_at xs ≡ Some x
unfolding clock_at event_clock_at
counts_are xs x h =
    let n = bind_some (number_at (2 ^ 32 - 1) xs) _ x h in
    rw (no_tilde xs n.0 n.1 (text_at (126 ∷ []) xs) refl) h

pub counts_given : (xs : List ℕ) (n : ℕ × List ℕ) → number_at (2 ^ 32 - 1) xs ≡ Some n → event_clock_at xs ≡ clock_from (length n.1) (n.0 ∷ []) n.1
unfolding clock_at event_clock_at
counts_given xs n h = rw (no_tilde xs n h (text_at (126 ∷ []) xs) refl, h) refl

pub left_out : (xs after : List ℕ) → text_at (126 ∷ []) xs ≡ Some after → event_clock_at xs ≡ Some ([], after)
unfolding event_clock_at
left_out xs after h = rw h refl

pub not_left_out : (xs : List ℕ) → number_at (2 ^ 32 - 1) xs ≡ None → text_at (126 ∷ []) xs ≡ None → event_clock_at xs ≡ None
unfolding clock_at event_clock_at
not_left_out xs none no_tilde = rw (no_tilde, none) refl

pub written_text : (ns : List ℕ) → 0 < length ns → event_clock_text ns ≡ clock_text ns
written_text [] some = absurd (omega arith)
written_text (n ∷ ns) some = refl

pub record EventClockTaken (xs v rest : List ℕ) : Type 0 where
  pub text : xs ≡ event_clock_text v ++ rest
  pub fits : Small v

pub event_clock_takes : (xs v rest : List ℕ) → event_clock_at xs ≡ Some (v, rest) → EventClockTaken xs v rest
unfolding event_clock_at
event_clock_takes xs v rest h = go (text_at (126 ∷ []) xs) refl h
  where
    go : (o : Option (List ℕ)) → text_at (126 ∷ []) xs ≡ o → choose o (λ after. Some ([], after)) (clock_at xs) ≡ Some (v, rest) → EventClockTaken xs v rest
    go (Some after) at g = subst (λ (p : List ℕ × List ℕ). EventClockTaken xs p.0 p.1) (same_Some _ _ g) (record { text = text_takes (126 ∷ []) xs after at; fits = tt })
    go None at g =
        let taken = clock_takes xs v rest g in
        record { text = taken.text ∙ ap (λ (t : List ℕ). t ++ rest) (sym (written_text v taken.fits.some)); fits = taken.fits.each }

pub event_clock_again : (ns rest : List ℕ) → Small ns → text_at (44 ∷ []) rest ≡ None → starts_digit rest ≡ false → event_clock_at (event_clock_text ns ++ rest) ≡ Some (ns, rest)
unfolding event_clock_at text_at
event_clock_again [] rest fits end stops = refl
event_clock_again (n ∷ ns) rest fits end stops =
    let clock_fits : ClockFits (n ∷ ns) = record { some = omega arith; each = fits } in
    counts_are (clock_text (n ∷ ns) ++ rest) (n ∷ ns, rest) (clock_again (n ∷ ns) rest clock_fits end stops)
