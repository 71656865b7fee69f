-- Each step keeps the rule.
use Rattle.std.proofs.Common.{◌≡◌, ℕ, zero, suc, ◌+◌, ◌^◌, ◌<◌, ◌≤◌, inl, inr, List, [], ◌∷◌, true, false, length, get_or, set, sum, take, max, Option, None, refl, arith, sym, ap, ◌∙◌, subst}
use Rattle.std.proofs.lemmas.List.{length-set, get_or-take}
use Rattle.std.proofs.Math.Seq.{take-set-lt}
use mathlib.Core.Option.{some, none}
use lib.ListN.{get_elem?}
use Rattle.atomic_table.specs.Table.{State, Me, step, keeps, Allows, Splits, Joins}
use Rattle.atomic_table.proofs.Lists.{at_set, at_snoc, set_again}
use Rattle.std.proofs.Math.Nat.{mul-le-mul_left}
use Rattle.pota_base.specs.Shape.{IsShape}
use Rattle.pull_system.specs.Vector.{IsAtMost, IsMaximum}
use Rattle.pull_system.specs.System.{SystemView}
use Rattle.pull_system.proofs.Climbing.{set_case}
use Rattle.raise_machine.specs.Bounds.{IsBound, AreBounds}
use Rattle.raise_machine.proofs.Raising.{bounds_set, bound_max}
use Rattle.bound_table.specs.declared.seat.SeenBounds.{SeenBounds}
use Rattle.bound_table.specs.inside.Kept.{larger}
use Rattle.bound_table.specs.inside.Rule.{word_count, Fits, HasBounds, BoundsHold, IsSound}
use Rattle.bound_table.specs.inside.Rule.{with_floor, nobody, together, Looked}
use Rattle.bound_table.specs.inside.Rule.{words_of, HasWords, KeepsOwn}
use Rattle.bound_table.specs.declared.seat.Begins.{Begins}
use Rattle.bound_table.specs.declared.seat.Begins.TheVariants.{Shared, Own}
use Rattle.pull_system.specs.Rows.{RowsView}
use Rattle.bound_table.specs.inside.Rule.{IsMachineStep, Lifted}

-- a list with one number put in a place, and another in the same place of a list above it
pub set_both : (xs ys : List ℕ) (i m n : ℕ) → IsAtMost xs ys → m ≤ n → length xs ≡ length ys → (j : ℕ) → get_or (set xs i m) j 0 ≤ get_or (set ys i n) j 0
set_both [] [] i m n within less size j = omega arith
set_both [] (y ∷ ys) i m n within less size j = absurd (omega arith)
set_both (x ∷ xs) [] i m n within less size j = absurd (omega arith)
set_both (x ∷ xs) (y ∷ ys) zero m n within less size zero = less
set_both (x ∷ xs) (y ∷ ys) zero m n within less size (suc j) = within.each (suc j)
set_both (x ∷ xs) (y ∷ ys) (suc i) m n within less size zero = within.each zero
set_both (x ∷ xs) (y ∷ ys) (suc i) m n within less size (suc j) = set_both xs ys i m n record { each = λ k. within.each (suc k) } less (omega arith) j

set_above : (xs : List ℕ) (i m : ℕ) → get_or xs i 0 ≤ m → (j : ℕ) → get_or xs j 0 ≤ get_or (set xs i m) j 0
set_above xs i m more j = elim (set_case xs i m j 0) [ inl e ↦ omega (arith, e) | inr e ↦ omega (arith, e.1, ap (λ k. get_or xs k 0) e.0) ]

-- The word i becomes m, no less than it was and a bound, and the floor of the seat that steps says so.
pub steps : (system : SystemView) (words : List ℕ) (views : List SeenBounds) (id : ℕ) (v : SeenBounds) (i m : ℕ) → HasBounds system words views → get_elem? views id ≡ some v → v.live ≡ true
    → get_or words i 0 ≤ m → IsBound system i m → HasBounds system (set words i m) (set views id (with_floor v (set v.floor i m)))
steps system words views id v i m kept here live more bound = record {
  bounds = bounds_set system words i m kept.bounds more bound;
  fits = λ j u at alive. elim (at_set views id j (with_floor v (set v.floor i m)) u at) [
    | inl mine ↦ let P : SeenBounds → Type 0 = Fits system (set words i m) in subst P mine.1 own
    | inr other ↦ others u (kept.fits j u other.1 alive)
  ];
}
  where
    before : Fits system words v
    before = kept.fits id v here live

    own : Fits system (set words i m) (with_floor v (set v.floor i m))
    own = record {
      one_system = before.one_system;
      size = length-set v.floor i m ∙ before.size ∙ sym (length-set words i m);
      above = record { each = λ j. omega (arith, before.above.each j, set_above v.floor i m (omega (arith, before.below.each i)) j) };
      below = record { each = set_both v.floor words i m m before.below (omega arith) before.size };
    }

    others : (u : SeenBounds) → Fits system words u → Fits system (set words i m) u
    others u fits = record {
      one_system = fits.one_system;
      size = fits.size ∙ sym (length-set words i m);
      above = fits.above;
      below = record { each = λ j. omega (arith, fits.below.each j, set_above words i m more j) };
    }

-- a table whose words are shared
abbrev pub IsShared : Begins → Type 0
IsShared (Shared floor) = Unit {0}
IsShared (Own rows) = ⊥

pub shares : (system : SystemView) (begins : Begins) (own : Option RowsView) → own ≡ None → KeepsOwn system begins own → IsShared begins
shares system (Shared floor) own is_none kept = tt
shares system (Own rows) own is_none kept = let P : Option RowsView → Type 0 = KeepsOwn system (Own rows) in subst P is_none kept

abbrev SharedHold : SystemView → State (Unit {0}) SeenBounds → Type 0
SharedHold system s = HasBounds system (take (word_count system.lens) s.words) s.views

-- the same in the table, whose bounds may have other words behind them
steps_table : (system : SystemView) (s : State (Unit {0}) SeenBounds) (id : ℕ) (v : SeenBounds) (i m : ℕ) → SharedHold system s → get_elem? s.views id ≡ some v → v.live ≡ true → i < word_count system.lens
    → get_or s.words i 0 ≤ m → IsBound system i m → HasBounds system (take (word_count system.lens) (set s.words i m)) (set s.views id (with_floor v (set v.floor i m)))
steps_table system s id v i m kept here live there more bound =
    let P : List ℕ → Type 0 = λ words. HasBounds system words (set s.views id (with_floor v (set v.floor i m))) in
    subst P (sym (take-set-lt (word_count system.lens) s.words i m there))
    (steps system (take (word_count system.lens) s.words) s.views id v i m kept here live (omega (arith, get_or-take (word_count system.lens) s.words i 0 there)) bound)

word_bound : (system : SystemView) (s : State (Unit {0}) SeenBounds) (i : ℕ) → SharedHold system s → i < word_count system.lens → IsBound system i (get_or s.words i 0)
word_bound system s i kept there = let P : ℕ → Type 0 = IsBound system i in subst P (get_or-take (word_count system.lens) s.words i 0 there) (kept.bounds.below i)

-- what the seat's floor is afterwards lies between the starts and the least closed vectors
stays_sound : (system : SystemView) (v : SeenBounds) (i m : ℕ) → v.system ≡ system → IsSound v → get_or v.floor i 0 ≤ m → IsBound system i m → IsSound (with_floor v (set v.floor i m))
stays_sound system v i m one sound more bound = record { live = sound.live; begun = record { each = λ j. omega (arith, sound.begun.each j, set_above v.floor i m more j) }; floor = bounds_set v.system v.floor i m sound.floor more (let P : SystemView → Type 0 = λ s. IsBound s i m in subst P (sym one) bound) }

below_word : (system : SystemView) (s : State (Unit {0}) SeenBounds) (id : ℕ) (v : SeenBounds) (i : ℕ) → SharedHold system s → get_elem? s.views id ≡ some v → v.live ≡ true → i < word_count system.lens → get_or v.floor i 0 ≤ get_or s.words i 0
below_word system s id v i kept here live there = omega (arith, (kept.fits id v here live).below.each i, get_or-take (word_count system.lens) s.words i 0 there)

-- a load keeps the rule
pub looks : (begins : Begins) (system : SystemView) (slots id : ℕ) (me : Me (Unit {0}) SeenBounds) (i : ℕ) → IsShared begins → me.0.system ≡ system → IsSound me.0 → i < word_count system.lens
    → Allows (BoundsHold begins system) slots id me i (λ n. n) (Looked (step slots i 0 0 none) me)
looks (Own rows) system slots id me i shared one sound there s kept homes here fits = absurd shared
looks (Shared floor) system slots id me i shared one sound there s kept homes here fits =
    let n = get_or s.words i 0 in
    let more = below_word system s id me.0 i kept here sound.live there in
    let bound = word_bound system s i kept there in (
      with_floor me.0 (set me.0.floor i n),
      keeps,
      tt,
      steps_table system s id me.0 i n kept here sound.live there (omega arith) bound,
      record { view = refl; slots = refl; rises = more; sound = stays_sound system me.0 i n one sound more bound },
    )

-- a raise to a bound keeps the rule
pub lifts : (begins : Begins) (system : SystemView) (slots id : ℕ) (me : Me (Unit {0}) SeenBounds) (i value : ℕ) → IsShared begins → me.0.system ≡ system → IsSound me.0 → i < word_count system.lens → IsMachineStep me.0.system me.0.floor i value → IsBound system i value
    → Allows (BoundsHold begins system) slots id me i (λ n. max n value) (Lifted (step slots i value 0 none) me)
lifts (Own rows) system slots id me i value shared one sound there machine asked s kept homes here fits = absurd shared
lifts (Shared floor) system slots id me i value shared one sound there machine asked s kept homes here fits =
    let n = max (get_or s.words i 0) value in
    let more : get_or me.0.floor i 0 ≤ n = omega (arith, below_word system s id me.0 i kept here sound.live there) in
    let bound = bound_max system i (get_or s.words i 0) value (word_bound system s i kept there) asked in (
      with_floor me.0 (set me.0.floor i n),
      keeps,
      tt,
      steps_table system s id me.0 i n kept here sound.live there (omega arith) bound,
      record { machine = machine; view = refl; slots = refl; rises = more; sound = stays_sound system me.0 i n one sound more bound },
    )

-- a second seat that knows the same keeps the rule
pub splits : (begins : Begins) (system : SystemView) (id : ℕ) (v : SeenBounds) → Splits (BoundsHold begins system) id v v v
splits begins system id v s kept here = record {
  bounds = kept.bounds;
  fits = λ j u at alive. elim (at_snoc (set s.views id v) v u j at) [
    | inl before ↦ let P : List SeenBounds → Type 0 = λ views. get_elem? views j ≡ some u in kept.fits j u (subst P (set_again s.views id v here) before) alive
    | inr new ↦ let P : SeenBounds → Type 0 = Fits system (words_of begins system.lens s.words) in let Q : SeenBounds → Type 0 = λ w. w.live ≡ true in subst P new (kept.fits id v here (subst Q (sym new) alive))
  ];
}

larger_case : (xs ys : List ℕ) (i : ℕ) → get_or (larger xs ys) i 0 ≡ max (get_or xs i 0) (get_or ys i 0)
larger_case [] ys i = omega arith
larger_case (x ∷ xs) [] i = omega arith
larger_case (x ∷ xs) (y ∷ ys) zero = refl
larger_case (x ∷ xs) (y ∷ ys) (suc i) = larger_case xs ys i

length-larger : (xs ys : List ℕ) → length xs ≡ length ys → length (larger xs ys) ≡ length xs
length-larger [] [] size = refl
length-larger [] (y ∷ ys) size = absurd (omega arith)
length-larger (x ∷ xs) [] size = refl
length-larger (x ∷ xs) (y ∷ ys) size = ap (λ n. suc n) (length-larger xs ys (omega arith))

-- a seat that takes in what another knows keeps the rule
pub meets : (begins : Begins) (system : SystemView) (id other : ℕ) (v w : SeenBounds) → v.live ≡ true → w.live ≡ true → Joins (BoundsHold begins system) id v other w (together v w) nobody
meets begins system id other v w live_v live_w s kept here apart there = record {
  bounds = kept.bounds;
  fits = λ j u at alive. elim (at_set (set s.views id (together v w)) other j nobody u at) [
    | inl spent ↦ let Q : SeenBounds → Type 0 = λ x. x.live ≡ true in let e : false ≡ true = subst Q (sym spent.1) alive in absurd (cc)
    | inr left ↦
        elim (at_set s.views id j (together v w) u left.1) [
          | inl mine ↦ let P : SeenBounds → Type 0 = Fits system (words_of begins system.lens s.words) in subst P mine.1 both
          | inr before ↦ kept.fits j u before.1 alive
        ]
  ];
}
  where
    fits_v : Fits system (words_of begins system.lens s.words) v
    fits_v = kept.fits id v here live_v

    fits_w : Fits system (words_of begins system.lens s.words) w
    fits_w =
        elim (at_set s.views id other (together v w) w there) [
          | inl same ↦ absurd (apart same.0)
          | inr before ↦ kept.fits other w before.1 live_w
        ]

    both : Fits system (words_of begins system.lens s.words) (together v w)
    both = record {
      one_system = fits_v.one_system;
      size = length-larger v.floor w.floor (omega (arith, fits_v.size, fits_w.size)) ∙ fits_v.size;
      above = record { each = λ i. omega (arith, fits_v.above.each i, larger_case v.floor w.floor i) };
      below = record { each = λ i. omega (arith, fits_v.below.each i, fits_w.below.each i, larger_case v.floor w.floor i) };
    }

-- a shape has a word
pub some_words : (lens : List ℕ) → IsShape lens → 0 < word_count lens
some_words lens shape = omega (arith, shape.some, mul-le-mul_left (sum lens + 1) (shape.some))

-- the places of its words fit in 64 bits
pub few_words : (lens : List ℕ) → IsShape lens → word_count lens < 2 ^ 64
few_words lens shape = omega (arith, shape.events, mul-le-mul_left (sum lens + 1) shape.few)

pub together_sound : (v w : SeenBounds) → v.system ≡ w.system → IsSound v → IsSound w → IsSound (together v w)
together_sound v w one sound_v sound_w = record {
  live = sound_v.live;
  begun = record { each = λ i. omega (arith, sound_v.begun.each i, larger_case v.floor w.floor i) };
  floor = record {
    size = length-larger v.floor w.floor (omega (arith, sound_v.floor.size, size_w)) ∙ sound_v.floor.size;
    above = record { each = λ i. omega (arith, sound_v.floor.above.each i, larger_case v.floor w.floor i) };
    below = λ place. let P : ℕ → Type 0 = IsBound v.system place in subst P (sym (larger_case v.floor w.floor place)) (bound_max v.system place _ _ (sound_v.floor.below place) (floor_w.below place));
  };
}
  where
    floor_w : AreBounds v.system w.floor
    floor_w = let P : SystemView → Type 0 = λ s. AreBounds s w.floor in subst P (sym one) sound_w.floor

    size_w : length w.floor ≡ word_count v.system.lens
    size_w = floor_w.size

pub met_maximum : (xs ys v w met : List ℕ) → v ≡ xs → w ≡ ys → met ≡ larger xs ys → length xs ≡ length ys → IsMaximum v w met
met_maximum xs ys v w met same_v same_w same size = record {
  size = omega (arith, ap (λ z. length z) same_v, ap (λ z. length z) same, length-larger xs ys size);
  each = λ i. omega (arith, ap (λ z. get_or z i 0) same_v, ap (λ z. get_or z i 0) same_w, ap (λ z. get_or z i 0) same, larger_case xs ys i);
}

pub has_word : (begins : Begins) (lens : List ℕ) (count : ℕ) → IsShape lens → HasWords begins lens count → 0 < count
has_word (Shared floor) lens count shape has = omega (arith, has, some_words lens shape)
has_word (Own rows) lens count shape has = has

pub shared_words : (begins : Begins) (lens : List ℕ) (count : ℕ) → IsShared begins → HasWords begins lens count → count ≡ word_count lens
shared_words (Shared floor) lens count shared has = has
shared_words (Own rows) lens count shared has = absurd shared
