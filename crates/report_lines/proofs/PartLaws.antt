-- Parts of lines: what is read is spelled so, and what is spelled so is read.
use Rattle.std.proofs.Common.{◌≡◌, ℕ, zero, suc, ◌+◌, ◌-◌, ◌^◌, ◌<◌, ◌≤◌, Bool, true, false, Option, Some, None, List, [], ◌∷◌, ◌++◌, length, sum, refl, sym, ap, subst, ◌∙◌, arith, inl, inr, append_assoc}
use Rattle.std.specs.Prelude.{◌==◌, nat_le, codes}
use Rattle.std.specs.List.{AllByRecursion}
use Rattle.std.specs.Fmt.{decimal}
use Rattle.std.proofs.lemmas.Bool.{cases_Bool, eqb-true, eqb-false, eq-eqb, ne_eqb, leb-true, le-leb}
use Rattle.std.proofs.lemmas.List.{append-nil, nil_from_length}
use Rattle.std.proofs.lemmas.Option.{same_Some, cond_some}
use Rattle.run_model.specs.Cut.{Cut, count, IsWithin}
use Rattle.pota_base.specs.declared.shape.EventId.{EventId}
use Rattle.pota_base.specs.Shape.{HasEvent}
use Rattle.pota_base.specs.Number.{number_at}
use Rattle.pota_base.proofs.NumberLaws.{number_takes, number_again, starts_digit}
use Rattle.pota_base.specs.Limits.{most_events}
use Rattle.log_lines.specs.Names.{Name, is_name, place_of}
use Rattle.log_lines.specs.Spelling.{ClockFits, clock_text}
use Rattle.log_lines.specs.Reading.{text_at, spaced_name_at, clock_at}
use Rattle.log_lines.proofs.WordLaws.{bind_some, text_takes, text_again, spaced_name_takes, spaced_name_again}
use Rattle.log_lines.proofs.ItemLaws.{clock_takes, clock_again}
use Rattle.event_log.specs.LogText.{name_at}
use Rattle.event_log.proofs.NameLaws.{place_some, place_again}
use Rattle.event_log.proofs.Keeping.{item_le_sum}
use Rattle.report_lines.specs.Spelling.{event_text, IsPositive, LengthsFit, CutFits, RunFits}
use Rattle.report_lines.specs.Reading.{alone, positive_at, are_within, cut_at, within_at, event_at}
use Rattle.report_lines.proofs.Cuts.{within_is, within_again}

-- ---- the end of a line

pub record IsAlone {A : Type 0} (read : A × List ℕ) (x : A) : Type 0 where
  pub value : read.0 ≡ x
  pub end : read.1 ≡ []

pub alone_takes : {A : Type 0} (read : A × List ℕ) (x : A) → alone read ≡ Some x → IsAlone read x
alone_takes read x h =
    let p = cond_some (length read.1 == 0) read.0 x h in
    record { value = p.1; end = nil_from_length read.1 (eqb-true (length read.1) 0 p.0) }

-- ---- numbers

pub record PositiveTaken (xs : List ℕ) (n : ℕ) (rest : List ℕ) : Type 0 where
  pub text : xs ≡ decimal n ++ rest
  pub fits : IsPositive n

pub positive_takes : (xs : List ℕ) (n : ℕ) (rest : List ℕ) → positive_at xs ≡ Some (n, rest) → PositiveTaken xs n rest
unfolding positive_at
positive_takes xs n rest h =
    let b = bind_some (number_at (2 ^ 32 - 1) xs) _ (n, rest) h in
    let t = number_takes (2 ^ 32 - 1) xs b.0.0 b.0.1 (omega arith) b.1 in
    elim (cases_Bool (b.0.0 == 0)) [
      | inl none ↦ absurd (cc (rw none at b.2))
      | inr some ↦
          let other = eqb-false b.0.0 0 some in
          let taken : PositiveTaken xs b.0.0 b.0.1 = record { text = t.text; fits = record { some = omega arith; small = omega (arith, t.bound) } } in
          subst (λ (p : ℕ × List ℕ). PositiveTaken xs p.0 p.1) (same_Some _ _ (rw some at b.2)) taken
    ]

pub positive_again : (n : ℕ) (rest : List ℕ) → IsPositive n → starts_digit rest ≡ false → positive_at (decimal n ++ rest) ≡ Some (n, rest)
unfolding positive_at
positive_again n rest fits stops =
    rw (number_again (2 ^ 32 - 1) n rest (omega arith) (omega (arith, fits.small)) stops, ne_eqb n 0 (omega (arith, fits.some))) refl

pub positive_end : (n : ℕ) → IsPositive n → positive_at (decimal n) ≡ Some (n, [])
positive_end n fits = ap positive_at (sym (append-nil (decimal n))) ∙ positive_again n [] fits refl

-- ---- cuts

pub record CutTaken (procs : ℕ) (xs : List ℕ) (c : Cut) (rest : List ℕ) : Type 0 where
  pub text : xs ≡ clock_text c ++ rest
  pub width : length c ≡ procs

pub cut_takes : (width : ℕ) (xs : List ℕ) (c : Cut) (rest : List ℕ) → cut_at width xs ≡ Some (c, rest) → CutTaken width xs c rest
unfolding cut_at
cut_takes width xs c rest h =
    let b = bind_some (clock_at xs) _ (c, rest) h in
    let g = cond_some (length b.0.0 == width) b.0 (c, rest) b.2 in
    let taken : CutTaken width xs b.0.0 b.0.1 = record { text = (clock_takes xs b.0.0 b.0.1 b.1).text; width = eqb-true (length b.0.0) width g.0 } in
    subst (λ (p : Cut × List ℕ). CutTaken width xs p.0 p.1) g.1 taken

-- counts of at most 50,000 have a spelling
pub small_counts : (c : Cut) → ((i : ℕ) → count c i ≤ most_events) → AllByRecursion (λ n. n < 2 ^ 32) c
small_counts [] h = tt
small_counts (x ∷ c) h = (omega (arith, h 0), small_counts c (λ i. h (suc i)))

pub lengths_small : (lengths : Cut) → sum lengths ≤ most_events → (i : ℕ) → count lengths i ≤ most_events
lengths_small lengths few i = omega (arith, item_le_sum lengths i)

pub record Stops (rest : List ℕ) : Type 0 where
  pub comma : text_at (44 ∷ []) rest ≡ None
  pub digit : starts_digit rest ≡ false

pub stops_end : Stops []
unfolding text_at
stops_end = record { comma = refl; digit = refl }

pub stops_space : (rest : List ℕ) → Stops (32 ∷ rest)
unfolding text_at
stops_space rest = record { comma = refl; digit = refl }

pub cut_again : (width : ℕ) (c : Cut) (rest : List ℕ) → 0 < width → length c ≡ width → ((i : ℕ) → count c i ≤ most_events) → Stops rest → cut_at width (clock_text c ++ rest) ≡ Some (c, rest)
unfolding cut_at
cut_again width c rest some len small stops =
    let fits : ClockFits c = record { some = omega arith; each = small_counts c small } in
    rw (clock_again c rest fits stops.comma stops.digit, eq-eqb (length c) width len) refl

pub record WithinTaken (lengths : Cut) (xs : List ℕ) (c : Cut) (rest : List ℕ) : Type 0 where
  pub text : xs ≡ clock_text c ++ rest
  pub fits : CutFits lengths c

pub within_takes : (lengths : Cut) (xs : List ℕ) (c : Cut) (rest : List ℕ) → within_at lengths xs ≡ Some (c, rest) → WithinTaken lengths xs c rest
unfolding within_at
within_takes lengths xs c rest h =
    let b = bind_some (cut_at (length lengths) xs) _ (c, rest) h in
    let g = cond_some (are_within b.0.0 lengths) b.0 (c, rest) b.2 in
    let t = cut_takes (length lengths) xs b.0.0 b.0.1 b.1 in
    let taken : WithinTaken lengths xs b.0.0 b.0.1 = record { text = t.text; fits = record { width = t.width; within = within_is b.0.0 lengths g.0 } } in
    subst (λ (p : Cut × List ℕ). WithinTaken lengths xs p.0 p.1) g.1 taken

-- ---- the run of a report

module _ (procs : List Name) (lengths : Cut) (run : RunFits procs lengths) where
  pub some_lengths : 0 < length lengths
  some_lengths = omega (arith, run.procs.some, run.lengths.width)

  pub length_small : (i : ℕ) → count lengths i ≤ most_events
  length_small i = lengths_small lengths run.lengths.few i

  pub within_small : (c : Cut) → CutFits lengths c → (i : ℕ) → count c i ≤ most_events
  within_small c fits i = omega (arith, fits.within i, length_small i)

  pub within_at_again : (c : Cut) (rest : List ℕ) → CutFits lengths c → Stops rest → within_at lengths (clock_text c ++ rest) ≡ Some (c, rest)
  unfolding within_at
  within_at_again c rest fits stops =
      rw (cut_again (length lengths) c rest some_lengths fits.width (within_small c fits) stops, within_again c lengths fits.width fits.within) refl

  pub within_end : (c : Cut) → CutFits lengths c → within_at lengths (clock_text c) ≡ Some (c, [])
  within_end c fits = ap (within_at lengths) (sym (append-nil (clock_text c))) ∙ within_at_again c [] fits stops_end

-- ---- events

pub record EventTaken (procs : List Name) (lengths : Cut) (xs : List ℕ) (e : EventId) (rest : List ℕ) : Type 0 where
  pub text : xs ≡ event_text procs e ++ rest
  pub there : HasEvent lengths e

event_is : (procs : List Name) (lengths : Cut) (xs r1 r2 : List ℕ) (name : Name) (e : EventId) (rest : List ℕ) → length lengths ≡ length procs
    → xs ≡ 32 ∷ (name ++ r1) → (e.process < length procs) × (name_at procs e.process ≡ name) → r1 ≡ 32 ∷ r2 → PositiveTaken r2 e.position rest → e.position ≤ count lengths e.process
    → EventTaken procs lengths xs e rest
event_is procs lengths xs r1 r2 name e rest width a place b position last = record {
  text = a ∙ ap (λ (t : List ℕ). 32 ∷ (name ++ t)) (b ∙ ap (λ (t : List ℕ). 32 ∷ t) position.text) ∙ ap (λ (n : List ℕ). 32 ∷ (n ++ 32 ∷ (decimal e.position ++ rest))) (sym place.1)
      ∙ ap (λ (t : List ℕ). 32 ∷ t) (sym (append_assoc (name_at procs e.process) (32 ∷ decimal e.position) rest));
  there = record { process = omega (arith, place.0); first = position.fits.some; last = last };
}

pub event_takes : (procs : List Name) (lengths : Cut) (xs : List ℕ) (e : EventId) (rest : List ℕ) → length lengths ≡ length procs → event_at procs lengths xs ≡ Some (e, rest) → EventTaken procs lengths xs e rest
unfolding event_at
event_takes procs lengths xs e rest width h =
    let a = bind_some (spaced_name_at xs) _ (e, rest) h in
    let b = bind_some (place_of procs a.0.0) _ (e, rest) a.2 in
    let s = bind_some (text_at (32 ∷ []) a.0.1) _ (e, rest) b.2 in
    let n = bind_some (positive_at s.0) _ (e, rest) s.2 in
    let made : EventId = record { process = b.0; position = n.0.0 } in
    let g = cond_some (nat_le n.0.0 (count lengths b.0)) (made, n.0.1) (e, rest) n.2 in
    let name = spaced_name_takes xs a.0.0 a.0.1 a.1 in
    let taken : EventTaken procs lengths xs made n.0.1 = event_is procs lengths xs a.0.1 s.0 a.0.0 made n.0.1 width name.text (place_some procs a.0.0 b.0 b.1) (text_takes (32 ∷ []) a.0.1 s.0 s.1)
    (positive_takes s.0 n.0.0 n.0.1 n.1) (leb-true n.0.0 (count lengths b.0) g.0) in
    subst (λ (p : EventId × List ℕ). EventTaken procs lengths xs p.0 p.1) g.1 taken

names_each : (names : List Name) (i : ℕ) → AllByRecursion (λ n. is_name n ≡ true) names → i < length names → is_name (name_at names i) ≡ true
names_each [] i fits lt = absurd (omega arith)
names_each (n ∷ ns) zero fits lt = fits.0
names_each (n ∷ ns) (suc i) fits lt = names_each ns i fits.1 (omega arith)

module _ (procs : List Name) (lengths : Cut) (run : RunFits procs lengths) where
  pub process_there : (e : EventId) → HasEvent lengths e → e.process < length procs
  process_there e there = omega (arith, there.process, run.lengths.width)

  pub process_name : (e : EventId) → HasEvent lengths e → is_name (name_at procs e.process) ≡ true
  process_name e there = names_each procs e.process run.procs.each (process_there e there)

  pub position_positive : (e : EventId) → HasEvent lengths e → IsPositive e.position
  position_positive e there = record { some = there.first; small = omega (arith, there.last, length_small procs lengths run e.process) }

  pub event_again : (e : EventId) (rest : List ℕ) → HasEvent lengths e → starts_digit rest ≡ false → event_at procs lengths (event_text procs e ++ rest) ≡ Some (e, rest)
  unfolding event_at text_at
  event_again e rest there stops =
      rw (
        append_assoc (name_at procs e.process) (32 ∷ decimal e.position) rest,
        spaced_name_again (name_at procs e.process) (32 ∷ (decimal e.position ++ rest)) (process_name e there) refl,
        place_again procs e.process run.procs.distinct (process_there e there),
        positive_again e.position rest (position_positive e there) stops,
        le-leb e.position (count lengths e.process) there.last,
      ) refl

  pub event_end : (e : EventId) → HasEvent lengths e → event_at procs lengths (event_text procs e) ≡ Some (e, [])
  event_end e there = ap (event_at procs lengths) (sym (append-nil (event_text procs e))) ∙ event_again e [] there refl
