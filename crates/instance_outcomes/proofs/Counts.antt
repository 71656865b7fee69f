-- One answered instance more.
use Rattle.std.proofs.Common.{◌≡◌, ℕ, ◌+◌, ◌≤◌, Bool, true, false, not, ◌&&◌, List, [], ◌∷◌, ◌++◌, length, get_or, slice_get, Some, if◌then◌else◌, cond, refl, sym, ap, ◌∙◌, arith, length-append}
use Rattle.std.specs.List.{filter}
use Rattle.std.proofs.lemmas.List.Elements.{filter-append}
use Rattle.instance_outcomes.specs.declared.tallied.Answered.{Answered}
use Rattle.instance_outcomes.specs.declared.tallied.Tally.{Tally}
use Rattle.instance_outcomes.specs.Tallies.{IsTallyOf, fails, has_nowhere}
use Rattle.instance_outcomes.specs.inside.Lists.{shown_of}

-- ---- counts

one : (b : Bool) (a : Answered) (n : ℕ) → (if b then n + 1 else n) ≡ n + length (cond b (a ∷ []) [])
one true a n = omega arith
one false a n = omega arith

count_more : (p : Answered → Bool) (before : List Answered) (a : Answered) (n : ℕ) → n ≡ length (filter p before) → (if p a then n + 1 else n) ≡ length (filter p (before ++ a ∷ []))
count_more p before a n is =
    let both = ap length (filter-append p before (a ∷ [])) ∙ length-append (filter p before) (filter p (a ∷ [])) in
    one (p a) a n ∙ ap (λ k. k + length (cond (p a) (a ∷ []) [])) is ∙ sym both

few : (p : Answered → Bool) (answers : List Answered) → length (filter p answers) ≤ length answers
few p [] = omega arith
few p (a ∷ answers) = less (p a) (few p answers)
  where
    less : (b : Bool) → length (filter p answers) ≤ length answers → length (cond b (a ∷ filter p answers) (filter p answers)) ≤ length (a ∷ answers)
    less true h = omega (arith, h)
    less false h = omega (arith, h)

pub few_fail : (answers : List Answered) (t : Tally) → IsTallyOf answers t → t.fails ≤ t.asked
few_fail answers t is = omega (arith, is.failing, is.asked, few fails answers)

pub few_nowhere : (answers : List Answered) (t : Tally) → IsTallyOf answers t → t.nowhere ≤ t.asked
few_nowhere answers t is = omega (arith, is.nowhere, is.asked, few has_nowhere answers)

-- ---- which is shown

-- the first one of a filtered list passes
first_by : (p : Answered → Bool) (a : Answered) (passing : List Answered) (b : Answered) (rest : List Answered) (t : Bool) → p a ≡ t → (passing ≡ b ∷ rest → p b ≡ true)
    → cond t (a ∷ passing) passing ≡ b ∷ rest → p b ≡ true
first_by p a passing b rest true is before e = ap p (sym (ap (λ (l : List Answered). get_or l 0 b) e)) ∙ is
first_by p a passing b rest false is before e = before e

first_passes : (p : Answered → Bool) (answers : List Answered) (b : Answered) (rest : List Answered) → filter p answers ≡ b ∷ rest → p b ≡ true
first_passes p [] b rest e = absurd cc
first_passes p (a ∷ answers) b rest e = first_by p a (filter p answers) b rest (p a) refl (first_passes p answers b rest) e

none_first : (p : Answered → Bool) (b : Answered) (rest : List Answered) → filter p (b ∷ rest) ≡ [] → p b ≡ false
none_first p b rest e = by (p b) refl e
  where
    by : (t : Bool) → p b ≡ t → cond t (b ∷ filter p rest) (filter p rest) ≡ [] → p b ≡ false
    by true is e = absurd cc
    by false is e = is

stays : (b a : Answered) → fails b ≡ true → shown_of (Some b) a ≡ Some b
stays b a is = ap (λ t. if not t && fails a then Some a else Some b) is

changes : (b a : Answered) → fails b ≡ false → shown_of (Some b) a ≡ (if fails a then Some a else Some b)
changes b a is = ap (λ t. if not t && fails a then Some a else Some b) is

front : (t : Bool) (b a : Answered) (rest : List Answered) → (if t then Some a else Some b) ≡ slice_get (cond t (a ∷ []) [] ++ (b ∷ rest)) 0
front true b a rest = refl
front false b a rest = refl

alone : (t : Bool) (a : Answered) → Some a ≡ slice_get (cond t (a ∷ []) [] ++ (a ∷ [])) 0
alone true a = refl
alone false a = refl

shown_by : (failing before : List Answered) (a : Answered) → filter fails before ≡ failing → shown_of (slice_get (failing ++ before) 0) a ≡ slice_get ((failing ++ filter fails (a ∷ [])) ++ (before ++ a ∷ [])) 0
shown_by (b ∷ failing) before a is = stays b a (first_passes fails before b failing is)
shown_by [] [] a is = alone (fails a) a
shown_by [] (b ∷ before) a is = changes b a (none_first fails b before is) ∙ front (fails a) b a (before ++ a ∷ [])

shown_more : (before : List Answered) (a : Answered) → shown_of (slice_get (filter fails before ++ before) 0) a ≡ slice_get (filter fails (before ++ a ∷ []) ++ (before ++ a ∷ [])) 0
shown_more before a =
    shown_by (filter fails before) before a refl ∙ ap (λ l. slice_get (l ++ (before ++ a ∷ [])) 0) (sym (filter-append fails before (a ∷ [])))

pub one_more : (before : List Answered) (a : Answered) (t u : Tally) → IsTallyOf before t → u.asked ≡ t.asked + 1 → u.fails ≡ (if fails a then t.fails + 1 else t.fails)
    → u.nowhere ≡ (if has_nowhere a then t.nowhere + 1 else t.nowhere) → u.shown ≡ shown_of t.shown a → IsTallyOf (before ++ a ∷ []) u
one_more before a t u is asked failing nowhere shown = record {
  asked = omega (arith, asked, is.asked, length-append before (a ∷ []));
  failing = failing ∙ count_more fails before a t.fails is.failing;
  nowhere = nowhere ∙ count_more has_nowhere before a t.nowhere is.nowhere;
  shown = shown ∙ ap (λ s. shown_of s a) is.shown ∙ shown_more before a;
}
