-- The line of a number among the lines of a text.
use Rattle.std.proofs.Common.{◌≡◌, ℕ, zero, suc, eqb, Bor, Option, Some, None, List, [], take, refl, ap, ◌∙◌}
use Rattle.std.specs.Prelude.{get_or, slice_get}
use Rattle.std.specs.List.{slice_split}
use Rattle.std.specs.Option.{option_map, unwrap_or, UnwrapsOrElse}
use Rattle.std.proofs.lemmas.Option.{unwrap_or-slice_get}
use Rattle.fault_kinds.specs.declared.refusal.Refusal.{Refusal}
use Rattle.log_input.specs.FaultyLine.{line_at, line_number, shown_line}

or_empty : (found : Option (Bor (List ℕ))) (line : Bor (List ℕ)) → UnwrapsOrElse found (λ x. x.now ≡ []) line → line.now ≡ unwrap_or (option_map (λ x. x.now) found) []
or_empty None line is = is
or_empty (Some x) line is = ap (λ (b : Bor (List ℕ)). b.now) is

pub found_line : (lines : List (List ℕ)) (before : ℕ) (found : Option (Bor (List ℕ))) (line : Bor (List ℕ)) → option_map (λ x. x.now) found ≡ slice_get lines before
    → UnwrapsOrElse found (λ x. x.now ≡ []) line → line.now ≡ get_or lines before []
found_line lines before found line is unwrapped =
    or_empty found line unwrapped ∙ ap (λ (o : Option (List ℕ)). unwrap_or o []) is ∙ unwrap_or-slice_get lines before []

pub line_behind : (bytes : List ℕ) (number before : ℕ) → suc before ≡ number → get_or (slice_split (λ b. eqb b 10) bytes) before [] ≡ line_at number bytes
line_behind bytes number before is = ap (λ (n : ℕ). line_at n bytes) is

-- of no byte no line is shown
pub nothing_shown : (r : Refusal) → shown_line r [] ≡ []
nothing_shown r = ap (take 120) (none_at (line_number r))
  where
    none_at : (n : ℕ) → line_at n [] ≡ []
    none_at zero = refl
    none_at (suc zero) = refl
    none_at (suc (suc n)) = refl
