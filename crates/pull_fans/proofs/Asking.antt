-- Rows of asks: read by their place, and counted.
use Rattle.std.proofs.Common.{◌≡◌, ℕ, zero, suc, ◌+◌, ◌-◌, ◌*◌, ◌<◌, ◌≤◌, ◌⊎◌, inl, inr, Some, List, [], ◌∷◌, length, get_or, drop, refl, arith, sym, ap, ◌∙◌, subst, length-append}
use Rattle.std.proofs.lemmas.List.{length-take, length-drop, get_or-take, get_or-drop}
use Rattle.std.proofs.Math.Nat.{mul-le-mul_left}
use Rattle.std.proofs.lemmas.Option.{get_or_from_slice_get}
use Rattle.std.specs.List.{slice_range}
use Rattle.std.specs.Prelude.{slice_get}
use Rattle.pull_system.specs.declared.pull.Pull.{Pull}
use Rattle.pull_system.specs.System.{SystemView, IsSystem, IsPull, pull_at, target_of}
use Rattle.pull_fans.specs.Sources.{numbers_from}
use Rattle.pull_fans.specs.Asks.{IsAskedBy, AreAsks}
use Rattle.pull_fans.specs.Fans.{FanView}
use Rattle.pull_fans.specs.declared.asks.AskRows.{AskRows}
use Rattle.pull_fans.specs.declared.asks.AskRows.TheVariants.{OfFan}
use Rattle.pull_fans.specs.inside.Asks.{AreAskRows, HoldsAsks, IsFanOfAsks, no_rows}
use Rattle.pull_fans.specs.inside.Fans.{AreFanRows, HasProcessRows}
use Rattle.pull_fans.specs.inside.Places.{fan_at, no_fan}
use Rattle.pull_system.proofs.Pulls.{pull-of}
use Rattle.pull_fans.proofs.Numbers.{numbers_case, source_in}

asked_along : (system : SystemView) (process x s t m n : ℕ) → s ≡ t → m ≡ n → IsAskedBy system process x s m → IsAskedBy system process x t n
asked_along system process x s t m n same_target same asked =
    record { k = asked.k; there = asked.there; from = asked.from; to = asked.to ∙ same_target; asks = asked.asks ∙ same }

-- the row of asks of one value, read from all of them
pub row_read : (system : SystemView) → IsSystem system → (process count x : ℕ) (rows asks : List ℕ) → AreAskRows system process count rows → x < count → asks ≡ slice_range rows (x * length system.lens) (x * length system.lens + length system.lens)
    → AreAsks system process x asks
row_read system is process count x rows asks all below same = record {
  size = omega (arith, ap length same, length-take (x * n + n - x * n) (drop (x * n) rows), length-drop (x * n) rows, all.size, mul-le-mul_left n (let h : x + 1 ≤ count = omega arith in h));
  covers = λ k there from. let p : IsPull system.lens (pull_at system k) = pull-of system is k there in omega (arith, all.covers x k below there from, read (target_of system k) p.target);
  asked = λ target there. along target _ _ (read target there) (all.asked x target below there);
}
  where
    n : ℕ
    n = length system.lens

    read : (target : ℕ) → target < n → get_or asks target 0 ≡ get_or rows (x * n + target) 0
    read target there = ap (λ xs. get_or xs target 0) same ∙ get_or-take (x * n + n - x * n) (drop (x * n) rows) target 0 (omega arith) ∙ get_or-drop (x * n) rows target 0

    along : (target a b : ℕ) → a ≡ b → (b ≡ 0) ⊎ IsAskedBy system process x target b → (a ≡ 0) ⊎ IsAskedBy system process x target a
    along target a b e (inl none) = inl (e ∙ none)
    along target a b e (inr by) = inr (asked_along system process x target target _ _ refl (sym e) by)

-- how many of the first pulls come from the first processes
abbrev pub pulls_from_first : List Pull → ℕ → ℕ → ℕ
pulls_from_first pulls count zero = 0
pulls_from_first pulls count (suc processes) = pulls_from_first pulls count processes + length (numbers_from pulls processes count)

none_from : (pulls : List Pull) (processes : ℕ) → pulls_from_first pulls 0 processes ≡ 0
none_from pulls zero = refl
none_from pulls (suc processes) = omega (arith, none_from pulls processes)

-- one pull more counts once, at its source
one_more : (pulls : List Pull) (count processes : ℕ)
    → ((pulls_from_first pulls (suc count) processes ≡ pulls_from_first pulls count processes) × (processes ≤ source_in pulls count))
    ⊎ ((pulls_from_first pulls (suc count) processes ≡ pulls_from_first pulls count processes + 1) × (source_in pulls count < processes))
one_more pulls count zero = inl (refl, omega arith)
one_more pulls count (suc processes) =
    elim (one_more pulls count processes) [
      | inl before ↦
          elim (numbers_case pulls processes count) [
            | inl here ↦ inr (omega (arith, before.0, ap length here.1, length-append (numbers_from pulls processes count) (count ∷ [])), omega (arith, here.0))
            | inr other ↦ inl (omega (arith, before.0, ap length other.1), past before.1 other.0)
          ]
      | inr before ↦
          elim (numbers_case pulls processes count) [
            | inl here ↦ absurd (omega (arith, before.1, here.0))
            | inr other ↦ inr (omega (arith, before.0, ap length other.1), omega (arith, before.1))
          ]
    ]
  where
    past : processes ≤ source_in pulls count → (source_in pulls count ≡ processes → ⊥) → suc processes ≤ source_in pulls count
    past less other = grind arith

-- the pulls from all of some processes together are at most all pulls
pub pulls_from_few : (pulls : List Pull) (count processes : ℕ) → pulls_from_first pulls count processes ≤ count
pulls_from_few pulls zero processes = omega (arith, none_from pulls processes)
pulls_from_few pulls (suc count) processes =
    elim (one_more pulls count processes) [ inl h ↦ omega (arith, h.0, pulls_from_few pulls count processes) | inr h ↦ omega (arith, h.0, pulls_from_few pulls count processes) ]

-- the rows of a fan that is held are the rows of asks
pub fan_read : (system : SystemView) (fans : List FanView) (process count number : ℕ) (asks : List AskRows) (held : AskRows) (fan : FanView) (rows : List ℕ) → HoldsAsks system fans process count (get_or asks process no_rows) → slice_get asks process ≡ Some held → held ≡ OfFan number
    → slice_get fans number ≡ Some fan → ((procs n : ℕ) → HasProcessRows fan procs n → AreFanRows fan procs n rows) → AreAskRows system process count rows
fan_read system fans process count number asks held fan rows holds found is there read =
    let P : AskRows → Type 0 = λ h. HoldsAsks system fans process count h in
    let of_fan : IsFanOfAsks system fans process count number = subst P (get_or_from_slice_get asks process held no_rows found ∙ is) holds in
    let same : fan_at fans number ≡ fan = get_or_from_slice_get fans number fan no_fan there in
    of_fan.rows rows
    (subst (λ (f : FanView). AreFanRows f (length system.lens) count rows) (sym same) (read (length system.lens) count (subst (λ (f : FanView). HasProcessRows f (length system.lens) count) same of_fan.has)))

-- where the row of one value stands among the rows of asks that were read
pub record HasAsks (system : SystemView) (process x procs : ℕ) (rows : List ℕ) : Type 0 where
  pub room : x * procs + procs ≤ length rows
  pub row : (asks : List ℕ) → asks ≡ slice_range rows (x * procs) (x * procs + procs) → AreAsks system process x asks

pub has_asks : (system : SystemView) → IsSystem system → (process x procs : ℕ) → x ≤ get_or system.lens process 0 + 1 → procs ≡ length system.lens
    → (rows : List ℕ) → AreAskRows system process (get_or system.lens process 0 + 2) rows → HasAsks system process x procs rows
has_asks system is process x procs less count rows are =
    let Q : ℕ → Type 0 = λ n. HasAsks system process x n rows in
    subst Q (sym count) record {
      room = omega (arith, are.size, mul-le-mul_left (length system.lens) (let h : x + 1 ≤ get_or system.lens process 0 + 2 = omega arith in h));
      row = λ asked is_row. row_read system is process (get_or system.lens process 0 + 2) x rows asked are (omega arith) is_row;
    }
