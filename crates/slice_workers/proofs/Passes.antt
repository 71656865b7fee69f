-- What more processes that are settled leave, and what the rows of all cost.
use Rattle.std.proofs.Common.{◌≡◌, ℕ, zero, suc, ◌+◌, ◌-◌, ◌*◌, ◌≤◌, inl, inr, Bool, true, false, List, [], ◌∷◌, length, get_or, set, sum, refl, arith, sym, ap, subst, ◌∙◌}
use Rattle.std.proofs.lemmas.List.Sums.{sum_by-cons}
use Rattle.std.proofs.Math.Nat.{mul-le-mul_left}
use Rattle.pull_system.specs.Vector.{IsAtMost}
use Rattle.pull_system.specs.System.{SystemView}
use Rattle.pull_system.specs.Rows.{row_at}
use Rattle.pull_system.proofs.Climbing.{set_case}
use Rattle.bound_table.specs.Views.{SeatView}
use Rattle.slice_workers.specs.Reaching.{rows_left}
use Rattle.bound_table.specs.Firm.{ReachesFirst}
use Rattle.slice_workers.specs.inside.Reaching.{AreHanded, HasReachedRows}
use Rattle.bound_table.specs.Firm.{FirmView}
use Rattle.slice_workers.specs.Calls.{TakesLooks, TakesBehind}
use Rattle.slice_workers.specs.inside.Settling.{HasOnlyRisen, HasSettled}
use Rattle.slice_workers.proofs.Reached.{handed_more, handed_set, reached_more}
use Rattle.bound_table.proofs.Own.{final_more}

pub passed_none : (system : SystemView) (old new : SeatView) (handed : List Bool) → new.table ≡ old.table → new.floor ≡ old.floor → AreHanded system old.floor handed → HasSettled system old new handed handed
passed_none system old new handed table floor are =
    let P : List ℕ → Type 0 = λ f. IsAtMost old.floor f × AreHanded system f handed in
    let now : P new.floor = subst P (sym floor) (record { each = λ i. omega arith }, are) in record {
      table = table;
      rises = now.0;
      handed = now.1;
      stays = λ p is. is;
    }

pub passed_on : (system : SystemView) (a b c : SeatView) (x y z : List Bool) → HasSettled system a b x y → HasSettled system b c y z → HasSettled system a c x z
passed_on system a b c x y z first second = record {
  table = second.table ∙ first.table;
  rises = record { each = λ i. omega (arith, first.rises.each i, second.rises.each i) };
  handed = second.handed;
  stays = λ p is. second.stays p (first.stays p is);
}

-- what the floor had reached stays reached, and the rows of the processes that were done as well
pub passed_reaches : (system : SystemView) (finals bottom : List ℕ) (old new : SeatView) (before after : List Bool) → HasReachedRows system old.floor finals bottom before → HasSettled system old new before after → HasReachedRows system new.floor finals bottom after
passed_reaches system finals bottom old new before after has settled = record {
  finals = final_more system _ _ finals settled.rises has.finals;
  bottom = reached_more system 0 _ _ bottom settled.rises has.bottom;
  handed = settled.handed;
}

-- the rows of one process more are settled, and it is marked
pub passed_mark : (system : SystemView) (old new : SeatView) (handed : List Bool) (process : ℕ) → AreHanded system old.floor handed → HasOnlyRisen system old new → ReachesFirst system process (get_or system.lens process 0) new.floor
    → HasSettled system old new handed (set handed process true)
passed_mark system old new handed process are risen first = record {
  table = risen.keeps.table;
  rises = risen.rises;
  handed = handed_set system new.floor handed process (handed_more system old.floor new.floor handed risen.rises are) first;
  stays = λ p is. elim (set_case handed process true p false) [ inl e ↦ e ∙ is | inr e ↦ e.1 ];
}

pub length-left : (lens finals : List ℕ) → length (rows_left lens finals) ≡ length lens
length-left [] finals = refl
length-left (len ∷ lens) [] = ap (λ (n : ℕ). suc n) (length-left lens [])
length-left (len ∷ lens) (count ∷ finals) = ap (λ (n : ℕ). suc n) (length-left lens finals)

pub get_or-left : (lens finals : List ℕ) (i : ℕ) → get_or (rows_left lens finals) i 0 ≡ get_or lens i 0 - get_or finals i 0
get_or-left [] finals i = omega arith
get_or-left (len ∷ lens) [] zero = omega arith
get_or-left (len ∷ lens) [] (suc i) = get_or-left lens [] i
get_or-left (len ∷ lens) (count ∷ finals) zero = refl
get_or-left (len ∷ lens) (count ∷ finals) (suc i) = get_or-left lens finals i

-- The bottom's row and those of each process: `top` is what the components add up to at most.
pub total : (pulls procs top bottom marks start last : ℕ) → 1 ≤ procs → procs ≤ top → bottom ≤ top → marks ≤ procs → last ≤ start + pulls * (1 + bottom) + pulls * (top - bottom) * marks
    → last ≤ start + pulls * ((procs + 1) * top)
total pulls procs top bottom marks start last one some less few took =
    let rise : ℕ = top - bottom in
    let whole : bottom + rise ≡ top = omega arith in
    let all : rise * marks ≤ rise * procs = mul-le-mul_left rise few in
    let first : rise * (procs - 1) ≤ top * (procs - 1) = times_le rise top (procs - 1) (omega arith) in
    let split : rise * procs ≡ rise + rise * (procs - 1) = ap (λ n. rise * n) (let e : procs ≡ 1 + (procs - 1) = omega arith in e) ∙ add_times rise (procs - 1) in
    let wide : (procs + 1) * top ≡ top + top + top * (procs - 1) = ap (λ n. (n + 1) * top) (let e : procs ≡ 1 + (procs - 1) = omega arith in e) ∙ two_more top (procs - 1) in
    let bound : 1 + bottom + rise * marks ≤ (procs + 1) * top = omega (arith, whole, all, first, split, wide) in
    let spread : pulls * (1 + bottom) + pulls * rise * marks ≡ pulls * (1 + bottom + rise * marks) = spread_out pulls (1 + bottom) rise marks in
    omega (arith, took, spread, mul-le-mul_left pulls bound)
  where
    times_le : (a b c : ℕ) → a ≤ b → a * c ≤ b * c
    times_le a b c h = omega (arith, mul-le-mul_left c h)

    add_times : (a n : ℕ) → a * (1 + n) ≡ a + a * n
    add_times a n = omega arith

    two_more : (a n : ℕ) → (1 + n + 1) * a ≡ a + a + a * n
    two_more a n = omega arith

    spread_out : (p a r m : ℕ) → p * a + p * r * m ≡ p * (a + r * m)
    spread_out p a r m = grind arith

pub sum-left : (lens finals : List ℕ) → sum (rows_left lens finals) ≤ sum lens
sum-left [] finals = omega arith
sum-left (len ∷ lens) [] = omega (arith, sum_by-cons (λ (n : ℕ). n) len lens, sum_by-cons (λ (n : ℕ). n) len (rows_left lens []), sum-left lens [])
sum-left (len ∷ lens) (count ∷ finals) = omega (arith, sum_by-cons (λ (n : ℕ). n) len lens, sum_by-cons (λ (n : ℕ). n) (len - count) (rows_left lens finals), sum-left lens finals)

-- what settling takes behind firm rows is within what it takes with none
pub takes_all : (system : SystemView) (firm : FirmView) (old new : SeatView) (s t : ℕ) → TakesBehind system firm old new s t → TakesLooks system system.lens old new s t
takes_all system firm old new s t takes = by firm.bottom refl
  where
    turned : (a b c : ℕ) → a * (b * c) ≡ b * (a * c)
    turned a b c = grind arith

    by : (bottom : Bool) → firm.bottom ≡ bottom → TakesLooks system system.lens old new s t
    by false is = record {
      looks = (takes.all is).looks;
      rises_paid = omega (arith, (takes.all is).rises_paid, mul-le-mul_left (length system.pulls) (sum-left system.lens firm.firsts));
    }
    by true is =
        let pulls : ℕ = length system.pulls in
        let n : ℕ = length system.lens in
        let top : ℕ = sum system.lens + n in
        let less : ℕ = top - sum (row_at system.lens old.floor 0) in
        let one : pulls * less ≤ pulls * top = mul-le-mul_left pulls (let h : less ≤ top = omega arith in h) in
        let swap : n * (pulls * top) ≡ pulls * (n * top) = turned n pulls top in
        let wide : pulls * (n * top) ≤ pulls * ((n + 1) * top) = mul-le-mul_left pulls (let h : n * top ≤ (n + 1) * top = omega arith in h) in record {
          looks = omega (arith, (takes.others is).looks, mul-le-mul_left n one, swap, wide);
          rises_paid = omega (arith, (takes.others is).rises_paid, mul-le-mul_left pulls (sum-left system.lens firm.firsts));
        }
