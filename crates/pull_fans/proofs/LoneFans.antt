-- A fan that alone has pulls from a process, to each process in turn or to each other: its rows are the rows of asks.
use Rattle.std.proofs.Common.{◌≡◌, ℕ, zero, suc, ◌+◌, ◌-◌, ◌*◌, ◌/◌, ◌%◌, ◌<◌, ◌≤◌, ◌⊎◌, inl, inr, List, ◌++◌, All, length, get_or, replicate, take, drop, refl, arith, sym, ap, ◌∙◌, subst, length-append}
use Rattle.std.proofs.lemmas.List.{length-replicate, get_or-append-add, get_or_past}
use Rattle.std.proofs.lemmas.List.Elements.{All-get_or}
use Rattle.std.proofs.lemmas.Nat.{div_below, div-add-mod'}
use Rattle.std.proofs.Math.ListN.{get_or-append}
use Rattle.std.proofs.Math.Nat.{mod-lt}
use Rattle.pull_system.specs.declared.pull.Pull.{Pull}
use Rattle.pull_system.specs.System.{IsPull, no_pull}
use Rattle.pull_fans.specs.Fans.{FanView, pulls_of_fan, pulls_of_fans, IsToAll}
use Rattle.pull_fans.specs.inside.Asks.{AreAskRows, AreRaised, IsAskedOf, IsFanOfAsks}
use Rattle.pull_fans.specs.inside.Fans.{AreFanRows, IsToOthers}
use Rattle.pull_fans.specs.inside.First.{IsFirstFrom, IsFromOther}
use Rattle.pull_fans.specs.inside.Places.{fan_at}
use Rattle.pull_fans.proofs.FirstFans.{split_pulls}
use Rattle.pull_fans.proofs.Placing.{FanFits, fan_fits, of_each, pulls_more}
use Rattle.pull_fans.proofs.Raising.{ask_rows_more, zeros}

lt_or_le : (i n : ℕ) → (i < n) ⊎ (n ≤ i)
lt_or_le i n = grind arith

-- zeros are the rows of asks of a process that no pull comes from
zero_rows : (lens : List ℕ) (pulls : List Pull) (process values : ℕ) → All (IsFromOther process) pulls → AreAskRows record { lens = lens; pulls = pulls } process values (replicate (values * length lens) 0)
zero_rows lens pulls process values others = record {
  size = length-replicate (values * length lens) 0;
  covers = λ x k inside there source. absurd (All-get_or (IsFromOther process) pulls k no_pull there others source);
  asked = λ x target inside there. inl (zeros (values * length lens) (x * length lens + target));
}

some_procs : (values procs place : ℕ) → place < values * procs → 0 < procs
some_procs values zero place inside = absurd (omega (arith, inside))
some_procs values (suc procs) place inside = omega arith

-- zeros, raised by a fan with rows of one entry per process, are these rows
zeros_raised : (fan : FanView) (procs values : ℕ) (rows : List ℕ) → AreFanRows fan procs values rows → AreRaised fan procs values (replicate (values * procs) 0) rows
zeros_raised fan procs values rows are = record {
  size = are.size ∙ sym (length-replicate (values * procs) 0);
  keeps = λ place. omega (arith, zeros (values * procs) place);
  covers = λ x index below target. omega (arith, are.each x index below target);
  asked = λ place. elim (lt_or_le place (values * procs)) [ inl inside ↦ asked place inside | inr past ↦ inl (get_or_past rows place 0 (omega (arith, past, are.size)) ∙ sym (zeros (values * procs) place)) ];
}
  where
    asked : (place : ℕ) → place < values * procs → (get_or rows place 0 ≡ get_or (replicate (values * procs) 0) place 0) ⊎ IsAskedOf fan procs values place (get_or rows place 0)
    asked place inside =
        let some : 0 < procs = some_procs values procs place inside in
        let x : ℕ = place / procs in
        let process : ℕ = place % procs in
        let below : x < values = div_below place procs values some inside in
        let here : x * procs + process ≡ place = div-add-mod' place procs in
        let P : ℕ → Type 0 = λ p. (get_or rows p 0 ≡ get_or (replicate (values * procs) 0) p 0) ⊎ IsAskedOf fan procs values p (get_or rows p 0) in
        subst P here
        (elim (are.none x process below (mod-lt place some)) [
          | inl none ↦ inl (none ∙ sym (zeros (values * procs) (x * procs + process)))
          | inr target ↦ inr record {
            x = x;
            index = target.index;
            value = below;
            target = target.there;
            at = ap (λ (n : ℕ). x * procs + n) target.is;
            asks = sym (are.each x target.index below target.there) ∙ ap (λ (n : ℕ). get_or rows (x * procs + n) 0) target.is;
          }
        ])

-- pulls behind that come from others ask for nothing in these rows
asks_behind : (lens : List ℕ) (ps qs : List Pull) (process values : ℕ) (rows : List ℕ) → All (IsFromOther process) qs → AreAskRows record { lens = lens; pulls = ps } process values rows → AreAskRows record { lens = lens; pulls = ps ++ qs } process values rows
asks_behind lens ps qs process values rows others are = record {
  size = are.size;
  covers = λ x k inside there source. elim (lt_or_le k (length ps)) [
    | inl less ↦
        let P : Pull → Type 0 = λ p. get_or p.table x 0 ≤ get_or rows (x * length lens + p.dst) 0 in
        subst P (sym (at k less)) (are.covers x k inside less (ap (λ (p : Pull). p.src) (sym (at k less)) ∙ source))
    | inr past ↦ absurd (All-get_or (IsFromOther process) qs (k - length ps) no_pull (omega (arith, there, past, length-append ps qs)) others (ap (λ (p : Pull). p.src) (sym (behind k past)) ∙ source))
  ];
  asked = λ x target inside there. elim (are.asked x target inside there) [
    | inl none ↦ inl none
    | inr by ↦ inr record {
      k = by.k;
      there = omega (arith, by.there, length-append ps qs);
      from = ap (λ (p : Pull). p.src) (at by.k by.there) ∙ by.from;
      to = ap (λ (p : Pull). p.dst) (at by.k by.there) ∙ by.to;
      asks = ap (λ (p : Pull). get_or p.table x 0) (at by.k by.there) ∙ by.asks;
    }
  ];
}
  where
    at : (k : ℕ) → k < length ps → get_or (ps ++ qs) k no_pull ≡ get_or ps k no_pull
    at k there = get_or-append ps qs no_pull k there

    behind : (k : ℕ) → length ps ≤ k → get_or (ps ++ qs) k no_pull ≡ get_or qs (k - length ps) no_pull
    behind k past = let place : k ≡ length ps + (k - length ps) = omega (arith, past) in ap (λ (n : ℕ). get_or (ps ++ qs) n no_pull) place ∙ get_or-append-add ps qs (k - length ps) no_pull

pub lone_asks : (lens : List ℕ) (fans : List FanView) (process number : ℕ) → 1 ≤ length lens → All (IsPull lens) (pulls_of_fans fans) → IsFirstFrom fans process number → All (IsFromOther process) (pulls_of_fans (drop (number + 1) fans))
    → IsToAll (fan_at fans number) (length lens) ⊎ IsToOthers (fan_at fans number) (length lens) → IsFanOfAsks record { lens = lens; pulls = pulls_of_fans fans } fans process (get_or lens process 0 + 2) number
lone_asks lens fans process number shape all first others goes = record {
  there = first.there;
  has = record { around = record { source = (of_each (IsPull lens) fans number 0 first.there some all).source; targets = goes }; values = fits.sizes };
  rows = λ rows are.
      let raised = ask_rows_more lens ps fan process values (replicate (values * length lens) 0) rows (zero_rows lens ps process values first.before) (zeros_raised fan (length lens) values rows are) first.from fits.targets in
      subst (λ (list : List Pull). AreAskRows record { lens = lens; pulls = list } process values rows) (sym split) (asks_behind lens (ps ++ pulls_of_fan fan) qs process values rows others raised);
}
  where
    fan : FanView
    fan = fan_at fans number

    values : ℕ
    values = get_or lens process 0 + 2

    some : 0 < length (fan_at fans number).targets
    some = elim goes [ inl to_all ↦ omega (arith, to_all.count, shape) | inr to_others ↦ omega (arith, to_others.others.some) ]

    ps : List Pull
    ps = pulls_of_fans (take number fans)

    qs : List Pull
    qs = pulls_of_fans (drop (number + 1) fans)

    fits : FanFits lens process (fan_at fans number)
    fits = fan_fits lens fans number process (fan_at fans number) all first.there refl first.from

    split : pulls_of_fans fans ≡ (pulls_of_fans (take number fans) ++ pulls_of_fan (fan_at fans number)) ++ pulls_of_fans (drop (number + 1) fans)
    split = split_pulls fans (number + 1) ∙ ap (λ (list : List Pull). list ++ qs) (pulls_more fans number (fan_at fans number) first.there refl)
