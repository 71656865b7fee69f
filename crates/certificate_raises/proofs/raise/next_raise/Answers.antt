use Rattle.std.proofs.Common.{◌≡◌, ◌≢◌, ℕ, ◌<◌, Bool, List, true, false, get_or, set, length, sym, ap, ◌∙◌, subst, arith, inl, inr}
use Rattle.std.proofs.lemmas.Bool.{false≢true}
use Rattle.std.proofs.lemmas.List.{length-set}
use Rattle.pull_system.specs.Marks.{marked}
use Rattle.pull_system.specs.System.{SystemView, source_of, target_of}
use Rattle.pull_fans.specs.Sources.{numbers_from}
use Rattle.pull_system.proofs.Climbing.{set_case}
use Rattle.pull_fans.proofs.Numbers.{numbers_from-is, numbers_from-has}
use Rattle.certificate_table.specs.Begun.{BegunView}
use Rattle.certificate_raises.proofs.Doubting.{doubts_raised, first_doubted, marked_less}
use Rattle.certificate_raises.proofs.raise.next_raise.Goals as goal

pub add-requires : goal.add-requires
add-requires g c =
    let v : BegunView = c.args.rows.now in
    let k = c.in_ok-raise.raise.pull in
    let target : c.ends-target.result.1 ≡ target_of v.system k = c.ends-target.ensures.target ∙ ap (λ (s : SystemView). target_of s k) c.system.ensures.system in
    let numbers : c.pulls_from.result.now ≡ numbers_from v.system.pulls (target_of v.system k) (length v.system.pulls) =
    c.pulls_from.ensures ∙ ap (λ (s : SystemView). numbers_from s.pulls c.ends-target.result.1 (length s.pulls)) c.system-2.ensures.system ∙ ap (λ (p : ℕ). numbers_from v.system.pulls p (length v.system.pulls)) target in
    λ i there.
    let is = numbers_from-is v.system.pulls (target_of v.system k) (length v.system.pulls) i (subst (λ (ns : List ℕ). i < length ns) numbers there) in
    let size : length c.remove.new.self ≡ length v.system.pulls = ap (λ (ds : List Bool). length ds) c.remove.ensures ∙ length-set c.first_failing.new.doubts k false ∙ c.first_failing.ensures.doubts.count in
    omega (arith, is.below, size, ap (λ (ns : List ℕ). get_or ns i 0) numbers)

pub returns-clause-raised : goal.returns-clause-raised
returns-clause-raised g c =
    let v : BegunView = c.args.rows.now in
    let k = c.in_ok-raise.raise.pull in
    let x = c.in_ok-raise.raise.value in
    let first = c.in_ok-raise.ensures.first in
    let doubts = c.first_failing.new.doubts in
    let target : c.ends-target.result.1 ≡ target_of v.system k = c.ends-target.ensures.target ∙ ap (λ (s : SystemView). target_of s k) c.system.ensures.system in
    let numbers : c.pulls_from.result.now ≡ numbers_from v.system.pulls (target_of v.system k) (length v.system.pulls) =
    c.pulls_from.ensures ∙ ap (λ (s : SystemView). numbers_from s.pulls c.ends-target.result.1 (length s.pulls)) c.system-2.ensures.system ∙ ap (λ (p : ℕ). numbers_from v.system.pulls p (length v.system.pulls)) target in
    let apart : (j : ℕ) → j < length v.system.pulls → get_or c.add.new.self j true ≡ false → source_of v.system j ≢ target_of v.system k =
    λ j there off same.
    let at = numbers_from-has v.system.pulls (target_of v.system k) (length v.system.pulls) j there same in
    let on = c.add.ensures.added at.index (subst (λ (ns : List ℕ). at.index < length ns) (sym numbers) at.there) in
    let here : get_or c.pulls_from.result.now at.index 0 ≡ j = ap (λ (ns : List ℕ). get_or ns at.index 0) numbers ∙ at.is in
    false≢true (sym off ∙ subst (λ (n : ℕ). get_or c.add.new.self n true ≡ true) here on) in
    doubts_raised v c.system.ensures.certified c.requires.begun k x first doubts c.add.new.self c.first_failing.ensures.doubts
    (c.add.ensures.count ∙ ap (λ (ds : List Bool). length ds) c.remove.ensures ∙ length-set doubts k false)
    (λ j there off. (
      apart j there off,
      elim (set_case doubts k false j true) [
        | inl e ↦ inr (sym e ∙ subst (λ (ds : List Bool). get_or ds j true ≡ false) c.remove.ensures (c.add.ensures.kept j off))
        | inr e ↦ inl e.0
      ],
    ))

pub returns-clause-looks : goal.returns-clause-looks
returns-clause-looks g c =
    let v : BegunView = c.args.rows.now in
    let k = c.in_ok-raise.raise.pull in
    let x = c.in_ok-raise.raise.value in
    let first = c.in_ok-raise.ensures.first in
    let doubts = c.first_failing.new.doubts in
    let target : c.ends-target.result.1 ≡ target_of v.system k = c.ends-target.ensures.target ∙ ap (λ (s : SystemView). target_of s k) c.system.ensures.system in
    let numbers : c.pulls_from.result.now ≡ numbers_from v.system.pulls (target_of v.system k) (length v.system.pulls) =
    c.pulls_from.ensures ∙ ap (λ (s : SystemView). numbers_from s.pulls c.ends-target.result.1 (length s.pulls)) c.system-2.ensures.system ∙ ap (λ (p : ℕ). numbers_from v.system.pulls p (length v.system.pulls)) target in
    let on = first_doubted v c.system.ensures.certified k x first doubts c.first_failing.ensures.doubts in
    let less = marked_less doubts k (omega (arith, first.pull, c.first_failing.ensures.doubts.count)) on in
    let same : marked c.remove.new.self ≡ marked (set doubts k false) = ap (λ (ds : List Bool). marked ds) c.remove.ensures in
    omega (arith, c.add.ensures.marked, less, same, c.in_ok-raise.ensures.looks, ap (λ (ns : List ℕ). length ns) numbers)
