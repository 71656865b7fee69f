use Rattle.std.proofs.Common.{◌≡◌, ℕ, Bool, List, true, false, get_or, set, length, ap, ◌∙◌, subst, arith, inl, inr}
use Rattle.std.proofs.lemmas.Bool.{cases_lt}
use Rattle.std.proofs.lemmas.List.{length-set}
use Rattle.pull_system.specs.Marks.{marked}
use Rattle.certificate_raises.proofs.Doubting.{marked_more, off_before, on_here, on_more}
use Rattle.certificate_raises.proofs.doubts.Doubts.add.Goals as goal

pub loop-pull-preserved : goal.loop-pull-preserved
loop-pull-preserved c =
    let i = c.loop-pull.pull-index in
    let numbers = c.args.pulls.now in
    let marks = c.loop-pull.self-inside.marks in
    let before = c.loop-pull.invariant in
    let is : c.replace.new.self ≡ set marks (get_or numbers i 0) true = c.replace.ensures.list in
    let there = c.requires i c.loop-pull-test.true in
    record {
      count = ap (λ (ds : List Bool). length ds) is ∙ length-set marks (get_or numbers i 0) true ∙ before.count;
      added = λ j below. ap (λ (ds : List Bool). get_or ds (get_or numbers j 0) true) is ∙ elim (cases_lt j i) [
        | inl less ↦ on_more marks (get_or numbers i 0) (get_or numbers j 0) (before.added j less)
        | inr past ↦
            let same : i ≡ j = omega (arith, past, below) in
            subst (λ (n : ℕ). get_or (set marks (get_or numbers i 0) true) (get_or numbers n 0) true ≡ true) same (on_here marks (get_or numbers i 0))
      ];
      kept = λ k off. before.kept k (off_before marks (get_or numbers i 0) k (subst (λ (ds : List Bool). get_or ds k true ≡ false) is off));
      marked = let more : marked c.replace.new.self ≡ marked (set marks (get_or numbers i 0) true) = ap (λ (ds : List Bool). marked ds) is in
          omega (arith, more, marked_more marks (get_or numbers i 0) (omega (arith, there, before.count)), before.marked);
    }
