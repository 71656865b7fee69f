use Rattle.std.proofs.Common.{◌≡◌, ◌↔◌, ℕ, ◌+◌, ◌∙◌, List, length, get_or, sym, ap, subst, arith, rules}
use Rattle.std.specs.Prelude.{All, Bool, true, replicate}
use Rattle.std.proofs.lemmas.Result.{IfOk-weaker}
use Rattle.pull_system.specs.declared.pull.Pull.{Pull}
use Rattle.pull_system.specs.System.{IsPull}
use Rattle.pull_system.specs.Pulls.{ClosedUnder}
use Rattle.local_preds.specs.LocalPulls.{constant_pulls_of}
use Rattle.local_preds.proofs.Truths.{staying, told_pulls, never_filled, constant_fits, constant_closes}
use Rattle.local_preds.proofs.along.constant_pulls.Goals as goal

pub returns-clause-pulls : goal.returns-clause-pulls
returns-clause-pulls c =
    let none = get_or c.lens.result.now 0 0 + 1 in
    let filled : c.in_ok-table.table.items ≡ replicate (none + 1) none = search rules in
    let first : none ≡ get_or c.args.shape.now 0 0 + 1 = ap (λ (lens : List ℕ). get_or lens 0 0 + 1) c.lens.ensures.lens in
    IfOk-weaker c.stay.result (λ (ps : List Pull). ps ≡ staying 0 c.in_ok-table.table.items) (λ (ps : List Pull). ps ≡ constant_pulls_of c.args.shape.now c.args.value)
    (λ ps is. told_pulls ps 0 _ _ (never_filled c.args.shape.now none _ first filled) is ∙ ap (constant_pulls_of c.args.shape.now) (sym c.if-value.false)) c.stay.ensures

pub returns-clause-fit : goal.returns-clause-fit
returns-clause-fit c =
    let P : List Pull → Type 0 = λ ps. All (IsPull c.args.shape.now) ps in
    IfOk-weaker c.stay.result (λ (ps : List Pull). ps ≡ constant_pulls_of c.args.shape.now c.args.value) P
    (λ ps is. subst P (sym is) (constant_fits c.args.shape.now c.args.value (omega (arith, c.lens.ensures.shape, ap (λ (lens : List ℕ). length lens) c.lens.ensures.lens)))) (returns-clause-pulls c)

pub returns-clause-closed : goal.returns-clause-closed
returns-clause-closed c = λ v within.
    let P : List Pull → Type 0 = λ ps. ClosedUnder ps v ↔ (c.args.value ≡ true) in
    IfOk-weaker c.stay.result (λ (ps : List Pull). ps ≡ constant_pulls_of c.args.shape.now c.args.value) P
    (λ ps is. subst P (sym is) (constant_closes c.args.shape.now c.args.value v within)) (returns-clause-pulls c)
