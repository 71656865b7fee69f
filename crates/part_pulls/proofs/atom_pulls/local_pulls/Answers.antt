use Rattle.std.proofs.Common.{◌≡◌, ℕ, ◌+◌, ◌≤◌, Bool, true, List, [], ◌∷◌, length, get_or, Option, All, sym, ◌∙◌, ap, subst}
use Rattle.std.specs.Prelude.{unwrap_or, ◌↔◌, false}
use Rattle.pull_system.specs.Pulls.{ClosedUnder}
use Rattle.local_preds.specs.LocalPulls.{local_pull, constant_pulls_of}
use Rattle.channel_preds.specs.Truth.{lens_of}
use Rattle.event_log.specs.States.{StatesView}
use Rattle.pull_system.specs.declared.pull.Pull.{Pull}
use Rattle.pull_system.specs.System.{IsPull}
use Rattle.rctl_parts.specs.Exprs.{expr_of}
use Rattle.rctl_parts.specs.Pieces.{local}
use Rattle.rctl_parts.specs.MadeFor.{LocalFits}
use Rattle.local_preds.specs.Rows.{IsReadableAt, truths_of, len_at}
use Rattle.local_preds.proofs.RowSteps.{length-truths}
use Rattle.channel_preds.proofs.Growing.{lens-get_or}
use Rattle.part_pulls.specs.Observing.{scope_seen}
use Rattle.part_pulls.specs.Systems.{IsAtomOf}
use Rattle.part_pulls.proofs.Atoms.{readable, local_some, local_none}
use Rattle.part_pulls.proofs.atom_pulls.local_pulls.Goals as goal
use Rattle.part_pulls.proofs.atom_pulls.local_pulls.Goals.{in-Some+in_ok-pulls-in-Some, in-None+in_ok-pulls-in-None}

pub truth_row-requires-clause-readable : goal.truth_row-requires-clause-readable
truth_row-requires-clause-readable c =
    let e = expr_of c.args.expr.now in
    let here = readable c.args.seen.now c.requires.ready.full c.args.process e c.requires.fits in
    subst (λ (s : StatesView). IsReadableAt s c.unwrap_or.result c.args.seen.now.watch_rows e) (sym c.states-states.ensures.states)
    (subst (λ (p : ℕ). IsReadableAt c.args.seen.now.trace.states p c.args.seen.now.watch_rows e) (sym c.unwrap_or.ensures) here)

pub pulls_of-requires-clause-row : goal.pulls_of-requires-clause-row
pulls_of-requires-clause-row c =
    let states = c.states-states.result.now in
    let process_is : c.unwrap_or.result ≡ c.in-Some.process = c.unwrap_or.ensures ∙ ap (λ (o : Option ℕ). unwrap_or o 0) c.in-Some.is in
    let row : length c.as_slice.result.now ≡ len_at states c.unwrap_or.result + 1 =
    ap length c.as_slice.ensures ∙ ap length c.in_ok-row.ensures.truths ∙ length-truths states c.unwrap_or.result c.args.seen.now.watch_rows (expr_of c.args.expr.now) in
    let len : get_or c.shape.result.now c.in-Some.process 0 ≡ len_at states c.in-Some.process =
    ap (λ (lens : List ℕ). get_or lens c.in-Some.process 0) c.shape.ensures ∙ lens-get_or states.events c.in-Some.process in
    row ∙ ap (λ (p : ℕ). len_at states p + 1) process_is ∙ ap (λ (n : ℕ). n + 1) (sym len)

pub returns : goal.returns
returns c =
    let seen = c.args.seen.now in
    let e = expr_of c.args.expr.now in
    let truth = c.get-truth.result.now in
    elim c.match-process.branch [
      | in-Some+in_ok-pulls-in-Some w ↦
          let p = w.in-Some.process in
          let told = w.in_ok-pulls-in-Some.ensures in
          let process_is : c.unwrap_or.result ≡ p = c.unwrap_or.ensures ∙ ap (λ (o : Option ℕ). unwrap_or o 0) w.in-Some.is in
          let row_is : c.in_ok-row.row ≡ truths_of seen.trace.states p seen.watch_rows e =
          c.in_ok-row.ensures.truths ∙ ap (λ (s : StatesView). truths_of s c.unwrap_or.result seen.watch_rows e) c.states-states.ensures.states
          ∙ ap (λ (q : ℕ). truths_of seen.trace.states q seen.watch_rows e) process_is in
          let lens_is : w.shape.result.now ≡ lens_of seen.trace.states = w.shape.ensures ∙ ap lens_of c.states-states.ensures.states in
          let own : w.in_ok-pulls-in-Some.pulls ≡ local_pull p c.in_ok-row.row ∷ [] = told.pulls ∙ ap (λ (r : List Bool). local_pull p r ∷ []) w.as_slice.ensures in
          let fit = subst (λ (lens : List ℕ). All (IsPull lens) w.in_ok-pulls-in-Some.pulls) lens_is told.fit in
          let closed : (v : List ℕ) → get_or v p 0 ≤ get_or (lens_of seen.trace.states) p 0 → ClosedUnder w.in_ok-pulls-in-Some.pulls v ↔ (get_or c.in_ok-row.row (get_or v p 0) false ≡ true) =
          λ v within. subst (λ (r : List Bool). ClosedUnder w.in_ok-pulls-in-Some.pulls v ↔ (get_or r (get_or v p 0) false ≡ true)) w.as_slice.ensures
          (told.closed v (subst (λ (lens : List ℕ). get_or v p 0 ≤ get_or lens p 0) (sym lens_is) within)) in
          let P : Option ℕ → List Pull → Type 0 = λ o pulls. IsAtomOf seen (local o e) pulls truth in
          let fits = subst (λ (o : Option ℕ). LocalFits (scope_seen seen) o e) w.in-Some.is c.requires.fits in
          let is = local_some seen c.states-states.ensures.trace p e fits c.in_ok-row.row row_is w.in_ok-pulls-in-Some.pulls own fit closed truth c.get-truth.ensures.indexed in
          subst (λ (pulls : List Pull). P c.args.process pulls) (sym w.pulls-is) (subst (λ (o : Option ℕ). P o w.in_ok-pulls-in-Some.pulls) (sym w.in-Some.is) is)
      | in-None+in_ok-pulls-in-None w ↦
          let told = w.in_ok-pulls-in-None.ensures in
          let process_is : c.unwrap_or.result ≡ 0 = c.unwrap_or.ensures ∙ ap (λ (o : Option ℕ). unwrap_or o 0) w.in-None.is in
          let row_is : c.in_ok-row.row ≡ truths_of seen.trace.states 0 seen.watch_rows e =
          c.in_ok-row.ensures.truths ∙ ap (λ (s : StatesView). truths_of s c.unwrap_or.result seen.watch_rows e) c.states-states.ensures.states
          ∙ ap (λ (q : ℕ). truths_of seen.trace.states q seen.watch_rows e) process_is in
          let lens_is : w.shape-in-None.result.now ≡ lens_of seen.trace.states = w.shape-in-None.ensures ∙ ap lens_of c.states-states.ensures.states in
          let own : w.in_ok-pulls-in-None.pulls ≡ constant_pulls_of (lens_of seen.trace.states) truth = told.pulls ∙ ap (λ (lens : List ℕ). constant_pulls_of lens truth) lens_is in
          let fit = subst (λ (lens : List ℕ). All (IsPull lens) w.in_ok-pulls-in-None.pulls) lens_is told.fit in
          let closed : (v : List ℕ) → get_or v 0 0 ≤ get_or (lens_of seen.trace.states) 0 0 → ClosedUnder w.in_ok-pulls-in-None.pulls v ↔ (truth ≡ true) =
          λ v within. told.closed v (subst (λ (lens : List ℕ). get_or v 0 0 ≤ get_or lens 0 0) (sym lens_is) within) in
          let P : Option ℕ → List Pull → Type 0 = λ o pulls. IsAtomOf seen (local o e) pulls truth in
          let fits = subst (λ (o : Option ℕ). LocalFits (scope_seen seen) o e) w.in-None.is c.requires.fits in
          let is = local_none seen c.states-states.ensures.trace e fits c.in_ok-row.row row_is truth c.get-truth.ensures.indexed w.in_ok-pulls-in-None.pulls own fit closed in
          subst (λ (pulls : List Pull). P c.args.process pulls) (sym w.pulls-is) (subst (λ (o : Option ℕ). P o w.in_ok-pulls-in-None.pulls) (sym w.in-None.is) is)
    ]
