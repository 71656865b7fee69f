-- What holds of each answer: a formula that is stated is asked, and a run that did nothing is one.
use Rattle.std.proofs.Common.{◌≡◌, ℕ, List, [], Option, Err, refl, sym, ap, subst, arith, inl}
use Rattle.std.proofs.KnownBytes.{Appends-nil, Consumes-nil}
use Rattle.pota_base.specs.Outside.{IsPrefix}
use Rattle.run_model.specs.Run.{Name, Watches}
use Rattle.pota_base.specs.Changes.{behind_of, change_of}
use Rattle.rctl_class.specs.Nodes.{node_of, formula_of}
use Rattle.log_rules.specs.Passage.{passage_of}
use Rattle.stated_formula.specs.declared.formula.Stated.{Stated}
use Rattle.stated_formula.specs.Stating.{IsStated}
use Rattle.call_options.specs.declared.shown.Shown.{Shown}
use Rattle.log_answers.specs.PassedOn.{Asked}
use Rattle.log_answers.specs.PassedOn.{asked_of, aim_of}
use Rattle.log_answers.specs.declared.stop.StopCause.TheVariants as causes
use Rattle.log_answers.specs.declared.stop.Stop.{Stop}
use Rattle.call_promise.specs.declared.outcome.Outcome.{Outcome}
use Rattle.batch_answers.specs.Outcome.{outcome_of}
use Rattle.call_promise.specs.Asking.{Handing, asked}
use Rattle.call_promise.specs.Run.{Answer, Ran}

-- ---- a formula that is stated is asked

pub stated_asked : (s : Stated) (shown : Shown) (names : List Name) (watches : Watches) (text : List ℕ) → IsStated text s
    → asked_of (aim_of s shown names watches) ≡ asked s.formula.tree shown.slice shown.witness
stated_asked s shown names watches text is =
    ap (λ (t : List ℕ). let q : Asked = record { formula = formula_of (node_of s.formula.tree); text = t; slice = shown.slice; witness = shown.witness } in q) is.printed

-- ---- nothing was done

pub nothing_front : (text : List ℕ) → IsPrefix [] text
nothing_front text = (text, refl)

pub ran_nothing : (left held : Option (List ℕ)) (lf of : ℕ) (on : Handing) (words : List (List ℕ)) (o : Outcome) → Answer o.status (behind_of left lf lf of of) on words (passage_of [] []) o
    → Ran (change_of left left lf lf) (change_of held held of of) on words o
ran_nothing left held lf of on words o answer = record {
  read = [];
  written = [];
  consumed = Consumes-nil left;
  wrote = Appends-nil held;
  log_later = omega arith;
  out_later = omega arith;
  answer = answer;
}

pub ran_short : (left held : Option (List ℕ)) (lf of : ℕ) (on : Handing) (words : List (List ℕ)) (stop : Stop) → stop ≡ record { batches = 0; cause = causes.Memory }
    → Ran (change_of left left lf lf) (change_of held held of of) on words (outcome_of (Err stop))
ran_short left held lf of on words stop is =
    subst (λ (x : Stop). Ran (change_of left left lf lf) (change_of held held of of) on words (outcome_of (Err x))) (sym is)
    (ran_nothing left held lf of on words (outcome_of (Err (record { batches = 0; cause = causes.Memory }))) (record {
      front = λ other text batches w. (nothing_front text, omega arith);
      certified = λ t k. (inl refl, refl);
      unread = λ t sizes k. refl;
      unnamed = λ t sizes f k lacks. (refl, refl);
      fault = refl;
    }))
