-- The answer to a log and its certificate.
use Rattle.std.proofs.Common.{◌≡◌, ℕ, ◌≤◌, Bool, true, Option, Result, Ok, Err, List, [], ◌++◌, refl, sym, ap, subst, ◌∙◌, arith, inl, inr, append-nil}
use Rattle.std.specs.Prelude.{◌↔◌, IsTrue, IfOk}
use Rattle.std.specs.Io.KnownBytes.{Consumes}
use Rattle.std.proofs.KnownBytes.{Consumes-trans, Consumes-nil}
use Rattle.input_reading.specs.Intakes.{ReadsShort}
use Rattle.run_model.specs.Cut.{initial}
use Rattle.run_model.specs.Meaning.{Sat}
use Rattle.pota_base.specs.Changes.{change_of, left_of}
use Rattle.event_log.specs.LogEnd.{behind_log}
use Rattle.rctl_grammar.specs.Shape.{shape_of}
use Rattle.rctl_grammar.specs.declared.tree.Tree.{Tree}
use Rattle.rctl_print.specs.Canonical.{canonical}
use Rattle.rctl_class.specs.Nodes.{node_of}
use Rattle.stated_formula.specs.declared.formula.Stated.{Stated}
use Rattle.trace_growth.specs.Growing.{IsTrace}
use Rattle.rctl_parts.specs.MadeFor.{AllFit, AreMadeFor}
use Rattle.rctl_parts.specs.Spelled.{disjunction_of}
use Rattle.rctl_parts.specs.Pieces.{Piece, disjuncts_of}
use Rattle.part_pulls.specs.declared.observed.Observed.{Observed}
use Rattle.part_pulls.specs.Counters.{CountersRise}
use Rattle.part_pulls.specs.Observing.{Reading, AreAnswers, clocks_seen, run_seen, names_seen, scope_seen}
use Rattle.fault_kinds.specs.declared.refusal.Refusal.{Refusal}
use Rattle.fault_kinds.specs.declared.refusal.Refusal.TheVariants as refusal
use Rattle.log_rules.specs.Judgement.{Prefix, Judgement, waiting}
use Rattle.log_rules.specs.Due.{Due, due}
use Rattle.log_rules.specs.Readings.{log_reading}
use Rattle.log_check.specs.declared.check.LogCheck.{LogCheck}
use Rattle.log_check.specs.declared.checked.CheckedLog.{CheckedLog}
use Rattle.watch.specs.declared.predicate.Handed.{Handed}
use Rattle.log_check.specs.Aims.{Says, Aim, aim_of, names_of, watches_of, rules_of, reading_of}
use Rattle.log_check.specs.Checked.{IsCheckedLog, IsTrueSoFar, observed_alone}
use Rattle.log_check.specs.Checking.{IsCheckOf, HasClosed}
use Rattle.log_part.specs.Fronts.{due_of_front}
use Rattle.log_part.specs.Reading.{HasReadFront, IsWholeLog}
use Rattle.log_part.specs.declared.front.Front.{Front}
use Rattle.log_part.specs.declared.front.Front.TheVariants as front
use Rattle.log_part.proofs.FrontLaws.{front_stays, behind_stays}
use Rattle.certificate_text.specs.Taking.{VerifierView, AreAccepted, fresh}
use Rattle.certificate_text.specs.Bytes.{Judged, RefusedAt}
use Rattle.certificate_text.proofs.Lines.{has_lines}
use Rattle.certificate_input.specs.Pieces.{RefusedWithin, NoneRefused}
use Rattle.certificate_input.proofs.PieceLaws.{within_at}
use Rattle.certificate_nodes.specs.Nodes.{NodesView, AreNodes, fresh_nodes}
use Rattle.certificate.specs.Following.{Follows}
use Rattle.certificate.specs.Numbering.{plan_of}
use Rattle.fault_line.specs.declared.fault.Fault.{Fault}
use Rattle.fault_line.specs.declared.fault.Fault.TheVariants as fault
use Rattle.fault_line.specs.Faults.{fault_of_refusal}
use Rattle.verify_answers.specs.declared.answer.Answer.{Answer}
use Rattle.verify_answers.specs.declared.answer.Answer.TheVariants.{Accepted, Refused, Faulty}
use Rattle.verify_answers.specs.Asking.{AsksAbout, IsFormulaOf}
use Rattle.certificate_lines.specs.Spelling.{formula_line}
use Rattle.verify_answers.specs.Judging.{IsJudged, HasJudged, IsDecided, start_at}
use Rattle.verify_top.specs.Asking.{aim_for, start_of}
use Rattle.verify_top.specs.Verifying.{HasLog, IsLogRefused, Answers}
use Rattle.verify_top.specs.Verifying.{Says as AnswerSays}
use Rattle.verify_top.proofs.Fronts.{whole_there}

-- the verdict of a certificate that is accepted is the truth of its formula, whoever made it
abbrev pub TellTruth : Type 0
TellTruth =
    (seen : Observed) (ds : List (List Piece)) (formula : List ℕ) (texts : List (List ℕ)) (told : Bool)
    → IsTrace seen.trace.states → AllFit (scope_seen seen) ds → CountersRise seen ds → AreNodes (fresh_nodes (clocks_seen seen) (plan_of seen ds))
    → AreAccepted Follows (fresh formula (fresh_nodes (clocks_seen seen) (plan_of seen ds))) texts told → (reading : Reading) → AreAnswers seen reading
    → IsTrue told ↔ Sat (run_seen seen reading) (disjunction_of (names_seen seen reading) ds) (initial (clocks_seen seen))

-- ---- the words

pub asks_about : (words : List (List ℕ)) (stated : Stated) → IsFormulaOf words stated → AsksAbout words stated.formula.tree
asks_about words stated (text, one, is) = record { text = text; one = one; is_read = is.is_read; free = is.classed.free }

-- the aim of the formula
pub aim_is : (words : List (List ℕ)) (stated : Stated) → IsFormulaOf words stated → aim_of stated [] (λ name states. []) ≡ aim_for stated.formula.tree
aim_is words stated (text, one, is) =
    ap (λ (t : List ℕ). let a : Aim = record { node = node_of stated.formula.tree; text = t; names = []; watches = λ name states. [] } in a) is.printed

-- ---- no watches

pub checks : {X : Type 0} {P : X → Type 0} (says : Says X P) (words : List (List ℕ)) (stated : Stated) (handed : List (Handed X P)) (check : LogCheck X P) → IsFormulaOf words stated → handed ≡ []
    → IsCheckOf says (aim_of stated (names_of handed) (watches_of says handed)) check waiting → IsCheckOf says (aim_for stated.formula.tree) check waiting
checks {X} {P} says words stated handed check is none h =
    subst (λ (a : Aim). IsCheckOf says a check waiting) (aim_is words stated is)
    (subst (λ (hs : List (Handed X P)). IsCheckOf says (aim_of stated (names_of hs) (watches_of says hs)) check waiting) none h)

pub unwatched : {X : Type 0} {P : X → Type 0} {E : Type 0} (says : Says X P) (words : List (List ℕ)) (stated : Stated) (handed : List (Handed X P)) (r : Result (LogCheck X P) E) → IsFormulaOf words stated → handed ≡ []
    → IfOk r (λ check. IsCheckOf says (aim_of stated (names_of handed) (watches_of says handed)) check waiting)
    → IfOk r (λ check. IsCheckOf says (aim_for stated.formula.tree) check waiting)
unwatched says words stated handed (Ok check) is none h = checks says words stated handed check is none h
unwatched says words stated handed (Err e) is none h = tt

-- ---- a refusal

refused_at : (bytes : List ℕ) (start : VerifierView NodesView) (n : ℕ) → RefusedWithin Follows bytes start [] n → RefusedAt Follows bytes start [] n
refused_at bytes start n within = subst (λ (xs : List ℕ). RefusedAt Follows xs start [] n) (append-nil bytes) (within_at Follows bytes [] start [] n within)

-- ---- there is no memory

pub short_read : (left left' : Option (List ℕ)) (lf lf' : ℕ) (words : List (List ℕ)) → ReadsShort (change_of left left' lf lf') → Answers (change_of left left' lf lf') words (Faulty fault.Memory)
short_read left left' lf lf' words h = record { read = h.read; consumed = h.consumed; later = h.later; says = tt }

pub none_read : (left : Option (List ℕ)) (lf : ℕ) (words : List (List ℕ)) → Answers (change_of left left lf lf) words (Faulty fault.Memory)
none_read left lf words = record { read = []; consumed = Consumes-nil left; later = omega arith; says = tt }

-- ---- the log is refused, or can't be read to its end

pub refused_says : (left : Option (List ℕ)) (lf lf' : ℕ) (words : List (List ℕ)) (read : List ℕ) (why : Refusal) → IsLogRefused left words read why
    → AnswerSays (left_of left lf lf') words read (Faulty (fault_of_refusal why))
refused_says left lf lf' words read (refusal.Formula f) is = inr is
refused_says left lf lf' words read (refusal.Log f) is = is
refused_says left lf lf' words read (refusal.Import f) is = is
refused_says left lf lf' words read (refusal.Merge f) is = is

module _ {X : Type 0} {P : X → Type 0} (says : Says X P) (words : List (List ℕ)) (tree : Tree) (asks : AsksAbout words tree) where
  pub log_refused : (left left' : Option (List ℕ)) (lf lf' : ℕ) (why : Refusal) → HasReadFront says (aim_for tree) (change_of left left' lf lf') (front.Refused why)
      → Answers (change_of left left' lf lf') words (Faulty (fault_of_refusal why))
  log_refused left left' lf lf' why h = record {
    read = h.read;
    consumed = h.consumed;
    later = h.later;
    says = refused_says left' lf lf' words h.read why (record { tree = tree; asks = asks; ended = h.is.0; at_end = h.is.1; due_is = h.is.2 });
  }

  pub log_failed : (left left' : Option (List ℕ)) (lf lf' : ℕ) → HasReadFront says (aim_for tree) (change_of left left' lf lf') front.Failed → Answers (change_of left left' lf lf') words (Faulty fault.Read)
  log_failed left left' lf lf' h = record {
    read = h.read;
    consumed = h.consumed;
    later = h.later;
    says = (h.is.0, inl (record { tree = tree; asks = asks; short = h.is.1 }));
  }

  -- ---- the log is whole

  module _ (check : LogCheck X P) (rest bytes : List ℕ) (checked : CheckedLog) (w : IsWholeLog says (aim_for tree) check rest bytes) (is : IsCheckedLog (aim_for tree) w.log checked) (more : List ℕ) where
    due_stays : due_of_front (aim_for tree) true (bytes ++ more) ≡ due_of_front (aim_for tree) true bytes
    due_stays = ap (due log_reading (rules_of (aim_for tree)) true) (front_stays bytes more w.over)

    abbrev start : VerifierView NodesView
    start = start_of tree w.log

    -- it is the certificate of this formula on this log
    start_is : start_at checked ≡ start
    unfolding start_of
    start_is =
        ap (λ (t : List ℕ). fresh (formula_line t) (fresh_nodes (clocks_seen checked.seen) (plan_of checked.seen (disjuncts_of checked.disjuncts)))) is.text
        ∙ ap (λ (s : Observed). fresh (formula_line (canonical (shape_of tree))) (fresh_nodes (clocks_seen s) (plan_of s (disjuncts_of checked.disjuncts)))) (is.alone refl)
        ∙ ap (λ (ds : List (List Piece)). fresh (formula_line (canonical (shape_of tree))) (fresh_nodes (clocks_seen (observed_alone w.log)) (plan_of (observed_alone w.log) ds))) is.split

    pub has_log : HasLog words (bytes ++ more)
    has_log = record {
      tree = tree;
      asks = asks;
      log = w.log;
      whole = ap (λ (d : Due). d.whole) due_stays ∙ w.whole;
      free = ap (λ (d : Due). d.fault) due_stays ∙ w.free;
    }

    certificate_is : rest ++ more ≡ behind_log [] (bytes ++ more)
    certificate_is = ap (λ (xs : List ℕ). xs ++ more) w.rest_is ∙ sym (behind_stays bytes more w.over)

    -- what is said of the certificate, from its start on
    placed : (Q : List ℕ → VerifierView NodesView → Type 0) → Q (rest ++ more) (start_at checked) → Q (behind_log [] (bytes ++ more)) start
    placed Q q = subst (Q (behind_log [] (bytes ++ more))) start_is (subst (λ (xs : List ℕ). Q xs (start_at checked)) certificate_is q)

    module _ (law : TellTruth) (trace : IsTrace checked.seen.trace.states) (made : AreMadeFor (scope_seen checked.seen) (disjuncts_of checked.disjuncts)) (rise : CountersRise checked.seen (disjuncts_of checked.disjuncts)) where
      -- an accepted certificate tells the truth
      truth_told : (told : Bool) → AreNodes (start_at checked).nodes → Judged Follows (rest ++ more) (start_at checked) [] told → (told ≡ true) ↔ IsTrueSoFar (aim_for tree) w.log
      truth_told told nodes judged =
          let lines = has_lines Follows (start_at checked) (rest ++ more) told judged in
          let same = law checked.seen (disjuncts_of checked.disjuncts) (formula_line checked.stated.text) lines.0 told trace made.fit rise nodes lines.3 (reading_of (aim_for tree)) is.watches in
          (λ h. is.truth.0 (same.0 h), λ h. same.1 (is.truth.1 h))

      pub judged_says : (left : Option (List ℕ)) (lf lf_now lf' : ℕ) → lf ≤ lf_now → (answer : Answer) → (IsDecided answer → AreNodes (start_at checked).nodes) → IsJudged left lf_now lf' (start_at checked) (rest ++ more) answer
          → AnswerSays (left_of left lf lf') words (bytes ++ more) answer
      unfolding has_log
      judged_says left lf lf_now lf' later (Accepted told) nodes j = record {
        ended = j.0;
        of = has_log;
        judged = placed (λ xs s. Judged Follows xs s [] told) j.1;
        truth = truth_told told (nodes tt) j.1;
      }
      judged_says left lf lf_now lf' later (Refused n) nodes (inl (ended, refused)) = record {
        of = has_log;
        refused = placed (λ xs s. RefusedAt Follows xs s [] n) refused;
        seen = inl ended;
      }
      judged_says left lf lf_now lf' later (Refused n) nodes (inr within) = record {
        of = has_log;
        refused = placed (λ xs s. RefusedAt Follows xs s [] n) (refused_at (rest ++ more) (start_at checked) n within);
        seen = inr (placed (λ xs s. RefusedWithin Follows xs s [] n) within);
      }
      judged_says left lf lf_now lf' later (Faulty fault.Usage) nodes j = absurd j
      judged_says left lf lf_now lf' later (Faulty (fault.Formula f)) nodes j = absurd j
      judged_says left lf lf_now lf' later (Faulty (fault.Log f)) nodes j = absurd j
      judged_says left lf lf_now lf' later (Faulty (fault.Import f)) nodes j = absurd j
      judged_says left lf lf_now lf' later (Faulty (fault.Merge f)) nodes j = absurd j
      judged_says left lf lf_now lf' later (Faulty fault.Read) nodes j =
          (let rose = j.0 in omega (arith, rose, later), inr (record { of = has_log; free = placed (λ xs s. NoneRefused Follows xs s) j.1 }))
      judged_says left lf lf_now lf' later (Faulty fault.Write) nodes j = absurd j
      judged_says left lf lf_now lf' later (Faulty fault.Memory) nodes j = tt

      -- the whole input
      pub all_judged : (left mid left' : Option (List ℕ)) (lf lf_now lf' : ℕ) → Consumes left mid bytes → lf ≤ lf_now → (answer : Answer) → (IsDecided answer → AreNodes (start_at checked).nodes)
          → Consumes mid left' more → lf_now ≤ lf' → IsJudged left' lf_now lf' (start_at checked) (rest ++ more) answer → Answers (change_of left left' lf lf') words answer
      all_judged left mid left' lf lf_now lf' first early answer nodes second late j = record {
        read = bytes ++ more;
        consumed = Consumes-trans left mid left' bytes more first second;
        later = omega (arith, early, late);
        says = judged_says left' lf lf_now lf' early answer nodes j;
      }

-- ---- what was read at the front, and what stands behind it

module _ {X : Type 0} {P : X → Type 0} (says : Says X P) (words : List (List ℕ)) (tree : Tree) (asks : AsksAbout words tree) (left mid left' : Option (List ℕ)) (lf lf_now lf' : ℕ) (at : Front X P)
    (h : HasReadFront says (aim_for tree) (change_of left mid lf lf_now) at) where
  pub behind_judged : (check : LogCheck X P) (rest : List ℕ) (is : at ≡ front.Whole check rest) (checked : CheckedLog)
      → ((j : Judgement) (log : Prefix) → IsCheckOf says (aim_for tree) check j → HasClosed j log → IsCheckedLog (aim_for tree) log checked)
      → TellTruth → IsTrace checked.seen.trace.states → AreMadeFor (scope_seen checked.seen) (disjuncts_of checked.disjuncts) → CountersRise checked.seen (disjuncts_of checked.disjuncts)
      → (piece : List ℕ) → piece ≡ rest → (answer : Answer) → HasJudged (change_of mid left' lf_now lf') (start_at checked) piece answer → (IsDecided answer → AreNodes (start_at checked).nodes)
      → Answers (change_of left left' lf lf') words answer
  behind_judged check rest is checked observed law trace made rise piece same answer judged nodes =
      let w = whole_there says (aim_for tree) left mid lf lf_now at check rest is h in
      let j = subst (λ (xs : List ℕ). HasJudged (change_of mid left' lf_now lf') (start_at checked) xs answer) same judged in
      all_judged says words tree asks check rest h.read checked w (observed w.judgement w.log w.check_is w.closed) j.read law trace made rise left mid left' lf lf_now lf' h.consumed h.later answer nodes j.consumed j.later j.is

  pub front_refused : (why : Refusal) (fault : Fault) → at ≡ front.Refused why → fault ≡ fault_of_refusal why → Answers (change_of left mid lf lf_now) words (Faulty fault)
  front_refused why fault is told =
      subst (λ (f : Fault). Answers (change_of left mid lf lf_now) words (Faulty f)) (sym told)
      (log_refused says words tree asks left mid lf lf_now why (subst (HasReadFront says (aim_for tree) (change_of left mid lf lf_now)) is h))

  pub front_unread : at ≡ front.Failed → Answers (change_of left mid lf lf_now) words (Faulty fault.Read)
  front_unread is = log_failed says words tree asks left mid lf lf_now (subst (HasReadFront says (aim_for tree) (change_of left mid lf lf_now)) is h)
