-- Each answer comes exactly in its case.
use Rattle.std.proofs.Common.{◌≡◌, ◌⊎◌, ℕ, Bool, true, false, Option, Some, None, List, [], ◌++◌, refl, sym, ap, subst, ◌∙◌, inl, inr, append-nil}
use Rattle.std.specs.Io.KnownBytes.{Consumes, IsAtEnd}
use Rattle.pota_base.specs.Limits.{longest_log}
use Rattle.pota_base.specs.Changes.{change_of, left_of}
use Rattle.event_log.specs.LogEnd.{is_whole, log_upto}
use Rattle.rctl_grammar.specs.declared.fault.FormulaFault.{FormulaFault}
use Rattle.rctl_grammar.specs.declared.tree.Tree.{Tree}
use Rattle.fault_kinds.specs.declared.refusal.Refusal.{Refusal}
use Rattle.fault_kinds.specs.declared.refusal.Refusal.TheVariants as refusal
use Rattle.log_rules.specs.Judgement.{Prefix}
use Rattle.log_rules.specs.Due.{Due, due}
use Rattle.log_rules.specs.Readings.{log_reading}
use Rattle.log_rules.proofs.Dues.{due_stays}
use Rattle.log_rules.proofs.Readings.{log_is_read}
use Rattle.log_check.specs.Aims.{rules_of}
use Rattle.log_part.specs.Fronts.{log_front, due_of_front}
use Rattle.log_part.proofs.FrontLaws.{front-more, front_stays, behind_stays, whole_over}
use Rattle.certificate_text.specs.Taking.{VerifierView}
use Rattle.certificate_text.specs.Bytes.{Judged, RefusedAt}
use Rattle.certificate_text.proofs.OneAnswer.{one_truth, one_refusal, apart}
use Rattle.certificate_input.specs.Pieces.{RefusedWithin}
use Rattle.certificate_input.proofs.PieceLaws.{within_at}
use Rattle.certificate_nodes.specs.Nodes.{NodesView}
use Rattle.certificate.specs.Following.{Follows}
use Rattle.fault_line.specs.declared.fault.Fault.{Fault}
use Rattle.fault_line.specs.declared.fault.Fault.TheVariants as fault
use Rattle.fault_line.specs.Faults.{fault_of_refusal}
use Rattle.verify_answers.specs.declared.answer.Answer.{Answer}
use Rattle.verify_answers.specs.declared.answer.Answer.TheVariants.{Accepted, Refused, Faulty}
use Rattle.verify_answers.specs.declared.answer.Verified.{Verified}
use Rattle.verify_answers.specs.Asking.{AsksAbout, AskNothing, HasFormulaFault}
use Rattle.verify_answers.specs.Telling.{IsTold}
use Rattle.verify_top.specs.Asking.{aim_for, start_of}
use Rattle.verify_top.specs.Verifying.{HasLog, certificate_of, IsLogRefused, IsFaulty, Says, HasVerified}
use Rattle.verify_top.specs.Exactness.{IsCalm, Tells, IsJudgedSo, IsDecidedSo, IsRefusedAsDue, IsRefusedAsAsked}
use Rattle.verify_top.proofs.Asked.{some_one, not_both, about_one, about_free, fault_one}
use Rattle.verify_top.proofs.OneLine.{one_follows}

-- ---- the bytes of a source

read_all : (left left' : Option (List ℕ)) (bytes read : List ℕ) → left ≡ Some bytes → Consumes left left' read → IsAtEnd left' → read ≡ bytes
read_all left None bytes read is consumed ended = absurd (subst (λ (o : Option (List ℕ)). Consumes o None read) is consumed)
read_all left (Some rest) bytes read is consumed ended =
    let whole : bytes ≡ read ++ rest = subst (λ (o : Option (List ℕ)). Consumes o (Some rest) read) is consumed in
    sym (append-nil read) ∙ ap (λ (x : List ℕ). read ++ x) (sym ended) ∙ sym whole

rest_of : (left left' : Option (List ℕ)) (bytes read : List ℕ) → left ≡ Some bytes → Consumes left left' read → (rest : List ℕ) × (bytes ≡ read ++ rest)
rest_of left None bytes read is consumed = absurd (subst (λ (o : Option (List ℕ)). Consumes o None read) is consumed)
rest_of left (Some rest) bytes read is consumed = (rest, subst (λ (o : Option (List ℕ)). Consumes o (Some rest) read) is consumed)

-- ---- what is due of the log

-- a fault stays due
fault_stays : (t : Tree) (read rest : List ℕ) (why : Refusal) → (due_of_front (aim_for t) false read).fault ≡ Some why → (due_of_front (aim_for t) true (read ++ rest)).fault ≡ Some why
fault_stays t read rest why is =
    let more = log_front (log_upto [] read) rest in
    let rules = rules_of (aim_for t) in
    ap (λ (xs : List ℕ). (due log_reading rules true xs).fault) (front-more read rest [])
    ∙ ap (λ (d : Due). d.fault) (due_stays longest_log log_reading log_is_read rules true (log_front [] read) more why is) ∙ is

module _ (left left' held held' : Option (List ℕ)) (lf lf' of of' : ℕ) (words : List (List ℕ)) (v : Verified) (h : HasVerified (change_of left left' lf lf') (change_of held held' of of') words v) (calm : IsCalm lf lf' of of' v) where
  abbrev read : List ℕ
  read = h.answers.read

  told_so : (answer : Answer) → IsTold (change_of held held' of of') answer v → Tells held held' answer v
  told_so (Accepted truth) (inl x) = record { verified = x.0; wrote = x.1 }
  told_so (Accepted truth) (inr x) = absurd (calm.1 x.1)
  told_so (Refused n) (inl x) = record { verified = x.0; wrote = x.1 }
  told_so (Refused n) (inr x) = absurd (calm.1 x.1)
  told_so (Faulty f) x = record { verified = x.0; wrote = x.1 }

  not_short : Tells held held' (Faulty fault.Memory) v → ⊥
  not_short t = calm.2 (ap (λ (x : Verified). x.status) t.verified)

  module _ (bytes : List ℕ) (t : Tree) (is : left ≡ Some bytes) (asks : AsksAbout words t) where
    -- ---- a log at the front of what was read stands at the front of all bytes

    rest : (r : List ℕ) × (bytes ≡ read ++ r)
    rest = rest_of left left' bytes read is h.answers.consumed

    over : (log : HasLog words read) → is_whole (log_upto [] read) ≡ true
    over log = whole_over (aim_for log.tree) read log.log log.whole

    due_same : (log : HasLog words read) → due_of_front (aim_for log.tree) true read ≡ due_of_front (aim_for t) true bytes
    due_same log =
        ap (λ (xs : List ℕ). due log_reading (rules_of (aim_for log.tree)) true xs) (sym (front_stays read rest.0 (over log)))
        ∙ ap (due_of_front (aim_for log.tree) true) (sym rest.1) ∙ ap (λ (u : Tree). due_of_front (aim_for u) true bytes) (about_one words log.tree t log.asks asks)

    certificate_is : (log : HasLog words read) → certificate_of bytes ≡ certificate_of read ++ rest.0
    certificate_is log = ap certificate_of rest.1 ∙ behind_stays read rest.0 (over log)

    log_free : HasLog words read → (due_of_front (aim_for t) true bytes).fault ≡ None
    log_free log = ap (λ (d : Due). d.fault) (sym (due_same log)) ∙ log.free

    log_due : (why : Refusal) → IsLogRefused left' words read why → (due_of_front (aim_for t) true bytes).fault ≡ Some why
    log_due why r = go r.ended r.at_end (subst (λ (u : Tree). (due_of_front (aim_for u) r.ended read).fault ≡ Some why) (about_one words r.tree t r.asks asks) r.due_is)
      where
        go : (ended : Bool) → (ended ≡ true → IsAtEnd left') → (due_of_front (aim_for t) ended read).fault ≡ Some why → (due_of_front (aim_for t) true bytes).fault ≡ Some why
        go true at_end due_is = ap (λ (xs : List ℕ). (due_of_front (aim_for t) true xs).fault) (sym (read_all left left' bytes read is h.answers.consumed (at_end refl))) ∙ due_is
        go false at_end due_is = ap (λ (xs : List ℕ). (due_of_front (aim_for t) true xs).fault) rest.1 ∙ fault_stays t read rest.0 why due_is

    -- ---- the certificate is judged

    module _ (free : (due_of_front (aim_for t) true bytes).fault ≡ None) where
      not_faulty : (f : Fault) → IsFaulty (left_of left' lf lf') words read f → Tells held held' (Faulty f) v → ⊥
      not_faulty fault.Usage s tells = s.0 asks.text asks.one
      not_faulty (fault.Formula f) (inl s) tells = about_free words t f asks s.0
      not_faulty (fault.Formula f) (inr s) tells = not_both _ (refusal.Formula f) free (log_due (refusal.Formula f) s)
      not_faulty (fault.Log f) s tells = not_both _ (refusal.Log f) free (log_due (refusal.Log f) s)
      not_faulty (fault.Import f) s tells = not_both _ (refusal.Import f) free (log_due (refusal.Import f) s)
      not_faulty (fault.Merge f) s tells = not_both _ (refusal.Merge f) free (log_due (refusal.Merge f) s)
      not_faulty fault.Read s tells = calm.0 s.0
      not_faulty fault.Write s tells = s
      not_faulty fault.Memory s tells = not_short tells

      module _ (log : Prefix) (whole : (due_of_front (aim_for t) true bytes).whole ≡ Some log) where
        abbrev start : VerifierView NodesView
        start = start_of t log

        -- the certificate is that of this formula on this log
        started : (of_log : HasLog words read) → start_of of_log.tree of_log.log ≡ start_of t log
        started of_log =
            let same : of_log.log ≡ log = some_one _ of_log.log log (ap (λ (d : Due). d.whole) (sym (due_same of_log)) ∙ of_log.whole) whole in
            ap (λ (u : Tree). start_of u of_log.log) (about_one words of_log.tree t of_log.asks asks) ∙ ap (start_of t) same

        decided_by : (answer : Answer) → Says (left_of left' lf lf') words read answer → Tells held held' answer v → IsJudgedSo t log bytes held held' v
        decided_by (Accepted truth) s tells =
            let all = read_all left left' bytes read is h.answers.consumed s.ended in
            let judged : Judged Follows (certificate_of bytes) start [] truth =
            subst (λ (x : VerifierView NodesView). Judged Follows (certificate_of bytes) x [] truth) (started s.of)
            (subst (λ (xs : List ℕ). Judged Follows (certificate_of xs) (start_of s.of.tree s.of.log) [] truth) all s.judged) in
            record {
              accepted = λ other j. subst (λ (b : Bool). Tells held held' (Accepted b) v) (one_truth Follows one_follows (certificate_of bytes) start [] truth other judged j) tells;
              refused = λ n r. absurd (apart Follows one_follows (certificate_of bytes) start [] truth n judged r);
            }
        decided_by (Refused n) s tells =
            let refused : RefusedAt Follows (certificate_of bytes) start [] n =
            subst (λ (x : VerifierView NodesView). RefusedAt Follows (certificate_of bytes) x [] n) (started s.of) (at s.seen) in
            record {
              accepted = λ truth j. absurd (apart Follows one_follows (certificate_of bytes) start [] truth n j refused);
              refused = λ m r. subst (λ (k : ℕ). Tells held held' (Refused k) v) (one_refusal Follows one_follows (certificate_of bytes) start [] n m refused r) tells;
            }
          where
            at : IsAtEnd left' ⊎ RefusedWithin Follows (certificate_of read) (start_of s.of.tree s.of.log) [] n → RefusedAt Follows (certificate_of bytes) (start_of s.of.tree s.of.log) [] n
            at (inl ended) = subst (λ (xs : List ℕ). RefusedAt Follows (certificate_of xs) (start_of s.of.tree s.of.log) [] n) (read_all left left' bytes read is h.answers.consumed ended) s.refused
            at (inr within) = subst (λ (xs : List ℕ). RefusedAt Follows xs (start_of s.of.tree s.of.log) [] n) (sym (certificate_is s.of)) (within_at Follows (certificate_of read) rest.0 (start_of s.of.tree s.of.log) [] n within)
        decided_by (Faulty f) s tells = absurd (not_faulty f s tells)

      whole_log : (of_log : HasLog words read) → (due_of_front (aim_for t) true bytes).whole ≡ Some of_log.log
      whole_log of_log = ap (λ (d : Due). d.whole) (sym (due_same of_log)) ∙ of_log.whole

      abbrev Decided : Type 0
      Decided = (log : Prefix) × ((due_of_front (aim_for t) true bytes).whole ≡ Some log) × IsJudgedSo t log bytes held held' v

      found : (answer : Answer) → Says (left_of left' lf lf') words read answer → Tells held held' answer v → Decided
      found (Accepted truth) s tells = (s.of.log, whole_log s.of, decided_by s.of.log (whole_log s.of) (Accepted truth) s tells)
      found (Refused n) s tells = (s.of.log, whole_log s.of, decided_by s.of.log (whole_log s.of) (Refused n) s tells)
      found (Faulty f) s tells = absurd (not_faulty f s tells)

    -- ---- the log is refused

    module _ (why : Refusal) (due_is : (due_of_front (aim_for t) true bytes).fault ≡ Some why) where
      same_refusal : (other : Refusal) → IsLogRefused left' words read other → Tells held held' (Faulty (fault_of_refusal other)) v → Tells held held' (Faulty (fault_of_refusal why)) v
      same_refusal other s tells = subst (λ (r : Refusal). Tells held held' (Faulty (fault_of_refusal r)) v) (some_one _ other why (log_due other s) due_is) tells

      refused_by : (answer : Answer) → Says (left_of left' lf lf') words read answer → Tells held held' answer v → Tells held held' (Faulty (fault_of_refusal why)) v
      refused_by (Accepted truth) s tells = absurd (not_both _ why (log_free s.of) due_is)
      refused_by (Refused n) s tells = absurd (not_both _ why (log_free s.of) due_is)
      refused_by (Faulty fault.Usage) s tells = absurd (s.0 asks.text asks.one)
      refused_by (Faulty (fault.Formula f)) (inl s) tells = absurd (about_free words t f asks s.0)
      refused_by (Faulty (fault.Formula f)) (inr s) tells = same_refusal (refusal.Formula f) s tells
      refused_by (Faulty (fault.Log f)) s tells = same_refusal (refusal.Log f) s tells
      refused_by (Faulty (fault.Import f)) s tells = same_refusal (refusal.Import f) s tells
      refused_by (Faulty (fault.Merge f)) s tells = same_refusal (refusal.Merge f) s tells
      refused_by (Faulty fault.Read) s tells = absurd (calm.0 s.0)
      refused_by (Faulty fault.Write) s tells = absurd s
      refused_by (Faulty fault.Memory) s tells = absurd (not_short tells)

  -- ---- the words or the formula are refused

  usage_by : AskNothing words → (answer : Answer) → Says (left_of left' lf lf') words read answer → Tells held held' answer v → Tells held held' (Faulty fault.Usage) v
  usage_by none (Accepted truth) s tells = absurd (none s.of.asks.text s.of.asks.one)
  usage_by none (Refused n) s tells = absurd (none s.of.asks.text s.of.asks.one)
  usage_by none (Faulty fault.Usage) s tells = tells
  usage_by none (Faulty (fault.Formula f)) (inl s) tells = absurd (none s.0.text s.0.one)
  usage_by none (Faulty (fault.Formula f)) (inr s) tells = absurd (none s.asks.text s.asks.one)
  usage_by none (Faulty (fault.Log f)) s tells = absurd (none s.asks.text s.asks.one)
  usage_by none (Faulty (fault.Import f)) s tells = absurd (none s.asks.text s.asks.one)
  usage_by none (Faulty (fault.Merge f)) s tells = absurd (none s.asks.text s.asks.one)
  usage_by none (Faulty fault.Read) s tells = absurd (calm.0 s.0)
  usage_by none (Faulty fault.Write) s tells = absurd s
  usage_by none (Faulty fault.Memory) s tells = absurd (not_short tells)

  formula_by : (f : FormulaFault) → HasFormulaFault words f → (answer : Answer) → Says (left_of left' lf lf') words read answer → Tells held held' answer v → Tells held held' (Faulty (fault.Formula f)) v
  formula_by f has (Accepted truth) s tells = absurd (about_free words s.of.tree f s.of.asks has)
  formula_by f has (Refused n) s tells = absurd (about_free words s.of.tree f s.of.asks has)
  formula_by f has (Faulty fault.Usage) s tells = absurd (s.0 has.text has.one)
  formula_by f has (Faulty (fault.Formula g)) (inl s) tells = subst (λ (x : FormulaFault). Tells held held' (Faulty (fault.Formula x)) v) (fault_one words g f s.0 has) tells
  formula_by f has (Faulty (fault.Formula g)) (inr s) tells = absurd (about_free words s.tree f s.asks has)
  formula_by f has (Faulty (fault.Log g)) s tells = absurd (about_free words s.tree f s.asks has)
  formula_by f has (Faulty (fault.Import g)) s tells = absurd (about_free words s.tree f s.asks has)
  formula_by f has (Faulty (fault.Merge g)) s tells = absurd (about_free words s.tree f s.asks has)
  formula_by f has (Faulty fault.Read) s tells = absurd (calm.0 s.0)
  formula_by f has (Faulty fault.Write) s tells = absurd s
  formula_by f has (Faulty fault.Memory) s tells = absurd (not_short tells)

  -- ---- the three clauses

  tells : Tells held held' h.answer v
  tells = told_so h.answer h.told

  pub decided : IsDecidedSo left words held held' v
  decided bytes t is asks free = found bytes t is asks free h.answer h.answers.says tells

  pub refused_as_due : IsRefusedAsDue left words held held' v
  refused_as_due bytes t why is asks due_is = refused_by bytes t is asks why due_is h.answer h.answers.says tells

  pub refused_as_asked : IsRefusedAsAsked words held held' v
  refused_as_asked = record { usage = λ none. usage_by none h.answer h.answers.says tells; formula = λ f has. formula_by f has h.answer h.answers.says tells }
