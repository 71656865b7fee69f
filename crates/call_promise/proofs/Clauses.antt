-- What a run says where no count rose, memory was there and the source tells its bytes.
use Rattle.std.proofs.Common.{◌≡◌, ℕ, List, [], ◌++◌, Option, Some, None, refl, sym, ap, ◌∙◌, subst, inl, inr}
use Rattle.std.specs.Prelude.{Bool, true, false, if◌then◌else◌, ◌↔◌}
use Rattle.std.specs.Io.KnownBytes.{Appends, Consumes, IsAtEnd}
use Rattle.std.proofs.lemmas.List.{append-nil}
use Rattle.std.proofs.lemmas.Option.{none-some, same_Some}
use Rattle.pota_base.specs.Outside.{Rose}
use Rattle.pota_base.specs.declared.status.Status.{Status}
use Rattle.pota_base.specs.declared.status.Status.TheVariants as status
use Rattle.pota_base.specs.Limits.{longest_log}
use Rattle.pota_base.specs.Changes.{behind_of, change_of}
use Rattle.rctl_grammar.specs.declared.fault.FormulaFault.{FormulaFault}
use Rattle.rctl_grammar.specs.declared.tree.Tree.{Tree}
use Rattle.rctl_class.specs.Nodes.{node_of}
use Rattle.command_words.specs.declared.request.Task.TheVariants as task
use Rattle.command_words.specs.declared.request.Form.{Form}
use Rattle.command_words.specs.declared.request.Form.TheVariants as form
use Rattle.command_words.specs.declared.request.Inquiry.{Inquiry}
use Rattle.command_words.specs.declared.request.Product.TheVariants as product
use Rattle.command_words.specs.declared.request.Reporting.{Reporting}
use Rattle.call_options.specs.declared.sizes.Sizes.{Sizes}
use Rattle.call_request.specs.declared.question.QuestionFault.{QuestionFault}
use Rattle.call_request.specs.declared.question.QuestionFault.TheVariants as question
use Rattle.call_request.specs.Questions.{IsQuestionFault, AsksFor}
use Rattle.call_request.proofs.OneQuestion.{asks_one, asks_free, faults_one}
use Rattle.fault_kinds.specs.declared.refusal.Refusal.{Refusal}
use Rattle.fault_kinds.specs.declared.refusal.Refusal.TheVariants as refusal
use Rattle.log_rules.specs.Passage.{passage_of}
use Rattle.log_rules.specs.Judgement.{Prefix}
use Rattle.log_rules.specs.Due.{Due}
use Rattle.log_rules.specs.Readings.{IsReading}
use Rattle.log_rules.proofs.Dues.{due_stays}
use Rattle.log_rules.proofs.Readings.{log_is_read}
use Rattle.form_readings.proofs.Imports.{clocks_are_read}
use Rattle.form_readings.proofs.Merging.{sources_are_read}
use Rattle.log_check.specs.Aims.{unknown_name}
use Rattle.fault_line.specs.declared.fault.Fault.TheVariants as fault
use Rattle.fault_line.specs.Faults.{status_of, fault_of_refusal}
use Rattle.call_promise.specs.Questions.{fault_of_question}
use Rattle.call_promise.specs.declared.outcome.Outcome.{Outcome}
use Rattle.call_promise.specs.Asking.{Handing, reading_of, watches_for, certifying, due_of, IsDueText}
use Rattle.call_promise.specs.Certificates.{IsTrueAtStart}
use Rattle.call_promise.specs.Run.{AsksCertificate, HasVerdict, IsRefused, HasBenched, LacksName, IsMisasked, made_by, Answer, Ran, IsCalm, WritesAsDue, TellsTruth, TellsFault, IsDecided, IsRefusedAsDue, IsRefusedAsAsked, Benches, IsBenchAnswered, output_of}

-- ---- the bytes of a source

read_all : (left left' : Option (List ℕ)) (bytes read : List ℕ) → left ≡ Some bytes → Consumes left left' read → IsAtEnd left' → read ≡ bytes
read_all left None bytes read is consumed ended = absurd (subst (λ (o : Option (List ℕ)). Consumes o None read) is consumed)
read_all left (Some rest) bytes read is consumed ended =
    let whole : bytes ≡ read ++ rest = subst (λ (o : Option (List ℕ)). Consumes o (Some rest) read) is consumed in
    sym (append-nil read) ∙ ap (λ (x : List ℕ). read ++ x) (sym ended) ∙ sym whole

rest_of : (left left' : Option (List ℕ)) (bytes read : List ℕ) → left ≡ Some bytes → Consumes left left' read → (rest : List ℕ) × (bytes ≡ read ++ rest)
rest_of left None bytes read is consumed = absurd (subst (λ (o : Option (List ℕ)). Consumes o None read) is consumed)
rest_of left (Some rest) bytes read is consumed = (rest, subst (λ (o : Option (List ℕ)). Consumes o (Some rest) read) is consumed)

-- ---- words that ask one thing

reads_one : (words : List (List ℕ)) (a b : Inquiry) (t u : Tree) → AsksFor words (task.Read a) t → AsksFor words (task.Read b) u → (a ≡ b) × (t ≡ u)
reads_one words a b t u h k =
    let same = asks_one words (task.Read a) (task.Read b) t u h k in
    let e : task.Read a ≡ task.Read b = same.0 in
    (cc, same.1)

-- words that ask for reports ask for no certificate
pub not_certified : (words : List (List ℕ)) (f : Form) (reporting : Reporting) (t u : Tree)
    → AsksFor words (task.Read (record { form = f; product = product.Reports reporting })) t → AsksCertificate words u → ⊥
not_certified words f reporting t u h k =
    let same = reads_one words (record { form = f; product = product.Reports reporting }) certifying t u h k in
    let products : product.Reports reporting ≡ product.Certificate = ap (λ (i : Inquiry). i.product) same.0 in
    absurd cc

-- each form is read as a log
pub form_is_read : (f : Form) → IsReading longest_log (reading_of f)
unfolding reading_of
form_is_read form.Text = log_is_read
form_is_read form.Clocks = clocks_are_read
form_is_read form.Merged = sources_are_read

benches_one : (words : List (List ℕ)) (a b : Sizes) (t u : Tree) → AsksFor words (task.Bench a) t → AsksFor words (task.Bench b) u → (a ≡ b) × (t ≡ u)
benches_one words a b t u h k =
    let same = asks_one words (task.Bench a) (task.Bench b) t u h k in
    let e : task.Bench a ≡ task.Bench b = same.0 in
    (cc, same.1)

pub not_both : (words : List (List ℕ)) (a : Inquiry) (b : Sizes) (t u : Tree) → AsksFor words (task.Read a) t → AsksFor words (task.Bench b) u → ⊥
not_both words a b t u h k =
    let same = asks_one words (task.Read a) (task.Bench b) t u h k in
    let e : task.Read a ≡ task.Bench b = same.0 in
    absurd cc

-- ---- an input that is read

module _ (left left' held held' : Option (List ℕ)) (lf lf' of of' : ℕ) (on : Handing) (words : List (List ℕ)) (o : Outcome) (ran : Ran (change_of left left' lf lf') (change_of held held' of of') on words o) (calm : IsCalm lf lf' of of' o)
    (bytes : List ℕ) (t : Tree) (i : Inquiry) (tells : left ≡ Some bytes) (asks : AsksFor words (task.Read i) t) where
  abbrev all_due : Due
  all_due = due_of on.names t i true bytes

  -- what is asked is asked alone
  asked_alone : (Q : Tree → Inquiry → Type 0) (u : Tree) (k : Inquiry) → AsksFor words (task.Read k) u → Q u k → Q t i
  asked_alone Q u k also q =
      let one = reads_one words k i u t also asks in
      subst (λ (v : Tree). Q v i) one.1 (subst (λ (x : Inquiry). Q u x) one.0 q)

  -- what was written is the text that is due of all bytes
  as_due : (u : Tree) (k : Inquiry) (ended : Bool) (read : List ℕ) → AsksFor words (task.Read k) u
      → IsDueText on.watches u k (due_of on.names u k ended read) ran.written → o.batches ≡ (due_of on.names u k ended read).batches
      → due_of on.names u k ended read ≡ due_of on.names u k true bytes → WritesAsDue on t i bytes (output_of held held') o
  as_due u k ended read also text count same =
      asked_alone (λ v x. WritesAsDue on v x bytes (output_of held held') o) u k also (record {
        text = ran.written;
        due_is = subst (λ (d : Due). IsDueText on.watches u k d ran.written) same text;
        written = ran.wrote;
        batches = count ∙ ap (λ (d : Due). d.batches) same;
      })

  -- what was due of the bytes read is due of all bytes
  stays_due : (u : Tree) (k : Inquiry) (ended : Bool) (r : Refusal) → (ended ≡ true → IsAtEnd left') → (due_of on.names u k ended ran.read).fault ≡ Some r
      → due_of on.names u k ended ran.read ≡ due_of on.names u k true bytes
  unfolding due_of
  stays_due u k true r at is = ap (due_of on.names u k true) (read_all left left' bytes ran.read tells ran.consumed (at refl))
  stays_due u k false r at is =
      let rest = rest_of left left' bytes ran.read tells ran.consumed in
      sym (ap (due_of on.names u k true) rest.1 ∙ due_stays longest_log _ (form_is_read k.form) _ true ran.read rest.0 r is)

  refused_due : (r : Refusal) → (h : IsRefused left' on words (passage_of ran.read ran.written) o r) → all_due.fault ≡ Some r
  refused_due r h =
      asked_alone (λ v x. (due_of on.names v x true bytes).fault ≡ Some r) h.told.tree h.told.inquiry h.told.asks
      (ap (λ (d : Due). d.fault) (sym (stays_due h.told.tree h.told.inquiry h.ended r h.at_end h.due_is)) ∙ h.due_is)

  read_due : (b : Bool) → (h : HasVerdict left' on words (passage_of ran.read ran.written) o b) → due_of on.names h.told.tree h.told.inquiry true ran.read ≡ due_of on.names h.told.tree h.told.inquiry true bytes
  read_due b h = ap (due_of on.names h.told.tree h.told.inquiry true) (read_all left left' bytes ran.read tells ran.consumed h.ended)

  verdict_due : (b : Bool) → (h : HasVerdict left' on words (passage_of ran.read ran.written) o b) → due_of on.names h.told.tree h.told.inquiry true ran.read ≡ all_due
  verdict_due b h =
      asked_alone (λ v x. due_of on.names h.told.tree h.told.inquiry true ran.read ≡ due_of on.names v x true bytes) h.told.tree h.told.inquiry h.told.asks (read_due b h)

  verdict_as_due : (b : Bool) → HasVerdict left' on words (passage_of ran.read ran.written) o b → WritesAsDue on t i bytes (output_of held held') o
  verdict_as_due b h = as_due h.told.tree h.told.inquiry true ran.read h.told.asks h.told.text h.told.count (read_due b h)

  tells_truth : (b : Bool) → o.status ≡ (if b then status.True else status.False) → (h : HasVerdict left' on words (passage_of ran.read ran.written) o b)
      → (log : Prefix) → all_due.whole ≡ Some log → TellsTruth (watches_for i.product on.watches) t log o
  tells_truth b is h log whole =
      let one = reads_one words h.told.inquiry i h.told.tree t h.told.asks asks in
      let logs : h.log ≡ log = same_Some h.log log (sym h.whole ∙ ap (λ (d : Due). d.whole) (verdict_due b h) ∙ whole) in
      record {
        verdict = b;
        status = is;
        truth = subst (λ (k : Inquiry). (b ≡ true) ↔ IsTrueAtStart (watches_for k.product on.watches) t log) one.0
            (subst (λ (v : Tree). (b ≡ true) ↔ IsTrueAtStart (watches_for h.told.inquiry.product on.watches) v log) one.1
            (subst (λ (l : Prefix). (b ≡ true) ↔ IsTrueAtStart (watches_for h.told.inquiry.product on.watches) h.told.tree l) logs h.truth));
        fault = h.fault;
      }

  no_fault : (r : Refusal) → IsRefused left' on words (passage_of ran.read ran.written) o r → all_due.fault ≡ None → ⊥
  no_fault r h free = none-some r (sym free ∙ refused_due r h)

  no_verdict : (b : Bool) (r : Refusal) → HasVerdict left' on words (passage_of ran.read ran.written) o b → all_due.fault ≡ Some r → ⊥
  no_verdict b r h some = none-some r (sym h.free ∙ ap (λ (d : Due). d.fault) (verdict_due b h) ∙ some)

  not_asked : (f : QuestionFault) → IsQuestionFault words f → ⊥
  not_asked f h = asks_free words (task.Read i) t asks f h

  no_bench : (u : Tree) (sizes : Sizes) → AsksFor words (task.Bench sizes) u → ⊥
  no_bench u sizes h = not_both words i sizes t u asks h

  abbrev Decided : Type 0
  Decided = (log : Prefix) × (all_due.whole ≡ Some log) × WritesAsDue on t i bytes (output_of held held') o × TellsTruth (watches_for i.product on.watches) t log o

  decided_with : (b : Bool) → o.status ≡ (if b then status.True else status.False) → HasVerdict left' on words (passage_of ran.read ran.written) o b → Decided
  decided_with b is h =
      let whole : all_due.whole ≡ Some h.log = ap (λ (d : Due). d.whole) (sym (verdict_due b h)) ∙ h.whole in
      (h.log, whole, verdict_as_due b h, tells_truth b is h h.log whole)

  decided_as : (st : Status) → o.status ≡ st → Answer st (behind_of left' lf lf' of of') on words (passage_of ran.read ran.written) o → all_due.fault ≡ None → Decided
  decided_as status.True is (inl h) free = decided_with true is h
  decided_as status.True is (inr h) free = absurd (no_bench h.summary.tree h.summary.sizes h.summary.asks)
  decided_as status.False is (inl h) free = decided_with false is h
  decided_as status.False is (inr h) free = absurd (no_bench h.summary.tree h.summary.sizes h.summary.asks)
  decided_as status.Usage is h free = absurd (not_asked question.Usage h.fault_is)
  decided_as status.Formula is (f, inl h) free = absurd (not_asked (question.Formula f) h.fault_is)
  decided_as status.Formula is (f, inr (inl h)) free = absurd (no_fault (refusal.Formula f) h free)
  decided_as status.Formula is (f, inr (inr h)) free = absurd (no_bench h.tree h.sizes h.asks)
  decided_as status.Log is h free = absurd (no_fault h.0 h.2 free)
  decided_as status.ReadFault is h free = absurd (calm.0 h.1)
  decided_as status.WriteFault is h free = absurd (calm.1 h.2)
  decided_as status.OutOfMemory is h free = absurd (calm.2 is)

  pub decided : all_due.fault ≡ None → Decided
  decided free = decided_as o.status refl ran.answer free

  abbrev RefusedAs : Refusal → Type 0
  RefusedAs r = WritesAsDue on t i bytes (output_of held held') o × TellsFault (fault_of_refusal r) o

  refused_with : (r x : Refusal) → o.status ≡ status_of (fault_of_refusal x) → (h : IsRefused left' on words (passage_of ran.read ran.written) o x) → all_due.fault ≡ Some r → RefusedAs r
  refused_with r x is h some =
      let same : x ≡ r = same_Some x r (sym (refused_due x h) ∙ some) in
      let mine : RefusedAs x = (
        as_due h.told.tree h.told.inquiry h.ended ran.read h.told.asks h.told.text h.told.count (stays_due h.told.tree h.told.inquiry h.ended x h.at_end h.due_is),
        record { status = is; fault = h.fault },
      ) in
      subst RefusedAs same mine

  refused_as : (st : Status) → o.status ≡ st → Answer st (behind_of left' lf lf' of of') on words (passage_of ran.read ran.written) o → (r : Refusal) → all_due.fault ≡ Some r → RefusedAs r
  refused_as status.True is (inl h) r some = absurd (no_verdict true r h some)
  refused_as status.True is (inr h) r some = absurd (no_bench h.summary.tree h.summary.sizes h.summary.asks)
  refused_as status.False is (inl h) r some = absurd (no_verdict false r h some)
  refused_as status.False is (inr h) r some = absurd (no_bench h.summary.tree h.summary.sizes h.summary.asks)
  refused_as status.Usage is h r some = absurd (not_asked question.Usage h.fault_is)
  refused_as status.Formula is (f, inl h) r some = absurd (not_asked (question.Formula f) h.fault_is)
  refused_as status.Formula is (f, inr (inl h)) r some = refused_with r (refusal.Formula f) is h some
  refused_as status.Formula is (f, inr (inr h)) r some = absurd (no_bench h.tree h.sizes h.asks)
  refused_as status.Log is h r some = refused_with r h.0 (is ∙ sym h.1) h.2 some
  refused_as status.ReadFault is h r some = absurd (calm.0 h.1)
  refused_as status.WriteFault is h r some = absurd (calm.1 h.2)
  refused_as status.OutOfMemory is h r some = absurd (calm.2 is)

  pub refused_clause : (r : Refusal) → all_due.fault ≡ Some r → RefusedAs r
  refused_clause r some = refused_as o.status refl ran.answer r some

-- ---- words and benches

module _ (left left' held held' : Option (List ℕ)) (lf lf' of of' : ℕ) (on : Handing) (words : List (List ℕ)) (o : Outcome) (ran : Ran (change_of left left' lf lf') (change_of held held' of of') on words o) (calm : IsCalm lf lf' of of' o) where
  no_text : ran.written ≡ [] → Appends held held' []
  no_text none = subst (Appends held held') none ran.wrote

  abbrev Misasked : QuestionFault → Type 0
  Misasked f = Appends held held' [] × (o.batches ≡ 0) × TellsFault (fault_of_question f) o

  misasked_with : (f g : QuestionFault) → o.status ≡ status_of (fault_of_question g) → IsMisasked words ran.read ran.written o g → IsQuestionFault words f → Misasked f
  misasked_with f g is a h =
      let mine : Misasked g = (no_text a.nothing.1, a.batches, record { status = is; fault = a.fault }) in
      subst Misasked (faults_one words g f a.fault_is h) mine

  misasked_as : (st : Status) → o.status ≡ st → Answer st (behind_of left' lf lf' of of') on words (passage_of ran.read ran.written) o → (f : QuestionFault) → IsQuestionFault words f → Misasked f
  misasked_as status.True is (inl a) f h = absurd (asks_free words (task.Read a.told.inquiry) a.told.tree a.told.asks f h)
  misasked_as status.True is (inr a) f h = absurd (asks_free words (task.Bench a.summary.sizes) a.summary.tree a.summary.asks f h)
  misasked_as status.False is (inl a) f h = absurd (asks_free words (task.Read a.told.inquiry) a.told.tree a.told.asks f h)
  misasked_as status.False is (inr a) f h = absurd (asks_free words (task.Bench a.summary.sizes) a.summary.tree a.summary.asks f h)
  misasked_as status.Usage is a f h = misasked_with f question.Usage is a h
  misasked_as status.Formula is (x, inl a) f h = misasked_with f (question.Formula x) is a h
  misasked_as status.Formula is (x, inr (inl a)) f h = absurd (asks_free words (task.Read a.told.inquiry) a.told.tree a.told.asks f h)
  misasked_as status.Formula is (x, inr (inr a)) f h = absurd (asks_free words (task.Bench a.sizes) a.tree a.asks f h)
  misasked_as status.Log is a f h = absurd (asks_free words (task.Read a.2.told.inquiry) a.2.told.tree a.2.told.asks f h)
  misasked_as status.ReadFault is a f h = absurd (calm.0 a.1)
  misasked_as status.WriteFault is a f h = absurd (calm.1 a.2)
  misasked_as status.OutOfMemory is a f h = absurd (calm.2 is)

  pub misasked : IsRefusedAsAsked words held held' o
  misasked f h = misasked_as o.status refl ran.answer f h

  -- ---- a bench

  module _ (t : Tree) (sizes : Sizes) (asks : AsksFor words (task.Bench sizes) t) where
    not_read : (u : Tree) (i : Inquiry) → AsksFor words (task.Read i) u → ⊥
    not_read u i h = not_both words i sizes u t h asks

    not_faulty : (f : QuestionFault) → IsQuestionFault words f → ⊥
    not_faulty f h = asks_free words (task.Bench sizes) t asks f h

    abbrev missing : Tree → Sizes → Option FormulaFault
    missing u s = unknown_name (node_of u) on.names (made_by s).header

    same_missing : (u : Tree) (s : Sizes) → AsksFor words (task.Bench s) u → missing u s ≡ missing t sizes
    same_missing u s h =
        let one = benches_one words s sizes u t h asks in
        ap (λ (x : Sizes). missing u x) one.0 ∙ ap (λ (v : Tree). missing v sizes) one.1

    benched_with : (b : Bool) → o.status ≡ (if b then status.True else status.False) → HasBenched on words ran.read ran.written o b → Benches on words held held' o
    benched_with b is h = record {
      summary = ran.written;
      verdict = b;
      is = h.summary;
      written = ran.wrote;
      batches = h.batches;
      status = is;
      fault = h.fault;
    }

    benched_as : (st : Status) → o.status ≡ st → Answer st (behind_of left' lf lf' of of') on words (passage_of ran.read ran.written) o → missing t sizes ≡ None → Benches on words held held' o
    benched_as status.True is (inl a) named = absurd (not_read a.told.tree a.told.inquiry a.told.asks)
    benched_as status.True is (inr a) named = benched_with true is a
    benched_as status.False is (inl a) named = absurd (not_read a.told.tree a.told.inquiry a.told.asks)
    benched_as status.False is (inr a) named = benched_with false is a
    benched_as status.Usage is a named = absurd (not_faulty question.Usage a.fault_is)
    benched_as status.Formula is (f, inl a) named = absurd (not_faulty (question.Formula f) a.fault_is)
    benched_as status.Formula is (f, inr (inl a)) named = absurd (not_read a.told.tree a.told.inquiry a.told.asks)
    benched_as status.Formula is (f, inr (inr a)) named = absurd (none-some f (sym named ∙ sym (same_missing a.tree a.sizes a.asks) ∙ a.missing))
    benched_as status.Log is a named = absurd (not_read a.2.told.tree a.2.told.inquiry a.2.told.asks)
    benched_as status.ReadFault is a named = absurd (calm.0 a.1)
    benched_as status.WriteFault is a named = absurd (calm.1 a.2)
    benched_as status.OutOfMemory is a named = absurd (calm.2 is)

    abbrev Lacks : FormulaFault → Type 0
    Lacks f = Appends held held' [] × (o.batches ≡ 0) × TellsFault (fault.Formula f) o

    lacks_with : (f g : FormulaFault) → o.status ≡ status.Formula → LacksName on words ran.read ran.written o g → missing t sizes ≡ Some f → Lacks f
    lacks_with f g is a some =
        let same : g ≡ f = same_Some g f (sym a.missing ∙ same_missing a.tree a.sizes a.asks ∙ some) in
        let mine : Lacks g = (no_text a.nothing.1, a.batches, record { status = is; fault = a.fault }) in
        subst Lacks same mine

    lacks_verdict : (b : Bool) (f : FormulaFault) → HasBenched on words ran.read ran.written o b → missing t sizes ≡ Some f → ⊥
    lacks_verdict b f a some = none-some f (sym a.summary.named ∙ same_missing a.summary.tree a.summary.sizes a.summary.asks ∙ some)

    lacks_as : (st : Status) → o.status ≡ st → Answer st (behind_of left' lf lf' of of') on words (passage_of ran.read ran.written) o → (f : FormulaFault) → missing t sizes ≡ Some f → Lacks f
    lacks_as status.True is (inl a) f some = absurd (not_read a.told.tree a.told.inquiry a.told.asks)
    lacks_as status.True is (inr a) f some = absurd (lacks_verdict true f a some)
    lacks_as status.False is (inl a) f some = absurd (not_read a.told.tree a.told.inquiry a.told.asks)
    lacks_as status.False is (inr a) f some = absurd (lacks_verdict false f a some)
    lacks_as status.Usage is a f some = absurd (not_faulty question.Usage a.fault_is)
    lacks_as status.Formula is (g, inl a) f some = absurd (not_faulty (question.Formula g) a.fault_is)
    lacks_as status.Formula is (g, inr (inl a)) f some = absurd (not_read a.told.tree a.told.inquiry a.told.asks)
    lacks_as status.Formula is (g, inr (inr a)) f some = lacks_with f g is a some
    lacks_as status.Log is a f some = absurd (not_read a.2.told.tree a.2.told.inquiry a.2.told.asks)
    lacks_as status.ReadFault is a f some = absurd (calm.0 a.1)
    lacks_as status.WriteFault is a f some = absurd (calm.1 a.2)
    lacks_as status.OutOfMemory is a f some = absurd (calm.2 is)

  pub bench_answered : IsBenchAnswered on words held held' o
  bench_answered = record {
    named = λ t sizes asks named. benched_as t sizes asks o.status refl ran.answer named;
    missing = λ t sizes f asks some. lacks_as t sizes asks o.status refl ran.answer f some;
  }

-- a run led to what is told as this outcome
pub told_as : (left left' held held' : Option (List ℕ)) (lf lf' of of' : ℕ) (on : Handing) (words : List (List ℕ)) (o ended : Outcome) → o ≡ ended
    → Ran (change_of left left' lf lf') (change_of held held' of of') on words ended → Ran (change_of left left' lf lf') (change_of held held' of of') on words o
told_as left left' held held' lf lf' of of' on words o ended same led = subst (Ran (change_of left left' lf lf') (change_of held held' of of') on words) (sym same) led

-- ---- the clauses of a run

module _ (left left' held held' : Option (List ℕ)) (lf lf' of of' : ℕ) (on : Handing) (words : List (List ℕ)) (o : Outcome)
    (ran : Ran (change_of left left' lf lf') (change_of held held' of of') on words o) where
  answer_at : (st : Status) → o.status ≡ st → Answer st (behind_of left' lf lf' of of') on words (passage_of ran.read ran.written) o
  answer_at st is = subst (λ (x : Status). Answer x (behind_of left' lf lf' of of') on words (passage_of ran.read ran.written) o) is ran.answer

  pub clause_read : o.status ≡ status.ReadFault → Rose lf lf'
  clause_read is = (answer_at status.ReadFault is).1

  pub clause_write : o.status ≡ status.WriteFault → Rose of of'
  clause_write is = (answer_at status.WriteFault is).2

  pub clause_decided : IsCalm lf lf' of of' o → IsDecided left on words held held' o
  clause_decided calm bytes t i tells asks free = decided left left' held held' lf lf' of of' on words o ran calm bytes t i tells asks free

  pub clause_refused : IsCalm lf lf' of of' o → IsRefusedAsDue left on words held held' o
  clause_refused calm bytes t i r tells asks some =
      refused_clause left left' held held' lf lf' of of' on words o ran calm bytes t i tells asks r some

  pub clause_misasked : IsCalm lf lf' of of' o → IsRefusedAsAsked words held held' o
  clause_misasked calm = misasked left left' held held' lf lf' of of' on words o ran calm

  pub clause_benched : IsCalm lf lf' of of' o → IsBenchAnswered on words held held' o
  clause_benched calm = bench_answered left left' held held' lf lf' of of' on words o ran calm
