-- What a run of the analyser promises: the answer to the words and the bytes of the log.
use Rattle.std.specs.Prelude.{◌≡◌, ℕ, ◌≤◌, ◌⊎◌, ◌↔◌, Bool, true, false, List, [], ◌∷◌, ◌++◌, Option}
use Rattle.std.specs.Prelude.{Some, None, if◌then◌else◌}
use Rattle.std.specs.Io.KnownBytes.{Appends, Consumes, IsAtEnd}
use Rattle.std.specs.List.{AllByRecursion}
use Rattle.run_model.specs.Cut.{Cut, initial}
use Rattle.run_model.specs.Run.{Watches, run_of, clocks_of}
use Rattle.run_model.specs.Consistent.{IsOrder}
use Rattle.run_model.specs.Meaning.{Sat}
use Rattle.run_model.specs.Class.{Shown as ShownFor}
use Rattle.run_model.specs.Slice.{DenotedBy}
use Rattle.pota_base.specs.Outside.{Rose, IsPrefix}
use Rattle.pota_base.specs.declared.status.Status.{Status}
use Rattle.pota_base.specs.declared.status.Status.TheVariants as status
use Rattle.pota_base.specs.Changes.{Behind, Change, behind_both}
use Rattle.event_log.specs.declared.log.Log.{Log}
use Rattle.rctl_grammar.specs.declared.fault.FormulaFault.{FormulaFault}
use Rattle.rctl_grammar.specs.declared.tree.Tree.{Tree}
use Rattle.command_words.specs.declared.request.Task.TheVariants as task
use Rattle.command_words.specs.declared.request.Inquiry.{Inquiry}
use Rattle.command_words.specs.declared.request.Product.{Product}
use Rattle.command_words.specs.declared.request.Product.TheVariants as product
use Rattle.call_options.specs.declared.sizes.Sizes.{Sizes}
use Rattle.call_request.specs.declared.question.QuestionFault.{QuestionFault}
use Rattle.call_request.specs.declared.question.QuestionFault.TheVariants as question
use Rattle.call_request.specs.Questions.{IsQuestionFault, AsksFor}
use Rattle.report.specs.declared.report.Report.{Report}
use Rattle.report.specs.declared.report.SliceText.{SliceText}
use Rattle.run_report.specs.Reports.{Asked, text_seen, IsReportOf}
use Rattle.log_rules.specs.Passage.{Passage, passage_of}
use Rattle.log_rules.specs.SoFar.{trace_so_far, counted}
use Rattle.run_report.specs.Witnesses.{IsShownFor}
use Rattle.run_report.specs.Benches.{IsSummaryOf}
use Rattle.fault_kinds.specs.declared.refusal.Refusal.{Refusal}
use Rattle.fault_kinds.specs.declared.refusal.Refusal.TheVariants as refusal
use Rattle.log_rules.specs.Judgement.{Prefix}
use Rattle.log_judgement.specs.Texts.{AreTexts}
use Rattle.log_rules.specs.Reported.{reported}
use Rattle.rctl_class.specs.Nodes.{node_of}
use Rattle.log_check.specs.Aims.{unknown_name}
use Rattle.trace_gen.specs.Generated.{generated}
use Rattle.fault_line.specs.declared.fault.Fault.{Fault}
use Rattle.fault_line.specs.declared.fault.Fault.TheVariants as fault
use Rattle.fault_line.specs.Faults.{status_of, fault_of_refusal}
use Rattle.call_promise.specs.Questions.{fault_of_question}
use Rattle.call_promise.specs.declared.outcome.Outcome.{Outcome}
use Rattle.call_promise.specs.Certificates.{IsTrueAtStart, IsCertificateFront}
use Rattle.call_promise.specs.Asking.{Handing, asked, asked_by, each_of, watches_for, Writes}
use Rattle.call_promise.specs.Asking.{WritesFront, certifying, due_of, IsDueText}

-- what the output holds, before and after
pub record Output : Type 0 where
  pub before : Option (List ℕ)
  pub after : Option (List ℕ)

abbrev pub output_of : (before after : Option (List ℕ)) → Output
output_of before after = record { before = before; after = after }

-- ---- what a report tells of the run

-- The clocks of the run are an order. The text of the report's slice denotes the set of consistent
-- cuts that is shown, and each of its witnesses is the canonical one of a part, and of its kind.
pub record TellsOfRun (q : Asked) (watches : Watches) (log : Prefix) (report : Report) : Type 0
  where
    pub ordered : IsOrder (clocks_of (trace_so_far log.header log.batches))
    pub denotes : (text : SliceText) → report.slice ≡ Some text → (c : Cut)
        → ShownFor (run_of (trace_so_far log.header log.batches) watches) q.formula c
        ↔ DenotedBy (clocks_of (trace_so_far log.header log.batches)) (text_seen text) c
    pub kinds : AllByRecursion
        (IsShownFor (run_of (trace_so_far log.header log.batches) watches) q.formula)
        report.witnesses

-- each report on the log does; a certificate is of a run whose clocks are an order
abbrev pub Tells : Watches → Tree → Product → Prefix → Type 0
Tells watches t (product.Reports reporting) log =
    (report : Report) → IsReportOf (asked_by t reporting) log.header log.batches watches report
    → TellsOfRun (asked_by t reporting) watches log report
Tells watches t product.Certificate log =
    IsOrder (clocks_of (trace_so_far log.header log.batches))

-- so of each of these logs
abbrev pub AllTell : Watches → Tree → Product → List Prefix → Type 0
AllTell watches t p logs = AllByRecursion (Tells watches t p) logs

-- ---- an input that is read

-- the words ask this of an input, these bytes of it were read, the text that is due of them was
-- written, and so many batches are due
pub record IsTold (on : Handing) (words : List (List ℕ)) (ended : Bool) (read written : List ℕ)
    (batches : ℕ) : Type 0 where
  pub tree : Tree
  pub inquiry : Inquiry
  pub asks : AsksFor words (task.Read inquiry) tree
  pub text : IsDueText on.watches tree inquiry (due_of on.names tree inquiry ended read) written
  pub telling : AllTell on.watches tree inquiry.product
      (reported (each_of inquiry.product) (due_of on.names tree inquiry ended read))
  pub count : batches ≡ (due_of on.names tree inquiry ended read).batches

-- the log was read to its end and has no fault, and the formula is true there or isn't
pub record HasVerdict (left : Option (List ℕ)) (on : Handing) (words : List (List ℕ))
    (passage : Passage) (o : Outcome) (verdict : Bool) : Type 0 where
  pub ended : IsAtEnd left
  pub told : IsTold on words true passage.read passage.written o.batches
  pub free : (due_of on.names told.tree told.inquiry true passage.read).fault ≡ None
  pub log : Prefix
  pub whole : (due_of on.names told.tree told.inquiry true passage.read).whole ≡ Some log
  pub truth : (verdict ≡ true)
      ↔ IsTrueAtStart (watches_for told.inquiry.product on.watches) told.tree log
  pub fault : o.fault ≡ None

-- this is the first fault of the bytes that were read
pub record IsRefused (left : Option (List ℕ)) (on : Handing) (words : List (List ℕ))
    (passage : Passage) (o : Outcome) (r : Refusal) : Type 0 where
  pub ended : Bool
  pub at_end : ended ≡ true → IsAtEnd left
  pub told : IsTold on words ended passage.read passage.written o.batches
  pub due_is : (due_of on.names told.tree told.inquiry ended passage.read).fault ≡ Some r
  pub fault : o.fault ≡ Some (fault_of_refusal r)

-- the bytes that were read have no fault
pub record IsCutShort (on : Handing) (words : List (List ℕ)) (read written : List ℕ) (o : Outcome)
    : Type 0 where
  pub told : IsTold on words false read written o.batches
  pub free : (due_of on.names told.tree told.inquiry false read).fault ≡ None
  pub fault : o.fault ≡ Some fault.Read

-- the texts that are due before that of this batch were written, and a front of that one
pub record HasPart (left : Option (List ℕ)) (on : Handing) (words : List (List ℕ))
    (read written : List ℕ) (batches : ℕ) : Type 0 where
  pub tree : Tree
  pub inquiry : Inquiry
  pub asks : AsksFor words (task.Read inquiry) tree
  pub ended : Bool
  pub at_end : ended ≡ true → IsAtEnd left
  pub before : List Prefix
  pub log : Prefix
  pub behind : List Prefix
  pub due_are : reported (each_of inquiry.product) (due_of on.names tree inquiry ended read)
      ≡ before ++ log ∷ behind
  pub telling : AllTell on.watches tree inquiry.product (before ++ log ∷ behind)
  pub text : List ℕ
  pub texts : AreTexts (Writes on.watches tree inquiry.product) before text
  pub part : List ℕ
  pub is_front : WritesFront on.watches tree inquiry.product log part
  pub wrote : written ≡ text ++ part
  pub count : batches ≡ counted log.batches

-- ---- a log that is made

abbrev pub made_by : Sizes → Log
made_by s = generated s.seed s.procs s.events

-- the summary of a bench, of the log that is made, whose verdict this is
pub record IsBenched (on : Handing) (words : List (List ℕ)) (summary : List ℕ) (verdict : Bool)
    : Type 0 where
  pub tree : Tree
  pub sizes : Sizes
  pub asks : AsksFor words (task.Bench sizes) tree
  pub named : unknown_name (node_of tree) on.names (made_by sizes).header ≡ None
  pub says : IsSummaryOf sizes (asked tree true false) (made_by sizes).header
      (made_by sizes).batches on.watches summary
  pub truth : (verdict ≡ true)
      ↔ IsTrueAtStart on.watches tree
      (record { header = (made_by sizes).header; batches = (made_by sizes).batches })

-- it was written, and nothing was read
pub record HasBenched (on : Handing) (words : List (List ℕ)) (read written : List ℕ) (o : Outcome)
    (verdict : Bool) : Type 0 where
  pub nothing : read ≡ []
  pub summary : IsBenched on words written verdict
  pub batches : o.batches ≡ 1
  pub fault : o.fault ≡ None

-- the log that is made lacks this name
pub record LacksName (on : Handing) (words : List (List ℕ)) (read written : List ℕ) (o : Outcome)
    (f : FormulaFault) : Type 0 where
  pub tree : Tree
  pub sizes : Sizes
  pub asks : AsksFor words (task.Bench sizes) tree
  pub missing : unknown_name (node_of tree) on.names (made_by sizes).header ≡ Some f
  pub nothing : (read ≡ []) × (written ≡ [])
  pub batches : o.batches ≡ 0
  pub fault : o.fault ≡ Some (fault.Formula f)

-- a prefix of the summary was written
pub record HasSummaryPart (on : Handing) (words : List (List ℕ)) (read written : List ℕ)
    (o : Outcome) : Type 0 where
  pub nothing : read ≡ []
  pub summary : List ℕ
  pub verdict : Bool
  pub is : IsBenched on words summary verdict
  pub part : IsPrefix written summary
  pub batches : o.batches ≡ 1

-- ---- what each status says

-- the words or their formula have this fault, and nothing was read or written
pub record IsMisasked (words : List (List ℕ)) (read written : List ℕ) (o : Outcome)
    (f : QuestionFault) : Type 0 where
  pub fault_is : IsQuestionFault words f
  pub nothing : (read ≡ []) × (written ≡ [])
  pub batches : o.batches ≡ 0
  pub fault : o.fault ≡ Some (fault_of_question f)

-- the text and the number of batches that are due of the words and of the whole input, where these
-- bytes are the front of it
pub record IsWholeDue (on : Handing) (words : List (List ℕ)) (read text : List ℕ) (batches : ℕ)
    : Type 0 where
  pub inquired : (t : Tree) (i : Inquiry) → AsksFor words (task.Read i) t
      → (ended : Bool) × (more : List ℕ)
      × IsDueText on.watches t i (due_of on.names t i ended (read ++ more)) text
      × (batches ≡ (due_of on.names t i ended (read ++ more)).batches)
  pub benched : (t : Tree) (sizes : Sizes) → AsksFor words (task.Bench sizes) t
      → (verdict : Bool) × IsBenched on words text verdict × (batches ≡ 1)

-- the words ask for the certificate of this formula
abbrev pub AsksCertificate : List (List ℕ) → Tree → Type 0
AsksCertificate words t = AsksFor words (task.Read certifying) t

-- nothing was written, or the input was read to its end and the front of its certificate written
abbrev pub HasCertificateFront : Option (List ℕ) → Handing → Tree → (read written : List ℕ)
    → Type 0
HasCertificateFront left on t read written = (written ≡ []) ⊎ (IsAtEnd left × (log : Prefix)
    × ((due_of on.names t certifying true read).whole ≡ Some log) × IsCertificateFront t log
    written)

-- Memory ran out; what was written is the front of each text that may be due, or of the certificate
-- of the whole input. Nothing is read for a bench, and nothing is written where the log that is
-- made lacks a name.
pub record IsOutOfMemory (left : Option (List ℕ)) (on : Handing) (words : List (List ℕ))
    (read written : List ℕ) (o : Outcome) : Type 0 where
  pub front : ((t : Tree) → AsksCertificate words t → ⊥)
      → (text : List ℕ) (batches : ℕ) → IsWholeDue on words read text batches
      → IsPrefix written text × (o.batches ≤ batches)
  pub certified : (t : Tree) → AsksCertificate words t
      → HasCertificateFront left on t read written × (o.batches ≡ 0)
  pub unread : (t : Tree) (sizes : Sizes) → AsksFor words (task.Bench sizes) t → read ≡ []
  pub unnamed : (t : Tree) (sizes : Sizes) (f : FormulaFault) → AsksFor words (task.Bench sizes) t
      → unknown_name (node_of t) on.names (made_by sizes).header ≡ Some f
      → (written ≡ []) × (o.batches ≡ 0)
  pub fault : o.fault ≡ Some fault.Memory

-- What a status says, by what the source has left, the counts of faults before and after, the
-- watches, the words, and the bytes read and written.
abbrev pub Answer : Status → Behind → Handing → List (List ℕ) → Passage → Outcome → Type 0
Answer status.True behind on words passage o =
    HasVerdict behind.rest on words passage o true ⊎ HasBenched on words passage.read
    passage.written o true
Answer status.False behind on words passage o =
    HasVerdict behind.rest on words passage o false ⊎ HasBenched on words passage.read
    passage.written o false
Answer status.Usage behind on words passage o =
    IsMisasked words passage.read passage.written o question.Usage
Answer status.Formula behind on words passage o =
    (f : FormulaFault) × (IsMisasked words passage.read passage.written o (question.Formula f)
    ⊎ (IsRefused behind.rest on words passage o (refusal.Formula f) ⊎ LacksName on words
    passage.read passage.written o f))
Answer status.Log behind on words passage o =
    (r : Refusal) × (status_of (fault_of_refusal r) ≡ status.Log) × IsRefused behind.rest on words
    passage o r
Answer status.ReadFault behind on words passage o =
    IsCutShort on words passage.read passage.written o × Rose behind.source.before
    behind.source.after
Answer status.WriteFault behind on words passage o =
    (HasPart behind.rest on words passage.read passage.written o.batches ⊎ HasSummaryPart on words
    passage.read passage.written o) × (o.fault ≡ Some fault.Write) × Rose behind.sink.before
    behind.sink.after
Answer status.OutOfMemory behind on words passage o =
    IsOutOfMemory behind.rest on words passage.read passage.written o

-- a whole run: what was read and written in it, that no count fell, and what its status says
pub record Ran (source sink : Change) (on : Handing) (words : List (List ℕ)) (o : Outcome) : Type 0
  where
    pub read : List ℕ
    pub written : List ℕ
    pub consumed : Consumes source.before source.after read
    pub wrote : Appends sink.before sink.after written
    pub log_later : source.faults_before ≤ source.faults_after
    pub out_later : sink.faults_before ≤ sink.faults_after
    pub answer : Answer o.status (behind_both source sink) on words (passage_of read written) o

-- ---- for a source that tells its bytes, where neither count rose and memory was there

abbrev pub IsCalm : ℕ → ℕ → ℕ → ℕ → Outcome → Type 0
IsCalm lf lf' of of' o = (Rose lf lf' → ⊥) × (Rose of of' → ⊥) × (o.status ≡ status.OutOfMemory → ⊥)

-- the text that is due is written, and so many batches are due
pub record WritesAsDue (on : Handing) (t : Tree) (i : Inquiry) (bytes : List ℕ) (output : Output)
    (o : Outcome) : Type 0 where
  pub text : List ℕ
  pub due_is : IsDueText on.watches t i (due_of on.names t i true bytes) text
  pub written : Appends output.before output.after text
  pub batches : o.batches ≡ (due_of on.names t i true bytes).batches

-- the status is the truth of the formula
pub record TellsTruth (watches : Watches) (t : Tree) (log : Prefix) (o : Outcome) : Type 0 where
  pub verdict : Bool
  pub status : o.status ≡ (if verdict then status.True else status.False)
  pub truth : (verdict ≡ true) ↔ IsTrueAtStart watches t log
  pub fault : o.fault ≡ None

-- the status and the line are those of this fault
pub record TellsFault (f : Fault) (o : Outcome) : Type 0 where
  pub status : o.status ≡ status_of f
  pub fault : o.fault ≡ Some f

-- a log of which no fault is due is whole, and it is decided
abbrev pub IsDecided : Option (List ℕ) → Handing → List (List ℕ) → Option (List ℕ)
    → Option (List ℕ) → Outcome → Type 0
IsDecided left on words held held' o =
    (bytes : List ℕ) (t : Tree) (i : Inquiry) → left ≡ Some bytes
    → AsksFor words (task.Read i) t → (due_of on.names t i true bytes).fault ≡ None
    → (log : Prefix) × ((due_of on.names t i true bytes).whole ≡ Some log)
    × WritesAsDue on t i bytes (output_of held held') o
    × TellsTruth (watches_for i.product on.watches) t log o

-- a fault that is due of the bytes is the answer
abbrev pub IsRefusedAsDue : Option (List ℕ) → Handing → List (List ℕ) → Option (List ℕ)
    → Option (List ℕ) → Outcome → Type 0
IsRefusedAsDue left on words held held' o =
    (bytes : List ℕ) (t : Tree) (i : Inquiry) (r : Refusal) → left ≡ Some bytes
    → AsksFor words (task.Read i) t → (due_of on.names t i true bytes).fault ≡ Some r
    → WritesAsDue on t i bytes (output_of held held') o × TellsFault (fault_of_refusal r) o

-- a fault of the words or their formula is the answer, and nothing is written
abbrev pub IsRefusedAsAsked : List (List ℕ) → Option (List ℕ) → Option (List ℕ) → Outcome → Type 0
IsRefusedAsAsked words held held' o =
    (f : QuestionFault) → IsQuestionFault words f
    → Appends held held' [] × (o.batches ≡ 0) × TellsFault (fault_of_question f) o

-- the log that is made has the names: its summary is written
pub record Benches (on : Handing) (words : List (List ℕ)) (held held' : Option (List ℕ))
    (o : Outcome) : Type 0 where
  pub summary : List ℕ
  pub verdict : Bool
  pub is : IsBenched on words summary verdict
  pub written : Appends held held' summary
  pub batches : o.batches ≡ 1
  pub status : o.status ≡ (if verdict then status.True else status.False)
  pub fault : o.fault ≡ None

-- a bench is answered, or the name that the log lacks is
pub record IsBenchAnswered (on : Handing) (words : List (List ℕ)) (held held' : Option (List ℕ))
    (o : Outcome) : Type 0 where
  pub named : (t : Tree) (sizes : Sizes) → AsksFor words (task.Bench sizes) t
      → unknown_name (node_of t) on.names (made_by sizes).header ≡ None
      → Benches on words held held' o
  pub missing : (t : Tree) (sizes : Sizes) (f : FormulaFault) → AsksFor words (task.Bench sizes) t
      → unknown_name (node_of t) on.names (made_by sizes).header ≡ Some f
      → Appends held held' [] × (o.batches ≡ 0) × TellsFault (fault.Formula f) o

-- ---- of a log and an output, as a call finds and leaves them

-- neither count rose, and memory was there
abbrev pub IsCalmOn : Change → Change → Outcome → Type 0
IsCalmOn log out o =
    IsCalm log.faults_before log.faults_after out.faults_before out.faults_after o

-- then each of these holds
abbrev pub IsDecidedOn : Change → Change → Handing → List (List ℕ) → Outcome → Type 0
IsDecidedOn log out on words o =
    IsCalmOn log out o → IsDecided log.before on words out.before out.after o

abbrev pub IsRefusedOn : Change → Change → Handing → List (List ℕ) → Outcome → Type 0
IsRefusedOn log out on words o =
    IsCalmOn log out o → IsRefusedAsDue log.before on words out.before out.after o

abbrev pub IsMisaskedOn : Change → Change → List (List ℕ) → Outcome → Type 0
IsMisaskedOn log out words o =
    IsCalmOn log out o → IsRefusedAsAsked words out.before out.after o

abbrev pub IsBenchedOn : Change → Change → Handing → List (List ℕ) → Outcome → Type 0
IsBenchedOn log out on words o =
    IsCalmOn log out o → IsBenchAnswered on words out.before out.after o
