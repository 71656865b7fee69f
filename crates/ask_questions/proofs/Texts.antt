-- Texts and their questions of both kinds.
use Rattle.std.proofs.Common.{◌≡◌, ℕ, ◌+◌, ◌≤◌, ◌<◌, List, [], ◌∷◌, ◌++◌, length, map, take, Option, None, Some, ap, refl, sym, subst, ◌∙◌, arith, append_assoc, length-append}
use Rattle.std.specs.List.{slice_index_or}
use Rattle.std.proofs.lemmas.List.{length-map, take_all}
use Rattle.asked_list.specs.Lists.{Adds, IsAskedList, listed}
use Rattle.asked_list.specs.declared.list.AskedList.{AskedList}
use Rattle.asked_list.specs.declared.list.Listed.{Listed}
use Rattle.asked_list.specs.declared.list.TooMany.{TooMany}
use Rattle.asked_list.proofs.Ranges.{added, kept}
use Rattle.pota_base.specs.declared.fault.Refused.{Refused}
use Rattle.pota_base.specs.declared.fault.Refused.TheVariants as refused
use Rattle.pota_base.specs.Limits.{most_questions}
use Rattle.question_forms.specs.declared.question.Question.{Question}
use Rattle.question_instances.specs.declared.over.Over.{Over}
use Rattle.over_questions.specs.Entries.{IsEntryFault, IsEntryOf, RefusesEntry}
use Rattle.over_questions.specs.declared.entry.Entry.{Entry}
use Rattle.over_questions.specs.declared.entry.Entry.TheVariants as entry
use Rattle.over_questions.specs.declared.entry.EntryFault.{EntryFault}
use Rattle.rctl_class.specs.NamedParts.{disjuncts_of}
use Rattle.ask_questions.specs.Listing.{AreBehind, IsEntry}
use Rattle.ask_questions.specs.Entries.{AreAsked, AreEach, AreReadable, IsFirstFault, IsOverAs}
use Rattle.ask_questions.specs.declared.reading.AskedQuestions.{AskedQuestions}
use Rattle.ask_questions.specs.declared.reading.QuestionsFault.{QuestionsFault}
use Rattle.ask_questions.specs.declared.reading.QuestionsFault.TheVariants as fault
use Rattle.ask_questions.specs.declared.reading.NumberedFault.{NumberedFault}
use Rattle.ask_questions.specs.inside.Added.{AreAdded, AreAddedTo, AreKinds, AreRead, AreSized, HasNoRoomFor, HasNoRoomIn, IsFullAt, IsSized, IsTooMany, RefusesAdding, Refuses, many_at, numbered_fault}
use Rattle.ask_questions.proofs.Lists.{behind-push, paired-length, paired-push}
use Rattle.ask_questions.proofs.Words.{at_here, take_here}

-- ---- texts that are questions

one_sized : (text : List ℕ) (e : Entry) → IsEntryOf text e → IsSized e
one_sized text (entry.One q) is = is.1.2.classed.sized
one_sized text (entry.Over over) is = tt

pub sized : (texts : List (List ℕ)) (es : List Entry) → AreRead texts es → AreSized es
sized [] [] are = tt
sized [] (e ∷ es) are = absurd are
sized (text ∷ texts) [] are = absurd are
sized (text ∷ texts) (e ∷ es) are = (one_sized text e are.0, sized texts es are.1)

pub readable : (texts : List (List ℕ)) (es : List Entry) → AreRead texts es → AreReadable texts
readable [] [] are = tt
readable [] (e ∷ es) are = absurd are
readable (text ∷ texts) [] are = absurd are
readable (text ∷ texts) (e ∷ es) are = ((e, are.0), readable texts es are.1)

-- ---- one text more

-- each text of a list is the text f of an item
module _ {S : Type 0} (f : S → List ℕ) (items : List S) (i : ℕ) (es : List Entry) (so_far : AreRead (map f (take i items)) es) (d : S) (text : List ℕ) (here : i < length items) (is : d ≡ slice_index_or items i d) (of : text ≡ f d) where
  pub one_more : (e : Entry) (es' : List Entry) → IsEntryOf text e → es' ≡ es ++ e ∷ [] → AreRead (map f (take (i + 1) items)) es'
  one_more e es' read are =
      subst (AreRead (map f (take (i + 1) items))) (sym are)
      (subst (λ (ts : List (List ℕ)). AreRead ts (es ++ e ∷ [])) (sym (take_here f items i d text here is of)) (paired-push IsEntryOf (map f (take i items)) es text e so_far read))

  pub unreadable : (stop : Refused EntryFault) (made : Refused NumberedFault) → made ≡ numbered_fault i stop → RefusesEntry stop (IsEntryFault text) → Refuses made (IsFirstFault (map f items))
  unreadable (refused.Fault g) made are refuses =
      subst (λ (r : Refused NumberedFault). Refuses r (IsFirstFault (map f items))) (sym are)
      (record {
        before = map f (take i items);
        text = text;
        at = at_here f items i d text here is of;
        readable = readable (map f (take i items)) es so_far;
        unreadable = refuses;
      })
  unreadable refused.NoMemory made are refuses =
      subst (λ (r : Refused NumberedFault). Refuses r (IsFirstFault (map f items))) (sym are) _

-- ---- all texts

pub all_read : {S : Type 0} (f : S → List ℕ) (items : List S) (i : ℕ) (es : List Entry) → AreRead (map f (take i items)) es → length items ≤ i → AreRead (map f items) es
all_read f items i es are past = subst (λ (xs : List _). AreRead (map f xs) es) (take_all i items past) are

pub few : {S : Type 0} (f : S → List ℕ) (items : List S) (es : List Entry) → AreRead (map f items) es → length items ≤ most_questions → length es ≤ most_questions
few f items es are within = omega (arith, paired-length IsEntryOf (map f items) es are, length-map items f)

each_of : (list : AskedList) (texts : List (List ℕ)) (es : List Entry) (os : List (Option Over)) (ones : List Listed) → AreRead texts es → AreKinds list es os ones → AreEach list texts os ones
each_of list [] [] [] [] read are = tt
each_of list [] [] [] (one ∷ ones) read are = absurd are
each_of list [] [] (o ∷ os) ones read are = absurd are
each_of list [] (e ∷ es) os ones read are = absurd read
each_of list (text ∷ texts) [] os ones read are = absurd read
each_of list (text ∷ texts) (entry.One q ∷ es) [] ones read are = absurd are
each_of list (text ∷ texts) (entry.One q ∷ es) (None ∷ os) [] read are = absurd are
each_of list (text ∷ texts) (entry.One q ∷ es) (None ∷ os) (one ∷ ones) read are =
    (record { names = read.0.0; listed = (q, read.0.1, are.0) }, each_of list texts es os ones read.1 are.1)
each_of list (text ∷ texts) (entry.One q ∷ es) (Some over ∷ os) ones read are = absurd are
each_of list (text ∷ texts) (entry.Over over ∷ es) [] ones read are = absurd are
each_of list (text ∷ texts) (entry.Over over ∷ es) (None ∷ os) ones read are = absurd are
each_of list (text ∷ texts) (entry.Over over ∷ es) (Some other ∷ os) ones read are =
    (subst (IsOverAs text) are.0 (record { names = read.0.0; within = read.0.1; q = read.0.2; question = read.0.3 }), each_of list texts es os ones read.1 are.1)

pub asked_so : (texts : List (List ℕ)) (es : List Entry) (asked : AskedQuestions) → AreRead texts es → AreAdded es asked → AreAsked texts asked
asked_so texts es asked read are = record { fit = are.fit; each = each_of asked.list texts es asked.overs asked.list.listed read are.each; whole = are.whole }

-- ---- one question more in the list

stays : (before after : AskedList) (new : Question) → Adds before new after → (q : Question) (one : Listed) → IsEntry before q one → IsEntry after q one
stays before after new adds q one is = record {
  name = is.name;
  formula = is.formula;
  form = is.form;
  has = kept before after new adds one.range (disjuncts_of q.classed.disjuncts) is.has;
}

kinds_stay : (before after : AskedList) (new : Question) → Adds before new after → (es : List Entry) (os : List (Option Over)) (ones : List Listed) → AreKinds before es os ones → AreKinds after es os ones
kinds_stay before after new adds [] [] [] are = tt
kinds_stay before after new adds [] [] (one ∷ ones) are = absurd are
kinds_stay before after new adds [] (o ∷ os) ones are = absurd are
kinds_stay before after new adds (entry.One q ∷ es) [] ones are = absurd are
kinds_stay before after new adds (entry.One q ∷ es) (None ∷ os) [] are = absurd are
kinds_stay before after new adds (entry.One q ∷ es) (None ∷ os) (one ∷ ones) are =
    (stays before after new adds q one are.0, kinds_stay before after new adds es os ones are.1)
kinds_stay before after new adds (entry.One q ∷ es) (Some over ∷ os) ones are = absurd are
kinds_stay before after new adds (entry.Over over ∷ es) [] ones are = absurd are
kinds_stay before after new adds (entry.Over over ∷ es) (None ∷ os) ones are = absurd are
kinds_stay before after new adds (entry.Over over ∷ es) (Some other ∷ os) ones are = (are.0, kinds_stay before after new adds es os ones are.1)

push_one : (list : AskedList) (es : List Entry) (os : List (Option Over)) (ones : List Listed) (q : Question) (last : Listed) → AreKinds list es os ones → IsEntry list q last
    → AreKinds list (es ++ entry.One q ∷ []) (os ++ None ∷ []) (ones ++ last ∷ [])
push_one list [] [] [] q last are is = (is, tt)
push_one list [] [] (one ∷ ones) q last are is = absurd are
push_one list [] (o ∷ os) ones q last are is = absurd are
push_one list (entry.One p ∷ es) [] ones q last are is = absurd are
push_one list (entry.One p ∷ es) (None ∷ os) [] q last are is = absurd are
push_one list (entry.One p ∷ es) (None ∷ os) (one ∷ ones) q last are is = (are.0, push_one list es os ones q last are.1 is)
push_one list (entry.One p ∷ es) (Some over ∷ os) ones q last are is = absurd are
push_one list (entry.Over over ∷ es) [] ones q last are is = absurd are
push_one list (entry.Over over ∷ es) (None ∷ os) ones q last are is = absurd are
push_one list (entry.Over over ∷ es) (Some other ∷ os) ones q last are is = (are.0, push_one list es os ones q last are.1 is)

push_over : (list : AskedList) (es : List Entry) (os : List (Option Over)) (ones : List Listed) (new : Over) → AreKinds list es os ones
    → AreKinds list (es ++ entry.Over new ∷ []) (os ++ Some new ∷ []) ones
push_over list [] [] [] new are = (refl, tt)
push_over list [] [] (one ∷ ones) new are = absurd are
push_over list [] (o ∷ os) ones new are = absurd are
push_over list (entry.One p ∷ es) [] ones new are = absurd are
push_over list (entry.One p ∷ es) (None ∷ os) [] new are = absurd are
push_over list (entry.One p ∷ es) (None ∷ os) (one ∷ ones) new are = (are.0, push_over list es os ones new are.1)
push_over list (entry.One p ∷ es) (Some over ∷ os) ones new are = absurd are
push_over list (entry.Over over ∷ es) [] ones new are = absurd are
push_over list (entry.Over over ∷ es) (None ∷ os) ones new are = absurd are
push_over list (entry.Over over ∷ es) (Some other ∷ os) ones new are = (are.0, push_over list es os ones new are.1)

pub one_added : (es : List Entry) (os more : List (Option Over)) (before after : AskedList) (q : Question) → AreAddedTo before es os → Adds before q after → IsAskedList after → more ≡ os ++ None ∷ []
    → AreAddedTo after (es ++ entry.One q ∷ []) more
one_added es os more before after q are adds fits is =
    let from = length before.classed.disjuncts in
    let last : IsEntry after q (listed from q) = record { name = refl; formula = refl; form = refl; has = added before after q are.fit adds } in
    let kept_ones = kinds_stay before after q adds es os before.listed are.each in
    let number : from + length q.classed.disjuncts ≡ length after.classed.disjuncts =
    sym (length-append before.classed.disjuncts q.classed.disjuncts) ∙ sym (ap length adds.disjuncts) in
    subst (AreAddedTo after (es ++ entry.One q ∷ [])) (sym is) (record {
      fit = fits;
      each = subst (AreKinds after (es ++ entry.One q ∷ []) (os ++ None ∷ [])) (sym adds.listed) (push_one after es os before.listed q (listed from q) kept_ones last);
      whole = subst (λ (ls : List Listed). AreBehind 0 ls (length after.classed.disjuncts)) (sym adds.listed)
          (behind-push 0 before.listed from (listed from q) (length after.classed.disjuncts) are.whole refl number);
    })

pub over_added : (es : List Entry) (os more : List (Option Over)) (list : AskedList) (new : Over) → AreAddedTo list es os → more ≡ os ++ Some new ∷ [] → AreAddedTo list (es ++ entry.Over new ∷ []) more
over_added es os more list new are is =
    subst (AreAddedTo list (es ++ entry.Over new ∷ [])) (sym is) (record { fit = are.fit; each = push_over list es os list.listed new are.each; whole = are.whole })

-- ---- one question more of all of them

pub next_of : (all yielded rest : List Entry) (e : Entry) (behind : List Entry) → all ≡ yielded ++ rest → rest ≡ e ∷ behind → all ≡ yielded ++ e ∷ behind
next_of all yielded rest e behind are is = are ∙ ap (λ (l : List Entry). yielded ++ l) is

sized_behind : (before : List Entry) (e : Entry) (behind : List Entry) → AreSized (before ++ e ∷ behind) → IsSized e
sized_behind [] e behind are = are.0
sized_behind (d ∷ before) e behind are = sized_behind before e behind are.1

pub next_sized : (all before : List Entry) (e : Entry) (behind : List Entry) → all ≡ before ++ e ∷ behind → AreSized all → IsSized e
next_sized all before e behind are sized = sized_behind before e behind (subst AreSized are sized)

pub counted : (k : ℕ) (yielded : List Entry) (e : Entry) → k ≡ length yielded + 1 → k + 1 ≡ length (yielded ++ e ∷ []) + 1
counted k yielded e is = omega (arith, is, length-append yielded (e ∷ []))

pub joined : (all yielded : List Entry) (e : Entry) (behind : List Entry) → all ≡ yielded ++ e ∷ behind → all ≡ (yielded ++ e ∷ []) ++ behind
joined all yielded e behind are = are ∙ sym (append_assoc yielded (e ∷ []) behind)

-- there is no room for it
pub full : (es before : List Entry) (e : Entry) (behind : List Entry) (list : AskedList) (os : List (Option Over)) (number : ℕ) (stop : Refused TooMany) (of : Refused NumberedFault)
    → of ≡ many_at number stop → es ≡ before ++ e ∷ behind → number ≡ length before + 1 → AreAddedTo list before os → RefusesAdding stop (HasNoRoomIn list e) → Refuses of (IsTooMany es)
full es before (entry.One q) behind list os number (refused.Fault f) of is all_are numbered are lacks =
    subst (λ (r : Refused NumberedFault). Refuses r (IsTooMany es)) (sym is)
    (record { before = before; question = q; behind = behind; among = all_are; numbered = numbered; asked = record { list = list; overs = os }; added = are; full = lacks })
full es before (entry.Over over) behind list os number (refused.Fault f) of is all_are numbered are lacks = absurd lacks
full es before e behind list os number refused.NoMemory of is all_are numbered are lacks =
    subst (λ (r : Refused NumberedFault). Refuses r (IsTooMany es)) (sym is) _

-- ---- no room for one of the texts

-- the texts of questions, of which some are before one
record Split (texts : List (List ℕ)) (before : List Entry) (e : Entry) : Type 0 where
  fronts : List (List ℕ)
  text : List ℕ
  behinds : List (List ℕ)
  are : texts ≡ fronts ++ text ∷ behinds
  read : AreRead fronts before
  one : IsEntryOf text e

split : (texts : List (List ℕ)) (before : List Entry) (e : Entry) (behind : List Entry) → AreRead texts (before ++ e ∷ behind) → Split texts before e
split [] [] e behind read = absurd read
split [] (d ∷ before) e behind read = absurd read
split (text ∷ texts) [] e behind read = record { fronts = []; text = text; behinds = texts; are = refl; read = tt; one = read.0 }
split (text ∷ texts) (d ∷ before) e behind read =
    let rest = split texts before e behind read.1 in
    record { fronts = text ∷ rest.fronts; text = rest.text; behinds = rest.behinds; are = ap (λ (l : List (List ℕ)). text ∷ l) rest.are; read = (read.0, rest.read); one = rest.one }

no_room : (texts : List (List ℕ)) (es : List Entry) (number : ℕ) → AreRead texts es → HasNoRoomFor es number → IsFirstFault texts (record { question = number; fault = fault.TooMany })
no_room texts es number read lacks =
    let s = split texts lacks.before (entry.One lacks.question) lacks.behind (subst (AreRead texts) lacks.among read) in
    record {
      readable = readable texts es read;
      before = s.fronts;
      text = s.text;
      at = record { behind = s.behinds; among = s.are; numbered = lacks.numbered ∙ ap (λ k. k + 1) (sym (paired-length IsEntryOf s.fronts lacks.before s.read)) };
      asked = lacks.asked;
      are = asked_so s.fronts lacks.before lacks.asked s.read lacks.added;
      question = lacks.question;
      read = s.one;
      full = lacks.full;
    }

pub too_many : (texts : List (List ℕ)) (es : List Entry) (stop : Refused NumberedFault) → AreRead texts es → Refuses stop (IsTooMany es) → Refuses stop (IsFirstFault texts)
too_many texts es (refused.Fault f) read refuses = at f.fault refuses
  where
    at : (g : QuestionsFault) → IsFullAt es f.question g → IsFirstFault texts (record { question = f.question; fault = g })
    at (fault.Question e) is = absurd is
    at fault.TooMany is = no_room texts es f.question read is
too_many texts es refused.NoMemory read refuses = _
