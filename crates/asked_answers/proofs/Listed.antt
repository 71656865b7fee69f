-- Questions in a list whose names were looked up together.
use Rattle.std.proofs.Common.{◌≡◌, ◌↔◌, ℕ, zero, suc, ◌-◌, ◌≤◌, Bool, not, IsTrue, List, [], ◌∷◌, length, take, drop, replicate, map, sym, ap, subst, refl, ◌∙◌, arith}
use Rattle.std.proofs.lemmas.List.{length-map}
use Rattle.run_model.specs.Consistent.{IsOrder}
use Rattle.run_model.specs.Run.{Name, Run}
use Rattle.event_log.specs.declared.log.Header.{Header}
use Rattle.question_meaning.specs.declared.form.Form.{Form}
use Rattle.question_meaning.specs.Asking.{AreFor, MeanAt, asked_formula}
use Rattle.question_text.specs.declared.head.Head.{Head}
use Rattle.question_forms.specs.Questions.{IsQuestion}
use Rattle.question_forms.specs.declared.question.Question.{Question}
use Rattle.question_forms.proofs.Answered.{question_means, question_is_for}
use Rattle.rctl_grammar.specs.declared.tree.Tree.{Tree}
use Rattle.rctl_grammar.specs.Shape.{meaning}
use Rattle.rctl_class.specs.NamedParts as named
use Rattle.rctl_class.specs.NamedParts.{NamedPiece, part_formula}
use Rattle.rctl_class.specs.Classed.{disjunct_formulas}
use Rattle.rctl_names.specs.Resolving.{IsResolved, piece_in, scope_of}
use Rattle.rctl_names.proofs.Fits.{disjuncts_counted}
use Rattle.rctl_parts.specs.MadeFor.{AreMadeFor, disjuncts_count}
use Rattle.asked_parts.proofs.Making.{asked-count}
use Rattle.asked_list.specs.declared.list.AskedList.{AskedList}
use Rattle.rctl_names.specs.Seen.{names_of}
use Rattle.rctl_parts.specs.Pieces.{disjuncts_of}
use Rattle.rctl_parts.specs.Spelled.{Names, formula_of, part_formulas}
use Rattle.rctl_parts.specs.declared.part.Resolved.{Resolved}
use Rattle.rctl_parts.proofs.Spelling.{disjuncts_spelled, spelled_disjuncts}
use Rattle.asked_parts.specs.Asked.{SpellAt}
use Rattle.asked_list.specs.declared.list.AskedRange.{AskedRange}
use Rattle.asked_list.specs.Lists.{range_of, HasRange, IsAskedIn, IsAskedList, asked_each, each_count, disjuncts_in}
use Rattle.asked_list.proofs.Asked.{asked_in, made_alike}
use mathlib.Core.Bool.{beq}
use Rattle.question_meaning.specs.Asking.{is_turned, question}
use Rattle.question_meaning.specs.Question.{Holds}
use Rattle.conjunctions.specs.declared.answer.Answer.{Answer}
use Rattle.part_pulls.specs.Observing.{Reading, names_seen, run_seen}
use Rattle.part_pulls.specs.declared.observed.Observed.{Observed}
use Rattle.part_pulls.proofs.Readings.{is_order}
use Rattle.asked_answers.specs.Holding.{own_of, some_true, IsListedAs, AnswersList}
use Rattle.asked_answers.proofs.Held.{held}

take_map : {A B : Type 0} (f : A → B) (k : ℕ) (xs : List A) → take k (map f xs) ≡ map f (take k xs)
take_map f zero xs = refl
take_map f (suc k) [] = refl
take_map f (suc k) (x ∷ xs) = ap (λ l. f x ∷ l) (take_map f k xs)

drop_map : {A B : Type 0} (f : A → B) (k : ℕ) (xs : List A) → drop k (map f xs) ≡ map f (drop k xs)
drop_map f zero xs = refl
drop_map f (suc k) [] = refl
drop_map f (suc k) (x ∷ xs) = drop_map f k xs

pub range_map : {A B : Type 0} (f : A → B) (from to : ℕ) (xs : List A) → range_of from to (map f xs) ≡ map f (range_of from to xs)
range_map f from to xs = ap (take (to - from)) (drop_map f from xs) ∙ take_map f (to - from) (drop from xs)

as_many : (header : Header) (watches : List Name) (all : List (List NamedPiece)) (resolved : Resolved) → IsResolved header watches all resolved → length (disjuncts_of resolved.disjuncts) ≡ length all
as_many header watches all resolved is = ap length is.numbered ∙ length-map all (map (piece_in (names_of header watches)))

-- ---- what is asked of it

ranged : (header : Header) (watches : List Name) (all : List (List NamedPiece)) (resolved : Resolved) → IsResolved header watches all resolved
    → (range : AskedRange) (forms : List Form) (own : List (List NamedPiece)) → HasRange range forms all own → HasRange range forms (disjuncts_of resolved.disjuncts) (own_of range resolved)
ranged header watches all resolved is range forms own has =
    let many = as_many header watches all resolved is in
    let names = names_of header watches in
    let here : own_of range resolved ≡ map (map (piece_in names)) own =
    ap (range_of range.from range.to) is.numbered ∙ range_map (map (piece_in names)) range.from range.to all ∙ ap (map (map (piece_in names))) has.items in
    let number : length own ≡ length (own_of range resolved) = sym (ap length here ∙ length-map own (map (piece_in names))) in
    record {
      up = has.up;
      within = omega (arith, many, has.within);
      paired = has.paired ∙ sym many;
      of_form = subst (λ k. range_of range.from range.to forms ≡ replicate k range.form) number has.of_form;
      items = refl;
    }

pub asked : (header : Header) (watches : List Name) (all : List (List NamedPiece)) (resolved : Resolved) → IsResolved header watches all resolved
    → (range : AskedRange) (forms : List Form) (own : List (List NamedPiece)) → HasRange range forms all own → IsAskedIn (asked_each forms (disjuncts_of resolved.disjuncts)) range (own_of range resolved)
asked header watches all resolved is range forms own has = asked_in range forms (disjuncts_of resolved.disjuncts) (own_of range resolved) (ranged header watches all resolved is range forms own has)

-- ---- what it spells

own_formulas : (header : Header) (watches : List Name) (all : List (List NamedPiece)) (resolved : Resolved) → IsResolved header watches all resolved
    → (range : AskedRange) (forms : List Form) (own : List (List NamedPiece)) → HasRange range forms all own → part_formulas (names_of header watches) (own_of range resolved) ≡ disjunct_formulas own
own_formulas header watches all resolved is range forms own has =
    let names = names_of header watches in
    sym (range_map (map (formula_of names)) range.from range.to (disjuncts_of resolved.disjuncts)) ∙ ap (range_of range.from range.to) is.spelled
    ∙ range_map (map part_formula) range.from range.to all ∙ ap disjunct_formulas has.items

pub spelled : (text : List ℕ) (head : Head) (t : Tree) (q : Question) → IsQuestion text head t q
    → (header : Header) (watches : List Name) (all : List (List NamedPiece)) (resolved : Resolved) → IsResolved header watches all resolved
    → (range : AskedRange) (forms : List Form) → HasRange range forms all (named.disjuncts_of q.classed.disjuncts)
    → (r : Run) → IsOrder r.clocks → SpellAt r (names_of header watches) (own_of range resolved) (asked_formula q.form (meaning t))
spelled text head t q question header watches all resolved is range forms has r order =
    let names = names_of header watches in
    let own = own_of range resolved in
    let mean : MeanAt r (part_formulas names own) (asked_formula q.form (meaning t)) =
    subst (λ fs. MeanAt r fs (asked_formula q.form (meaning t))) (sym (own_formulas header watches all resolved is range forms (named.disjuncts_of q.classed.disjuncts) has)) (question_means text head t q question r order) in
    λ c k. (λ h. (mean c k).0 (spelled_disjuncts r names own c h), λ h. disjuncts_spelled r names own c ((mean c k).1 h))

pub one : (text : List ℕ) (head : Head) (t : Tree) (q : Question) → IsQuestion text head t q
    → (header : Header) (watches : List Name) (all : List (List NamedPiece)) (resolved : Resolved) → IsResolved header watches all resolved
    → (range : AskedRange) (forms : List Form) → HasRange range forms all (named.disjuncts_of q.classed.disjuncts)
    → AreFor q.form (part_formulas (names_of header watches) (own_of range resolved))
one text head t q question header watches all resolved is range forms has =
    subst (AreFor q.form) (sym (own_formulas header watches all resolved is range forms (named.disjuncts_of q.classed.disjuncts) has)) (question_is_for text head t q question)

-- ---- how many parts are asked of it

counts : (names : Names) (fs : List Form) (ds : List (List NamedPiece)) → disjuncts_count (asked_each fs (map (map (piece_in names)) ds)) ≡ each_count fs ds
counts names fs [] = refl
counts names [] (d ∷ ds) = omega (arith, disjuncts_counted names (d ∷ []), counts names [] ds)
counts names (f ∷ fs) (d ∷ ds) = omega (arith, asked-count f (map (piece_in names) d), disjuncts_counted names (d ∷ []), counts names fs ds)

pub made : (list : AskedList) → IsAskedList list → (header : Header) (watches : List Name) (resolved : Resolved) → IsResolved header watches (disjuncts_in list) resolved
    → AreMadeFor (scope_of header resolved.watch_process) (asked_each list.forms (disjuncts_of resolved.disjuncts))
made list is header watches resolved there =
    let count = ap (λ ds. disjuncts_count (asked_each list.forms ds)) there.numbered ∙ counts (names_of header watches) list.forms (disjuncts_in list) in
    made_alike (scope_of header resolved.watch_process) list.forms (disjuncts_of resolved.disjuncts) there.made_for (omega (arith, count, is.counted, is.parts))

-- ---- what is told of it

pub listed : (answer : Answer) (range : AskedRange) (some turned : Bool) → range.from ≤ range.to → some ≡ some_true answer.parts range.from (range.to - range.from) → turned ≡ is_turned range.form
    → (text : List ℕ) (head : Head) (t : Tree) (q : Question) → IsQuestion text head t q → (list : AskedList) → IsListedAs list range q
    → (seen : Observed) (reading : Reading) → AnswersList list seen reading answer
    → IsTrue (not (beq some turned)) ↔ Holds (run_seen seen reading) (question q.form (meaning t))
listed answer range some turned up some_is turned_is text head t q is list there seen reading told =
    let header = seen.trace.states.header in
    let watches = reading.watch_names in
    let own = own_of range told.resolved in
    let r = run_seen seen reading in
    let names = names_seen seen reading in
    let order = is_order seen told.trace in
    let here = asked header watches (disjuncts_in list) told.resolved told.names range list.forms (named.disjuncts_of q.classed.disjuncts) there.has in
    let spell : SpellAt r names own (asked_formula range.form (meaning t)) =
    subst (λ f. SpellAt r names own (asked_formula f (meaning t))) (sym there.form) (spelled text head t q is header watches (disjuncts_in list) told.resolved told.names range list.forms there.has r order) in
    let for : AreFor range.form (part_formulas names own) =
    subst (λ f. AreFor f (part_formulas names own)) (sym there.form) (one text head t q is header watches (disjuncts_in list) told.resolved told.names range list.forms there.has) in
    let says = held answer range some turned up some_is turned_is seen (asked_each list.forms (disjuncts_of told.resolved.disjuncts)) own reading told.trace told.answered told.answers here (meaning t) spell for in
    subst (λ f. IsTrue (not (beq some turned)) ↔ Holds r (question f (meaning t))) there.form says
