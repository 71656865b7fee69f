-- There is one report of a run at most.
use Rattle.std.proofs.Common.{◌≡◌, ℕ, ◌+◌, ◌⊎◌, ◌↔◌, Bool, true, false, List, [], ◌∷◌, map, Option, Some, None, sym, ap, ◌∙◌, refl, inl, inr}
use Rattle.run_model.specs.Cut.{initial}
use Rattle.run_model.specs.Run.{Run, Watches, run_of, clocks_of}
use Rattle.run_model.specs.Consistent.{IsOrder}
use Rattle.run_model.specs.Formula.{Formula}
use Rattle.run_model.specs.Meaning.{IsRun, Sat}
use Rattle.run_model.specs.Sublattice.{IsSublattice}
use Rattle.run_model.specs.Slice.{Edge as EdgeOfRun, SliceText as TextOfRun}
use Rattle.run_model.specs.Witness as model
use Rattle.run_model.specs.Class.{IsKeptFor, IsRegularIn, IsOfClass, disjuncts, SatParts, AreRegular, HaveRegularParts, PartsKeptFor, DisjunctsKeptFor, Shown}
use Rattle.meaning_laws.proofs.PartLemmas.{disjuncts_regular, disjuncts_kept}
use Rattle.meaning_laws.proofs.ShownLemmas.{shown_closed}
use Rattle.run_model.proofs.TraceLemmas.{run_of_order}
use Rattle.model_laws.proofs.Texts.{one_text}
use Rattle.model_laws.proofs.Witnesses.{witness_one}
use Rattle.pota_base.specs.declared.shape.EventId.{EventId}
use Rattle.event_log.specs.declared.log.Event.{Event}
use Rattle.event_log.specs.declared.log.Header.{Header}
use Rattle.report.specs.PassedOn.{Edge}
use Rattle.report.specs.PassedOn.{edge_of}
use Rattle.witness_kinds.specs.declared.Path.{Path}
use Rattle.witness_kinds.specs.declared.Witness.{Witness}
use Rattle.witness_kinds.specs.declared.Witness.TheVariants as witness
use Rattle.witness_kinds.specs.Views.{place_of, places_of, path_of, witness_of}
use Rattle.report.specs.PassedOn.{WitnessText}
use Rattle.report.specs.declared.report.Report.{Report}
use Rattle.report.specs.declared.report.SliceText.{SliceText}
use Rattle.run_report.specs.Witnesses.{IsTextFor, ArePartTexts, AreTextsOfTrue, IsTextOfFalse, AreTextsOfFalse, AreWitnesses}
use Rattle.call_options.specs.declared.sizes.Sizes.{Sizes}
use Rattle.run_report.specs.Benches.{summary_text, benched, IsSummaryOf}
use Rattle.run_report.specs.Reports.{Asked, text_seen, IsSliceShown, IsReportOn, IsReportOf}
use Rattle.log_rules.specs.SoFar.{trace_so_far}

-- ---- what the model sees of edges, texts and witnesses loses nothing

event_at : model.Place → EventId
event_at e = record { process = e.process; position = e.position }

events_back : (es : List EventId) → map event_at (places_of es) ≡ es
unfolding event_at
events_back [] = refl
events_back (e ∷ es) = λ i. e ∷ events_back es i

path_back : model.PathTo → Path
path_back path = record { goal = path.goal; steps = map event_at path.steps }

witness_back : model.Witness → Witness
witness_back model.Nothing = witness.Nothing
witness_back (model.Reach path) = witness.Reach (path_back path)
witness_back (model.Against path) = witness.Against (path_back path)
witness_back (model.Always path) = witness.Always (path_back path)
witness_back model.StuckStart = witness.StuckStart
witness_back model.StuckFinish = witness.StuckFinish
witness_back (model.StuckPair first other) = witness.StuckPair (event_at first) (event_at other)

same_path : (p : Path) → path_back (path_of p) ≡ p
unfolding path_back
same_path p = λ i. record { goal = p.goal; steps = events_back p.steps i }

same_witness : (w : Witness) → witness_back (witness_of w) ≡ w
unfolding witness_back event_at
same_witness witness.Nothing = refl
same_witness (witness.Reach path) = ap witness.Reach (same_path path)
same_witness (witness.Against path) = ap witness.Against (same_path path)
same_witness (witness.Always path) = ap witness.Always (same_path path)
same_witness witness.StuckStart = refl
same_witness witness.StuckFinish = refl
same_witness (witness.StuckPair first other) = refl

seen_once : (w v : Witness) → witness_of w ≡ witness_of v → w ≡ v
seen_once w v e = sym (same_witness w) ∙ ap witness_back e ∙ same_witness v

edge_back : EdgeOfRun → Edge
edge_back e = record {
  cause = record { process = e.cause; position = e.cause_position };
  effect = record { process = e.effect; position = e.effect_position };
}

same_edges : (es : List Edge) → map edge_back (map edge_of es) ≡ es
unfolding edge_back
same_edges [] = refl
same_edges (e ∷ es) = λ i. e ∷ same_edges es i

text_back : TextOfRun → SliceText
text_back t = record { bounds = t.bounds; edges = map edge_back t.edges }

same_text : (t : SliceText) → text_back (text_seen t) ≡ t
unfolding text_back
same_text t = λ i. record { bounds = t.bounds; edges = same_edges t.edges i }

text_once : (t u : SliceText) → text_seen t ≡ text_seen u → t ≡ u
text_once t u e = sym (same_text t) ∙ ap text_back e ∙ same_text u

-- ---- part by part

one_verdict : {S : Type 0} (a b : Bool) → (a ≡ true) ↔ S → (b ≡ true) ↔ S → a ≡ b
one_verdict true b h k = sym (k.1 (h.0 refl))
one_verdict false true h k = h.1 (k.0 refl)
one_verdict false false h k = refl

one_slice : (shown : Bool) (r : Run) (f : Formula) → IsSublattice r.clocks (Shown r f)
    → (s t : Option SliceText) → IsSliceShown shown r f s → IsSliceShown shown r f t → s ≡ t
one_slice true r f closed (Some s) (Some t) h k =
    ap Some (text_once s t (one_text r.clocks (Shown r f) closed (text_seen s) (text_seen t) h k))
one_slice true r f closed None t h k = absurd h
one_slice true r f closed (Some s) None h k = absurd k
one_slice false r f closed s t h k = h ∙ sym k

one_for : (r : Run) → IsRun r → (i j : ℕ) (f : Formula) → IsRegularIn r f → (w v : WitnessText)
    → IsTextFor r i j f w → IsTextFor r i j f v → w ≡ v
one_for r run i j f regular w v h k =
    let number = h.disjunct ∙ sym k.disjunct in
    let part = h.part ∙ sym k.part in
    let seen = witness_one r run f regular (witness_of w.witness) (witness_of v.witness) h.witness k.witness in
    let same = seen_once w.witness v.witness seen in
    λ x. record { disjunct = number x; part = part x; witness = same x }

one_of_parts : (r : Run) → IsRun r → (i j : ℕ) (fs : List Formula) → AreRegular fs → PartsKeptFor r fs
    → (ws vs : List WitnessText) → ArePartTexts r i j fs ws → ArePartTexts r i j fs vs → ws ≡ vs
one_of_parts r run i j [] regular kept [] [] h k = refl
one_of_parts r run i j [] regular kept [] (v ∷ vs) h k = absurd k
one_of_parts r run i j [] regular kept (w ∷ ws) vs h k = absurd h
one_of_parts r run i j (f ∷ fs) regular kept [] vs h k = absurd h
one_of_parts r run i j (f ∷ fs) regular kept (w ∷ ws) [] h k = absurd k
one_of_parts r run i j (f ∷ fs) regular kept (w ∷ ws) (v ∷ vs) h k =
    let first = one_for r run i j f (record { form = regular.0; kept = kept.0 }) w v h.0 k.0 in
    let rest = one_of_parts r run i (j + 1) fs regular.1 kept.1 ws vs h.1 k.1 in
    λ x. first x ∷ rest x

one_of_true : (r : Run) → IsRun r → (i : ℕ) (ds : List (List Formula)) → HaveRegularParts ds → DisjunctsKeptFor r ds
    → (ws vs : List WitnessText) → AreTextsOfTrue r i ds ws → AreTextsOfTrue r i ds vs → ws ≡ vs
one_of_true r run i [] regular kept ws vs h k = absurd h
one_of_true r run i (d ∷ ds) regular kept ws vs (inl h) (inl k) = one_of_parts r run i 1 d regular.0 kept.0 ws vs h.1 k.1
one_of_true r run i (d ∷ ds) regular kept ws vs (inl h) (inr k) = absurd (k.0 h.0)
one_of_true r run i (d ∷ ds) regular kept ws vs (inr h) (inl k) = absurd (h.0 k.0)
one_of_true r run i (d ∷ ds) regular kept ws vs (inr h) (inr k) = one_of_true r run (i + 1) ds regular.1 kept.1 ws vs h.1 k.1

one_of_false : (r : Run) → IsRun r → (i j : ℕ) (fs : List Formula) → AreRegular fs → PartsKeptFor r fs
    → (w v : WitnessText) → IsTextOfFalse r i j fs w → IsTextOfFalse r i j fs v → w ≡ v
one_of_false r run i j [] regular kept w v h k = absurd h
one_of_false r run i j (f ∷ fs) regular kept w v (inl h) (inl k) = one_for r run i j f (record { form = regular.0; kept = kept.0 }) w v h.1 k.1
one_of_false r run i j (f ∷ fs) regular kept w v (inl h) (inr k) = absurd (h.0 k.0)
one_of_false r run i j (f ∷ fs) regular kept w v (inr h) (inl k) = absurd (k.0 h.0)
one_of_false r run i j (f ∷ fs) regular kept w v (inr h) (inr k) = one_of_false r run i (j + 1) fs regular.1 kept.1 w v h.1 k.1

all_of_false : (r : Run) → IsRun r → (i : ℕ) (ds : List (List Formula)) → HaveRegularParts ds → DisjunctsKeptFor r ds
    → (ws vs : List WitnessText) → AreTextsOfFalse r i ds ws → AreTextsOfFalse r i ds vs → ws ≡ vs
all_of_false r run i [] regular kept [] [] h k = refl
all_of_false r run i [] regular kept [] (v ∷ vs) h k = absurd k
all_of_false r run i [] regular kept (w ∷ ws) vs h k = absurd h
all_of_false r run i (d ∷ ds) regular kept [] vs h k = absurd h
all_of_false r run i (d ∷ ds) regular kept (w ∷ ws) [] h k = absurd k
all_of_false r run i (d ∷ ds) regular kept (w ∷ ws) (v ∷ vs) h k =
    let first = one_of_false r run i 1 d regular.0 kept.0 w v h.0 k.0 in
    let rest = all_of_false r run (i + 1) ds regular.1 kept.1 ws vs h.1 k.1 in
    λ x. first x ∷ rest x

one_list : (r : Run) → IsRun r → (f : Formula) → IsOfClass f → IsKeptFor r f → (a b : Bool) → a ≡ b
    → (ws vs : List WitnessText) → AreWitnesses r f a ws → AreWitnesses r f b vs → ws ≡ vs
one_list r run f class kept true true e ws vs h k = one_of_true r run 1 (disjuncts true f) (disjuncts_regular f true class) (disjuncts_kept r f true kept) ws vs h k
one_list r run f class kept false false e ws vs h k = all_of_false r run 1 (disjuncts true f) (disjuncts_regular f true class) (disjuncts_kept r f true kept) ws vs h k
one_list r run f class kept true false e ws vs h k = absurd cc
one_list r run f class kept false true e ws vs h k = absurd cc

-- ---- the whole report

-- witnesses where they are asked for, and none where they aren't
one_choice : (asked : Bool) (r : Run) → IsRun r → (f : Formula) → IsOfClass f → IsKeptFor r f → (a b : Bool) → a ≡ b
    → (ws vs : List WitnessText) → (asked ≡ true → AreWitnesses r f a ws) → (asked ≡ true → AreWitnesses r f b vs)
    → (asked ≡ false → ws ≡ []) → (asked ≡ false → vs ≡ []) → ws ≡ vs
one_choice true r run f class kept a b e ws vs h k m n = one_list r run f class kept a b e ws vs (h refl) (k refl)
one_choice false r run f class kept a b e ws vs h k m n = m refl ∙ sym (n refl)

pub one_report : (q : Asked) (h : Header) (batches : List (List Event)) (watches : Watches)
    → IsOfClass q.formula → IsOrder (clocks_of (trace_so_far h batches)) → IsKeptFor (run_of (trace_so_far h batches) watches) q.formula
    → (a b : Report) → IsReportOf q h batches watches a → IsReportOf q h batches watches b → a ≡ b
one_report q h batches watches class order kept a b s t =
    let r = run_of (trace_so_far h batches) watches in
    let run : IsRun r = run_of_order (trace_so_far h batches) watches order in
    let number = s.says.number ∙ sym t.says.number in
    let names = s.names ∙ sym t.names in
    let lengths = s.says.lengths_are ∙ sym t.says.lengths_are in
    let formula = s.says.formula ∙ sym t.says.formula in
    let verdict = one_verdict a.verdict b.verdict s.says.verdict t.says.verdict in
    let slice = one_slice q.slice r q.formula (shown_closed r run q.formula kept) a.slice b.slice s.says.slice t.says.slice in
    let witnesses = one_choice q.witness r run q.formula class kept a.verdict b.verdict verdict a.witnesses b.witnesses s.says.witnesses t.says.witnesses s.says.unasked t.says.unasked in
    λ i. record {
      batch = number i;
      procs = names i;
      lengths = lengths i;
      formula = formula i;
      verdict = verdict i;
      slice = slice i;
      witnesses = witnesses i;
    }

-- ---- the summary of a bench

pub one_summary : (sizes : Sizes) (q : Asked) (h : Header) (batches : List (List Event)) (watches : Watches)
    → IsOfClass q.formula → IsOrder (clocks_of (trace_so_far h batches)) → IsKeptFor (run_of (trace_so_far h batches) watches) q.formula
    → (t u : List ℕ) → IsSummaryOf sizes q h batches watches t → IsSummaryOf sizes q h batches watches u → t ≡ u
one_summary sizes q h batches watches class order kept t u s k =
    let same = one_report (benched q) h batches watches class order kept s.report k.report s.says k.says in
    s.text_is ∙ ap (summary_text sizes) same ∙ sym k.text_is
