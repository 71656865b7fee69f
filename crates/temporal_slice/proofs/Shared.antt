-- Events that share their row with another.
use Rattle.std.proofs.Common.{◌≡◌, ℕ, zero, suc, ◌+◌, ◌<◌, ◌≤◌, ◌↔◌, ◌⊎◌, List, length, get_or, sum, Option, Some, None, refl, sym, ap, ◌∙◌, subst, arith, inl, inr, le_refl, le_trans}
use Rattle.std.proofs.lemmas.Bool.{cases_lt, cases_eq}
use Rattle.std.proofs.lemmas.Option.{same_Some}
use Rattle.pota_base.specs.Shape.{HasEvent, row_of}
use Rattle.pota_base.specs.declared.shape.EventId.{EventId}
use Rattle.run_model.specs.Cut.{Cut, Clocks, count, IsWithin, max_cut, lengths}
use Rattle.run_model.specs.Consistent.{IsOrder, IsConsistent, IsEvent}
use Rattle.run_model.specs.Sublattice.{IsLeast, Having}
use Rattle.run_model.specs.Slice.{Slice, HasWithin, IsLeastOf, Cuts, StandsFor}
use Rattle.run_model.specs.Operators.{HasPairs}
use Rattle.run_model.proofs.Counts.{count-max, count_past, within_both, within_trans, max_right, max_within, length-lengths}
use Rattle.run_model.proofs.Orders.{has_process, event_up}
use Rattle.run_model.proofs.SliceLemmas.{least_of_member, least_within, cuts_closed}
use Rattle.slice_graph.specs.Views.{SliceView, slice_of, last_row}
use Rattle.slice_graph.specs.Words.{filled, row_words}
use Rattle.slice_graph.specs.Fitting.{FitsOrder}
use Rattle.slice_graph.proofs.Events.{rows_apart, row_there}
use Rattle.temporal_slice.specs.inside.Operands.{IsInRow, Shares}
use Rattle.temporal_slice.proofs.Rows.{event_in, row_of_last}

-- the row of an event, where the slice has the final cut: it is the least cut with the event
pub record TheRow (o : Clocks) (v : SliceView) (i a : ℕ) : Type 0 where
  pub row : Cut
  pub is : (slice_of v).row i a ≡ Some row
  pub words : row_words v i a ≡ row
  pub member : Cuts o (slice_of v) row
  pub has : a ≤ count row i
  pub least : (c : Cut) → Cuts o (slice_of v) c → a ≤ count c i → IsWithin row c

pub the_row : (o : Clocks) (v : SliceView) → FitsOrder o v → Cuts o (slice_of v) (lengths o) → (i a : ℕ) → IsEvent (lengths o) i a → TheRow o v i a
the_row o v fits last i a ev =
    let r = least_of_member (Having (Cuts o (slice_of v)) i a) ((slice_of v).row i a) (lengths o) (fits.stands.rows i a ev) (last, ev.1) in
    record {
      row = r.0;
      is = r.1;
      words = ap (filled v.lens) (row_of_last (slice_of v) i a ev.0 ∙ r.1);
      member = r.2.member.0;
      has = r.2.member.1;
      least = λ c cut le. r.2.least c (cut, le);
    }

-- events of a cut of the slice are events
in_cut : (o : Clocks) (v : SliceView) (c : Cut) (i a : ℕ) → Cuts o (slice_of v) c → 0 < a → a ≤ count c i → IsEvent (lengths o) i a
in_cut o v c i a cut pos le = (pos, le_trans le (cut.consistent.within i))

-- an event that shares its row is in each cut of the slice that has all such events
pub shares_pair : (o : Clocks) (v : SliceView) → FitsOrder o v → Cuts o (slice_of v) (lengths o) → (i a : ℕ) → IsEvent (lengths o) i a → Shares v i a
    → (c : Cut) → HasPairs o (slice_of v) c → a ≤ count c i
shares_pair o v fits last i a ev shares c pairs =
    let j = the_row o v fits last i a ev in
    let k = shares.process in
    let b = count (row_words v i a) k in
    let le : b ≤ count j.row k = omega (arith, ap (λ (w : List ℕ). count w k) j.words) in
    let other : IsEvent (lengths o) k b = in_cut o v j.row k b j.member shares.some le in
    let m = the_row o v fits last k b other in
    let back : a ≤ count m.row i = subst (λ (w : List ℕ). a ≤ count w i) m.words shares.back.has in
    let same : j.row ≡ m.row = within_both j.row m.row (j.member.consistent.shaped ∙ sym m.member.consistent.shaped) (j.least m.row m.member back) (m.least j.row j.member le) in
    pairs i a k b ev other (j.is ∙ ap Some same ∙ sym m.is) shares.back.other

-- an event that is the last of its process in its row, and shares that row with an event of another, shares it by the test
shares_other : (o : Clocks) (v : SliceView) → FitsOrder o v → Cuts o (slice_of v) (lengths o) → (i a j b : ℕ) → IsEvent (lengths o) i a → IsEvent (lengths o) j b
    → (slice_of v).row i a ≡ (slice_of v).row j b → ((i ≡ j) × (a ≡ count (row_words v i a) j) → ⊥) → Shares v i a
shares_other o v fits last i a j b ev fv same apart =
    let r = the_row o v fits last i a ev in
    let s = the_row o v fits last j b fv in
    let p = count (row_words v i a) j in
    let one : r.row ≡ s.row = same_Some r.row s.row (sym r.is ∙ same ∙ s.is) in
    let here : b ≤ count (row_words v i a) j = subst (λ (w : List ℕ). b ≤ count w j) (sym (r.words ∙ one)) s.has in
    let le : count (row_words v i a) j ≤ count r.row j = omega (arith, ap (λ (w : List ℕ). count w j) r.words) in
    let ew : IsEvent (lengths o) j (count (row_words v i a) j) = in_cut o v r.row j (count (row_words v i a) j) r.member (omega (arith, here, fv.0)) le in
    let t = the_row o v fits last j (count (row_words v i a) j) ew in
    let up : IsWithin s.row t.row = s.least t.row t.member (le_trans here t.has) in
    record {
      process = j;
      there = omega (arith, has_process (lengths o) j b fv, ap length fits.shape);
      some = omega (arith, here, fv.0);
      back = record {
        other = apart;
        has = subst (λ (w : List ℕ). a ≤ count w i) (sym t.words) (le_trans r.has (le_trans (subst (λ (x : Cut). count r.row i ≤ count x i) one (le_refl (count r.row i))) (up i)));
      };
    }

-- a cut of the slice that has each event that shares its row by the test has all that share it
pub shares_all : (o : Clocks) (v : SliceView) → FitsOrder o v → Cuts o (slice_of v) (lengths o) → (c : Cut) → Cuts o (slice_of v) c
    → ((i a : ℕ) → IsEvent (lengths o) i a → Shares v i a → a ≤ count c i) → HasPairs o (slice_of v) c
shares_all o v fits last c cut each i a j b ev fv same differ = elim (cases_eq i j) [
  | inr apart ↦ each i a ev (shares_other o v fits last i a j b ev fv same (λ e. apart e.0))
  | inl together ↦ elim (cases_eq a (count (row_words v i a) j)) [
    | inr apart ↦ each i a ev (shares_other o v fits last i a j b ev fv same (λ e. apart e.1))
    | inl is_last ↦ earlier together is_last
  ]
]
  where
    -- event a is the last of its process in the row that it shares with the earlier event b of its process
    earlier : i ≡ j → a ≡ count (row_words v i a) j → a ≤ count c i
    earlier together is_last =
        let r = the_row o v fits last i a ev in
        let s = the_row o v fits last j b fv in
        let one : r.row ≡ s.row = same_Some r.row s.row (sym r.is ∙ same ∙ s.is) in
        let top : a ≡ count s.row j = is_last ∙ ap (λ (w : List ℕ). count w j) (r.words ∙ one) in
        let shares = shares_other o v fits last j b i a fv ev (sym same) (λ e.
        differ (together, sym (e.1 ∙ ap (λ (w : List ℕ). count w i) s.words ∙ ap (count s.row) together ∙ sym top))) in
        let has : b ≤ count c j = each j b fv shares in
        let within = s.least c cut has in
        subst (λ (k : ℕ). a ≤ count c k) (sym together) (omega (arith, top, within j))

-- ---- one event after the other

-- a cut of the slice that has each event before row n that shares its row, within each cut of the slice that has all such events
pub record PairsBelow (o : Clocks) (v : SliceView) (n : ℕ) (cut : Cut) : Type 0 where
  pub member : Cuts o (slice_of v) cut
  pub has : (e : EventId) → HasEvent (lengths o) e → row_of (lengths o) e < n → Shares v e.process e.position → e.position ≤ count cut e.process
  pub least : (c : Cut) → Cuts o (slice_of v) c → HasPairs o (slice_of v) c → IsWithin cut c

pub pairs_first : (o : Clocks) (v : SliceView) → FitsOrder o v → Cuts o (slice_of v) (lengths o) → (words cut : List ℕ) → words ≡ row_words v 0 0 → cut ≡ words → PairsBelow o v 1 cut
pairs_first o v fits last words cut are is =
    let b = least_of_member (Cuts o (slice_of v)) (slice_of v).bottom (lengths o) fits.stands.bottom last in
    subst (PairsBelow o v 1) (sym (is ∙ are ∙ ap (filled v.lens) b.1)) (record {
      member = b.2.member;
      has = λ e there lt _. absurd (omega (arith, there.first));
      least = λ c h _. b.2.least c h;
    })

pub pairs_next : (o : Clocks) → IsOrder o → (v : SliceView) → FitsOrder o v → Cuts o (slice_of v) (lengths o) → (n : ℕ) (e : EventId) (old new : Cut) → PairsBelow o v n old
    → HasEvent (lengths o) e → row_of (lengths o) e ≡ n
    → (Shares v e.process e.position × (new ≡ max_cut (row_words v e.process e.position) old)) ⊎ ((Shares v e.process e.position → ⊥) × (new ≡ old)) → PairsBelow o v (n + 1) new
pairs_next o order v fits last n e old new h there at either = elim either [
  | inl joined ↦
      let r = the_row o v fits last e.process e.position (event_in o e there) in
      subst (PairsBelow o v (n + 1)) (sym (joined.1 ∙ ap (λ (w : Cut). max_cut w old) r.words)) (record {
        member = (cuts_closed o order (slice_of v)).has_max r.row old r.member h.member;
        has = λ f known lt shares. elim (cases_lt (row_of (lengths o) f) n) [
          | inl less ↦ le_trans (h.has f known less shares) (max_right r.row old f.process)
          | inr ge ↦ subst (λ (g : EventId). g.position ≤ count (max_cut r.row old) g.process) (rows_apart (lengths o) e f there known (omega (arith, at, lt, ge)))
              (omega (arith, r.has, count-max r.row old e.process))
        ];
        least = λ c cut pairs. max_within r.row old c
            (r.least c cut (shares_pair o v fits last e.process e.position (event_in o e there) joined.0 c pairs)) (h.least c cut pairs);
      })
  | inr alone ↦ subst (PairsBelow o v (n + 1)) (sym alone.1) (record {
    member = h.member;
    has = λ f known lt shares. elim (cases_lt (row_of (lengths o) f) n) [
      | inl less ↦ h.has f known less shares
      | inr ge ↦ absurd (alone.0 (subst (λ (g : EventId). Shares v g.process g.position) (sym (rows_apart (lengths o) e f there known (omega (arith, at, lt, ge)))) shares))
    ];
    least = h.least;
  })
]

pub pairs_all : (o : Clocks) (v : SliceView) → FitsOrder o v → Cuts o (slice_of v) (lengths o) → (n : ℕ) (cut : Cut) → sum (lengths o) < n → PairsBelow o v n cut
    → IsLeast (λ c. Cuts o (slice_of v) c × HasPairs o (slice_of v) c) cut
pairs_all o v fits last n cut all h = record {
  member = (
    h.member,
    shares_all o v fits last cut h.member (λ i a ev shares.
        let e : EventId = record { process = i; position = a } in
        let there : HasEvent (lengths o) e = record { process = omega (arith, has_process (lengths o) i a ev); first = omega (arith, ev.0); last = ev.1 } in
        h.has e there (omega (arith, row_there (lengths o) e there)) shares),
  );
  least = λ c m. h.least c m.0 m.1;
}
