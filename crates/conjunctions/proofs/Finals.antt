-- Which rows are final where a conjunction begins.
use Rattle.std.proofs.Common.{◌≡◌, ℕ, zero, suc, ◌<◌, ◌≤◌, inl, inr, Bool, true, false, List, [], ◌∷◌, length, take, get_or, Option, Some, None, refl, sym, subst, arith}
use Rattle.std.proofs.lemmas.Bool.{cases_lt}
use Rattle.std.proofs.lemmas.List.{get_or-take, get_or_past, length-take-le}
use Rattle.std.proofs.lemmas.Option.{none-some}
use Rattle.pota_base.specs.Limits.{most_processes}
use Rattle.pull_system.specs.declared.pull.Pull.{Pull}
use Rattle.pull_system.specs.System.{SystemView, IsSystem}
use Rattle.pull_system.specs.Rows.{RowsView, row_at}
use Rattle.pull_system.specs.Growth.{DidNotFall, grown_words}
use Rattle.pull_system.proofs.Starts.{get_or-row_at}
use Rattle.bound_table.specs.Firm.{AreFinal, HasReachedFirm, ReachesFirst}
use Rattle.bound_table.proofs.Own.{first_none, none_final}
use Rattle.slice_workers.specs.Spent.{spent_of}
use Rattle.conjunctions.specs.inside.Beginning.{GatheredView, FloorFits, AtomsBegin}
use Rattle.conjunctions.specs.inside.Beginning.{AreNone, AreWithin, HaveCuts, OthersBegin}
use Rattle.conjunctions.specs.inside.Beginning.{FindsBottom, AreFirmBy, no_rows}
use Rattle.conjunctions.specs.Settling.{CutsStay, HasCut, MayBeFirm}
use Rattle.conjunctions.specs.inside.Settling.{CanBegin}

-- ---- counts of rows, process by process

-- where no row is known to be final
pub none_within : (lens finals : List ℕ) → AreNone finals → AreWithin lens finals
none_within lens finals none = record { size = none.size; few = λ p. omega (arith, none.none p) }

pub none_cut : (rows : RowsView) (finals : List ℕ) → AreNone finals → HaveCuts rows finals
none_cut rows finals none = record {
  within = none_within rows.lens finals none;
  cut = λ p there some. absurd (omega (arith, some, none.none p));
}

-- ---- final rows

taken : (n : ℕ) (finals : List ℕ) (p : ℕ) → get_or (take n finals) p 0 ≤ get_or finals p 0
taken zero finals p = omega arith
taken (suc n) [] p = omega arith
taken (suc n) (x ∷ finals) zero = omega arith
taken (suc n) (x ∷ finals) (suc p) = taken n finals p

size_of : (system : SystemView) → IsSystem system → (finals : List ℕ) → length finals ≡ most_processes → length (take (length system.lens) finals) ≡ length system.lens
size_of system is finals size = length-take-le (length system.lens) finals (omega (arith, size, is.shape.few))

none_are : (system : SystemView) → IsSystem system → (words finals : List ℕ) → AreNone finals → AreFinal system words (take (length system.lens) finals)
none_are system is words finals none =
    none_final system words (take (length system.lens) finals) (size_of system is finals none.size)
    (λ p. omega (arith, taken (length system.lens) finals p, none.none p))

-- rows of before that have cuts
cuts_are : (system : SystemView) → IsSystem system → (rows : RowsView) (finals : List ℕ) → DidNotFall rows.lens system.lens → CutsStay system rows → HaveCuts rows finals
    → AreFinal system (grown_words system.lens rows) (take (length system.lens) finals)
cuts_are system is rows finals fell stays have = record {
  size = size_of system is finals have.within.size;
  few = λ p. omega (arith, taken (length system.lens) finals p, have.within.few p, fell.each p);
  each = λ p there. subst (λ (n : ℕ). ReachesFirst system p n (grown_words system.lens rows)) (sym (get_or-take (length system.lens) finals p 0 there)) (first p there);
}
  where
    first : (p : ℕ) → p < length system.lens → ReachesFirst system p (get_or finals p 0) (grown_words system.lens rows)
    first p there = elim (cases_lt 0 (get_or finals p 0)) [
      | inl some ↦ stays.each p (get_or finals p 0) there (omega (arith, some)) (have.within.few p) (have.cut p (omega (arith, there, fell.count)) (omega (arith, some)))
      | inr none ↦
          let zeroth : get_or finals p 0 ≡ 0 = omega (arith, none) in
          subst (λ (n : ℕ). ReachesFirst system p n (grown_words system.lens rows)) (sym zeroth) (first_none system p (grown_words system.lens rows))
    ]

atoms_are : (lens : List ℕ) (pulls : List Pull) → IsSystem (record { lens = lens; pulls = pulls }) → (before : Option RowsView) (words finals : List ℕ) → CanBegin (record { lens = lens; pulls = pulls }) true before
    → AtomsBegin lens pulls before words finals → AreFinal (record { lens = lens; pulls = pulls }) words (take (length lens) finals)
atoms_are lens pulls is None words finals can begins = none_are (record { lens = lens; pulls = pulls }) is words finals begins.firsts
atoms_are lens pulls is (Some rows) words finals can begins =
    subst (λ (w : List ℕ). AreFinal (record { lens = lens; pulls = pulls }) w (take (length lens) finals)) (sym begins.rows)
    (cuts_are (record { lens = lens; pulls = pulls }) is rows finals (can.fell.fell rows refl refl) (can.stays rows refl refl) begins.firsts)

first_are : (lens : List ℕ) (gathered : GatheredView) (keeps : Bool) (before : Option RowsView) (words finals : List ℕ) → IsSystem (record { lens = lens; pulls = gathered.pulls })
    → CanBegin (record { lens = lens; pulls = gathered.pulls }) keeps before → FloorFits lens gathered → (keeps ≡ true → AtomsBegin lens gathered.pulls before words finals)
    → (keeps ≡ false → OthersBegin lens gathered.floor words finals) → AreFinal (record { lens = lens; pulls = gathered.pulls }) words (take (length lens) finals)
first_are lens gathered true before words finals is can fits atoms others = atoms_are lens gathered.pulls is before words finals can (atoms refl)
first_are lens gathered false before words finals is can fits atoms others = none_are (record { lens = lens; pulls = gathered.pulls }) is words finals (others refl).firsts

-- the rows that are taken as final where a conjunction begins are
pub finals_are : (lens : List ℕ) (gathered : GatheredView) (keeps : Bool) (before : Option RowsView) (words finals : List ℕ) (bottom : Bool) (steps steps_now : ℕ) → IsSystem (record { lens = lens; pulls = gathered.pulls })
    → CanBegin (record { lens = lens; pulls = gathered.pulls }) keeps before → FloorFits lens gathered → (keeps ≡ true → AtomsBegin lens gathered.pulls before words finals)
    → (keeps ≡ false → OthersBegin lens gathered.floor words finals) → FindsBottom (record { lens = lens; pulls = gathered.pulls }) keeps before bottom words (spent_of steps steps_now)
    → HasReachedFirm (record { lens = lens; pulls = gathered.pulls }) words (record { firsts = take (length lens) finals; bottom = bottom })
finals_are lens gathered keeps before words finals bottom steps steps_now is can fits atoms others finds = record {
  firsts = first_are lens gathered keeps before words finals is can fits atoms others;
  bottom = λ final. record {
    vector = row_at lens words 0;
    is = finds.least final;
    below = λ i there. omega (arith, get_or-row_at lens words 0 i there);
  };
}

-- of those that are taken, so many as there were, or none
taken_is : (n : ℕ) (finals : List ℕ) (p : ℕ) → 1 ≤ get_or (take n finals) p 0 → get_or (take n finals) p 0 ≡ get_or finals p 0
taken_is zero finals p some = absurd (omega (arith, some))
taken_is (suc n) [] p some = refl
taken_is (suc n) (x ∷ finals) zero some = refl
taken_is (suc n) (x ∷ finals) (suc p) some = taken_is n finals p some

-- the last of the first rows has a cut
taken_cut : (rows : RowsView) (n : ℕ) (finals : List ℕ) → HaveCuts rows finals → (p : ℕ) → 1 ≤ get_or (take n finals) p 0 → HasCut rows p (get_or (take n finals) p 0)
taken_cut rows n finals have p some =
    let is = taken_is n finals p some in
    let least : 1 ≤ get_or finals p 0 = omega (arith, is, some) in
    let there : p < length rows.lens = elim (cases_lt p (length rows.lens)) [
      | inl less ↦ less
      | inr past ↦ absurd (omega (arith, least, have.within.few p, get_or_past rows.lens p 0 past))
    ] in
    subst (HasCut rows p) (sym is) (record { there = have.within.few p; cut = have.cut p there least })

-- of a conjunction of atoms they are rows of before that have a cut
atoms_by : (lens : List ℕ) (pulls : List Pull) (before : Option RowsView) (words finals : List ℕ) (bottom : Bool) → (bottom ≡ true → before ≡ None) → AtomsBegin lens pulls before words finals
    → MayBeFirm before (record { firsts = take (length lens) finals; bottom = bottom })
atoms_by lens pulls None words finals bottom anew begins = λ p. omega (arith, taken (length lens) finals p, begins.firsts.none p)
atoms_by lens pulls (Some rows) words finals true anew begins = absurd (none-some rows (sym (anew refl)))
atoms_by lens pulls (Some rows) words finals false anew begins = record { cuts = taken_cut rows (length lens) finals begins.firsts; bottom = refl }

-- and of another there are none
pub firm_by : (system : SystemView) (keeps : Bool) (before floor : Option RowsView) (words finals : List ℕ) (bottom : Bool) → (bottom ≡ true → before ≡ None)
    → (keeps ≡ true → AtomsBegin system.lens system.pulls before words finals) → (keeps ≡ false → OthersBegin system.lens floor words finals)
    → AreFirmBy system keeps before (record { firsts = take (length system.lens) finals; bottom = bottom }) words
firm_by system keeps before floor words finals bottom anew atoms others = record {
  atoms = λ is. atoms_by system.lens system.pulls before words finals bottom anew (atoms is);
  others = λ is. no_rows (λ p. omega (arith, taken (length system.lens) finals p, (others is).firsts.none p));
}
