use Rattle.std.proofs.Common.{◌≡◌, ℕ, ◌≤◌, Bool, true, false, List, length, sum, take, Option, None, sym, ◌∙◌, ap, subst, arith}
use Rattle.std.proofs.lemmas.Option.{IfSome_then}
use Rattle.run_model.specs.Cut.{lengths}
use Rattle.pull_system.specs.System.{SystemView}
use Rattle.pull_system.specs.Rows.{RowsView}
use Rattle.raise_machine.specs.Bounds.{AreBounds}
use Rattle.bound_table.specs.Views.{SeatView}
use Rattle.bound_table.specs.Firm.{FirmView, HasReachedFirm}
use Rattle.slice_workers.specs.Calls.{TakesBehind}
use Rattle.conjunctions.specs.inside.Beginning.{GatheredView, FloorFits, AtomsBegin, OthersBegin, AreFirmBy}
use Rattle.conjunctions.specs.inside.Settling.{IsFloorOf}
use Rattle.conjunctions.proofs.Finals.{finals_are, firm_by}
use Rattle.conjunctions.proofs.SettlingOne.{floor_bounds, floor_above, sum_rises, steps_of}
use Rattle.conjunctions.proofs.settling.shared_table.Goals as goal

pub beginning_of-requires-clause-before : goal.beginning_of-requires-clause-before
beginning_of-requires-clause-before g c = subst (λ (lens : List ℕ). IsFloorOf lens c.args.keeps c.args.before) c.requires.begins.lens c.requires.begins.kept.fell

pub beginning_of-requires-clause-gathered : goal.beginning_of-requires-clause-gathered
beginning_of-requires-clause-gathered g c = IfSome_then c.args.floor c.requires.begins.gathered (λ rows may. may.shape ∙ c.requires.begins.lens)

pub beginning_of-requires-clause-system : goal.beginning_of-requires-clause-system
beginning_of-requires-clause-system g c = c.requires.begins.lens

pub beginning_of-requires-clause-order : goal.beginning_of-requires-clause-order
beginning_of-requires-clause-order g c = c.requires.begins.order

pub behind-requires-clause-lens : goal.behind-requires-clause-lens
behind-requires-clause-lens g c = c.in_ok-begins.ensures.lens ∙ sym c.requires.begins.lens

-- the rows to begin from, said of the system's lengths
atoms_at : (lens shape : List ℕ) (system : SystemView) (keeps : Bool) (before : Option RowsView) (words finals : List ℕ) → shape ≡ lens
    → (keeps ≡ true → AtomsBegin shape system.pulls before words finals) → keeps ≡ true → AtomsBegin lens system.pulls before words finals
atoms_at lens shape system keeps before words finals same begins kept = subst (λ (l : List ℕ). AtomsBegin l system.pulls before words finals) same (begins kept)

others_at : (lens shape : List ℕ) (keeps : Bool) (floor : Option RowsView) (words finals : List ℕ) → shape ≡ lens
    → (keeps ≡ false → OthersBegin shape floor words finals) → keeps ≡ false → OthersBegin lens floor words finals
others_at lens shape keeps floor words finals same begins kept = subst (λ (l : List ℕ). OthersBegin l floor words finals) same (begins kept)

pub behind-requires-clause-bounds : goal.behind-requires-clause-bounds
behind-requires-clause-bounds g c =
    let system : SystemView = c.args.system in
    let words : List ℕ = c.in_ok-begins.begins.floor.words in
    let finals : List ℕ = c.in_ok-begins.begins.finals in
    let gathered : GatheredView = record { order = c.args.order.now; pulls = system.pulls; floor = c.args.floor; alone = false; slice = None } in
    let fits : FloorFits system.lens gathered = record { begins = c.requires.begins.gathered; own = λ is. absurd (cc) } in
    let same = sym c.requires.begins.lens in
    floor_bounds system.lens gathered c.args.keeps c.args.before words finals c.requires.begins.kept fits
    (atoms_at system.lens (lengths c.args.order.now) system c.args.keeps c.args.before words finals same c.in_ok-begins.ensures.atoms)
    (others_at system.lens (lengths c.args.order.now) c.args.keeps c.args.floor words finals same c.in_ok-begins.ensures.others)

pub behind-requires-clause-firm : goal.behind-requires-clause-firm
behind-requires-clause-firm g c =
    let system : SystemView = c.args.system in
    let words : List ℕ = c.in_ok-begins.begins.floor.words in
    let finals : List ℕ = c.in_ok-begins.begins.finals in
    let bottom : Bool = c.in_ok-begins.begins.bottom in
    let gathered : GatheredView = record { order = c.args.order.now; pulls = system.pulls; floor = c.args.floor; alone = false; slice = None } in
    let fits : FloorFits system.lens gathered = record { begins = c.requires.begins.gathered; own = λ is. absurd (cc) } in
    let same = sym c.requires.begins.lens in
    let firm_is : c.new-firm.result ≡ record { firsts = take (length system.lens) finals; bottom = bottom } =
    c.new-firm.ensures ∙ ap (λ (l : List ℕ). let f : FirmView = record { firsts = take (length l) finals; bottom = bottom } in f) (c.shape.ensures.lens ∙ same) in
    subst (HasReachedFirm system words) (sym firm_is)
    (finals_are system.lens gathered c.args.keeps c.args.before words finals bottom c.args.steps.now c.beginning_of.new.steps c.shape-shape.ensures.system c.requires.begins.kept fits
    (atoms_at system.lens (lengths c.args.order.now) system c.args.keeps c.args.before words finals same c.in_ok-begins.ensures.atoms)
    (others_at system.lens (lengths c.args.order.now) c.args.keeps c.args.floor words finals same c.in_ok-begins.ensures.others) c.in_ok-begins.ensures.bottom)

pub returns : goal.returns
returns g c =
    let system : SystemView = c.args.system in
    let words : List ℕ = c.in_ok-begins.begins.floor.words in
    let finals : List ℕ = c.in_ok-begins.begins.finals in
    let bottom : Bool = c.in_ok-begins.begins.bottom in
    let gathered : GatheredView = record { order = c.args.order.now; pulls = system.pulls; floor = c.args.floor; alone = false; slice = None } in
    let fits : FloorFits system.lens gathered = record { begins = c.requires.begins.gathered; own = λ is. absurd (cc) } in
    let same = sym c.requires.begins.lens in
    let atoms = atoms_at system.lens (lengths c.args.order.now) system c.args.keeps c.args.before words finals same c.in_ok-begins.ensures.atoms in
    let others = others_at system.lens (lengths c.args.order.now) c.args.keeps c.args.floor words finals same c.in_ok-begins.ensures.others in
    let bounds : AreBounds system words = floor_bounds system.lens gathered c.args.keeps c.args.before words finals c.requires.begins.kept fits atoms others in
    let seat : SeatView = c.in_ok-table.seat in
    let floor_is : seat.floor ≡ words = ap (λ (s : SeatView). s.floor) c.in_ok-table.ensures.seat in
    let firm_is : c.new-firm.result ≡ record { firsts = take (length system.lens) finals; bottom = bottom } =
    c.new-firm.ensures ∙ ap (λ (l : List ℕ). let f : FirmView = record { firsts = take (length l) finals; bottom = bottom } in f) (c.shape.ensures.lens ∙ same) in
    record {
      is = c.shape-shape.ensures.system;
      system_is = c.in_ok-table.ensures.system;
      seat_is = ap (λ (s : SeatView). s.table) c.in_ok-table.ensures.seat;
      firm = subst (λ (f : FirmView). AreFirmBy system c.args.keeps c.args.before f seat.floor) (sym (c.in_ok-table.ensures.firm ∙ firm_is))
          (subst (AreFirmBy system c.args.keeps c.args.before (record { firsts = take (length system.lens) finals; bottom = bottom })) (sym floor_is)
          (firm_by system c.args.keeps c.args.before c.args.floor words finals bottom c.in_ok-begins.ensures.bottom.anew atoms others));
      looks = λ rows new last new_is rises bounds_now takes.
          let took = subst (λ (f : FirmView). TakesBehind system f seat new c.beginning_of.new.steps last) (c.in_ok-table.ensures.firm ∙ firm_is) takes in
          let risen : sum words ≤ sum rows.words = omega (arith, sum_rises seat.floor new.floor rises.each, ap sum floor_is, ap sum new_is) in
          steps_of system c.args.keeps c.args.before words finals bottom seat new rows c.args.steps.now c.beginning_of.new.steps last bounds
          (floor_above system.lens system.pulls c.args.keeps c.args.before words finals bounds atoms) risen floor_is new_is c.in_ok-begins.ensures.bottom took;
    }
