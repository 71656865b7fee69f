-- How many the asked parts are, what they are made for, and their counters.
use Rattle.std.proofs.Common.{◌≡◌, ℕ, suc, ◌+◌, ◌*◌, ◌≤◌, Bool, true, false, ◌||◌, List, [], ◌∷◌, ◌++◌, length, sym, ap, ◌∙◌, refl, arith}
use Rattle.std.proofs.lemmas.List.{length-map}
use Rattle.run_model.specs.Formula.{Formula}
use Rattle.question_meaning.specs.declared.form.Form.{Form}
use Rattle.question_meaning.specs.declared.form.Form.TheVariants as form
use Rattle.question_meaning.specs.Asking.{members, asked, asked_parts}
use Rattle.pota_base.specs.Limits.{most_parts}
use Rattle.rctl_class.specs.Counters.{counters_of, all_counters, parts_counters, disjuncts_counters}
use Rattle.rctl_parts.specs.Pieces.{Piece, pieces}
use Rattle.rctl_parts.specs.Spelled.{Names, part_formulas}
use Rattle.rctl_parts.specs.MadeFor.{Scope, PiecesFit, EachFits, AllFit, operand_count, parts_count, disjuncts_count, operand_names_watch, parts_name_watch, disjuncts_name_watch, AreMadeFor}
use Rattle.asked_parts.specs.Asked.{asked_pieces, asked_disjuncts, parts_added}
use Rattle.asked_parts.proofs.Spelling.{disjuncts-asked}

-- ---- counters

append-nil : {X : Type 0} → (xs : List X) → xs ++ [] ≡ xs
append-nil [] = refl
append-nil (x ∷ xs) = ap (λ ys. x ∷ ys) (append-nil xs)

all-counters : (fs : List Formula) → all_counters (members fs) ≡ parts_counters fs
all-counters [] = refl
all-counters (f ∷ fs) = ap (λ cs. counters_of f ++ cs) (all-counters fs)

under-counters : (fs : List Formula) → all_counters (members fs) ++ [] ≡ parts_counters fs
under-counters fs = append-nil (all_counters (members fs)) ∙ all-counters fs

asked-counters : (form : Form) (fs : List Formula) → parts_counters (asked_parts form fs) ≡ parts_counters fs
asked-counters form.Never fs = under-counters fs
asked-counters form.Can fs = under-counters fs
asked-counters form.Always fs = under-counters fs
asked-counters form.AlwaysByNegation fs = under-counters fs
asked-counters form.Surely fs = under-counters fs
asked-counters form.AtEnd fs = append-nil (all_counters (members fs) ++ []) ∙ under-counters fs
asked-counters form.Plain fs = refl

all-asked-counters : (form : Form) (ds : List (List Formula)) → disjuncts_counters (asked form ds) ≡ disjuncts_counters ds
all-asked-counters form [] = refl
all-asked-counters form (d ∷ ds) = rw (asked-counters form d, all-asked-counters form ds) refl

pub same-counters : (names : Names) (form : Form) (ds : List (List Piece)) → disjuncts_counters (part_formulas names (asked_disjuncts form ds)) ≡ disjuncts_counters (part_formulas names ds)
same-counters names form ds = ap disjuncts_counters (disjuncts-asked names form ds) ∙ all-asked-counters form (part_formulas names ds)

-- ---- how many

operand-count : (ps : List Piece) → operand_count (pieces ps) ≡ parts_count ps
operand-count [] = refl
operand-count (p ∷ ps) = omega (arith, operand-count ps)

pub asked-count : (form : Form) (ps : List Piece) → parts_count (asked_pieces form ps) ≡ parts_count ps + parts_added form
asked-count form.Never ps = omega (arith, operand-count ps)
asked-count form.Can ps = omega (arith, operand-count ps)
asked-count form.Always ps = omega (arith, operand-count ps)
asked-count form.AlwaysByNegation ps = omega (arith, operand-count ps)
asked-count form.Surely ps = omega (arith, operand-count ps)
asked-count form.AtEnd ps = omega (arith, operand-count ps)
asked-count form.Plain ps = omega arith

-- what one disjunct more adds
one_more : (form : Form) (k : ℕ) → parts_added form * suc k ≡ parts_added form * k + parts_added form
one_more form.Never k = omega arith
one_more form.Can k = omega arith
one_more form.Always k = omega arith
one_more form.AlwaysByNegation k = omega arith
one_more form.Surely k = omega arith
one_more form.AtEnd k = omega arith
one_more form.Plain k = omega arith

pub all-asked-count : (form : Form) (ds : List (List Piece)) → disjuncts_count (asked_disjuncts form ds) ≡ disjuncts_count ds + parts_added form * length ds
all-asked-count form.Never [] = omega arith
all-asked-count form.Can [] = omega arith
all-asked-count form.Always [] = omega arith
all-asked-count form.AlwaysByNegation [] = omega arith
all-asked-count form.Surely [] = omega arith
all-asked-count form.AtEnd [] = omega arith
all-asked-count form.Plain [] = omega arith
all-asked-count form (d ∷ ds) =
    let added : parts_added form * length (d ∷ ds) ≡ parts_added form * length ds + parts_added form = one_more form (length ds) in
    omega (arith, asked-count form d, all-asked-count form ds, added)

-- ---- made for the same

operand-fits : (scope : Scope) (ps : List Piece) → EachFits scope ps → PiecesFit scope (pieces ps)
operand-fits scope [] h = h
operand-fits scope (p ∷ ps) h = (h.0, operand-fits scope ps h.1)

pub asked-fits : (scope : Scope) (form : Form) (ps : List Piece) → EachFits scope ps → EachFits scope (asked_pieces form ps)
asked-fits scope form.Never ps h = ((tt, operand-fits scope ps h), tt)
asked-fits scope form.Can ps h = ((tt, operand-fits scope ps h), tt)
asked-fits scope form.Always ps h = ((tt, operand-fits scope ps h), tt)
asked-fits scope form.AlwaysByNegation ps h = ((tt, operand-fits scope ps h), tt)
asked-fits scope form.Surely ps h = ((tt, operand-fits scope ps h), tt)
asked-fits scope form.AtEnd ps h = ((tt, ((tt, operand-fits scope ps h), tt)), tt)
asked-fits scope form.Plain ps h = h

all-asked-fit : (scope : Scope) (form : Form) (ds : List (List Piece)) → AllFit scope ds → AllFit scope (asked_disjuncts form ds)
all-asked-fit scope form [] h = h
all-asked-fit scope form (d ∷ ds) h = (asked-fits scope form d h.0, all-asked-fit scope form ds h.1)

or-false : (b : Bool) → b || false ≡ b
or-false true = refl
or-false false = refl

operand-watch : (w : ℕ) (ps : List Piece) → operand_names_watch w (pieces ps) ≡ parts_name_watch w ps
operand-watch w [] = refl
operand-watch w (p ∷ ps) = rw (operand-watch w ps) refl

under-watch : (w : ℕ) (ps : List Piece) → operand_names_watch w (pieces ps) || false ≡ parts_name_watch w ps
under-watch w ps = or-false (operand_names_watch w (pieces ps)) ∙ operand-watch w ps

pub asked-watch : (w : ℕ) (form : Form) (ps : List Piece) → parts_name_watch w (asked_pieces form ps) ≡ parts_name_watch w ps
asked-watch w form.Never ps = under-watch w ps
asked-watch w form.Can ps = under-watch w ps
asked-watch w form.Always ps = under-watch w ps
asked-watch w form.AlwaysByNegation ps = under-watch w ps
asked-watch w form.Surely ps = under-watch w ps
asked-watch w form.AtEnd ps = or-false (operand_names_watch w (pieces ps) || false) ∙ under-watch w ps
asked-watch w form.Plain ps = refl

all-asked-watch : (w : ℕ) (form : Form) (ds : List (List Piece)) → disjuncts_name_watch w (asked_disjuncts form ds) ≡ disjuncts_name_watch w ds
all-asked-watch w form [] = refl
all-asked-watch w form (d ∷ ds) = rw (asked-watch w form d, all-asked-watch w form ds) refl

pub made_alike : (scope : Scope) (form : Form) (ds : List (List Piece)) → AreMadeFor scope ds → disjuncts_count (asked_disjuncts form ds) ≤ most_parts → AreMadeFor scope (asked_disjuncts form ds)
made_alike scope form ds made fits =
    let as_many = length-map ds (asked_pieces form) in
    record {
      fit = all-asked-fit scope form ds made.fit;
      some = omega (arith, as_many, made.some);
      few = omega (arith, as_many, made.few);
      parts = fits;
      unnamed = λ w h. made.unnamed w (sym (all-asked-watch w form ds) ∙ h);
    }
