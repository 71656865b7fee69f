-- What resolving gives of a whole formula.
use Rattle.std.proofs.Common.{◌≡◌, ℕ, List, [], ◌∷◌, map, length, get_or, replicate, Option, None, Some, sym, ap, refl, ◌∙◌, arith, subst}
use Rattle.std.proofs.lemmas.List.{length-map}
use Rattle.run_model.specs.Run.{Name}
use Rattle.event_log.specs.declared.log.Binding.{Binding}
use Rattle.event_log.specs.declared.log.Header.{Header}
use Rattle.rctl_grammar.specs.declared.fault.FormulaFault.{FormulaFault}
use Rattle.rctl_parts.specs.Pieces as piece
use Rattle.rctl_parts.specs.Spelled.{Names, part_formulas}
use Rattle.rctl_parts.specs.MadeFor as made
use Rattle.rctl_parts.specs.MadeFor.{AreMadeFor, AllFit, disjuncts_name_watch}
use Rattle.rctl_parts.specs.declared.part.Resolved.{Resolved}
use Rattle.rctl_class.specs.Uses.{first_unknown}
use Rattle.rctl_class.specs.NamedParts as named
use Rattle.rctl_class.specs.NamedParts.{AreDisjuncts, disjuncts_uses}
use Rattle.rctl_names.specs.Numbers.{known_in}
use Rattle.rctl_names.specs.inside.Numbers.{Watched, disjuncts_fault, disjuncts_after}
use Rattle.rctl_names.specs.Seen.{variables_in, names_of}
use Rattle.rctl_names.specs.Resolving.{piece_in, CanResolve, scope_of, IsResolved}
use Rattle.rctl_names.proofs.Spells.{disjuncts_spelled}
use Rattle.rctl_names.proofs.Tracks.{unset, opened, same_faults, none_replicated, length_replicated}
use Rattle.rctl_names.proofs.Fits.{scope_for, IsSized, disjuncts_fit, disjuncts_keep, disjuncts_others, disjuncts_counted, keeps_itself}

-- ---- what the code starts from

abbrev pub names_from : List Name → List (List Binding) → List Name → Names
names_from procs vars ws = record { processes = procs; variables = map variables_in vars; watches = ws }

abbrev pub watched_from : List Name → List (Option ℕ) → Watched
watched_from ws on = record { names = ws; on = on }

-- the disjuncts have no fault, and are these with numbers
abbrev pub Outcome : Names → Watched → List (List named.NamedPiece) → Watched → List (List piece.Piece) → Type 0
Outcome names s ds t made = (disjuncts_fault names s ds ≡ None) × (t ≡ disjuncts_after names s ds) × (made ≡ map (map (piece_in names)) ds)

module _ (header : Header) (watches : List Name) (procs : List Name) (vars : List (List Binding)) (ws : List Name) (on : List (Option ℕ))
    (is_procs : procs ≡ header.procs) (is_vars : vars ≡ header.vars) (is_watches : ws ≡ watches) (is_on : on ≡ replicate (length watches) unset) where
  same_names : names_from procs vars ws ≡ names_of header watches
  same_names = ap (λ p. names_from p vars ws) is_procs ∙ ap (λ v. names_from header.procs v ws) is_vars ∙ ap (names_from header.procs header.vars) is_watches

  same_start : watched_from ws on ≡ opened (names_of header watches)
  same_start = ap (λ w. watched_from w on) is_watches ∙ ap (watched_from watches) is_on

  pub whole_fault : (others ds : List (List named.NamedPiece)) (f : FormulaFault) → others ≡ ds → named.AllFit ds → disjuncts_fault (names_from procs vars ws) (watched_from ws on) others ≡ Some f →
      first_unknown (known_in (names_of header watches)) [] (disjuncts_uses ds) ≡ Some f
  whole_fault others ds f e fits bad =
      sym (same_faults (names_of header watches) ds fits)
      ∙ ap (λ n. disjuncts_fault n (opened (names_of header watches)) ds) (sym same_names) ∙ ap (λ s. disjuncts_fault (names_from procs vars ws) s ds) (sym same_start)
      ∙ ap (disjuncts_fault (names_from procs vars ws) (watched_from ws on)) (sym e) ∙ bad

  pub whole_outcome : (others ds : List (List named.NamedPiece)) (t : Watched) (made : List (List piece.Piece)) → others ≡ ds → Outcome (names_from procs vars ws) (watched_from ws on) others t made →
      Outcome (names_of header watches) (opened (names_of header watches)) ds t made
  whole_outcome others ds t made e h =
      let P : Names → Type 0 = λ n. Outcome n (opened (names_of header watches)) ds t made in
      let Q : Watched → Type 0 = λ s. Outcome (names_from procs vars ws) s ds t made in
      let R : List (List named.NamedPiece) → Type 0 = λ l. Outcome (names_from procs vars ws) (watched_from ws on) l t made in
      subst P same_names (subst Q same_start (subst R e h))

-- ---- the whole

lengths_in : (vs : List (List Binding)) → map (λ (v : List Name). length v) (map variables_in vs) ≡ map (λ (bs : List Binding). length bs) vs
lengths_in [] = refl
lengths_in (v ∷ vs) = ap (λ n. n ∷ map (λ (w : List Name). length w) (map variables_in vs)) (length-map v (λ (b : Binding). b.name)) ∙ ap (λ l. length v ∷ l) (lengths_in vs)

pub whole_resolved : (header : Header) (watches : List Name) (ds : List (List named.NamedPiece)) (resolved : Resolved) (t : Watched) → CanResolve header watches → AreDisjuncts ds →
    t.on ≡ resolved.watch_process → Outcome (names_of header watches) (opened (names_of header watches)) ds t (piece.disjuncts_of resolved.disjuncts) → IsResolved header watches ds resolved
whole_resolved header watches ds resolved t can are on h =
    let names = names_of header watches in
    let start = opened names in
    let final = disjuncts_after names start ds in
    let end : resolved.watch_process ≡ final.on = sym on ∙ ap (λ (s : Watched). s.on) h.1 in
    let sized : IsSized names start = record { paired = length-map header.vars variables_in ∙ can.fits.vars; same = refl; sized = length_replicated (length watches) } in
    let keeps = disjuncts_keep names start ds h.0 in
    let scope : scope_for names final ≡ scope_of header resolved.watch_process =
    ap (λ v. record { variables = v; watch_process = final.on }) (lengths_in header.vars) ∙ ap (λ o. record { variables = map (λ (bs : List Binding). length bs) header.vars; watch_process = o }) (sym end) in
    let P : made.Scope → Type 0 = λ s. AllFit s (map (map (piece_in names)) ds) in
    let here : AreMadeFor (scope_of header resolved.watch_process) (map (map (piece_in names)) ds) = record {
      fit = subst P scope (disjuncts_fit names start final ds sized are.fit h.0 (keeps_itself final));
      some = omega (arith, are.some, length-map ds (map (piece_in names)));
      few = omega (arith, are.few, length-map ds (map (piece_in names)));
      parts = omega (arith, are.parts, disjuncts_counted names ds);
      unnamed = λ w other. ap (λ o. get_or o w None) end ∙ disjuncts_others names w start ds refl other ∙ none_replicated (length watches) w;
    } in
    let Q : List (List piece.Piece) → Type 0 = λ l. AreMadeFor (scope_of header resolved.watch_process) l in
    record {
      free = sym (same_faults names ds are.fit) ∙ h.0;
      spelled = ap (part_formulas names) h.2 ∙ disjuncts_spelled names start ds refl are.fit h.0;
      numbered = h.2;
      made_for = subst Q (sym h.2) here;
      paired = ap length end ∙ keeps.sized ∙ length_replicated (length watches);
    }
