-- What the code makes of a local part, and that the names stay the same from part to part.
use Rattle.std.proofs.Common.{◌≡◌, ℕ, ℤ, zero, suc, ◌<◌, List, [], ◌∷◌, map, length, get_or, None, Some, sym, ap, refl, ◌∙◌, arith}
use Rattle.log_lines.specs.Names.{place_of}
use Rattle.event_log.specs.declared.log.Binding.{Binding}
use Rattle.rctl_grammar.specs.declared.tree.Place.{Place}
use Rattle.rctl_parts.specs.Exprs as expr
use Rattle.rctl_parts.specs.Pieces as piece
use Rattle.rctl_parts.specs.Spelled.{Names}
use Rattle.rctl_parts.specs.declared.part.Part.TheVariants as part
use Rattle.rctl_parts.proofs.Folds.{piece-DiffAtMost, piece-DiffAtLeast}
use Rattle.rctl_class.specs.NamedParts as named
use Rattle.rctl_names.specs.declared.scope.Scope.{Scope}
use Rattle.rctl_names.specs.declared.watches.Watches.{Watches}
use Rattle.rctl_names.specs.Numbers.{number, or_zero, variables_of, variables_at}
use Rattle.rctl_names.specs.inside.Numbers.{Watched, local_names, local_fault, local_after}
use Rattle.rctl_names.specs.inside.Numbers.{counter_fault, difference_fault, operand_after}
use Rattle.rctl_names.specs.inside.Numbers.{disjuncts_after}
use Rattle.rctl_names.specs.Seen.{variables_in}
use Rattle.rctl_names.specs.inside.Seen.{processes_in, watched_in, names_in}
use Rattle.rctl_names.specs.Resolving.{expr_in, process_in, variable_in, piece_in, pieces_in}
use Rattle.rctl_names.specs.inside.Resolving.{IsPieceIn}
use Rattle.rctl_names.proofs.Joined.{operand_names, disjuncts_names}

get_mapped : (vs : List (List Binding)) (n : ℕ) → get_or (map variables_in vs) n [] ≡ variables_in (get_or vs n [])
get_mapped [] n = refl
get_mapped (v ∷ vs) zero = refl
get_mapped (v ∷ vs) (suc n) = get_mapped vs n

pub got : (vs : List (List Binding)) (n : ℕ) (v : List Binding) → n < length vs → get_or vs n v ≡ get_or vs n []
got [] n v lt = absurd (omega arith)
got (u ∷ vs) zero v lt = refl
got (u ∷ vs) (suc n) v lt = got vs n v (omega arith)

-- the variables of a process that was found
pub variables_found : (scope : Scope) (w : Watches) (place : Place) (n : ℕ) → place_of (processes_in scope) place.name ≡ Some n →
    variables_of (names_in scope w) place.name ≡ variables_in (get_or scope.variables.now n [])
variables_found scope w place n found = ap (variables_at (map variables_in scope.variables.now)) found ∙ get_mapped scope.variables.now n

pub over_made : (scope : Scope) (before after : Watches) (place : Place) (n : ℕ) (vs : List Binding) (e : named.Expr) (made : expr.Expr) {p : piece.Piece} →
    place_of (processes_in scope) place.name ≡ Some n → vs ≡ get_or scope.variables.now n [] → p ≡ piece.atom (piece.local (Some n) made) →
    local_fault (variables_in vs) n (watched_in before) (local_names e) ≡ None → watched_in after ≡ local_after n (watched_in before) (local_names e) →
    made ≡ expr_in (variables_in vs) before.names.now e → IsPieceIn scope before after (named.local (Some place) e) p
over_made scope before after place n vs e made found variables is free put spelled =
    let here : variables_in vs ≡ variables_of (names_in scope before) place.name = ap variables_in variables ∙ sym (variables_found scope before place n found) in
    let numbered : n ≡ number (processes_in scope) place.name = sym (ap or_zero found) in (
      rw (found) (ap (λ v. local_fault v n (watched_in before) (local_names e)) (sym (ap variables_in variables ∙ sym (get_mapped scope.variables.now n))) ∙ free),
      put ∙ ap (λ k. local_after k (watched_in before) (local_names e)) numbered,
      is ∙ ap (λ k. piece.atom (piece.local (Some k) made)) numbered
          ∙ ap (λ m. piece.atom (piece.local (Some (number (processes_in scope) place.name)) m)) (spelled ∙ ap (λ v. expr_in v before.names.now e) here),
    )

names_with : (scope : Scope) (before after : Watches) → after.names.now ≡ before.names.now → names_in scope after ≡ names_in scope before
names_with scope before after e = ap (λ ws. record { processes = scope.processes.now; variables = map variables_in scope.variables.now; watches = ws }) e

pub same_names : (scope : Scope) (before after : Watches) (ps : named.Pieces) → watched_in after ≡ operand_after (names_in scope before) (watched_in before) ps → names_in scope after ≡ names_in scope before
same_names scope before after ps put = names_with scope before after (ap (λ (w : Watched). w.names) put ∙ operand_names (names_in scope before) (watched_in before) ps)

pub still_same_names : (scope : Scope) (before after : Watches) (ds : List (List named.NamedPiece)) → watched_in after ≡ disjuncts_after (names_in scope before) (watched_in before) ds → names_in scope after ≡ names_in scope before
still_same_names scope before after ds put = names_with scope before after (ap (λ (w : Watched). w.names) put ∙ disjuncts_names (names_in scope before) (watched_in before) ds)

listed_back : (ps : List piece.Piece) → piece.listed (piece.pieces ps) ≡ ps
listed_back [] = refl
listed_back (p ∷ ps) = ap (λ l. p ∷ l) (listed_back ps)

listed_of : (names : Names) (ps : List named.NamedPiece) → piece.listed (pieces_in names (named.pieces ps)) ≡ map (piece_in names) ps
listed_of names [] = refl
listed_of names (p ∷ ps) = ap (λ l. piece_in names p ∷ l) (listed_of names ps)

-- the parts of a disjunct, in a list
pub listed_in : (others names : Names) (xs : List named.NamedPiece) (made : List piece.Piece) → others ≡ names → piece.pieces made ≡ pieces_in others (named.pieces xs) → made ≡ map (piece_in names) xs
listed_in others names xs made same is =
    sym (listed_back made) ∙ ap piece.listed (is ∙ ap (λ n. pieces_in n (named.pieces xs)) same) ∙ listed_of names xs

-- ---- differences

module _ (names : Names) (p x q y : Place) {i v j w : ℕ} {k made : ℤ} (left : counter_fault names p x ≡ None) (is_p : i ≡ process_in names p) (is_x : v ≡ variable_in names p x)
    (right : counter_fault names q y ≡ None) (is_q : j ≡ process_in names q) (is_y : w ≡ variable_in names q y) (is_k : made ≡ k) where
  difference_free : difference_fault names p x q y ≡ None
  difference_free = rw (left, right) refl

  pub at_most_made : (difference_fault names p x q y ≡ None) × (piece.piece_of (part.DiffAtMost i v j w made) ≡ piece_in names (named.diff_at_most p x q y k))
  at_most_made = (difference_free, piece-DiffAtMost i v j w made ∙ rw (is_p, is_x, is_q, is_y, is_k) refl)

  pub at_least_made : (difference_fault names p x q y ≡ None) × (piece.piece_of (part.DiffAtLeast i v j w made) ≡ piece_in names (named.diff_at_least p x q y k))
  at_least_made = (difference_free, piece-DiffAtLeast i v j w made ∙ rw (is_p, is_x, is_q, is_y, is_k) refl)
