-- The tokens of a derivation within the limits are passed without a fault.
use Rattle.std.specs.Prelude.{ℕ, ◌+◌, ◌<◌, ◌≤◌, Bool, true, false, List, [], ◌∷◌, None, Some}
use Rattle.std.proofs.Common.{◌≡◌, refl, sym, ◌∙◌, ap, arith}
use Rattle.std.proofs.lemmas.Bool.{lt-ltb, and_parts}
use Rattle.run_model.specs.Run.{Name}
use Rattle.rctl_grammar.specs.declared.token.Kind.TheVariants as kind
use Rattle.rctl_grammar.specs.declared.token.Word.TheVariants as word
use Rattle.rctl_grammar.specs.declared.token.Token.{Token}
use Rattle.rctl_grammar.specs.declared.token.End.{End}
use Rattle.rctl_grammar.specs.declared.token.End.TheVariants as end
use Rattle.run_model.specs.Formula as model
use Rattle.pota_base.specs.Limits.{deepest, most_nodes}
use Rattle.rctl_grammar.specs.Grammar.{Spelled, number, variable, Leaf, constant, comparison, watch, transit, emptiness, difference, Path, Disjunction, one_conjunction, or, Conjunction, one_unary, and, Unary, leaf, negation, temporal, stepping, group, until, tok, spelled, named, word_of, path_word, text_path, text_leaf, text_disjunction, text_conjunction, text_unary, IsFormula, levels_disjunction, levels_conjunction, levels_unary, nodes_disjunction, nodes_conjunction, nodes_unary, bar_nodes, amp_nodes, leaf_in_range, disjunction_in_range, conjunction_in_range, unary_in_range}
use Rattle.rctl_grammar.specs.Machine.{Before, nothing, bar, Outer, top, in_group, in_left, in_right, Open, first_of, next_of, in_negation, in_temporal, in_stepping, State, operand, a_word, a_stepping, after, plug, settled, no_sign}
use Rattle.rctl_grammar.specs.FirstFault.{depth, depth_outer, nodes_open, nodes_outer, nodes_before, word_limit, fault_of, first_fault}
use Rattle.rctl_laws.specs.Laws.{IsWithinLimits}
use Rattle.rctl_laws.proofs.Settled.{settled_steps, settled_ends, settled_operator, ended}
use Rattle.rctl_laws.proofs.Reading.{IsPlain, begins_plain}

pub fault_settled : (o : Open) (w : Spelled) (s : State) → settled o w ≡ Some s → word_limit o w no_sign ≡ None → (r : List Token) → IsPlain r → (ending : End)
    → fault_of (a_word o w) r ending ≡ fault_of s r ending
fault_settled o w s e free [] h (end.BadToken at) = rw (free, (settled_ends o w s e).1) refl
fault_settled o w s e free [] h (end.Ends at) = rw (free, e, (settled_ends o w s e).1, (settled_ends o w s e).0) refl
fault_settled o w s e free (t ∷ ts) h ending =
    let plain = settled_steps o w s e t.kind t.at in
    rw (h, free, e, plain.0, plain.1) refl

module _ (ending : End) where
  fits-leaf : (l : Leaf) (o : Open) (r : List Token) → IsPlain r → nodes_open o < most_nodes → leaf_in_range l ≡ true → fault_of (operand o) (text_leaf l r) ending ≡ fault_of (plug o (leaf l)) r ending
  fits-leaf (constant true name at) o r h room range =
      fault_settled o (record { word = word.True; name = name; at = at }) (plug o (leaf (constant true name at))) refl (rw (lt-ltb (nodes_open o) most_nodes room) refl) r h ending
  fits-leaf (constant false name at) o r h room range =
      fault_settled o (record { word = word.False; name = name; at = at }) (plug o (leaf (constant false name at))) refl (rw (lt-ltb (nodes_open o) most_nodes room) refl) r h ending
  fits-leaf (comparison left compare at (number value here)) o r h room range = rw (lt-ltb (nodes_open o) most_nodes room, range) refl
  fits-leaf (comparison left compare at (variable v)) o r h room range = rw (lt-ltb (nodes_open o) most_nodes room) refl
  fits-leaf (watch process at name) o r h room range = rw (lt-ltb (nodes_open o) most_nodes room) refl
  fits-leaf (transit name at channel compare compare_at value value_at) o r h room range = rw (lt-ltb (nodes_open o) most_nodes room, range) refl
  fits-leaf (difference left minus right compare compare_at value value_at) o r h room range = rw (lt-ltb (nodes_open o) most_nodes room, range) refl
  fits-leaf (emptiness name at channel) o r h room range = rw (lt-ltb (nodes_open o) most_nodes room) refl

  fits-negation : (o : Open) (at : ℕ) (r : List Token) → depth o < deepest → nodes_open o < most_nodes → fault_of (operand o) (tok kind.Bang at ∷ r) ending ≡ fault_of (operand (in_negation o at)) r ending
  fits-negation o at r shallow room = rw (lt-ltb (depth o) deepest shallow, lt-ltb (nodes_open o) most_nodes room) refl

  fits-group : (o : Open) (at : ℕ) (r : List Token) → depth o < deepest → fault_of (operand o) (tok kind.OpenRound at ∷ r) ending ≡ fault_of (operand (first_of (in_group o at) nothing)) r ending
  fits-group o at r shallow = rw (lt-ltb (depth o) deepest shallow) refl

  free-operator : (o : Open) (op : model.Operator) (name : Name) (at : ℕ) → depth o < deepest → nodes_open o < most_nodes → word_limit o (record { word = word_of op; name = name; at = at }) no_sign ≡ None
  free-operator o model.Ef name at shallow room = rw (lt-ltb (depth o) deepest shallow, lt-ltb (nodes_open o) most_nodes room) refl
  free-operator o model.Ag name at shallow room = rw (lt-ltb (depth o) deepest shallow, lt-ltb (nodes_open o) most_nodes room) refl
  free-operator o model.Eg name at shallow room = rw (lt-ltb (depth o) deepest shallow, lt-ltb (nodes_open o) most_nodes room) refl
  free-operator o model.Af name at shallow room = rw (lt-ltb (depth o) deepest shallow, lt-ltb (nodes_open o) most_nodes room) refl
  free-operator o model.Ax name at shallow room = rw (lt-ltb (depth o) deepest shallow, lt-ltb (nodes_open o) most_nodes room) refl

  free-stepping : (o : Open) (name : Name) (at : ℕ) → depth o < deepest → nodes_open o < most_nodes → word_limit o (record { word = word.Ex; name = name; at = at }) no_sign ≡ None
  free-stepping o name at shallow room = rw (lt-ltb (depth o) deepest shallow, lt-ltb (nodes_open o) most_nodes room) refl

  fits-all : (o : Open) (all : Bool) (name : Name) (at opened : ℕ) (r : List Token) → depth o < deepest → nodes_open o < most_nodes
      → fault_of (operand o) (spelled (path_word all) name at ∷ tok kind.OpenSquare opened ∷ r) ending ≡ fault_of (operand (first_of (in_left o (record { all = all; name = name; at = at; opened = opened })) nothing)) r ending
  fits-all o true name at opened r shallow room = rw (lt-ltb (depth o) deepest shallow, lt-ltb (nodes_open o) most_nodes room) refl
  fits-all o false name at opened r shallow room = rw (lt-ltb (depth o) deepest shallow, lt-ltb (nodes_open o) most_nodes room) refl

  fits-path : (o : Open) (path : Path) (r : List Token) → depth o < deepest → nodes_open o < most_nodes → fault_of (operand o) (text_path path r) ending ≡ fault_of (operand (first_of (in_left o path) nothing)) r ending
  fits-path o path r shallow room = fits-all o path.all path.name path.at path.opened r shallow room

  fits-amp : (c : Conjunction) (outer : Outer) (before : Before) (at : ℕ) (r : List Token) → nodes_outer outer + nodes_before before + nodes_conjunction c + amp_nodes c ≤ most_nodes
      → fault_of (after outer before c) (tok kind.Amp at ∷ r) ending ≡ fault_of (operand (next_of outer before c at)) r ending
  fits-amp (one_unary u) outer before at r room = rw (lt-ltb (nodes_outer outer + nodes_before before + nodes_unary u) most_nodes (omega arith)) refl
  fits-amp (and c here u) outer before at r room = refl

  fits-bar : (d : Disjunction) (outer : Outer) (at : ℕ) (r : List Token) → nodes_outer outer + nodes_disjunction d + bar_nodes d ≤ most_nodes
      → fault_of (ended outer d) (tok kind.Bar at ∷ r) ending ≡ fault_of (operand (first_of outer (bar d at))) r ending
  fits-bar (one_conjunction c) outer at r room = rw (lt-ltb (nodes_outer outer + nodes_conjunction c) most_nodes (omega arith)) refl
  fits-bar (or d here c) outer at r room = refl

  fits-close : (d : Disjunction) (o : Open) (opened closed : ℕ) (r : List Token) → fault_of (ended (in_group o opened) d) (tok kind.CloseRound closed ∷ r) ending ≡ fault_of (plug o (group opened d closed)) r ending
  fits-close (one_conjunction c) o opened closed r = refl
  fits-close (or d here c) o opened closed r = refl

  fits-left : (d : Disjunction) (o : Open) (path : Path) (name : Name) (at : ℕ) (r : List Token)
      → fault_of (ended (in_left o path) d) (spelled word.U name at ∷ r) ending ≡ fault_of (operand (first_of (in_right o path d name at) nothing)) r ending
  fits-left (one_conjunction c) o path name at r = refl
  fits-left (or d here c) o path name at r = refl

  fits-right : (d : Disjunction) (o : Open) (path : Path) (left : Disjunction) (name : Name) (at closed : ℕ) (r : List Token)
      → fault_of (ended (in_right o path left name at) d) (tok kind.CloseSquare closed ∷ r) ending ≡ fault_of (plug o (until path left name at d closed)) r ending
  fits-right (one_conjunction c) o path left name at closed r = refl
  fits-right (or d here c) o path left name at closed r = refl

  mutual
    pub fits-disjunction : (d : Disjunction) (outer : Outer) (r : List Token) → IsPlain r
        → depth_outer outer + levels_disjunction d ≤ deepest → nodes_outer outer + nodes_disjunction d ≤ most_nodes → disjunction_in_range d ≡ true
        → fault_of (operand (first_of outer nothing)) (text_disjunction d r) ending ≡ fault_of (ended outer d) r ending
    fits-disjunction (one_conjunction c) outer r h shallow room range = fits-conjunction c outer nothing r h shallow (omega arith) range
    fits-disjunction (or d at c) outer r h shallow room range =
        let each = and_parts (disjunction_in_range d) (conjunction_in_range c) range in
        fits-disjunction d outer (tok kind.Bar at ∷ text_conjunction c r) refl (omega arith) (omega arith) each.0
        ∙ fits-bar d outer at (text_conjunction c r) (omega arith)
        ∙ fits-conjunction c outer (bar d at) r h (omega arith) (omega arith) each.1

    pub fits-conjunction : (c : Conjunction) (outer : Outer) (before : Before) (r : List Token) → IsPlain r
        → depth_outer outer + levels_conjunction c ≤ deepest → nodes_outer outer + nodes_before before + nodes_conjunction c ≤ most_nodes → conjunction_in_range c ≡ true
        → fault_of (operand (first_of outer before)) (text_conjunction c r) ending ≡ fault_of (after outer before c) r ending
    fits-conjunction (one_unary u) outer before r h shallow room range = fits-unary u (first_of outer before) r h shallow room range
    fits-conjunction (and c at u) outer before r h shallow room range =
        let each = and_parts (conjunction_in_range c) (unary_in_range u) range in
        fits-conjunction c outer before (tok kind.Amp at ∷ text_unary u r) refl (omega arith) (omega arith) each.0
        ∙ fits-amp c outer before at (text_unary u r) (omega arith)
        ∙ fits-unary u (next_of outer before c at) r h (omega arith) (omega arith) each.1

    pub fits-unary : (u : Unary) (o : Open) (r : List Token) → IsPlain r → depth o + levels_unary u ≤ deepest → nodes_open o + nodes_unary u ≤ most_nodes → unary_in_range u ≡ true
        → fault_of (operand o) (text_unary u r) ending ≡ fault_of (plug o u) r ending
    fits-unary (leaf l) o r h shallow room range = fits-leaf l o r h (omega arith) range
    fits-unary (negation at u) o r h shallow room range =
        fits-negation o at (text_unary u r) (omega arith) (omega arith) ∙ fits-unary u (in_negation o at) r h (omega arith) (omega arith) range
    fits-unary (temporal op name at u) o r h shallow room range =
        fault_settled o (record { word = word_of op; name = name; at = at }) (operand (in_temporal o op name at)) (settled_operator o op name at)
        (free-operator o op name at (omega arith) (omega arith)) (text_unary u r) (begins_plain IsPlain (λ t ts e. e) u r) ending
        ∙ fits-unary u (in_temporal o op name at) r h (omega arith) (omega arith) range
    fits-unary (stepping name at process u) o r h shallow room range =
        fault_settled o (record { word = word.Ex; name = name; at = at }) (a_stepping o name at) refl (free-stepping o name at (omega arith) (omega arith)) (named process ∷ text_unary u r) refl ending
        ∙ fits-unary u (in_stepping o name at process) r h (omega arith) (omega arith) range
    fits-unary (group opened d closed) o r h shallow room range =
        fits-group o opened (text_disjunction d (tok kind.CloseRound closed ∷ r)) (omega arith)
        ∙ fits-disjunction d (in_group o opened) (tok kind.CloseRound closed ∷ r) refl (omega arith) room range
        ∙ fits-close d o opened closed r
    fits-unary (until path left name at right closed) o r h shallow room range =
        let each = and_parts (disjunction_in_range left) (disjunction_in_range right) range in
        fits-path o path (text_disjunction left (spelled word.U name at ∷ text_disjunction right (tok kind.CloseSquare closed ∷ r))) (omega arith) (omega arith)
        ∙ fits-disjunction left (in_left o path) (spelled word.U name at ∷ text_disjunction right (tok kind.CloseSquare closed ∷ r)) refl (omega arith) (omega arith) each.0
        ∙ fits-left left o path name at (text_disjunction right (tok kind.CloseSquare closed ∷ r))
        ∙ fits-disjunction right (in_right o path left name at) (tok kind.CloseSquare closed ∷ r) refl (omega arith) (omega arith) each.1
        ∙ fits-right right o path left name at closed r

whole-free : (d : Disjunction) (len : ℕ) → fault_of (ended top d) [] (end.Ends len) ≡ None
whole-free (one_conjunction c) len = refl
whole-free (or d at c) len = refl

pub within_is_read : (tokens : List Token) (d : Disjunction) (len : ℕ) → IsFormula tokens d → IsWithinLimits d → first_fault tokens (end.Ends len) ≡ None
within_is_read tokens d len is fits =
    ap (λ (ts : List Token). first_fault ts (end.Ends len)) (sym is)
    ∙ fits-disjunction (end.Ends len) d top [] tt (omega (arith, fits.levels)) (omega (arith, fits.nodes)) fits.numbers ∙ whole-free d len
