-- The tokens of a derivation lead from before it to behind it.
use Rattle.std.specs.Prelude.{ℕ, true, false, List, [], ◌∷◌, Option, Some}
use Rattle.std.proofs.Common.{◌≡◌, refl, sym, ◌∙◌, ap}
use Rattle.pota_base.specs.Number.{◌>>=◌}
use Rattle.run_model.specs.Run.{Name}
use Rattle.rctl_grammar.specs.declared.token.Kind.TheVariants as kind
use Rattle.rctl_grammar.specs.declared.token.Word.TheVariants as word
use Rattle.rctl_grammar.specs.declared.token.Token.{Token}
use Rattle.rctl_grammar.specs.Grammar.{Spelled, number, variable, Leaf, constant, comparison, watch, transit, emptiness, difference, Path, Disjunction, one_conjunction, or, Conjunction, one_unary, and, Unary, leaf, negation, temporal, stepping, group, until, tok, spelled, named, word_of, path_word, text_path, text_leaf, text_disjunction, text_conjunction, text_unary, IsFormula}
use Rattle.rctl_grammar.specs.Machine.{Before, nothing, bar, Outer, top, in_group, in_left, in_right, Open, first_of, next_of, in_negation, in_temporal, in_stepping, State, operand, a_word, a_path, a_stepping, after, plug, settled, sign, no_sign, run, read, whole_of}
use Rattle.rctl_laws.proofs.Settled.{settled_steps, settled_ends, settled_operator, settled_path, ended}

-- what comes of a state and the tokens behind it
abbrev pub goes : {A : Type 0} → (State → Option A) → State → List Token → Option A
goes final s ts = run s ts >>= final

-- a word before these tokens is no name
abbrev pub IsPlain : List Token → Type 0
IsPlain [] = Unit {0}
IsPlain (t ∷ ts) = sign t.kind ≡ no_sign

-- and at the end of the text it counts as what it is then
abbrev pub Closes : {A : Type 0} → (State → Option A) → List Token → Type 0
Closes final [] = (o : Open) (w : Spelled) (s : State) → settled o w ≡ Some s → final (a_word o w) ≡ final s
Closes final (t ∷ ts) = sign t.kind ≡ no_sign

-- a unary begins with no sign that makes a name of a word before it
module _ (Q : List Token → Type 0) (plain : (t : Token) (ts : List Token) → sign t.kind ≡ no_sign → Q (t ∷ ts)) where
  begins-leaf : (l : Leaf) (r : List Token) → Q (text_leaf l r)
  begins-leaf (constant value name at) r = plain _ _ refl
  begins-leaf (comparison left compare at right) r = plain _ _ refl
  begins-leaf (watch process at name) r = plain _ _ refl
  begins-leaf (transit name at channel compare compare_at value value_at) r = plain _ _ refl
  begins-leaf (emptiness name at channel) r = plain _ _ refl
  begins-leaf (difference left minus right compare compare_at value value_at) r = plain _ _ refl

  pub begins_plain : (u : Unary) (r : List Token) → Q (text_unary u r)
  begins_plain (leaf l) r = begins-leaf l r
  begins_plain (negation at u) r = plain _ _ refl
  begins_plain (temporal op name at u) r = plain _ _ refl
  begins_plain (stepping name at process u) r = plain _ _ refl
  begins_plain (group opened d closed) r = plain _ _ refl
  begins_plain (until path left name at right closed) r = plain _ _ refl

module _ {A : Type 0} (final : State → Option A) where
  pub goes_settled : (o : Open) (w : Spelled) (s : State) → settled o w ≡ Some s → (r : List Token) → Closes final r → goes final (a_word o w) r ≡ goes final s r
  goes_settled o w s e [] h = h o w s e
  goes_settled o w s e (t ∷ ts) h = rw (h, e, (settled_steps o w s e t.kind t.at).0) refl

  reads-leaf : (l : Leaf) (o : Open) (r : List Token) → Closes final r → goes final (operand o) (text_leaf l r) ≡ goes final (plug o (leaf l)) r
  reads-leaf (constant true name at) o r h = goes_settled o (record { word = word.True; name = name; at = at }) (plug o (leaf (constant true name at))) refl r h
  reads-leaf (constant false name at) o r h = goes_settled o (record { word = word.False; name = name; at = at }) (plug o (leaf (constant false name at))) refl r h
  reads-leaf (comparison left compare at (number value here)) o r h = refl
  reads-leaf (comparison left compare at (variable v)) o r h = refl
  reads-leaf (watch process at name) o r h = refl
  reads-leaf (transit name at channel compare compare_at value value_at) o r h = refl
  reads-leaf (emptiness name at channel) o r h = refl
  reads-leaf (difference left minus right compare compare_at value value_at) o r h = refl

  pub reads-path : (o : Open) (path : Path) (r : List Token) → goes final (operand o) (text_path path r) ≡ goes final (operand (first_of (in_left o path) nothing)) r
  reads-path o path r = goes_settled o (record { word = path_word path.all; name = path.name; at = path.at }) (a_path o path.all path.name path.at) (settled_path o path.all path.name path.at) (tok kind.OpenSquare path.opened ∷ r) refl

  pub reads-bar : (d : Disjunction) (outer : Outer) (at : ℕ) (r : List Token) → goes final (ended outer d) (tok kind.Bar at ∷ r) ≡ goes final (operand (first_of outer (bar d at))) r
  reads-bar (one_conjunction c) outer at r = refl
  reads-bar (or d here c) outer at r = refl

  pub reads-close : (d : Disjunction) (o : Open) (opened closed : ℕ) (r : List Token) → goes final (ended (in_group o opened) d) (tok kind.CloseRound closed ∷ r) ≡ goes final (plug o (group opened d closed)) r
  reads-close (one_conjunction c) o opened closed r = refl
  reads-close (or d here c) o opened closed r = refl

  pub reads-left : (d : Disjunction) (o : Open) (path : Path) (name : Name) (at : ℕ) (r : List Token) → goes final (ended (in_left o path) d) (spelled word.U name at ∷ r) ≡ goes final (operand (first_of (in_right o path d name at) nothing)) r
  reads-left (one_conjunction c) o path name at r = refl
  reads-left (or d here c) o path name at r = refl

  pub reads-right : (d : Disjunction) (o : Open) (path : Path) (left : Disjunction) (name : Name) (at closed : ℕ) (r : List Token)
      → goes final (ended (in_right o path left name at) d) (tok kind.CloseSquare closed ∷ r) ≡ goes final (plug o (until path left name at d closed)) r
  reads-right (one_conjunction c) o path left name at closed r = refl
  reads-right (or d here c) o path left name at closed r = refl

  mutual
    pub reads-disjunction : (d : Disjunction) (outer : Outer) (r : List Token) → Closes final r → goes final (operand (first_of outer nothing)) (text_disjunction d r) ≡ goes final (ended outer d) r
    reads-disjunction (one_conjunction c) outer r h = reads-conjunction c outer nothing r h
    reads-disjunction (or d at c) outer r h =
        reads-disjunction d outer (tok kind.Bar at ∷ text_conjunction c r) refl ∙ reads-bar d outer at (text_conjunction c r) ∙ reads-conjunction c outer (bar d at) r h

    pub reads-conjunction : (c : Conjunction) (outer : Outer) (before : Before) (r : List Token) → Closes final r → goes final (operand (first_of outer before)) (text_conjunction c r) ≡ goes final (after outer before c) r
    reads-conjunction (one_unary u) outer before r h = reads-unary u (first_of outer before) r h
    reads-conjunction (and c at u) outer before r h =
        reads-conjunction c outer before (tok kind.Amp at ∷ text_unary u r) refl ∙ reads-unary u (next_of outer before c at) r h

    pub reads-unary : (u : Unary) (o : Open) (r : List Token) → Closes final r → goes final (operand o) (text_unary u r) ≡ goes final (plug o u) r
    reads-unary (leaf l) o r h = reads-leaf l o r h
    reads-unary (negation at u) o r h = reads-unary u (in_negation o at) r h
    reads-unary (temporal op name at u) o r h =
        goes_settled o (record { word = word_of op; name = name; at = at }) (operand (in_temporal o op name at)) (settled_operator o op name at) (text_unary u r) (begins_plain (Closes final) (λ t ts e. e) u r)
        ∙ reads-unary u (in_temporal o op name at) r h
    reads-unary (stepping name at process u) o r h =
        goes_settled o (record { word = word.Ex; name = name; at = at }) (a_stepping o name at) refl (named process ∷ text_unary u r) refl ∙ reads-unary u (in_stepping o name at process) r h
    reads-unary (group opened d closed) o r h =
        reads-disjunction d (in_group o opened) (tok kind.CloseRound closed ∷ r) refl ∙ reads-close d o opened closed r
    reads-unary (until path left name at right closed) o r h =
        reads-path o path (text_disjunction left (spelled word.U name at ∷ text_disjunction right (tok kind.CloseSquare closed ∷ r)))
        ∙ reads-disjunction left (in_left o path) (spelled word.U name at ∷ text_disjunction right (tok kind.CloseSquare closed ∷ r)) refl
        ∙ reads-left left o path name at (text_disjunction right (tok kind.CloseSquare closed ∷ r))
        ∙ reads-disjunction right (in_right o path left name at) (tok kind.CloseSquare closed ∷ r) refl
        ∙ reads-right right o path left name at closed r

-- ---- one reading

word-at-end : (o : Open) (w : Spelled) (s : State) → settled o w ≡ Some s → whole_of (a_word o w) ≡ whole_of s
word-at-end o w s e = rw e (sym (settled_ends o w s e).0)

whole-ended : (d : Disjunction) → whole_of (ended top d) ≡ Some d
whole-ended (one_conjunction c) = refl
whole-ended (or d at c) = refl

pub derivation_is_read : (d : Disjunction) → read (text_disjunction d []) ≡ Some d
derivation_is_read d = reads-disjunction whole_of d top [] word-at-end ∙ whole-ended d

pub one_reading : (tokens : List Token) (d : Disjunction) → IsFormula tokens d → read tokens ≡ Some d
one_reading tokens d is = ap read (sym is) ∙ derivation_is_read d
