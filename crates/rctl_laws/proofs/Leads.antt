-- The tokens of what stands open lead to it.
use Rattle.std.specs.Prelude.{ℕ, List, [], ◌∷◌, Option, None, Some}
use Rattle.std.proofs.Common.{◌≡◌, refl, sym, ◌∙◌}
use Rattle.pota_base.specs.Number.{◌>>=◌}
use Rattle.run_model.specs.Run.{Name}
use Rattle.rctl_grammar.specs.declared.token.Kind.TheVariants as kind
use Rattle.rctl_grammar.specs.declared.token.Word.{Word}
use Rattle.rctl_grammar.specs.declared.token.Word.TheVariants as word
use Rattle.rctl_grammar.specs.declared.token.Token.{Token}
use Rattle.rctl_grammar.specs.Grammar.{tok, spelled, named, word_of, text_path, text_disjunction, text_conjunction}
use Rattle.rctl_grammar.specs.Machine.{Before, nothing, bar, Outer, top, in_group, in_left, in_right, Open, first_of, next_of, in_negation, in_temporal, in_stepping, State, operand, a_word, a_stepping, start, run, text_before, text_outer, text_open}
use Rattle.rctl_laws.proofs.Settled.{settled_operator}
use Rattle.rctl_laws.proofs.Reading.{goes, Closes, goes_settled, reads-path, reads-bar, reads-left, reads-disjunction, reads-conjunction}

module _ {A : Type 0} (final : State → Option A) where
  from-outer : (outer : Outer) (before : Before) → ((r : List Token) → goes final start (text_outer outer r) ≡ goes final (operand (first_of outer nothing)) r)
      → (r : List Token) → goes final start (text_outer outer (text_before before r)) ≡ goes final (operand (first_of outer before)) r
  from-outer outer nothing leads r = leads r
  from-outer outer (bar d at) leads r =
      leads (text_disjunction d (tok kind.Bar at ∷ r)) ∙ reads-disjunction final d outer (tok kind.Bar at ∷ r) refl ∙ reads-bar final d outer at r

  mutual
    pub leads-outer : (outer : Outer) (r : List Token) → goes final start (text_outer outer r) ≡ goes final (operand (first_of outer nothing)) r
    leads-outer top r = refl
    leads-outer (in_group o opened) r = leads-open o (tok kind.OpenRound opened ∷ r) refl
    leads-outer (in_left o path) r = leads-open o (text_path path r) refl ∙ reads-path final o path r
    leads-outer (in_right o path left name at) r =
        leads-open o (text_path path (text_disjunction left (spelled word.U name at ∷ r))) refl
        ∙ reads-path final o path (text_disjunction left (spelled word.U name at ∷ r))
        ∙ reads-disjunction final left (in_left o path) (spelled word.U name at ∷ r) refl
        ∙ reads-left final left o path name at r

    pub leads-open : (o : Open) (r : List Token) → Closes final r → goes final start (text_open o r) ≡ goes final (operand o) r
    leads-open (first_of outer before) r h = from-outer outer before (λ x. leads-outer outer x) r
    leads-open (next_of outer before c at) r h =
        from-outer outer before (λ x. leads-outer outer x) (text_conjunction c (tok kind.Amp at ∷ r)) ∙ reads-conjunction final c outer before (tok kind.Amp at ∷ r) refl
    leads-open (in_negation o at) r h = leads-open o (tok kind.Bang at ∷ r) refl
    leads-open (in_temporal o op name at) r h =
        leads-open o (spelled (word_of op) name at ∷ r) refl
        ∙ goes_settled final o (record { word = word_of op; name = name; at = at }) (operand (in_temporal o op name at)) (settled_operator o op name at) r h
    leads-open (in_stepping o name at process) r h =
        leads-open o (spelled word.Ex name at ∷ named process ∷ r) refl
        ∙ goes_settled final o (record { word = word.Ex; name = name; at = at }) (a_stepping o name at) refl (named process ∷ r) refl

  pub leads-before : (outer : Outer) (before : Before) (r : List Token) → goes final start (text_outer outer (text_before before r)) ≡ goes final (operand (first_of outer before)) r
  leads-before outer before r = from-outer outer before (λ x. leads-outer outer x) r

-- a word behind what stands open waits for the next token
some-bind : {A : Type 0} (x : Option A) → (x >>= Some) ≡ x
some-bind None = refl
some-bind (Some a) = refl

pub leads_word : (o : Open) (w : Word) (name : Name) (at : ℕ) → run start (text_open o (spelled w name at ∷ [])) ≡ Some (a_word o (record { word = w; name = name; at = at }))
leads_word o w name at = sym (some-bind (run start (text_open o (spelled w name at ∷ [])))) ∙ leads-open Some o (spelled w name at ∷ []) refl
