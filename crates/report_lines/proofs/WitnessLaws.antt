-- The line of a witness: what is read is spelled so, and what is spelled so is read.
use Rattle.std.proofs.Common.{◌≡◌, ℕ, ◌+◌, ◌^◌, ◌<◌, ◌≤◌, Bool, true, false, Option, Some, None, List, [], ◌∷◌, ◌++◌, length, refl, sym, ap, subst, ◌∙◌, arith, inl, inr, append_assoc, append-nil}
use Rattle.std.specs.Prelude.{codes}
use Rattle.std.specs.Str.{bytes_eq}
use Rattle.std.specs.Fmt.{decimal}
use Rattle.std.proofs.lemmas.Bool.{cases_Bool}
use Rattle.std.proofs.lemmas.Option.{same_Some, cond_some}
use Rattle.std.proofs.lemmas.Slice.Eq.{bytes_eq-Decides}
use Rattle.run_model.specs.Cut.{Cut}
use Rattle.pota_base.specs.declared.shape.EventId.{EventId}
use Rattle.pota_base.specs.Number.{◌>>=◌}
use Rattle.log_lines.specs.Names.{Name}
use Rattle.log_lines.specs.Spelling.{clock_text}
use Rattle.log_lines.specs.Reading.{choose, text_at}
use Rattle.log_lines.proofs.WordLaws.{bind_some, text_takes}
use Rattle.witness_kinds.specs.declared.Path.{Path}
use Rattle.witness_kinds.specs.declared.Witness.{Witness}
use Rattle.witness_kinds.specs.declared.Witness.TheVariants as witness
use Rattle.report_lines.specs.declared.kinds.WitnessText.{WitnessText}
use Rattle.report_lines.specs.Spelling.{event_text, kind_text, witness_line, IsPositive, CutFits, PathFits, WitnessFits, WitnessTextFits, RunFits}
use Rattle.report_lines.specs.Reading.{alone, positive_at, within_at, event_at, path_to, goal_in, pair_in, plain_in, with_steps, kind_in, numbers_at, witness_in}
use Rattle.report_lines.proofs.PartLaws.{alone_takes, positive_takes, positive_again, within_takes, within_end, event_takes, event_again, event_end}
use Rattle.report_lines.proofs.LineLaws.{nothing_left, bytes_same}

-- ---- what is read

pub record IsTold (procs : List Name) (lengths : Cut) (bytes : List ℕ) (w : Witness) : Type 0 where
  pub text : bytes ≡ kind_text procs w
  pub fits : WitnessFits lengths w

record GoalTaken (lengths : Cut) (bytes : List ℕ) (path : Path) : Type 0 where
  text : bytes ≡ clock_text path.goal
  fits : PathFits lengths path

goal_takes : (lengths : Cut) (bytes : List ℕ) (path : Path) → goal_in lengths bytes ≡ Some path → GoalTaken lengths bytes path
goal_takes lengths bytes path h =
    let b = bind_some (within_at lengths bytes >>= alone) _ path h in
    let a = bind_some (within_at lengths bytes) alone b.0 b.1 in
    let end = alone_takes a.0 b.0 a.2 in
    let t = within_takes lengths bytes a.0.0 a.0.1 a.1 in
    let taken : GoalTaken lengths bytes (path_to a.0.0) = record { text = nothing_left (clock_text a.0.0) bytes a.0.1 t.text end.end; fits = record { goal = t.fits; steps = tt } } in
    subst (GoalTaken lengths bytes) (ap path_to end.value ∙ same_Some _ _ b.2) taken

pair_takes : (procs : List Name) (lengths : Cut) (bytes : List ℕ) (w : Witness) → length lengths ≡ length procs → pair_in procs lengths bytes ≡ Some w → IsTold procs lengths (codes "stuck pair" ++ bytes) w
pair_takes procs lengths bytes w width h =
    let a = bind_some (event_at procs lengths bytes) _ w h in
    let b = bind_some (event_at procs lengths a.0.1) _ w a.2 in
    let end = alone_takes (witness.StuckPair a.0.0 b.0.0, b.0.1) w b.2 in
    let first = event_takes procs lengths bytes a.0.0 a.0.1 width a.1 in
    let other = event_takes procs lengths a.0.1 b.0.0 b.0.1 width b.1 in
    let text = first.text ∙ ap (λ (t : List ℕ). event_text procs a.0.0 ++ t) (nothing_left (event_text procs b.0.0) a.0.1 b.0.1 other.text end.end) in
    let told : IsTold procs lengths (codes "stuck pair" ++ bytes) (witness.StuckPair a.0.0 b.0.0) = record { text = ap (λ (t : List ℕ). codes "stuck pair" ++ t) text; fits = (first.there, other.there) } in
    subst (IsTold procs lengths (codes "stuck pair" ++ bytes)) end.value told

word_told : (procs : List Name) (lengths : Cut) (bytes : List ℕ) (w v : Witness) → bytes_eq bytes (kind_text procs w) ≡ true → WitnessFits lengths w → Some w ≡ Some v → IsTold procs lengths bytes v
word_told procs lengths bytes w v word fits h =
    let told : IsTold procs lengths bytes w = record { text = (bytes_eq-Decides bytes (kind_text procs w)).0 word; fits = fits } in
    subst (IsTold procs lengths bytes) (same_Some _ _ h) told

plain_takes : (procs : List Name) (lengths : Cut) (bytes : List ℕ) (w : Witness) → plain_in bytes ≡ Some w → IsTold procs lengths bytes w
plain_takes procs lengths bytes w h = elim (cases_Bool (bytes_eq bytes (codes "none"))) [
  | inl same ↦ word_told procs lengths bytes witness.Nothing w same tt (rw same at h)
  | inr apart ↦ elim (cases_Bool (bytes_eq bytes (codes "stuck start"))) [
    | inl same ↦ word_told procs lengths bytes witness.StuckStart w same tt (rw (apart, same) at h)
    | inr other ↦ elim (cases_Bool (bytes_eq bytes (codes "stuck finish"))) [
      | inl same ↦ word_told procs lengths bytes witness.StuckFinish w same tt (rw (apart, other, same) at h)
      | inr none ↦ absurd (cc (rw (apart, other, none) at h))
    ]
  ]
]

-- a kind with a path
path_told : (procs : List Name) (lengths : Cut) (word bytes rest : List ℕ) (kind : Path → Witness) (w : Witness) → ((path : Path) → kind_text procs (kind path) ≡ word ++ clock_text path.goal)
    → ((path : Path) → PathFits lengths path → WitnessFits lengths (kind path)) → text_at word bytes ≡ Some rest → (goal_in lengths rest >>= λ path. Some (kind path)) ≡ Some w → IsTold procs lengths bytes w
path_told procs lengths word bytes rest kind w spelled fits begins h =
    let b = bind_some (goal_in lengths rest) _ w h in
    let t = goal_takes lengths rest b.0 b.1 in
    let told : IsTold procs lengths bytes (kind b.0) = record { text = text_takes word bytes rest begins ∙ ap (λ (x : List ℕ). word ++ x) t.text ∙ sym (spelled b.0); fits = fits b.0 t.fits } in
    subst (IsTold procs lengths bytes) (same_Some _ _ b.2) told

module _ (procs : List Name) (lengths : Cut) (width : length lengths ≡ length procs) (bytes : List ℕ) (w : Witness) where
  paired : (o : Option (List ℕ)) → text_at (codes "stuck pair") bytes ≡ o → choose o (pair_in procs lengths) (plain_in bytes) ≡ Some w → IsTold procs lengths bytes w
  paired (Some rest) begins h =
      let told = pair_takes procs lengths rest w width h in
      subst (λ (b : List ℕ). IsTold procs lengths b w) (sym (text_takes (codes "stuck pair") bytes rest begins)) told
  paired None begins h = plain_takes procs lengths bytes w h

  always : (o : Option (List ℕ)) → text_at (codes "always ") bytes ≡ o
      → choose o (λ rest. goal_in lengths rest >>= λ path. Some (witness.Always path)) (choose (text_at (codes "stuck pair") bytes) (pair_in procs lengths) (plain_in bytes)) ≡ Some w → IsTold procs lengths bytes w
  always (Some rest) begins h = path_told procs lengths (codes "always ") bytes rest witness.Always w (λ path. refl) (λ path fits. fits) begins h
  always None begins h = paired (text_at (codes "stuck pair") bytes) refl h

  against : (o : Option (List ℕ)) → text_at (codes "against ") bytes ≡ o
      → choose o (λ rest. goal_in lengths rest >>= λ path. Some (witness.Against path)) (choose (text_at (codes "always ") bytes) (λ rest. goal_in lengths rest >>= λ path. Some (witness.Always path)) (choose (text_at (codes "stuck pair") bytes) (pair_in procs lengths) (plain_in bytes))) ≡ Some w
      → IsTold procs lengths bytes w
  against (Some rest) begins h = path_told procs lengths (codes "against ") bytes rest witness.Against w (λ path. refl) (λ path fits. fits) begins h
  against None begins h = always (text_at (codes "always ") bytes) refl h

  reach : (o : Option (List ℕ)) → text_at (codes "reach ") bytes ≡ o
      → choose o (λ rest. goal_in lengths rest >>= λ path. Some (witness.Reach path)) (choose (text_at (codes "against ") bytes) (λ rest. goal_in lengths rest >>= λ path. Some (witness.Against path)) (choose (text_at (codes "always ") bytes) (λ rest. goal_in lengths rest >>= λ path. Some (witness.Always path)) (choose (text_at (codes "stuck pair") bytes) (pair_in procs lengths) (plain_in bytes)))) ≡ Some w
      → IsTold procs lengths bytes w
  reach (Some rest) begins h = path_told procs lengths (codes "reach ") bytes rest witness.Reach w (λ path. refl) (λ path fits. fits) begins h
  reach None begins h = against (text_at (codes "against ") bytes) refl h

  kind_takes : kind_in procs lengths bytes ≡ Some w → IsTold procs lengths bytes w
  unfolding kind_in
  kind_takes h = reach (text_at (codes "reach ") bytes) refl h

pub witness_takes : (procs : List Name) (lengths : Cut) (line : List ℕ) (w : WitnessText) → length lengths ≡ length procs → witness_in procs lengths line ≡ Some w → (line ≡ witness_line procs w) × WitnessTextFits lengths w
unfolding witness_in numbers_at
witness_takes procs lengths line w width h =
    let n = bind_some (numbers_at line) _ w h in
    let a = bind_some (text_at (codes "witness ") line) _ n.0 n.1 in
    let d = bind_some (positive_at a.0) _ n.0 a.2 in
    let dot = bind_some (text_at (46 ∷ []) d.0.1) _ n.0 d.2 in
    let p = bind_some (positive_at dot.0) _ n.0 dot.2 in
    let s = bind_some (text_at (32 ∷ []) p.0.1) _ n.0 p.2 in
    let k = bind_some (kind_in procs lengths n.0.2) _ w n.2 in
    let disjunct = positive_takes a.0 d.0.0 d.0.1 d.1 in
    let part = positive_takes dot.0 p.0.0 p.0.1 p.1 in
    let told = kind_takes procs lengths width n.0.2 k.0 k.1 in
    let numbers : (d.0.0, p.0.0, s.0) ≡ n.0 = same_Some _ _ s.2 in
    let behind : s.0 ≡ kind_text procs k.0 = ap (λ (x : ℕ × ℕ × List ℕ). x.2) numbers ∙ told.text in
    let made : WitnessText = record { disjunct = d.0.0; part = p.0.0; witness = k.0 } in
    let text : line ≡ witness_line procs made = text_takes (codes "witness ") line a.0 a.1 ∙ ap (λ (t : List ℕ). codes "witness " ++ t) (disjunct.text ∙ ap (λ (t : List ℕ). decimal d.0.0 ++ t) (text_takes (46 ∷ []) d.0.1 dot.0 dot.1
    ∙ ap (λ (t : List ℕ). 46 ∷ t) (part.text ∙ ap (λ (t : List ℕ). decimal p.0.0 ++ t) (text_takes (32 ∷ []) p.0.1 s.0 s.1 ∙ ap (λ (t : List ℕ). 32 ∷ t) behind)))) in
    let taken : (line ≡ witness_line procs made) × WitnessTextFits lengths made = (text, record { disjunct = disjunct.fits; part = part.fits; witness = told.fits }) in
    let same : made ≡ w = ap (λ (x : ℕ × ℕ × List ℕ). record { disjunct = x.0; part = x.1; witness = k.0 }) numbers ∙ same_Some _ _ k.2 in
    subst (λ (x : WitnessText). (line ≡ witness_line procs x) × WitnessTextFits lengths x) same taken

-- ---- what is spelled

module _ (procs : List Name) (lengths : Cut) (run : RunFits procs lengths) where
  goal_again : (c : Cut) → CutFits lengths c → goal_in lengths (clock_text c) ≡ Some (path_to c)
  goal_again c fits = rw (within_end procs lengths run c fits) refl

  kind_again : (w : Witness) → WitnessFits lengths w → kind_in procs lengths (kind_text procs w) ≡ Some (with_steps w [])
  unfolding kind_in text_at
  kind_again witness.Nothing fits = refl
  kind_again (witness.Reach path) fits = rw (goal_again path.goal fits.goal) refl
  kind_again (witness.Against path) fits = rw (goal_again path.goal fits.goal) refl
  kind_again (witness.Always path) fits = rw (goal_again path.goal fits.goal) refl
  kind_again witness.StuckStart fits = refl
  kind_again witness.StuckFinish fits = refl
  kind_again (witness.StuckPair first other) fits =
      rw (event_again procs lengths run first (event_text procs other) fits.0 refl, event_end procs lengths run other fits.1) refl

  pub witness_again : (w : WitnessText) → WitnessTextFits lengths w → witness_in procs lengths (witness_line procs w) ≡ Some (record { disjunct = w.disjunct; part = w.part; witness = with_steps w.witness [] })
  unfolding witness_in numbers_at text_at
  witness_again w fits =
      rw (
        positive_again w.disjunct (46 ∷ (decimal w.part ++ 32 ∷ kind_text procs w.witness)) fits.disjunct refl,
        positive_again w.part (32 ∷ kind_text procs w.witness) fits.part refl,
        kind_again w.witness fits.witness,
      ) refl
