-- First faults, and that two scans find the one that comes first.
use Rattle.std.proofs.Common.{◌≡◌, false, Option, Some, None, List, [], ◌∷◌, ◌++◌, refl, sym, ap, ◌∙◌, inl, inr, append_assoc, ◌⊎◌}
use Rattle.std.proofs.lemmas.Bool.{cases_Bool}
use Rattle.std.proofs.lemmas.List.{append-nil}
use Rattle.log_lines.specs.Reading.{choose}
use Rattle.fault_kinds.specs.declared.import.ImportCode.{ImportCode}
use Rattle.fault_kinds.specs.declared.import.ImportCode.TheVariants as code
use Rattle.fault_kinds.specs.declared.import.ImportFault.{ImportFault}
use Rattle.vclog_import.specs.Lines.{Record}
use Rattle.vclog_import.specs.Faults.{Judge, at_line, first_of, is_bad, clock_fault, number_fault, line_fault}
use Rattle.vclog_import.specs.inside.Scans.{plain_fault, until, bad_clock, first_bad_clock}

pub cases_Option : {A : Type 0} (o : Option A) → (o ≡ None) ⊎ ((x : A) × (o ≡ Some x))
cases_Option None = inl refl
cases_Option (Some x) = inr (x, refl)

-- the fault of a record on its line
abbrev pub here : Judge → List Record → Record → Option ImportFault
here fault before r = choose (fault before r) (λ (c : ImportCode). Some (at_line r c)) None

-- ---- one record more

choose_twice : (o : Option ImportCode) (r : Record) (rest last : Option ImportFault) → choose o (λ (c : ImportCode). Some (at_line r c)) (choose rest (λ (f : ImportFault). Some f) last) ≡ choose (choose o (λ (c : ImportCode). Some (at_line r c)) rest) (λ (f : ImportFault). Some f) last
choose_twice None r rest last = refl
choose_twice (Some c) r rest last = refl

pub first_of-push : (fault : Judge) (before rs : List Record) (r : Record) → first_of fault before (rs ++ r ∷ []) ≡ choose (first_of fault before rs) (λ (f : ImportFault). Some f) (here fault (before ++ rs) r)
unfolding first_of
first_of-push fault before [] r = ap (λ (front : List Record). here fault front r) (sym (append-nil before))
first_of-push fault before (q ∷ rs) r =
    ap (λ (rest : Option ImportFault). choose (fault before q) (λ (c : ImportCode). Some (at_line q c)) rest) (first_of-push fault (before ++ q ∷ []) rs r ∙ ap (λ (front : List Record). choose (first_of fault (before ++ q ∷ []) rs) (λ (f : ImportFault). Some f) (here fault front r)) (append_assoc before (q ∷ []) rs))
    ∙ choose_twice (fault before q) q (first_of fault (before ++ q ∷ []) rs) (here fault (before ++ (q ∷ rs)) r)

-- ---- one record first

pub first_of-none : (fault : Judge) (before : List Record) (r : Record) (rs : List Record) → fault before r ≡ None → first_of fault before (r ∷ rs) ≡ first_of fault (before ++ r ∷ []) rs
unfolding first_of
first_of-none fault before r rs none = rw none refl

pub first_of-some : (fault : Judge) (before : List Record) (r : Record) (rs : List Record) (c : ImportCode) → fault before r ≡ Some c → first_of fault before (r ∷ rs) ≡ Some (at_line r c)
unfolding first_of
first_of-some fault before r rs c some = rw some refl

pub until-none : (fault : Judge) (before : List Record) (r : Record) (rs : List Record) → fault before r ≡ None → until fault before (r ∷ rs) ≡ r ∷ until fault (before ++ r ∷ []) rs
unfolding until
until-none fault before r rs none = rw none refl

pub until-some : (fault : Judge) (before : List Record) (r : Record) (rs : List Record) (c : ImportCode) → fault before r ≡ Some c → until fault before (r ∷ rs) ≡ r ∷ []
unfolding until
until-some fault before r rs c some = rw some refl

pub first_of-nil : (fault : Judge) (before : List Record) → first_of fault before [] ≡ None
unfolding first_of
first_of-nil fault before = refl

pub until-nil : (fault : Judge) (before : List Record) → until fault before [] ≡ []
unfolding until
until-nil fault before = refl

-- without a fault all records are taken
pub until_all : (fault : Judge) (before rs : List Record) → first_of fault before rs ≡ None → until fault before rs ≡ rs
unfolding first_of until
until_all fault before [] none = refl
until_all fault before (r ∷ rs) none = elim (cases_Option (fault before r)) [
  | inl fine ↦ until-none fault before r rs fine ∙ ap (λ (x : List Record). r ∷ x) (until_all fault (before ++ r ∷ []) rs (sym (first_of-none fault before r rs fine) ∙ none))
  | inr bad ↦ absurd (let e = sym none ∙ first_of-some fault before r rs bad.0 bad.1 in cc)
]

-- ---- bad clocks

pub bad_clock-none : (r : Record) (rs : List Record) → bad_clock r ≡ None → first_bad_clock (r ∷ rs) ≡ first_bad_clock rs
unfolding first_bad_clock
bad_clock-none r rs none = rw none refl

pub bad_clock-some : (r : Record) (rs : List Record) (c : ImportCode) → bad_clock r ≡ Some c → first_bad_clock (r ∷ rs) ≡ Some (at_line r c)
unfolding first_bad_clock
bad_clock-some r rs c some = rw some refl

pub no_bad_clock : first_bad_clock [] ≡ None
unfolding first_bad_clock
no_bad_clock = refl

-- ---- two scans

-- a record whose clock is good
good_step : (before : List Record) (r : Record) (rs : List Record) → is_bad r ≡ false → clock_fault r ≡ None
    → first_of line_fault (before ++ r ∷ []) rs ≡ choose (first_bad_clock (until plain_fault (before ++ r ∷ []) rs)) (λ (f : ImportFault). Some f) (first_of plain_fault (before ++ r ∷ []) rs)
    → first_of line_fault before (r ∷ rs) ≡ choose (first_bad_clock (until plain_fault before (r ∷ rs))) (λ (f : ImportFault). Some f) (first_of plain_fault before (r ∷ rs))
good_step before r rs fine good rest =
    let line : line_fault before r ≡ number_fault before r = rw (fine, good) refl in
    let plain : plain_fault before r ≡ number_fault before r = rw fine refl in
    let clock : bad_clock r ≡ None = rw fine good in
    elim (cases_Option (number_fault before r)) [
      | inl none ↦
          first_of-none line_fault before r rs (line ∙ none) ∙ rest
          ∙ sym (rw (until-none plain_fault before r rs (plain ∙ none), bad_clock-none r (until plain_fault (before ++ r ∷ []) rs) clock, first_of-none plain_fault before r rs (plain ∙ none)) refl)
      | inr some ↦
          first_of-some line_fault before r rs some.0 (line ∙ some.1)
          ∙ sym (rw (until-some plain_fault before r rs some.0 (plain ∙ some.1), bad_clock-none r [] clock, no_bad_clock) (first_of-some plain_fault before r rs some.0 (plain ∙ some.1)))
    ]

pub two_scans : (before rs : List Record) → first_of line_fault before rs ≡ choose (first_bad_clock (until plain_fault before rs)) (λ (f : ImportFault). Some f) (first_of plain_fault before rs)
two_scans before [] = first_of-nil line_fault before ∙ sym (rw (until-nil plain_fault before, no_bad_clock) (first_of-nil plain_fault before))
two_scans before (r ∷ rs) = elim (cases_Bool (is_bad r)) [
  | inl bad ↦
      let line : line_fault before r ≡ Some code.BadHostLine = rw bad refl in
      let plain : plain_fault before r ≡ Some code.BadHostLine = rw bad refl in
      let clock : bad_clock r ≡ None = rw bad refl in
      first_of-some line_fault before r rs _ line ∙ sym (rw (until-some plain_fault before r rs _ plain, bad_clock-none r [] clock, no_bad_clock) (first_of-some plain_fault before r rs _ plain))
  | inr fine ↦ elim (cases_Option (clock_fault r)) [
    | inr bad ↦
        let line : line_fault before r ≡ Some bad.0 = rw (fine, bad.1) refl in
        let clock : bad_clock r ≡ Some bad.0 = rw fine bad.1 in
        first_of-some line_fault before r rs bad.0 line ∙ sym (with_bad_clock before r rs bad.0 clock)
    | inl good ↦ good_step before r rs fine good (two_scans (before ++ r ∷ []) rs)
  ]
]
  where
    with_bad_clock : (front : List Record) (q : Record) (qs : List Record) (c : ImportCode) → bad_clock q ≡ Some c → choose (first_bad_clock (until plain_fault front (q ∷ qs))) (λ (f : ImportFault). Some f) (first_of plain_fault front (q ∷ qs)) ≡ Some (at_line q c)
    with_bad_clock front q qs c clock = elim (cases_Option (plain_fault front q)) [
      | inl none ↦ rw (until-none plain_fault front q qs none, bad_clock-some q (until plain_fault (front ++ q ∷ []) qs) c clock) refl
      | inr some ↦ rw (until-some plain_fault front q qs some.0 some.1, bad_clock-some q [] c clock) refl
    ]
