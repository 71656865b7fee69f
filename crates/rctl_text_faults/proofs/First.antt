-- The fault of a text is the first of those that it has.
use Rattle.std.specs.Prelude.{nat_eq, nat_lt, ◌⊎◌, ◌<◌, ◌≤◌, ℕ, Bool, true, false, List, length, Option, None, Some, if◌then◌else◌}
use Rattle.std.proofs.Common.{◌≡◌, refl, sym, ◌∙◌, ap, ap₂, subst, inl, inr, arith, ltb-true, lt-ltb}
use Rattle.pota_base.specs.Limits.{longest_formula}
use Rattle.rctl_grammar.specs.declared.fault.FormulaCode.{FormulaCode}
use Rattle.rctl_grammar.specs.declared.fault.FormulaCode.TheVariants as code
use Rattle.rctl_grammar.specs.declared.fault.FormulaFault.{FormulaFault}
use Rattle.rctl_grammar.specs.declared.token.Token.{Token}
use Rattle.rctl_grammar.specs.declared.token.End.{End}
use Rattle.rctl_lexer.specs.Lexing.{lex}
use Rattle.rctl_lexer.proofs.Places.{lex_ascends}
use Rattle.rctl_laws.specs.Table.{HasFault, Precedes, rank}
use Rattle.rctl_laws.proofs.First.{first_precedes}
use Rattle.rctl_laws.proofs.Stands.{first_stands}
use Rattle.rctl_parse.specs.Parsing.{fault_of_text, long_fault}
use Rattle.rctl_text_faults.specs.TextFaults.{TextHasFault, ComesFirst, IsFirstFault}

-- ---- too long, or not

abbrev too_long : FormulaFault
too_long = record { code = code.TooLong; place = longest_formula }

abbrev Lengths : List ℕ → Type 0
Lengths text =
    ((longest_formula < length text) × (fault_of_text text ≡ Some too_long))
    ⊎ ((longest_formula < length text → ⊥) × (fault_of_text text ≡ long_fault text))

lengths-by : (text : List ℕ) (b : Bool) → nat_lt longest_formula (length text) ≡ b → Lengths text
lengths-by text true e = inl (ltb-true longest_formula (length text) e, rw e refl)
lengths-by text false e = inr ((λ h. cc (e, lt-ltb longest_formula (length text) h)), rw e refl)

lengths : (text : List ℕ) → Lengths text
lengths text = lengths-by text (nat_lt longest_formula (length text)) refl

-- ---- the fault stands

-- a fault of the tokens is one of the text
token-fault : (text : List ℕ) (c : FormulaCode) (at : ℕ) → HasFault (lex text).tokens (lex text).end c at → TextHasFault text c at
token-fault text code.TooLong at h = absurd h
token-fault text c at h = h

pub fault_stands : (text : List ℕ) (fault : FormulaFault) → fault_of_text text ≡ Some fault → TextHasFault text fault.code fault.place
fault_stands text fault e =
    elim (lengths text) [
      | inl long ↦
          let is : too_long ≡ fault = cc (e, long.1) in
          subst (λ (f : FormulaFault). TextHasFault text f.code f.place) is (long.0, refl)
      | inr short ↦
          token-fault text fault.code fault.place (first_stands (lex text).tokens (lex text).end fault (sym short.1 ∙ e))
    ]

-- ---- and is the first

abbrev Given : List ℕ → FormulaCode → ℕ → Type 0
Given text c at = (fault : FormulaFault) × (fault_of_text text ≡ Some fault) × ComesFirst fault c at

after-long : (fault : FormulaFault) (c : FormulaCode) (at : ℕ) → fault.code ≡ code.TooLong → ComesFirst fault c at
after-long fault code.TooLong at e = e
after-long fault c at e = inl e

tokens-given : (text : List ℕ) (c : FormulaCode) (at : ℕ) → (longest_formula < length text → ⊥)
    → (f : FormulaFault) → Precedes f c at → TextHasFault text c at → ComesFirst f c at
tokens-given text code.TooLong at short f p h = absurd (short h.0)
tokens-given text c at short f p h = inr p

of-tokens : (text : List ℕ) (c : FormulaCode) (at : ℕ) → (longest_formula < length text → ⊥) → TextHasFault text c at → HasFault (lex text).tokens (lex text).end c at
of-tokens text code.TooLong at short h = absurd (short h.0)
of-tokens text c at short h = h

pub fault_precedes : (text : List ℕ) (c : FormulaCode) (at : ℕ) → TextHasFault text c at → Given text c at
fault_precedes text c at h =
    elim (lengths text) [
      | inl long ↦ (too_long, long.1, after-long too_long c at refl)
      | inr short ↦
          let p = first_precedes (lex text).tokens (lex text).end c at (lex_ascends text) (of-tokens text c at short.0 h) in
          (p.0, short.1 ∙ p.1, tokens-given text c at short.0 p.0 p.2 h)
    ]

-- ---- no two are first

-- the fault of each rank that tokens have
abbrev code_at : ℕ → FormulaCode
code_at n =
    if nat_eq n 0 then code.Token else
    (if nat_eq n 1 then code.Syntax else
    (if nat_eq n 2 then code.Number else
    (if nat_eq n 3 then code.TooDeep else code.TooManyNodes)))

ranked : (text : List ℕ) (c : FormulaCode) (at : ℕ) → TextHasFault text c at → (c ≡ code.TooLong → ⊥) → code_at (rank c) ≡ c
ranked text code.Token at h other_code = refl
ranked text code.Syntax at h other_code = refl
ranked text code.Number at h other_code = refl
ranked text code.TooDeep at h other_code = refl
ranked text code.TooManyNodes at h other_code = refl
ranked text code.TooLong at h other_code = absurd (other_code refl)
ranked text c at h other_code = absurd h

-- two faults of which each comes before the other, or is it
record Mutual (text : List ℕ) (f g : FormulaFault) : Type 0 where
  f_stands : TextHasFault text f.code f.place
  g_stands : TextHasFault text g.code g.place
  f_first : ComesFirst f g.code g.place
  g_first : ComesFirst g f.code f.place

same-fault : (f g : FormulaFault) → f.code ≡ g.code → f.place ≡ g.place → f ≡ g
same-fault f g e h = ap₂ (λ (c : FormulaCode) (p : ℕ). let made : FormulaFault = record { code = c; place = p } in made) e h

-- a fault of a text that is too long, at its place
place-of-long : (text : List ℕ) (c : FormulaCode) (at : ℕ) → c ≡ code.TooLong → TextHasFault text c at → at ≡ longest_formula
place-of-long text code.TooLong at e h = h.1
place-of-long text code.Token at e h = cc e
place-of-long text code.Syntax at e h = cc e
place-of-long text code.Number at e h = cc e
place-of-long text code.TooDeep at e h = cc e
place-of-long text code.TooManyNodes at e h = cc e
place-of-long text c at e h = absurd h

-- what too long comes before
before-long : (f : FormulaFault) (c : FormulaCode) (at : ℕ) → c ≡ code.TooLong → ComesFirst f c at → f.code ≡ code.TooLong
before-long f c at e h = let P : FormulaCode → Type 0 = λ d. ComesFirst f d at in subst P e h

-- one that is not too long comes before others by place and rank
by-rank : (f : FormulaFault) (c : FormulaCode) (at : ℕ) → (f.code ≡ code.TooLong → ⊥) → ComesFirst f c at → Precedes f c at
by-rank f code.TooLong at other_code h = absurd (other_code h)
by-rank f c at other_code h = elim h [ inl e ↦ absurd (other_code e) | inr p ↦ p ]

is-long : (c : FormulaCode) → (c ≡ code.TooLong) ⊎ (c ≡ code.TooLong → ⊥)
is-long code.TooLong = inl refl
is-long c = inr (λ e. cc e)

same-key : (a b r s : ℕ) → (a < b) ⊎ ((a ≡ b) × (r ≤ s)) → (b < a) ⊎ ((b ≡ a) × (s ≤ r)) → (a ≡ b) × (r ≡ s)
same-key a b r s (inl p) (inl q) = absurd (omega (arith, p, q))
same-key a b r s (inl p) (inr q) = absurd (omega (arith, p, q.0))
same-key a b r s (inr p) (inl q) = absurd (omega (arith, p.0, q))
same-key a b r s (inr p) (inr q) = (p.0, omega (arith, p.1, q.1))

one-first : (text : List ℕ) (f g : FormulaFault) → Mutual text f g → f ≡ g
one-first text f g m =
    elim (is-long f.code) [
      | inl e ↦
          let d = before-long g f.code f.place e m.g_first in
          same-fault f g (e ∙ sym d) (place-of-long text f.code f.place e m.f_stands ∙ sym (place-of-long text g.code g.place d m.g_stands))
      | inr other_code ↦
          let other : g.code ≡ code.TooLong → ⊥ = λ d. other_code (before-long f g.code g.place d m.f_first) in
          let key = same-key f.place g.place (rank f.code) (rank g.code) (by-rank f g.code g.place other_code m.f_first) (by-rank g f.code f.place other m.g_first) in
          same-fault f g
          (sym (ranked text f.code f.place m.f_stands other_code) ∙ ap code_at key.1 ∙ ranked text g.code g.place m.g_stands other)
          key.0
    ]

-- ---- the laws

pub given_is_first : (text : List ℕ) (fault : FormulaFault) → fault_of_text text ≡ Some fault → IsFirstFault text fault
given_is_first text fault e =
    record {
      stands = fault_stands text fault e;
      first = λ c at h.
          let g = fault_precedes text c at h in
          let is : g.0 ≡ fault = cc (e, g.1) in
          subst (λ (f : FormulaFault). ComesFirst f c at) is g.2;
    }

pub first_is_given : (text : List ℕ) (fault : FormulaFault) → IsFirstFault text fault → fault_of_text text ≡ Some fault
first_is_given text fault first =
    let g = fault_precedes text fault.code fault.place first.stands in
    let stands = fault_stands text g.0 g.1 in
    let same = one-first text g.0 fault (record {
      f_stands = stands;
      g_stands = first.stands;
      f_first = g.2;
      g_first = first.first g.0.code g.0.place stands;
    }) in
    g.1 ∙ ap Some same

pub none_has_none : (text : List ℕ) → fault_of_text text ≡ None → (c : FormulaCode) (at : ℕ) → TextHasFault text c at → ⊥
none_has_none text e c at h = let g = fault_precedes text c at h in cc (e, g.1)
