-- Marks are apart, and escaped texts have no tag.
use Rattle.std.proofs.Common.{◌≡◌, ℕ, zero, suc, ◌+◌, ◌-◌, ◌<◌, ◌≤◌, Bool, true, false, List, [], ◌∷◌, ◌++◌, length, get_or, take, refl, sym, ap, subst, ◌∙◌, arith, inl, inr}
use Rattle.std.specs.Prelude.{◌==◌, if◌then◌else◌}
use Rattle.std.specs.List.{AllByRecursion, count_by}
use Rattle.std.proofs.lemmas.Bool.{cases_Bool, cases_eq, cases_lt, eqb-false}
use Rattle.std.proofs.lemmas.List.Sums.{sum_by-cons}
use Rattle.run_model.specs.Cut.{Clocks, count, lengths}
use Rattle.run_model.specs.Consistent.{IsOrder}
use Rattle.run_model.proofs.Counts.{length-lengths}
use Rattle.causal_order.proofs.Orders.{event_there}
use Rattle.pota_base.specs.declared.shape.EventId.{EventId}
use Rattle.pota_base.specs.Shape.{HasEvent}
use Rattle.view_picture.specs.Columns.{Rows, AreColumns, column}
use Rattle.view_picture.specs.Shown.{has_shown, rank}
use Rattle.view_picture.specs.Svg.{escape, escaped}
use Rattle.view_picture.specs.Frame.{column_at}
use Rattle.view_picture.specs.Laws.{MarksAreApart, IsNoBracket, EscapedHasNoTag}
use Rattle.view_picture.proofs.Shown.{less, some, lower, no_less}

pub columns_apart : (left : ℕ) (wide : Bool) (c d : ℕ) → c < d → column_at left wide c + 48 ≤ column_at left wide d
columns_apart left true c d lt = omega arith
columns_apart left false c d lt = omega arith

same_place : (e g : EventId) → e.process ≡ g.process → e.position ≡ g.position → e ≡ g
same_place e g h k = ap (λ (p : ℕ). record { process = p; position = e.position }) h ∙ ap (λ (a : ℕ). record { process = g.process; position = a }) k

-- ---- lanes

count-cons : (row : List ℕ) (rows : Rows) → count_by has_shown (row ∷ rows) ≡ (if has_shown row then 1 else 0) + count_by has_shown rows
count-cons row rows = sum_by-cons (λ (r : List ℕ). if has_shown r then 1 else 0) row rows

pub one_counted : (row : List ℕ) (rows : Rows) → has_shown row ≡ true → count_by has_shown (row ∷ rows) ≡ 1 + count_by has_shown rows
one_counted row rows has = count-cons row rows ∙ ap (λ (b : Bool). (if b then 1 else 0) + count_by has_shown rows) has

pub none_counted : (row : List ℕ) (rows : Rows) → has_shown row ≡ false → count_by has_shown (row ∷ rows) ≡ 0 + count_by has_shown rows
none_counted row rows hasnt = count-cons row rows ∙ ap (λ (b : Bool). (if b then 1 else 0) + count_by has_shown rows) hasnt

-- a process that has a shown event comes before those behind it
pub rank_below : (rows : Rows) (p q : ℕ) → p < q → p < length rows → has_shown (get_or rows p []) ≡ true → rank rows p < rank rows q
rank_below [] p q lt there has = absurd (omega (arith, there))
rank_below (row ∷ rows) p zero lt there has = absurd (omega (arith, lt))
rank_below (row ∷ rows) zero (suc q) lt there has = omega (arith, one_counted row (take q rows) has)
rank_below (row ∷ rows) (suc p) (suc q) lt there has =
    let more = rank_below rows p q (omega (arith, lt)) (omega (arith, there)) has in
    elim (cases_Bool (has_shown row)) [
      | inl first ↦ omega (arith, more, one_counted row (take p rows) first, one_counted row (take q rows) first)
      | inr other ↦ omega (arith, more, none_counted row (take p rows) other, none_counted row (take q rows) other)
    ]

-- a process with a shown event has one by its columns
pub lane_of : (o : Clocks) (shown : EventId → Bool) (rows : Rows) → IsOrder o → AreColumns o shown rows → (e : EventId) → HasEvent (lengths o) e → shown e ≡ true → has_shown (get_or rows e.process []) ≡ true
lane_of o shown rows order columns e h shows =
    let there = event_there o e h in
    let known : e.process < length o = omega (arith, h.process, length-lengths o) in
    let width = columns.widths e.process known in
    let end : length (get_or rows e.process []) - 1 ≡ count (lengths o) e.process = omega (arith, width) in
    let own = some o shown rows columns e.process e.position shows there in
    let last = no_less o shown rows order columns e.process e.position (count (lengths o) e.process) there.1 (omega arith) in
    less 0 (column rows e.process (length (get_or rows e.process []) - 1)) (omega (arith, own, last, ap (column rows e.process) end))

pub marks_are_apart : MarksAreApart
marks_are_apart o shown f rows order columns e g he hg se sg ne = elim (cases_eq e.process g.process) [
  | inr other ↦ elim (cases_lt e.process g.process) [
    | inl lt ↦ inr (inl (omega (arith, rank_below rows e.process g.process lt (there e he) (lane_of o shown rows order columns e he se))))
    | inr ge ↦ inr (inr (omega (arith, rank_below rows g.process e.process (omega (arith, ge, other)) (there g hg) (lane_of o shown rows order columns g hg sg))))
  ]
  | inl same ↦ elim (cases_lt e.position g.position) [
    | inl lt ↦ inl (inl (columns_apart f.left f.wide (column rows e.process e.position) (column rows g.process g.position)
        (subst (λ (p : ℕ). column rows p e.position < column rows g.process g.position) (sym same)
        (lower o shown rows order columns g.process e.position g.position lt (event_there o g hg).1 sg))))
    | inr ge ↦ elim (cases_lt g.position e.position) [
      | inl lt ↦ inl (inr (columns_apart f.left f.wide (column rows g.process g.position) (column rows e.process e.position)
          (subst (λ (p : ℕ). column rows p g.position < column rows e.process e.position) same
          (lower o shown rows order columns e.process g.position e.position lt (event_there o e he).1 se))))
      | inr le ↦ absurd (ne (same_place e g same (omega (arith, ge, le))))
    ]
  ]
]
  where
    there : (x : EventId) → HasEvent (lengths o) x → x.process < length rows
    there x h = omega (arith, h.process, columns.procs, length-lengths o)

-- ---- escaped texts

all-append : (xs ys : List ℕ) → AllByRecursion IsNoBracket xs → AllByRecursion IsNoBracket ys → AllByRecursion IsNoBracket (xs ++ ys)
all-append [] ys hx hy = hy
all-append (x ∷ xs) ys hx hy = (hx.0, all-append xs ys hx.1 hy)

plain : (b : ℕ) → (b == 60) ≡ false → (b == 62) ≡ false → IsNoBracket b
plain b h k = (eqb-false b 60 h, eqb-false b 62 k)

escape_plain : (b : ℕ) → AllByRecursion IsNoBracket (escape b)
escape_plain b = elim (cases_Bool (b == 38)) [
  | inl amp ↦ rw amp (plain 38 refl refl, (plain 97 refl refl, (plain 109 refl refl, (plain 112 refl refl, (plain 59 refl refl, tt)))))
  | inr no_amp ↦ elim (cases_Bool (b == 60)) [
    | inl less ↦ rw (no_amp, less) (plain 38 refl refl, (plain 108 refl refl, (plain 116 refl refl, (plain 59 refl refl, tt))))
    | inr no_less ↦ elim (cases_Bool (b == 62)) [
      | inl more ↦ rw (no_amp, no_less, more) (plain 38 refl refl, (plain 103 refl refl, (plain 116 refl refl, (plain 59 refl refl, tt))))
      | inr no_more ↦ rw (no_amp, no_less, no_more) (plain b no_less no_more, tt)
    ]
  ]
]

pub escaped_has_no_tag : EscapedHasNoTag
escaped_has_no_tag [] = tt
escaped_has_no_tag (b ∷ bytes) = all-append (escape b) (escaped bytes) (escape_plain b) (escaped_has_no_tag bytes)
