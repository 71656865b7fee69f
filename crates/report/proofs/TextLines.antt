-- Texts of lines: how two that begin alike go on.
use Rattle.std.proofs.Common.{◌≡◌, ℕ, zero, suc, ◌+◌, ◌<◌, ◌≤◌, Bool, true, false, cond, List, [], ◌∷◌, ◌++◌, length, refl, sym, ap, subst, ◌∙◌, arith, inl, inr, append_assoc, append-nil}
use Rattle.std.specs.Prelude.{◌==◌, count_by}
use Rattle.std.specs.List.{AllByRecursion}
use Rattle.std.proofs.lemmas.Bool.{cases_Bool, eqb-true, true≢false}
use Rattle.std.proofs.lemmas.List.{length-append}
use Rattle.std.proofs.lemmas.List.Sums.{sum_by-append, sum_by-cons}
use Rattle.event_log.specs.Before.{Line}
use Rattle.event_log.specs.LogText.{text_of}
use Rattle.event_log.specs.Moments.{IsPlainByte, HasNoFeed}
use Rattle.report.specs.Fault.{feeds}

-- ---- line feeds

abbrev one_feed : ℕ → ℕ
one_feed b = cond (b == 10) 1 0

feeds-cons : (b : ℕ) (xs : List ℕ) → feeds (b ∷ xs) ≡ one_feed b + feeds xs
feeds-cons b xs = sum_by-cons one_feed b xs

pub feeds-append : (xs ys : List ℕ) → feeds (xs ++ ys) ≡ feeds xs + feeds ys
feeds-append xs ys = sum_by-append one_feed xs ys

pub feeds-plain : (xs : List ℕ) → HasNoFeed xs → feeds xs ≡ 0
feeds-plain [] plain = refl
feeds-plain (b ∷ xs) plain = feeds-cons b xs ∙ rw (plain.0, feeds-plain xs plain.1) (omega arith)

pub feeds-line : (line rest : List ℕ) → HasNoFeed line → feeds (line ++ 10 ∷ rest) ≡ 1 + feeds rest
feeds-line line rest plain = feeds-append line (10 ∷ rest) ∙ rw (feeds-plain line plain, feeds-cons 10 rest) (omega arith)

abbrev pub ArePlain : List Line → Type 0
ArePlain lines = AllByRecursion HasNoFeed lines

pub feeds-text : (lines : List Line) → ArePlain lines → feeds (text_of lines) ≡ length lines
feeds-text [] plain = refl
feeds-text (l ∷ lines) plain = feeds-line l (text_of lines) plain.0 ∙ rw (feeds-text lines plain.1) (omega arith)

-- ---- the first line feed of a text

record HasFeed (p : List ℕ) : Type 0 where
  line : List ℕ
  rest : List ℕ
  text_is : p ≡ line ++ 10 ∷ rest
  plain : HasNoFeed line
  feeds_are : feeds p ≡ 1 + feeds rest

first_feed : (p : List ℕ) → 0 < feeds p → HasFeed p
first_feed [] some = absurd (omega arith)
first_feed (b ∷ p) some = elim (cases_Bool (b == 10)) [
  | inl feed ↦
      let is : b ≡ 10 = eqb-true b 10 feed in
      record { line = []; rest = p; text_is = ap (λ (x : ℕ). x ∷ p) is; plain = tt; feeds_are = feeds-cons b p ∙ rw feed refl }
  | inr plain ↦
      let same : feeds (b ∷ p) ≡ feeds p = feeds-cons b p ∙ rw plain (omega arith) in
      let more = first_feed p (omega (arith, same)) in
      record { line = b ∷ more.line; rest = more.rest; text_is = ap (λ (t : List ℕ). b ∷ t) more.text_is; plain = (plain, more.plain); feeds_are = same ∙ more.feeds_are }
]

same_head : (a b : ℕ) (xs ys : List ℕ) → ◌≡◌ {A = List ℕ} (a ∷ xs) (b ∷ ys) → (a ≡ b) × (xs ≡ ys)
same_head a b xs ys e = (cc, cc)

feed_not_plain : (b : ℕ) → (b == 10) ≡ false → 10 ≡ b → ⊥
feed_not_plain b plain e = true≢false (subst (λ (x : ℕ). (x == 10) ≡ false) (sym e) plain)

-- what stands before the first line feed
one_line : (xs ys s t : List ℕ) → HasNoFeed xs → HasNoFeed ys → xs ++ 10 ∷ s ≡ ys ++ 10 ∷ t → (xs ≡ ys) × (s ≡ t)
one_line [] [] s t px py e = (refl, (same_head 10 10 s t e).1)
one_line [] (y ∷ ys) s t px py e = absurd (feed_not_plain y py.0 (same_head 10 y s (ys ++ 10 ∷ t) e).0)
one_line (x ∷ xs) [] s t px py e = absurd (feed_not_plain x px.0 (sym (same_head x 10 (xs ++ 10 ∷ s) t e).0))
one_line (x ∷ xs) (y ∷ ys) s t px py e =
    let h = same_head x y (xs ++ 10 ∷ s) (ys ++ 10 ∷ t) e in
    let more = one_line xs ys s t px.1 py.1 h.1 in
    (ap (λ (b : ℕ). b ∷ xs) h.0 ∙ ap (λ (l : List ℕ). y ∷ l) more.0, more.1)

-- ---- two texts with a common beginning

pub record Continues (ls ms : List Line) : Type 0 where
  pub more : List Line
  pub lines_are : ms ≡ ls ++ more

-- A text that begins as one of lines does, with a line feed for each of them, goes on from them.
pub continues : (ls ms : List Line) (u p x y : List ℕ) → ArePlain ls → ArePlain ms → p ++ x ≡ text_of ls ++ u → p ++ y ≡ text_of ms → length ls ≤ feeds p → Continues ls ms
continues [] ms u p x y pl pm e f enough = record { more = ms; lines_are = refl }
continues (l ∷ ls) [] u p x y pl pm e f enough =
    let none : feeds p + feeds y ≡ 0 = sym (feeds-append p y) ∙ ap feeds f in
    absurd (omega arith)
continues (l ∷ ls) (m ∷ ms) u p x y pl pm e f enough =
    let first = first_feed p (omega arith) in
    let split : (z : List ℕ) → first.line ++ 10 ∷ (first.rest ++ z) ≡ p ++ z = λ z. sym (ap (λ (t : List ℕ). t ++ z) first.text_is ∙ append_assoc first.line (10 ∷ first.rest) z) in
    let left = one_line first.line l (first.rest ++ x) (text_of ls ++ u) first.plain pl.0 (split x ∙ e ∙ append_assoc l (10 ∷ text_of ls) u) in
    let right = one_line first.line m (first.rest ++ y) (text_of ms) first.plain pm.0 (split y ∙ f) in
    let more = continues ls ms u first.rest x y pl.1 pm.1 left.1 right.1 (omega (arith, first.feeds_are)) in
    record { more = more.more; lines_are = ap (λ (line : Line). line ∷ ms) (sym right.0 ∙ left.0) ∙ ap (λ (rest : List Line). l ∷ rest) more.lines_are }

-- a text of lines without a line feed has no line
pub no_lines : (ls : List Line) → HasNoFeed (text_of ls) → ls ≡ []
no_lines [] plain = refl
no_lines (l ∷ ls) plain =
    let none = feeds-plain (text_of (l ∷ ls)) plain in
    let some : feeds (text_of (l ∷ ls)) ≡ feeds l + (1 + feeds (text_of ls)) = feeds-append l (10 ∷ text_of ls) ∙ ap (λ (n : ℕ). feeds l + n) (feeds-cons 10 (text_of ls)) in
    absurd (omega (arith, none, some))

-- of two fronts of a text the longer one begins with the other
pub longer_front : (p q x y : List ℕ) → p ++ x ≡ q ++ y → length p ≤ length q → feeds p ≤ feeds q
longer_front [] q x y e le = omega arith
longer_front (b ∷ p) [] x y e le = absurd (omega arith)
longer_front (b ∷ p) (c ∷ q) x y e le =
    let h = same_head b c (p ++ x) (q ++ y) e in
    let more = longer_front p q x y h.1 (omega arith) in
    omega (arith, feeds-cons b p, feeds-cons c q, ap one_feed h.0)
