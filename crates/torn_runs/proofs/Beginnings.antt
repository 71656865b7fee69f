-- The first events of each process, and the events of a cut.
use Rattle.std.proofs.Common.{◌≡◌, ℕ, zero, suc, ◌≤◌, min, List, [], ◌∷◌, ◌++◌, length, take, drop, get_or, sym, ap, ◌∙◌, subst, refl, arith, le_refl}
use Rattle.std.proofs.lemmas.List.{length-append, length-take, take-append-drop, take-append-le, get_or_append_left, ext_get_or}
use Rattle.run_model.specs.Cut.{Cut, Clocks, count, IsWithin, lengths}
use Rattle.run_model.specs.Consistent.{clock, IsEvent, IsOrder, IsConsistent}
use Rattle.run_model.proofs.Counts.{same_counts, within_trans, length-lengths}
use Rattle.run_model.proofs.Orders.{event_up, event_of_run, has_past}
use Rattle.torn_runs.specs.Torn.{IsBeginning, IsLoggedWhole, upto}
use Rattle.torn_runs.specs.Laws.{IsLoggedCut}

-- the number of events of a process
pub count-lengths : (o : Clocks) (i : ℕ) → count (lengths o) i ≡ length (get_or o i [])
unfolding lengths
count-lengths [] i = refl
count-lengths (rows ∷ o) zero = refl
count-lengths (rows ∷ o) (suc i) = count-lengths o i

longer : (logged whole : Clocks) → IsBeginning logged whole → IsWithin (lengths logged) (lengths whole)
longer logged whole b i = omega (arith, count-lengths logged i, count-lengths whole i, ap length (b.each i).1, length-append (get_or logged i []) (b.each i).0)

-- a logged event has its past in the whole run
pub clock_same : (logged whole : Clocks) → IsBeginning logged whole → (i a : ℕ) → IsEvent (lengths logged) i a → clock whole i a ≡ clock logged i a
unfolding clock
clock_same logged whole b i zero ev = refl
clock_same logged whole b i (suc a) ev = ap (λ rows. get_or rows a []) (b.each i).1 ∙ get_or_append_left (get_or logged i []) (b.each i).0 [] a (omega (arith, ev.1, count-lengths logged i))

pub whole_to_cut : (logged whole : Clocks) (c : Cut) → IsBeginning logged whole → IsLoggedWhole logged c → IsLoggedCut logged whole c
whole_to_cut logged whole c b k = (
  record {
    shaped = k.shaped ∙ b.procs;
    within = within_trans c (lengths logged) (lengths whole) k.within (longer logged whole b);
    pasts = λ i pos. subst (λ past. IsWithin past c) (sym (clock_same logged whole b i (count c i) (pos, k.within i))) (k.pasts i (count c i) (pos, le_refl (count c i)));
  },
  k.within,
)

pub cut_to_whole : (logged whole : Clocks) (c : Cut) → IsBeginning logged whole → IsOrder whole → IsLoggedCut logged whole c → IsLoggedWhole logged c
cut_to_whole logged whole c b order k = record {
  shaped = k.0.shaped ∙ sym b.procs;
  within = k.1;
  pasts = λ i a ev. subst (λ past. IsWithin past c) (clock_same logged whole b i a (event_up c (lengths logged) i a k.1 ev)) (has_past whole order c k.0 i a ev);
}

-- ---- the events of a cut

pub length-upto : (o : Clocks) (c : Cut) → length (upto o c) ≡ length o
length-upto [] c = refl
length-upto (rows ∷ o) [] = ap suc (length-upto o [])
length-upto (rows ∷ o) (n ∷ c) = ap suc (length-upto o c)

abbrev no_rows : List Cut
no_rows = []

take_empty : (n : ℕ) → take n no_rows ≡ []
take_empty zero = refl
take_empty (suc n) = refl

pub row-upto : (o : Clocks) (c : Cut) (i : ℕ) → get_or (upto o c) i [] ≡ take (count c i) (get_or o i [])
row-upto [] c i = sym (take_empty (count c i))
row-upto (rows ∷ o) [] zero = refl
row-upto (rows ∷ o) [] (suc i) = row-upto o [] i
row-upto (rows ∷ o) (n ∷ c) zero = refl
row-upto (rows ∷ o) (n ∷ c) (suc i) = row-upto o c i

pub upto_begins : (o : Clocks) (c : Cut) → IsBeginning (upto o c) o
upto_begins o c = record {
  procs = length-upto o c;
  each = λ p. (drop (count c p) (get_or o p []), sym (ap (λ rows. rows ++ drop (count c p) (get_or o p [])) (row-upto o c p) ∙ take-append-drop (count c p) (get_or o p [])));
}

pub count-upto : (o : Clocks) (c : Cut) (i : ℕ) → count (lengths (upto o c)) i ≡ min (count c i) (count (lengths o) i)
count-upto o c i = count-lengths (upto o c) i ∙ ap length (row-upto o c i) ∙ length-take (count c i) (get_or o i []) ∙ ap (min (count c i)) (sym (count-lengths o i))

pub lengths-upto : (o : Clocks) (c : Cut) → length c ≡ length o → IsWithin c (lengths o) → lengths (upto o c) ≡ c
lengths-upto o c e h = same_counts (lengths (upto o c)) c (length-lengths (upto o c) ∙ length-upto o c ∙ sym e) (λ i. omega (arith, count-upto o c i, h i))

pub upto_same : (logged whole : Clocks) (c : Cut) → IsBeginning logged whole → IsWithin c (lengths logged) → upto logged c ≡ upto whole c
upto_same logged whole c b h = ext_get_or [] (upto logged c) (upto whole c) (length-upto logged c ∙ b.procs ∙ sym (length-upto whole c)) (λ i l.
    row-upto logged c i
    ∙ sym (take-append-le (count c i) (get_or logged i []) (b.each i).0 (omega (arith, h i, count-lengths logged i)))
    ∙ ap (take (count c i)) (sym (b.each i).1)
    ∙ sym (row-upto whole c i))

pub clock-upto : (o : Clocks) (c : Cut) (i a : ℕ) → length c ≡ length o → IsWithin c (lengths o) → IsEvent c i a → clock (upto o c) i a ≡ clock o i a
clock-upto o c i a e h ev = sym (clock_same (upto o c) o (upto_begins o c) i a (subst (λ d. IsEvent d i a) (sym (lengths-upto o c e h)) ev))

pub upto_order : (o : Clocks) (c : Cut) → IsOrder o → IsConsistent o c → IsOrder (upto o c)
upto_order o c order k =
    let all : lengths (upto o c) ≡ c = lengths-upto o c k.shaped k.within in
    let inside : (i a : ℕ) → IsEvent (lengths (upto o c)) i a → IsEvent c i a = λ i a ev. subst (λ d. IsEvent d i a) all ev in
    let known : (i a : ℕ) → IsEvent (lengths (upto o c)) i a → IsEvent (lengths o) i a = λ i a ev. event_of_run o c k i a (inside i a ev) in
    let same : (i a : ℕ) → IsEvent (lengths (upto o c)) i a → clock (upto o c) i a ≡ clock o i a = λ i a ev. clock-upto o c i a k.shaped k.within (inside i a ev) in
    let past : (i a j b : ℕ) → IsEvent (lengths (upto o c)) i a → IsEvent (clock o i a) j b → IsEvent (lengths (upto o c)) j b =
    λ i a j b ev within. subst (λ d. IsEvent d j b) (sym all) (event_up (clock o i a) c j b (has_past o order c k i a (inside i a ev)) within) in
    record {
      shaped = λ i a ev. ap length (same i a ev) ∙ order.shaped i a (known i a ev) ∙ sym (length-upto o c);
      own = λ i a ev. ap (λ d. count d i) (same i a ev) ∙ order.own i a (known i a ev);
      named = λ i a ev. subst (λ d. IsWithin (clock (upto o c) i a) d) (sym all) (subst (λ d. IsWithin d c) (sym (same i a ev)) (has_past o order c k i a (inside i a ev)));
      transitive = λ i a j b ev within.
          let here : IsEvent (clock o i a) j b = subst (λ d. IsEvent d j b) (same i a ev) within in
          subst (λ d. IsWithin d (clock (upto o c) i a)) (sym (same j b (past i a j b ev here)))
          (subst (λ d. IsWithin (clock o j b) d) (sym (same i a ev)) (order.transitive i a j b (known i a ev) here));
      loopless = λ i a j b ev within back.
          let here : IsEvent (clock o i a) j b = subst (λ d. IsEvent d j b) (same i a ev) within in
          order.loopless i a j b (known i a ev) here (subst (λ d. a ≤ count d i) (same j b (past i a j b ev here)) back);
    }

pub cuts_from : (o : Clocks) (c d : Cut) → IsConsistent o c → IsConsistent (upto o c) d → IsConsistent o d × IsWithin d c
cuts_from o c d k m =
    let all : lengths (upto o c) ≡ c = lengths-upto o c k.shaped k.within in
    let inside : IsWithin d c = subst (λ x. IsWithin d x) all m.within in (
      record {
        shaped = m.shaped ∙ length-upto o c;
        within = within_trans d c (lengths o) inside k.within;
        pasts = λ i pos. subst (λ x. IsWithin x d) (clock-upto o c i (count d i) k.shaped k.within (pos, inside i)) (m.pasts i pos);
      },
      inside,
    )

pub cuts_to : (o : Clocks) (c d : Cut) → IsConsistent o c → IsConsistent o d → IsWithin d c → IsConsistent (upto o c) d
cuts_to o c d k m inside = record {
  shaped = m.shaped ∙ sym (length-upto o c);
  within = subst (λ x. IsWithin d x) (sym (lengths-upto o c k.shaped k.within)) inside;
  pasts = λ i pos. subst (λ x. IsWithin x d) (sym (clock-upto o c i (count d i) k.shaped k.within (pos, inside i))) (m.pasts i pos);
}
