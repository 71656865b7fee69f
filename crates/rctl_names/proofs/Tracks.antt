-- The first name without a number is the first unknown name, as long as the processes of watches are kept in step.
use Rattle.std.proofs.Common.{◌≡◌, ℕ, zero, suc, ◌<◌, ◌==◌, Bool, true, false, not, ◌||◌, List, [], ◌∷◌, ◌++◌, map, length, get_or, set, replicate, Option, None, Some, is_some, if◌then◌else◌, sym, ap, refl, ◌∙◌, inl, inr, arith, rules, subst}
use Rattle.std.proofs.lemmas.Bool.{and_parts, cases_Bool, false≢true}
use Rattle.std.proofs.lemmas.Bool.Decides.{nat_tests}
use Rattle.std.proofs.lemmas.List.{map-append}
use Rattle.std.proofs.lemmas.Slice.Eq.{bytes_eq-Decides}
use Rattle.std.specs.Prelude.{bytes_eq}
use Rattle.run_model.specs.Run.{Name}
use Rattle.log_lines.specs.Names.{place_of}
use Rattle.rctl_grammar.specs.declared.fault.FormulaCode.{FormulaCode}
use Rattle.rctl_grammar.specs.declared.fault.FormulaCode.TheVariants as code
use Rattle.rctl_grammar.specs.declared.fault.FormulaFault.{FormulaFault}
use Rattle.rctl_grammar.specs.declared.tree.Place.{Place}
use Rattle.rctl_parts.specs.Spelled.{Names}
use Rattle.rctl_class.specs.declared.named.NamedSide.TheVariants as side
use Rattle.rctl_class.specs.Uses as used
use Rattle.rctl_class.specs.Uses.{Use, KnownNames, Watching, is_elsewhere, fault_at, use_fault, seen_with, earlier, first_unknown, seen_after}
use Rattle.rctl_class.specs.NamedParts as named
use Rattle.rctl_class.specs.NamedParts.{expr_uses, all_expr_uses, part_uses, operand_uses, parts_uses, disjuncts_uses}
use Rattle.rctl_class.proofs.Alike.{none_both}
use Rattle.rctl_class.proofs.Names.{unknown_joined, seen_joined, operand_names}
use Rattle.rctl_names.specs.Numbers.{number, variables_of, known_in}
use Rattle.rctl_names.specs.inside.Numbers.{Watched, variable_fault, process_fault, watch_fault}
use Rattle.rctl_names.specs.inside.Numbers.{watch_fault_at, unless_known, put, put_at, is_other}
use Rattle.rctl_names.specs.inside.Numbers.{LocalName, a_variable, a_watch, local_names}
use Rattle.rctl_names.specs.inside.Numbers.{all_local_names, local_fault, local_after}
use Rattle.rctl_names.specs.inside.Numbers.{counter_fault, difference_fault, part_fault}
use Rattle.rctl_names.specs.inside.Numbers.{operand_fault, part_after, operand_after}
use Rattle.rctl_names.specs.inside.Numbers.{disjuncts_fault, disjuncts_after}
use Rattle.rctl_names.proofs.Lookups.{found_number, found_once, found_within, same_place}
use Rattle.rctl_names.proofs.Spells.{watch_known}

-- ---- the names of an expression, with their process

abbrev on : Name → LocalName → Use
on p (a_variable v) = used.variable p v
on p (a_watch w) = used.watch p w

mutual
  uses_on : (p : Name) (e : named.Expr) → expr_uses p e ≡ map (on p) (local_names e)
  uses_on p (named.truth value) = refl
  uses_on p (named.comparison left compare (side.Number value)) = refl
  uses_on p (named.comparison left compare (side.Variable v)) = refl
  uses_on p (named.watched name) = refl
  uses_on p (named.negation e) = uses_on p e
  uses_on p (named.conjunction es) = all_uses_on p es
  uses_on p (named.disjunction es) = all_uses_on p es

  all_uses_on : (p : Name) (es : named.Exprs) → all_expr_uses p es ≡ map (on p) (all_local_names es)
  all_uses_on p named.no_expr = refl
  all_uses_on p (named.and_expr e es) = rw (uses_on p e, all_uses_on p es) (sym (map-append (on p) (local_names e) (all_local_names es)))

-- ---- entries

pub set_there : (l : List (Option ℕ)) (k : ℕ) (x : Option ℕ) → k < length l → get_or (set l k x) k None ≡ x
set_there [] k x lt = absurd (omega arith)
set_there (o ∷ l) zero x lt = refl
set_there (o ∷ l) (suc k) x lt = set_there l k x (omega arith)

pub set_others : (l : List (Option ℕ)) (k j : ℕ) (x : Option ℕ) → (k ≡ j → ⊥) → get_or (set l k x) j None ≡ get_or l j None
set_others [] k j x differ = refl
set_others (o ∷ l) zero zero x differ = absurd (differ refl)
set_others (o ∷ l) zero (suc j) x differ = refl
set_others (o ∷ l) (suc k) zero x differ = refl
set_others (o ∷ l) (suc k) (suc j) x differ = set_others l k j x (λ e. differ (ap suc e))

pub set_length : (l : List (Option ℕ)) (k : ℕ) (x : Option ℕ) → length (set l k x) ≡ length l
set_length [] k x = refl
set_length (o ∷ l) zero x = refl
set_length (o ∷ l) (suc k) x = ap suc (set_length l k x)

abbrev pub unset : Option ℕ
unset = None

pub none_replicated : (n k : ℕ) → get_or (replicate n unset) k None ≡ unset
none_replicated zero k = refl
none_replicated (suc n) zero = refl
none_replicated (suc n) (suc k) = none_replicated n k

pub length_replicated : (n : ℕ) → length (replicate n unset) ≡ n
length_replicated zero = refl
length_replicated (suc n) = ap suc (length_replicated n)

-- ---- in step

-- each watch that stood on a process so far is entered with that process
pub record Tracks (names : Names) (seen : List Watching) (s : Watched) : Type 0 where
  pub same : s.names ≡ names.watches
  pub sized : length s.on ≡ length names.watches
  pub tells : (p w : Name) (i k : ℕ) → place_of names.processes p ≡ Some i → place_of names.watches w ≡ Some k → is_elsewhere seen p w ≡ is_other (get_or s.on k None) i

abbrev pub opened : Names → Watched
opened names = record { names = names.watches; on = replicate (length names.watches) unset }

pub opens : (names : Names) → Tracks names [] (opened names)
opens names = record {
  same = refl;
  sized = length_replicated (length names.watches);
  tells = λ p w i k a b. ap (λ o. is_other o i) (sym (none_replicated (length names.watches) k));
}

unless_is : (c : FormulaCode) (place : Place) (o : Option ℕ) → (if is_some o then None else fault_at c place.at) ≡ unless_known c place o
unless_is c place None = refl
unless_is c place (Some n) = refl

watch_fault_is : (names : Names) (seen : List Watching) (s : Watched) (p : Name) (i : ℕ) (w : Place) → Tracks names seen s → place_of names.processes p ≡ Some i →
    use_fault (known_in names) seen (used.watch p w) ≡ watch_fault s i w
watch_fault_is names seen s p i w tracks found =
    by_place (place_of names.watches w.name) refl ∙ ap (λ ws. watch_fault_at s i w (place_of ws w.name)) (sym tracks.same) where
      by_place : (o : Option ℕ) → place_of names.watches w.name ≡ o → use_fault (known_in names) seen (used.watch p w) ≡ watch_fault_at s i w (place_of names.watches w.name)
      by_place None e = rw e refl
      by_place (Some k) e = rw (e, tracks.tells p w.name i k found e) refl

same_test : (i j : ℕ) → i ≡ j → not (i == j) ≡ false
same_test i j e = search (rules, nat_tests)

other_test : (i j : ℕ) → (i ≡ j → ⊥) → not (i == j) ≡ true
other_test i j differ = search (rules, nat_tests)

if_other : (b : Bool) (f : FormulaFault) → (if b then Some f else None) ≡ None → b ≡ false
if_other true f h = absurd (cc)
if_other false f h = refl

pub watch_free : (s : Watched) (i k : ℕ) (w : Place) → place_of s.names w.name ≡ Some k → watch_fault s i w ≡ None → is_other (get_or s.on k None) i ≡ false
watch_free s i k w found free = if_other (is_other (get_or s.on k None) i) _ (ap (watch_fault_at s i w) (sym found) ∙ free)

pub put_found : (s : Watched) (i k : ℕ) (w : Place) → place_of s.names w.name ≡ Some k → put s i w ≡ record { names = s.names; on = set s.on k (Some i) }
put_found s i k w found = ap (put_at s i) found

watch_tracks : (names : Names) (seen : List Watching) (s : Watched) (p : Name) (i : ℕ) (w : Place) → Tracks names seen s → place_of names.processes p ≡ Some i →
    watch_fault s i w ≡ None → Tracks names (record { watch = w.name; process = p } ∷ seen) (put s i w)
watch_tracks names seen s p i w tracks found free =
    let is = watch_known s i w free in
    let k = is.at in
    let there : place_of names.watches w.name ≡ Some k = ap (λ ws. place_of ws w.name) (sym tracks.same) ∙ is.found in
    let within : k < length s.on = omega (arith, found_within names.watches w.name k there, tracks.sized) in
    let quiet = watch_free s i k w is.found free in
    let P : Watched → Type 0 = λ t. Tracks names (record { watch = w.name; process = p } ∷ seen) t in
    subst P (sym (put_found s i k w is.found)) (record {
      same = tracks.same;
      sized = set_length s.on k (Some i) ∙ tracks.sized;
      tells = λ q v j m at_q at_v. elim (cases_Bool (bytes_eq w.name v)) [
        | inl same ↦
            let e : w.name ≡ v = (bytes_eq-Decides w.name v).0 same in
            let one : k ≡ m = same_place names.watches v k m (ap (place_of names.watches) (sym e) ∙ there) at_v in
            let entry : get_or (set s.on k (Some i)) m None ≡ Some i = ap (λ n. get_or (set s.on k (Some i)) n None) (sym one) ∙ set_there s.on k (Some i) within in
            elim (cases_Bool (bytes_eq p q)) [
              | inl alike ↦
                  let f : p ≡ q = (bytes_eq-Decides p q).0 alike in
                  let g : i ≡ j = same_place names.processes q i j (ap (place_of names.processes) (sym f) ∙ found) at_q in
                  let before : is_elsewhere seen q v ≡ false = tracks.tells q v j m at_q at_v ∙ ap (λ n. is_other (get_or s.on n None) j) (sym one) ∙ ap (is_other (get_or s.on k None)) (sym g) ∙ quiet in
                  rw (same, alike, before, entry) (sym (same_test i j g))
              | inr unlike ↦ rw (same, unlike, entry)
                  (sym (other_test i j (λ g. false≢true (sym unlike ∙ (bytes_eq-Decides p q).1 (found_once names.processes p q j (found ∙ ap Some g) at_q)))))
            ]
        | inr differ ↦ rw differ (tracks.tells q v j m at_q at_v
            ∙ ap (λ o. is_other o j) (sym (set_others s.on k m (Some i)
            (λ e. false≢true (sym differ ∙ (bytes_eq-Decides w.name v).1 (found_once names.watches w.name v m (there ∙ ap Some e) at_v))))))
      ];
    })

-- ---- the names of one process

local_faults : (names : Names) (seen : List Watching) (s : Watched) (p : Name) (i : ℕ) (us : List LocalName) → Tracks names seen s → place_of names.processes p ≡ Some i →
    local_fault (variables_of names p) i s us ≡ first_unknown (known_in names) seen (map (on p) us)
unfolding first_unknown
local_faults names seen s p i [] tracks found = refl
local_faults names seen s p i (a_variable v ∷ us) tracks found =
    ap (λ f. earlier f (local_fault (variables_of names p) i s us)) (sym (unless_is code.UnknownVariable v (place_of (variables_of names p) v.name)))
    ∙ ap (earlier (use_fault (known_in names) seen (used.variable p v))) (local_faults names seen s p i us tracks found)
local_faults names seen s p i (a_watch w ∷ us) tracks found =
    by_fault (watch_fault s i w) refl
    (λ free. local_faults names (seen_with seen (used.watch p w)) (put s i w) p i us (watch_tracks names seen s p i w tracks found free) found) where
      by_fault : (o : Option FormulaFault) → watch_fault s i w ≡ o → (watch_fault s i w ≡ None → local_fault (variables_of names p) i (put s i w) us ≡ first_unknown (known_in names) (seen_with seen (used.watch p w)) (map (on p) us)) →
          earlier (watch_fault s i w) (local_fault (variables_of names p) i (put s i w) us) ≡ earlier (use_fault (known_in names) seen (used.watch p w)) (first_unknown (known_in names) (seen_with seen (used.watch p w)) (map (on p) us))
      by_fault None e next = rw (watch_fault_is names seen s p i w tracks found, e) (next e)
      by_fault (Some f) e next = rw (watch_fault_is names seen s p i w tracks found, e) refl

local_tracks : (names : Names) (seen : List Watching) (s : Watched) (p : Name) (i : ℕ) (us : List LocalName) → Tracks names seen s → place_of names.processes p ≡ Some i →
    local_fault (variables_of names p) i s us ≡ None → Tracks names (seen_after seen (map (on p) us)) (local_after i s us)
unfolding seen_after
local_tracks names seen s p i [] tracks found free = tracks
local_tracks names seen s p i (a_variable v ∷ us) tracks found free =
    local_tracks names seen s p i us tracks found (none_both (variable_fault (variables_of names p) v) (local_fault (variables_of names p) i s us) free).1
local_tracks names seen s p i (a_watch w ∷ us) tracks found free =
    let both = none_both (watch_fault s i w) (local_fault (variables_of names p) i (put s i w) us) free in
    local_tracks names (seen_with seen (used.watch p w)) (put s i w) p i us (watch_tracks names seen s p i w tracks found both.0) found both.1

-- ---- constants have no names

mutual
  constant_names : (e : named.Expr) → named.is_constant e ≡ true → local_names e ≡ []
  constant_names (named.truth value) h = refl
  constant_names (named.comparison left compare right) h = absurd (false≢true h)
  constant_names (named.watched name) h = absurd (false≢true h)
  constant_names (named.negation e) h = constant_names e h
  constant_names (named.conjunction es) h = constants_names es h
  constant_names (named.disjunction es) h = constants_names es h

  constants_names : (es : named.Exprs) → named.are_constant es ≡ true → all_local_names es ≡ []
  constants_names named.no_expr h = refl
  constants_names (named.and_expr e es) h =
      let both = and_parts (named.is_constant e) (named.are_constant es) h in
      rw (constant_names e both.0, constants_names es both.1) refl

-- ---- parts

-- the same first fault, and in step behind it
abbrev Follows : Names → List Watching → Watched → Option FormulaFault → Watched → List Use → Type 0
Follows names seen s fault t us = (fault ≡ first_unknown (known_in names) seen us) × (fault ≡ None → Tracks names (seen_after seen us) t)

over_follows : (names : Names) (seen : List Watching) (s : Watched) (p : Place) (e : named.Expr) → Tracks names seen s →
    Follows names seen s (part_fault names s (named.local (Some p) e)) (part_after names s (named.local (Some p) e)) (part_uses (named.local (Some p) e))
unfolding first_unknown seen_after
over_follows names seen s p e tracks = by_place (place_of names.processes p.name) refl where
  by_place : (o : Option ℕ) → place_of names.processes p.name ≡ o →
      Follows names seen s (part_fault names s (named.local (Some p) e)) (part_after names s (named.local (Some p) e)) (part_uses (named.local (Some p) e))
  by_place None found = (rw found refl, λ free. absurd (let bad = rw found at free in cc))
  by_place (Some i) found =
      let numbered : place_of names.processes p.name ≡ Some (number names.processes p.name) = found ∙ ap Some (sym (found_number names.processes p.name i found)) in
      let faults = local_faults names seen s p.name (number names.processes p.name) (local_names e) tracks numbered in (
        ap (λ f. earlier f (local_fault (variables_of names p.name) (number names.processes p.name) s (local_names e))) (sym (unless_is code.UnknownProcess p (place_of names.processes p.name)))
            ∙ ap (earlier (use_fault (known_in names) seen (used.process p))) (faults ∙ ap (first_unknown (known_in names) seen) (sym (uses_on p.name e))),
        λ free.
            let both = none_both (process_fault names.processes p) (local_fault (variables_of names p.name) (number names.processes p.name) s (local_names e)) free in
            let P : List Use → Type 0 = λ us. Tracks names (seen_after seen us) (local_after (number names.processes p.name) s (local_names e)) in
            subst P (sym (uses_on p.name e)) (local_tracks names seen s p.name (number names.processes p.name) (local_names e) tracks numbered both.1),
      )

earlier_none : (o : Option FormulaFault) → earlier o None ≡ o
earlier_none None = refl
earlier_none (Some f) = refl

then_follows : (names : Names) (seen : List Watching) (s t u : Watched) (fault rest : Option FormulaFault) (us vs : List Use) → Follows names seen s fault t us →
    ((fault ≡ None) → Follows names (seen_after seen us) t rest u vs) → Follows names seen s (earlier fault rest) u (us ++ vs)
then_follows names seen s t u None rest us vs first next =
    let more = next refl in (
      more.0 ∙ sym (unknown_joined (known_in names) seen us vs ∙ rw (← first.0) refl),
      λ free. let P : List Watching → Type 0 = λ w. Tracks names w u in subst P (sym (seen_joined seen us vs)) (more.1 free),
    )
then_follows names seen s t u (Some f) rest us vs first next =
    (sym (unknown_joined (known_in names) seen us vs ∙ rw (← first.0) refl), λ free. absurd (cc))

process_follows : (names : Names) (seen : List Watching) (s : Watched) (p : Place) → Tracks names seen s → Follows names seen s (process_fault names.processes p) s (used.process p ∷ [])
unfolding first_unknown seen_after
process_follows names seen s p tracks =
    (sym (earlier_none (use_fault (known_in names) seen (used.process p)) ∙ unless_is code.UnknownProcess p (place_of names.processes p.name)), λ free. tracks)

variable_follows : (names : Names) (seen : List Watching) (s : Watched) (p : Name) (x : Place) → Tracks names seen s →
    Follows names seen s (variable_fault (variables_of names p) x) s (used.variable p x ∷ [])
unfolding first_unknown seen_after
variable_follows names seen s p x tracks =
    (sym (earlier_none (use_fault (known_in names) seen (used.variable p x)) ∙ unless_is code.UnknownVariable x (place_of (variables_of names p) x.name)), λ free. tracks)

next_follows : (names : Names) (seen : List Watching) (s u : Watched) (p : Place) (fault : Option FormulaFault) (us : List Use) → Tracks names seen s →
    Follows names seen s fault u us → Follows names seen s (earlier (process_fault names.processes p) fault) u (used.process p ∷ us)
unfolding seen_after
next_follows names seen s u p fault us tracks inside =
    then_follows names seen s s u (process_fault names.processes p) fault (used.process p ∷ []) us (process_follows names seen s p tracks) (λ free. inside)

channel_follows : (names : Names) (seen : List Watching) (s : Watched) (p q : Place) → Tracks names seen s →
    Follows names seen s (earlier (process_fault names.processes p) (process_fault names.processes q)) s (used.process p ∷ used.process q ∷ [])
channel_follows names seen s p q tracks =
    next_follows names seen s s p (process_fault names.processes q) (used.process q ∷ []) tracks (process_follows names seen s q tracks)

counter_follows : (names : Names) (seen : List Watching) (s : Watched) (p x : Place) → Tracks names seen s →
    Follows names seen s (counter_fault names p x) s (used.process p ∷ used.variable p.name x ∷ [])
counter_follows names seen s p x tracks =
    next_follows names seen s s p (variable_fault (variables_of names p.name) x) (used.variable p.name x ∷ []) tracks (variable_follows names seen s p.name x tracks)

difference_follows : (names : Names) (seen : List Watching) (s : Watched) (p x q y : Place) → Tracks names seen s →
    Follows names seen s (difference_fault names p x q y) s (used.process p ∷ used.variable p.name x ∷ used.process q ∷ used.variable q.name y ∷ [])
unfolding seen_after
difference_follows names seen s p x q y tracks =
    then_follows names seen s s s (counter_fault names p x) (counter_fault names q y) (used.process p ∷ used.variable p.name x ∷ []) (used.process q ∷ used.variable q.name y ∷ [])
    (counter_follows names seen s p x tracks) (λ free. counter_follows names seen s q y tracks)

none_follows : (names : Names) (seen : List Watching) (s : Watched) → Tracks names seen s → Follows names seen s None s []
unfolding first_unknown seen_after
none_follows names seen s tracks = (refl, λ free. tracks)

mutual
  part_follows : (names : Names) (seen : List Watching) (s : Watched) (p : named.NamedPiece) → named.PartFits p → Tracks names seen s →
      Follows names seen s (part_fault names s p) (part_after names s p) (part_uses p)
  part_follows names seen s (named.local None e) fits tracks =
      rw (uses_on [] e, constant_names e fits) (none_follows names seen s tracks)
  part_follows names seen s (named.local (Some p) e) fits tracks = over_follows names seen s p e tracks
  part_follows names seen s (named.at_most p q k) fits tracks = channel_follows names seen s p q tracks
  part_follows names seen s (named.at_least p q k) fits tracks = channel_follows names seen s p q tracks
  part_follows names seen s (named.never p q) fits tracks = channel_follows names seen s p q tracks
  part_follows names seen s (named.diff_at_most p x q y k) fits tracks = difference_follows names seen s p x q y tracks
  part_follows names seen s (named.diff_at_least p x q y k) fits tracks = difference_follows names seen s p x q y tracks
  part_follows names seen s (named.temporal o ps) fits tracks = operand_follows names seen s ps fits.1 tracks
  part_follows names seen s (named.next p ps) fits tracks =
      next_follows names seen s (operand_after names s ps) p (operand_fault names s ps) (operand_uses ps) tracks (operand_follows names seen s ps fits tracks)

  operand_follows : (names : Names) (seen : List Watching) (s : Watched) (ps : named.Pieces) → named.OperandFits ps → Tracks names seen s →
      Follows names seen s (operand_fault names s ps) (operand_after names s ps) (operand_uses ps)
  operand_follows names seen s named.no_piece fits tracks = none_follows names seen s tracks
  operand_follows names seen s (named.and_piece p ps) fits tracks =
      let first = part_follows names seen s p fits.0 tracks in
      then_follows names seen s (part_after names s p) (operand_after names (part_after names s p) ps) (part_fault names s p) (operand_fault names (part_after names s p) ps) (part_uses p) (operand_uses ps) first
      (λ free. operand_follows names (seen_after seen (part_uses p)) (part_after names s p) ps fits.1 (first.1 free))

operand_of : (ps : List named.NamedPiece) → named.EachFits ps → named.OperandFits (named.pieces ps)
operand_of [] h = tt
operand_of (p ∷ ps) h = (h.0, operand_of ps h.1)

pub disjuncts_follow : (names : Names) (seen : List Watching) (s : Watched) (ds : List (List named.NamedPiece)) → named.AllFit ds → Tracks names seen s →
    Follows names seen s (disjuncts_fault names s ds) (disjuncts_after names s ds) (disjuncts_uses ds)
disjuncts_follow names seen s [] fits tracks = none_follows names seen s tracks
disjuncts_follow names seen s (d ∷ ds) fits tracks =
    let P : List Use → Type 0 = λ us. Follows names seen s (operand_fault names s (named.pieces d)) (operand_after names s (named.pieces d)) us in
    let first : P (parts_uses d) = subst P (operand_names d) (operand_follows names seen s (named.pieces d) (operand_of d fits.0) tracks) in
    then_follows names seen s (operand_after names s (named.pieces d)) (disjuncts_after names (operand_after names s (named.pieces d)) ds) (operand_fault names s (named.pieces d))
    (disjuncts_fault names (operand_after names s (named.pieces d)) ds) (parts_uses d) (disjuncts_uses ds) first
    (λ free. disjuncts_follow names (seen_after seen (parts_uses d)) (operand_after names s (named.pieces d)) ds fits.1 (first.1 free))

-- the first fault of the names of disjuncts
pub same_faults : (names : Names) (ds : List (List named.NamedPiece)) → named.AllFit ds → disjuncts_fault names (opened names) ds ≡ first_unknown (known_in names) [] (disjuncts_uses ds)
same_faults names ds fits = (disjuncts_follow names [] (opened names) ds fits (opens names)).0
