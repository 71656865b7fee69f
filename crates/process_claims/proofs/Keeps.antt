-- Each step keeps the rule of claims.
use Rattle.std.proofs.Common.{◌≡◌, ◌≢◌, ℕ, zero, suc, ◌+◌, ◌<◌, ◌≤◌, ◌⊎◌, inl, inr, List, [], ◌∷◌, ◌++◌, length, get_or, set, refl, arith, sym, ap, ◌∙◌, subst, replicate, take, get_or-set_same}
use Rattle.std.specs.Prelude.{slice_index}
use Rattle.std.specs.List.{Contains}
use Rattle.std.proofs.lemmas.List.{length-set, length-take}
use Rattle.std.proofs.lemmas.List.Elements.{Contains-append_left, Contains-append_right, Contains-append_cases, Contains-push, Contains-push_cases}
use Rattle.pota_base.specs.Limits.{most_processes}
use mathlib.Core.Option.{some, none, some-injective, some-ne-none}
use lib.ListN.{get_elem?}
use Rattle.atomic_table.specs.Table.{State, Me, step, keeps, Allows, Splits, Joins, opening}
use Rattle.atomic_table.proofs.Lists.{at_set, at_snoc, at_longer, set_again, set_else}
use Rattle.process_claims.specs.declared.claimer.SeenClaims.{SeenClaims}
use Rattle.process_claims.specs.Claims.{IsTrueOf, IsOwned, HasClaims, ClaimsHold}
use Rattle.process_claims.specs.inside.Claims.{opened, claimless, together, after_swap, Swapped}

-- what stands at j after a write at i
set_case : (v : List ℕ) (i z j : ℕ) → (get_or (set v i z) j 0 ≡ get_or v j 0) ⊎ ((j ≡ i) × (get_or (set v i z) j 0 ≡ z))
set_case [] i z j = inl refl
set_case (x ∷ v) zero z zero = inr (refl, refl)
set_case (x ∷ v) zero z (suc j) = inl refl
set_case (x ∷ v) (suc i) z zero = inl refl
set_case (x ∷ v) (suc i) z (suc j) = elim (set_case v i z j) [ inl e ↦ inl e | inr e ↦ inr (ap (λ n. suc n) e.0, e.1) ]

-- a view that is there, and one in its place
there_again : (views : List SeenClaims) (id : ℕ) (v w : SeenClaims) → get_elem? views id ≡ some v → get_elem? (set views id w) id ≡ some w
there_again [] id v w at = absurd (some-ne-none v (sym at))
there_again (u ∷ views) zero v w at = refl
there_again (u ∷ views) (suc id) v w at = there_again views id v w at

none_in : (process : ℕ) → Contains [] process → ⊥
none_in process has = absurd (omega (arith, has.1))

-- a word that is 1 stays so where another becomes 1
one_stays : (words : List ℕ) (i j : ℕ) → slice_index words j ≡ 1 → slice_index (set words i 1) j ≡ 1
one_stays words i j one = elim (set_case words i 1 j) [ inl e ↦ e ∙ one | inr e ↦ e.1 ]

same_number : (i j : ℕ) → (i ≡ j) ⊎ (i ≢ j)
same_number i j = grind arith

-- One view is renewed, and some words become 1: what it claims it claimed before, or nobody did.
record Renews (words now : List ℕ) (v w : SeenClaims) : Type 0 where
  size : length now ≡ length words
  bit : (process : ℕ) → slice_index now process ≤ 1
  stays : (process : ℕ) → slice_index words process ≡ 1 → slice_index now process ≡ 1
  owner : (process : ℕ) → slice_index now process ≡ 1 → (slice_index words process ≡ 1) ⊎ Contains w.claims process
  keeps_claims : (process : ℕ) → Contains v.claims process → Contains w.claims process
  true_now : IsTrueOf now w
  before : (process : ℕ) → Contains w.claims process → Contains v.claims process ⊎ (slice_index words process ≡ 0)

module _ (count : ℕ) (words now : List ℕ) (views : List SeenClaims) (id : ℕ) (v w : SeenClaims) (kept : HasClaims count words views) (here : get_elem? views id ≡ some v) (renews : Renews words now v w) where
  -- a process that was claimed is so still
  owned : (process : ℕ) → IsOwned views process → IsOwned (set views id w) process
  owned process o =
      elim (same_number o.number id) [
        | inl same ↦
            let P : ℕ → Type 0 = λ n. get_elem? views n ≡ some o.view in
            let view : o.view ≡ v = some-injective o.view v (sym (subst P same o.at) ∙ here) in
            let Q : SeenClaims → Type 0 = λ u. Contains u.claims process in
            record { number = id; view = w; at = there_again views id v w here; has = renews.keeps_claims process (subst Q view o.has) }
        | inr other ↦ record { number = o.number; view = o.view; at = set_else views id o.number w other ∙ o.at; has = o.has }
      ]

  -- who claims a process now did so before, or this view does since now
  data Who (process j : ℕ) : Type 0 where
    Before : (u : SeenClaims) → get_elem? views j ≡ some u → Contains u.claims process → Who process j
    Now : j ≡ id → slice_index words process ≡ 0 → Who process j

  who : (process j : ℕ) (u : SeenClaims) → get_elem? (set views id w) j ≡ some u → Contains u.claims process → Who process j
  who process j u at has =
      elim (at_set views id j w u at) [
        | inl mine ↦
            let Q : SeenClaims → Type 0 = λ x. Contains x.claims process in
            let P : ℕ → Type 0 = λ n. get_elem? views n ≡ some v in
            elim (renews.before process (subst Q (sym mine.1) has)) [ inl old ↦ Before v (subst P (sym mine.0) here) old | inr free ↦ Now mine.0 free ]
        | inr other ↦ Before u other.1 has
      ]

  taken : (process j : ℕ) (u : SeenClaims) → get_elem? views j ≡ some u → Contains u.claims process → slice_index words process ≡ 1
  taken process j u at has = (kept.known j u at).claims process has

  one_who : (process j k : ℕ) → Who process j → Who process k → j ≡ k
  one_who process j k (Before u at has) (Before x at_x has_x) = kept.alone process j k u x at at_x has has_x
  one_who process j k (Before u at has) (Now is free) = absurd (omega (arith, taken process j u at has, free))
  one_who process j k (Now is free) (Before u at has) = absurd (omega (arith, taken process k u at has, free))
  one_who process j k (Now is free) (Now is_too _) = is ∙ sym is_too

  renewed : HasClaims count now (set views id w)
  renewed = record {
    size = renews.size ∙ kept.size;
    bit = renews.bit;
    owner = λ process one. elim (renews.owner process one) [
      | inl before ↦ owned process (kept.owner process before)
      | inr has ↦ record { number = id; view = w; at = there_again views id v w here; has = has }
    ];
    known = λ j u at. elim (at_set views id j w u at) [
      | inl mine ↦ let P : SeenClaims → Type 0 = IsTrueOf now in subst P mine.1 renews.true_now
      | inr other ↦
          let t = kept.known j u other.1 in
          record { claims = λ p has. renews.stays p (t.claims p has); marks = λ p has. renews.stays p (t.marks p has) }
    ];
    alone = λ process j k u x at at_x has has_x. one_who process j k (who process j u at has) (who process k x at_x has_x);
  }

-- the word was 0, and the caller claims the process
claims_now : (words : List ℕ) (v : SeenClaims) (process : ℕ) → process < length words → ((p : ℕ) → slice_index words p ≤ 1) → IsTrueOf words v → slice_index words process ≡ 0 → Renews words (set words process 1) v (after_swap 0 process v)
claims_now words v process there bits knows free = record {
  size = length-set words process 1;
  bit = λ p. elim (set_case words process 1 p) [ inl e ↦ omega (arith, e, bits p) | inr e ↦ omega (arith, e.1) ];
  stays = λ p one. one_stays words process p one;
  owner = λ p one. elim (set_case words process 1 p) [
    | inl e ↦ inl (sym e ∙ one)
    | inr e ↦ let P : ℕ → Type 0 = λ q. Contains (v.claims ++ process ∷ []) q in inr (subst P (sym e.0) (Contains-push v.claims process))
  ];
  keeps_claims = λ p has. Contains-append_left v.claims (process ∷ []) p has;
  true_now = record {
    claims = λ p has. elim (Contains-push_cases v.claims process p has) [
      | inl before ↦ one_stays words process p (knows.claims p before)
      | inr same ↦ ap (λ q. slice_index (set words process 1) q) (sym same) ∙ get_or-set_same words process 1 0 there
    ];
    marks = λ p has. one_stays words process p (knows.marks p has);
  };
  before = λ p has. elim (Contains-push_cases v.claims process p has) [
    | inl before ↦ inl before
    | inr same ↦ inr (ap (λ q. slice_index words q) (sym same) ∙ free)
  ];
}

-- the word was 1, and the caller saw the process taken
marks_now : (words : List ℕ) (v : SeenClaims) (process n : ℕ) → process < length words → ((p : ℕ) → slice_index words p ≤ 1) → IsTrueOf words v → slice_index words process ≡ 1 → Renews words (set words process 1) v (after_swap (suc n) process v)
marks_now words v process n there bits knows one = record {
  size = length-set words process 1;
  bit = λ p. elim (set_case words process 1 p) [ inl e ↦ omega (arith, e, bits p) | inr e ↦ omega (arith, e.1) ];
  stays = λ p one_before. one_stays words process p one_before;
  owner = λ p one_now. elim (set_case words process 1 p) [
    | inl e ↦ inl (sym e ∙ one_now)
    | inr e ↦ inl (ap (λ q. slice_index words q) e.0 ∙ one)
  ];
  keeps_claims = λ p has. has;
  true_now = record {
    claims = λ p has. one_stays words process p (knows.claims p has);
    marks = λ p has. elim (Contains-push_cases v.marks process p has) [
      | inl before ↦ one_stays words process p (knows.marks p before)
      | inr same ↦ ap (λ q. slice_index (set words process 1) q) (sym same) ∙ get_or-set_same words process 1 0 there
    ];
  };
  before = λ p has. inl has;
}

swap_renews : (n : ℕ) (words : List ℕ) (v : SeenClaims) (process : ℕ) → process < length words → ((p : ℕ) → slice_index words p ≤ 1) → IsTrueOf words v → slice_index words process ≡ n → Renews words (set words process 1) v (after_swap n process v)
swap_renews zero words v process there bits knows same = claims_now words v process there bits knows same
swap_renews (suc n) words v process there bits knows same = marks_now words v process n there bits knows (omega (arith, bits process))

-- a swap keeps the rule
pub swaps : (count slots id : ℕ) (me : Me (Unit {0}) SeenClaims) (process : ℕ) → process < count → Allows (ClaimsHold count) slots id me process (λ _. 1) (Swapped (step slots process 1 0 none) me)
swaps count slots id me process there s kept homes here fits =
    let n : ℕ = get_or s.words process 0 in (
      after_swap n process me.0,
      keeps,
      tt,
      renewed count s.words (set s.words process 1) s.views id me.0 (after_swap n process me.0) kept here
          (swap_renews n s.words me.0 process (omega (arith, kept.size)) kept.bit (kept.known id me.0 here) refl),
      record { view = refl; slots = refl },
    )

-- a second view that claims nothing keeps the rule
pub parts : (count id : ℕ) (v : SeenClaims) → Splits (ClaimsHold count) id v v (claimless v)
parts count id v s kept here =
    let same : set s.views id v ≡ s.views = set_again s.views id v here in
    let P : List SeenClaims → Type 0 = λ views. HasClaims count s.words (views ++ claimless v ∷ []) in
    subst P (sym same) record {
      size = kept.size;
      bit = kept.bit;
      owner = λ process one. let o = kept.owner process one in record { number = o.number; view = o.view; at = at_longer s.views (claimless v ∷ []) o.number o.view o.at; has = o.has };
      known = λ j u at. elim (at_snoc s.views (claimless v) u j at) [
        | inl before ↦ kept.known j u before
        | inr new ↦ let Q : SeenClaims → Type 0 = IsTrueOf s.words in subst Q new fresh
      ];
      alone = λ process j k u x at at_x has has_x. kept.alone process j k u x (old process j u at has) (old process k x at_x has_x) has has_x;
    }
  where
    fresh : IsTrueOf s.words (claimless v)
    fresh =
        let t = kept.known id v here in record {
          claims = λ p has. absurd (none_in p has);
          marks = λ p has. elim (Contains-append_cases v.marks v.claims p has) [ inl mark ↦ t.marks p mark | inr claim ↦ t.claims p claim ];
        }

    old : (process j : ℕ) (u : SeenClaims) → get_elem? (s.views ++ claimless v ∷ []) j ≡ some u → Contains u.claims process → get_elem? s.views j ≡ some u
    old process j u at has =
        elim (at_snoc s.views (claimless v) u j at) [
          | inl before ↦ before
          | inr new ↦ let Q : SeenClaims → Type 0 = λ x. Contains x.claims process in absurd (none_in process (subst Q (sym new) has))
        ]

module _ (id other : ℕ) (v w : SeenClaims) (words : List ℕ) (views : List SeenClaims) (count : ℕ) (kept : HasClaims count words views) (here : get_elem? views id ≡ some v) (apart : ¬ (other ≡ id)) (there : get_elem? (set views id (together v w)) other ≡ some w) where
  abbrev both : SeenClaims
  both = together v w

  abbrev after : List SeenClaims
  after = set (set views id both) other opened

  there_before : get_elem? views other ≡ some w
  there_before = elim (at_set views id other both w there) [ inl same ↦ absurd (apart same.0) | inr before ↦ before.1 ]

  both_there : get_elem? after id ≡ some both
  both_there = set_else (set views id both) other id opened (λ e. apart (sym e)) ∙ there_again views id v both here

  both_true : IsTrueOf words both
  both_true =
      let t = kept.known id v here in
      let u = kept.known other w there_before in record {
        claims = λ p has. elim (Contains-append_cases v.claims w.claims p has) [ inl l ↦ t.claims p l | inr r ↦ u.claims p r ];
        marks = λ p has. elim (Contains-append_cases v.marks w.marks p has) [ inl l ↦ t.marks p l | inr r ↦ u.marks p r ];
      }

  view_at : (number : ℕ) (a b : SeenClaims) → get_elem? views number ≡ some a → get_elem? views number ≡ some b → a ≡ b
  view_at number a b at_a at_b = some-injective a b (sym at_a ∙ at_b)

  owned_now : (process : ℕ) → IsOwned views process → IsOwned after process
  owned_now process o =
      let Q : SeenClaims → Type 0 = λ u. Contains u.claims process in
      let At : ℕ → Type 0 = λ n. get_elem? views n ≡ some o.view in
      elim (same_number o.number id) [
        | inl same ↦ record { number = id; view = both; at = both_there; has = Contains-append_left v.claims w.claims process (subst Q (view_at id o.view v (subst At same o.at) here) o.has) }
        | inr not_id ↦
            elim (same_number o.number other) [
              | inl same ↦ record { number = id; view = both; at = both_there; has = Contains-append_right v.claims w.claims process (subst Q (view_at other o.view w (subst At same o.at) there_before) o.has) }
              | inr not_other ↦ record { number = o.number; view = o.view; at = set_else (set views id both) other o.number opened not_other ∙ set_else views id o.number both not_id ∙ o.at; has = o.has }
            ]
      ]

  -- where a claim comes from: from one of the two that met, or from a third
  data Source (process j : ℕ) : Type 0 where
    Met : j ≡ id → (number : ℕ) → ((number ≡ id) ⊎ (number ≡ other)) → (u : SeenClaims) → get_elem? views number ≡ some u → Contains u.claims process → Source process j
    Third : j ≢ id → j ≢ other → (u : SeenClaims) → get_elem? views j ≡ some u → Contains u.claims process → Source process j

  source : (process j : ℕ) (u : SeenClaims) → get_elem? after j ≡ some u → Contains u.claims process → Source process j
  source process j u at has =
      let Q : SeenClaims → Type 0 = λ x. Contains x.claims process in
      elim (at_set (set views id both) other j opened u at) [
        | inl spent ↦ absurd (none_in process (subst Q (sym spent.1) has))
        | inr left ↦
            elim (at_set views id j both u left.1) [
              | inl mine ↦
                  elim (Contains-append_cases v.claims w.claims process (subst Q (sym mine.1) has)) [
                    | inl l ↦ Met mine.0 id (inl refl) v here l
                    | inr r ↦ Met mine.0 other (inr refl) w there_before r
                  ]
              | inr before ↦ Third before.0 left.0 u before.1 has
            ]
      ]

  third_apart : (process j number : ℕ) (u x : SeenClaims) → ((number ≡ id) ⊎ (number ≡ other)) → j ≢ id → j ≢ other → get_elem? views number ≡ some u → get_elem? views j ≡ some x → Contains u.claims process → Contains x.claims process → ⊥
  third_apart process j number u x (inl is) not_id not_other at at_x has has_x = not_id (sym (kept.alone process number j u x at at_x has has_x) ∙ is)
  third_apart process j number u x (inr is) not_id not_other at at_x has has_x = not_other (sym (kept.alone process number j u x at at_x has has_x) ∙ is)

  one_source : (process j k : ℕ) → Source process j → Source process k → j ≡ k
  one_source process j k (Met is _ _ _ _ _) (Met is_too _ _ _ _ _) = is ∙ sym is_too
  one_source process j k (Met is number met u at has) (Third not_id not_other x at_x has_x) = absurd (third_apart process k number u x met not_id not_other at at_x has has_x)
  one_source process j k (Third not_id not_other x at_x has_x) (Met is number met u at has) = absurd (third_apart process j number u x met not_id not_other at at_x has has_x)
  one_source process j k (Third _ _ u at has) (Third _ _ x at_x has_x) = kept.alone process j k u x at at_x has has_x

  -- one view takes in what another knows
  joined : HasClaims count words after
  joined = record {
    size = kept.size;
    bit = kept.bit;
    owner = λ process one. owned_now process (kept.owner process one);
    known = λ j u at. elim (at_set (set views id both) other j opened u at) [
      | inl spent ↦ let P : SeenClaims → Type 0 = IsTrueOf words in subst P spent.1 record { claims = λ p has. absurd (none_in p has); marks = λ p has. absurd (none_in p has) }
      | inr left ↦
          elim (at_set views id j both u left.1) [
            | inl mine ↦ let P : SeenClaims → Type 0 = IsTrueOf words in subst P mine.1 both_true
            | inr before ↦ kept.known j u before.1
          ]
    ];
    alone = λ process j k u x at at_x has has_x. one_source process j k (source process j u at has) (source process k x at_x has_x);
  }

-- a view that takes in what another knows keeps the rule
pub meets : (count id other : ℕ) (v w : SeenClaims) → Joins (ClaimsHold count) id v other w (together v w) opened
meets count id other v w s kept here apart there = joined id other v w s.words s.views count kept here apart there

-- free words, and a first view that claims nothing
pub starts_kept : (count : ℕ) (words : List ℕ) → length words ≡ count → ((p : ℕ) → slice_index words p ≡ 0) → ClaimsHold count (opening words [] opened)
starts_kept count words size free = record {
  size = size;
  bit = λ p. omega (arith, free p);
  owner = λ p one. absurd (omega (arith, free p, one));
  known = λ j u at. first j u at;
  alone = λ process j k u x at at_x has has_x. absurd (claims_none j u at process has);
}
  where
    is_opened : (j : ℕ) (u : SeenClaims) → get_elem? (opened ∷ []) j ≡ some u → opened ≡ u
    is_opened zero u at = some-injective opened u at
    is_opened (suc j) u at = absurd (some-ne-none u (sym at))

    claims_none : (j : ℕ) (u : SeenClaims) → get_elem? (opened ∷ []) j ≡ some u → (process : ℕ) → Contains u.claims process → ⊥
    claims_none j u at process has = let Q : SeenClaims → Type 0 = λ x. Contains x.claims process in none_in process (subst Q (sym (is_opened j u at)) has)

    first : (j : ℕ) (u : SeenClaims) → get_elem? (opened ∷ []) j ≡ some u → IsTrueOf words u
    first j u at =
        let P : SeenClaims → Type 0 = IsTrueOf words in
        subst P (is_opened j u at) record { claims = λ p has. absurd (none_in p has); marks = λ p has. absurd (none_in p has) }

pub zeros_taken : (m n i : ℕ) → slice_index (take m (replicate n 0)) i ≡ 0
zeros_taken zero n i = refl
zeros_taken (suc m) zero i = refl
zeros_taken (suc m) (suc n) zero = refl
zeros_taken (suc m) (suc n) (suc i) = zeros_taken m n i

pub free_kept : (count : ℕ) → count ≤ most_processes → ClaimsHold count (opening (take count (replicate most_processes 0)) [] opened)
free_kept count few = starts_kept count (take count (replicate most_processes 0)) (omega (arith, length-take count (let zeros : List ℕ = replicate most_processes 0 in zeros))) (zeros_taken count most_processes)
