-- One disjunct more.
use Rattle.std.proofs.Common.{◌⊎◌, List, [], ◌∷◌, ◌++◌, inl, inr}
use Rattle.std.specs.Prelude.{◌↔◌}
use Rattle.run_model.specs.Cut.{Cut}
use Rattle.run_model.specs.Run.{Run}
use Rattle.run_model.specs.Consistent.{IsOrder}
use Rattle.run_model.specs.Sublattice.{IsSublattice, Smallest, given, Either}
use Rattle.run_model.specs.Slice.{Slice, StandsFor, Cuts}
use Rattle.run_model.specs.Meaning.{SatSome, Family}
use Rattle.run_model.proofs.SliceLemmas.{stands_same, exact_slice}
use Rattle.meaning_laws.proofs.JoinLemmas.{smallest_closed, smallest_wider}
use Rattle.rctl_parts.specs.Pieces.{Piece}
use Rattle.rctl_parts.specs.Spelled.{Names, conjunction_of, conjunctions_of, disjunction_of}

-- some disjunct of two lists is true where one of either list is
pub some_joined : (r : Run) (names : Names) (ds es : List (List Piece)) (c : Cut)
    → SatSome r (conjunctions_of names (ds ++ es)) c ↔ (SatSome r (conjunctions_of names ds) c ⊎ SatSome r (conjunctions_of names es) c)
some_joined r names [] es c = (inr, λ h. elim h [ inl left ↦ absurd left | inr right ↦ right ])
some_joined r names (d ∷ ds) es c =
    let others = some_joined r names ds es c in (
      λ h. elim h [ inl here ↦ inl (inl here) | inr later ↦ elim (others.0 later) [ inl left ↦ inl (inr left) | inr right ↦ inr right ] ],
      λ h. elim h [ inl left ↦ elim left [ inl here ↦ inl here | inr later ↦ inr (others.1 (inl later)) ] | inr right ↦ inr (others.1 (inr right)) ],
    )

-- the slice of the smallest sublattice round some disjuncts, joined with that of one more
pub joined_more : (r : Run) (names : Names) → IsOrder r.clocks → (ds : List (List Piece)) (d : List Piece) (s t u : Slice)
    → StandsFor r.clocks s (Smallest (Family r (disjunction_of names ds)))
    → ((c : Cut) → Cuts r.clocks t c ↔ Family r (conjunction_of names d) c)
    → StandsFor r.clocks u (Smallest (Either (Cuts r.clocks s) (Cuts r.clocks t)))
    → StandsFor r.clocks u (Smallest (Family r (disjunction_of names (ds ++ d ∷ []))))
joined_more r names order ds d s t u left right joined =
    stands_same r.clocks u _ _ (λ c. (smallest_wider (Either (Cuts r.clocks s) (Cuts r.clocks t)) All to c, smallest_wider All (Either (Cuts r.clocks s) (Cuts r.clocks t)) back c)) joined
  where
    All : Cut → Type 0
    All = Family r (disjunction_of names (ds ++ d ∷ []))

    First : Cut → Type 0
    First = Family r (disjunction_of names ds)

    closed : IsSublattice r.clocks (Smallest (Family r (disjunction_of names ds)))
    closed = smallest_closed r.clocks order (Family r (disjunction_of names ds)) (λ c h. h.0)

    more : (c : Cut) → Family r (disjunction_of names ds) c → Family r (disjunction_of names (ds ++ d ∷ [])) c
    more c h = (h.0, (some_joined r names ds (d ∷ []) c).1 (inl h.1))

    to : (c : Cut) → Either (Cuts r.clocks s) (Cuts r.clocks t) c → Smallest (Family r (disjunction_of names (ds ++ d ∷ []))) c
    to c (inl cut) =
        smallest_wider (Family r (disjunction_of names ds)) (Family r (disjunction_of names (ds ++ d ∷ []))) (λ e h. given (more e h)) c
        ((exact_slice r.clocks (Smallest (Family r (disjunction_of names ds))) closed s left c).1 cut)
    to c (inr cut) = let h = (right c).0 cut in given (h.0, (some_joined r names ds (d ∷ []) c).1 (inr (inl h.1)))

    back : (c : Cut) → Family r (disjunction_of names (ds ++ d ∷ [])) c → Smallest (Either (Cuts r.clocks s) (Cuts r.clocks t)) c
    back c h = by_disjunct ((some_joined r names ds (d ∷ []) c).0 h.1)
      where
        by_disjunct : SatSome r (conjunctions_of names ds) c ⊎ SatSome r (conjunctions_of names (d ∷ [])) c → Smallest (Either (Cuts r.clocks s) (Cuts r.clocks t)) c
        by_disjunct (inl some) = given (inl ((exact_slice r.clocks (Smallest (Family r (disjunction_of names ds))) closed s left c).0 (given (h.0, some))))
        by_disjunct (inr some) = given (inr ((right c).1 (h.0, elim some [ inl here ↦ here | inr nothing ↦ absurd nothing ])))
