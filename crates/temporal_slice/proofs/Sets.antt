-- The operators over a set that a slice stands for.
use Rattle.std.proofs.Common.{◌↔◌, List}
use Rattle.run_model.specs.Cut.{Cut, Clocks, lengths}
use Rattle.run_model.specs.Consistent.{IsConsistent, IsPath}
use Rattle.run_model.specs.Sublattice.{IsSublattice, AllIn}
use Rattle.run_model.specs.Slice.{Slice, Cuts, StandsFor}
use Rattle.run_model.specs.Operators.{EfHolds, AgHolds, EgHolds}
use Rattle.run_model.proofs.Paths.{all_wider}
use Rattle.run_model.proofs.SliceLemmas.{exact_slice, stands_same}

some_time_wider : (o : Clocks) (A B : Cut → Type 0) → ((c : Cut) → A c → B c) → (c : Cut) → EfHolds o A c → EfHolds o B c
some_time_wider o A B h c w = (w.0, w.1, w.2, h w.1 w.3)

each_time_wider : (o : Clocks) (A B : Cut → Type 0) → ((c : Cut) → A c → B c) → (c : Cut) → AgHolds o A c → AgHolds o B c
each_time_wider o A B h c each es d path = all_wider A B h c es (each es d path)

staying_wider : (o : Clocks) (A B : Cut → Type 0) → ((c : Cut) → A c → B c) → (c : Cut) → EgHolds o A c → EgHolds o B c
staying_wider o A B h c w = (w.0, w.1, all_wider A B h c w.0 w.2)

pub some_time_of_set : (o : Clocks) (A : Cut → Type 0) → IsSublattice o A → (child made : Slice) → StandsFor o child A
    → StandsFor o made (λ c. IsConsistent o c × EfHolds o (Cuts o child) c) → StandsFor o made (λ c. IsConsistent o c × EfHolds o A c)
some_time_of_set o A closed child made stands = stands_same o made (λ c. IsConsistent o c × EfHolds o (Cuts o child) c) (λ c. IsConsistent o c × EfHolds o A c) (λ c. (
  λ h. (h.0, some_time_wider o (Cuts o child) A (λ d. (exact_slice o A closed child stands d).1) c h.1),
  λ h. (h.0, some_time_wider o A (Cuts o child) (λ d. (exact_slice o A closed child stands d).0) c h.1),
))

pub each_time_of_set : (o : Clocks) (A : Cut → Type 0) → IsSublattice o A → (child made : Slice) → StandsFor o child A
    → StandsFor o made (λ c. IsConsistent o c × AgHolds o (Cuts o child) c) → StandsFor o made (λ c. IsConsistent o c × AgHolds o A c)
each_time_of_set o A closed child made stands = stands_same o made (λ c. IsConsistent o c × AgHolds o (Cuts o child) c) (λ c. IsConsistent o c × AgHolds o A c) (λ c. (
  λ h. (h.0, each_time_wider o (Cuts o child) A (λ d. (exact_slice o A closed child stands d).1) c h.1),
  λ h. (h.0, each_time_wider o A (Cuts o child) (λ d. (exact_slice o A closed child stands d).0) c h.1),
))

pub staying_of_set : (o : Clocks) (A : Cut → Type 0) → IsSublattice o A → (child made : Slice) → StandsFor o child A
    → StandsFor o made (λ c. IsConsistent o c × EgHolds o (Cuts o child) c) → StandsFor o made (λ c. IsConsistent o c × EgHolds o A c)
staying_of_set o A closed child made stands = stands_same o made (λ c. IsConsistent o c × EgHolds o (Cuts o child) c) (λ c. IsConsistent o c × EgHolds o A c) (λ c. (
  λ h. (h.0, staying_wider o (Cuts o child) A (λ d. (exact_slice o A closed child stands d).1) c h.1),
  λ h. (h.0, staying_wider o A (Cuts o child) (λ d. (exact_slice o A closed child stands d).0) c h.1),
))
