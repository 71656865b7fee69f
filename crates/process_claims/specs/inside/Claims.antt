-- What a step of a caller does to what it knows, and to the word of a process.
use Rattle.std.specs.Prelude.{◌≡◌, ℕ, zero, suc, [], ◌∷◌, ◌++◌}
use Rattle.atomic_table.specs.Table.{Me, Step}
use Rattle.process_claims.specs.declared.claimer.SeenClaims.{SeenClaims}

-- a view that claims nothing and saw nothing taken: that of the first caller, and of one that was
-- met
abbrev pub opened : SeenClaims
opened = record { claims = []; marks = [] }

-- a view that claims nothing, and saw taken what this one claims or saw taken
abbrev pub claimless : SeenClaims → SeenClaims
claimless v = record { claims = []; marks = v.marks ++ v.claims }

-- a view that claims and saw taken what both do
abbrev pub together : SeenClaims → SeenClaims → SeenClaims
together v w = record { claims = v.claims ++ w.claims; marks = v.marks ++ w.marks }

-- the view after a swap that found this in the word of the process
abbrev pub after_swap : ℕ → ℕ → SeenClaims → SeenClaims
after_swap zero process v = record { claims = v.claims ++ process ∷ []; marks = v.marks }
after_swap (suc n) process v = record { claims = v.claims; marks = v.marks ++ process ∷ [] }

-- a word was swapped, and the caller claims the process or saw it taken
pub record Swapped (st : Step (Unit {0})) (me : Me (Unit {0}) SeenClaims) (found : ℕ)
    (now : Me (Unit {0}) SeenClaims) : Type 0 where
  pub view : now.0 ≡ after_swap found st.word me.0
  pub slots : now.1 ≡ me.1
