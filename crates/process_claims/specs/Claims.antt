-- The rule of claims: what holds of the words and of what the callers know, between any two steps.
use Rattle.std.specs.Prelude.{◌≡◌, ℕ, ◌≤◌, List, length, slice_index}
use Rattle.std.specs.List.{Contains}
use mathlib.Core.Option.{some}
use lib.ListN.{get_elem?}
use Rattle.atomic_table.specs.Table.{State}
use Rattle.process_claims.specs.declared.claimer.SeenClaims.{SeenClaims}

-- the word of each process that a view claims or saw taken is 1
pub record IsTrueOf (words : List ℕ) (v : SeenClaims) : Type 0 where
  pub claims : (process : ℕ) → Contains v.claims process → slice_index words process ≡ 1
  pub marks : (process : ℕ) → Contains v.marks process → slice_index words process ≡ 1

-- some view claims the process
pub record IsOwned (views : List SeenClaims) (process : ℕ) : Type 0 where
  pub number : ℕ
  pub view : SeenClaims
  pub at : get_elem? views number ≡ some view
  pub has : Contains view.claims process

-- Each word is 0 or 1. It is 1 exactly where some view claims the process, and then exactly one
-- does. What a view saw taken has the word 1.
pub record HasClaims (count : ℕ) (words : List ℕ) (views : List SeenClaims) : Type 0 where
  pub size : length words ≡ count
  pub bit : (process : ℕ) → slice_index words process ≤ 1
  pub owner : (process : ℕ) → slice_index words process ≡ 1 → IsOwned views process
  pub known : (j : ℕ) (v : SeenClaims) → get_elem? views j ≡ some v → IsTrueOf words v
  pub alone : (process j k : ℕ) (v w : SeenClaims) → get_elem? views j ≡ some v
      → get_elem? views k ≡ some w → Contains v.claims process → Contains w.claims process → j ≡ k

-- the rule over a table of so many words
abbrev pub ClaimsHold : ℕ → State (Unit {0}) SeenClaims → Type 0
ClaimsHold count s = HasClaims count s.words s.views
