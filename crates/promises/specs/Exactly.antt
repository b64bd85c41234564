-- Demand 1: a call's refusal number against its ordered list of (refusal, condition): given exactly when.
use Rattle.std.specs.Prelude.{◌≡◌, ◌⊎◌, ℕ, ◌≤◌}
use Rattle.calculus.specs.declared.Refusal.{Refusal}
use Rattle.calculus.specs.Answers.{number}
use Rattle.calculus.specs.Calls.{Refusals, Accepts, Refuses, Applies}

pub record Exactly (cs : Refusals) (refusal : ℕ) : Type 0 where
  -- refused with r's number exactly if r's is the first condition of the list that holds
  pub refused : (r : Refusal) → Refuses cs r → refusal ≡ number r
  pub refused_only : (r : Refusal) → refusal ≡ number r → Refuses cs r
  -- accepted exactly if none holds
  pub accepted : Accepts cs → refusal ≡ 0
  pub accepted_only : refusal ≡ 0 → Accepts cs

-- of a read: where several apply, the lowest number is given
pub record Lowest (cs : Refusals) (refusal : ℕ) : Type 0 where
  pub lowest : (m : ℕ) → Applies cs m → (1 ≤ refusal) × (refusal ≤ m)

-- of a call on a table: so too, but for 14, which goes before all but 1
pub record LowestBut (cs : Refusals) (refusal : ℕ) : Type 0 where
  pub one : Applies cs 1 → refusal ≡ 1
  pub fourteen : Applies cs 14 → (refusal ≡ 1) ⊎ (refusal ≡ 14)
  pub lowest : (m : ℕ) → Applies cs m → (1 ≤ refusal) × ((refusal ≡ 14) ⊎ (refusal ≤ m))
