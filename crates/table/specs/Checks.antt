-- What the checks of a table answer.
use Rattle.std.specs.Prelude.{◌≡◌, Result, Ok, Err, Bool, true, false, cond, List, ℕ, suc, ◌-◌, ◌≤◌, ◌<◌, min}
use Rattle.calculus.specs.Tree.{Sort, term, program, Head, code, at, Tree, empty, alt, bound, free, con, abs, fresh, two, preorder, nodes, threads}
use Rattle.calculus.specs.Good.{InRange, Holds, All, Good}
use Rattle.calculus.specs.Calls.{Accepts, Refuses, TableOf, plain_refusals}
use Rattle.calculus.specs.Answers.{number}
use Rattle.calculus.specs.declared.Refusal.{Refusal}
use Rattle.calculus.specs.declared.Refusal.TheVariants as refusal
use Rattle.table.specs.Nodes.{kind_at, Stands}
use Rattle.table.specs.declared.walk.Scope.{Scope}
use Rattle.table.specs.declared.walk.Scope.TheVariants.{Program, Closures}

-- binders around a closure's body: only its own where the scope is said within it
abbrev pub inside : Bool → ℕ → Head → ℕ
inside within d code = suc d
inside within d (at l) = cond within 1 (suc d)

-- every index has its binder, with d binders around; where `within` holds, inside an allocated abstraction only those inside it count
abbrev pub ScopedIn : {s : Sort} → Bool → ℕ → Tree s → Type 0
ScopedIn within d empty = Unit {0}
ScopedIn within d (alt t p) = ScopedIn within d t × ScopedIn within d p
ScopedIn within d (bound i) = suc i ≤ d
ScopedIn within d (free x) = Unit {0}
ScopedIn within d (con c) = Unit {0}
ScopedIn within d (abs h p) = ScopedIn within (inside within d h) p
ScopedIn within d (fresh t) = ScopedIn within (suc d) t
ScopedIn within d (two o s t) = ScopedIn within d s × ScopedIn within d t

-- why an index without a binder is refused; where the scope is said within allocated abstractions, by the first rule of coherence
abbrev pub unbound : Bool → Refusal
unbound within = cond within refusal.Incoherent refusal.NoBinder

-- whether the scope is said within allocated abstractions
abbrev pub within : Scope → Bool
within Program = false
within Closures = true

-- document 01's number for what a walk or a check answers: 0 where it refuses nothing
abbrev pub checked_number : Result Unit Refusal → ℕ
checked_number (Ok u) = 0
checked_number (Err r) = number r

-- what a walk over the nodes finds: no program with its numbers in range; one with an index that has no binder; one without
pub data Walks (n : ℕ) (within : Bool) (t : List ℕ) (count : ℕ) : ℕ → Type 0 where
  nothing : ((p : Tree program) → TableOf n t count p → ⊥) → Walks n within t count (number refusal.NoProgram)
  loose : (p : Tree program) → TableOf n t count p → (ScopedIn within 0 p → ⊥) → Walks n within t count (number (unbound within))
  scoped : (p : Tree program) → TableOf n t count p → ScopedIn within 0 p → Walks n within t count 0

-- the part is exactly a thread's nodes, with their numbers in range
pub record IsThread (n : ℕ) (part : List ℕ) : Type 0 where
  pub thread : Tree term
  pub is : part ≡ preorder thread
  pub ranges : InRange n thread

-- coherence (2) of a term
abbrev pub OneBody : Tree term → Type 0
OneBody x = (l : ℕ) (p q : Tree program) → Holds l p x → Holds l q x → p ≡ q

-- whether any two allocated abstractions of a thread with one location have equal bodies
pub record BodiesAgree (part : List ℕ) (r : Bool) : Type 0 where
  pub agree : r ≡ true → (x : Tree term) → part ≡ preorder x → OneBody x
  pub differ : r ≡ false → (x : Tree term) → part ≡ preorder x → OneBody x → ⊥

-- a program stands at the front of the table, small and with its numbers in range
pub record ProgramIn (n : ℕ) (t : List ℕ) : Type 0 where
  pub program_there : Tree program
  pub stands : Stands t 0 program_there
  pub small : nodes program_there ≤ n
  pub ranges : InRange n program_there

-- whether coherence (2) holds of each thread
pub record ThreadsAgree (t : List ℕ) (r : Bool) : Type 0 where
  pub agree : r ≡ true → (p : Tree program) → Stands t 0 p → All OneBody (threads p)
  pub differ : r ≡ false → (p : Tree program) → Stands t 0 p → All OneBody (threads p) → ⊥

-- whether no allocated abstraction stands among the first nodes
pub record NoneAllocated (t : List ℕ) (count : ℕ) (r : Bool) : Type 0 where
  pub none : r ≡ true → (k : ℕ) → k < count → kind_at t k ≡ 6 → ⊥
  pub some : r ≡ false → (k : ℕ) × ((k < count) × (kind_at t k ≡ 6))

-- the limit in force: what the caller asks for, as far as 16-bit numbers and the lent scratch serve
abbrev pub in_force : ℕ → ℕ → ℕ
in_force limit scratch = min (min limit 32766) (scratch - 2)

-- the first of document 01's conditions 1, 6 and 8 that holds of a table and its count under the limit n; or a good program stands there, and none holds
pub data Checks (n : ℕ) (t : List ℕ) (count : ℕ) : ℕ → Type 0 where
  admitted : (p : Tree program) → TableOf n t count p → Good n p → Accepts (plain_refusals n t count) → Checks n t count 0
  refused : (r : Refusal) → Refuses (plain_refusals n t count) r → Checks n t count (number r)
