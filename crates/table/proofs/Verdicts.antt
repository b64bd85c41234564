-- What the checks of a table show together.
use mathlib.Core.Path.{◌≡◌, refl, sym, ap, ◌∙◌}
use mathlib.Core.Logic.{◌⊎◌, inl, inr, ⊎_elim}
use mathlib.Core.Bool.{Bool, true, false}
use mathlib.Core.List.{List, [], ◌∷◌, ◌++◌}
use Prim.Native.Nat.{ℕ, ◌+◌, ◌*◌, ◌≤◌, ◌<◌}
use native.Mathlib.Omega.{arith}
use lib.ListN.{drop, take-append-drop}
use Rattle.calculus.specs.declared.Refusal.{Refusal}
use Rattle.calculus.specs.declared.Refusal.TheVariants as refusal
use Rattle.calculus.specs.Tree.{program, Tree, threads}
use Rattle.calculus.specs.Good.{Closed, Coherent, All, Good}
use Rattle.calculus.specs.Answers.{number}
use Rattle.calculus.specs.Calls.{Refusals, Accepts, Refuses, TableOf, plain_refusals}
use Rattle.calculus.proofs.Answers.{number_positive}
use Rattle.calculus.proofs.Alls.{all_each, all_with}
use Rattle.calculus.proofs.Outcomes.{table_of_unique}
use Rattle.calculus.proofs.Preorders.{nodes_positive}
use Rattle.calculus.proofs.Closures.{plain_coherent}
use Rattle.table.specs.Nodes.{Stands}
use Rattle.std.specs.Prelude.{Result, Ok, Err}
use Rattle.table.specs.Checks.{Walks, nothing, loose, scoped, OneBody, ProgramIn, ThreadsAgree, NoneAllocated, in_force, checked_number, Checks, admitted, refused}
use Rattle.table.proofs.Allocated.{none_held}
use Rattle.table.proofs.Scopes.{Within, scoped_closed, closed_scoped, within_threads, threads_within}

-- with scratch enough the limit that the caller asks for is in force
pub limit_in_force : (limit scratch : ℕ) → limit < 32767 → limit + 2 ≤ scratch → in_force limit scratch ≡ limit
limit_in_force limit scratch h k = omega arith

-- A list of refusals with more behind it.
module _ (ds : Refusals) where
  -- what refuses first still does
  pub refuses_early : (cs : Refusals) (r : Refusal) → Refuses cs r → Refuses (cs ++ ds) r
  refuses_early [] r h = absurd h
  refuses_early (c ∷ cs) r (inl h) = inl h
  refuses_early (c ∷ cs) r (inr h) = inr (h.0, refuses_early cs r h.1)

  -- what the first accept, the others can refuse
  pub refuses_late : (cs : Refusals) (r : Refusal) → Accepts cs → Refuses ds r → Refuses (cs ++ ds) r
  refuses_late [] r a h = h
  refuses_late (c ∷ cs) r a h = inr (a.0, refuses_late cs r a.1 h)

  -- or accept too
  pub accepts_both : (cs : Refusals) → Accepts cs → Accepts ds → Accepts (cs ++ ds)
  accepts_both [] a b = b
  accepts_both (c ∷ cs) a b = (a.0, accepts_both cs a.1 b)

  -- what is refused is refused by the first, or accepted by them and refused by the others
  pub refuses_either : (cs : Refusals) (r : Refusal) → Refuses (cs ++ ds) r → Refuses cs r ⊎ (Accepts cs × Refuses ds r)
  refuses_either [] r g = inr (tt, g)
  refuses_either (c ∷ cs) r (inl g) = inl (inl g)
  refuses_either (c ∷ cs) r (inr g) = ⊎_elim (λ h. inl (inr (g.0, h))) (λ h. inr ((g.0, h.0), h.1)) (refuses_either cs r g.1)

  -- what is accepted is accepted by both
  pub both_accept : (cs : Refusals) → Accepts (cs ++ ds) → Accepts cs × Accepts ds
  both_accept [] a = (tt, a)
  both_accept (c ∷ cs) a = let b = both_accept cs a.1 in ((a.0, b.0), b.1)

module _ {n : ℕ} {t : List ℕ} {count : ℕ} where
  -- a program that is the first nodes of a table stands at its front
  pub table_stands : {p : Tree program} → TableOf n t count p → Stands t 0 p
  table_stands h = record { rest = drop (2 * count) t; here = sym (take-append-drop (2 * count) t) ∙ ap (λ (l : List ℕ). l ++ drop (2 * count) t) h.is }

  -- no program has 0 nodes
  pub none_fits : n ≡ 0 → Checks n t count 1
  none_fits e = refused refusal.NoProgram (inl ((λ p h. let c = h.counts in let s = h.small in omega (arith, nodes_positive p)), refl))

  -- the walk that counts every binder finds no program, or an index without one
  pub walked_refused : {m : ℕ} → (m ≡ 0 → ⊥) → Walks n false t count m → Checks n t count m
  walked_refused g (nothing f) = refused refusal.NoProgram (inl (f, refl))
  walked_refused g (loose p h f) = refused refusal.NoBinder (inr ((λ k. k p h), inl ((p, (h, λ c. f (closed_scoped 0 p c))), refl)))
  walked_refused g (scoped p h f) = absurd (g refl)

-- a closed program stands there
pub record ClosedIn (n : ℕ) (t : List ℕ) (count : ℕ) : Type 0 where
  pub program_there : Tree program
  pub table_of : TableOf n t count program_there
  pub closed : Closed 0 program_there

module _ {n : ℕ} {t : List ℕ} {count : ℕ} where
  -- it finds neither
  pub closed_walked : {m : ℕ} → m ≡ 0 → Walks n false t count m → ClosedIn n t count
  closed_walked e (nothing f) = absurd (omega arith)
  closed_walked e (loose p h f) = absurd (omega arith)
  closed_walked e (scoped p h f) = record { program_there = p; table_of = h; closed = scoped_closed 0 p f }

module _ {n : ℕ} {t : List ℕ} {count : ℕ} (c : ClosedIn n t count) where
  abbrev this : Tree program
  this = c.program_there

  -- every program that stands there is this one
  closed_all : (p : Tree program) × (TableOf n t count p × (Closed 0 p → ⊥)) → ⊥
  closed_all q = q.1.1 (rw (table_of_unique q.1.0 c.table_of) c.closed)

  there : ((p : Tree program) → TableOf n t count p → ⊥) → ⊥
  there f = f this c.table_of

  coherent_all : All Coherent (threads this) → (p : Tree program) × (TableOf n t count p × (All Coherent (threads p) → ⊥)) → ⊥
  coherent_all a q = q.1.1 (rw (table_of_unique q.1.0 c.table_of) a)

  -- it is small and in range
  pub program_in : ProgramIn n t
  program_in = let h = c.table_of in record { program_there = this; stands = table_stands h; small = omega (arith, h.counts, h.small); ranges = h.ranges }

  incoherent : (All Coherent (threads this) → ⊥) → Checks n t count 8
  incoherent f = refused refusal.Incoherent (inr (there, inr (closed_all, inl ((this, (c.table_of, f)), refl))))

  -- the walk that counts only the binders inside an allocated abstraction finds an index without one
  pub not_within : {m : ℕ} → (m ≡ 0 → ⊥) → Walks n true t count m → Checks n t count m
  not_within g (nothing f) = absurd (there f)
  not_within g (loose p h f) =
      incoherent (λ a. f (rw (table_of_unique h c.table_of) (threads_within this c.closed (all_each Coherent Within (threads this) (λ x k. k.within) a))))
  not_within g (scoped p h f) = absurd (g refl)

  -- two allocated abstractions of a thread with one location differ
  pub not_equal : {b : Bool} → b ≡ false → ThreadsAgree t b → Checks n t count 8
  not_equal e a = incoherent (λ k. a.differ e this (table_stands c.table_of) (all_each Coherent OneBody (threads this) (λ x h. h.equal) k))

  within_all : {m : ℕ} → m ≡ 0 → Walks n true t count m → All Within (threads this)
  within_all e (nothing f) = absurd (omega arith)
  within_all e (loose p h f) = absurd (omega arith)
  within_all e (scoped p h f) = rw (table_of_unique c.table_of h) (within_threads p f)

  -- an admitted program
  coherent_admitted : All Coherent (threads this) → Checks n t count 0
  coherent_admitted k =
      let h = c.table_of in
      admitted this h (record { small = omega (arith, h.counts, h.small); ranges = h.ranges; closed = c.closed; coherent = k }) (there, (closed_all, (coherent_all k, tt)))

  -- it holds no allocated abstraction
  pub none_coherent : {b : Bool} → b ≡ true → NoneAllocated t count b → Checks n t count 0
  none_coherent e f = let h = c.table_of in coherent_admitted (plain_coherent this (none_held f this (table_stands h) h.counts e))

  -- neither
  pub all_coherent : {m : ℕ} {b : Bool} → m ≡ 0 → Walks n true t count m → b ≡ true → ThreadsAgree t b → Checks n t count 0
  all_coherent e w d a =
      let one = a.agree d this (table_stands c.table_of) in
      coherent_admitted (all_with (λ x k o. record { within = k; equal = o }) (threads this) (within_all e w) one)

-- an admitted program stands there
pub record AdmittedIn (n : ℕ) (t : List ℕ) (count : ℕ) : Type 0 where
  pub accepts : Accepts (plain_refusals n t count)
  pub program_there : Tree program
  pub table_of : TableOf n t count program_there
  pub good : Good n program_there

module _ {n : ℕ} {t : List ℕ} {count : ℕ} where
  -- the check admits: a good program stands there
  pub admitted_there : {r : Result Unit Refusal} {u : Unit} → r ≡ Ok u → Checks n t count (checked_number r) → AdmittedIn n t count
  admitted_there {r} e h = go h (ap checked_number e)
    where
      go : {m : ℕ} → Checks n t count m → m ≡ 0 → AdmittedIn n t count
      go (admitted p h g a) e = record { accepts = a; program_there = p; table_of = h; good = g }
      go (refused q g) e = absurd (omega (arith, number_positive q))

  -- the check refuses: the first condition that holds has the answer's number
  pub refused_there : {r : Result Unit Refusal} {q : Refusal} → r ≡ Err q → Checks n t count (checked_number r) → (s : Refusal) × ((number s ≡ number q) × Refuses (plain_refusals n t count) s)
  refused_there {q} e h = go h (ap checked_number e)
    where
      go : {m : ℕ} → Checks n t count m → m ≡ number q → (s : Refusal) × ((number s ≡ number q) × Refuses (plain_refusals n t count) s)
      go (admitted p h k a) e = absurd (omega (arith, number_positive q))
      go (refused s g) e = (s, (e, g))
