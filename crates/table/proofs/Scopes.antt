-- What the walk's two scopes say: every index has its binder; the first rule of coherence.
use mathlib.Core.Path.{◌≡◌, refl, sym, transport}
use mathlib.Core.Bool.{true, false}
use mathlib.Core.Logic.{inl, inr}
use Prim.Native.Nat.{ℕ, suc}
use native.Mathlib.Omega.{arith}
use Rattle.calculus.specs.Tree.{Sort, program, code, at, Tree, empty, alt, bound, free, con, abs, fresh, two, threads}
use Rattle.calculus.specs.Good.{Closed, Holds, All}
use Rattle.calculus.proofs.Substitutes.{closed_more}
use Rattle.table.specs.Checks.{ScopedIn}

scope_is : {s : Sort} (d : ℕ) (x : Tree s) → ScopedIn false d x ≡ Closed d x
scope_is d empty = refl
scope_is d (alt t p) = λ i. scope_is d t i × scope_is d p i
scope_is d (bound i) = refl
scope_is d (free x) = refl
scope_is d (con c) = refl
scope_is d (abs code p) = scope_is (suc d) p
scope_is d (abs (at l) p) = scope_is (suc d) p
scope_is d (fresh t) = scope_is (suc d) t
scope_is d (two o s t) = λ i. scope_is d s i × scope_is d t i

-- with every binder counted, scoped is closed
pub scoped_closed : {s : Sort} (d : ℕ) (x : Tree s) → ScopedIn false d x → Closed d x
scoped_closed d x = transport (scope_is d x)

-- and closed is scoped
pub closed_scoped : {s : Sort} (d : ℕ) (x : Tree s) → Closed d x → ScopedIn false d x
closed_scoped d x = transport (sym (scope_is d x))

-- fewer binders counted: closed all the more
within_closed : {s : Sort} (d : ℕ) (x : Tree s) → ScopedIn true d x → Closed d x
within_closed d empty h = tt
within_closed d (alt t p) h = (within_closed d t h.0, within_closed d p h.1)
within_closed d (bound i) h = h
within_closed d (free x) h = tt
within_closed d (con c) h = tt
within_closed d (abs code p) h = within_closed (suc d) p h
within_closed d (abs (at l) p) h = closed_more p (omega arith) (within_closed 1 p h)
within_closed d (fresh t) h = within_closed (suc d) t h
within_closed d (two o s t) h = (within_closed d s h.0, within_closed d t h.1)

-- the first rule of coherence
abbrev pub Within : {s : Sort} → Tree s → Type 0
Within x = (l : ℕ) (p : Tree program) → Holds l p x → Closed 1 p

-- where only the binders inside an allocated abstraction count for it, its body has no index beyond its own binder
pub within_closures : {s : Sort} (d : ℕ) (x : Tree s) → ScopedIn true d x → Within x
within_closures d (alt t p) h l q (inl u) = within_closures d t h.0 l q u
within_closures d (alt t p) h l q (inr u) = within_closures d p h.1 l q u
within_closures d (abs code p) h l q (inr u) = within_closures (suc d) p h l q u
within_closures d (abs (at m) p) h l q (inl u) = rw u.1 at (within_closed 1 p h)
within_closures d (abs (at m) p) h l q (inr u) = within_closures 1 p h l q u
within_closures d (fresh t) h l q u = within_closures (suc d) t h l q u
within_closures d (two o s t) h l q (inl u) = within_closures d s h.0 l q u
within_closures d (two o s t) h l q (inr u) = within_closures d t h.1 l q u
within_closures d empty h l q u = elim u [ ]
within_closures d (bound _) h l q u = elim u [ ]
within_closures d (free _) h l q u = elim u [ ]
within_closures d (con _) h l q u = elim u [ ]
within_closures d (abs code p) h l q (inl u) = elim u [ ]

-- and where each body has none, only those count
pub closures_within : {s : Sort} (d : ℕ) (x : Tree s) → Closed d x → Within x → ScopedIn true d x
closures_within d empty h w = tt
closures_within d (alt t p) h w = (closures_within d t h.0 (λ l q u. w l q (inl u)), closures_within d p h.1 (λ l q u. w l q (inr u)))
closures_within d (bound i) h w = h
closures_within d (free x) h w = tt
closures_within d (con c) h w = tt
closures_within d (abs code p) h w = closures_within (suc d) p h (λ l q u. w l q (inr u))
closures_within d (abs (at m) p) h w = closures_within 1 p (w m p (inl (refl, refl))) (λ l q u. w l q (inr u))
closures_within d (fresh t) h w = closures_within (suc d) t h w
closures_within d (two o s t) h w = (closures_within d s h.0 (λ l q u. w l q (inl u)), closures_within d t h.1 (λ l q u. w l q (inr u)))

-- of a program: its threads keep the first rule
pub within_threads : (p : Tree program) → ScopedIn true 0 p → All Within (threads p)
unfolding threads
within_threads empty h = tt
within_threads (alt t p) h = (within_closures 0 t h.0, within_threads p h.1)

-- and where the threads of a closed program keep it, the program is scoped so
pub threads_within : (p : Tree program) → Closed 0 p → All Within (threads p) → ScopedIn true 0 p
unfolding threads
threads_within empty h w = tt
threads_within (alt t p) h w = (closures_within 0 t h.0 w.0, threads_within p h.1 w.1)
