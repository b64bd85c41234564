-- The stack of the goals that wait: one more, the next one, and what a tag announces.
use mathlib.Core.Path.{◌≡◌, refl, sym, ap, ◌∙◌}
use mathlib.Core.Logic.{◌⊎◌, inl, inr, ⊎_elim}
use mathlib.Core.List.{List, [], ◌∷◌, ◌++◌}
use Prim.Native.Nat.{ℕ, zero, suc, ◌+◌, ◌-◌, ◌≤◌, ◌<◌}
use native.Mathlib.Numerals.{add-one}
use native.Mathlib.Omega.{arith}
use lib.ListN.{length, get_or, set, drop, length-drop, get_or-eq_default}
use lib.Seq.{drop-cons, drop-set-lt, get_or-set_same, lt-length-set}
use Rattle.calculus.specs.Sexp.{atom, bytes}
use Rattle.calculus.specs.Tree.{Pair}
use Rattle.calculus.specs.Text.{bound_leaf, free_leaf, con_leaf}
use Rattle.csexp.specs.declared.Cursor.{Cursor}
use Rattle.reading.specs.declared.goals.Waiting.{Waiting}
use Rattle.reading.specs.declared.parse.Met.{Met}
use Rattle.reading.specs.Descent.{Between, bracket, Row, leaf, code, located, opened, pair, tag, node_of, ends, waiting, cells_of, Pushes, Announced, Announces, BeforeTerm, Tops}
use Rattle.reading.proofs.Grammar.{parts, tag_injective}

-- one goal more
pub pushes : (cells : List ℕ) (top goal : ℕ) → 0 < top → top ≤ length cells → Pushes goal cells top (top - 1) (set cells (top - 1) goal)
pushes cells top goal h g =
    let j : ℕ = top - 1 in
    let e : suc j ≡ top = omega arith in
    let l : j < length cells = omega arith in
    record { one_less = omega arith; here = drop-cons (set cells j goal) j 0 (lt-length-set cells j goal l) ∙ rw (get_or-set_same cells j goal 0 l, drop-set-lt (suc j) cells j goal (omega arith), e) }

-- a goal ends at most one binder
one_ends : (d cell : ℕ) → get_or (d ∷ d ∷ d ∷ d ∷ []) cell (d + 1) ≤ d + 1
one_ends d zero = omega arith
one_ends d (suc zero) = omega arith
one_ends d (suc (suc zero)) = omega arith
one_ends d (suc (suc (suc zero))) = omega arith
one_ends d (suc (suc (suc (suc cell)))) = omega arith

-- so many goals at most so many
pub ends_few : (cells : List ℕ) → ends cells ≤ length cells
ends_few [] = omega arith
ends_few (cell ∷ cells) = omega (arith, one_ends (ends cells) cell, ends_few cells)

-- the next goal, before the others
pub next_goal : {goal : ℕ} (cells : List ℕ) (top : ℕ) → Tops cells top goal → drop top cells ≡ goal ∷ drop (top + 1) cells
next_goal cells top t = drop-cons cells top 0 t.on ∙ rw (t.is, add-one)

-- a goal that is none of the four
pub other_goal : (cell : ℕ) → (((Unit {0} × (cell ≡ 0 → ⊥)) × (cell ≡ 1 → ⊥)) × (cell ≡ 2 → ⊥)) × (cell ≡ 3 → ⊥) → 4 ≤ cell
other_goal zero h = absurd (h.0.0.0.1 refl)
other_goal (suc zero) h = absurd (h.0.0.1 refl)
other_goal (suc (suc zero)) h = absurd (h.0.1 refl)
other_goal (suc (suc (suc zero))) h = absurd (h.1 refl)
other_goal (suc (suc (suc (suc cell)))) h = omega arith

-- it ends a binder
pub next_end : (cells : List ℕ) (top : ℕ) → top < length cells → 4 ≤ get_or cells top 0 → (waiting (drop top cells) ≡ bracket 41 ∷ waiting (drop (top + 1) cells)) × (ends (drop top cells) ≡ ends (drop (top + 1) cells) + 1)
next_end cells top l h =
    let e : drop top cells ≡ get_or cells top 0 ∷ drop (top + 1) cells = next_goal cells top (record { on = l; is = refl }) in
    (rw (e, get_or-eq_default _ (bracket 41) h), rw (e, get_or-eq_default _ (ends (drop (top + 1) cells) + 1) h))

-- Tags.

-- a tag's bytes
pub tag_long : {s : List ℕ} {at next : ℕ} (k : ℕ) → Between s at next (40 ∷ bytes (atom (k ∷ []))) → at + 4 ≤ next
unfolding bytes
tag_long {s} {at} {next} k t = omega (arith, t.forward, t.within, ap length t.here, length-drop at s, length-drop next s)

-- there is room for what it announces
pub room_there : {n : ℕ} {s cells : List ℕ} {c c' : Cursor} {m : Met} {w : Waiting} (k : ℕ) → BeforeTerm n s cells c m w → Between s c.at c'.at (40 ∷ bytes (atom (k ∷ []))) → (3 ≤ w.top) × (w.top ≤ length cells) × (w.binders < length cells)
room_there {cells} {w} k p t =
    let h = p.stacked in
    (omega (arith, tag_long k t, t.within, p.long, h.room), h.on, omega (arith, tag_long k t, t.within, p.long, h.room, h.on, h.binds, ends_few (drop w.top cells), length-drop w.top cells))

-- what waits behind the node is what the grammar asks for
pub announced_parts : (n : ℕ) (x : Row) (cells : List ℕ) → node_of n (ends cells) x ∷ waiting (cells_of x ++ cells) ≡ parts n (ends cells) x ++ (bracket 41 ∷ waiting cells)
announced_parts n (leaf l) cells = refl
announced_parts n code cells = refl
announced_parts n located cells = refl
announced_parts n opened cells = refl
announced_parts n (pair o) cells = refl

module _ {k : ℕ} {w : Waiting} {cells : List ℕ} where
  the_row : {w' : Waiting} {cells' : List ℕ} (y : Row) → k ≡ tag y → Announced y w cells w' cells' → (x : Row) → k ≡ tag x → Announced x w cells w' cells'
  the_row y e a x f = rw (tag_injective x y (sym f ∙ e)) a

  -- a tag of none of the others is that of two terms
  two_terms : {w' : Waiting} {cells' : List ℕ} → (((Unit {0} × ((k ≡ 99) ⊎ ((k ≡ 118) ⊎ (k ≡ 120)) → ⊥)) × ((k ≡ 76) ⊎ (k ≡ 108) → ⊥)) × (k ≡ 110 → ⊥)) → ((o : Pair) → Announced (pair o) w cells w' cells') → (x : Row) → k ≡ tag x → Announced x w cells w' cells'
  two_terms h a (leaf bound_leaf) e = absurd (h.0.0.1 (inr (inl e)))
  two_terms h a (leaf free_leaf) e = absurd (h.0.0.1 (inr (inr e)))
  two_terms h a (leaf con_leaf) e = absurd (h.0.0.1 (inl e))
  two_terms h a code e = absurd (h.0.1 (inr e))
  two_terms h a located e = absurd (h.0.1 (inl e))
  two_terms h a opened e = absurd (h.1 e)
  two_terms h a (pair o) e = a o

  module _ {t₁ : ℕ} {cells₁ : List ℕ} where
    -- a leaf: its closing bracket
    pub announce_leaf : (k ≡ 99) ⊎ ((k ≡ 118) ⊎ (k ≡ 120)) → Pushes 3 cells w.top t₁ cells₁ → Announces k w cells (record { top = t₁; binders = w.binders }) cells₁
    announce_leaf h p =
        let q = p.one_less in
        let a : (y : Row) → cells_of y ≡ 3 ∷ [] → Announced y w cells (record { top = t₁; binders = w.binders }) cells₁ = λ y e. record { here = rw e p.here; binds = λ b. rw p.here b } in
        record { few = omega arith; lower = omega arith; by_row = ⊎_elim (λ e. the_row (leaf con_leaf) e (a (leaf con_leaf) refl)) (⊎_elim (λ e. the_row (leaf bound_leaf) e (a (leaf bound_leaf) refl)) (λ e. the_row (leaf free_leaf) e (a (leaf free_leaf) refl))) h }

    module _ {t₂ : ℕ} {cells₂ : List ℕ} where
      -- a fresh node: its term under one more binder, and the closing bracket that ends it
      pub announce_fresh : k ≡ 110 → Pushes 4 cells w.top t₁ cells₁ → Pushes 0 cells₁ t₁ t₂ cells₂ → Announces k w cells (record { top = t₂; binders = w.binders + 1 }) cells₂
      announce_fresh e p p₂ =
          let q = p.one_less in
          let q₂ = p₂.one_less in
          let h : drop t₂ cells₂ ≡ 0 ∷ 4 ∷ drop w.top cells = rw (p₂.here, p.here) in
          record { few = omega arith; lower = omega arith; by_row = the_row opened e (record { here = h; binds = λ b. rw (h, b) }) }

      module _ {t₃ : ℕ} {cells₃ : List ℕ} where
        -- an abstraction: its program in brackets, under one more binder, and the closing bracket that ends it
        pub announce_program : (k ≡ 76) ⊎ (k ≡ 108) → Pushes 4 cells w.top t₁ cells₁ → Pushes 1 cells₁ t₁ t₂ cells₂ → Pushes 2 cells₂ t₂ t₃ cells₃ → Announces k w cells (record { top = t₃; binders = w.binders + 1 }) cells₃
        announce_program h p p₂ p₃ =
            let q = p.one_less in
            let q₂ = p₂.one_less in
            let q₃ = p₃.one_less in
            let g : drop t₃ cells₃ ≡ 2 ∷ 1 ∷ 4 ∷ drop w.top cells = rw (p₃.here, p₂.here, p.here) in
            let a : (y : Row) → cells_of y ≡ 2 ∷ 1 ∷ 4 ∷ [] → Announced y w cells (record { top = t₃; binders = w.binders + 1 }) cells₃ = λ y e. record { here = rw e g; binds = λ b. rw (g, b) } in
            record { few = omega arith; lower = omega arith; by_row = ⊎_elim (λ e. the_row located e (a located refl)) (λ e. the_row code e (a code refl)) h }

        -- two terms: both, and the closing bracket
        pub announce_pair : (((Unit {0} × ((k ≡ 99) ⊎ ((k ≡ 118) ⊎ (k ≡ 120)) → ⊥)) × ((k ≡ 76) ⊎ (k ≡ 108) → ⊥)) × (k ≡ 110 → ⊥)) → Pushes 3 cells w.top t₁ cells₁ → Pushes 0 cells₁ t₁ t₂ cells₂ → Pushes 0 cells₂ t₂ t₃ cells₃ → Announces k w cells (record { top = t₃; binders = w.binders }) cells₃
        announce_pair h p p₂ p₃ =
            let q = p.one_less in
            let q₂ = p₂.one_less in
            let q₃ = p₃.one_less in
            let g : drop t₃ cells₃ ≡ 0 ∷ 0 ∷ 3 ∷ drop w.top cells = rw (p₃.here, p₂.here, p.here) in
            record { few = omega arith; lower = omega arith; by_row = two_terms h (λ o. record { here = g; binds = λ b. rw (g, b) }) }
