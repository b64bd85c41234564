-- What closes the open brackets: whether a text is one expression, told item by item.
use mathlib.Core.Path.{◌≡◌, refl, sym, ap, ◌∙◌}
use mathlib.Core.Logic.Iff
use mathlib.Core.Logic.{◌↔◌}
use mathlib.Core.List.{List, [], ◌∷◌, ◌++◌, append_assoc, append-nil, head-eq_of_cons-eq, tail-eq_of_cons-eq}
use mathlib.Core.Bool.{false}
use Prim.Native.Nat.{ℕ, zero, suc, ◌+◌, ◌-◌, ◌<◌, ◌≤◌}
use native.Mathlib.Numerals.{add-one}
use native.Mathlib.Omega.{arith}
use lib.Dec.{eqb}
use lib.ListN.{length, take, drop, length-drop, take-append-drop, drop_of_length-le}
use lib.Seq.{append_snoc}
use borrow.Author.Tests.{eqb-true, eqb-false}
use Rattle.std.specs.Prelude.{Result, Ok, Err}
use Rattle.calculus.specs.Sexp.{Sexp, one, many, atom, list, nothing, more, bytes}
use Rattle.calculus.proofs.Decimals.{decimal_first}
use Rattle.calculus.proofs.Bytes.{bytes_prefix, first_byte}
use Rattle.csexp.specs.Items.{ItemBytes, opening, closing, of_atom, Begins, item_bytes, Placed, Takes, took, cut, bad, taken_number, TakesNumber, some_item, no_item, OneExpression}
use Rattle.csexp.specs.declared.Cursor.{Cursor}
use Rattle.csexp.specs.declared.Item.{Item}
use Rattle.csexp.specs.declared.Item.TheVariants.{Open, Close, Atom}
use Rattle.csexp.specs.declared.Torn.{Torn}

-- the list closes so many brackets, and ends with the last
abbrev pub Closes : ℕ → List ℕ → Type 0
Closes zero l = l ≡ []
Closes (suc d) l = (m : Sexp many) × (r : List ℕ) × (l ≡ bytes m ++ (41 ∷ r)) × Closes d r

-- what has to follow before an item, with so many brackets open: one expression where there is none
abbrev pub Expects : ℕ → List ℕ → Type 0
Expects zero l = (e : Sexp one) × (bytes e ≡ l)
Expects (suc d) l = Closes (suc d) l

-- an atom's first byte is no bracket
pub no_bracket : (b r q : List ℕ) (k : ℕ) → k < 48 → bytes (atom b) ++ r ≡ k ∷ q → ⊥
unfolding bytes
no_bracket b r q k h e = decimal_first (length b) k _ q h (rw append_assoc at e)

-- an expression among the members
among : (e : Sexp one) (m : Sexp many) (r : List ℕ) → bytes (more e m) ++ r ≡ bytes e ++ (bytes m ++ r)
unfolding bytes
among e m r = append_assoc (bytes e) (bytes m) r

bracketed : (m : Sexp many) (r : List ℕ) → bytes (list m) ++ r ≡ 40 ∷ (bytes m ++ (41 ∷ r))
unfolding bytes
bracketed m r = rw append_snoc

unbracketed : (m : Sexp many) → bytes (list m) ≡ 40 ∷ (bytes m ++ (41 ∷ []))
unbracketed m = sym (append-nil (bytes (list m))) ∙ bracketed m []

-- an opening bracket opens one more
pub opens : (d : ℕ) (r : List ℕ) → Expects d (40 ∷ r) ↔ Closes (suc d) r
unfolding bytes
opens zero r = (to, from)
  where
    to : Expects zero (40 ∷ r) → Closes 1 r
    to (atom b, e) = absurd (no_bracket b [] r 40 (omega arith) (append-nil (bytes (atom b)) ∙ e))
    to (list m, e) = (m, [], tail-eq_of_cons-eq (sym e ∙ unbracketed m), refl)

    from : Closes 1 r → Expects zero (40 ∷ r)
    from (m, q, e, z) = (list m, rw (e, z) (unbracketed m))
opens (suc d) r = (to, from)
  where
    to : Closes (suc d) (40 ∷ r) → Closes (suc (suc d)) r
    to (nothing, q, e, c) = absurd (omega (arith, head-eq_of_cons-eq e))
    to (more (atom b) m, q, e, c) = absurd (no_bracket b (bytes m ++ (41 ∷ q)) r 40 (omega arith) (sym (e ∙ among (atom b) m (41 ∷ q))))
    to (more (list k) m, q, e, c) = (k, bytes m ++ (41 ∷ q), tail-eq_of_cons-eq (e ∙ among (list k) m (41 ∷ q) ∙ bracketed k (bytes m ++ (41 ∷ q))), (m, q, refl, c))

    from : Closes (suc (suc d)) r → Closes (suc d) (40 ∷ r)
    from (k, p, e, (m, q, f, c)) = (more (list k) m, q, rw (among (list k) m (41 ∷ q), bracketed k (bytes m ++ (41 ∷ q)), e, f), c)

-- a closing bracket closes one
pub closes : (d : ℕ) (r : List ℕ) → Expects (suc d) (41 ∷ r) ↔ Closes d r
unfolding bytes
closes d r = (to, λ c. (nothing, r, refl, c))
  where
    to : Closes (suc d) (41 ∷ r) → Closes d r
    to (nothing, q, e, c) = rw (tail-eq_of_cons-eq e) c
    to (more x m, q, e, c) = absurd (first_byte x 41 (bytes m ++ (41 ∷ q)) r (omega arith) (omega arith) (sym (e ∙ among x m (41 ∷ q))))

-- where none is open, none closes
pub closes_none : (r : List ℕ) → Expects zero (41 ∷ r) → ⊥
closes_none r h = first_byte h.0 41 [] r (omega arith) (omega arith) (append-nil (bytes h.0) ∙ h.1)

-- an atom leaves what has to close
pub keeps : (d : ℕ) (b r : List ℕ) → Expects d (bytes (atom b) ++ r) ↔ Closes d r
unfolding bytes
keeps zero b r = (λ h. (bytes_prefix (atom b) h.0 r [] (sym (append-nil (bytes h.0) ∙ h.1))).1, λ z. (atom b, sym (ap (λ (l : List ℕ). bytes (atom b) ++ l) z ∙ append-nil (bytes (atom b)))))
keeps (suc d) b r = (to, λ h. (more (atom b) h.0, h.1, rw (among (atom b) h.0 (41 ∷ h.1), h.2), h.3))
  where
    to : Closes (suc d) (bytes (atom b) ++ r) → Closes (suc d) r
    to (nothing, q, e, c) = absurd (no_bracket b r q 41 (omega arith) e)
    to (more x m, q, e, c) = (m, q, (bytes_prefix (atom b) x r (bytes m ++ (41 ∷ q)) (e ∙ among x m (41 ∷ q))).1, c)

expression_begins : (x : Sexp one) (r l : List ℕ) → l ≡ bytes x ++ r → Begins l
expression_begins (atom b) r l e = record { item = bytes (atom b); rest = r; is_item = of_atom b; here = e }
expression_begins (list m) r l e = record { item = 40 ∷ []; rest = bytes m ++ (41 ∷ r); is_item = opening; here = e ∙ bracketed m r }

-- what has to follow begins with an item
pub begins : (d : ℕ) (l : List ℕ) → Expects d l → Begins l
unfolding bytes
begins zero l (x, e) = expression_begins x [] l (sym (append-nil (bytes x) ∙ e))
begins (suc d) l (nothing, q, e, c) = record { item = 41 ∷ []; rest = q; is_item = closing; here = e }
begins (suc d) l (more x m, q, e, c) = expression_begins x (bytes m ++ (41 ∷ q)) l (e ∙ among x m (41 ∷ q))

-- the item that stands between two places
pub record Took (s : List ℕ) (at : ℕ) (i : Item) (next : ℕ) : Type 0 where
  pub within : next ≤ length s
  pub here : drop at s ≡ item_bytes s i ++ drop next s
  pub placed : Placed s at i next

-- an answer that has an item says where it stands
pub item_taken : {s : List ℕ} {at : ℕ} {t : Result (Item × Cursor) Torn} → Takes s at t → (i : Item) (c : Cursor) → t ≡ Ok (i, c) → Took s at i c.at
item_taken {s} {at} (took j next w h p) i c e =
    let pair : ◌≡◌ {A = Item × Cursor} (j, record { at = next }) (i, c) = cc in
    let same : j ≡ i = ap (λ (p : Item × Cursor). p.0) pair in
    let place : next ≡ c.at = ap (λ (p : Item × Cursor). p.1.at) pair in
    rw (← same, ← place) (record { within = w; here = h; placed = p })
item_taken (cut f q b) i c e = absurd (let z : ◌≡◌ {A = ℕ} 0 1 = cc in omega arith)
item_taken (bad p a l f q b) i c e = absurd (let z : ◌≡◌ {A = ℕ} 0 1 = cc in omega arith)

-- none was taken: none is there
pub none_taken : {s : List ℕ} {at : ℕ} {e : Torn} → Takes s at (Err e) → Begins (drop at s) → ⊥
none_taken (cut n q g) b = n b
none_taken {s} {at} (bad p a l n q g) b = n (drop (suc p - at) (drop at s)) (rw take-append-drop b)

-- an item's bytes are some
pub item_bytes_lem : (s : List ℕ) (i : Item) → ItemBytes (item_bytes s i)
item_bytes_lem s Open = opening
item_bytes_lem s Close = closing
item_bytes_lem s (Atom place n) = of_atom (take n (drop place s))

-- what is taken has its number
pub takes_number : {s : List ℕ} {at : ℕ} (t : Result (Item × Cursor) Torn) → Takes s at t → TakesNumber s at (taken_number t)
takes_number {s} t (took i next w h p) = some_item (record { item = item_bytes s i; rest = drop next s; is_item = item_bytes_lem s i; here = h })
takes_number t (cut f q b) = no_item f
takes_number {s} {at} t (bad p a l f q b) = no_item (λ g. f (drop (suc p - at) (drop at s)) (rw take-append-drop g))

-- what can't follow at the beginning is no expression
not_one : {s : List ℕ} → (Expects 0 s → ⊥) → OneExpression s false
not_one f = record { one_there = λ e. absurd (let z : ◌≡◌ {A = ℕ} 0 1 = cc in omega arith); none_there = λ e x k. f (x, k) }

-- with so many brackets open at a place, what follows decides whether the text is one expression
pub record Stage (s : List ℕ) (at depth : ℕ) : Type 0 where
  pub within : at ≤ length s
  pub shallow : depth ≤ at
  pub decides : Expects 0 s ↔ Expects depth (drop at s)

-- the same behind an item
pub record Passed (s : List ℕ) (at next depth : ℕ) : Type 0 where
  pub forward : at < next
  pub within : next ≤ length s
  pub shallow : depth ≤ next
  pub decides : Expects 0 s ↔ Closes depth (drop next s)

-- at the beginning nothing is open
pub stage_start : (s : List ℕ) (at : ℕ) → at ≡ 0 → Stage s at 0
stage_start s at z = rw z (record { within = omega arith; shallow = omega arith; decides = (λ x. x, λ x. x) })

module _ {s : List ℕ} {at depth next : ℕ} {i : Item} (h : Stage s at depth) (t : Took s at i next) where
  behind : (d : ℕ) → at < next → d ≤ next → Expects depth (drop at s) ↔ Closes d (drop next s) → Passed s at next d
  behind d f l k = record { forward = f; within = t.within; shallow = l; decides = Iff.trans h.decides k }

  -- one more is open behind an opening bracket
  pub pass_open : (d : ℕ) → i ≡ Open → d ≡ depth + 1 → Passed s at next d
  pass_open d e f = let u : Took s at Open next = rw e at t in behind d (omega (arith, u.placed)) (omega (arith, u.placed)) (rw (f, add-one, u.here) (opens depth (drop next s)))

  -- one fewer behind a closing bracket
  pub pass_close : (d : ℕ) → i ≡ Close → (depth ≡ 0 → ⊥) → d ≡ depth - 1 → Passed s at next d
  pass_close d e n f =
      let u : Took s at Close next = rw e at t in
      let g : depth ≡ suc d = omega arith in
      behind d (omega (arith, u.placed)) (omega (arith, u.placed)) (rw (g, u.here) (closes d (drop next s)))

  -- as many behind an atom
  pub pass_atom : (d p n : ℕ) → i ≡ Atom p n → d ≡ depth → Passed s at next d
  pass_atom d p n e f = let u : Took s at (Atom p n) next = rw e at t in behind d (omega (arith, u.placed)) (omega (arith, u.placed)) (rw (f, u.here) (keeps depth (take n (drop p s)) (drop next s)))

  -- a closing bracket where none is open
  pub not_closing : i ≡ Close → depth ≡ 0 → OneExpression s false
  not_closing e z = let u : Took s at Close next = rw e at t in not_one (λ x. closes_none (drop next s) (rw (z, u.here) at (h.decides.0 x)))

-- where no item is, none of what has to follow is
pub not_item : {s : List ℕ} {at depth : ℕ} → Stage s at depth → (Begins (drop at s) → ⊥) → OneExpression s false
not_item {s} {at} {depth} h f = not_one (λ x. f (begins depth (drop at s) (h.decides.0 x)))

-- brackets are still open
pub stage_again : {s : List ℕ} {at next depth : ℕ} → Passed s at next depth → (depth ≡ 0 → ⊥) → Stage s next depth
stage_again {s} {at} {next} {depth} p f = go depth p f
  where
    go : (d : ℕ) → Passed s at next d → (d ≡ 0 → ⊥) → Stage s next d
    go zero p f = absurd (f refl)
    go (suc d) p f = record { within = p.within; shallow = p.shallow; decides = p.decides }

-- none is open: the text is one expression exactly if it ends there
pub stage_end : {s : List ℕ} {at next depth : ℕ} → Passed s at next depth → depth ≡ 0 → OneExpression s (eqb next (length s))
stage_end {s} {at} {next} {depth} p z =
    let ends : Expects 0 s ↔ (drop next s ≡ []) = rw z at p.decides in
    record { one_there = λ e. ends.1 (drop_of_length-le s {i = next} (omega (arith, eqb-true))); none_there = λ e x k. eqb-false next (length s) e (omega (arith, p.within, sym (length-drop next s) ∙ ap length (ends.0 (x, k)))) }
