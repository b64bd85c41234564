-- Which number a read gives: that of the first condition that holds, of what a text is not or of what its program is not.
use mathlib.Core.Path.{◌≡◌, refl, ap}
use mathlib.Core.Logic.{inl, inr}
use mathlib.Core.List.{List, [], ◌∷◌}
use Prim.Native.Nat.{ℕ, ◌*◌, ◌≤◌, ◌<◌}
use native.Mathlib.Omega.{arith}
use lib.ListN.{length}
use Rattle.calculus.specs.declared.Refusal.{Refusal}
use Rattle.calculus.specs.declared.Refusal.TheVariants.{TooLong, NotCanonical, OutOfPlace, BadNumber, NoBinder, TooManyNodes, Incoherent, NoRoom}
use Rattle.calculus.specs.Tree.{program, Tree, nodes, threads}
use Rattle.calculus.specs.Good.{Closed, Coherent, All, Good}
use Rattle.calculus.specs.Sheets.{Sheet, holds}
use Rattle.calculus.specs.Sexp.{one, Sexp, list, bytes}
use Rattle.calculus.specs.Text.{Raw, encode, raw, raw_text, text}
use Rattle.calculus.specs.Answers.{number, Values}
use Rattle.calculus.specs.Calls.{Refusals, Refuses, TextOf, read_refusals, Reads}
use Rattle.calculus.proofs.Refusals.{read_ascends}
use Rattle.calculus.proofs.Outcomes.{text_of_unique}
use Rattle.promises.proofs.Refused.{refused_above, reads_exactly}

-- a list of refusals without its first
abbrev pub behind : Refusals → Refusals
behind [] = []
behind (c ∷ cs) = cs

-- 2 is the first number of a read, so it is given only where its condition holds
pub two_only : (n : ℕ) (b : List ℕ) (out : Sheet) → Refuses (read_refusals n b out) TooLong → 12 * n < length b
two_only n b out (inl g) = g.0
two_only n b out (inr g) = absurd (omega (arith, refused_above (behind (read_refusals n b out)) 2 TooLong (read_ascends n b out).1 g.1))

-- Every outcome of a read has the number of the first condition that holds: what a text is not, or what its program is not.
module _ {n : ℕ} {b : List ℕ} {out : Sheet} {v : Values} {o : Sheet} (h : Reads n b out v o) (l : length b ≤ 12 * n) where
  pub gives_3 : ((s : Sexp one) → bytes s ≡ b → ⊥) → v.refusal ≡ 3
  gives_3 f = (reads_exactly h).refused NotCanonical (inr ((λ k. omega arith), inl (f, refl)))

  pub gives_4 : (s : Sexp one) → bytes s ≡ b → ((r : Raw program) → raw_text r ≡ b → ⊥) → v.refusal ≡ 4
  gives_4 s e f = (reads_exactly h).refused OutOfPlace (inr ((λ k. omega arith), inr ((λ g. g s e), inl ((s, (e, f)), refl))))

  pub gives_5 : (r : Raw program) → raw_text r ≡ b → ((p : Tree program) → TextOf n b p → ⊥) → v.refusal ≡ 5
  unfolding raw_text
  gives_5 r e f = (reads_exactly h).refused BadNumber (inr ((λ k. omega arith), inr ((λ g. g (list (encode r)) e), inr ((λ g. g.1.1 r e), inl ((r, (e, f)), refl)))))

  -- the text of a program in range is given none of 2 to 5: the first of what is asked of the program itself decides
  module _ {p : Tree program} (t : TextOf n b p) where
    of_program : (r : Refusal) → Refuses (behind (behind (behind (behind (read_refusals n b out))))) r → v.refusal ≡ number r
    unfolding text raw_text
    of_program r g = (reads_exactly h).refused r (inr ((λ k. omega arith), inr ((λ f. f (list (encode (raw p))) t.is), inr ((λ f. f.1.1 (raw p) t.is), inr ((λ f. f.1.1 p t), g)))))

    same : (q : Tree program) → TextOf n b q → q ≡ p
    same q k = text_of_unique k t

    not_6 : Closed 0 p → (q : Tree program) × (TextOf n b q × (Closed 0 q → ⊥)) → ⊥
    not_6 c f = f.1.1 (rw (same f.0 f.1.0) c)

    not_7 : nodes p ≤ n → (q : Tree program) × (TextOf n b q × (n < nodes q)) → ⊥
    not_7 m f = omega (arith, f.1.1, ap nodes (same f.0 f.1.0))

    not_8 : All Coherent (threads p) → (q : Tree program) × (TextOf n b q × (All Coherent (threads q) → ⊥)) → ⊥
    not_8 c f = f.1.1 (rw (same f.0 f.1.0) c)

    pub gives_6 : (Closed 0 p → ⊥) → v.refusal ≡ 6
    gives_6 f = of_program NoBinder (inl ((p, (t, f)), refl))

    pub gives_7 : Closed 0 p → n < nodes p → v.refusal ≡ 7
    gives_7 c m = of_program TooManyNodes (inr (not_6 c, inl ((p, (t, m)), refl)))

    pub gives_8 : Closed 0 p → nodes p ≤ n → (All Coherent (threads p) → ⊥) → v.refusal ≡ 8
    gives_8 c m f = of_program Incoherent (inr (not_6 c, inr (not_7 m, inl ((p, (t, f)), refl))))

    pub gives_9 : Good n p → holds out < nodes p → v.refusal ≡ 9
    gives_9 g m = of_program NoRoom (inr (not_6 g.closed, inr (not_7 g.small, inr (not_8 g.coherent, inl ((p, (t, m)), refl)))))
