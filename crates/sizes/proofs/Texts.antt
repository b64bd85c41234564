-- What a read at the node limit n says of a read of the same bytes at a limit m that is no smaller, and the reverse.
use mathlib.Core.Path.{◌≡◌, refl, sym, ap, ◌∙◌}
use mathlib.Core.Logic.{inl, inr}
use mathlib.Core.List.{List, [], ◌∷◌}
use Prim.Native.Nat.{ℕ, ◌≤◌, ◌<◌}
use native.Mathlib.Omega.{arith}
use lib.ListN.{length}
use Rattle.calculus.specs.declared.Refusal.{Refusal}
use Rattle.calculus.specs.declared.Refusal.TheVariants.{TooLong, BadNumber, TooManyNodes, NoRoom, Closure}
use Rattle.calculus.specs.Tree.{program, Tree, nodes, threads}
use Rattle.calculus.specs.Good.{InRange, HoldsClosure, Good}
use Rattle.calculus.specs.Sheets.{Sheet, holds}
use Rattle.calculus.specs.Run.{run}
use Rattle.calculus.specs.Sexp.{list}
use Rattle.calculus.specs.Text.{encode, raw, raw_text, text}
use Rattle.calculus.specs.Answers.{number, Values}
use Rattle.calculus.specs.Calls.{Refuses, TextOf, read_refusals, Reads, read, refused}
use Rattle.calculus.specs.Report.{report, refusal_report, operator_refusals, zeros, reported, Reports}
use Rattle.calculus.specs.Report as reports
use Rattle.calculus.proofs.Answers.{number_positive}
use Rattle.calculus.proofs.Texts.{text_injective, text_length}
use Rattle.calculus.proofs.Refusals.{accepted_not_refused, one_refusal}
use Rattle.calculus.proofs.Reports.{zeros_hold}
use Rattle.promises.proofs.Admitted.{closed_stable, coherent_stable, good_read_only, good_written_only}
use Rattle.promises.proofs.Refused.{reads_exactly}
use Rattle.promises.proofs.Worked.{put_held, read_gives}
use Rattle.promises.proofs.Given.{gives_3, gives_4, gives_6, gives_8, gives_9}
use Rattle.operator.specs.Operator.{ClosureText}
use Rattle.operator.proofs.Turned.{closure_turned, turned_closure, refused_before, accepted_before}
use Rattle.sizes.specs.Texts.{Within, ReadAs, WritesBack, StoredTexts, OldRefusal, MeetsOldLeaf, OldLeaf, OldProgram, OldReport, SameReads, KeptRefusal, KeptRefusals}
use Rattle.sizes.proofs.Wider.{wider_text, wider_good}

-- Of an admitted program p, whose text is b:
module _ {n : ℕ} {b : List ℕ} {p : Tree program} (e : text p ≡ b) (g : Good n p) (out : Sheet) {v : Values} {o : Sheet} where
  -- b is read as p where the output holds p
  read_as : n ≤ 65536 → nodes p ≤ holds out → Reads n b out v o → ReadAs p out v o
  read_as l r h = good_read_only g l r (rw (← e) at h)

  -- and what was read is written back to b
  writes_back : ReadAs p out v o → WritesBack n p o b
  writes_back i back x r l h = rw e at (good_written_only g (rw i.1 (put_held out g)) (omega (arith, ap length e)) h)

pub stored_texts : (n m : ℕ) → n ≤ m → m ≤ 65536 → StoredTexts n m
stored_texts n m l k b out v o out' v' o' h z h' =
    let w = read_gives h z in
    let p = w.program in
    let g : Good m p = wider_good l w.good in
    let before : ReadAs p out v o = read_as w.is w.good out (omega arith) w.fits h in
    let now : nodes p ≤ holds out' → ReadAs p out' v' o' = λ r. read_as w.is g out' k r h' in
    record {
      program = p;
      is = w.is;
      before = before;
      now = λ r. now (omega arith);
      back = (writes_back w.is w.good out before, writes_back w.is g out before);
      back_now = λ r. (writes_back w.is w.good out' (now r), writes_back w.is g out' (now r));
    }

-- what a read at n can refuse the text of the program p with, where p is admitted at a limit that is no smaller
data Met (n : ℕ) (p : Tree program) (out : Sheet) : Refusal → Type 0 where
  with_two : n < nodes p → Met n p out TooLong
  with_five : (InRange n p → ⊥) → Met n p out BadNumber
  with_seven : n < nodes p → Met n p out TooManyNodes
  with_nine : Within n p → holds out < nodes p → Met n p out NoRoom

module _ {n : ℕ} {p : Tree program} {out : Sheet} where
  -- beyond n it is 2, 5 or 7
  met_beyond : {r : Refusal} → Met n p out r → (Within n p → ⊥) → OldRefusal (number r)
  met_beyond (with_two l) k = inl refl
  met_beyond (with_five i) k = inr (inl refl)
  met_beyond (with_seven l) k = inr (inr refl)
  met_beyond (with_nine w l) k = absurd (k w)

  -- within n it is none, where the output holds p
  met_within : {r : Refusal} → Met n p out r → Within n p → nodes p ≤ holds out → ⊥
  met_within (with_two l) w h = omega (arith, w.0)
  met_within (with_five i) w h = i w.1
  met_within (with_seven l) w h = omega (arith, w.0)
  met_within (with_nine i l) w h = omega arith

  -- 2 and 7 are of more nodes, 5 of a number outside its range
  met_two : Met n p out TooLong → n < nodes p
  met_two (with_two l) = l

  met_five : Met n p out BadNumber → InRange n p → ⊥
  met_five (with_five i) = i

  met_seven : Met n p out TooManyNodes → n < nodes p
  met_seven (with_seven l) = l

-- Of the text b of a program p that is admitted at m:
module _ {n m : ℕ} (l : n ≤ m) (k : m ≤ 65536) {b : List ℕ} {p : Tree program} (e : text p ≡ b) (g : Good m p) where
  -- within n the program is admitted at n
  narrow : Within n p → Good n p
  narrow w = record { small = w.0; ranges = w.1; closed = g.closed; coherent = g.coherent }

  -- a program whose text is b is p
  that : {q : Tree program} → TextOf n b q → q ≡ p
  that {q} t = text_injective q p (t.is ∙ sym e)

  -- Of a read of b at n into an output:
  module _ (out : Sheet) where
    -- it is refused with one of the four only
    met : {r : Refusal} → Refuses (read_refusals n b out) r → Met n p out r
    unfolding text raw_text
    met (inl (h, q)) = rw q (with_two (omega (arith, text_length m p (omega arith) g.ranges, ap length e)))
    met (inr (a, inl (f, q))) = absurd (f (list (encode (raw p))) e)
    met (inr (a, inr (c, inl ((s, (i, f)), q)))) = absurd (f (raw p) e)
    met (inr (a, inr (c, inr (d, inl ((r, (i, f)), q))))) = rw q (with_five (λ h. f p (record { is = e; ranges = h })))
    met (inr (a, inr (c, inr (d, inr (j, inl ((x, (t, f)), q)))))) = absurd (f (rw (that t) g.closed))
    met (inr (a, inr (c, inr (d, inr (j, inr (u, inl ((x, (t, f)), q))))))) = rw q (with_seven (rw (that t) at f))
    met (inr (a, inr (c, inr (d, inr (j, inr (u, inr (w, inl ((x, (t, f)), q)))))))) = absurd (f (rw (that t) g.coherent))
    met (inr (a, inr (c, inr (d, inr (j, inr (u, inr (w, inr (y, inl ((x, (t, f)), q))))))))) =
        let s : n < nodes x → ⊥ = λ h. w (x, (t, h)) in
        let z = that t in
        rw q (with_nine (omega (arith, ap nodes z), rw z at t.ranges) (rw z at f))
    met (inr (a, inr (c, inr (d, inr (j, inr (u, inr (w, inr (y, inr (z, h))))))))) = absurd h

    -- what is read is p
    no_other : {v : Values} {o : Sheet} → Reads n b out v o → v.refusal ≡ 0 → Within n p × ReadAs p out v o
    no_other h z =
        let w = read_gives h z in
        let i : w.program ≡ p = text_injective w.program p (w.is ∙ sym e) in
        let good : Good n p = rw i at w.good in
        ((good.small, good.ranges), read_as e good out (omega arith) (rw i at w.fits) h)

    -- beyond n it is refused with 2, 5 or 7
    beyond : {v : Values} {o : Sheet} → Reads n b out v o → (Within n p → ⊥) → OldRefusal v.refusal × (o ≡ out)
    beyond (read q a t) f = absurd (f (no_other (read q a t) refl).0)
    beyond (refused r i) f = (met_beyond (met i) f, refl)

    -- so it meets an old leaf
    meets_old_leaf : {v : Values} {o : Sheet} → Reads n b out v o → MeetsOldLeaf n p out v o
    meets_old_leaf h = record {
      beyond = beyond h;
      within = λ w r. read_as e (narrow w) out (omega arith) r h;
      no_other = no_other h;
      two = λ z. met_two (met ((reads_exactly h).refused_only TooLong (omega arith)));
      five = λ z. met_five (met ((reads_exactly h).refused_only BadNumber (omega arith)));
      seven = λ z. met_seven (met ((reads_exactly h).refused_only TooManyNodes (omega arith)));
    }

  -- within n it is an operator's text with a closure where p holds one
  closure_text : Within n p → HoldsClosure p → ClosureText n b
  closure_text w h = record { program_there = p; text_of = record { is = e; ranges = w.1 }; closed = g.closed; small = w.0; closure = h }

  -- and it is one only so
  closure_within : ClosureText n b → Within n p × HoldsClosure p
  closure_within c = let i = that c.text_of in ((omega (arith, ap nodes i, c.small), rw i at c.text_of.ranges), rw i at c.closure)

  -- the program on standard input reads into zeros, which hold n nodes
  old_program : {j : ℕ} {written : List ℕ} → Reports n j b written → OldProgram n j p written
  old_program {j} (reported q a t) = record {
    beyond = λ f. absurd (f (no_other (zeros n) (read q (accepted_before n b (zeros n) a) t) refl).0);
    within = λ w f. ap (λ (x : Tree program). report (run n j (threads x))) (that t);
    closure = λ w h. absurd (accepted_not_refused (operator_refusals n b (zeros n)) Closure a (closure_turned n b (zeros n) (omega arith) (closure_text w h)));
  }
  old_program (reports.refused r i) =
      let of_the_reader : (ClosureText n b → ⊥) → Met n p (zeros n) r = λ f. met (zeros n) (refused_before n b (zeros n) r (λ q. f (turned_closure n b (zeros n) (rw q at i))) i) in
      record {
        beyond = λ f. (r, (met_beyond (of_the_reader (λ c. f (closure_within c).0)) f, refl));
        within = λ w f. absurd (met_within (of_the_reader (λ c. f (closure_within c).1)) w (omega (arith, w.0, zeros_hold n)));
        closure = λ w h. ap refusal_report (one_refusal (operator_refusals n b (zeros n)) r Closure i (closure_turned n b (zeros n) (omega arith) (closure_text w h)));
      }

pub old_leaf : (n m : ℕ) → n ≤ m → m ≤ 65536 → OldLeaf n m
old_leaf n m l k b out v o out' v' o' h' z h = let w = read_gives h' z in (w.program, (read_as w.is w.good out' k w.fits h', meets_old_leaf l k w.is w.good out h))

pub old_report : (n m : ℕ) → n ≤ m → m ≤ 65536 → OldReport n m
old_report n m l k b out v o h z j written r = let w = read_gives h z in (w.program, (read_as w.is w.good out k w.fits h, old_program l k w.is w.good r))

-- where none of 2, 5 and 7 is given at n, it is given at m; 9 into an output that holds no more
kept : {n m : ℕ} {b : List ℕ} (out : Sheet) {out' : Sheet} {v' : Values} {o' : Sheet} {r : Refusal} → n ≤ m → Reads m b out' v' o' → Refuses (read_refusals n b out) r → (OldRefusal (number r) → ⊥) → (number r ≡ 9 → holds out' ≤ holds out) →
    v'.refusal ≡ number r
kept out l h (inl (f, q)) k s = absurd (k (inl (ap number q)))
kept out l h (inr (a, inl (f, q))) k s = gives_3 h (omega arith) f ∙ sym (ap number q)
kept out l h (inr (a, inr (c, inl ((x, (e, f)), q)))) k s = gives_4 h (omega arith) x e f ∙ sym (ap number q)
kept out l h (inr (a, inr (c, inr (d, inl (f, q))))) k s = absurd (k (inr (inl (ap number q))))
kept out l h (inr (a, inr (c, inr (d, inr (j, inl ((p, (t, f)), q)))))) k s = gives_6 h (omega arith) (wider_text l t) f ∙ sym (ap number q)
kept out l h (inr (a, inr (c, inr (d, inr (j, inr (u, inl (f, q))))))) k s = absurd (k (inr (inr (ap number q))))
kept {n} out l h (inr (a, inr (c, inr (d, inr (j, inr (u, inr (w, inl ((p, (t, f)), q)))))))) k s =
    let small : n < nodes p → ⊥ = λ i. w (p, (t, i)) in
    gives_8 h (omega arith) (wider_text l t) (closed_stable 0 p (λ i. u (p, (t, i)))) (omega arith) f ∙ sym (ap number q)
kept {n} out {out'} l h (inr (a, inr (c, inr (d, inr (j, inr (u, inr (w, inr (y, inl ((p, (t, f)), q))))))))) k s =
    let small : n < nodes p → ⊥ = λ i. w (p, (t, i)) in
    let good : Good n p = record { small = omega arith; ranges = t.ranges; closed = closed_stable 0 p (λ i. u (p, (t, i))); coherent = coherent_stable (threads p) (λ i. y (p, (t, i))) } in
    let no_more : holds out' ≤ holds out = s (ap number q) in
    gives_9 h (omega arith) (wider_text l t) (wider_good l good) (omega arith) ∙ sym (ap number q)
kept out l h (inr (a, inr (c, inr (d, inr (j, inr (u, inr (w, inr (y, inr (z, f))))))))) k s = absurd f

-- a refused read tells its number alone, and leaves its output
refused_as : {m : ℕ} {b : List ℕ} {out : Sheet} {v : Values} {o : Sheet} (r : Refusal) → Reads m b out v o → v.refusal ≡ number r → (v ≡ record { refusal = number r; values = 0 ∷ [] }) × (o ≡ out)
refused_as r (read p a t) e = absurd (omega (arith, number_positive r))
refused_as r (refused q i) e = (ap (λ (k : ℕ). record { refusal = k; values = 0 ∷ [] }) e, refl)

pub same_reads : (n m : ℕ) → n ≤ m → m ≤ 65536 → SameReads n m
same_reads n m l k b out v v' o o' (read p a t) f h' =
    let h = read p a t in
    let w = read_gives h refl in
    let at_n = read_as w.is w.good out (omega arith) w.fits h in
    let at_m = read_as w.is (wider_good l w.good) out k w.fits h' in
    (at_m.0 ∙ sym at_n.0, at_m.1 ∙ sym at_n.1)
same_reads n m l k b out v v' o o' (refused r g) f h' = refused_as r h' (kept out l h' g f (λ e. omega arith))

-- a refusal that is kept is none of 0, 2, 5, 7 and 9
kept_are : {r : ℕ} → KeptRefusal r → (3 ≤ r) × ((r ≤ 8) × ((r ≡ 5 → ⊥) × (r ≡ 7 → ⊥)))
kept_are (inl e) = omega arith
kept_are (inr (inl e)) = omega arith
kept_are (inr (inr (inl e))) = omega arith
kept_are (inr (inr (inr e))) = omega arith

kept_not_old : {r : ℕ} → KeptRefusal r → OldRefusal r → ⊥
kept_not_old k (inl e) = omega (arith, kept_are k)
kept_not_old k (inr (inl e)) = omega (arith, kept_are k)
kept_not_old k (inr (inr e)) = omega (arith, kept_are k)

pub kept_refusals : (n m : ℕ) → n ≤ m → KeptRefusals n m
kept_refusals n m l b out v o out' v' o' (read p a t) h' k = absurd (omega (arith, kept_are k))
kept_refusals n m l b out v o out' v' o' (refused r g) h' k = kept out l h' g (kept_not_old k) (λ e. absurd (omega (arith, kept_are k)))
