-- What the reading call answers, from the scan of the text, its parse and the check of the build table.
use mathlib.Core.Path.{◌≡◌, refl, ap}
use mathlib.Core.Logic.{inl, inr}
use mathlib.Core.Bool.{Bool, true, false}
use mathlib.Core.List.{List, [], ◌∷◌}
use Prim.Native.Nat.{ℕ, ◌*◌, ◌≤◌, ◌<◌}
use native.Mathlib.Omega.{arith}
use lib.ListN.{length, get_or, take, drop}
use lib.Seq.{sets, slice, length-take-le}
use Rattle.std.specs.Prelude.{Result, Ok, Err, is_ok}
use Rattle.calculus.specs.declared.Refusal.{Refusal}
use Rattle.calculus.specs.declared.Refusal.TheVariants as refusal
use Rattle.calculus.specs.Tree.{program, Tree, nodes, preorder, threads}
use Rattle.calculus.specs.Good.{Closed, All, Coherent}
use Rattle.calculus.specs.Sheets.{Sheet, sheet, holds}
use Rattle.calculus.specs.Sexp.{one, Sexp, bytes}
use Rattle.calculus.specs.Text.{Raw, raw, raw_text, text}
use Rattle.calculus.specs.Answers.{Values}
use Rattle.calculus.specs.Calls.{Refuses, put_front, TextOf, read_refusals, Reads, read, refused, TableOf, plain_refusals}
use Rattle.calculus.proofs.Answers.{number_positive}
use Rattle.calculus.proofs.Preorders.{preorder_length}
use Rattle.calculus.proofs.Outcomes.{text_of_unique, table_of_unique}
use Rattle.csexp.specs.Items.{OneExpression}
use Rattle.table.specs.Checks.{checked_number, Checks}
use Rattle.table.proofs.Sets.{sets_front}
use Rattle.table.proofs.Verdicts.{AdmittedIn, admitted_there, refused_there}
use Rattle.column.specs.Sizes.{Countable, all_nodes, CountedAfresh}
use Rattle.reading.specs.Reading.{none_found, Parses, out, bad, loose, of_nodes}

-- past the scan: the text is short, and one expression
pub record Scanned (n : ℕ) (b : List ℕ) : Type 0 where
  pub short : length b ≤ 12 * n
  pub expression : Sexp one
  pub is : bytes expression ≡ b

-- past the parse: it is that of a closed program of so many nodes, which stand in the build table if that holds them
pub record ParsedThere (n : ℕ) (b build : List ℕ) (m : ℕ) : Type 0 where
  pub scanned : Scanned n b
  pub tree : Tree program
  pub text_of : TextOf n b tree
  pub closed : Closed 0 tree
  pub counts : nodes tree ≡ m
  pub stored : 2 * m ≤ length build → take (2 * m) build ≡ preorder tree

-- past the node limit: they stand there
pub record Loaded (n : ℕ) (b build : List ℕ) (m : ℕ) : Type 0 where
  pub parsed : ParsedThere n b build m
  pub table_of : TableOf n build m parsed.tree

module _ {n : ℕ} {b : List ℕ} {into : Sheet} where
  -- the text is too long
  pub read_too_long : 12 * n < length b → Reads n b into (none_found refusal.TooLong) into
  read_too_long h = refused refusal.TooLong (inl (h, refl))

  -- it is not one expression
  pub read_not_canonical : {r : Bool} → length b ≤ 12 * n → r ≡ false → OneExpression b r → Reads n b into (none_found refusal.NotCanonical) into
  read_not_canonical l e h = refused refusal.NotCanonical (inr ((λ k. omega arith), inl (h.none_there e, refl)))

-- it is
pub scan : {n : ℕ} {b : List ℕ} {r : Bool} → length b ≤ 12 * n → r ≡ true → OneExpression b r → Scanned n b
scan l e h = let x = h.one_there e in record { short = l; expression = x.0; is = x.1 }

module _ {n : ℕ} {b : List ℕ} (s : Scanned n b) where
  -- the refusals 2 and 3 do not apply
  abbrev not_long : 12 * n < length b → ⊥
  not_long h = let l = s.short in omega arith

  abbrev canonical : ((e : Sexp one) → bytes e ≡ b → ⊥) → ⊥
  canonical f = f s.expression s.is

  -- nor 4
  in_place : (r : Raw program) → raw_text r ≡ b → (e : Sexp one) × ((bytes e ≡ b) × ((r : Raw program) → raw_text r ≡ b → ⊥)) → ⊥
  in_place r h f = f.1.1 r h

  -- nor 5
  past_five : {p : Tree program} → TextOf n b p → (into : Sheet) (r : Refusal) → Refuses (drop 4 (read_refusals n b into)) r → Refuses (read_refusals n b into) r
  unfolding text
  past_five {p} t into r g = inr (not_long, inr (canonical, inr (in_place (raw p) t.is, inr ((λ f. f.1.1 p t), g))))

-- a parse that finds no program decides the refusals 4, 5 and 6
not_parsed : {n : ℕ} {b build : List ℕ} {v : Values} (into : Sheet) → Scanned n b → (v.refusal ≡ 0 → ⊥) → Parses n b build v → Reads n b into v into
not_parsed into s g (out f) = refused refusal.OutOfPlace (inr (not_long s, inr (canonical s, inl ((s.expression, (s.is, f)), refl))))
not_parsed into s g (bad r h f) = refused refusal.BadNumber (inr (not_long s, inr (canonical s, inr (in_place s r h, inl ((r, (h, f)), refl)))))
not_parsed into s g (loose p t f) = refused refusal.NoBinder (past_five s t into refusal.NoBinder (inl ((p, (t, f)), refl)))
not_parsed into s g (of_nodes p t c k) = absurd (g refl)

pub read_unparsed : {n : ℕ} {b build : List ℕ} {into : Sheet} (r : Refusal) → Scanned n b → Parses n b build (none_found r) → Reads n b into (none_found r) into
read_unparsed {into} r s h = not_parsed into s (λ e. omega (arith, number_positive r, e)) h

-- or the program is there
there : {n : ℕ} {b build : List ℕ} {v : Values} {m : ℕ} → Scanned n b → v ≡ record { refusal = 0; values = m ∷ [] } → Parses n b build v → ParsedThere n b build m
there s e (out f) = absurd (omega (arith, ap (λ (v : Values). v.refusal) e))
there s e (bad r h f) = absurd (omega (arith, ap (λ (v : Values). v.refusal) e))
there s e (loose p t f) = absurd (omega (arith, ap (λ (v : Values). v.refusal) e))
there s e (of_nodes p t c k) = let q : nodes p ≡ _ = ap (λ (v : Values). get_or v.values 0 0) e in record { scanned = s; tree = p; text_of = t; closed = c; counts = q; stored = rw (← q) k }

pub parsed_there : {n : ℕ} {b build : List ℕ} {m : ℕ} → Scanned n b → Parses n b build (record { refusal = 0; values = m ∷ [] }) → ParsedThere n b build m
parsed_there s h = there s refl h

-- The program is there.
module _ {n : ℕ} {b build : List ℕ} {m : ℕ} (h : ParsedThere n b build m) where
  -- what holds of a program with this text holds of this one
  only : (P : Tree program → Type 0) → (p : Tree program) × (TextOf n b p × P p) → P h.tree
  only P f = rw (text_of_unique h.text_of f.1.0) f.1.1

  closed_only : (p : Tree program) × (TextOf n b p × (Closed 0 p → ⊥)) → ⊥
  closed_only f = only (λ p. Closed 0 p → ⊥) f h.closed

  past_six : (into : Sheet) (r : Refusal) → Refuses (drop 5 (read_refusals n b into)) r → Refuses (read_refusals n b into) r
  past_six into r g = past_five h.scanned h.text_of into r (inr (closed_only, g))

  -- it has too many nodes
  pub read_too_many : {into : Sheet} → n < m → Reads n b into (none_found refusal.TooManyNodes) into
  read_too_many {into} l = refused refusal.TooManyNodes (past_six into refusal.TooManyNodes (inl ((h.tree, (h.text_of, omega (arith, h.counts))), refl)))

  -- or the build table is its table
  pub load : m ≤ n → 2 * n ≤ length build → Loaded n b build m
  load l r = record { parsed = h; table_of = record { counts = h.counts; small = l; within = omega arith; is = h.stored (omega arith); ranges = h.text_of.ranges } }

-- what the check admits is a program's table
pub admits : {n count : ℕ} {t : List ℕ} (r : Result Unit Refusal) → true ≡ is_ok r → Checks n t count (checked_number r) → AdmittedIn n t count
admits (Ok u) e k = admitted_there refl k
admits (Err q) e k = absurd (cc)

-- Its nodes are not too many.
module _ {n : ℕ} {b build : List ℕ} {m : ℕ} (h : Loaded n b build m) where
  abbrev this : Tree program
  this = h.parsed.tree

  few_only : (p : Tree program) × (TextOf n b p × (n < nodes p)) → ⊥
  few_only f = let l = h.table_of.small in omega (arith, h.parsed.counts, only h.parsed (λ p. n < nodes p) f)

  past_seven : (into : Sheet) (r : Refusal) → Refuses (drop 6 (read_refusals n b into)) r → Refuses (read_refusals n b into) r
  past_seven into r g = past_six h.parsed into r (inr (few_only, g))

  -- the build table's front is exactly its nodes
  pub load_countable : Countable (slice 0 (2 * m) build)
  load_countable = all_nodes this h.table_of.is

  pub load_length : length (slice 0 (2 * m) build) ≡ 2 * m
  load_length = length-take-le (2 * m) build h.table_of.within

  not_coherent : (r : Refusal) → Refuses (plain_refusals n build m) r → All Coherent (threads this) → ⊥
  not_coherent r (inl f) c = f.0 this h.table_of
  not_coherent r (inr (f, inl g)) c = g.0.1.1 (rw (table_of_unique g.0.1.0 h.table_of) h.parsed.closed)
  not_coherent r (inr (f, inr (k, inl g))) c = g.0.1.1 (rw (table_of_unique g.0.1.0 h.table_of) c)
  not_coherent r (inr (f, inr (k, inr g))) c = absurd g.1

  -- a thread is not coherent
  pub read_incoherent : {into : Sheet} (r : Result Unit Refusal) → false ≡ is_ok r → Checks n build m (checked_number r) → Reads n b into (none_found refusal.Incoherent) into
  read_incoherent (Ok u) e k = absurd (cc)
  read_incoherent {into} (Err q) e k =
      let s = refused_there refl k in
      refused refusal.Incoherent (past_seven into refusal.Incoherent (inl ((this, (h.parsed.text_of, not_coherent s.0 s.1.1)), refl)))

  -- The check admits a program: it is this one.
  module _ (a : AdmittedIn n build m) where
    coherent : All Coherent (threads this)
    coherent = rw (← table_of_unique a.table_of h.table_of) a.good.coherent

    coherent_only : (p : Tree program) × (TextOf n b p × (All Coherent (threads p) → ⊥)) → ⊥
    coherent_only f = only h.parsed (λ p. All Coherent (threads p) → ⊥) f coherent

    -- the output is too small
    pub read_no_room : {into : Sheet} → holds into < m → Reads n b into (none_found refusal.NoRoom) into
    read_no_room {into} l = refused refusal.NoRoom (past_seven into refusal.NoRoom (inr (coherent_only, inl ((this, (h.parsed.text_of, omega (arith, h.parsed.counts))), refl))))

    -- or it holds the nodes: they are copied there, and their sizes counted
    pub read_done : {out column out' column' : List ℕ} → m ≤ holds (sheet out column) → out' ≡ sets out 0 (slice 0 (2 * m) build) → CountedAfresh (slice 0 (2 * m) build) column column' → Reads n b (sheet out column) (record { refusal = 0; values = m ∷ [] }) (sheet out' column')
    unfolding text
    read_done {out} {column} {out'} {column'} r e w =
        let x = h.parsed in
        let s = x.scanned in
        let t = x.text_of in
        let o = h.table_of in
        let into = sheet out column in
        let fits : (p : Tree program) × (TextOf n b p × (holds into < nodes p)) → ⊥ = λ f. omega (arith, x.counts, only x (λ p. holds into < nodes p) f) in
        let k : Reads n b into (record { refusal = 0; values = nodes this ∷ [] }) (put_front this into) = read this (not_long s, (canonical s, (in_place s (raw this) t.is, ((λ f. f.1.1 this t), (closed_only x, (few_only, (coherent_only, (fits, tt)))))))) t in
        let d : put_front this into ≡ sheet out' column' = rw (e, o.is, sets_front (preorder this) out (omega (arith, preorder_length this, o.counts)), w.is this o.is) in
        rw (o.counts, d) at k
