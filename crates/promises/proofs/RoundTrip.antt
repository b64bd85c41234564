-- Reading and writing undo each other, said over the contracts of both calls: a law holds of every outcome that they allow.
use mathlib.Core.Path.{◌≡◌, refl, sym, ap, ap₂, subst, ◌∙◌}
use mathlib.Core.List.{List}
use Prim.Native.Nat.{ℕ, ◌*◌, ◌≤◌}
use native.Mathlib.Omega.{arith}
use lib.ListN.{length, get_or, take, drop}
use lib.Seq.{take_at}
use Rattle.calculus.specs.Tree.{program, Tree, nodes, preorder}
use Rattle.calculus.specs.Good.{Good}
use Rattle.calculus.specs.Sheets.{Sheet, sheet, holds}
use Rattle.calculus.specs.Text.{text}
use Rattle.calculus.specs.Answers.{Values}
use Rattle.calculus.specs.Calls.{front, put_front, TextOf, Reads, TableOf, Writes}
use Rattle.calculus.proofs.Preorders.{preorder_prefix}
use Rattle.calculus.proofs.Outcomes.{text_of_unique, table_of_unique}
use Rattle.promises.specs.Worked.{Held, HasRead}
use Rattle.promises.proofs.Admitted.{accepted, good_read, good_read_only, good_written_only}
use Rattle.promises.proofs.Worked.{read_gives, write_gives}

-- the one number that a call tells
abbrev told : List ℕ → ℕ
told l = get_or l 0 0

-- the bytes that an accepted writing counts are the text of the program in the table
pub written_text : {n : ℕ} {table : Sheet} {count : ℕ} {out : List ℕ} {m : ℕ} {after : List ℕ} {p : Tree program} →
    TableOf n table.numbers count p → Writes n table count out (accepted m) after → (m ≡ length (text p)) × (take m after ≡ text p)
written_text {out = out} {m} {p = p} t h =
    let w = write_gives h refl in
    let e : text w.program ≡ text p = ap text (table_of_unique w.there.table_of t) in
    let c : m ≡ length (text w.program) = ap told w.values in
    (c ∙ ap length e, ap (take m) w.left ∙ take_at (text w.program) (drop (length (text w.program)) out) m (sym c) ∙ e)

-- reading what was written gives the same count, the same nodes and the same entries
pub written_then_read : {n : ℕ} {table : Sheet} {count : ℕ} {out : List ℕ} {m : ℕ} {after : List ℕ} {other : Sheet} {v : Values} {end : Sheet} →
    n ≤ 65536 → Writes n table count out (accepted m) after → count ≤ holds other → Reads n (take m after) other v end →
    (v ≡ accepted count) × (end ≡ sheet (front (take (2 * count) table.numbers) other.numbers) (front (take count table.sizes) other.sizes))
written_then_read {table = table} {count} {other = other} l h r k =
    let w = write_gives h refl in
    let t = w.there.table_of in
    let e = good_read_only w.good l (omega (arith, t.counts)) (rw (written_text t h).1 at k) in
    (e.0 ∙ ap accepted t.counts, e.1 ∙ ap₂ (λ (l c : List ℕ). sheet (front l other.numbers) (front c other.sizes)) (sym t.is) (sym w.there.column_of.is))

-- writing what was read gives the same bytes
pub read_then_written : {n : ℕ} {b : List ℕ} {out : Sheet} {count : ℕ} {table : Sheet} {other : List ℕ} {v : Values} {end : List ℕ} →
    Reads n b out (accepted count) table → length b ≤ length other → Writes n table count other v end → (v ≡ accepted (length b)) × (end ≡ front b other)
read_then_written {n} {b} {count = count} {table} {other} h r k =
    let w = read_gives h refl in
    let i = w.is in
    let c : count ≡ nodes w.program = ap told w.values in
    let t : Held n table count w.program = subst (λ (k : ℕ). Held n table k w.program) (sym c) w.back in
    let e = good_written_only w.good t (omega (arith, ap length i)) k in
    (e.0 ∙ ap (λ (l : List ℕ). accepted (length l)) i, e.1 ∙ ap (λ (l : List ℕ). front l other) i)

-- One text, one program.

text_read : {n : ℕ} {b : List ℕ} {out : Sheet} {v : Values} {o : Sheet} (w : HasRead n b out v o) → TextOf n b w.program
text_read w = record { is = w.is; ranges = w.good.ranges }

-- an accepted text is that of exactly one program
pub one_program : {n : ℕ} {b : List ℕ} {out : Sheet} {count : ℕ} {table : Sheet} → Reads n b out (accepted count) table → (p : Tree program) × (TextOf n b p × ((q : Tree program) → TextOf n b q → q ≡ p))
one_program h = let w = read_gives h refl in (w.program, (text_read w, λ q k. text_of_unique k (text_read w)))

-- exactly one text is read as a good program
pub one_text : {n : ℕ} {p : Tree program} → n ≤ 65536 → Good n p →
    (b : List ℕ) ×
    (((out : Sheet) → nodes p ≤ holds out → Reads n b out (accepted (nodes p)) (put_front p out)) ×
    ((c : List ℕ) (out : Sheet) → Reads n c out (accepted (nodes p)) (put_front p out) → c ≡ b))
one_text {p = p} l g = (
  text p,
  (
    (λ out r. good_read g out l r),
    λ c out h. let w = read_gives h refl in sym w.is ∙ ap text (preorder_prefix w.program p (drop (length (preorder w.program)) out.numbers) (drop (length (preorder p)) out.numbers) (ap (λ (s : Sheet). s.numbers) (sym w.left))).0,
  ),
)
