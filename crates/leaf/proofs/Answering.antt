-- From what was read, what was reported and what was written to what the program writes.
use Rattle.std.proofs.Common.{◌≡◌, ℕ, ◌≤◌, ◌<◌, List, [], ◌++◌, arith, length, take, drop, sym, ap, ◌∙◌, subst, length-take-le, take_all, append-nil, IfSome, None, Some, OnOk, OnErr, Result, Ok, Err, inl, inr}
use Rattle.std.proofs.lemmas.List.{length-append}
use Rattle.std.proofs.lemmas.Bool.{cases_lt}
use Rattle.std.proofs.Math.Seq.{take-append_seam}
use Rattle.std.specs.Io.KnownBytes.{Consumes, IsAtEnd, Appends}
use Rattle.std.proofs.KnownBytes.{Keeps-refl}
use Rattle.std.specs.declared.option.Option.{Option}
use Rattle.small.specs.Limit.{small_limit}
use Rattle.leaf.specs.Reported.{most, Reported, ReportedWhole}
use Rattle.leaf.specs.Answered.{AppendsFront, Answers, Begins, nothing, some_of_it}

pub within : {b out after : List ℕ} {count : ℕ} → Reported small_limit most b out count after → count ≤ length after
within {out = out} r =
    let behind = drop (length r.written) out in
    let e : length _ ≡ length (r.written ++ behind) = ap length r.is in
    let f = length-append r.written behind in
    let g = r.counts in
    omega arith

pub written : {b out after : List ℕ} {count : ℕ} → (r : Reported small_limit most b out count after) → take count after ≡ r.written
written {out = out} {count = count} r =
    let behind = drop (length r.written) out in
    ap (take count) r.is ∙ ap (λ k. take k (r.written ++ behind)) (sym r.counts) ∙ take-append_seam r.written behind

-- a report is there, at the least that of what was read
pub read_report : {buffer out after : List ℕ} {n count : ℕ} → n ≤ length buffer → ReportedWhole small_limit most buffer n out count after → Reported small_limit most (take n buffer) out count after
read_report {buffer = buffer} {n = n} fits w = w.each (take n buffer) (take_all (length buffer) (take n buffer) (let e = length-take-le n buffer fits in omega arith))

-- the input is what was read as far as the buffer goes
pub whole : (xs ys buffer : List ℕ) (n : ℕ) → xs ≡ take n buffer ++ ys → (n < length buffer → ys ≡ []) → n ≤ length buffer → take (length buffer) xs ≡ take n buffer
whole xs ys buffer n is end fits = elim (cases_lt n (length buffer)) [
  | inl less ↦ ap (take (length buffer)) (is ∙ ap (λ l. take n buffer ++ l) (end less) ∙ append-nil (take n buffer)) ∙ take_all (length buffer) (take n buffer) (let e = length-take-le n buffer fits in omega arith)
  | inr full ↦ ap (take (length buffer)) is ∙ ap (λ k. take k (take n buffer ++ ys)) (let e = length-take-le n buffer fits in omega arith) ∙ take-append_seam (take n buffer) ys
]

pub answers : (rem left old new : Option (List ℕ)) {buffer out after : List ℕ} {n count : ℕ} → Consumes rem left (take n buffer) → (n < length buffer → IsAtEnd left) → n ≤ length buffer
    → ReportedWhole small_limit most buffer n out count after → Appends old new (take count after) → IfSome rem (Answers old new)
answers None left old new p end fits w a = tt
answers (Some xs) None old new p end fits w a = absurd p
answers (Some xs) (Some ys) old new {buffer = buffer} {n = n} p end fits w a =
    let r = w.each xs (whole xs ys buffer n p end fits) in
    record { written = r.written; reports = r.reports; appends = subst (Appends old new) (written r) a }

-- and so is a front of it
pub begins : (rem left old new : Option (List ℕ)) {buffer out after : List ℕ} {n count : ℕ} → Consumes rem left (take n buffer) → (n < length buffer → IsAtEnd left) → n ≤ length buffer
    → ReportedWhole small_limit most buffer n out count after → AppendsFront old new (take count after) → IfSome rem (Begins old new)
begins None left old new p end fits w a = tt
begins (Some xs) None old new p end fits w a = absurd p
begins (Some xs) (Some ys) old new {buffer = buffer} {n = n} p end fits w a =
    let r = w.each xs (whole xs ys buffer n p end fits) in
    some_of_it r.written r.reports (subst (AppendsFront old new) (written r) a)

-- nothing is written before all is read
pub not_begun : (rem old : Option (List ℕ)) → IfSome rem (Begins old old)
not_begun None old = tt
not_begun (Some xs) old = nothing (Keeps-refl old)

pub on_ok : {T E : Type 0} (r : Result T E) {P Q : Type 0} → (P → Q) → OnOk r P → OnOk r Q
on_ok (Ok x) f p = f p
on_ok (Err e) f p = tt

pub on_err : {T E : Type 0} (r : Result T E) {P Q : Type 0} → (P → Q) → OnErr r P → OnErr r Q
on_err (Ok x) f p = tt
on_err (Err e) f p = f p
