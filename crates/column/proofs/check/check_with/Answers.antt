-- `column::check::check_with` meets its contract: the table's check first, the column's behind it, and 14 before 6 and 8.
use mathlib.Core.Path.{◌≡◌, refl, sym, ap, ◌∙◌}
use mathlib.Core.Bool.{true, true≢false}
use Rattle.std.proofs.Common.{rules}
use Rattle.std.specs.Prelude.{Result, Ok, Err}
use Rattle.std.specs.Result.{result_eq}
use Rattle.std.specs.contracts.prelude.UnitPartialEq.TheImpl as unit
use Rattle.calculus.specs.contracts.RefusalPartialEq.TheImpl as refusals
use Rattle.calculus.specs.declared.Refusal.{Refusal}
use Rattle.calculus.specs.declared.Refusal.TheVariants.{NoProgram}
use Rattle.calculus.specs.contracts.Refusal.{the_type}
use denote.Enum.Bare.{same_true}
use Rattle.column.proofs.Admissions.{tree_of, checked_some, refused_in, first_stays, not_right, right_stays}
use Rattle.column.proofs.check.check_with.Goals as goal
use Rattle.column.proofs.check.check_with.Goals.{then-eq-via-then-eq, then-eq-via-else-eq+then-check_column}

-- the answers that are equal to 1
first : (r : Result Unit Refusal) → result_eq unit.eq-value.it refusals.eq-value.it r (Err NoProgram) ≡ true → r ≡ Err NoProgram
first (Ok u) e = absurd (true≢false (sym e))
first (Err q) e = ap Err (same_true the_type (search rules) q NoProgram e)

pub check_column-requires : goal.check_column-requires
check_column-requires c = tree_of (checked_some c.check-checked.result (λ e. true≢false (sym (rw e at c.eq.ensures) ∙ c.if-eq.false)) c.check-checked.ensures)

pub returns : goal.returns
returns c = not_right c.check_column.ensures (checked_some c.check-checked.result (λ e. true≢false (sym (rw e at c.eq.ensures) ∙ c.if-eq.false)) c.check-checked.ensures) c.if-check_column.false

pub returns-then-eq : goal.returns-then-eq
returns-then-eq c = elim c.then-eq.branch [ then-eq-via-then-eq w ↦ let e = first c.check-checked.result (sym c.eq.ensures ∙ w.if-eq.true) in rw e (first_stays _ (refused_in e c.check-checked.ensures) refl) | then-eq-via-else-eq+then-check_column w ↦ right_stays w.check_column.ensures c.check-checked.result (λ e. true≢false (sym (rw e at c.eq.ensures) ∙ w.if-eq.false)) c.check-checked.ensures w.if-check_column.true ]
