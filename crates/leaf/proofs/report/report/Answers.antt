-- `leaf::report::report` meets its contract: what is read is run and reported; a refusal is reported.
use mathlib.Core.Path.{◌≡◌, refl, ap, ◌∙◌}
use borrow.Author.Rules.{rules}
use Rattle.calculus.specs.Answers.{Values, counted_values}
use Rattle.small.specs.Limit.{small_limit}
use Rattle.writing.specs.declared.write.Output.{Output}
use Rattle.leaf.specs.Reported.{most, Reported}
use Rattle.leaf.proofs.Calling.{read_loaded, run_reported, refusal_reported}
use Rattle.leaf.proofs.report.report.Goals.{in-Ok, in-Err}
use Rattle.leaf.proofs.report.report.Goals as goal

pub put_run-requires-clause-loaded : goal.put_run-requires-clause-loaded
put_run-requires-clause-loaded c = read_loaded c.read.ensures (ap counted_values c.in-Ok.is)

pub returns : goal.returns
returns c =
    let h : Reported small_limit most c.args.text.now c.args.out.now c.match-read.out.at c.match-read.out.bytes.now =
    elim c.match-read.branch [
      | in-Ok w ↦ rw w.out-is (run_reported c.read.ensures (ap counted_values w.in-Ok.is) refl w.put_run.ensures)
      | in-Err w ↦ rw w.out-is (refusal_reported c.read.ensures w.in-Err.r (ap (λ (v : Values). v.refusal) (ap counted_values w.in-Err.is)) (record { none = refl; room = c.requires }) w.put_refusal.ensures)
    ] in
    let same : c.match-read.out.bytes.ghost_name ≡ _ = elim c.match-read.branch [ in-Ok w ↦ ap (λ (o : Output). o.bytes.ghost_name) w.out-is ∙ w.put_run.ensures.same | in-Err w ↦ ap (λ (o : Output). o.bytes.ghost_name) w.out-is ∙ w.put_refusal.ensures.same ] in
    search (rules, same, h)
