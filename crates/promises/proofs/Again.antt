-- What comes out is admitted again.
use mathlib.Core.Path.{◌≡◌, refl, ap}
use mathlib.Core.Logic.{◌⊎◌, inl, inr}
use mathlib.Core.List.{List, [], ◌∷◌, ◌++◌}
use Prim.Native.Nat.{ℕ}
use Rattle.calculus.specs.declared.Refusal.{Refusal}
use Rattle.calculus.specs.Tree.{program, Tree}
use Rattle.calculus.specs.Good.{Good}
use Rattle.calculus.specs.Sheets.{Sheet}
use Rattle.calculus.specs.Answers.{number, Values}
use Rattle.calculus.specs.Calls.{Refusals, Accepts, Refuses, table_refusals, Writes, StepsInto, RunsWith, StandsAt, written, not_written, step_refusals, stepped, not_stepped, ran, not_run, stands, not_stood}
use Rattle.promises.specs.Worked.{Held}
use Rattle.promises.specs.Again.{Admits, AdmittedAgain}
use Rattle.promises.proofs.Admitted.{good_table}
use Rattle.promises.proofs.Worked.{read_gives, step_gives, run_gives}

-- where none of the list holds, what is given is the one behind it
last_given : (cs : Refusals) (c : Refusal × Type 0) (r : Refusal) → Accepts cs → Refuses (cs ++ (c ∷ [])) r → number r ≡ number c.0
last_given [] c r a (inl g) = ap number g.1
last_given [] c r a (inr g) = absurd g.1
last_given (d ∷ cs) c r a (inl g) = absurd (a.0 g.0)
last_given (d ∷ cs) c r a (inr g) = last_given cs c r a.1 g.1

module _ {n : ℕ} {table : Sheet} {count : ℕ} {p : Tree program} (held : Held n table count p) (good : Good n p) where
  step_given : (out : Sheet) (r : Refusal) → Refuses (step_refusals n table count out) r → (number r ≡ 7) ⊎ ((number r ≡ 9) ⊎ (number r ≡ 11))
  step_given out r (inl g) = absurd ((good_table held good).0 g.0)
  step_given out r (inr (a, inl g)) = absurd ((good_table held good).1.0 g.0)
  step_given out r (inr (a, inr (b, inl g))) = absurd ((good_table held good).1.1.0 g.0)
  step_given out r (inr (a, inr (b, inr (c, inl g)))) = inl (ap number g.1)
  step_given out r (inr (a, inr (b, inr (c, inr (d, inl g))))) = absurd ((good_table held good).1.1.1.0 g.0)
  step_given out r (inr (a, inr (b, inr (c, inr (d, inr (e, inl g)))))) = inr (inl (ap number g.1))
  step_given out r (inr (a, inr (b, inr (c, inr (d, inr (e, inr (f, inl g))))))) = inr (inr (ap number g.1))
  step_given out r (inr (a, inr (b, inr (c, inr (d, inr (e, inr (f, inr g))))))) = absurd g.1

  writes_again : (out : List ℕ) (v : Values) (o : List ℕ) → Writes n table count out v o → (v.refusal ≡ 0) ⊎ (v.refusal ≡ 9)
  writes_again out v o (written q a t) = inl refl
  writes_again out v o (not_written r g) = inr (last_given (table_refusals n table count) _ r (good_table held good) g)

  steps_again : (out : Sheet) (v : Values) (o : Sheet) → StepsInto n table count out v o → (v.refusal ≡ 0) ⊎ ((v.refusal ≡ 7) ⊎ ((v.refusal ≡ 9) ⊎ (v.refusal ≡ 11)))
  steps_again out v o (stepped q s a t) = inl refl
  steps_again out v o (not_stepped r g) = inr (step_given out r g)

  runs_again : (work : Sheet) (limit : ℕ) (v : Values) (t w : Sheet) → RunsWith n table count work limit v t w → (v.refusal ≡ 0) ⊎ (v.refusal ≡ 9)
  runs_again work limit v t w (ran q a k) = inl refl
  runs_again work limit v t w (not_run r g) = inr (last_given (table_refusals n table count) _ r (good_table held good) g)

  stands_again : (k : ℕ) (v : Values) → StandsAt n table count k v → (v.refusal ≡ 0) ⊎ (v.refusal ≡ 10)
  stands_again k v (stands t a o) = inl refl
  stands_again k v (not_stood r g) = inr (last_given (table_refusals n table count) _ r (good_table held good) g)

  -- a good program with its column is admitted by every call
  pub good_admits : Admits n table count
  good_admits = record { writes = writes_again; steps = steps_again; runs = runs_again; stands = stands_again }

-- what read, step and run leave, with their columns
pub admitted_again : AdmittedAgain
admitted_again = record {
  read = λ n b out v o h e. let r = read_gives h e in rw r.values (good_admits r.back r.good);
  stepped = λ n table count out v o h e. let r = step_gives h e in rw r.values (good_admits r.back r.result_good);
  ran = λ n table count work limit v t w h e. let r = run_gives h e in rw r.values (good_admits r.back r.result_good);
}
