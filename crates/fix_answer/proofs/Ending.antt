-- Where the run of a table's stages on a day ends: at the first stage equal to the one before, and a stage equal to its successor is reached at stage W + 1 at the latest. Assumes nothing.
use mathlib.Core.Path.{◌≡◌, sym, subst}
use mathlib.Core.Bool.{true}
use mathlib.Core.List.{List}
use Prim.Native.Nat.{ℕ, ◌+◌, ◌≤◌}
use native.Mathlib.Omega.{arith}
use Rattle.sets.specs.Lists.{Each}
use Rattle.program.specs.declared.Program.{Program}
use Rattle.program.specs.Clauses.{Clause, Below}
use Rattle.program.specs.Days.{clauses}
use Rattle.program.specs.Valid.{valid}
use Rattle.program.proofs.Validity.{valid_names, valid_below}
use Rattle.epistemic.proofs.Masks.{tagged_from, small_tagged}
use Rattle.epistemic.proofs.WordMain.{program, rest}
use Rattle.operator.specs.Operator.{WordRule}
use Rattle.stages.specs.Run.{ending, EndsRun}
use Rattle.stages.proofs.Bridge.{stage_same}
use Rattle.stages.proofs.Run.{run_ends}
use Rattle.stages.proofs.Minimal.{alike_words}
use Rattle.transform.specs.Transform.{kappa_from, members}
use Rattle.transform.proofs.Theory.{transformed, vocabulary_size, kappa_is, members_are}
use Rattle.vocabulary.specs.Vocabulary.{literals_of, vocabulary}
use Rattle.fix_answer.specs.Answer.{transform_of}
use Rattle.fix_answer.proofs.Theorem.{heads}

module _ (m : ℕ) (C : List Clause) (small : m ≤ 64) (under : Each (Below m) C) (fits : members m C ≤ 64) where
  -- the theory's transform: its heads lie below W, and W + 1 rounds are enough
  theory_ends : EndsRun (transformed m (tagged_from m 0 C)) (vocabulary_size m (tagged_from m 0 C)) (ending (transformed m (tagged_from m 0 C)))
  unfolding transformed
  theory_ends =
      let P = tagged_from m 0 C in
      let W = vocabulary_size m P in
      let h : W ≤ 64 = subst (λ k. k ≤ 64) (sym (members_are m C small under)) fits in
      run_ends (transformed m P) W (stage_same (transformed m P) (program m P) (alike_words (program m P) (heads m C under h)) (W + 1) (rest m P (small_tagged m 0 C) (W + 1) (omega arith)))

  clauses_end : EndsRun (kappa_from m (m + m) C) (members m C) (ending (kappa_from m (m + m) C))
  clauses_end = subst (λ (Q : List WordRule). EndsRun Q (members m C) (ending Q)) (sym (kappa_is m C small under))
      (subst (λ (W : ℕ). EndsRun (transformed m (tagged_from m 0 C)) W (ending (transformed m (tagged_from m 0 C)))) (members_are m C small under) theory_ends)

-- the run of a valid table on a day whose W is at most 64
pub ends_run : (p : Program) (d : ℕ) → valid p ≡ true → vocabulary p d ≤ 64 → EndsRun (transform_of p d) (vocabulary p d) (ending (transform_of p d))
unfolding transform_of vocabulary
ends_run p d v h = let n = (valid_names p v).few in clauses_end (literals_of p) (clauses p d) (omega arith) (valid_below p d v) h
