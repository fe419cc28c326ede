-- What the fixpoint finds is exactly the list of the p-stable models. Assumes nothing.
use mathlib.Core.Path.{◌≡◌, sym, subst}
use mathlib.Core.Logic.{◌↔◌}
use mathlib.Core.Bool.{true}
use mathlib.Core.List.{List}
use Prim.Native.Nat.{ℕ, ◌+◌, ◌^◌, ◌≤◌, ◌<◌}
use native.Mathlib.Omega.{arith}
use Rattle.sets.specs.Lists.{◌∈◌, Each, Rising, sift, below}
use Rattle.sets.proofs.Lists.{sift_in, sift_out, below_in, in_below}
use Rattle.sets.proofs.Rising.{rising_ext, sift-rising, below-rising}
use Rattle.program.specs.declared.Program.{Program}
use Rattle.program.specs.Clauses.{Clause, Below}
use Rattle.program.specs.Days.{clauses}
use Rattle.program.specs.Valid.{valid}
use Rattle.program.proofs.Validity.{valid_names, valid_below}
use Rattle.semantics.specs.Interpretations.{is_stable, models}
use Rattle.stable.proofs.Decides.{StableWord, stable_word_lem, word_stable}
use Rattle.epistemic.proofs.Masks.{tagged_from}
use Rattle.operator.specs.Operator.{WordRule}
use Rattle.transform.specs.Transform.{kappa_from, members}
use Rattle.transform.proofs.Theory.{transformed, vocabulary_size, kappa_is, members_are}
use Rattle.transform.specs.Listing.{listing}
use Rattle.vocabulary.specs.Vocabulary.{literals_of, vocabulary}
use Rattle.fix_answer.specs.Answer.{transform_of, found}
use Rattle.fix_answer.proofs.Theorem.{listing-rising, listing_sound, listing-complete}

module _ (m : ℕ) (C : List Clause) (small : m ≤ 64) (under : Each (Below m) C) (fits : members m C ≤ 64) where
  same : kappa_from m (m + m) C ≡ transformed m (tagged_from m 0 C)
  same = kappa_is m C small under

  count : vocabulary_size m (tagged_from m 0 C) ≤ 64
  count = subst (λ k. k ≤ 64) (sym (members_are m C small under)) fits

  list_rising : Rising (listing m (kappa_from m (m + m) C))
  list_rising = subst (λ (Q : List WordRule). Rising (listing m Q)) (sym same) (listing-rising m C under count)

  -- Theorems 2.14 and 3.6, over words: a word is listed exactly where it is one over the literals and p-stable
  pub list_is_stable : (I : ℕ) → (I ∈ listing m (kappa_from m (m + m) C)) ↔ ((I < 2 ^ m) × StableWord C I)
  list_is_stable I = (
    λ i. listing_sound m C under count I (subst (λ (Q : List WordRule). I ∈ listing m Q) same i),
    λ s. subst (λ (Q : List WordRule). I ∈ listing m Q) (sym same) (listing-complete m C under count I s.0 s.1),
  )

  pub list_models_lem : listing m (kappa_from m (m + m) C) ≡ sift (is_stable C) (below (2 ^ m))
  list_models_lem = rising_ext (listing m (kappa_from m (m + m) C)) (sift (is_stable C) (below (2 ^ m))) list_rising (sift-rising (is_stable C) (below (2 ^ m)) (below-rising (2 ^ m)))
      (λ I i. let s = (list_is_stable I).0 i in sift_in (is_stable C) (below (2 ^ m)) I (below_in (2 ^ m) I s.0) (word_stable C I s.1))
      (λ I i. let s = sift_out (is_stable C) (below (2 ^ m)) I i in (list_is_stable I).1 (in_below (2 ^ m) I s.0, stable_word_lem C I s.1))

-- what the fixpoint of a valid table finds on a day is the p-stable models of the day's clauses, rising, each once
pub found_models : (p : Program) (d : ℕ) → valid p ≡ true → vocabulary p d ≤ 64 → found p d ≡ models p.atom_count (clauses p d)
unfolding found transform_of vocabulary models
found_models p d v h = let n = (valid_names p v).few in list_models_lem (literals_of p) (clauses p d) (omega arith) (valid_below p d v) h
