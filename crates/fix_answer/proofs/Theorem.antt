-- The list of the fixpoint holds exactly the p-stable words. Assumes nothing.
use Prim.Native.Nat.{ℕ, ◌^◌, ◌≤◌, ◌<◌}
use lib.Pow.{pow_pos}
use mathlib.Core.List.{List, [], map}
use mathlib.Core.Logic.{inl, ⊎_elim}
use mathlib.Core.Path.{sym, subst}
use native.Mathlib.Nat.{mod-lt, lt_of_lt_of_le}
use Rattle.epistemic.proofs.Masks.{tagged_from, small_tagged, theorem}
use Rattle.epistemic.proofs.WordMain.{program, program_heads}
use Rattle.epistemic.specs.Positive.{Rule}
use Rattle.epistemic.specs.Transform.{Tagged}
use Rattle.transform.specs.Listing.{literal_part, canonical, listing}
use Rattle.program.specs.Clauses.{Clause, Below}
use Rattle.sets.proofs.Lists.{in_map, map_in, in_sift, out_sift}
use Rattle.sets.specs.Lists.{◌∈◌, Each, sift, Rising, below}
use Rattle.transform.proofs.Theory.{transformed, vocabulary_size}
use Rattle.stable.proofs.Decides.{StableWord}
use Rattle.stages.proofs.Minimal.{rests, word_rule, minimal_out, minimal_in}
use Rattle.rising.proofs.RisingSets.{in_add_all, add_all_in, add_all-rising, nothing-rises}
use Rattle.literals.specs.Literals.{literals}
use Rattle.stages.specs.Minimal.{minimal_models}
use Rattle.stages.specs.Run.{ending}

-- ---- the theorem

module _ (m : ℕ) (C : List Clause) (below : Each (Below m) C) (fits : vocabulary_size m (tagged_from m 0 C) ≤ 64) where
  abbrev P : List Tagged
  P = tagged_from m 0 C

  pub heads : Each (λ (r : Rule ℕ). Each (λ x. x < 64) r.head) (program m (tagged_from m 0 C))
  heads r i x k = lt_of_lt_of_le (program_heads m P (small_tagged m 0 C) r i x k) fits

  pub listing-rising : Rising (listing m (transformed m (tagged_from m 0 C)))
  unfolding listing
  listing-rising = add_all-rising _ [] nothing-rises

  pub listing_sound : (I : ℕ) → I ∈ listing m (transformed m (tagged_from m 0 C)) → (I < 2 ^ m) × StableWord C I
  unfolding listing minimal_models transformed canonical
  listing_sound I i =
      let k = ⊎_elim (λ j. j) (λ b. absurd b) (in_add_all I (map (literal_part m)
      (sift (canonical m) (minimal_models (map word_rule (program m P))))) [] i) in
      let s = map_in (literal_part m) I (sift (canonical m) (minimal_models (map word_rule (program m P)))) k in
      let c = out_sift (canonical m) (minimal_models (map word_rule (program m P))) s.0 s.1 in
      let h : I < 2 ^ m = subst (λ z. z < 2 ^ m) (sym s.2) (mod-lt s.0 (pow_pos m)) in (
        h,
        (theorem m C below I h (ending (map word_rule (program m P))) (rests (program m P) heads)).1
            (s.0, record { minimal = minimal_out (program m P) heads s.0 c.0; canonical = c.1; literals = sym s.2 }),
      )

  pub listing-complete : (I : ℕ) → I < 2 ^ m → StableWord C I → I ∈ listing m (transformed m (tagged_from m 0 C))
  unfolding listing minimal_models transformed canonical
  listing-complete I h w =
      let a = (theorem m C below I h (ending (map word_rule (program m P))) (rests (program m P) heads)).0 w in
      add_all_in I (map (literal_part m) (sift (canonical m) (minimal_models (map word_rule (program m P))))) []
      (inl (subst (λ z. z ∈ map (literal_part m) (sift (canonical m) (minimal_models (map word_rule (program m P))))) a.1.literals
      (in_map (literal_part m) a.0 (sift (canonical m) (minimal_models (map word_rule (program m P))))
      (in_sift (canonical m) (minimal_models (map word_rule (program m P))) a.0
      (minimal_in (program m P) heads a.0 a.1.minimal) a.1.canonical))))
