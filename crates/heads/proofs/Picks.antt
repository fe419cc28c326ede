-- What every set made of one literal of each head has. Assumes nothing.
use mathlib.Core.Path.{◌≡◌, sym, ap, subst}
use mathlib.Core.Bool.{Bool, true, false, not, cond}
use mathlib.Core.List.{List, [], ◌∷◌, ◌++◌, flat_map}
use mathlib.Core.Logic.{◌⊎◌, inl, inr, ⊎_elim}
use Prim.Native.Nat.{ℕ, zero, suc, ◌+◌, ◌/◌, ◌%◌, ◌^◌, ◌≤◌}
use native.Mathlib.Nat.{pow-suc, le_refl}
use native.Mathlib.Omega.{arith}
use lib.Bits.{bit_and, bit_or, or_zero_r, or_step}
use lib.Count.{ones, ones_step}
use lib.Dec.{T}
use lib.ListN.{length}
use borrow.Author.Tests.{ne_eqb}
use Rattle.sets.specs.Lists.{◌∈◌, Rising, sift}
use Rattle.sets.specs.Words.{◌⊑◌, bit, put, meets}
use Rattle.sets.proofs.Lists.{in_flat_map, flat_map_in}
use Rattle.sets.proofs.Tests.{T?}
use Rattle.sets.proofs.Digits.{bit_zero, bits_ext}
use Rattle.literals.specs.Literals.{literals}
use Rattle.rising.specs.RisingSets.{add_all}
use Rattle.literals.proofs.Literals.{lit_out, put_put}
use Rattle.rising.proofs.RisingSets.{add_all_same}
use Rattle.heads.specs.Heads.{picks, offered_by}
use Rattle.sets.proofs.Branches.{in_or, or_left, or_right, both_in, in_both, in_pow, pow_in}

-- ---- it holds j
pub picks_holds : (H : List ℕ) (j v : ℕ) → v ∈ picks H j → bit j ⊑ bit v
unfolding picks
picks_holds [] j v (inl e) i t = subst (λ (z : ℕ). T (bit z i)) (sym e) t
picks_holds [] j v (inr m) i t = absurd m
picks_holds (h ∷ H) j v m i t =
    let s = flat_map_in (λ t. picks H (put t j)) v (literals h) m in
    picks_holds H (put s.0 j) v s.2 i (or_left j (2 ^ s.0) i t)

pub picks-chosen : (H : List ℕ) (j v t : ℕ) → v ∈ picks H (put t j) → T (bit v t)
picks-chosen H j v t m = picks_holds H (put t j) v m t (or_right j (2 ^ t) t (pow_in t))

-- ---- it has no literal but of j and the heads
pub picks_within : (H : List ℕ) (j v : ℕ) → v ∈ picks H j → bit v ⊑ bit (bit_or j (offered_by H))
unfolding picks offered_by
picks_within [] j v (inl e) i t = or_left j 0 i (subst (λ (z : ℕ). T (bit z i)) e t)
picks_within [] j v (inr m) i t = absurd m
picks_within (h ∷ H) j v m i t =
    let s = flat_map_in (λ t. picks H (put t j)) v (literals h) m in
    ⊎_elim
    (λ a. ⊎_elim
    (λ b. or_left j (bit_or h (offered_by H)) i b)
    (λ p. or_right j (bit_or h (offered_by H)) i (or_left h (offered_by H) i (subst (λ (z : ℕ). T (bit h z)) (sym (in_pow s.0 i p)) (lit_out h s.0 s.1).1)))
    (in_or j (2 ^ s.0) i a))
    (λ u. or_right j (bit_or h (offered_by H)) i (or_right h (offered_by H) i u))
    (in_or (put s.0 j) (offered_by H) i (picks_within H (put s.0 j) v s.2 i t))

-- ---- it meets each head
pub picks_met : (H : List ℕ) (j v h : ℕ) → v ∈ picks H j → h ∈ H → (i : ℕ) × T (bit h i) × T (bit v i)
unfolding picks
picks_met [] j v h m k = absurd k
picks_met (g ∷ H) j v h m (inl e) =
    let s = flat_map_in (λ t. picks H (put t j)) v (literals g) m in
    (s.0, subst (λ (z : ℕ). T (bit z s.0)) (sym e) (lit_out g s.0 s.1).1, picks-chosen H j v s.0 s.2)
picks_met (g ∷ H) j v h m (inr k) =
    let s = flat_map_in (λ t. picks H (put t j)) v (literals g) m in
    picks_met H (put s.0 j) v h s.2 k

-- ---- each head puts at most one literal in
ones_put : (t a : ℕ) → ones (put t a) ≤ ones a + 1
ones_put zero a =
    let s = or_step a 1 in
    let z = or_zero_r (a / 2) in
    let d : put 0 a / 2 ≡ a / 2 = omega arith in
    let m : put 0 a % 2 ≡ 1 = omega arith in
    omega (arith, ones_step (put 0 a), ones_step a, ap ones d)
ones_put (suc t) a =
    let p = pow-suc 2 t in
    let b : 2 ^ suc t / 2 ≡ 2 ^ t = omega arith in
    let c : 2 ^ suc t % 2 ≡ 0 = omega arith in
    let s = or_step a (2 ^ suc t) in
    let z : bit_or (a / 2) (2 ^ suc t / 2) ≡ put t (a / 2) = ap (bit_or (a / 2)) b in
    let d : put (suc t) a / 2 ≡ put t (a / 2) = omega arith in
    let m : put (suc t) a % 2 ≡ a % 2 = omega arith in
    omega (arith, ones_step (put (suc t) a), ones_step a, ap ones d, ones_put t (a / 2))

module _ (x : ℕ) where
  count_in_lem : (j t : ℕ) → T (bit x t) → bit_and x (put t j) ≡ put t (bit_and x j)
  count_in_lem j t b = bits_ext (bit_and x (put t j)) (put t (bit_and x j))
      (λ i u. let p = in_both x (put t j) i u in
      ⊎_elim (λ a. or_left (bit_and x j) (2 ^ t) i (both_in x j i p.0 a)) (λ c. or_right (bit_and x j) (2 ^ t) i c) (in_or j (2 ^ t) i p.1))
      (λ i u. ⊎_elim
      (λ a. let p = in_both x j i a in both_in x (put t j) i p.0 (or_left j (2 ^ t) i p.1))
      (λ c. both_in x (put t j) i (subst (λ (z : ℕ). T (bit x z)) (sym (in_pow t i c)) b) (or_right j (2 ^ t) i c))
      (in_or (bit_and x j) (2 ^ t) i u))

  count_out : (j t : ℕ) → (T (bit x t) → ⊥) → bit_and x (put t j) ≡ bit_and x j
  count_out j t n = bits_ext (bit_and x (put t j)) (bit_and x j)
      (λ i u. let p = in_both x (put t j) i u in
      ⊎_elim (λ a. both_in x j i p.0 a) (λ c. absurd (n (subst (λ (z : ℕ). T (bit x z)) (in_pow t i c) p.0))) (in_or j (2 ^ t) i p.1))
      (λ i u. let p = in_both x j i u in both_in x (put t j) i p.0 (or_left j (2 ^ t) i p.1))

  meets_by : (h t : ℕ) → T (bit x t) → T (bit h t) → meets x h ≡ true
  meets_by h t a b = ap not (ne_eqb (bit_and x h) 0 (λ e. subst T (bit_zero t) (subst (λ (z : ℕ). T (bit z t)) e (both_in x h t a b))))

  sift_more : (h : ℕ) (H : List ℕ) → length (sift (meets x) H) ≤ length (sift (meets x) (h ∷ H))
  unfolding sift
  sift_more h H = go (meets x h)
    where
      go : (b : Bool) → length (sift (meets x) H) ≤ length (cond b (h ∷ sift (meets x) H) (sift (meets x) H))
      go true = omega arith
      go false = le_refl (length (sift (meets x) H))

  sift_met : (h : ℕ) (H : List ℕ) → meets x h ≡ true → length (sift (meets x) (h ∷ H)) ≡ suc (length (sift (meets x) H))
  unfolding sift
  sift_met h H e = ap (λ (b : Bool). length (cond b (h ∷ sift (meets x) H) (sift (meets x) H))) e

  pub picks_count : (H : List ℕ) (j v : ℕ) → v ∈ picks H j → ones (bit_and x v) ≤ ones (bit_and x j) + length (sift (meets x) H)
  unfolding picks
  picks_count [] j v (inl e) = omega (arith, ap (λ (z : ℕ). ones (bit_and x z)) e)
  picks_count [] j v (inr m) = absurd m
  picks_count (h ∷ H) j v m =
      let s = flat_map_in (λ t. picks H (put t j)) v (literals h) m in
      let ih = picks_count H (put s.0 j) v s.2 in
      ⊎_elim
      (λ (a : T (bit x s.0)).
      omega (arith, ih, ap ones (count_in_lem j s.0 a), ones_put s.0 (bit_and x j), sift_met h H (meets_by h s.0 a (lit_out h s.0 s.1).1)))
      (λ n. omega (arith, ih, ap ones (count_out j s.0 n), sift_more h H))
      (T? (bit x s.0))

-- ---- a head from the middle first
pub picks_first : (A F : List ℕ) (h j v : ℕ) → v ∈ picks (A ++ (h ∷ F)) j → v ∈ flat_map (λ t. picks (A ++ F) (put t j)) (literals h)
unfolding picks
picks_first [] F h j v m = m
picks_first (a ∷ A) F h j v m =
    let s = flat_map_in (λ t. picks (A ++ (h ∷ F)) (put t j)) v (literals a) m in
    let r = flat_map_in (λ t. picks (A ++ F) (put t (put s.0 j))) v (literals h) (picks_first A F h (put s.0 j) v s.2) in
    in_flat_map (λ t. picks ((a ∷ A) ++ F) (put t j)) r.0 v (literals h) r.1
    (in_flat_map (λ u. picks (A ++ F) (put u (put r.0 j))) s.0 v (literals a) s.1
    (subst (λ (z : ℕ). v ∈ picks (A ++ F) z) (put_put s.0 r.0 j) r.2))

pub first-picks : (A F : List ℕ) (h j v : ℕ) → v ∈ flat_map (λ t. picks (A ++ F) (put t j)) (literals h) → v ∈ picks (A ++ (h ∷ F)) j
unfolding picks
first-picks [] F h j v m = m
first-picks (a ∷ A) F h j v m =
    let r = flat_map_in (λ t. picks ((a ∷ A) ++ F) (put t j)) v (literals h) m in
    let s = flat_map_in (λ u. picks (A ++ F) (put u (put r.0 j))) v (literals a) r.2 in
    in_flat_map (λ t. picks (A ++ (h ∷ F)) (put t j)) s.0 v (literals a) s.1
    (first-picks A F h (put s.0 j) v (in_flat_map (λ t. picks (A ++ F) (put t (put s.0 j))) r.0 v (literals h) r.1
    (subst (λ (z : ℕ). v ∈ picks (A ++ F) z) (put_put r.0 s.0 j) s.2)))

pub head_first : (A F : List ℕ) (h j : ℕ) (l : List ℕ) → Rising l → add_all (picks (A ++ (h ∷ F)) j) l ≡ add_all (flat_map (λ t. picks (A ++ F) (put t j)) (literals h)) l
head_first A F h j l r = add_all_same (picks (A ++ (h ∷ F)) j) (flat_map (λ t. picks (A ++ F) (put t j)) (literals h)) l r (λ z m. picks_first A F h j z m) (λ z m. first-picks A F h j z m)
