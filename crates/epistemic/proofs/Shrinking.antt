-- The other half: a p-stable model is the literal part of a canonical minimal model of the transform.
use mathlib.Core.Path.{◌≡◌, refl, subst}
use mathlib.Core.Logic.{◌⊎◌, inl, inr, ⊎_elim}
use mathlib.Core.Bool.{not, ◌&&◌}
use mathlib.Core.List.{List, [], ◌∷◌}
use Prim.Native.Nat.{ℕ}
use native.Mathlib.Decide.{ℕ_discrete}
use lib.Dec.{T, eqb, eqb→eq, eqb_refl, T_not, not_T}
use Rattle.epistemic.proofs.Decisions.{dec_in, dec_T, dec_imp, dec_each, dec_all, dec_any, Tagged_discrete, yes?-in, yes?-out}
use Rattle.epistemic.proofs.Kappa.{RModel, KM, of_reduct, to-reduct, of_kappa, to-kappa, to_RModel, none_nil, misses→None, None→misses, stable_of_minimal}
use Rattle.epistemic.specs.Positive.{yes?, All, Any, None, Minimal}
use Rattle.epistemic.specs.Transform.{Tagged, misses, Stable, Atom, lit, know, stand, no_naf, kappa, Canonical, lits}
use Rattle.sets.proofs.Lists.{in_flat_map}
use Rattle.sets.proofs.Tests.{T?, T_and, T_and_l, T_and_r}
use Rattle.sets.specs.Lists.{◌∈◌, Each, Some}
use Rattle.sets.specs.Words.{Set, ◌⊑◌}
use mathlib.Core.List.{flat_map}

-- ---- a set that a monotone, decided test passes shrinks to one from which no member of the list can be taken

del : ℕ → Set ℕ → Set ℕ
del n k x = not (eqb x n) && k x

del_⊑ : (n : ℕ) (k : Set ℕ) → del n k ⊑ k
unfolding del
del_⊑ n k x t = T_and_r (not (eqb x n)) (k x) t

del_self : (n : ℕ) (k : Set ℕ) → T (del n k n) → ⊥
unfolding del
del_self n k t = T_not (eqb n n) (T_and_l (not (eqb n n)) (k n) t) (eqb_refl n)

del_mono : (n : ℕ) (k k' : Set ℕ) → k ⊑ k' → del n k ⊑ del n k'
unfolding del
del_mono n k k' s x t = T_and (not (eqb x n)) (k' x) (T_and_l (not (eqb x n)) (k x) t) (s x (T_and_r (not (eqb x n)) (k x) t))

module _ (H : Set ℕ → Type 0) (dec : (k : Set ℕ) → Dec (H k)) (mono : (k k' : Set ℕ) → k ⊑ k' → H k → H k') where
  shrink : (U : List ℕ) (k : Set ℕ) → H k → (k' : Set ℕ) × (k' ⊑ k) × H k' × Each (λ n. T (k' n) → H (del n k') → ⊥) U
  shrink [] k h = (k, λ x t. t, h, λ n m. absurd m)
  shrink (u ∷ U) k h = go (shrink U k h)
    where
      go : (k' : Set ℕ) × (k' ⊑ k) × H k' × Each (λ n. T (k' n) → H (del n k') → ⊥) U
          → (k' : Set ℕ) × (k' ⊑ k) × H k' × Each (λ n. T (k' n) → H (del n k') → ⊥) (u ∷ U)
      go r = at (dec (del u r.0))
        where
          at : Dec (H (del u r.0)) → (k' : Set ℕ) × (k' ⊑ k) × H k' × Each (λ n. T (k' n) → H (del n k') → ⊥) (u ∷ U)
          at (yes y) = (
            del u r.0,
            λ x t. r.1 x (del_⊑ u r.0 x t),
            y,
            λ n m. ⊎_elim (λ e t g. del_self u r.0 (subst (λ z. T (del u r.0 z)) e t))
                (λ i t g. r.3 n i (del_⊑ u r.0 n t) (mono (del n (del u r.0)) (del n r.0) (del_mono n (del u r.0) r.0 (del_⊑ u r.0)) g)) m,
          )
          at (no f) = (r.0, r.1, r.2, λ n m. ⊎_elim (λ e t g. f (subst (λ z. H (del z r.0)) e g)) (r.3 n) m)

-- ---- the model of the transform over a p-stable I

-- every clause of P that I fires and blocks has one of its naf literals in k
abbrev Hit : List Tagged → Set ℕ → Set ℕ → Type 0
Hit P I k = Each (λ (c : Tagged). All I c.body → Any I c.naf → Any k c.naf) P

dec_hit : (P : List Tagged) (I k : Set ℕ) → Dec (Hit P I k)
dec_hit P I k = dec_each (λ (c : Tagged). All I c.body → Any I c.naf → Any k c.naf)
    (λ c. dec_imp (dec_all I c.body) (dec_imp (dec_any I c.naf) (dec_any k c.naf))) P

nafs : List Tagged → List ℕ
nafs P = flat_map (λ (c : Tagged). c.naf) P

-- the stand-in of x in c holds
record Fires (P : List Tagged) (I : Set ℕ) (c : Tagged) (x : ℕ) : Type 0 where
  in_p : c ∈ P
  in_head : x ∈ c.head
  has_naf : T (not (no_naf c.naf))
  fired : All I c.body
  clear : T (misses I c.naf)
  holds : T (I x)

dec_fires : (P : List Tagged) (I : Set ℕ) (c : Tagged) (x : ℕ) → Dec (Fires P I c x)
dec_fires P I c x = go (dec_in Tagged_discrete c P) (dec_in ℕ_discrete x c.head) (dec_T (not (no_naf c.naf))) (dec_all I c.body) (dec_T (misses I c.naf)) (dec_T (I x))
  where
    go : Dec (c ∈ P) → Dec (x ∈ c.head) → Dec (T (not (no_naf c.naf))) → Dec (All I c.body) → Dec (T (misses I c.naf)) → Dec (T (I x)) → Dec (Fires P I c x)
    go (yes a) (yes b) (yes d) (yes e) (yes f) (yes g) = yes (record { in_p = a; in_head = b; has_naf = d; fired = e; clear = f; holds = g })
    go (yes a) (yes b) (yes d) (yes e) (yes f) (no n) = no (λ z. n z.holds)
    go (yes a) (yes b) (yes d) (yes e) (no n) g = no (λ z. n z.clear)
    go (yes a) (yes b) (yes d) (no n) f g = no (λ z. n z.fired)
    go (yes a) (yes b) (no n) e f g = no (λ z. n z.has_naf)
    go (yes a) (no n) d e f g = no (λ z. n z.in_head)
    go (no n) b d e f g = no (λ z. n z.in_p)

full : List Tagged → Set ℕ → Set ℕ → Set Atom
full P I k (lit x) = I x
full P I k (know n) = k n
full P I k (stand c x) = yes? (dec_fires P I c x)

module _ (P : List Tagged) (I : Set ℕ) (stable : Stable P I) where
  known : Set ℕ
  known n = I n && yes? (dec_in ℕ_discrete n (nafs P))

  known_hit : Hit P I known
  unfolding known nafs
  known_hit c m all s = (
    s.0,
    s.1,
    T_and (I s.0) (yes? (dec_in ℕ_discrete s.0 (nafs P))) s.2
        (yes?-in (dec_in ℕ_discrete s.0 (nafs P)) (in_flat_map (λ (z : Tagged). z.naf) c s.0 P m s.1)),
  )

  few : (k : Set ℕ) × (k ⊑ known) × Hit P I k × Each (λ n. T (k n) → Hit P I (del n k) → ⊥) (nafs P)
  few = shrink (Hit P I) (dec_hit P I) (λ k k' sub h c m all s. let r = h c m all s in (r.0, r.1, sub r.0 r.2)) (nafs P) known known_hit

  k : Set ℕ
  k = few.0

  M : Set Atom
  M = full P I k

  k→I : (n : ℕ) → T (k n) → T (I n)
  unfolding k known
  k→I n t = T_and_l (I n) (yes? (dec_in ℕ_discrete n (nafs P))) (few.1 n t)

  k→naf : (n : ℕ) → T (k n) → n ∈ nafs P
  unfolding k known
  k→naf n t = yes?-out (dec_in ℕ_discrete n (nafs P)) (T_and_r (I n) (yes? (dec_in ℕ_discrete n (nafs P))) (few.1 n t))

  rmodel : RModel P I I
  rmodel = of_reduct I I P stable.model

  M_KM : Each (KM M) P
  unfolding M full k
  M_KM c m = record {
    plain = λ t all. rmodel c m (none_nil I c.naf t) all;
    ka = λ t all. pick t all (dec_any I c.naf);
    kb = λ t x i s. (fire x s).holds;
    kc = λ t x n i j s p. misses→None I c.naf (fire x s).clear n j p;
    kd = λ t x y i j p s. let f = fire y s in
        yes?-in (dec_fires P I c x) (record { in_p = m; in_head = i; has_naf = t; fired = f.fired; clear = f.clear; holds = p });
  }
    where
      fire : (x : ℕ) → T (yes? (dec_fires P I c x)) → Fires P I c x
      fire x s = yes?-out (dec_fires P I c x) s

      pick : T (not (no_naf c.naf)) → All I c.body → Dec (Any I c.naf) → Some (λ x. T (yes? (dec_fires P I c x))) c.head ⊎ Some (λ n. T (k n)) c.naf
      pick t all (yes s) = inr (few.2 c m all s)
      pick t all (no f) =
          let none : None I c.naf = λ n j p. f (n, j, p) in
          let r = rmodel c m none all in
          inl (r.0, r.1, yes?-in (dec_fires P I c r.0) (record { in_p = m; in_head = r.1; has_naf = t; fired = all; clear = None→misses I c.naf none; holds = r.2 }))

  module _ (N : Set Atom) (sub : N ⊑ M) (h_n : Each (KM N) P) where
    N_lits : I ⊑ lits N
    unfolding M full
    N_lits = stable.least (lits N) (λ x. sub (lit x)) (to-reduct I (lits N) P (to_RModel N I P h_n (λ n t. k→I n (sub (know n) t))))

    N_stand : (c : Tagged) (x : ℕ) → Fires P I c x → T (N (stand c x))
    unfolding M full
    N_stand c x f = pick (ho.ka f.has_naf (λ y i. N_lits y (f.fired y i)))
      where
        ho : KM N c
        ho = h_n c f.in_p

        pick : Some (λ y. T (N (stand c y))) c.head ⊎ Some (λ n. T (N (know n))) c.naf → T (N (stand c x))
        pick (inl s) = ho.kd f.has_naf x s.0 f.in_head s.1 (N_lits x f.holds) s.2
        pick (inr s) = absurd (misses→None I c.naf f.clear s.0 s.1 (k→I s.0 (sub (know s.0) s.2)))

    -- were K n of M missing from N, the K's without n would do
    N_hit : (n : ℕ) → (T (N (know n)) → ⊥) → Hit P I (del n k)
    unfolding M full del
    N_hit n f c m all s = pick (ho.ka t (λ y i. N_lits y (all y i)))
      where
        ho : KM N c
        ho = h_n c m

        t : T (not (no_naf c.naf))
        t = not_T (no_naf c.naf) (λ q. none_nil I c.naf q s.0 s.1 s.2)

        pick : Some (λ y. T (N (stand c y))) c.head ⊎ Some (λ n'. T (N (know n'))) c.naf → Any (del n k) c.naf
        pick (inl u) = absurd (misses→None I c.naf (yes?-out (dec_fires P I c u.0) (sub (stand c u.0) u.2)).clear s.0 s.1 s.2)
        pick (inr u) = (u.0, u.1, T_and (not (eqb u.0 n)) (k u.0) (not_T (eqb u.0 n) (λ e. f (subst (λ v. T (N (know v))) (eqb→eq u.0 n e) u.2))) (sub (know u.0) u.2))

    N_all : M ⊑ N
    unfolding M full k
    N_all (lit x) t = N_lits x t
    N_all (know n) t = ⊎_elim (λ p. p) (λ f. absurd (few.3 n (k→naf n t) t (N_hit n f))) (T? (N (know n)))
    N_all (stand c x) t = N_stand c x (yes?-out (dec_fires P I c x) t)

  M_minimal : Minimal (kappa P) M
  M_minimal = record { model = to-kappa M P M_KM; least = λ N sub h. N_all N sub (of_kappa N P h) }

  pub minimal_of_stable : (M : Set Atom) × Minimal (kappa P) M × Canonical M × (lits M ≡ I)
  unfolding M full
  minimal_of_stable = (M, M_minimal, k→I, refl)

-- ---- the theorem

pub theorem_kappa : (P : List Tagged) (I : Set ℕ)
    → (Stable P I → (M : Set Atom) × Minimal (kappa P) M × Canonical M × (lits M ≡ I)) × ((M : Set Atom) × Minimal (kappa P) M × Canonical M × (lits M ≡ I) → Stable P I)
theorem_kappa P I = (minimal_of_stable P I, λ s. subst (λ J. Stable P J) s.3 (stable_of_minimal P s.0 s.1 s.2))
