-- The transform's models, read clause by clause; and the theorem: the p-stable models are the literal parts of the canonical minimal models.
use mathlib.Core.Path.{◌≡◌, refl, sym, subst}
use mathlib.Core.Logic.{◌⊎◌, inl, inr, ⊎_elim}
use mathlib.Core.Bool.{Bool, true, false, not, cond, ◌&&◌}
use mathlib.Core.List.{List, [], ◌∷◌, ◌++◌, map}
use Prim.Native.Nat.{ℕ}
use lib.Dec.{T, eqb, eqb→eq, T_not, not_T}
use Rattle.epistemic.specs.Positive.{All, Any, None, Rule, Sat, Model, Minimal}
use Rattle.epistemic.specs.Transform.{Tagged, misses, reduct, Stable, Atom, lit, know, stand, rule_a, rule_b, rule_c, rule_d, rules_b, rules_c, rules_d, kappa_naf}
use Rattle.epistemic.specs.Transform.{kappa_pos, no_naf, kappa_of, kappa, Canonical, lits}
use Rattle.sets.proofs.Lists.{in-++, in-++-l, in-++-r, in_map, map_in, in_flat_map, flat_map_in}
use Rattle.sets.proofs.Tests.{T?, T_and, T_and_l, T_and_r}
use Rattle.sets.specs.Lists.{◌∈◌, Each, Some}
use Rattle.sets.specs.Words.{Set, ◌⊑◌}
use mathlib.Core.List.{flat_map}

-- ---- misses, and the reduct's models

pub misses→None : (I : Set ℕ) (l : List ℕ) → T (misses I l) → None I l
misses→None I [] t x m = absurd m
misses→None I (y ∷ l) t x (inl e) = λ p. T_not (I y) (T_and_l (not (I y)) (misses I l) t) (subst (λ z. T (I z)) e p)
misses→None I (y ∷ l) t x (inr m) = misses→None I l (T_and_r (not (I y)) (misses I l) t) x m

pub None→misses : (I : Set ℕ) (l : List ℕ) → None I l → T (misses I l)
None→misses I [] f = tt
None→misses I (y ∷ l) f = T_and (not (I y)) (misses I l) (not_T (I y) (f y (inl refl))) (None→misses I l (λ x m. f x (inr m)))

-- J is a model of the reduct by I
abbrev pub RModel : List Tagged → Set ℕ → Set ℕ → Type 0
RModel P I J = (c : Tagged) → c ∈ P → None I c.naf → All J c.body → Any J c.head

pub of_reduct : (I J : Set ℕ) (P : List Tagged) → Model J (reduct I P) → RModel P I J
unfolding reduct
of_reduct I J [] h c m n = absurd m
of_reduct I J (d ∷ P) h c m n = go (misses I d.naf) refl h m (λ k q. of_reduct I J P k c q n)
  where
    go : (b : Bool) → misses I d.naf ≡ b → Model J (cond b (record { head = d.head; body = d.body } ∷ reduct I P) (reduct I P)) → c ∈ (d ∷ P)
        → (Model J (reduct I P) → c ∈ P → All J c.body → Any J c.head) → All J c.body → Any J c.head
    go true e k (inl p) rest = subst (λ (z : Tagged). All J z.body → Any J z.head) (sym p) (k _ (inl refl))
    go true e k (inr q) rest = rest (λ r i. k r (inr i)) q
    go false e k (inl p) rest = absurd (subst T e (None→misses I d.naf (subst (λ (z : Tagged). None I z.naf) p n)))
    go false e k (inr q) rest = rest k q

pub to-reduct : (I J : Set ℕ) (P : List Tagged) → RModel P I J → Model J (reduct I P)
unfolding reduct
to-reduct I J [] h r m = absurd m
to-reduct I J (d ∷ P) h r m = go (misses I d.naf) refl m (to-reduct I J P (λ c i. h c (inr i)) r)
  where
    go : (b : Bool) → misses I d.naf ≡ b → r ∈ cond b (record { head = d.head; body = d.body } ∷ reduct I P) (reduct I P) → (r ∈ reduct I P → Sat J r) → Sat J r
    go true e (inl p) rest = subst (λ (z : Rule ℕ). Sat J z) (sym p) (h d (inl refl) (misses→None I d.naf (subst T (sym e) tt)))
    go true e (inr q) rest = rest q
    go false e q rest = rest q

-- ---- the transform's models, clause by clause

pub record KM (M : Set Atom) (c : Tagged) : Type 0 where
  pub plain : T (no_naf c.naf) → All (lits M) c.body → Any (lits M) c.head
  pub ka : T (not (no_naf c.naf)) → All (lits M) c.body → Some (λ x. T (M (stand c x))) c.head ⊎ Some (λ n. T (M (know n))) c.naf
  pub kb : T (not (no_naf c.naf)) → (x : ℕ) → x ∈ c.head → T (M (stand c x)) → T (M (lit x))
  pub kc : T (not (no_naf c.naf)) → (x n : ℕ) → x ∈ c.head → n ∈ c.naf → T (M (stand c x)) → T (M (lit n)) → ⊥
  pub kd : T (not (no_naf c.naf)) → (x y : ℕ) → x ∈ c.head → y ∈ c.head → T (M (lit x)) → T (M (stand c y)) → T (M (stand c x))

pub all_map : {A B : Type 0} (W : B → Bool) (f : A → B) (l : List A) → All (λ x. W (f x)) l → All W (map f l)
all_map W f l h z m = let r = map_in f z l m in subst (λ v. T (W v)) (sym r.2) (h r.0 r.1)

pub map_all : {A B : Type 0} (W : B → Bool) (f : A → B) (l : List A) → All W (map f l) → All (λ x. W (f x)) l
map_all W f l h x m = h (f x) (in_map f x l m)

pub any-map : {A B : Type 0} (W : B → Bool) (f : A → B) (l : List A) → Any W (map f l) → Any (λ x. W (f x)) l
any-map W f l s = let r = map_in f s.0 l s.1 in (r.0, r.1, subst (λ v. T (W v)) r.2 s.2)

pub map_any : {A B : Type 0} (W : B → Bool) (f : A → B) (l : List A) → Any (λ x. W (f x)) l → Any W (map f l)
map_any W f l s = (f s.0, in_map f s.0 l s.1, s.2)

of_pos : (M : Set Atom) (c : Tagged) → Model M (kappa_pos c) → All (lits M) c.body → Any (lits M) c.head
of_pos M c h all = any-map M lit c.head (h _ (inl refl) (all_map M lit c.body all))

module _ (M : Set Atom) (c : Tagged) (h : Model M (kappa_naf c)) where
  of_a : All (lits M) c.body → Some (λ x. T (M (stand c x))) c.head ⊎ Some (λ n. T (M (know n))) c.naf
  of_a all = go s.0 s.2 (in-++ s.0 (map (stand c) c.head) (map know c.naf) s.1)
    where
      s : Any M (map (stand c) c.head ++ map know c.naf)
      s = h (rule_a c) (inl refl) (all_map M lit c.body all)

      go : (z : Atom) → T (M z) → (z ∈ map (stand c) c.head) ⊎ (z ∈ map know c.naf) → Some (λ x. T (M (stand c x))) c.head ⊎ Some (λ n. T (M (know n))) c.naf
      go z t (inl i) = inl (any-map M (stand c) c.head (z, i, t))
      go z t (inr i) = inr (any-map M know c.naf (z, i, t))

  of_b : (x : ℕ) → x ∈ c.head → T (M (stand c x)) → T (M (lit x))
  of_b x i t = one (h (rule_b c x) (inr (in-++-l (rule_b c x) (rules_b c) (rules_c c ++ rules_d c) (in_map (rule_b c) x c.head i)))
      (λ z k. ⊎_elim (λ e. subst (λ v. T (M v)) (sym e) t) (λ b. absurd b) k))
    where
      one : Any M (lit x ∷ []) → T (M (lit x))
      one s = ⊎_elim (λ e. subst (λ v. T (M v)) e s.2) (λ b. absurd b) s.1

  of_c : (x n : ℕ) → x ∈ c.head → n ∈ c.naf → T (M (stand c x)) → T (M (lit n)) → ⊥
  of_c x n i j t u = (h (rule_c c x n) place (λ z k. ⊎_elim (λ e. subst (λ v. T (M v)) (sym e) t) (λ k'. ⊎_elim (λ e. subst (λ v. T (M v)) (sym e) u) (λ b. absurd b) k') k)).1
    where
      place : rule_c c x n ∈ kappa_naf c
      place = inr (in-++-r (rule_c c x n) (rules_b c) (rules_c c ++ rules_d c) (in-++-l (rule_c c x n) (rules_c c) (rules_d c)
          (in_flat_map (λ x'. map (rule_c c x') c.naf) x (rule_c c x n) c.head i (in_map (rule_c c x) n c.naf j))))

  of_d : (x y : ℕ) → x ∈ c.head → y ∈ c.head → T (M (lit x)) → T (M (stand c y)) → T (M (stand c x))
  of_d x y i j t u = go (eqb x y) refl
    where
      one : Any M (stand c x ∷ []) → T (M (stand c x))
      one s = ⊎_elim (λ e. subst (λ v. T (M v)) e s.2) (λ b. absurd b) s.1

      place : rule_d c x y ∈ cond (eqb x y) [] (rule_d c x y ∷ []) → rule_d c x y ∈ kappa_naf c
      place q = inr (in-++-r (rule_d c x y) (rules_b c) (rules_c c ++ rules_d c) (in-++-r (rule_d c x y) (rules_c c) (rules_d c)
          (in_flat_map (λ x'. flat_map (λ y'. cond (eqb x' y') [] (rule_d c x' y' ∷ [])) c.head) x (rule_d c x y) c.head i
          (in_flat_map (λ y'. cond (eqb x y') [] (rule_d c x y' ∷ [])) y (rule_d c x y) c.head j q))))

      go : (b : Bool) → eqb x y ≡ b → T (M (stand c x))
      go true e = subst (λ v. T (M (stand c v))) (sym (eqb→eq x y (subst T (sym e) tt))) u
      go false e = one (h (rule_d c x y) (place (subst (λ (b : Bool). rule_d c x y ∈ cond b [] (rule_d c x y ∷ [])) (sym e) (inl refl)))
          (λ z k. ⊎_elim (λ p. subst (λ v. T (M v)) (sym p) t) (λ k'. ⊎_elim (λ p. subst (λ v. T (M v)) (sym p) u) (λ b. absurd b) k') k))

of_kappa_of : (M : Set Atom) (c : Tagged) → Model M (kappa_of c) → KM M c
unfolding kappa_of
of_kappa_of M c h = record {
  plain = λ t. of_pos M c (pos t);
  ka = λ t. of_a M c (neg t);
  kb = λ t. of_b M c (neg t);
  kc = λ t. of_c M c (neg t);
  kd = λ t. of_d M c (neg t);
}
  where
    pos : T (no_naf c.naf) → Model M (kappa_pos c)
    pos = go (no_naf c.naf) h
      where
        go : (b : Bool) → Model M (cond b (kappa_pos c) (kappa_naf c)) → T b → Model M (kappa_pos c)
        go true k t = k
        go false k t = absurd t

    neg : T (not (no_naf c.naf)) → Model M (kappa_naf c)
    neg = go (no_naf c.naf) h
      where
        go : (b : Bool) → Model M (cond b (kappa_pos c) (kappa_naf c)) → T (not b) → Model M (kappa_naf c)
        go true k t = absurd t
        go false k t = k

to_pos : (M : Set Atom) (c : Tagged) → (All (lits M) c.body → Any (lits M) c.head) → Model M (kappa_pos c)
to_pos M c h r (inl e) = subst (λ (z : Rule Atom). Sat M z) (sym e) (λ all. map_any M lit c.head (h (map_all M lit c.body all)))
to_pos M c h r (inr b) = absurd b

to_neg : (M : Set Atom) (c : Tagged) → KM M c → T (not (no_naf c.naf)) → Model M (kappa_naf c)
to_neg M c h t r m = at m
  where
    of : (z : Rule Atom) → Sat M z → r ≡ z → Sat M r
    of z k e = subst (λ (v : Rule Atom). Sat M v) (sym e) k

    sat_a : Sat M (rule_a c)
    sat_a all = go (h.ka t (map_all M lit c.body all))
      where
        go : Some (λ x. T (M (stand c x))) c.head ⊎ Some (λ n. T (M (know n))) c.naf → Any M (rule_a c).head
        go (inl s) = (stand c s.0, in-++-l _ (map (stand c) c.head) (map know c.naf) (in_map (stand c) s.0 c.head s.1), s.2)
        go (inr s) = (know s.0, in-++-r _ (map (stand c) c.head) (map know c.naf) (in_map know s.0 c.naf s.1), s.2)

    in_b : r ∈ rules_b c → Sat M r
    in_b m = let s = map_in (rule_b c) r c.head m in
        of (rule_b c s.0) (λ all. (lit s.0, inl refl, h.kb t s.0 s.1 (all _ (inl refl)))) s.2

    in_c : r ∈ rules_c c → Sat M r
    in_c m =
        let s = flat_map_in (λ x. map (rule_c c x) c.naf) r c.head m in
        let u = map_in (rule_c c s.0) r c.naf s.2 in
        of (rule_c c s.0 u.0) (λ all. absurd (h.kc t s.0 u.0 s.1 u.1 (all _ (inl refl)) (all _ (inr (inl refl))))) u.2

    in_d : r ∈ rules_d c → Sat M r
    in_d m =
        let s = flat_map_in (λ x. flat_map (λ y. cond (eqb x y) [] (rule_d c x y ∷ [])) c.head) r c.head m in
        let u = flat_map_in (λ y. cond (eqb s.0 y) [] (rule_d c s.0 y ∷ [])) r c.head s.2 in
        of (rule_d c s.0 u.0) (λ all. (stand c s.0, inl refl, h.kd t s.0 u.0 s.1 u.1 (all _ (inl refl)) (all _ (inr (inl refl)))))
        (only (eqb s.0 u.0) (rule_d c s.0 u.0) u.2)
      where
        only : (b : Bool) (z : Rule Atom) → r ∈ cond b [] (z ∷ []) → r ≡ z
        only true z k = absurd k
        only false z (inl e) = e
        only false z (inr b) = absurd b

    at : r ∈ kappa_naf c → Sat M r
    at (inl e) = of (rule_a c) sat_a e
    at (inr m) = ⊎_elim in_b (λ m'. ⊎_elim in_c in_d (in-++ r (rules_c c) (rules_d c) m')) (in-++ r (rules_b c) (rules_c c ++ rules_d c) m)

to-kappa_of : (M : Set Atom) (c : Tagged) → KM M c → Model M (kappa_of c)
unfolding kappa_of
to-kappa_of M c h = go (no_naf c.naf) (λ t. to_pos M c (h.plain t)) (to_neg M c h)
  where
    go : (b : Bool) → (T b → Model M (kappa_pos c)) → (T (not b) → Model M (kappa_naf c)) → Model M (cond b (kappa_pos c) (kappa_naf c))
    go true p n = p tt
    go false p n = n tt

pub of_kappa : (M : Set Atom) (P : List Tagged) → Model M (kappa P) → Each (KM M) P
unfolding kappa
of_kappa M P h c m = of_kappa_of M c (λ r i. h r (in_flat_map kappa_of c r P m i))

pub to-kappa : (M : Set Atom) (P : List Tagged) → Each (KM M) P → Model M (kappa P)
unfolding kappa
to-kappa M P h r i = let s = flat_map_in kappa_of r P i in to-kappa_of M s.0 (h s.0 s.1) r s.2

-- ---- from a canonical minimal model to a p-stable one

pub none_nil : (I : Set ℕ) (l : List ℕ) → T (no_naf l) → None I l
none_nil I [] t x m = absurd m
none_nil I (y ∷ l) t x m = absurd t

-- a canonical model's literal part satisfies the reduct by any I that misses no K of it
pub to_RModel : (M : Set Atom) (I : Set ℕ) (P : List Tagged) → Each (KM M) P → ((n : ℕ) → T (M (know n)) → T (I n)) → RModel P I (lits M)
to_RModel M I P h can c m none all = go (T? (no_naf c.naf))
  where
    ho : KM M c
    ho = h c m

    pick : T (not (no_naf c.naf)) → Some (λ x. T (M (stand c x))) c.head ⊎ Some (λ n. T (M (know n))) c.naf → Any (lits M) c.head
    pick t (inl s) = (s.0, s.1, ho.kb t s.0 s.1 s.2)
    pick t (inr s) = absurd (none s.0 s.1 (can s.0 s.2))

    go : T (no_naf c.naf) ⊎ (T (no_naf c.naf) → ⊥) → Any (lits M) c.head
    go (inl t) = ho.plain t all
    go (inr f) = let t = not_T (no_naf c.naf) f in pick t (ho.ka t all)

-- the smaller model that a smaller model J of the reduct would give
cut : Set Atom → Set ℕ → Set Atom
cut M J (lit x) = J x
cut M J (know x) = M (know x)
cut M J (stand c x) = M (stand c x) && J x

cut_⊑ : (M : Set Atom) (J : Set ℕ) → J ⊑ lits M → cut M J ⊑ M
unfolding cut
cut_⊑ M J h (lit x) t = h x t
cut_⊑ M J h (know x) t = t
cut_⊑ M J h (stand c x) t = T_and_l (M (stand c x)) (J x) t

cut_KM : (M : Set Atom) (J : Set ℕ) (P : List Tagged) → J ⊑ lits M → Each (KM M) P → RModel P (lits M) J → Each (KM (cut M J)) P
unfolding cut
cut_KM M J P sub h r c m = record {
  plain = λ t all. r c m (none_nil (lits M) c.naf t) all;
  ka = λ t all. pick t all (ho.ka t (λ x i. sub x (all x i)));
  kb = λ t x i s. T_and_r (M (stand c x)) (J x) s;
  kc = λ t x n i j s p. ho.kc t x n i j (T_and_l (M (stand c x)) (J x) s) (sub n p);
  kd = λ t x y i j p s. T_and (M (stand c x)) (J x) (ho.kd t x y i j (sub x p) (T_and_l (M (stand c y)) (J y) s)) p;
}
  where
    ho : KM M c
    ho = h c m

    pick : T (not (no_naf c.naf)) → All J c.body → Some (λ x. T (M (stand c x))) c.head ⊎ Some (λ n. T (M (know n))) c.naf
        → Some (λ x. T (M (stand c x) && J x)) c.head ⊎ Some (λ n. T (M (know n))) c.naf
    pick t all (inr s) = inr s
    pick t all (inl s) =
        let g = r c m (λ n j p. ho.kc t s.0 n s.1 j s.2 p) all in
        inl (g.0, g.1, T_and (M (stand c g.0)) (J g.0) (ho.kd t g.0 s.0 g.1 s.1 (sub g.0 g.2) s.2) g.2)

pub stable_of_minimal : (P : List Tagged) (M : Set Atom) → Minimal (kappa P) M → Canonical M → Stable P (lits M)
unfolding cut
stable_of_minimal P M h can =
    let hm : Each (KM M) P = of_kappa M P h.model in record {
      model = to-reduct (lits M) (lits M) P (to_RModel M (lits M) P hm can);
      least = λ J sub k x t. h.least (cut M J) (cut_⊑ M J sub) (to-kappa (cut M J) P (cut_KM M J P sub hm (of_reduct (lits M) J P k))) (lit x) t;
    }
