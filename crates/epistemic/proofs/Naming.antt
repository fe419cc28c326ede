-- The atoms of the transform as bit positions: literals at 0.., K at m.., stand-ins at m + m.. in the order of the clauses.
use mathlib.Core.Path.{◌≡◌, refl, sym, ap, subst, ◌∙◌}
use mathlib.Core.Logic.{◌⊎◌, inl, inr, ⊎_elim}
use mathlib.Core.Bool.{Bool, true, false, not, cond}
use mathlib.Core.List.{List, [], ◌∷◌, ◌++◌, map}
use Prim.Native.Nat.{ℕ, suc, ◌+◌, ◌<◌}
use native.Mathlib.Omega.{arith}
use lib.Dec.{T, eqb}
use lib.ListN.{length}
use Rattle.epistemic.proofs.Decisions.{Atom_discrete}
use Rattle.epistemic.specs.Positive.{Rule}
use Rattle.epistemic.specs.Transform.{Tagged, Atom, lit, know, stand, rule_b, rule_c, rule_d, rules_b, rules_c, rules_d, kappa_naf, kappa_pos, no_naf, kappa_of, kappa}
use Rattle.sets.proofs.Lists.{below_in, in_below, in_flat_map, flat_map_in, in-++, in-++-l, in-++-r, each-++, in_map, map_in}
use Rattle.sets.specs.Lists.{below, ◌∈◌, Each}
use mathlib.Core.List.{flat_map}

-- ---- the place of a member in a list

module _ {A : Type 0} (d : Discrete A) where
  unfoldable pub place : A → List A → ℕ
  place a [] = 0
  place a (b ∷ l) = elim (d a b) [ yes e ↦ 0 | no n ↦ suc (place a l) ]

  pub place_here : (a b : A) (l : List A) → a ≡ b → place a (b ∷ l) ≡ 0
  unfolding place
  place_here a b l e = go (d a b)
    where
      go : (x : Dec (a ≡ b)) → ◌≡◌ {A = ℕ} (elim x as (λ y. ℕ) [ yes e ↦ 0 | no n ↦ suc (place a l) ]) 0
      go (yes p) = refl
      go (no n) = absurd (n e)

  pub place_there : (a b : A) (l : List A) → (a ≡ b → ⊥) → place a (b ∷ l) ≡ suc (place a l)
  unfolding place
  place_there a b l f = go (d a b)
    where
      go : (x : Dec (a ≡ b)) → ◌≡◌ {A = ℕ} (elim x as (λ y. ℕ) [ yes e ↦ 0 | no n ↦ suc (place a l) ]) (suc (place a l))
      go (yes p) = absurd (f p)
      go (no n) = refl

  pub place_inj : (a b : A) (l : List A) → a ∈ l → b ∈ l → place a l ≡ place b l → a ≡ b
  place_inj a b [] m n e = absurd m
  place_inj a b (x ∷ l) m n e = go (d a x) (d b x) m n (λ i j p. place_inj a b l i j p)
    where
      go : Dec (a ≡ x) → Dec (b ≡ x) → (a ≡ x) ⊎ (a ∈ l) → (b ≡ x) ⊎ (b ∈ l) → (a ∈ l → b ∈ l → place a l ≡ place b l → a ≡ b) → a ≡ b
      go (yes p) (yes q) i j ih = p ∙ sym q
      go (yes p) (no f) i j ih = absurd (omega (arith, sym (place_here a x l p) ∙ e ∙ place_there b x l f))
      go (no f) (yes q) i j ih = absurd (omega (arith, sym (place_there a x l f) ∙ e ∙ place_here b x l q))
      go (no f) (no g) (inl p) j ih = absurd (f p)
      go (no f) (no g) (inr i) (inl q) ih = absurd (g q)
      go (no f) (no g) (inr i) (inr j) ih = ih i j (omega (arith, sym (place_there a x l f) ∙ e ∙ place_there b x l g))

-- ---- names

-- the stand-ins of the clauses that have a naf
unfoldable pub stands : List Tagged → List Atom
stands P = flat_map (λ (c : Tagged). cond (no_naf c.naf) [] (map (stand c) c.head)) P

stands_in : (P : List Tagged) (c : Tagged) → c ∈ P → T (not (no_naf c.naf)) → (x : ℕ) → x ∈ c.head → stand c x ∈ stands P
unfolding stands
stands_in P c m t x i = in_flat_map (λ (c : Tagged). cond (no_naf c.naf) [] (map (stand c) c.head)) c (stand c x) P m (go (no_naf c.naf) t)
  where
    go : (b : Bool) → T (not b) → stand c x ∈ cond b [] (map (stand c) c.head)
    go true t = absurd t
    go false t = in_map (stand c) x c.head i

module _ (m : ℕ) (S : List Atom) where
  unfoldable pub name : Atom → ℕ
  name (lit x) = x
  name (know x) = m + x
  name (stand c x) = m + m + place Atom_discrete (stand c x) S

  -- the atoms that have a name of their own
  unfoldable pub vocabulary : List Atom
  vocabulary = map lit (below m) ++ (map know (below m) ++ S)

  abbrev pub Good : Atom → Type 0
  Good (lit x) = x < m
  Good (know x) = x < m
  Good (stand c x) = stand c x ∈ S

  module _ (only : (a : Atom) → a ∈ S → (c : Tagged) × (x : ℕ) × (a ≡ stand c x)) where
    pub good_of : (a : Atom) → a ∈ vocabulary → Good a
    unfolding vocabulary
    good_of a i = go (in-++ a (map lit (below m)) (map know (below m) ++ S) i)
      where
        last : a ∈ S → Good a
        last k = let s = only a k in subst Good (sym s.2) (subst (λ z. z ∈ S) s.2 k)

        go : (a ∈ map lit (below m)) ⊎ (a ∈ (map know (below m) ++ S)) → Good a
        go (inl k) = let s = map_in lit a (below m) k in subst Good (sym s.2) (in_below m s.0 s.1)
        go (inr k) = ⊎_elim (λ n. let s = map_in know a (below m) n in subst Good (sym s.2) (in_below m s.0 s.1)) last (in-++ a (map know (below m)) S k)

  pub good_to : (a : Atom) → Good a → a ∈ vocabulary
  unfolding vocabulary
  good_to (lit x) h = in-++-l (lit x) (map lit (below m)) (map know (below m) ++ S) (in_map lit x (below m) (below_in m x h))
  good_to (know x) h = in-++-r (know x) (map lit (below m)) (map know (below m) ++ S) (in-++-l (know x) (map know (below m)) S (in_map know x (below m) (below_in m x h)))
  good_to (stand c x) h = in-++-r (stand c x) (map lit (below m)) (map know (below m) ++ S) (in-++-r (stand c x) (map know (below m)) S h)

  pub name_inj : (a b : Atom) → Good a → Good b → name a ≡ name b → a ≡ b
  unfolding name
  name_inj (lit x) (lit y) g h e = ap lit e
  name_inj (lit x) (know y) g h e = absurd (omega arith)
  name_inj (lit x) (stand c y) g h e = absurd (omega arith)
  name_inj (know x) (lit y) g h e = absurd (omega arith)
  name_inj (know x) (know y) g h e = let k : x ≡ y = omega arith in ap know k
  name_inj (know x) (stand c y) g h e = absurd (omega arith)
  name_inj (stand c x) (lit y) g h e = absurd (omega arith)
  name_inj (stand c x) (know y) g h e = absurd (omega arith)
  name_inj (stand c x) (stand c' y) g h e = place_inj Atom_discrete (stand c x) (stand c' y) S g h (omega arith)

-- ---- the transform's atoms are in the vocabulary

-- every literal of the program is below m
pub record Small (m : ℕ) (c : Tagged) : Type 0 where
  pub heads : Each (λ x. x < m) c.head
  pub bodies : Each (λ x. x < m) c.body
  pub nafs : Each (λ x. x < m) c.naf

module _ (m : ℕ) (P : List Tagged) (small : Each (Small m) P) where
  abbrev G : Atom → Type 0
  G = Good m (stands P)

  abbrev Fine : Rule Atom → Type 0
  Fine r = Each G r.head × Each G r.body

  each_map : (f : ℕ → Atom) (l : List ℕ) → Each (λ x. G (f x)) l → Each G (map f l)
  each_map f l h a i = let s = map_in f a l i in subst G (sym s.2) (h s.0 s.1)

  each_nil : Each G []
  each_nil a i = absurd i

  each_cons : (a : Atom) (l : List Atom) → G a → Each G l → Each G (a ∷ l)
  each_cons a l g h b i = ⊎_elim (λ e. subst G (sym e) g) (h b) i

  module _ (c : Tagged) (i : c ∈ P) where
    fine_pos : Each Fine (kappa_pos c)
    fine_pos r (inl e) = subst Fine (sym e) (each_map lit c.head (small c i).heads, each_map lit c.body (small c i).bodies)
    fine_pos r (inr b) = absurd b

    module _ (t : T (not (no_naf c.naf))) where
      st : (x : ℕ) → x ∈ c.head → G (stand c x)
      st x k = stands_in P c i t x k

      fine_naf : Each Fine (kappa_naf c)
      fine_naf r (inl e) = subst Fine (sym e) (
        each-++ G (map (stand c) c.head) (map know c.naf) (each_map (stand c) c.head st)
            (each_map know c.naf (small c i).nafs),
        each_map lit c.body (small c i).bodies,
      )
      fine_naf r (inr k) = ⊎_elim in_b (λ k'. ⊎_elim in_c in_d (in-++ r (rules_c c) (rules_d c) k')) (in-++ r (rules_b c) (rules_c c ++ rules_d c) k)
        where
          in_b : r ∈ rules_b c → Fine r
          in_b n = let s = map_in (rule_b c) r c.head n in
              subst Fine (sym s.2) (each_cons (lit s.0) [] ((small c i).heads s.0 s.1) each_nil, each_cons (stand c s.0) [] (st s.0 s.1) each_nil)

          in_c : r ∈ rules_c c → Fine r
          in_c n =
              let s = flat_map_in (λ x. map (rule_c c x) c.naf) r c.head n in
              let u = map_in (rule_c c s.0) r c.naf s.2 in
              subst Fine (sym u.2) (each_nil, each_cons (stand c s.0) (lit u.0 ∷ []) (st s.0 s.1) (each_cons (lit u.0) [] ((small c i).nafs u.0 u.1) each_nil))

          in_d : r ∈ rules_d c → Fine r
          in_d n =
              let s = flat_map_in (λ x. flat_map (λ y. cond (eqb x y) [] (rule_d c x y ∷ [])) c.head) r c.head n in
              let u = flat_map_in (λ y. cond (eqb s.0 y) [] (rule_d c s.0 y ∷ [])) r c.head s.2 in
              subst Fine (sym (only (eqb s.0 u.0) (rule_d c s.0 u.0) u.2)) (
                each_cons (stand c s.0) [] (st s.0 s.1) each_nil,
                each_cons (lit s.0) (stand c u.0 ∷ []) ((small c i).heads s.0 s.1)
                    (each_cons (stand c u.0) [] (st u.0 u.1) each_nil),
              )
            where
              only : (b : Bool) (z : Rule Atom) → r ∈ cond b [] (z ∷ []) → r ≡ z
              only true z k = absurd k
              only false z (inl e) = e
              only false z (inr b) = absurd b

    fine_of : Each Fine (kappa_of c)
    unfolding kappa_of
    fine_of = go (no_naf c.naf) (λ t. fine_naf t)
      where
        go : (b : Bool) → (T (not b) → Each Fine (kappa_naf c)) → Each Fine (cond b (kappa_pos c) (kappa_naf c))
        go true f = fine_pos
        go false f = f tt

  pub kappa-vocabulary : (r : Rule Atom) → r ∈ kappa P → (x : Atom) → (x ∈ r.head) ⊎ (x ∈ r.body) → x ∈ vocabulary m (stands P)
  unfolding kappa
  kappa-vocabulary r k x o =
      let s = flat_map_in kappa_of r P k in
      let f = fine_of s.0 s.1 r s.2 in
      good_to m (stands P) x (⊎_elim (f.0 x) (f.1 x) o)

  only_stands : (a : Atom) → a ∈ stands P → (c : Tagged) × (x : ℕ) × (a ≡ stand c x)
  unfolding stands
  only_stands a k = let s = flat_map_in (λ (c : Tagged). cond (no_naf c.naf) [] (map (stand c) c.head)) a P k in go s.0 (no_naf s.0.naf) s.2
    where
      go : (c : Tagged) (b : Bool) → a ∈ cond b [] (map (stand c) c.head) → (c : Tagged) × (x : ℕ) × (a ≡ stand c x)
      go c true n = absurd n
      go c false n = let u = map_in (stand c) a c.head n in (c, u.0, u.2)

  pub names_apart : (a b : Atom) → a ∈ vocabulary m (stands P) → b ∈ vocabulary m (stands P) → name m (stands P) a ≡ name m (stands P) b → a ≡ b
  names_apart a b i k = name_inj m (stands P) a b (good_of m (stands P) only_stands a i) (good_of m (stands P) only_stands b k)

  pub good_names : (a : Atom) → a ∈ vocabulary m (stands P) → Good m (stands P) a
  good_names a i = good_of m (stands P) only_stands a i

-- ---- every name is below m + m + the number of stand-ins

pub place_lt : {A : Type 0} (d : Discrete A) (a : A) (l : List A) → a ∈ l → place d a l < length l
place_lt d a [] m = absurd m
place_lt d a (b ∷ l) m = go (d a b) m (λ i. place_lt d a l i)
  where
    go : Dec (a ≡ b) → (a ≡ b) ⊎ (a ∈ l) → (a ∈ l → place d a l < length l) → place d a (b ∷ l) < suc (length l)
    go (yes e) i ih = omega (arith, place_here d a b l e)
    go (no n) (inl e) ih = absurd (n e)
    go (no n) (inr i) ih = omega (arith, place_there d a b l n, ih i)

pub name_lt : (m : ℕ) (S : List Atom) (a : Atom) → Good m S a → name m S a < m + m + length S
unfolding name
name_lt m S (lit x) h = omega arith
name_lt m S (know x) h = omega arith
name_lt m S (stand c x) h = omega (arith, place_lt Atom_discrete (stand c x) S h)
