-- What is decided: membership, tests over lists, equality of clauses and of atoms. Assumes nothing.
use mathlib.Core.Path.{◌≡◌, refl, sym, ap, subst}
use mathlib.Core.Logic.{inl, inr, ⊎_elim}
use mathlib.Core.Bool.{Bool, true, false}
use mathlib.Core.List.{List, [], ◌∷◌, nil≢cons, cons≢nil, head-eq_of_cons-eq, tail-eq_of_cons-eq}
use Prim.Native.Nat.{ℕ}
use native.Mathlib.Decide.{ℕ_discrete}
use lib.Dec.{T}
use Rattle.epistemic.specs.Positive.{yes?, All, Any}
use Rattle.epistemic.specs.Transform.{Tagged, Atom, lit, know, stand}
use Rattle.sets.specs.Lists.{◌∈◌, Each, Some}
use Rattle.sets.specs.Words.{Set}

pub yes?-in : {P : Type 0} (d : Dec P) → P → T (yes? d)
unfolding yes?
yes?-in (yes p) q = tt
yes?-in (no n) q = n q

pub yes?-out : {P : Type 0} (d : Dec P) → T (yes? d) → P
unfolding yes?
yes?-out (yes p) t = p
yes?-out (no n) t = absurd t

-- ---- membership is decided

pub dec_in : {A : Type 0} → Discrete A → (x : A) (l : List A) → Dec (x ∈ l)
dec_in d x [] = no (λ b. b)
dec_in d x (y ∷ l) = go (d x y) (dec_in d x l)
  where
    go : Dec (x ≡ y) → Dec (x ∈ l) → Dec (x ∈ (y ∷ l))
    go (yes e) r = yes (inl e)
    go (no n) (yes m) = yes (inr m)
    go (no n) (no k) = no (λ m. ⊎_elim n k m)

-- (the library's `List-discrete` does not unfold; this one computes)
unfoldable pub lists_equal? : Discrete (List ℕ)
unfolding ℕ_discrete
lists_equal? [] [] = yes refl
lists_equal? [] (y ∷ l) = no (λ e. nil≢cons e)
lists_equal? (x ∷ k) [] = no (λ e. cons≢nil e)
lists_equal? (x ∷ k) (y ∷ l) = go (ℕ_discrete x y) (lists_equal? k l)
  where
    go : Dec (x ≡ y) → Dec (k ≡ l) → Dec (x ∷ k ≡ y ∷ l)
    go (yes p) (yes q) = yes (λ i. p i ∷ q i)
    go (yes p) (no n) = no (λ e. n (tail-eq_of_cons-eq e))
    go (no n) q = no (λ e. n (head-eq_of_cons-eq e))

unfoldable pub Tagged_discrete : Discrete Tagged
unfolding lists_equal?
Tagged_discrete c d = go (ℕ_discrete c.tag d.tag) (lists_equal? c.head d.head) (lists_equal? c.body d.body) (lists_equal? c.naf d.naf)
  where
    go : Dec (c.tag ≡ d.tag) → Dec (c.head ≡ d.head) → Dec (c.body ≡ d.body) → Dec (c.naf ≡ d.naf) → Dec (c ≡ d)
    go (yes p) (yes q) (yes r) (yes s) = yes (λ i. record { tag = p i; head = q i; body = r i; naf = s i })
    go (yes p) (yes q) (yes r) (no n) = no (λ e. n (ap (λ (z : Tagged). z.naf) e))
    go (yes p) (yes q) (no n) s = no (λ e. n (ap (λ (z : Tagged). z.body) e))
    go (yes p) (no n) r s = no (λ e. n (ap (λ (z : Tagged). z.head) e))
    go (no n) q r s = no (λ e. n (ap (λ (z : Tagged). z.tag) e))

-- ---- decisions over lists

pub dec_T : (b : Bool) → Dec (T b)
dec_T true = yes tt
dec_T false = no (λ t. t)

pub dec_imp : {X Y : Type 0} → Dec X → Dec Y → Dec (X → Y)
dec_imp d (yes y) = yes (λ x. y)
dec_imp (yes x) (no n) = no (λ f. n (f x))
dec_imp (no m) (no n) = yes (λ x. absurd (m x))

pub dec_each : {A : Type 0} (F : A → Type 0) → ((x : A) → Dec (F x)) → (l : List A) → Dec (Each F l)
dec_each F d [] = yes (λ x m. absurd m)
dec_each F d (y ∷ l) = go (d y) (dec_each F d l)
  where
    go : Dec (F y) → Dec (Each F l) → Dec (Each F (y ∷ l))
    go (yes p) (yes q) = yes (λ x m. ⊎_elim (λ e. subst F (sym e) p) (q x) m)
    go (yes p) (no n) = no (λ f. n (λ x m. f x (inr m)))
    go (no n) q = no (λ f. n (f y (inl refl)))

pub dec_some : {A : Type 0} (F : A → Type 0) → ((x : A) → Dec (F x)) → (l : List A) → Dec (Some F l)
dec_some F d [] = no (λ s. s.1)
dec_some F d (y ∷ l) = go (d y) (dec_some F d l)
  where
    go : Dec (F y) → Dec (Some F l) → Dec (Some F (y ∷ l))
    go (yes p) q = yes (y, inl refl, p)
    go (no n) (yes s) = yes (s.0, inr s.1, s.2)
    go (no n) (no k) = no (λ s. ⊎_elim (λ e. n (subst F e s.2)) (λ m. k (s.0, m, s.2)) s.1)

pub dec_all : {A : Type 0} (W : Set A) (l : List A) → Dec (All W l)
dec_all W l = dec_each (λ x. T (W x)) (λ x. dec_T (W x)) l

pub dec_any : {A : Type 0} (W : Set A) (l : List A) → Dec (Any W l)
dec_any W l = dec_some (λ x. T (W x)) (λ x. dec_T (W x)) l

-- ---- atoms are told apart

is_lit : Atom → Type 0
is_lit (lit x) = Unit {0}
is_lit (know x) = ⊥
is_lit (stand c x) = ⊥

is_know : Atom → Type 0
is_know (lit x) = ⊥
is_know (know x) = Unit {0}
is_know (stand c x) = ⊥

number : Atom → ℕ
number (lit x) = x
number (know x) = x
number (stand c x) = x

clause_of : Tagged → Atom → Tagged
clause_of d (lit x) = d
clause_of d (know x) = d
clause_of d (stand c x) = c

unfoldable pub Atom_discrete : Discrete Atom
unfolding is_lit is_know number clause_of Tagged_discrete
Atom_discrete (lit x) (lit y) = go (ℕ_discrete x y)
  where
    go : Dec (x ≡ y) → Dec (lit x ≡ lit y)
    go (yes e) = yes (ap lit e)
    go (no n) = no (λ e. n (ap number e))
Atom_discrete (lit x) (know y) = no (λ e. subst is_lit e tt)
Atom_discrete (lit x) (stand c y) = no (λ e. subst is_lit e tt)
Atom_discrete (know x) (lit y) = no (λ e. subst is_know e tt)
Atom_discrete (know x) (know y) = go (ℕ_discrete x y)
  where
    go : Dec (x ≡ y) → Dec (know x ≡ know y)
    go (yes e) = yes (ap know e)
    go (no n) = no (λ e. n (ap number e))
Atom_discrete (know x) (stand c y) = no (λ e. subst is_know e tt)
Atom_discrete (stand c x) (lit y) = no (λ e. subst is_lit (sym e) tt)
Atom_discrete (stand c x) (know y) = no (λ e. subst is_know (sym e) tt)
Atom_discrete (stand c x) (stand d y) = go (Tagged_discrete c d) (ℕ_discrete x y)
  where
    go : Dec (c ≡ d) → Dec (x ≡ y) → Dec (stand c x ≡ stand d y)
    go (yes p) (yes q) = yes (λ i. stand (p i) (q i))
    go (yes p) (no n) = no (λ e. n (ap number e))
    go (no n) q = no (λ e. n (ap (clause_of c) e))
