-- What the stages hold: every minimal model, and from some stage on nothing new. Assumes nothing.
use mathlib.Core.Path.{◌≡◌, refl, sym, subst, fun_ext}
use mathlib.Core.Logic.{◌⊎◌, inl, inr, ⊎_elim, ◌↔◌}
use mathlib.Core.Bool.{Bool, true, false, not, cond, ◌&&◌, ◌||◌}
use mathlib.Core.List.{List, [], ◌∷◌, map}
use Prim.Native.Nat.{ℕ, zero, suc, ◌+◌, ◌≤◌, ◌<◌, zero-le}
use native.Mathlib.Nat.{le_refl, le_trans}
use native.Mathlib.Decide.{le_ind}
use native.Mathlib.Omega.{arith}
use lib.Dec.{T, T_not, not_T}
use lib.ListN.{length}
use Rattle.epistemic.proofs.Decisions.{yes?-in, yes?-out}
use Rattle.epistemic.specs.Positive.{holds, empty, yes?, add, choices, stage, Same, MinimalIn, All, Any, Rule, Sat, Model, Minimal}
use Rattle.sets.proofs.Lists.{in_flat_map, flat_map_in, in_map, map_in, find}
use Rattle.sets.proofs.Tests.{T?, T_and, T_and_l, T_and_r, T_or, T_or_l, T_or_r, T_ext}
use Rattle.sets.specs.Lists.{◌∈◌, Each, Some}
use Rattle.sets.specs.Words.{Set, ◌⊑◌}
use mathlib.Core.List.{flat_map}

-- ---- sets

pub set_eq : {A : Type 0} (I J : Set A) → I ⊑ J → J ⊑ I → I ≡ J
set_eq I J f g = fun_ext (λ x. T_ext (I x) (J x) (f x) (g x))

pub holds→All : {A : Type 0} (W : Set A) (l : List A) → T (holds W l) → All W l
holds→All W [] t x m = absurd m
holds→All W (y ∷ l) t x (inl e) = subst (λ z. T (W z)) (sym e) (T_and_l (W y) (holds W l) t)
holds→All W (y ∷ l) t x (inr m) = holds→All W l (T_and_r (W y) (holds W l) t) x m

pub All→holds : {A : Type 0} (W : Set A) (l : List A) → All W l → T (holds W l)
All→holds W [] h = tt
All→holds W (y ∷ l) h = T_and (W y) (holds W l) (h y (inl refl)) (All→holds W l (λ x m. h x (inr m)))

-- ---- how many atoms of the vocabulary U are in I

unfoldable pub one : Bool → ℕ
one true = 1
one false = 0

unfoldable pub count : {A : Type 0} → List A → Set A → ℕ
count [] I = 0
count (x ∷ U) I = one (I x) + count U I

pub one_le : (b : Bool) → one b ≤ 1
unfolding one
one_le true = le_refl 1
one_le false = zero-le

one_mono : (a b : Bool) → (T a → T b) → one a ≤ one b
unfolding one
one_mono true true f = le_refl 1
one_mono true false f = absurd (f tt)
one_mono false b f = zero-le

one_lt : (a b : Bool) → (T a → ⊥) → T b → one a < one b
unfolding one
one_lt true b f t = absurd (f tt)
one_lt false true f t = le_refl 1
one_lt false false f t = absurd t

pub count_le : {A : Type 0} (U : List A) (I : Set A) → count U I ≤ length U
unfolding count
count_le [] I = zero-le
count_le (x ∷ U) I = let a = one_le (I x) in let b = count_le U I in omega arith

pub count_mono : {A : Type 0} (U : List A) (I J : Set A) → I ⊑ J → count U I ≤ count U J
unfolding count
count_mono [] I J s = zero-le
count_mono (x ∷ U) I J s = let a = one_mono (I x) (J x) (s x) in let b = count_mono U I J s in omega arith

pub count_lt : {A : Type 0} (U : List A) (I J : Set A) → I ⊑ J → (x : A) → x ∈ U → (T (I x) → ⊥) → T (J x) → count U I < count U J
unfolding count
count_lt [] I J s x m f t = absurd m
count_lt (y ∷ U) I J s x (inl e) f t =
    let a = one_lt (I y) (J y) (λ p. f (subst (λ z. T (I z)) (sym e) p)) (subst (λ z. T (J z)) e t) in let b = count_mono U I J s in omega arith
count_lt (y ∷ U) I J s x (inr m) f t = let a = one_mono (I y) (J y) (s y) in let b = count_lt U I J s x m f t in omega arith

-- ---- the operator

module _ {A : Type 0} (d : Discrete A) where
  pub add_here : (h : A) (W : Set A) → T (add d h W h)
  unfolding add
  add_here h W = T_or_l (yes? (d h h)) (W h) (yes?-in (d h h) refl)

  pub add_⊑ : (h : A) (W : Set A) → W ⊑ add d h W
  unfolding add
  add_⊑ h W x t = T_or_r (yes? (d x h)) (W x) t

  pub add_cases : (h : A) (W : Set A) (x : A) → T (add d h W x) → (x ≡ h) ⊎ T (W x)
  unfolding add
  add_cases h W x t = ⊎_elim (λ p. inl (yes?-out (d x h) p)) (λ p. inr p) (T_or (yes? (d x h)) (W x) t)

pub skip : {A : Type 0} (I : Set A) (r : Rule A) → (T (holds I r.body) → ⊥) → Sat I r
skip I r f a = absurd (f (All→holds I r.body a))

abbrev pub touches : {A : Type 0} → Set A → List A → Bool
touches W [] = false
touches W (x ∷ l) = W x || touches W l

pub touches→Any : {A : Type 0} (W : Set A) (l : List A) → T (touches W l) → Any W l
touches→Any W [] t = absurd t
touches→Any W (y ∷ l) t = go (T_or (W y) (touches W l) t) (λ u. touches→Any W l u)
  where
    go : T (W y) ⊎ T (touches W l) → (T (touches W l) → Any W l) → Any W (y ∷ l)
    go (inl u) ih = (y, inl refl, u)
    go (inr u) ih = let s = ih u in (s.0, inr s.1, s.2)

pub Any→touches : {A : Type 0} (W : Set A) (l : List A) (x : A) → x ∈ l → T (W x) → T (touches W l)
Any→touches W [] x i t = absurd i
Any→touches W (y ∷ l) x (inl e) t = T_or_l (W y) (touches W l) (subst (λ z. T (W z)) e t)
Any→touches W (y ∷ l) x (inr i) t = T_or_r (W y) (touches W l) (Any→touches W l x i t)

module _ {A : Type 0} (d : Discrete A) where
  -- a member of the choices d for r ∷ Q: the rule fires and one of its head atoms is added to a choice for Q; or it does not fire
  data Last (I : Set A) (r : Rule A) (Q : List (Rule A)) (J : Set A) : Type 0 where
    fires : (h : A) (J' : Set A) → All I r.body → h ∈ r.head → J' ∈ choices d I Q → J ≡ add d h J' → Last I r Q J
    idle : Sat I r → J ∈ choices d I Q → Last I r Q J

  last : (I : Set A) (r : Rule A) (Q : List (Rule A)) (J : Set A) → J ∈ choices d I (r ∷ Q) → Last I r Q J
  unfolding choices
  last I r Q J m = go (holds I r.body) refl m
    where
      go : (b : Bool) → holds I r.body ≡ b → J ∈ cond b (flat_map (λ h. map (add d h) (choices d I Q)) r.head) (choices d I Q) → Last I r Q J
      go true e k =
          let s = flat_map_in (λ h. map (add d h) (choices d I Q)) J r.head k in
          let u = map_in (add d s.0) J (choices d I Q) s.2 in
          fires s.0 u.0 (holds→All I r.body (subst T (sym e) tt)) s.1 u.1 u.2
      go false e k = idle (skip I r (λ t. subst T e t)) k

  last_fires : (I : Set A) (r : Rule A) (Q : List (Rule A)) (h : A) (J : Set A) → T (holds I r.body) → h ∈ r.head → J ∈ choices d I Q → add d h J ∈ choices d I (r ∷ Q)
  unfolding choices
  last_fires I r Q h J a i m = go (holds I r.body) a
    where
      go : (b : Bool) → T b → add d h J ∈ cond b (flat_map (λ h'. map (add d h') (choices d I Q)) r.head) (choices d I Q)
      go true t = in_flat_map (λ h'. map (add d h') (choices d I Q)) h (add d h J) r.head i (in_map (add d h) J (choices d I Q) m)
      go false t = absurd t

  last_idle : (I : Set A) (r : Rule A) (Q : List (Rule A)) (J : Set A) → (T (holds I r.body) → ⊥) → J ∈ choices d I Q → J ∈ choices d I (r ∷ Q)
  unfolding choices
  last_idle I r Q J f m = go (holds I r.body) refl
    where
      go : (b : Bool) → holds I r.body ≡ b → J ∈ cond b (flat_map (λ h'. map (add d h') (choices d I Q)) r.head) (choices d I Q)
      go true e = absurd (f (subst T (sym e) tt))
      go false e = m

  -- a choice holds I, satisfies what I fires, and adds head atoms only
  pub grows : (I : Set A) (Q : List (Rule A)) (J : Set A) → J ∈ choices d I Q → I ⊑ J
  unfolding choices
  grows I [] J (inl e) = subst (λ K. I ⊑ K) (sym e) (λ x t. t)
  grows I [] J (inr b) = absurd b
  grows I (r ∷ Q) J m = go (last I r Q J m) (λ K. grows I Q K)
    where
      go : Last I r Q J → ((K : Set A) → K ∈ choices d I Q → I ⊑ K) → I ⊑ J
      go (fires h K a i n e) ih = subst (λ L. I ⊑ L) (sym e) (λ x t. add_⊑ d h K x (ih K n x t))
      go (idle f n) ih = ih J n

  pub answers : (I : Set A) (Q : List (Rule A)) (J : Set A) → J ∈ choices d I Q → (r : Rule A) → r ∈ Q → All I r.body → Any J r.head
  answers I [] J m r i a = absurd i
  answers I (q ∷ Q) J m r i a = go (last I q Q J m) i (λ K n j. answers I Q K n r j a)
    where
      go : Last I q Q J → (r ≡ q) ⊎ (r ∈ Q) → ((K : Set A) → K ∈ choices d I Q → r ∈ Q → Any K r.head) → Any J r.head
      go (fires h K b k n e) (inl p) ih = (h, subst (λ (z : Rule A). h ∈ z.head) (sym p) k, subst (λ (L : Set A). T (L h)) (sym e) (add_here d h K))
      go (fires h K b k n e) (inr j) ih = let s = ih K n j in (s.0, s.1, subst (λ (L : Set A). T (L s.0)) (sym e) (add_⊑ d h K s.0 s.2))
      go (idle f n) (inl p) ih = let s = subst (λ (z : Rule A). Sat I z) (sym p) f a in (s.0, s.1, grows I Q J n s.0 s.2)
      go (idle f n) (inr j) ih = ih J n j

  pub from_heads : (I : Set A) (Q : List (Rule A)) (J : Set A) → J ∈ choices d I Q → (x : A) → T (J x) → T (I x) ⊎ Some (λ (r : Rule A). x ∈ r.head) Q
  unfolding choices
  from_heads I [] J (inl e) x t = inl (subst (λ (K : Set A). T (K x)) e t)
  from_heads I [] J (inr b) x t = absurd b
  from_heads I (q ∷ Q) J m x t = go (last I q Q J m) (λ K n u. from_heads I Q K n x u)
    where
      up : T (I x) ⊎ Some (λ (r : Rule A). x ∈ r.head) Q → T (I x) ⊎ Some (λ (r : Rule A). x ∈ r.head) (q ∷ Q)
      up (inl u) = inl u
      up (inr s) = inr (s.0, inr s.1, s.2)

      go : Last I q Q J → ((K : Set A) → K ∈ choices d I Q → T (K x) → T (I x) ⊎ Some (λ (r : Rule A). x ∈ r.head) Q) → T (I x) ⊎ Some (λ (r : Rule A). x ∈ r.head) (q ∷ Q)
      go (fires h K b k n e) ih =
          ⊎_elim (λ p. inr (q, inl refl, subst (λ z. z ∈ q.head) (sym p) k)) (λ u. up (ih K n u)) (add_cases d h K x (subst (λ (L : Set A). T (L x)) e t))
      go (idle f n) ih = up (ih J n t)

  -- choice-inside a set M that answers what I fires, there is a choice
  pub choice_inside : (I M : Set A) (Q : List (Rule A)) → I ⊑ M → Each (λ (r : Rule A). All I r.body → Any M r.head) Q → (J : Set A) × (J ∈ choices d I Q) × (J ⊑ M)
  unfolding choices
  choice_inside I M [] s h = (I, inl refl, s)
  choice_inside I M (r ∷ Q) s h = go (choice_inside I M Q s (λ q i. h q (inr i))) (T? (holds I r.body))
    where
      go : (J : Set A) × (J ∈ choices d I Q) × (J ⊑ M) → T (holds I r.body) ⊎ (T (holds I r.body) → ⊥) → (J : Set A) × (J ∈ choices d I (r ∷ Q)) × (J ⊑ M)
      go j (inl t) =
          let a : All I r.body = holds→All I r.body t in
          let w = h r (inl refl) a in (
            add d w.0 j.0,
            last_fires I r Q w.0 j.0 t w.1 j.1,
            λ x u. ⊎_elim (λ e. subst (λ z. T (M z)) (sym e) w.2) (j.2 x) (add_cases d w.0 j.0 x u),
          )
      go j (inr f) = (j.0, last_idle I r Q j.0 f j.1, j.2)

  -- a model is among its own choices d
  pub persists : (I : Set A) (Q : List (Rule A)) → Model I Q → I ∈ choices d I Q
  persists I Q h =
      let j = choice_inside I I Q (λ x t. t) h in subst (λ (K : Set A). K ∈ choices d I Q) (set_eq j.0 I j.2 (grows I Q j.0 j.1)) j.1

  -- ---- over a program Q whose head atoms are all in the vocabulary U

  module _ (Q : List (Rule A)) (U : List A) (heads : (r : Rule A) → r ∈ Q → (x : A) → x ∈ r.head → x ∈ U) where
    -- a step that adds nothing, or one that adds an atom of U
    step_cases : (I J : Set A) → J ∈ choices d I Q → (J ≡ I) ⊎ (count U I < count U J)
    step_cases I J m = go (find (λ x. J x && not (I x)) U)
      where
        go : Some (λ x. T (J x && not (I x))) U ⊎ Each (λ x. T (J x && not (I x)) → ⊥) U → (J ≡ I) ⊎ (count U I < count U J)
        go (inl s) = inr (count_lt U I J (grows I Q J m) s.0 s.1 (T_not (I s.0) (T_and_r (J s.0) (not (I s.0)) s.2)) (T_and_l (J s.0) (not (I s.0)) s.2))
        go (inr f) = inl (set_eq J I (λ x t. ⊎_elim (λ u. u) (λ s. at x t (heads s.0 s.1 x s.2) (T? (I x))) (from_heads I Q J m x t)) (grows I Q J m))
          where
            at : (x : A) → T (J x) → x ∈ U → T (I x) ⊎ (T (I x) → ⊥) → T (I x)
            at x t i (inl u) = u
            at x t i (inr n) = absurd (f x i (T_and (J x) (not (I x)) t (not_T (I x) n)))

    -- a set that is among its own choices d is a model
    still : (I : Set A) → I ∈ choices d I Q → Model I Q
    still I m = answers I Q I m

    -- choice-inside any model M, every stage d has a set that is a model or has as many atoms as there were steps
    pub climb : (M : Set A) → Model M Q → (k : ℕ) → (I : Set A) × (I ∈ stage d Q k) × (I ⊑ M) × (Model I Q ⊎ (k ≤ count U I))
    unfolding stage empty
    climb M h zero = (empty, inl refl, λ x t. absurd t, inr zero-le)
    climb M h (suc k) = go (climb M h k)
      where
        go : (I : Set A) × (I ∈ stage d Q k) × (I ⊑ M) × (Model I Q ⊎ (k ≤ count U I))
            → (I : Set A) × (I ∈ flat_map (λ I. choices d I Q) (stage d Q k)) × (I ⊑ M) × (Model I Q ⊎ (suc k ≤ count U I))
        go p = at p.3
          where
            I : Set A
            I = p.0

            j : (J : Set A) × (J ∈ choices d I Q) × (J ⊑ M)
            j = choice_inside I M Q p.2 (λ r i a. h r i (λ x n. p.2 x (a x n)))

            next : (k ≤ count U I) → (j.0 ≡ I) ⊎ (count U I < count U j.0) → Model j.0 Q ⊎ (suc k ≤ count U j.0)
            next l (inl e) = inl (still j.0 (subst (λ (K : Set A). j.0 ∈ choices d K Q) (sym e) j.1))
            next l (inr g) = inr (omega arith)

            at : Model I Q ⊎ (k ≤ count U I) → (K : Set A) × (K ∈ flat_map (λ K. choices d K Q) (stage d Q k)) × (K ⊑ M) × (Model K Q ⊎ (suc k ≤ count U K))
            at (inl g) = (I, in_flat_map (λ K. choices d K Q) I I (stage d Q k) p.1 (persists I Q g), p.2, inl g)
            at (inr l) = (j.0, in_flat_map (λ K. choices d K Q) I j.0 (stage d Q k) p.1 j.1, j.2, next l (step_cases I j.0 j.1))

    -- choice-inside any model M, every stage d from |M| on has a model
    pub reach : (M : Set A) → Model M Q → (k : ℕ) → count U M ≤ k → (I : Set A) × (I ∈ stage d Q k) × (I ⊑ M) × Model I Q
    reach M h k l = go (climb M h k)
      where
        go : (I : Set A) × (I ∈ stage d Q k) × (I ⊑ M) × (Model I Q ⊎ (k ≤ count U I)) → (I : Set A) × (I ∈ stage d Q k) × (I ⊑ M) × Model I Q
        go p = (p.0, p.1, p.2, ⊎_elim (λ g. g) full p.3)
          where
            full : k ≤ count U p.0 → Model p.0 Q
            full c r i a =
                let w = h r i (λ x n. p.2 x (a x n)) in
                (w.0, w.1, ⊎_elim (λ t. t) (λ f. absurd (no_lt (count_lt U p.0 M p.2 w.0 (heads r i w.0 w.1) f w.2))) (T? (p.0 w.0)))
              where
                no_lt : count U p.0 < count U M → ⊥
                no_lt g = omega arith

    -- T1
    pub minimal_in_stage : (M : Set A) → Minimal Q M → (k : ℕ) → count U M ≤ k → M ∈ stage d Q k
    minimal_in_stage M h k l =
        let p = reach M h.model k l in
        subst (λ (K : Set A). K ∈ stage d Q k) (set_eq p.0 M p.2 (h.least p.0 p.2 p.3)) p.1

    -- T3: among the models in a stage d, the minimal ones are the minimal models
    pub minimal_in : (k : ℕ) → length U ≤ k → (M : Set A) → Minimal Q M → MinimalIn d Q k M
    minimal_in k l M h = record {
      member = minimal_in_stage M h k (le_trans (count_le U M) l);
      model = h.model;
      least = λ J m g s. h.least J s g;
    }

    pub minimal_of_lem : (k : ℕ) → length U ≤ k → (M : Set A) → MinimalIn d Q k M → Minimal Q M
    minimal_of_lem k l M h = record {
      model = h.model;
      least = λ J s g x t. let p = reach J g k (le_trans (count_le U J) l) in p.2 x (h.least p.0 p.1 p.3 (λ y u. s y (p.2 y u)) x t);
    }

    -- T2: a member of a stage d has as many atoms as there were steps, or is a member of the next stage d and of the one before
    Before : ℕ → Set A → Type 0
    Before zero J = ⊥
    Before (suc k) J = J ∈ stage d Q k

    before_step : (k : ℕ) (I J : Set A) → Before k I → J ∈ choices d I Q → J ∈ stage d Q k
    unfolding Before stage
    before_step zero I J b m = absurd b
    before_step (suc k) I J b m = in_flat_map (λ K. choices d K Q) I J (stage d Q k) b m

    stutters : (k : ℕ) (J : Set A) → J ∈ stage d Q k → (k ≤ count U J) ⊎ ((J ∈ stage d Q (suc k)) × Before k J)
    unfolding Before stage
    stutters zero J m = inl zero-le
    stutters (suc k) J m = go (flat_map_in (λ K. choices d K Q) J (stage d Q k) m) (λ I i. stutters k I i)
      where
        go : Some (λ I. J ∈ choices d I Q) (stage d Q k) → ((I : Set A) → I ∈ stage d Q k → (k ≤ count U I) ⊎ ((I ∈ stage d Q (suc k)) × Before k I))
            → (suc k ≤ count U J) ⊎ ((J ∈ stage d Q (suc (suc k))) × (J ∈ stage d Q k))
        go s ih = at (ih s.0 s.1)
          where
            grown : k ≤ count U s.0 → (J ≡ s.0) ⊎ (count U s.0 < count U J) → (suc k ≤ count U J) ⊎ ((J ∈ stage d Q (suc (suc k))) × (J ∈ stage d Q k))
            grown l (inr g) = inl (omega arith)
            grown l (inl e) =
                inr (in_flat_map (λ K. choices d K Q) J J (stage d Q (suc k)) m (subst (λ (K : Set A). J ∈ choices d K Q) (sym e) s.2), subst (λ (K : Set A). K ∈ stage d Q k) (sym e) s.1)

            at : (k ≤ count U s.0) ⊎ ((s.0 ∈ stage d Q (suc k)) × Before k s.0) → (suc k ≤ count U J) ⊎ ((J ∈ stage d Q (suc (suc k))) × (J ∈ stage d Q k))
            at (inl l) = grown l (step_cases s.0 J s.2)
            at (inr b) = inr (in_flat_map (λ K. choices d K Q) s.0 J (stage d Q (suc k)) b.0 s.2, before_step k s.0 J b.1 s.2)

    pub stages_end : (k : ℕ) → length U < k → Same d Q k (suc k)
    unfolding Same Before
    stages_end k l J = (λ m. ⊎_elim (λ c. absurd (over c)) (λ b. b.0) (stutters k J m), λ m. ⊎_elim (λ c. absurd (over' c)) (λ b. b.1) (stutters (suc k) J m))
      where
        over : k ≤ count U J → ⊥
        over c = omega (arith, count_le U J)

        over' : suc k ≤ count U J → ⊥
        over' c = omega (arith, count_le U J)

    -- a stage d that equals the next one equals every later one
    same_next : (j k : ℕ) → Same d Q j k → Same d Q (suc j) (suc k)
    unfolding Same stage
    same_next j k h J = (one_way j k (λ K. (h K).0), one_way k j (λ K. (h K).1))
      where
        one_way : (a b : ℕ) → ((K : Set A) → K ∈ stage d Q a → K ∈ stage d Q b) → J ∈ flat_map (λ I. choices d I Q) (stage d Q a) → J ∈ flat_map (λ I. choices d I Q) (stage d Q b)
        one_way a b f m = let s = flat_map_in (λ I. choices d I Q) J (stage d Q a) m in in_flat_map (λ I. choices d I Q) s.0 J (stage d Q b) (f s.0 s.1) s.2

    pub stays : (j : ℕ) → Same d Q j (suc j) → (k : ℕ) → j ≤ k → Same d Q j k
    unfolding Same
    stays j h k l = le_ind (λ k. Same d Q j k) (λ J. (λ m. m, λ m. m)) (λ m i e J. (λ x. (same_next j m e J).0 ((h J).0 x), λ x. (h J).1 ((same_next j m e J).1 x))) k l

    -- the fixpoint: among its models the minimal ones are the minimal models
    pub fixpoint-minimal : (j : ℕ) → Same d Q j (suc j) → (M : Set A) → Minimal Q M ↔ MinimalIn d Q j M
    unfolding Same
    fixpoint-minimal j h M = (to, of)
      where
        k : ℕ
        k = j + length U

        same : Same d Q j k
        same = stays j h k (omega arith)

        to : Minimal Q M → MinimalIn d Q j M
        to g = let r = minimal_in k (omega arith) M g in record { member = (same M).1 r.member; model = r.model; least = λ J m. r.least J ((same J).0 m) }

        of : MinimalIn d Q j M → Minimal Q M
        of g = minimal_of_lem k (omega arith) M (record { member = (same M).0 g.member; model = g.model; least = λ J m. g.least J ((same J).1 m) })
