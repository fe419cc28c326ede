-- The operator on words: what a set gives, and the stages. Assumes nothing.
use Prim.Native.Nat.{ℕ}
use lib.Dec.{T, eqb, eqb→eq}
use mathlib.Core.Bool.{Bool, true, false, cond, ◌&&◌, ◌||◌}
use mathlib.Core.List.{List, [], ◌∷◌, ◌++◌, flat_map}
use mathlib.Core.Path.{◌≡◌, refl, sym, ap, ap₂, ◌∙◌, subst}
use native.Mathlib.Omega.{arith}
use Rattle.sets.proofs.Tests.{T_and_l, T_and_r, T_true}
use Rattle.sets.specs.Lists.{any_of}
use Rattle.sets.specs.Words.{inside, put}
use Rattle.literals.proofs.Literals.{literals_none}
use Rattle.literals.specs.Literals.{literals}
use Rattle.heads.specs.Heads.{picks}
use Rattle.operator.specs.Operator.{WordRule, choices, fired, next, bars, barred}
use Rattle.rising.specs.RisingSets.{add_all}

-- ---- one clause more

module _ (i j : ℕ) (c : WordRule) (Q : List WordRule) where
  pub choices-quiet : inside c.body i ≡ false → choices i (c ∷ Q) j ≡ choices i Q j
  unfolding choices
  choices-quiet e = rw e

  pub choices-fired : inside c.body i ≡ true → choices i (c ∷ Q) j ≡ flat_map (λ h. choices i Q (put h j)) (literals c.head)
  unfolding choices
  choices-fired e = rw e

-- the choices are made in the heads of the clauses that fire
pub choices-picks : (i : ℕ) (Q : List WordRule) (j : ℕ) → choices i Q j ≡ picks (fired i Q) j
unfolding choices picks fired flat_map
choices-picks i [] j = refl
choices-picks i (c ∷ Q) j = go (inside c.body i) (λ v. choices-picks i Q v)
  where
    same : ((v : ℕ) → choices i Q v ≡ picks (fired i Q) v) → (l : List ℕ) → flat_map (λ t. choices i Q (put t j)) l ≡ flat_map (λ t. picks (fired i Q) (put t j)) l
    same ih [] = refl
    same ih (t ∷ l) = ap₂ (λ (x y : List ℕ). x ++ y) (ih (put t j)) (same ih l)

    go : (b : Bool) → ((v : ℕ) → choices i Q v ≡ picks (fired i Q) v)
        → cond b (flat_map (λ t. choices i Q (put t j)) (literals c.head)) (choices i Q j) ≡ picks (cond b (c.head ∷ fired i Q) (fired i Q)) j
    go true ih = same ih (literals c.head)
    go false ih = ih j

module _ (i : ℕ) (c : WordRule) (Q : List WordRule) where
  pub fired-quiet : inside c.body i ≡ false → fired i (c ∷ Q) ≡ fired i Q
  unfolding fired
  fired-quiet e = rw e

  pub fired_one : inside c.body i ≡ true → fired i (c ∷ Q) ≡ c.head ∷ fired i Q
  unfolding fired
  fired_one e = rw e

-- ---- constraints

joined_none : {A B : Type 0} (f : A → List B) (l : List A) → ((x : A) → f x ≡ []) → flat_map f l ≡ []
unfolding flat_map
joined_none f [] h = refl
joined_none f (x ∷ l) h = ap₂ (λ a b. a ++ b) (h x) (joined_none f l h)

-- then it gives nothing
pub barred_none : (i : ℕ) (Q : List WordRule) → barred i Q ≡ true → (j : ℕ) → choices i Q j ≡ []
unfolding any_of flat_map
barred_none i [] e j = absurd (let z : ◌≡◌ {A = ℕ} 0 1 = cc in omega arith)
barred_none i (c ∷ Q) e j = go (bars i c) refl e (barred_none i Q)
  where
    quiet : (b : Bool) → inside c.body i ≡ b → ((j : ℕ) → choices i Q j ≡ []) → choices i (c ∷ Q) j ≡ []
    quiet true f ih = choices-fired i j c Q f ∙ joined_none (λ h. choices i Q (put h j)) (literals c.head) (λ h. ih (put h j))
    quiet false f ih = choices-quiet i j c Q f ∙ ih j

    here : bars i c ≡ true → choices i (c ∷ Q) j ≡ []
    here t =
        let u : T (eqb c.head 0 && inside c.body i) = subst T (sym t) tt in
        let z : c.head ≡ 0 = eqb→eq c.head 0 (T_and_l (eqb c.head 0) (inside c.body i) u) in
        choices-fired i j c Q (T_true (inside c.body i) (T_and_r (eqb c.head 0) (inside c.body i) u))
        ∙ ap (flat_map (λ h. choices i Q (put h j))) (ap literals z ∙ literals_none)

    go : (b : Bool) → bars i c ≡ b → ◌||◌ b (barred i Q) ≡ true → (barred i Q ≡ true → (j : ℕ) → choices i Q j ≡ []) → choices i (c ∷ Q) j ≡ []
    go true t e ih = here t
    go false t e ih = quiet (inside c.body i) refl (ih e)

pub next_is : (Q : List WordRule) (s : List ℕ) → add_all (flat_map (λ i. choices i Q i) s) [] ≡ next Q s
unfolding next
next_is Q s = refl
