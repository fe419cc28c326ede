-- The operator on words: what a set gives, and the stages. Assumes nothing.
use Rattle.std.specs.Prelude.{ℕ, zero, suc, ◌<◌, eqb, length, get_or, Bool, cond, ◌&&◌, ◌≡◌}
use mathlib.Core.List.{List, [], ◌∷◌, flat_map}
use Rattle.sets.specs.Lists.{any_of}
use Rattle.sets.specs.Words.{inside, put}
use Rattle.literals.specs.Literals.{literals}
use Rattle.rising.specs.RisingSets.{gather}
use Rattle.rising.specs.Growing.{Gathered}

-- a clause of the transformed program: the words of its head and its body
pub record WordRule : Type 0 where
  pub head : ℕ
  pub body : ℕ

-- the clause at a place of an array of heads and one of bodies
abbrev pub rule_at : List ℕ → List ℕ → ℕ → WordRule
rule_at hs bs i = record { head = get_or hs i 0; body = get_or bs i 0 }

-- every set made of j and one head literal, chosen every way, of each clause whose body lies in i;
-- "if I contains some constraint's body, it gives nothing", since an empty head offers no literal to choose
unfoldable pub choices : ℕ → List WordRule → ℕ → List ℕ
choices i [] j = j ∷ []
choices i (c ∷ Q) j = cond (inside c.body i) (flat_map (λ h. choices i Q (put h j)) (literals c.head)) (choices i Q j)

-- the heads of the clauses whose body lies in i
unfoldable pub fired : ℕ → List WordRule → List ℕ
fired i [] = []
fired i (c ∷ Q) = let r = fired i Q in cond (inside c.body i) (c.head ∷ r) r

-- what each member of a stage gives, as a set
unfoldable pub next : List WordRule → List ℕ → List ℕ
next Q s = gather (flat_map (λ i. choices i Q i) s)

-- stage 0 holds only the empty set
unfoldable pub stage : List WordRule → ℕ → List ℕ
stage Q zero = 0 ∷ []
stage Q (suc k) = next Q (stage Q k)

-- a constraint whose body lies in i
abbrev pub bars : ℕ → WordRule → Bool
bars i c = eqb c.head 0 && inside c.body i

-- i contains some constraint's body
abbrev pub barred : ℕ → List WordRule → Bool
barred i Q = any_of (bars i) Q

-- ---- an answer with heads set aside

-- the set has grown to `all`, and the first n words of ws are those of vs, which is as long; the words of ws behind them are free
pub record Chosen (room : ℕ) (all out : List ℕ) (r n : ℕ) (vs ws : List ℕ) : Type 0 where
  pub grown : Gathered room all out r
  pub same : (p : ℕ) → p < n → get_or ws p 0 ≡ get_or vs p 0
  pub long : length ws ≡ length vs
