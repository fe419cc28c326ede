-- Whether a word is among the sets: the literals of a head that are in it, tried in any order. Assumes nothing.
use mathlib.Core.Path.{◌≡◌, refl, sym, ap, ◌∙◌, subst}
use mathlib.Core.Bool.{Bool, true, false, ◌||◌}
use mathlib.Core.List.{List, flat_map}
use mathlib.Core.Logic.{◌⊎◌, ⊎_elim}
use Prim.Native.Nat.{ℕ, ◌+◌, ◌^◌, ◌≤◌, ◌<◌}
use native.Mathlib.Omega.{arith}
use lib.Bits.{bit_and, and_le_l, or_zero_l}
use lib.Dec.{T, eqb}
use lib.ListN.{get_or}
use borrow.Author.Tests.{eqb-true, eq-eqb}
use Rattle.sets.specs.Lists.{◌∈◌, any_of, onward, tabulate}
use Rattle.sets.specs.Words.{bit, put}
use Rattle.sets.proofs.Lists.{some_in, in_some, in_flat_map, flat_map_in, onward_start, onward_step, onward_done}
use Rattle.sets.proofs.Tests.{dec, clash, true_T}
use Rattle.sets.proofs.Digits.{bit_zero}
use Rattle.literals.specs.Literals.{literals}
use Rattle.literals.proofs.Literals.{lit_in, lit_out, literals_none}
use Rattle.heads.specs.Heads.{Literal, head_at, picks, without}
use Rattle.sets.proofs.Branches.{in_both, both_in, in_pow, pow_in}
use Rattle.heads.proofs.Tests.{in_without, without_in}
use Rattle.heads.proofs.Picks.{picks-chosen}

-- ---- a word in a list
is_in : (w : ℕ) (L : List ℕ) → any_of (eqb w) L ≡ true → w ∈ L
is_in w L e = let s = some_in (eqb w) L e in subst (λ (x : ℕ). x ∈ L) (sym (eqb-true w s.0 s.2)) s.1

in_is : (w : ℕ) (L : List ℕ) → w ∈ L → any_of (eqb w) L ≡ true
in_is w L m = in_some (eqb w) L w m (eq-eqb w w refl)

not_in : (w : ℕ) (L : List ℕ) → (w ∈ L → ⊥) → any_of (eqb w) L ≡ false
not_in w L n = ⊎_elim (λ t. absurd (n (is_in w L t))) (λ f. f) (dec (any_of (eqb w) L))

-- what the literals of `rest` lead to, at the head k
abbrev pub tried : List ℕ → ℕ → ℕ → ℕ → ℕ → List ℕ
tried ws n k j rest = flat_map (λ t. picks (onward (head_at ws) n (k + 1)) (put t j)) (literals rest)

-- w is among the sets exactly where a literal of `rest` leads to it
pub record Trying (ws : List ℕ) (n w k j rest : ℕ) : Type 0 where
  pub before : k < n
  pub to : w ∈ picks (onward (head_at ws) n k) j → w ∈ tried ws n k j rest
  pub of : w ∈ tried ws n k j rest → w ∈ picks (onward (head_at ws) n k) j

or-false : (b : Bool) → ◌||◌ b false ≡ b
or-false true = refl
or-false false = refl

module _ (ws : List ℕ) (n w k j : ℕ) where
  pub try_end : k ≡ n → eqb w j ≡ any_of (eqb w) (picks (onward (head_at ws) n k) j)
  unfolding picks any_of
  try_end e = sym (ap (λ (H : List ℕ). any_of (eqb w) (picks H j)) (onward_done (head_at ws) n k (omega arith)) ∙ or-false (eqb w j))

  one : k < n → picks (onward (head_at ws) n k) j ≡ tried ws n k j (get_or ws k 0)
  unfolding picks
  one h = ap (λ (H : List ℕ). picks H j) (onward_step (head_at ws) n k h)

  pub try_start : (n ≤ 64) × (k ≤ n) → (k ≡ n → ⊥) → Trying ws n w k j (bit_and (get_or ws k 0) w)
  try_start pre ne =
      let h : k < n = omega (arith, pre.1, ne) in
      record {
        before = h;
        to = λ m.
            let s = flat_map_in (λ t. picks (onward (head_at ws) n (k + 1)) (put t j)) w (literals (get_or ws k 0)) (subst (λ (L : List ℕ). w ∈ L) (one h) m) in
            let l = lit_out (get_or ws k 0) s.0 s.1 in
            in_flat_map (λ t. picks (onward (head_at ws) n (k + 1)) (put t j)) s.0 w (literals (bit_and (get_or ws k 0) w))
            (lit_in (bit_and (get_or ws k 0) w) s.0 l.0 (both_in (get_or ws k 0) w s.0 l.1 (picks-chosen (onward (head_at ws) n (k + 1)) j w s.0 s.2))) s.2;
        of = λ m.
            let s = flat_map_in (λ t. picks (onward (head_at ws) n (k + 1)) (put t j)) w (literals (bit_and (get_or ws k 0) w)) m in
            let l = lit_out (bit_and (get_or ws k 0) w) s.0 s.1 in
            subst (λ (L : List ℕ). w ∈ L) (sym (one h)) (in_flat_map (λ t. picks (onward (head_at ws) n (k + 1)) (put t j)) s.0 w (literals (get_or ws k 0))
            (lit_in (get_or ws k 0) s.0 l.0 (in_both (get_or ws k 0) w s.0 l.1).0) s.2);
      }

  module _ (rest : ℕ) (s : Trying ws n w k j rest) where
    pub try_none : rest ≡ 0 → false ≡ any_of (eqb w) (picks (onward (head_at ws) n k) j)
    unfolding flat_map
    try_none z = sym (not_in w (picks (onward (head_at ws) n k) j) (λ m.
        subst (λ (l : List ℕ). w ∈ flat_map (λ t. picks (onward (head_at ws) n (k + 1)) (put t j)) l) (ap literals z ∙ literals_none) (s.to m)))

    module _ (t v : ℕ) (l : Literal rest t) (p : v ≡ put t j) (b : Bool) (e : b ≡ any_of (eqb w) (picks (onward (head_at ws) n (k + 1)) v)) where
      same : b ≡ any_of (eqb w) (picks (onward (head_at ws) n (k + 1)) (put t j))
      same = e ∙ ap (λ (x : ℕ). any_of (eqb w) (picks (onward (head_at ws) n (k + 1)) x)) p

      pub try_hit : b ≡ true → true ≡ any_of (eqb w) (picks (onward (head_at ws) n k) j)
      try_hit y = sym (in_is w (picks (onward (head_at ws) n k) j) (s.of (in_flat_map (λ t. picks (onward (head_at ws) n (k + 1)) (put t j)) t w (literals rest)
          (lit_in rest t l.small (true_T (bit rest t) l.member)) (is_in w (picks (onward (head_at ws) n (k + 1)) (put t j)) (sym same ∙ y)))))

      pub try_miss : (u rest' : ℕ) → b ≡ false → u ≡ put t 0 → rest' ≡ without rest u → Trying ws n w k j rest'
      try_miss u rest' y q d =
          let is : u ≡ 2 ^ t = q ∙ or_zero_l (2 ^ t) in
          record {
            before = s.before;
            to = λ m.
                let r = flat_map_in (λ t. picks (onward (head_at ws) n (k + 1)) (put t j)) w (literals rest) (s.to m) in
                let g = lit_out rest r.0 r.1 in
                in_flat_map (λ t. picks (onward (head_at ws) n (k + 1)) (put t j)) r.0 w (literals rest')
                (lit_in rest' r.0 g.0 (subst (λ (x : ℕ). T (bit x r.0)) (sym d) (without_in rest u r.0 g.1
                (λ x.
                let z : r.0 ≡ t = in_pow t r.0 (subst (λ (y : ℕ). T (bit y r.0)) is x) in
                clash (any_of (eqb w) (picks (onward (head_at ws) n (k + 1)) (put t j)))
                (in_is w (picks (onward (head_at ws) n (k + 1)) (put t j)) (subst (λ (y : ℕ). w ∈ picks (onward (head_at ws) n (k + 1)) (put y j)) z r.2)) (sym same ∙ y))))) r.2;
            of = λ m.
                let r = flat_map_in (λ t. picks (onward (head_at ws) n (k + 1)) (put t j)) w (literals rest') m in
                let g = lit_out rest' r.0 r.1 in
                s.of (in_flat_map (λ t. picks (onward (head_at ws) n (k + 1)) (put t j)) r.0 w (literals rest)
                (lit_in rest r.0 g.0 (in_without rest u r.0 (subst (λ (x : ℕ). T (bit x r.0)) d g.1)).0) r.2);
          }

      pub try_less : (u rest' : ℕ) → u ≡ put t 0 → rest' ≡ without rest u → rest' < rest
      unfolding without
      try_less u rest' q d =
          let is : u ≡ 2 ^ t = q ∙ or_zero_l (2 ^ t) in
          let in_u : T (bit (bit_and rest u) t) = both_in rest u t (true_T (bit rest t) l.member) (subst (λ (x : ℕ). T (bit x t)) (sym is) (pow_in t)) in
          let hit : (bit_and rest u ≡ 0 → ⊥) = λ z. subst T (bit_zero t) (subst (λ (x : ℕ). T (bit x t)) z in_u) in
          omega (arith, hit, and_le_l rest u)

    pub try_within : (k + 1 ≤ n)
    try_within = omega (arith, s.before)

-- from the first head on
pub try_whole : (ws : List ℕ) (n w j : ℕ) {b : Bool} → b ≡ any_of (eqb w) (picks (onward (head_at ws) n 0) j) → b ≡ any_of (eqb w) (picks (tabulate (head_at ws) n) j)
try_whole ws n w j e = e ∙ ap (λ (H : List ℕ). any_of (eqb w) (picks H j)) (onward_start (head_at ws) n)
