-- The transform of a program with at most 64 members in its vocabulary has at most 1120 clauses. Assumes nothing.
use mathlib.Core.Path.{◌≡◌, refl, sym, ap, ap₂, ◌∙◌, subst}
use mathlib.Core.Logic.{inl, inr}
use mathlib.Core.Bool.{Bool, true, false, cond, ◌&&◌}
use mathlib.Core.List.{List, [], ◌∷◌, ◌++◌, map, flat_map}
use Prim.Native.Nat.{ℕ, zero, suc, ◌+◌, ◌-◌, ◌*◌, ◌^◌, ◌≤◌, ◌<◌}
use native.Mathlib.Decide.{dec_le}
use native.Mathlib.Nat.{mul-add, mul-one, add-mul, one-mul, zero-mul, mul-le-mul_left, mul-le-mul_right, le_trans, le_of_eq, lt_of_lt_of_le}
use native.Mathlib.Omega.{arith}
use lib.Dec.{T, leb, leb→le, eqb}
use lib.Count.{ones-le}
use lib.Pow.{pow_mono}
use lib.ListN.{length, length-append, length-map}
use Rattle.sets.specs.Lists.{Each}
use Rattle.sets.proofs.Tests.{T_and_l, T_and_r}
use Rattle.program.specs.Clauses.{Clause, Below}
use Rattle.literals.specs.Literals.{literals}
use Rattle.operator.specs.Operator.{WordRule}
use Rattle.transform.specs.Transform.{Stand, numbered, rule, clause_b, clause_c, clause_d, rewritten, becomes, stand_ins, kappa_from, all_stand_ins, members}
use Rattle.literals.proofs.Literals.{literals-length}

-- ---- how many clauses the transform makes

joined_short : {A B : Type 0} (f : A → List B) (k : ℕ) (l : List A) → ((x : A) → length (f x) ≤ k) → length (flat_map f l) ≤ length l * k
unfolding flat_map
joined_short f k [] h = le_of_eq (sym (zero-mul k))
joined_short f k (x ∷ l) h =
    let a = h x in
    let b = joined_short f k l h in
    let e : suc (length l) * k ≡ length l * k + k = ap (λ n. n * k) (sym (native.Mathlib.Numerals.add-one (length l))) ∙ add-mul (length l) 1 k ∙ ap (λ n. length l * k + n) (one-mul k) in
    omega (arith, length-append (f x) (flat_map f l))

length-numbered : (s : ℕ) (l : List ℕ) → length (numbered s l) ≡ length l
unfolding numbered
length-numbered s [] = refl
length-numbered s (x ∷ l) = ap suc (length-numbered (s + 1) l)

few_literals : (m w : ℕ) → m ≤ 64 → w < 2 ^ m → length (literals w) ≤ m
few_literals m w h k = let e = literals-length w (lt_of_lt_of_le k (pow_mono h)) in let o = ones-le m w k in omega arith

clause_d_short : (p q : Stand) → length (clause_d p q) ≤ 1
clause_d_short p q = go (eqb p.literal q.literal) (rule (p.at ∷ []) (p.literal ∷ q.at ∷ []))
  where
    go : (b : Bool) (x : WordRule) → length (cond b [] (x ∷ [])) ≤ 1
    go true x = omega arith
    go false x = omega arith

rewritten_short : (m h f : ℕ) (S : List Stand) (N B : List ℕ) → length S ≡ h → length N ≡ f → h ≤ m → f ≤ m → length (rewritten m S N B) ≤ 1 + h * (m + m + 1)
unfolding rewritten
rewritten_short m h f S N B eh ef hm fm =
    let b = length-map S clause_b in
    let c = joined_short (λ (p : Stand). map (clause_c p.at) N) f S (λ p. le_of_eq (length-map N (clause_c p.at) ∙ ef)) in
    let d1 : (p : Stand) → length (flat_map (clause_d p) S) ≤ h = λ p. le_trans (joined_short (clause_d p) 1 S (clause_d_short p)) (le_of_eq (mul-one (length S) ∙ eh)) in
    let d = joined_short (λ p. flat_map (clause_d p) S) h S d1 in
    let c' : length S * f ≤ h * m = le_trans (le_of_eq (ap (λ k. k * f) eh)) (mul-le-mul_left h fm) in
    let d' : length S * h ≤ h * m = le_trans (le_of_eq (ap (λ k. k * h) eh)) (mul-le-mul_left h hm) in
    let e : h * (m + m + 1) ≡ h * m + h * m + h = mul-add h (m + m) 1 ∙ ap₂ (λ x y. x + y) (mul-add h m m) (mul-one h) in
    omega (
      arith,
      length-append (map clause_b S) (flat_map (λ (p : Stand). map (clause_c p.at) N) S ++ flat_map (λ p. flat_map (clause_d p) S) S),
      length-append (flat_map (λ (p : Stand). map (clause_c p.at) N) S) (flat_map (λ p. flat_map (clause_d p) S) S),
    )

becomes_short : (m s : ℕ) (c : Clause) → m ≤ 64 → Below m c → length (becomes m s c) ≤ 1 + stand_ins c * (m + m + 1)
unfolding becomes stand_ins
becomes_short m s c h b = go (eqb c.naf 0)
  where
    go : (z : Bool) → length (cond z (rule (literals c.head) (literals c.body) ∷ []) (rewritten m (numbered s (literals c.head)) (literals c.naf) (literals c.body)))
        ≤ 1 + cond z 0 (length (literals c.head)) * (m + m + 1)
    go true = omega arith
    go false = rewritten_short m (length (literals c.head)) (length (literals c.naf)) (numbered s (literals c.head)) (literals c.naf) (literals c.body)
        (length-numbered s (literals c.head)) refl (few_literals m c.head h b.heads) (few_literals m c.naf h b.nafs)

kappa_short : (m s : ℕ) (C : List Clause) → m ≤ 64 → Each (Below m) C → length (kappa_from m s C) ≤ length C + all_stand_ins C * (m + m + 1)
unfolding kappa_from all_stand_ins
kappa_short m s [] h b = omega arith
kappa_short m s (c ∷ C) h b =
    let x = becomes_short m s c h (b c (inl refl)) in
    let y = kappa_short m (s + stand_ins c) C h (λ d i. b d (inr i)) in
    omega (arith, length-append (becomes m s c) (kappa_from m (s + stand_ins c) C), add-mul (stand_ins c) (all_stand_ins C) (m + m + 1))

-- (64 - x)(x + 1) for every x up to 64, computed
unfoldable all_up_to : (ℕ → Bool) → ℕ → Bool
all_up_to p zero = p 0
all_up_to p (suc n) = p (suc n) && all_up_to p n

all_at : (p : ℕ → Bool) (n i : ℕ) → T (all_up_to p n) → i ≤ n → T (p i)
unfolding all_up_to
all_at p zero i t h = let e : 0 ≡ i = omega arith in subst (λ k. T (p k)) e t
all_at p (suc n) i t h = go (dec_le i n) (λ k. all_at p n i (T_and_r (p (suc n)) (all_up_to p n) t) k)
  where
    go : Dec (i ≤ n) → (i ≤ n → T (p i)) → T (p i)
    go (yes k) ih = ih k
    go (no k) ih = let e : suc n ≡ i = omega (arith, k) in subst (λ j. T (p j)) e (T_and_l (p (suc n)) (all_up_to p n) t)

computed : T (all_up_to (λ x. leb ((64 - x) * (x + 1)) 1056) 64)
unfolding all_up_to
computed = tt

pub program_short : (m : ℕ) (C : List Clause) → Each (Below m) C → length C ≤ 64 → members m C ≤ 64 → length (kappa_from m (m + m) C) ≤ 1120
unfolding members
program_short m C b n f =
    let h : m ≤ 64 = omega arith in
    let x = kappa_short m (m + m) C h b in
    let y : all_stand_ins C * (m + m + 1) ≤ (64 - (m + m)) * (m + m + 1) = mul-le-mul_right (m + m + 1) (omega arith) in
    let z : (64 - (m + m)) * (m + m + 1) ≤ 1056 = leb→le ((64 - (m + m)) * (m + m + 1)) 1056 (all_at (λ x. leb ((64 - x) * (x + 1)) 1056) 64 (m + m) computed (omega arith)) in
    omega arith
