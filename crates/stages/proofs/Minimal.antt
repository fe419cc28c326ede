-- What is taken of the stage that ends the run. Assumes nothing.
use Prim.Native.Nat.{ℕ, suc, ◌<◌}
use lib.Bits.{bit_and}
use lib.Dec.{T, eqb, eqb→eq, eqb_refl, T_not, not_T}
use mathlib.Core.Bool.{Bool, true, false, not, cond, ◌&&◌, ◌||◌}
use mathlib.Core.List.{List, [], ◌∷◌, map}
use mathlib.Core.Logic.{◌⊎◌, inl, inr}
use mathlib.Core.Path.{◌≡◌, refl, sym, ap, subst}
use Rattle.epistemic.proofs.WordMain.{WSame, WMinimal, wsat, wmodel}
use Rattle.epistemic.proofs.Words.{wstage}
use Rattle.epistemic.specs.Positive.{Rule}
use Rattle.sets.proofs.Lists.{in_sift, out_sift, in_some, some_in}
use Rattle.sets.proofs.Masks.{mask_in, mask_out}
use Rattle.sets.proofs.Tests.{T_and_l, T?, T_and, T_and_r, T_true, true_T}
use Rattle.sets.specs.Lists.{◌∈◌, Some, sift, any_of, Each}
use Rattle.sets.specs.Words.{inside, mask}
use Rattle.stages.proofs.Bridge.{Corresponds, stage_to, stage_of}
use Rattle.literals.proofs.Literals.{lit_in, lit_out}
use Rattle.stages.proofs.Run.{rests_at}
use Rattle.minimal.specs.Minimal.{violates, satisfies, proper_in, least_in, minimals}
use Rattle.operator.specs.Operator.{WordRule, next, stage}
use Rattle.stages.specs.Run.{final_stage, ending}

-- ---- members that pass

any_in : (t : ℕ → Bool) (x : ℕ) (l : List ℕ) → x ∈ l → T (t x) → T (any_of t l)
any_in t x l m h = true_T (any_of t l) (in_some t l x m (T_true (t x) h))

in_any : (t : ℕ → Bool) (l : List ℕ) → T (any_of t l) → Some (λ x. T (t x)) l
in_any t l h = let s = some_in t l (T_true (any_of t l) h) in (s.0, s.1, true_T (t s.0) s.2)

pub proper_within : (w v : ℕ) → T (proper_in w v) → T (inside v w)
proper_within w v t = T_and_l (inside v w) (not (eqb v w)) t

-- a rule of the theory as two words
abbrev pub word_rule : Rule ℕ → WordRule
word_rule r = record { head = mask r.head; body = mask r.body }

pub alike_words : (R : List (Rule ℕ)) → Each (λ (r : Rule ℕ). Each (λ x. x < 64) r.head) R → Corresponds (map word_rule R) R
alike_words [] f = tt
alike_words (r ∷ R) f = (
  record {
    heads_to = λ x m. mask_out r.head x (lit_out (mask r.head) x m).1;
    heads_of = λ x m. lit_in (mask r.head) x (f r (inl refl) x m) (mask_in r.head x m);
    body = refl;
  },
  alike_words R (λ q i. f q (inr i)),
)

-- ---- the same models

satisfies_model : (w : ℕ) (R : List (Rule ℕ)) → satisfies (map word_rule R) w ≡ wmodel w R
unfolding any_of wmodel wsat
satisfies_model w [] = refl
satisfies_model w (r ∷ R) = go (inside (mask r.body) w) (eqb (bit_and (mask r.head) w) 0) (satisfies_model w R)
  where
    go : (a b : Bool) → not (any_of (violates w) (map word_rule R)) ≡ wmodel w R
        → not ((a && b) || any_of (violates w) (map word_rule R)) ≡ (cond a (not b) true && wmodel w R)
    go true true ih = refl
    go true false ih = ih
    go false b ih = ih

-- ---- the stage that ends the run is at rest

pub final_rests : (Q : List WordRule) → stage Q (ending Q) ≡ stage Q (suc (ending Q))
unfolding ending stage
final_rests Q = ap (next Q) (rests_at Q)

-- ---- minimal members

pub proper_not : (w v : ℕ) → T (inside v w) → (T (proper_in w v) → ⊥) → v ≡ w
proper_not w v t n = go (T? (eqb v w))
  where
    go : T (eqb v w) ⊎ (T (eqb v w) → ⊥) → v ≡ w
    go (inl e) = eqb→eq v w e
    go (inr f) = absurd (n (T_and (inside v w) (not (eqb v w)) t (not_T (eqb v w) f)))

pub not-proper : (w v : ℕ) → T (proper_in w v) → v ≡ w → ⊥
not-proper w v t e = T_not (eqb v w) (T_and_r (inside v w) (not (eqb v w)) t) (subst (λ z. T (eqb v z)) e (eqb_refl v))

module _ (R : List (Rule ℕ)) (small : Each (λ (r : Rule ℕ). Each (λ x. x < 64) r.head) R) where
  abbrev Q : List WordRule
  Q = map word_rule R

  abbrev found : List ℕ
  found = sift (satisfies Q) (final_stage Q)

  to : (k w : ℕ) → w ∈ stage Q k → w ∈ wstage R k
  to k w i = stage_to Q R (alike_words R small) k w i

  of : (k w : ℕ) → w ∈ wstage R k → w ∈ stage Q k
  of k w i = stage_of Q R (alike_words R small) k w i

  pub rests : WSame R (ending (map word_rule R))
  rests w = (
    λ i. to (suc (ending Q)) w (subst (λ (l : List ℕ). w ∈ l) (final_rests Q) (of (ending Q) w i)),
    λ i. to (ending Q) w (subst (λ (l : List ℕ). w ∈ l) (sym (final_rests Q)) (of (suc (ending Q)) w i)),
  )

  found_in : (w : ℕ) → w ∈ wstage R (ending Q) → T (wmodel w R) → w ∈ found
  unfolding final_stage
  found_in w i t = in_sift (satisfies Q) (stage Q (ending Q)) w (of (ending Q) w i) (subst T (sym (satisfies_model w R)) t)

  found_out : (w : ℕ) → w ∈ found → (w ∈ wstage R (ending Q)) × T (wmodel w R)
  unfolding final_stage
  found_out w i = let s = out_sift (satisfies Q) (stage Q (ending Q)) w i in (to (ending Q) w s.0, subst T (satisfies_model w R) s.1)

  pub minimal_out : (w : ℕ) → w ∈ minimals (sift (satisfies (map word_rule R)) (final_stage (map word_rule R))) → WMinimal R (ending (map word_rule R)) w
  unfolding minimals
  minimal_out w i =
      let s = out_sift (least_in found) found w i in
      let f = found_out w s.0 in
      record { member = f.0; model = f.1; least = λ v k t u. proper_not w v u (λ p. T_not (any_of (proper_in w) found) s.1 (any_in (proper_in w) v found (found_in v k t) p)) }

  pub minimal_in : (w : ℕ) → WMinimal R (ending (map word_rule R)) w → w ∈ minimals (sift (satisfies (map word_rule R)) (final_stage (map word_rule R)))
  unfolding minimals
  minimal_in w h = in_sift (least_in found) found w (found_in w h.member h.model) (not_T (any_of (proper_in w) found) (λ t.
      let s = in_any (proper_in w) found t in
      let f = found_out s.0 s.1 in
      not-proper w s.0 s.2 (h.least s.0 f.0 f.1 (proper_within w s.0 s.2))))
