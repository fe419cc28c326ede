-- The stages formed here have the words that the theory's stages have. Assumes nothing.
use Prim.Native.Nat.{ℕ, zero, suc, ◌^◌, ◌<◌}
use mathlib.Core.Bool.{Bool, true, false, cond}
use mathlib.Core.List.{List, [], ◌∷◌, map, flat_map}
use mathlib.Core.Logic.{inl, ⊎_elim}
use mathlib.Core.Path.{◌≡◌, refl, sym, ap, ap₂, ◌∙◌, subst}
use native.Mathlib.Nat.{pow-suc}
use native.Mathlib.Omega.{arith}
use Rattle.epistemic.proofs.Masks.{unmask, mask_unmask}
use Rattle.epistemic.proofs.WordMain.{WSame, words_rest}
use Rattle.epistemic.proofs.Words.{wchoices, wstage, map_flat_map, map-map, map_cond}
use Rattle.epistemic.specs.Positive.{Rule}
use Rattle.sets.proofs.Lists.{in_flat_map, flat_map_in, map_in}
use Rattle.sets.proofs.Rising.{rising_ext}
use Rattle.sets.specs.Lists.{◌∈◌, Each, Rising}
use Rattle.sets.specs.Words.{inside, put, mask}
use Rattle.literals.proofs.Literals.{lit_out, put_put}
use Rattle.rising.proofs.RisingSets.{in_add_all, add_all_in, add_all-rising}
use Rattle.literals.specs.Literals.{literals}
use Rattle.operator.specs.Operator.{WordRule, choices, next, stage}
use Rattle.stages.specs.Run.{latest_rest}

-- a clause as two words says what a rule of the theory says
pub record Like (c : WordRule) (r : Rule ℕ) : Type 0 where
  pub heads_to : (x : ℕ) → x ∈ literals c.head → x ∈ r.head
  pub heads_of : (x : ℕ) → x ∈ r.head → x ∈ literals c.head
  pub body : c.body ≡ mask r.body

abbrev pub Corresponds : List WordRule → List (Rule ℕ) → Type 0
Corresponds [] [] = Unit {0}
Corresponds [] (r ∷ R) = ⊥
Corresponds (c ∷ Q) [] = ⊥
Corresponds (c ∷ Q) (r ∷ R) = Like c r × Corresponds Q R

-- ---- the theory's choices, put into j

unfoldable wfrom : ℕ → List (Rule ℕ) → ℕ → List ℕ
wfrom i [] j = j ∷ []
wfrom i (r ∷ R) j = cond (inside (mask r.body) i) (flat_map (λ h. map (put h) (wfrom i R j)) r.head) (wfrom i R j)

wfrom_is : (i : ℕ) (R : List (Rule ℕ)) → wfrom i R i ≡ wchoices i R
unfolding wfrom wchoices
wfrom_is i [] = refl
wfrom_is i (r ∷ R) = ap (λ (l : List ℕ). cond (inside (mask r.body) i) (flat_map (λ h. map (put h) l) r.head) l) (wfrom_is i R)

put_wfrom : (i h : ℕ) (R : List (Rule ℕ)) (j : ℕ) → map (put h) (wfrom i R j) ≡ wfrom i R (put h j)
unfolding wfrom
put_wfrom i h [] j = refl
put_wfrom i h (r ∷ R) j =
    map_cond (put h) (inside (mask r.body) i) (flat_map (λ g. map (put g) (wfrom i R j)) r.head) (wfrom i R j)
    ∙ ap₂ (λ (x y : List ℕ). cond (inside (mask r.body) i) x y)
    (map_flat_map (put h) (λ g. map (put g) (wfrom i R j)) (λ g. map (put g) (wfrom i R (put h j)))
    (λ g. map-map (put h) (put g) (put g) (put h) (λ w. put_put g h w) (wfrom i R j) ∙ ap (map (put g)) (put_wfrom i h R j)) r.head)
    (put_wfrom i h R j)

-- ---- the same words

choices_to : (i : ℕ) (Q : List WordRule) (R : List (Rule ℕ)) → Corresponds Q R → (j v : ℕ) → v ∈ choices i Q j → v ∈ wfrom i R j
unfolding choices wfrom
choices_to i [] [] a j v m = m
choices_to i [] (r ∷ R) a j v m = absurd a
choices_to i (c ∷ Q) [] a j v m = absurd a
choices_to i (c ∷ Q) (r ∷ R) a j v m = rw (← a.0.body) (go (inside c.body i) m (choices_to i Q R a.1))
  where
    go : (b : Bool) → v ∈ cond b (flat_map (λ h. choices i Q (put h j)) (literals c.head)) (choices i Q j)
        → ((j v : ℕ) → v ∈ choices i Q j → v ∈ wfrom i R j) → v ∈ cond b (flat_map (λ h. map (put h) (wfrom i R j)) r.head) (wfrom i R j)
    go true m ih = let s = flat_map_in (λ h. choices i Q (put h j)) v (literals c.head) m in
        in_flat_map (λ h. map (put h) (wfrom i R j)) s.0 v r.head (a.0.heads_to s.0 s.1) (subst (λ (l : List ℕ). v ∈ l) (sym (put_wfrom i s.0 R j)) (ih (put s.0 j) v s.2))
    go false m ih = ih j v m

choices_of : (i : ℕ) (Q : List WordRule) (R : List (Rule ℕ)) → Corresponds Q R → (j v : ℕ) → v ∈ wfrom i R j → v ∈ choices i Q j
unfolding choices wfrom
choices_of i [] [] a j v m = m
choices_of i [] (r ∷ R) a j v m = absurd a
choices_of i (c ∷ Q) [] a j v m = absurd a
choices_of i (c ∷ Q) (r ∷ R) a j v m = go (inside c.body i) (rw (← a.0.body) at m) (choices_of i Q R a.1)
  where
    go : (b : Bool) → v ∈ cond b (flat_map (λ h. map (put h) (wfrom i R j)) r.head) (wfrom i R j)
        → ((j v : ℕ) → v ∈ wfrom i R j → v ∈ choices i Q j) → v ∈ cond b (flat_map (λ h. choices i Q (put h j)) (literals c.head)) (choices i Q j)
    go true m ih = let s = flat_map_in (λ h. map (put h) (wfrom i R j)) v r.head m in
        in_flat_map (λ h. choices i Q (put h j)) s.0 v (literals c.head) (a.0.heads_of s.0 s.1) (ih (put s.0 j) v (subst (λ (l : List ℕ). v ∈ l) (put_wfrom i s.0 R j) s.2))
    go false m ih = ih j v m

pub in_next : (Q : List WordRule) (s : List ℕ) (v : ℕ) → v ∈ next Q s → v ∈ flat_map (λ i. choices i Q i) s
unfolding next
in_next Q s v m = ⊎_elim (λ i. i) (λ b. absurd b) (in_add_all v (flat_map (λ i. choices i Q i) s) [] m)

pub next_in : (Q : List WordRule) (s : List ℕ) (v : ℕ) → v ∈ flat_map (λ i. choices i Q i) s → v ∈ next Q s
unfolding next
next_in Q s v m = add_all_in v (flat_map (λ i. choices i Q i) s) [] (inl m)

pub stage-rising : (Q : List WordRule) (k : ℕ) → Rising (stage Q k)
unfolding stage next Rising
stage-rising Q zero = (λ y m. absurd m, tt)
stage-rising Q (suc k) = add_all-rising (flat_map (λ i. choices i Q i) (stage Q k)) [] tt

module _ (Q : List WordRule) (R : List (Rule ℕ)) (a : Corresponds Q R) where
  pub stage_to : (k v : ℕ) → v ∈ stage Q k → v ∈ wstage R k
  unfolding stage wstage
  stage_to zero v m = m
  stage_to (suc k) v m =
      let s = flat_map_in (λ i. choices i Q i) v (stage Q k) (in_next Q (stage Q k) v m) in
      in_flat_map (λ w. wchoices w R) s.0 v (wstage R k) (stage_to k s.0 s.1)
      (subst (λ (l : List ℕ). v ∈ l) (wfrom_is s.0 R) (choices_to s.0 Q R a s.0 v s.2))

  pub stage_of : (k v : ℕ) → v ∈ wstage R k → v ∈ stage Q k
  unfolding stage wstage
  stage_of zero v m = m
  stage_of (suc k) v m =
      let s = flat_map_in (λ w. wchoices w R) v (wstage R k) m in
      next_in Q (stage Q k) v (in_flat_map (λ i. choices i Q i) s.0 v (stage Q k) (stage_of k s.0 s.1)
      (choices_of s.0 Q R a s.0 v (subst (λ (l : List ℕ). v ∈ l) (sym (wfrom_is s.0 R)) s.2)))

  -- two stages with the same words are equal
  pub stage_same : (k : ℕ) → WSame R k → stage Q k ≡ stage Q (suc k)
  stage_same k h = rising_ext (stage Q k) (stage Q (suc k)) (stage-rising Q k) (stage-rising Q (suc k))
      (λ v m. stage_of (suc k) v ((h v).0 (stage_to k v m)))
      (λ v m. stage_of k v ((h v).1 (stage_to (suc k) v m)))

-- ---- the heads of words lie below 64, so that stage 65 equals its successor, whatever the clauses

below_pow : (n : ℕ) → n < 2 ^ n
below_pow zero = omega arith
below_pow (suc n) = let h = below_pow n in let e = pow-suc 2 n in omega arith

unfoldable rule_of : WordRule → Rule ℕ
rule_of c = record { head = literals c.head; body = unmask c.body c.body }

alike_rules : (Q : List WordRule) → Corresponds Q (map rule_of Q)
unfolding rule_of
alike_rules [] = tt
alike_rules (c ∷ Q) = (record { heads_to = λ x m. m; heads_of = λ x m. m; body = sym (mask_unmask c.body c.body (below_pow c.body)) }, alike_rules Q)

heads_below : (Q : List WordRule) → Each (λ (r : Rule ℕ). Each (λ x. x < 64) r.head) (map rule_of Q)
unfolding rule_of
heads_below Q r m x i = let s = map_in rule_of r Q m in (lit_out s.0.head x (subst (λ (z : Rule ℕ). x ∈ z.head) s.2 i)).0

pub stage_rests : (Q : List WordRule) → stage Q latest_rest ≡ stage Q (suc latest_rest)
stage_rests Q = stage_same Q (map rule_of Q) (alike_rules Q) latest_rest (words_rest (map rule_of Q) 64 (heads_below Q) latest_rest (omega arith))
