-- What a member gives is among its choices, and a set that is closed under what its members give holds their choices. Assumes nothing.
use Prim.Native.Nat.{ℕ, ◌^◌, ◌≤◌, ◌<◌}
use lib.Bits.{bit_and, bit_or, or_lt}
use lib.Pow.{pow-lt}
use lib.Dec.{T}
use borrow.Author.Tests.{eqb-false, ne_eqb, not-true}
use mathlib.Core.Bool.{Bool, true, false, not, cond, ◌&&◌}
use mathlib.Core.List.{List, [], ◌∷◌}
use mathlib.Core.Logic.{inl, inr, ⊎_elim}
use mathlib.Core.Path.{◌≡◌, refl, sym, ap, ap₂, ◌∙◌, subst}
use Rattle.sets.specs.Lists.{◌∈◌, Each, Some}
use Rattle.sets.specs.Words.{◌⊑◌, bit, inside, meets, put}
use Rattle.sets.proofs.Lists.{none_each, some_none, in_map, map_in, in_flat_map, flat_map_in}
use Rattle.sets.proofs.Tests.{dec, T?, T_true, true_T, not_T_false}
use Rattle.sets.proofs.Digits.{bit_zero, bits_ext, bit-small, meets_bits, inside_bits, inside_le, inside→⊑, ⊑→inside}
use Rattle.sets.proofs.Branches.{in_or, or_left, or_right, in_pow}
use Rattle.literals.specs.Literals.{literals}
use Rattle.literals.proofs.Literals.{lit_in, lit_out}
use Rattle.heads.specs.Heads.{picks, offered_by, without}
use Rattle.heads.proofs.Picks.{picks_holds}
use Rattle.heads.proofs.Tests.{in_without, without_in}
use Rattle.operator.specs.Operator.{WordRule, choices, fired}
use Rattle.operator.proofs.Operator.{choices-picks}
use Rattle.minimal.specs.Minimal.{violates, satisfies}
use Rattle.closure.specs.Closure.{offers, full, stirs, quiet, one_more, gives, Closed}

-- ---- a literal put into a word

pub put_there : (t j : ℕ) → T (bit j t) → put t j ≡ j
put_there t j b = bits_ext (put t j) j
    (λ k u. ⊎_elim (λ a. a) (λ c. subst (λ (z : ℕ). T (bit j z)) (sym (in_pow t k c)) b) (in_or j (2 ^ t) k u))
    (λ k u. or_left j (2 ^ t) k u)

pub put_more : (t j : ℕ) → bit j ⊑ bit (put t j)
put_more t j k u = or_left j (2 ^ t) k u

more_le : (a b : ℕ) → bit a ⊑ bit b → a ≤ b
more_le a b f = inside_le a b ((inside_bits a b).1 f)

-- ---- two words that meet share a bit

shared : (a b : ℕ) → T (meets a b) → (k : ℕ) × T (bit a k) × T (bit b k)
shared a b t = (meets_bits a b).0 (eqb-false (bit_and a b) 0 (not-true _ (T_true _ t)))

share : (a b k : ℕ) → T (bit a k) → T (bit b k) → T (meets a b)
share a b k t u = true_T _ (ap not (ne_eqb (bit_and a b) 0 ((meets_bits a b).1 (k, t, u))))

-- ---- the heads that fire, and what they offer

fired_out : (i : ℕ) (Q : List WordRule) (h : ℕ) → h ∈ fired i Q → Some (λ c. T (inside c.body i) × (h ≡ c.head)) Q
unfolding fired
fired_out i [] h m = absurd m
fired_out i (c ∷ Q) h m = go (inside c.body i) refl m (fired_out i Q h)
  where
    go : (b : Bool) → inside c.body i ≡ b → h ∈ cond b (c.head ∷ fired i Q) (fired i Q) → (h ∈ fired i Q → Some (λ c. T (inside c.body i) × (h ≡ c.head)) Q)
        → Some (λ c. T (inside c.body i) × (h ≡ c.head)) (c ∷ Q)
    go true e (inl q) r = (c, inl refl, (true_T _ e, q))
    go true e (inr k) r = let s = r k in (s.0, inr s.1, s.2)
    go false e k r = let s = r k in (s.0, inr s.1, s.2)

fired_same : (i j : ℕ) (Q : List WordRule) → Each (λ c. inside c.body j ≡ inside c.body i) Q → fired j Q ≡ fired i Q
unfolding fired
fired_same i j [] f = refl
fired_same i j (c ∷ Q) f = ap₂ (λ (b : Bool) (r : List ℕ). cond b (c.head ∷ r) r) (f c (inl refl)) (fired_same i j Q (λ d m. f d (inr m)))

offered_in : (H : List ℕ) (h t : ℕ) → h ∈ H → T (bit h t) → T (bit (offered_by H) t)
unfolding offered_by
offered_in [] h t m b = absurd m
offered_in (g ∷ H) h t (inl e) b = or_left g (offered_by H) t (subst (λ (z : ℕ). T (bit z t)) e b)
offered_in (g ∷ H) h t (inr m) b = or_right g (offered_by H) t (offered_in H h t m b)

-- ---- the choices where every head meets j already

abbrev Met : ℕ → List ℕ → Type 0
Met j H = (h : ℕ) → h ∈ H → (t : ℕ) × (t < 64) × T (bit h t) × T (bit j t)

picks_stays : (H : List ℕ) (j : ℕ) → Met j H → j ∈ picks H j
unfolding picks
picks_stays [] j f = inl refl
picks_stays (h ∷ H) j f =
    let s = f h (inl refl) in
    in_flat_map (λ t. picks H (put t j)) s.0 j (literals h) (lit_in h s.0 s.1 s.2)
    (subst (λ (z : ℕ). j ∈ picks H z) (sym (put_there s.0 j s.3)) (picks_stays H j (λ g m. f g (inr m))))

picks_one : (H : List ℕ) (j t : ℕ) → t < 64 → T (bit (offered_by H) t) → Met j H → put t j ∈ picks H j
unfolding picks offered_by
picks_one [] j t l b f = absurd (subst T (bit_zero t) b)
picks_one (h ∷ H) j t l b f =
    let s = f h (inl refl) in
    ⊎_elim
    (λ a. in_flat_map (λ u. picks H (put u j)) t (put t j) (literals h) (lit_in h t l a)
    (picks_stays H (put t j) (λ g m. let r = f g (inr m) in (r.0, r.1, r.2, put_more t j r.0 r.3))))
    (λ a. in_flat_map (λ u. picks H (put u j)) s.0 (put t j) (literals h) (lit_in h s.0 s.1 s.2)
    (subst (λ (z : ℕ). put t j ∈ picks H z) (sym (put_there s.0 j s.3)) (picks_one H j t l a (λ g m. f g (inr m)))))
    (in_or h (offered_by H) t b)

-- what every literal that is put in keeps, every choice keeps
picks-keep : (P : ℕ → Type 0) (H : List ℕ) → ((h t j : ℕ) → h ∈ H → t ∈ literals h → P j → P (put t j)) → (j x : ℕ) → P j → x ∈ picks H j → P x
unfolding picks
picks-keep P [] f j x p (inl e) = subst P (sym e) p
picks-keep P [] f j x p (inr m) = absurd m
picks-keep P (h ∷ H) f j x p m =
    let s = flat_map_in (λ t. picks H (put t j)) x (literals h) m in
    picks-keep P H (λ g t k n. f g t k (inr n)) (put s.0 j) x (f h s.0 j (inl refl) s.1 p) s.2

-- ---- a quiet member

still : (a b d : Bool) → a && not (b && d) ≡ false → T a → T b × T d
still true true true e t = (tt, tt)
still true true false e t = absurd (subst T e tt)
still true false d e t = absurd (subst T e tt)
still false b d e t = absurd t

stilled : (a b d : Bool) → (T a → T b × T d) → a && not (b && d) ≡ false
stilled true true true f = refl
stilled true true false f = absurd (f tt).1
stilled true false d f = absurd (f tt).0
stilled false b d f = refl

abbrev Still : ℕ → ℕ → List WordRule → Type 0
Still i f Q = (c : WordRule) → c ∈ Q → T (inside c.body f) → T (inside c.body i) × T (meets c.head i)

pub quiet_still : (i : ℕ) (Q : List WordRule) → quiet i Q ≡ true → Still i (full i Q) Q
unfolding quiet
quiet_still i Q e c m t = still (inside c.body (full i Q)) (inside c.body i) (meets c.head i) (none_each (stirs i (full i Q)) Q (not-true _ e) c m) t

still_quiet : (i : ℕ) (Q : List WordRule) → Still i (full i Q) Q → quiet i Q ≡ true
unfolding quiet
still_quiet i Q f = ap not (some_none (stirs i (full i Q)) Q (λ c m. stilled (inside c.body (full i Q)) (inside c.body i) (meets c.head i) (f c m)))

pub gives-quiet : (i : ℕ) (Q : List WordRule) → quiet i Q ≡ true → gives i Q ≡ one_more i (without (offers i Q) i)
unfolding gives
gives-quiet i Q e = rw e

pub gives_else : (i : ℕ) (Q : List WordRule) → quiet i Q ≡ false → gives i Q ≡ choices i Q i
unfolding gives
gives_else i Q e = rw e

more_in : (i w t : ℕ) → t ∈ literals w → put t i ∈ one_more i w
unfolding one_more
more_in i w t m = in_map (λ u. put u i) t (literals w) m

more_out : (i w x : ℕ) → x ∈ one_more i w → Some (λ t. x ≡ put t i) (literals w)
unfolding one_more
more_out i w x m = map_in (λ t. put t i) x (literals w) m

-- inside i is inside what holds i
inside_more : (a i j : ℕ) → bit i ⊑ bit j → T (inside a i) → T (inside a j)
inside_more a i j f t = ⊑→inside a j (λ k u. f k (inside→⊑ a i t k u))

module _ (i : ℕ) (Q : List WordRule) (s : Still i (full i Q) Q) where
  more_full : bit i ⊑ bit (full i Q)
  unfolding full
  more_full k u = or_left i (offers i Q) k u

  still_met : i < 2 ^ 64 → Met i (fired i Q)
  still_met l h m =
      let r = fired_out i Q h m in
      let b = shared r.0.head i (s r.0 r.1 (inside_more r.0.body i (full i Q) more_full r.2.0)).1 in
      (b.0, bit-small i 64 b.0 l b.2, subst (λ (z : ℕ). T (bit z b.0)) (sym r.2.1) b.1, b.2)

  -- between it and its full set every word is quiet too, and is offered the same
  module _ (j : ℕ) (lo : bit i ⊑ bit j) (hi : bit j ⊑ bit (full i Q)) where
    between-fired : fired j Q ≡ fired i Q
    between-fired = fired_same i j Q (λ c m.
        ⊎_elim
        (λ t. T_true _ (inside_more c.body i j lo t) ∙ sym (T_true _ t))
        (λ n. not_T_false _ (λ t. n (s c m (inside_more c.body j (full i Q) hi t)).0) ∙ sym (not_T_false _ n))
        (T? (inside c.body i)))

    between-offers : offers j Q ≡ offers i Q
    unfolding offers
    between-offers = ap offered_by between-fired

    between-full : full j Q ≡ full i Q
    unfolding full
    between-full = ap (bit_or j) between-offers ∙ bits_ext (bit_or j (offers i Q)) (bit_or i (offers i Q))
        (λ k u. ⊎_elim (λ a. hi k a) (λ a. or_right i (offers i Q) k a) (in_or j (offers i Q) k u))
        (λ k u. ⊎_elim (λ a. or_left j (offers i Q) k (lo k a)) (λ a. or_right j (offers i Q) k a) (in_or i (offers i Q) k u))

    between-quiet : quiet j Q ≡ true
    between-quiet = still_quiet j Q (λ c m t.
        let r = s c m (subst (λ (z : ℕ). T (inside c.body z)) between-full t) in
        let b = shared c.head i r.1 in
        (inside_more c.body i j lo r.0, share c.head j b.0 b.1 (lo b.0 b.2)))

    between-gives : (t : ℕ) → t < 64 → T (bit (offers i Q) t) → (T (bit j t) → ⊥) → put t j ∈ gives j Q
    between-gives t l b n = subst (λ (z : List ℕ). put t j ∈ z) (sym (gives-quiet j Q between-quiet))
        (more_in j (without (offers j Q) j) t
        (lit_in (without (offers j Q) j) t l (without_in (offers j Q) j t (subst (λ (z : ℕ). T (bit z t)) (sym between-offers) b) n)))

-- ---- what a member gives, and its choices

pub gives-choices : (i : ℕ) (Q : List WordRule) (x : ℕ) → i < 2 ^ 64 → x ∈ gives i Q → x ∈ choices i Q i
unfolding offers
gives-choices i Q x l m = ⊎_elim
    (λ (e : quiet i Q ≡ true).
    let r = more_out i (without (offers i Q) i) x (subst (λ (z : List ℕ). x ∈ z) (gives-quiet i Q e) m) in
    let o = lit_out (without (offers i Q) i) r.0 r.1 in
    subst (λ (z : ℕ). z ∈ choices i Q i) (sym r.2) (subst (λ (z : List ℕ). put r.0 i ∈ z) (sym (choices-picks i Q i))
    (picks_one (fired i Q) i r.0 o.0 (in_without (offers i Q) i r.0 o.1).0 (still_met i Q (quiet_still i Q e) l))))
    (λ e. subst (λ (z : List ℕ). x ∈ z) (gives_else i Q e) m)
    (dec (quiet i Q))

module _ (Q : List WordRule) (L : List ℕ) (c : Closed Q L) where
  pub closed-choices : (i x : ℕ) → i ∈ L → x ∈ choices i Q i → x ∈ L
  unfolding offers full
  closed-choices i x m k = ⊎_elim
      (λ (e : quiet i Q ≡ true).
      let s = quiet_still i Q e in
      (picks-keep (λ j. (j ∈ L) × (bit i ⊑ bit j) × (bit j ⊑ bit (full i Q))) (fired i Q)
      (λ h t j n o p.
      let lit = lit_out h t o in
      let b : T (bit (offers i Q) t) = offered_in (fired i Q) h t n lit.1 in (
        ⊎_elim (λ u. subst (λ (z : ℕ). z ∈ L) (sym (put_there t j u)) p.0) (λ u. c j (put t j) p.0 (between-gives i Q s j p.1 p.2 t lit.0 b u)) (T? (bit j t)),
        (λ a u. put_more t j a (p.1 a u)),
        (λ a u. ⊎_elim (λ v. p.2 a v) (λ v. or_right i (offers i Q) a (subst (λ (z : ℕ). T (bit (offers i Q) z)) (sym (in_pow t a v)) b)) (in_or j (2 ^ t) a u)),
      ))
      i x (m, (λ a u. u), (λ a u. or_left i (offers i Q) a u)) (subst (λ (z : List ℕ). x ∈ z) (choices-picks i Q i) k)).0)
      (λ e. c i x m (subst (λ (z : List ℕ). x ∈ z) (sym (gives_else i Q e)) k))
      (dec (quiet i Q))

-- what satisfies every clause is among its own choices
violates_not : (a b : Bool) → a && b ≡ false → T a → T (not b)
violates_not true true e t = absurd (subst T e tt)
violates_not true false e t = tt
violates_not false b e t = absurd t

pub satisfied_stays : (i : ℕ) (Q : List WordRule) → i < 2 ^ 64 → satisfies Q i ≡ true → i ∈ choices i Q i
satisfied_stays i Q l e = subst (λ (z : List ℕ). i ∈ z) (sym (choices-picks i Q i)) (picks_stays (fired i Q) i (λ h m.
    let r = fired_out i Q h m in
    let v = none_each (violates i) Q (not-true _ e) r.0 r.1 in
    let b = shared r.0.head i (violates_not (inside r.0.body i) _ v r.2.0) in
    (b.0, bit-small i 64 b.0 l b.2, subst (λ (z : ℕ). T (bit z b.0)) (sym r.2.1) b.1, b.2)))

-- ---- what is given is not below what gives it, and is a word where that is one

pub gives_above : (i : ℕ) (Q : List WordRule) (x : ℕ) → x ∈ gives i Q → i ≤ x
gives_above i Q x m = ⊎_elim
    (λ e. let r = more_out i (without (offers i Q) i) x (subst (λ (z : List ℕ). x ∈ z) (gives-quiet i Q e) m) in
    subst (λ (z : ℕ). i ≤ z) (sym r.2) (more_le i (put r.0 i) (put_more r.0 i)))
    (λ e. more_le i x (picks_holds (fired i Q) i x (subst (λ (z : List ℕ). x ∈ z) (gives_else i Q e ∙ choices-picks i Q i) m)))
    (dec (quiet i Q))

put_small : (t j : ℕ) → t < 64 → j < 2 ^ 64 → put t j < 2 ^ 64
put_small t j l h = or_lt 64 j (2 ^ t) h (pow-lt l)

pub choices-small : (i : ℕ) (Q : List WordRule) (j x : ℕ) → j < 2 ^ 64 → x ∈ choices i Q j → x < 2 ^ 64
choices-small i Q j x h m = picks-keep (λ z. z < 2 ^ 64) (fired i Q) (λ g t k n o p. put_small t k (lit_out g t o).0 p) j x h
    (subst (λ (z : List ℕ). x ∈ z) (choices-picks i Q j) m)
