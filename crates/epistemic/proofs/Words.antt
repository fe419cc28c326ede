-- The stages computed on words are the stages over sets of numbers. Assumes nothing.
use mathlib.Core.Path.{◌≡◌, refl, sym, ap, ap₂, ◌∙◌, subst, fun_ext}
use mathlib.Core.Logic.{◌⊎◌, inl, inr, ⊎_elim, ◌↔◌}
use mathlib.Core.Bool.{Bool, true, false, not, cond, ◌&&◌, ◌||◌}
use mathlib.Core.List.{List, [], ◌∷◌, ◌++◌, map}
use Prim.Native.Nat.{ℕ, zero, suc, ◌^◌}
use native.Mathlib.Decide.{ℕ_discrete}
use lib.Dec.{T, T_not, not_T, eqb, eqb→eq, eqb_refl}
use lib.Bits.{bit_and}
use Rattle.epistemic.proofs.Decisions.{yes?-in, yes?-out}
use Rattle.epistemic.proofs.Stages.{holds→All, All→holds, touches, touches→Any, Any→touches}
use Rattle.epistemic.specs.Positive.{yes?, Any, Rule, empty, holds, add, choices, stage}
use Rattle.sets.proofs.Digits.{inside→⊑, ⊑→inside, bit-and, bit-or, bit_pow, bit_zero, bit_ext}
use Rattle.sets.proofs.Lists.{in_map, map_in}
use Rattle.sets.proofs.Masks.{mask_in, mask_out}
use Rattle.sets.proofs.Tests.{T?, T_and, T_and_l, T_and_r, T_or, T_or_l, T_or_r, T_ext}
use Rattle.sets.specs.Lists.{◌∈◌}
use Rattle.sets.specs.Words.{mask, put, bit, inside, Set}
use mathlib.Core.List.{flat_map}

pub inside-mask : (w : ℕ) (l : List ℕ) → inside (mask l) w ≡ holds (bit w) l
inside-mask w l = T_ext (inside (mask l) w) (holds (bit w) l)
    (λ t. All→holds (bit w) l (λ i m. inside→⊑ (mask l) w t i (mask_in l i m)))
    (λ t. ⊑→inside (mask l) w (λ i u. holds→All (bit w) l t i (mask_out l i u)))

-- ---- the stages on words

unfoldable pub wchoices : ℕ → List (Rule ℕ) → List ℕ
wchoices w [] = w ∷ []
wchoices w (r ∷ Q) = cond (inside (mask r.body) w) (flat_map (λ h. map (put h) (wchoices w Q)) r.head) (wchoices w Q)

unfoldable pub wstage : List (Rule ℕ) → ℕ → List ℕ
wstage Q zero = 0 ∷ []
wstage Q (suc k) = flat_map (λ w. wchoices w Q) (wstage Q k)

put-add : (h w : ℕ) → bit (put h w) ≡ add ℕ_discrete h (bit w)
unfolding add
put-add h w = fun_ext (λ i. bit-or w (2 ^ h) i ∙ ap (λ b. bit w i || b) (bit_pow h i) ∙ T_ext (bit w i || eqb i h) (yes? (ℕ_discrete i h) || bit w i)
    (λ t. ⊎_elim (λ p. T_or_r (yes? (ℕ_discrete i h)) (bit w i) p) (λ p. T_or_l (yes? (ℕ_discrete i h)) (bit w i) (yes?-in (ℕ_discrete i h) (eqb→eq i h p))) (T_or (bit w i) (eqb i h) t))
    (λ t. ⊎_elim (λ p. T_or_r (bit w i) (eqb i h) (subst (λ z. T (eqb i z)) (yes?-out (ℕ_discrete i h) p) (eqb_refl i))) (λ p. T_or_l (bit w i) (eqb i h) p)
    (T_or (yes? (ℕ_discrete i h)) (bit w i) t)))

pub map-++ : {X Y : Type 0} (f : X → Y) (s t : List X) → map f (s ++ t) ≡ map f s ++ map f t
map-++ f [] t = refl
map-++ f (x ∷ s) t = ap (λ l. f x ∷ l) (map-++ f s t)

pub map_flat_map : {X Y Z : Type 0} (f : Y → Z) (g : X → List Y) (g' : X → List Z) → ((x : X) → map f (g x) ≡ g' x) → (l : List X) → map f (flat_map g l) ≡ flat_map g' l
unfolding flat_map
map_flat_map f g g' h [] = refl
map_flat_map f g g' h (x ∷ l) = map-++ f (g x) (flat_map g l) ∙ ap₂ (λ a b. a ++ b) (h x) (map_flat_map f g g' h l)

pub flat_map_map : {X Y Z : Type 0} (f : X → Y) (g : Y → List Z) (g' : X → List Z) → ((x : X) → g (f x) ≡ g' x) → (l : List X) → flat_map g (map f l) ≡ flat_map g' l
unfolding flat_map
flat_map_map f g g' h [] = refl
flat_map_map f g g' h (x ∷ l) = ap₂ (λ a b. a ++ b) (h x) (flat_map_map f g g' h l)

pub map-map : {X Y Z W : Type 0} (f : Y → Z) (g : X → Y) (f' : W → Z) (g' : X → W) → ((x : X) → f (g x) ≡ f' (g' x)) → (l : List X) → map f (map g l) ≡ map f' (map g' l)
map-map f g f' g' h [] = refl
map-map f g f' g' h (x ∷ l) = ap₂ (λ a b. a ∷ b) (h x) (map-map f g f' g' h l)

pub map_cond : {X Y : Type 0} (f : X → Y) (b : Bool) (s t : List X) → map f (cond b s t) ≡ cond b (map f s) (map f t)
map_cond f true s t = refl
map_cond f false s t = refl

-- the words' choices are the sets' choices, word by word
pub bits_choices : (w : ℕ) (Q : List (Rule ℕ)) → map bit (wchoices w Q) ≡ choices ℕ_discrete (bit w) Q
unfolding wchoices choices
bits_choices w [] = refl
bits_choices w (r ∷ Q) =
    map_cond bit (inside (mask r.body) w) (flat_map (λ h. map (put h) (wchoices w Q)) r.head) (wchoices w Q)
    ∙ ap₂ (λ (x y : List (Set ℕ)). cond (inside (mask r.body) w) x y)
    (map_flat_map bit (λ h. map (put h) (wchoices w Q)) (λ h. map (add ℕ_discrete h) (choices ℕ_discrete (bit w) Q))
    (λ h. map-map bit (put h) (add ℕ_discrete h) bit (put-add h) (wchoices w Q) ∙ ap (map (add ℕ_discrete h)) (bits_choices w Q)) r.head)
    (bits_choices w Q)
    ∙ ap (λ b. cond b (flat_map (λ h. map (add ℕ_discrete h) (choices ℕ_discrete (bit w) Q)) r.head) (choices ℕ_discrete (bit w) Q)) (inside-mask w r.body)

pub bits_stage : (Q : List (Rule ℕ)) (k : ℕ) → map bit (wstage Q k) ≡ stage ℕ_discrete Q k
unfolding wstage stage empty
bits_stage Q zero = ap (λ (s : Set ℕ). s ∷ []) (fun_ext bit_zero)
bits_stage Q (suc k) =
    map_flat_map bit (λ w. wchoices w Q) (λ w. choices ℕ_discrete (bit w) Q) (λ w. bits_choices w Q) (wstage Q k)
    ∙ sym (flat_map_map bit (λ I. choices ℕ_discrete I Q) (λ w. choices ℕ_discrete (bit w) Q) (λ w. refl) (wstage Q k))
    ∙ ap (flat_map (λ I. choices ℕ_discrete I Q)) (bits_stage Q k)

-- so a word is in a stage exactly where its set is
pub in_wstage : (Q : List (Rule ℕ)) (k w : ℕ) → (w ∈ wstage Q k) ↔ (bit w ∈ stage ℕ_discrete Q k)
in_wstage Q k w = (
  λ m. subst (λ l. bit w ∈ l) (bits_stage Q k) (in_map bit w (wstage Q k) m),
  λ m. let r = map_in bit (bit w) (wstage Q k) (subst (λ l. bit w ∈ l) (sym (bits_stage Q k)) m) in
      subst (λ z. z ∈ wstage Q k) (sym (bit_ext w r.0 (λ i. ap (λ (s : Set ℕ). s i) r.2))) r.1,
)

pub stage_word : (Q : List (Rule ℕ)) (k : ℕ) (J : Set ℕ) → J ∈ stage ℕ_discrete Q k → (w : ℕ) × (w ∈ wstage Q k) × (J ≡ bit w)
stage_word Q k J m = map_in bit J (wstage Q k) (subst (λ l. J ∈ l) (sym (bits_stage Q k)) m)

-- ---- meeting

pub meets→Any : (w : ℕ) (l : List ℕ) → T (not (eqb (bit_and (mask l) w) 0)) → Any (bit w) l
meets→Any w l t = go (T? (touches (bit w) l))
  where
    go : T (touches (bit w) l) ⊎ (T (touches (bit w) l) → ⊥) → Any (bit w) l
    go (inl s) = touches→Any (bit w) l s
    go (inr n) = absurd (T_not (eqb (bit_and (mask l) w) 0) t (subst (λ z. T (eqb z 0)) (sym (bit_ext (bit_and (mask l) w) 0 (λ i. bit-and (mask l) w i ∙
        T_ext (bit (mask l) i && bit w i) (bit 0 i) (λ u. absurd
        (n (Any→touches (bit w) l i (mask_out l i (T_and_l (bit (mask l) i) (bit w i) u)) (T_and_r (bit (mask l) i) (bit w i) u)))) (λ u. absurd (subst T (bit_zero i) u))))) tt))

pub Any→meets : (w : ℕ) (l : List ℕ) → Any (bit w) l → T (not (eqb (bit_and (mask l) w) 0))
Any→meets w l s = not_T (eqb (bit_and (mask l) w) 0) (λ t.
    subst T (bit_zero s.0) (subst (λ z. T (bit z s.0)) (eqb→eq (bit_and (mask l) w) 0 t)
    (subst T (sym (bit-and (mask l) w s.0)) (T_and (bit (mask l) s.0) (bit w s.0) (mask_in l s.0 s.1) s.2))))
