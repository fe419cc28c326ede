-- Minimal models along a naming of the atoms that tells those of the vocabulary apart.
use mathlib.Core.Path.{◌≡◌, refl, sym, subst}
use mathlib.Core.Logic.{◌⊎◌, inl, inr, ◌↔◌}
use mathlib.Core.Bool.{◌&&◌}
use mathlib.Core.List.{List, map}
use lib.Dec.{T}
use Rattle.epistemic.proofs.Decisions.{yes?-in, yes?-out, dec_in, dec_some, dec_T}
use Rattle.epistemic.proofs.Kappa.{all_map, map_all, any-map, map_any}
use Rattle.epistemic.specs.Positive.{yes?, Rule, Sat, Model, Minimal}
use Rattle.sets.proofs.Lists.{in_map, map_in}
use Rattle.sets.proofs.Tests.{T_and, T_and_l, T_and_r}
use Rattle.sets.specs.Lists.{◌∈◌, Some}
use Rattle.sets.specs.Words.{Set}

abbrev pub rename : {A B : Type 0} → (A → B) → Rule A → Rule B
rename ν r = record { head = map ν r.head; body = map ν r.body }

module _ {A B : Type 0} (d_a : Discrete A) (d_b : Discrete B) (ν : A → B) (Vo : List A) where
  -- the atoms of Vo whose names are in N, and the names of the atoms of Vo in J
  unfoldable pub pull : Set B → Set A
  pull N a = yes? (dec_in d_a a Vo) && N (ν a)

  dec_named : (J : Set A) (b : B) (a : A) → Dec ((b ≡ ν a) × T (J a))
  dec_named J b a = go (d_b b (ν a)) (dec_T (J a))
    where
      go : Dec (b ≡ ν a) → Dec (T (J a)) → Dec ((b ≡ ν a) × T (J a))
      go (yes e) (yes t) = yes (e, t)
      go (yes e) (no n) = no (λ p. n p.1)
      go (no n) t = no (λ p. n p.0)

  pub image : Set A → Set B
  image J b = yes? (dec_some (λ a. (b ≡ ν a) × T (J a)) (dec_named J b) Vo)

  image_out : (J : Set A) (b : B) → T (image J b) → Some (λ a. (b ≡ ν a) × T (J a)) Vo
  unfolding image
  image_out J b t = yes?-out (dec_some (λ a. (b ≡ ν a) × T (J a)) (dec_named J b) Vo) t

  pub image_in : (J : Set A) (a : A) → a ∈ Vo → T (J a) → T (image J (ν a))
  unfolding image
  image_in J a m t = yes?-in (dec_some (λ a'. (ν a ≡ ν a') × T (J a')) (dec_named J (ν a)) Vo) (a, m, (refl, t))

  pub pull_in : (N : Set B) (a : A) → a ∈ Vo → T (N (ν a)) → T (pull N a)
  unfolding pull
  pull_in N a m t = T_and (yes? (dec_in d_a a Vo)) (N (ν a)) (yes?-in (dec_in d_a a Vo) m) t

  pub pull_V : (N : Set B) (a : A) → T (pull N a) → a ∈ Vo
  unfolding pull
  pull_V N a t = yes?-out (dec_in d_a a Vo) (T_and_l (yes? (dec_in d_a a Vo)) (N (ν a)) t)

  pub pull_out : (N : Set B) (a : A) → T (pull N a) → T (N (ν a))
  unfolding pull
  pull_out N a t = T_and_r (yes? (dec_in d_a a Vo)) (N (ν a)) t

  module _ (inj : (a b : A) → a ∈ Vo → b ∈ Vo → ν a ≡ ν b → a ≡ b) (Q : List (Rule A)) (vocab : (r : Rule A) → r ∈ Q → (x : A) → (x ∈ r.head) ⊎ (x ∈ r.body) → x ∈ Vo) where
    pub image_at : (J : Set A) (a : A) → a ∈ Vo → T (image J (ν a)) → T (J a)
    image_at J a m t = let s = image_out J (ν a) t in subst (λ z. T (J z)) (sym (inj a s.0 m s.1 s.2.0)) s.2.1

    -- two sets that agree on Vo are models together
    module _ (M : Set A) (N : Set B) (there : (a : A) → a ∈ Vo → T (M a) → T (N (ν a))) (back : (a : A) → a ∈ Vo → T (N (ν a)) → T (M a)) where
      model_of : Model N (map (rename ν) Q) → Model M Q
      model_of h r m all =
          let s = any-map N ν r.head (h (rename ν r) (in_map (rename ν) r Q m) (all_map N ν r.body (λ x i. there x (vocab r m x (inr i)) (all x i)))) in
          (s.0, s.1, back s.0 (vocab r m s.0 (inl s.1)) s.2)

      model_to : Model M Q → Model N (map (rename ν) Q)
      model_to h q m = let r = map_in (rename ν) q Q m in subst (λ (z : Rule B). Sat N z) (sym r.2) (sat r.0 r.1)
        where
          sat : (r : Rule A) → r ∈ Q → Sat N (rename ν r)
          sat r i all = let s = h r i (λ x k. back x (vocab r i x (inr k)) (map_all N ν r.body all x k)) in
              map_any N ν r.head (s.0, s.1, there s.0 (vocab r i s.0 (inl s.1)) s.2)

    pub model_pull : (N : Set B) → Model N (map (rename ν) Q) ↔ Model (pull N) Q
    model_pull N = (model_of (pull N) N (λ a m t. pull_out N a t) (λ a m t. pull_in N a m t), model_to (pull N) N (λ a m t. pull_out N a t) (λ a m t. pull_in N a m t))

    pub minimal_pull : (N : Set B) → Minimal (map (rename ν) Q) N → Minimal Q (pull N)
    minimal_pull N h = record {
      model = (model_pull N).0 h.model;
      least = λ J sub g a t. image_at J a (pull_V N a t) (h.least (image J)
          (λ b u. let s = image_out J b u in subst (λ z. T (N z)) (sym s.2.0) (pull_out N s.0 (sub s.0 s.2.1)))
          (model_to J (image J) (λ a m u. image_in J a m u) (λ a m u. image_at J a m u) g) (ν a) (pull_out N a t));
    }

    pub minimal_image : (M : Set A) → Minimal Q M → Minimal (map (rename ν) Q) (image M)
    minimal_image M h = record {
      model = model_to M (image M) (λ a m u. image_in M a m u) (λ a m u. image_at M a m u) h.model;
      least = λ N sub g b t. let s = image_out M b t in
          subst (λ z. T (N z)) (sym s.2.0) (pull_out N s.0 (h.least (pull N) (λ a u. image_at M a (pull_V N a u) (sub (ν a) (pull_out N a u))) ((model_pull N).0 g) s.0 s.2.1));
    }
