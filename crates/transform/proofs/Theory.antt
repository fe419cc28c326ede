-- The epistemic transform of a program of masks (000, Definition 3.5), and that it is the theory's. Assumes nothing.
use Prim.Native.Nat.{ℕ, suc, ◌+◌, ◌^◌, ◌≤◌, ◌<◌}
use lib.Dec.{T, eqb, eqb→eq}
use lib.ListN.{length, length-append, length-map}
use mathlib.Core.Bool.{Bool, true, false, not, cond}
use mathlib.Core.List.{List, [], ◌∷◌, ◌++◌, map, flat_map}
use mathlib.Core.Logic.{◌⊎◌, inl, inr}
use mathlib.Core.Path.{◌≡◌, refl, sym, ap, ap₂, ◌∙◌, subst}
use native.Mathlib.Decide.{ℕ_discrete}
use native.Mathlib.Nat.{add_assoc}
use native.Mathlib.Omega.{arith}
use Rattle.epistemic.proofs.Decisions.{Atom_discrete}
use Rattle.epistemic.proofs.Masks.{tagged_of, tagged_from, unmask, unmask_in, unmask_out, mask_unmask}
use Rattle.epistemic.proofs.Naming.{place, place_here, place_there, stands, name}
use Rattle.epistemic.proofs.Rename.{rename}
use Rattle.epistemic.proofs.Slots.{slot_here, slot_there, slots_of}
use Rattle.epistemic.proofs.WordMain.{program}
use Rattle.epistemic.proofs.Words.{map-++, map_flat_map, flat_map_map, map_cond}
use Rattle.epistemic.specs.Positive.{Rule}
use Rattle.epistemic.specs.Transform.{Tagged, Atom, lit, know, stand, rule_a, rules_b, rules_c, rules_d, kappa_naf, kappa_pos, no_naf, kappa_of, kappa}
use Rattle.program.specs.Clauses.{Clause, Below}
use Rattle.sets.proofs.Digits.{bit_zero, bit-small}
use Rattle.sets.proofs.Rising.{rising_ext, sift-rising, below-rising}
use Rattle.sets.proofs.Tests.{T?}
use Rattle.sets.specs.Lists.{◌∈◌, Each, below, Rising}
use Rattle.sets.specs.Words.{bit, mask}
use Rattle.literals.proofs.Literals.{lit_in, lit_out, bits_rising}
use Rattle.stages.proofs.Minimal.{word_rule}
use Rattle.literals.specs.Literals.{literals}
use Rattle.operator.specs.Operator.{WordRule}
use Rattle.transform.specs.Transform.{Stand, numbered, rule, clause_a, clause_b, clause_c, clause_d, rewritten, becomes, stand_ins, kappa_from, all_stand_ins, members}
use Rattle.epistemic.specs.Transform as theory

-- the members of the transformed program, W: 2m literals and their K, and one for each stand-in
abbrev pub vocabulary_size : ℕ → List Tagged → ℕ
vocabulary_size m P = m + m + length (stands P)

-- the theory's transform as words
unfoldable pub transformed : ℕ → List Tagged → List WordRule
transformed m P = map word_rule (program m P)

-- ---- the literals of a word

pub literals_unmask : (m w : ℕ) → m ≤ 64 → w < 2 ^ m → unmask m w ≡ literals w
unfolding unmask
literals_unmask m w h k = rising_ext (unmask m w) (literals w) (sift-rising (bit w) (below m) (below-rising m)) (bits_rising 64 0 w)
    (λ x i. let s = unmask_out m w x i in lit_in w x (omega (arith, s.0)) s.1)
    (λ x i. let s = lit_out w x i in unmask_in m w x (bit-small w m x k s.1) s.1)

no_naf_zero : (m w : ℕ) → w < 2 ^ m → no_naf (unmask m w) ≡ eqb w 0
unfolding mask
no_naf_zero m w h = go (unmask m w) refl
  where
    go : (l : List ℕ) → unmask m w ≡ l → no_naf l ≡ eqb w 0
    go [] e = let z : w ≡ 0 = sym (mask_unmask m w h) ∙ ap mask e in subst (λ v. true ≡ eqb v 0) (sym z) refl
    go (x ∷ l) e = holds (T? (eqb w 0))
      where
        holds : T (eqb w 0) ⊎ (T (eqb w 0) → ⊥) → false ≡ eqb w 0
        holds (inl t) = absurd (subst T (bit_zero x) (subst (λ v. T (bit v x)) (eqb→eq w 0 t) (unmask_out m w x (subst (λ (k : List ℕ). x ∈ k) (sym e) (inl refl))).1))
        holds (inr f) = sym (false_is (eqb w 0) f)
          where
            false_is : (b : Bool) → (T b → ⊥) → b ≡ false
            false_is true g = absurd (g tt)
            false_is false g = refl

-- ---- the numbering

numbered_is : (f : ℕ → ℕ) (l : List ℕ) (s : ℕ) → Rising l → ((x : ℕ) → x ∈ l → f x ≡ s + place ℕ_discrete x l) → numbered s l ≡ map (λ x. record { literal = x; at = f x }) l
unfolding numbered Rising
numbered_is f [] s r h = refl
numbered_is f (x ∷ l) s r h =
    let e : f x ≡ s = h x (inl refl) ∙ ap (λ k. s + k) (place_here ℕ_discrete x x l refl) ∙ omega arith in
    ap₂ (λ (p : Stand) (k : List Stand). p ∷ k) (ap (λ k. record { literal = x; at = k }) (sym e))
    (numbered_is f l (s + 1) r.1 (λ y i. h y (inr i) ∙ ap (λ k. s + k) (place_there ℕ_discrete y x l (λ q. let p = r.0 y i in omega arith)) ∙ omega arith))

-- ---- one clause

module _ (m : ℕ) (S : List Atom) (c : Tagged) where
  ν : Atom → ℕ
  ν = name m S

  st : ℕ → Stand
  st x = record { literal = x; at = name m S (stand c x) }

  word : Rule Atom → WordRule
  word r = word_rule (rename (name m S) r)

  map_words : (l : List (Rule Atom)) → map word_rule (map (rename (name m S)) l) ≡ map word l
  unfolding word
  map_words [] = refl
  map_words (r ∷ l) = ap (λ (k : List WordRule). word r ∷ k) (map_words l)

  map_id_lit : (l : List ℕ) → map (name m S) (map lit l) ≡ l
  unfolding name
  map_id_lit [] = refl
  map_id_lit (x ∷ l) = ap (λ (k : List ℕ). x ∷ k) (map_id_lit l)

  map-know : (l : List ℕ) → map (name m S) (map know l) ≡ map (λ n. m + n) l
  unfolding name
  map-know [] = refl
  map-know (x ∷ l) = ap (λ (k : List ℕ). (m + x) ∷ k) (map-know l)

  map-stand : (l : List ℕ) → map (name m S) (map (stand c) l) ≡ map (λ (p : Stand). p.at) (map st l)
  unfolding st
  map-stand [] = refl
  map-stand (x ∷ l) = ap (λ (k : List ℕ). name m S (stand c x) ∷ k) (map-stand l)

  is_a : word_rule (rename (name m S) (rule_a c)) ≡ clause_a m (map st c.head) c.naf c.body
  is_a = ap₂ (λ (h b : List ℕ). rule h b) (map-++ (name m S) (map (stand c) c.head) (map know c.naf) ∙ ap₂ (λ (x y : List ℕ). x ++ y) (map-stand c.head) (map-know c.naf))
      (map_id_lit c.body)

  is_b : (l : List ℕ) → map word (map (theory.rule_b c) l) ≡ map clause_b (map st l)
  unfolding word st name
  is_b [] = refl
  is_b (x ∷ l) = ap (λ (k : List WordRule). clause_b (st x) ∷ k) (is_b l)

  is_c1 : (x : ℕ) (l : List ℕ) → map word (map (theory.rule_c c x) l) ≡ map (clause_c (st x).at) l
  unfolding word st name
  is_c1 x [] = refl
  is_c1 x (n ∷ l) = ap (λ (k : List WordRule). clause_c (st x).at n ∷ k) (is_c1 x l)

  is_c : map word (rules_c c) ≡ flat_map (λ (p : Stand). map (clause_c p.at) c.naf) (map st c.head)
  is_c = map_flat_map word (λ x. map (theory.rule_c c x) c.naf) (λ x. map (clause_c (st x).at) c.naf) (λ x. is_c1 x c.naf) c.head
      ∙ sym (flat_map_map st (λ (p : Stand). map (clause_c p.at) c.naf) (λ x. map (clause_c (st x).at) c.naf) (λ x. refl) c.head)

  is_d1 : (x y : ℕ) → map word (cond (eqb x y) [] (theory.rule_d c x y ∷ [])) ≡ clause_d (st x) (st y)
  unfolding word st name
  is_d1 x y = map_cond word (eqb x y) [] (theory.rule_d c x y ∷ [])

  is_d : map word (rules_d c) ≡ flat_map (λ p. flat_map (clause_d p) (map st c.head)) (map st c.head)
  is_d = map_flat_map word (λ x. flat_map (λ y. cond (eqb x y) [] (theory.rule_d c x y ∷ [])) c.head) (λ x. flat_map (clause_d (st x)) (map st c.head))
      (λ x. map_flat_map word (λ y. cond (eqb x y) [] (theory.rule_d c x y ∷ [])) (λ y. clause_d (st x) (st y)) (λ y. is_d1 x y) c.head
      ∙ sym (flat_map_map st (clause_d (st x)) (λ y. clause_d (st x) (st y)) (λ y. refl) c.head)) c.head
      ∙ sym (flat_map_map st (λ p. flat_map (clause_d p) (map st c.head)) (λ x. flat_map (clause_d (st x)) (map st c.head)) (λ x. refl) c.head)

  is-naf : map word (kappa_naf c) ≡ rewritten m (map st c.head) c.naf c.body
  unfolding rewritten word
  is-naf = ap₂ (λ (r : WordRule) (k : List WordRule). r ∷ k) is_a (map-++ word (rules_b c) (rules_c c ++ rules_d c)
      ∙ ap₂ (λ (x y : List WordRule). x ++ y) (is_b c.head) (map-++ word (rules_c c) (rules_d c) ∙ ap₂ (λ (x y : List WordRule). x ++ y) is_c is_d))

  is_pos : map word (kappa_pos c) ≡ rule c.head c.body ∷ []
  unfolding word
  is_pos = ap₂ (λ (h b : List ℕ). rule h b ∷ []) (map_id_lit c.head) (map_id_lit c.body)

  is_of : map word (kappa_of c) ≡ cond (no_naf c.naf) (rule c.head c.body ∷ []) (rewritten m (map st c.head) c.naf c.body)
  unfolding kappa_of
  is_of = map_cond word (no_naf c.naf) (kappa_pos c) (kappa_naf c) ∙ ap₂ (λ (x y : List WordRule). cond (no_naf c.naf) x y) is_pos is-naf

-- ---- the program

slots_is : (c : Tagged) → slots_of c ≡ cond (no_naf c.naf) 0 (length c.head)
unfolding slots_of
slots_is c = refl

module _ (m : ℕ) (fits : m ≤ 64) (S : List Atom) where
  -- the stand-ins of the clauses from here on have the places from s on
  Placed : ℕ → List Tagged → Type 0
  Placed s P = (c : Tagged) → c ∈ P → T (not (no_naf c.naf)) → (x : ℕ) → x ∈ c.head → name m S (stand c x) ≡ s + place Atom_discrete (stand c x) (stands P)

  one : (t s : ℕ) (c : Clause) (C : List Clause) → Below m c → Placed s (tagged_of m t c ∷ tagged_from m (suc t) C)
      → becomes m s c ≡ map (word m S (tagged_of m t c)) (kappa_of (tagged_of m t c))
  unfolding becomes tagged_of Placed st
  one t s c C b h = sym (is_of m S (tagged_of m t c) ∙ go (no_naf (unmask m c.naf)) refl ∙ ap
      (λ (z : Bool). cond z (rule (literals c.head) (literals c.body) ∷ []) (rewritten m (numbered s (literals c.head)) (literals c.naf) (literals c.body)))
      (no_naf_zero m c.naf b.nafs))
    where
      H : unmask m c.head ≡ literals c.head
      H = literals_unmask m c.head fits b.heads

      B : unmask m c.body ≡ literals c.body
      B = literals_unmask m c.body fits b.bodies

      N : unmask m c.naf ≡ literals c.naf
      N = literals_unmask m c.naf fits b.nafs

      numbers : T (not (no_naf (unmask m c.naf))) → numbered s (literals c.head) ≡ map (st m S (tagged_of m t c)) (unmask m c.head)
      numbers t' = ap (numbered s) (sym H) ∙ numbered_is (λ x. name m S (stand (tagged_of m t c) x)) (unmask m c.head) s (subst Rising (sym H) (bits_rising 64 0 c.head))
          (λ x i. h (tagged_of m t c) (inl refl) t' x i ∙ ap (λ k. s + k) (slot_here (tagged_of m t c) (tagged_from m (suc t) C) t' x i))

      go : (z : Bool) → no_naf (unmask m c.naf) ≡ z
          → cond z (rule (unmask m c.head) (unmask m c.body) ∷ []) (rewritten m (map (st m S (tagged_of m t c)) (unmask m c.head)) (unmask m c.naf) (unmask m c.body))
          ≡ cond z (rule (literals c.head) (literals c.body) ∷ []) (rewritten m (numbered s (literals c.head)) (literals c.naf) (literals c.body))
      go true e = ap₂ (λ (x y : List ℕ). rule x y ∷ []) H B
      go false e = ap (λ (k : List Stand). rewritten m k (unmask m c.naf) (unmask m c.body)) (sym (numbers (subst (λ (z : Bool). T (not z)) (sym e) tt)))
          ∙ ap₂ (λ (x y : List ℕ). rewritten m (numbered s (literals c.head)) x y) N B

  slots_are : (t : ℕ) (c : Clause) → Below m c → slots_of (tagged_of m t c) ≡ stand_ins c
  unfolding tagged_of stand_ins
  slots_are t c b = slots_is (tagged_of m t c) ∙ ap₂ (λ (z : Bool) (k : List ℕ). cond z 0 (length k)) (no_naf_zero m c.naf b.nafs) (literals_unmask m c.head fits b.heads)

  tags : (t : ℕ) (C : List Clause) (e : Tagged) → e ∈ tagged_from m t C → t ≤ e.tag
  unfolding tagged_from tagged_of
  tags t [] e i = absurd i
  tags t (c ∷ C) e (inl q) = omega (arith, ap (λ (z : Tagged). z.tag) q)
  tags t (c ∷ C) e (inr i) = let h = tags (suc t) C e i in omega arith

  all : (C : List Clause) (t s : ℕ) → Each (Below m) C → Placed s (tagged_from m t C) → kappa_from m s C ≡ map word_rule (map (rename (name m S)) (kappa (tagged_from m t C)))
  unfolding kappa_from tagged_from tagged_of kappa flat_map Placed
  all [] t s b h = refl
  all (c ∷ C) t s b h =
      ap₂ (λ (x y : List WordRule). x ++ y)
      (one t s c C (b c (inl refl)) h ∙ sym (map_words m S (tagged_of m t c) (kappa_of (tagged_of m t c))))
      (ap (λ k. kappa_from m k C) (ap (λ k. s + k) (sym (slots_are t c (b c (inl refl)))))
      ∙ all C (suc t) (s + slots_of (tagged_of m t c)) (λ x i. b x (inr i)) (λ e i n x k.
      h e (inr i) n x k ∙ ap (λ j. s + j) (slot_there (tagged_of m t c) e (tagged_from m (suc t) C) (λ q. let g = tags (suc t) C e i in tag_not t c e q g) x) ∙ sym
      (add_assoc s (slots_of (tagged_of m t c)) (place Atom_discrete (stand e x) (stands (tagged_from m (suc t) C))))))
      ∙ sym (map-++ word_rule (map (rename (name m S)) (kappa_of (tagged_of m t c))) (map (rename (name m S)) (flat_map kappa_of (tagged_from m (suc t) C))))
      ∙ ap (map word_rule) (sym (map-++ (rename (name m S)) (kappa_of (tagged_of m t c)) (flat_map kappa_of (tagged_from m (suc t) C))))
    where
      tag_not : (t : ℕ) (c : Clause) (e : Tagged) → e.tag ≡ (tagged_of m t c).tag → suc t ≤ e.tag → ⊥
      tag_not t c e q g = omega arith

counted : (m : ℕ) (fits : m ≤ 64) (C : List Clause) (t : ℕ) → Each (Below m) C → length (stands (tagged_from m t C)) ≡ all_stand_ins C
unfolding tagged_from stands flat_map all_stand_ins
counted m fits [] t b = refl
counted m fits (c ∷ C) t b = length-append (cond (no_naf (tagged_of m t c).naf) [] (map (stand (tagged_of m t c)) (tagged_of m t c).head)) (stands (tagged_from m (suc t) C))
    ∙ ap₂ (λ x y. x + y) (slots (no_naf (tagged_of m t c).naf) ∙ sym (slots_is (tagged_of m t c)) ∙ slots_are m fits [] t c (b c (inl refl))) (counted m fits C (suc t) (λ x i. b x (inr i)))
  where
    slots : (z : Bool) → length (cond z [] (map (stand (tagged_of m t c)) (tagged_of m t c).head)) ≡ cond z 0 (length (tagged_of m t c).head)
    slots true = refl
    slots false = length-map (tagged_of m t c).head (stand (tagged_of m t c))

-- the transform is the theory's
pub kappa_is : (m : ℕ) (C : List Clause) → m ≤ 64 → Each (Below m) C → kappa_from m (m + m) C ≡ transformed m (tagged_from m 0 C)
unfolding transformed program name Placed
kappa_is m C fits b = all m fits (stands (tagged_from m 0 C)) C 0 (m + m) b (λ c i n x k. refl)

-- and W counts its members
pub members_are : (m : ℕ) (C : List Clause) → m ≤ 64 → Each (Below m) C → vocabulary_size m (tagged_from m 0 C) ≡ members m C
unfolding members
members_are m C fits b = ap (λ k. m + m + k) (go C 0 b)
  where
    go : (C : List Clause) (t : ℕ) → Each (Below m) C → length (stands (tagged_from m t C)) ≡ all_stand_ins C
    go C t b = counted m fits C t b
