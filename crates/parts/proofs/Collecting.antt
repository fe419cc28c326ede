-- Laws of the literal parts, collected and written. Assumes nothing.
use Prim.Native.Nat.{ℕ, suc, ◌+◌, ◌-◌, ◌*◌, ◌/◌, ◌%◌, ◌^◌, ◌≤◌, ◌<◌, min}
use lib.Bits.{bit_and, and_mask}
use lib.Dec.{eqb, lit<}
use lib.ListN.{length, get_or, take, drop, set, length-set, drop_of_length-le, length-map, length-take}
use lib.Pow.{shl_exact, pow_pos, pow_mono}
use lib.Seq.{drop-cons, length-take-le, get_or-take, take_all, take-suc, set_at}
use mathlib.Core.Bool.{Bool, true, false, cond}
use mathlib.Core.List.{List, [], ◌∷◌, ◌++◌, map, append_assoc}
use mathlib.Core.Logic.{⊎_elim}
use mathlib.Core.Path.{◌≡◌, refl, sym, ap, ap₂, ◌∙◌, subst}
use native.Mathlib.Nat.{one-mul, mod-lt, lt_of_lt_of_le}
use native.Mathlib.Numerals.{add-one}
use native.Mathlib.Omega.{arith}
use Rattle.transform.specs.Listing.{literal_part, canonical, parts_of}
use Rattle.parts.specs.Overwriting.{overwrite, Overwrites}
use Rattle.sets.proofs.Lists.{at_in, map_in}
use Rattle.sets.proofs.Tests.{lt_or_ge}
use Rattle.sets.specs.Lists.{◌∈◌, Each, sift}
use Rattle.sets.specs.Words.{inside}
use Rattle.rising.proofs.Growing.{Growing, no_runs, held_none, grow_start, grow_call, grow_done}
use Rattle.rising.specs.Growing.{held, Runs, Gathered, Settled}
use Rattle.rising.proofs.RisingSets.{in_add_all}
use Rattle.minimal.proofs.Selecting.{sift_one, sift_none, sift_short, one_more, no_more}
use Rattle.rising.proofs.Slices.{size_fits}
use Rattle.rising.specs.RisingSets.{insert_into, add_all}
use Rattle.rising.specs.Slices.{Prefix}

pub low_is : (w m : ℕ) → m < 64 → bit_and w (1 * 2 ^ m % 2 ^ 64 - 1) ≡ literal_part m w
low_is w m h = ap (λ (x : ℕ). bit_and w (x - 1)) (shl_exact 1 m 64 (lit< tt) (omega arith) ∙ one-mul (2 ^ m)) ∙ and_mask w m

pub low_one : (m : ℕ) → m < 64 → 1 ≤ 1 * 2 ^ m % 2 ^ 64
low_one m h = let p = pow_pos m in omega (arith, shl_exact 1 m 64 (lit< tt) (omega arith) ∙ one-mul (2 ^ m))

pub canonical_is : (w m x y : ℕ) (b : Bool) → x ≡ literal_part m (w / 2 ^ m) → y ≡ literal_part m w → b ≡ inside x y → b ≡ canonical m w
unfolding canonical
canonical_is w m x y b e f g = g ∙ ap₂ inside e f

-- ---- the literal parts as a set

insert_shorter : (x : ℕ) (l : List ℕ) → length (insert_into x l) ≤ suc (length l)
unfolding insert_into
insert_shorter x [] = omega arith
insert_shorter x (y ∷ l) = go (lib.Dec.ltb x y) (eqb x y) (insert_shorter x l)
  where
    go : (a b : Bool) → length (insert_into x l) ≤ suc (length l) → length (cond a (x ∷ y ∷ l) (cond b (y ∷ l) (y ∷ insert_into x l))) ≤ suc (suc (length l))
    go true b h = omega arith
    go false true h = omega arith
    go false false h = omega arith

add-shorter : (xs l : List ℕ) → length (add_all xs l) ≤ length xs + length l
unfolding add_all
add-shorter [] l = omega arith
add-shorter (x ∷ xs) l = let a = add-shorter xs (insert_into x l) in let b = insert_shorter x l in omega arith

pub parts_few : (m : ℕ) (l : List ℕ) (count : ℕ) → length (parts_of m (take count l)) ≤ count
parts_few m l count =
    let a = add-shorter (map (literal_part m) (sift (canonical m) (take count l))) [] in
    let b = length-map (sift (canonical m) (take count l)) (literal_part m) in
    let d = sift_short (canonical m) (take count l) in
    omega (arith, length-take count l)

pub record Collecting (m : ℕ) (l : List ℕ) (count : ℕ) (xs ys : List ℕ) (n p : ℕ) : Type 0 where
  pub inside : count ≤ length l
  pub room : count ≤ length xs
  pub bits : m < 64
  pub within : p ≤ count
  pub grows : Growing (length xs) (parts_of m (take count l)) (map (literal_part m) (sift (canonical m) (drop p (take count l)))) ys n

module _ (m : ℕ) (l : List ℕ) (count : ℕ) (xs : List ℕ) where
  pub collecting_start : (count ≤ length l) × (count ≤ length xs) × (m < 64) → Collecting m l count xs xs 0 0
  collecting_start h = record {
    inside = h.0;
    room = h.1;
    bits = h.2;
    within = omega arith;
    grows = subst (λ (k : List ℕ). Growing (length xs) (add_all (map (literal_part m) (sift (canonical m) (take count l))) k) (map (literal_part m) (sift (canonical m) (take count l))) xs 0)
        (held_none xs) (grow_start xs (map (literal_part m) (sift (canonical m) (take count l))) 0 (omega arith) (no_runs xs));
  }

  module _ (ys : List ℕ) (n p : ℕ) (s : Collecting m l count xs ys n p) where
    pub collecting_fits : n ≤ length ys
    collecting_fits = go (native.Mathlib.Decide.dec_le n (length xs))
      where
        go : Dec (n ≤ length xs) → n ≤ length ys
        go (yes h) = omega (arith, s.grows.long)
        go (no h) = absurd (let o = s.grows.over (omega (arith, h)) in omega (arith, parts_few m l count, s.room))

    pub collecting_pre : (n ≤ length ys) × Runs n ys
    collecting_pre = (collecting_fits, s.grows.runs (omega (arith, collecting_fits, s.grows.long)))

    pub collecting_long : length ys ≡ length xs
    collecting_long = s.grows.long

    part : p < count → sift (canonical m) (drop p (take count l)) ≡ cond (canonical m (get_or l p 0)) (get_or l p 0 ∷ sift (canonical m) (drop (p + 1) (take count l)))
        (sift (canonical m) (drop (p + 1) (take count l)))
    part h = ap (sift (canonical m)) (one_more l count p s.inside h) ∙ sift_one (canonical m) (get_or l p 0) (drop (p + 1) (take count l))

    pub collecting_skip : (b : Bool) → p < count → b ≡ canonical m (get_or l p 0) → b ≡ false → Collecting m l count xs ys n (p + 1)
    collecting_skip b h e y = record {
      inside = s.inside;
      room = s.room;
      bits = s.bits;
      within = omega arith;
      grows = subst (λ (k : List ℕ). Growing (length xs) (parts_of m (take count l)) (map (literal_part m) k) ys n)
          (part h ∙ ap (λ (x : Bool). cond x (get_or l p 0 ∷ sift (canonical m) (drop (p + 1) (take count l))) (sift (canonical m) (drop (p + 1) (take count l)))) (sym e ∙ y)) s.grows;
    }

    pub collecting_keep : (b : Bool) (x r : ℕ) (out : List ℕ) → p < count → b ≡ canonical m (get_or l p 0) → b ≡ true → x ≡ literal_part m (get_or l p 0)
        → Gathered (length ys) (insert_into x (held n ys)) out r → Collecting m l count xs out r (p + 1)
    unfolding add_all
    collecting_keep b x r out h e y v g = record {
      inside = s.inside;
      room = s.room;
      bits = s.bits;
      within = omega arith;
      grows = grow_call (length xs) (parts_of m (take count l)) (x ∷ []) (map (literal_part m) (sift (canonical m) (drop p (take count l))))
          (map (literal_part m) (sift (canonical m) (drop (p + 1) (take count l)))) ys out n r s.grows
          (ap (map (literal_part m)) (part h ∙ ap (λ (z : Bool). cond z (get_or l p 0 ∷ sift (canonical m) (drop (p + 1) (take count l))) (sift (canonical m) (drop (p + 1) (take count l)))) (sym e ∙ y))
          ∙ ap (λ (z : ℕ). z ∷ map (literal_part m) (sift (canonical m) (drop (p + 1) (take count l)))) (sym v))
          (omega (arith, collecting_fits, s.grows.long)) g;
    }

    pub collecting_done : (out : List ℕ) → count ≤ p → Settled ys n out → Prefix (parts_of m (take count l)) out n
    collecting_done out h o =
        let d = grow_done (length xs) (parts_of m (take count l)) (map (literal_part m) (sift (canonical m) (drop p (take count l)))) ys n s.grows
        (ap (map (literal_part m)) (ap (sift (canonical m)) (no_more l count p s.inside h) ∙ sift_none (canonical m))) in
        let f : length (parts_of m (take count l)) ≤ length xs = omega (arith, parts_few m l count, s.room) in
        let q = d.count ∙ size_fits (length xs) (parts_of m (take count l)) f in
        record { count = q; words = o.words ∙ d.words f }

-- ---- the list written

pub record Writing (ws : List ℕ) (count : ℕ) (xs ys : List ℕ) (p : ℕ) : Type 0 where
  pub inside : count ≤ length ws
  pub small : Each (λ x. x < 2 ^ 32) (take count ws)
  pub within : p ≤ count
  pub room : p ≤ length xs
  pub long : length ys ≡ length xs
  pub whole : ys ≡ take p (take count ws) ++ drop p xs

module _ (ws : List ℕ) (count : ℕ) (xs : List ℕ) where
  pub writing_start : (count ≤ length ws) × Each (λ x. x < 2 ^ 32) (take count ws) → Writing ws count xs xs 0
  writing_start h = record { inside = h.0; small = h.1; within = omega arith; room = omega arith; long = refl; whole = refl }

  module _ (ys : List ℕ) (p : ℕ) (s : Writing ws count xs ys p) where
    len : length (take count ws) ≡ count
    len = length-take-le count ws s.inside

    pub writing_small : (n : ℕ) → n ≡ min count (length xs) → p < n → get_or ws p 0 < 2 ^ 32
    writing_small n e l = let h : p < count = omega arith in subst (λ (x : ℕ). x < 2 ^ 32) (get_or-take count ws p 0 h) (s.small (get_or (take count ws) p 0) (at_in (take count ws) 0 p (omega (arith, len))))

    pub writing_there : (n : ℕ) → n ≡ min count (length xs) → p < n → p < length ys
    writing_there n e l = omega (arith, s.long)

    pub writing_next : (n x : ℕ) → n ≡ min count (length xs) → p < n → x ≡ get_or ws p 0 → Writing ws count xs (set ys p x) (p + 1)
    writing_next n x f l e =
        let h : p < count = omega arith in
        let k : p < length xs = omega arith in
        let a : length (take p (take count ws)) ≡ p = length-take-le p (take count ws) (omega (arith, len)) in
        record {
          inside = s.inside;
          small = s.small;
          within = omega arith;
          room = omega arith;
          long = length-set ys p x ∙ s.long;
          whole = ap₂ (λ (l : List ℕ) (v : ℕ). set l p v) (s.whole ∙ ap (λ (l : List ℕ). take p (take count ws) ++ l) (drop-cons xs p 0 k)) (e ∙ sym (get_or-take count ws p 0 h))
              ∙ set_at (take p (take count ws)) (get_or xs p 0) (drop (suc p) xs) (get_or (take count ws) p 0) p a
              ∙ sym (append_assoc (take p (take count ws)) (get_or (take count ws) p 0 ∷ []) (drop (suc p) xs))
              ∙ ap (λ (l : List ℕ). l ++ drop (suc p) xs) (sym (take-suc (take count ws) p 0 (omega (arith, len))))
              ∙ ap (λ (i : ℕ). take i (take count ws) ++ drop i xs) (sym (add-one p));
        }

    writing_full : p < count → p ≡ length ys → ys ≡ overwrite xs (take count ws)
    unfolding overwrite
    writing_full h e =
        let k : p ≡ length xs = e ∙ s.long in
        s.whole ∙ ap₂ (λ (u v : List ℕ). u ++ v) (ap (λ (i : ℕ). take i (take count ws)) k)
        (drop_of_length-le xs {i = p} (omega arith) ∙ sym (drop_of_length-le xs {i = length (take count ws)} (omega (arith, len))))

    writing_done : count ≤ p → ys ≡ overwrite xs (take count ws)
    unfolding overwrite
    writing_done h =
        let k : p ≡ length (take count ws) = omega (arith, len, s.within) in
        s.whole ∙ ap₂ (λ (u v : List ℕ). u ++ v)
        (take_all p (take count ws) (omega arith) ∙ sym (take_all (length xs) (take count ws) (omega (arith, s.room)))) (ap (λ (i : ℕ). drop i xs) k)

    pub writing_end : (n : ℕ) → n ≡ min count (length xs) → n ≤ p → ys ≡ overwrite xs (take count ws)
    writing_end n e l = ⊎_elim (λ (h : p < count). writing_full h (omega (arith, s.room, s.long))) writing_done (lt_or_ge p count)

-- ---- the literal parts, listed

pub parts_fit : (m : ℕ) (l out xs : List ℕ) (count k : ℕ) → Prefix (parts_of m (take count l)) out k → count ≤ length xs → length out ≡ length xs → k ≤ length out
parts_fit m l out xs count k g h e = omega (arith, parts_few m l count, g.count)

-- they are words of the list
pub small_parts : (m : ℕ) (l out : List ℕ) (k : ℕ) → Prefix (parts_of m l) out k → m ≤ 32 → Each (λ x. x < 2 ^ 32) (take k out)
small_parts m l out k g h x i = ⊎_elim
    (λ j. let s = map_in (literal_part m) x (sift (canonical m) l) j in
    lt_of_lt_of_le (subst (λ z. z < 2 ^ m) (sym s.2) (mod-lt s.0 (pow_pos m))) (pow_mono h))
    (λ b. absurd b) (in_add_all x _ [] (subst (λ (z : List ℕ). x ∈ z) g.words i))

pub overwrites : (l out : List ℕ) (k : ℕ) (xs xs' : List ℕ) → Prefix l out k → xs' ≡ overwrite xs (take k out) → Overwrites l xs xs' k
overwrites l out k xs xs' g e = record { count = g.count; exit = e ∙ ap (overwrite xs) g.words }
