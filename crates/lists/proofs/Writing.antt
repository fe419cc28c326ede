-- A text that is written from the front, piece by piece. Assumes nothing.
use mathlib.Core.Path.{◌≡◌, refl, sym, ap, ap₂, ◌∙◌}
use mathlib.Core.List.{List, [], ◌∷◌, ◌++◌, append_assoc, append-nil}
use Prim.Native.Nat.{ℕ, ◌+◌, ◌-◌, ◌≤◌, ◌<◌}
use native.Mathlib.Nat.{zero-add}
use native.Mathlib.Numerals.{add-one}
use native.Mathlib.Omega.{arith}
use Rattle.lists.specs.Bytes.{over, Wrote}
use Rattle.lists.proofs.Loops.{ahead, at_end}
use lib.ListN.{length, get_or, take, drop, set, length-append, length-drop, length-set, drop_of_length-le}
use lib.Seq.{take_all, length-take-le, drop-drop, take_at, drop-append-add, take-add, take-append_seam, drop-append_seam, set_split}

-- the bytes ys over xs from a on
abbrev pub written : List ℕ → ℕ → List ℕ → List ℕ
written xs a ys = take a xs ++ (ys ++ drop (a + length ys) xs)

-- the first at bytes of the text L stand in out, which held xs; what is left of L is rest
pub record Put (xs L : List ℕ) (at : ℕ) (out rest : List ℕ) : Type 0 where
  pub whole : out ≡ take at L ++ drop at xs
  pub left : drop at L ≡ rest
  pub within : at ≤ length L
  pub fits : length L ≤ length xs

-- a part that starts at a was lent, and came back with ys over its front
pub part_back : (xs ys zs : List ℕ) (a : ℕ) → a ≤ length xs → zs ≡ over ys (take (length xs - a) (drop a xs))
    → take a xs ++ (zs ++ drop (length xs - a) (drop a xs)) ≡ written xs a ys
part_back xs ys zs a h e =
    let none : drop (length xs - a) (drop a xs) ≡ [] = drop-drop (length xs - a) a xs ∙ drop_of_length-le xs {i = a + (length xs - a)} (omega arith) in
    let all : take (length xs - a) (drop a xs) ≡ drop a xs = take_all (length xs - a) (drop a xs) (omega (arith, length-drop a xs)) in
    ap (λ (l : List ℕ). take a xs ++ l)
    (ap (λ (l : List ℕ). zs ++ l) none ∙ append-nil zs ∙ e ∙ ap (λ (l : List ℕ). ys ++ drop (length ys) l) all ∙ ap (λ (l : List ℕ). ys ++ l) (drop-drop (length ys) a xs))

module _ (xs L : List ℕ) where
  pub put_start : length L ≤ length xs → Put xs L 0 xs L
  put_start h = record { whole = refl; left = refl; within = omega arith; fits = h }

  module _ (at : ℕ) (out : List ℕ) where
    front : Put xs L at out (drop at L) → length (take at L) ≡ at
    front s = length-take-le at L s.within

    pub put_long : (r : List ℕ) → Put xs L at out r → length out ≡ length xs
    put_long r s = ap length s.whole ∙ length-append (take at L) (drop at xs) ∙ omega (arith, length-take-le at L s.within, length-drop at xs, s.fits)

    pub put_room : (t r : List ℕ) → Put xs L at out (t ++ r) → at + length t ≤ length L
    put_room t r s = omega (arith, length-drop at L, ap length s.left, length-append t r, s.within)

    -- the next piece of the text is written behind what stands there
    pub put_step : (t r out' : List ℕ) → Put xs L at out (t ++ r) → out' ≡ written out at t → Put xs L (at + length t) out' r
    put_step t r out' s e =
        let len : length (take at L) ≡ at = length-take-le at L s.within in
        let a : take at out ≡ take at L = ap (take at) s.whole ∙ take_at (take at L) (drop at xs) at len in
        let b : drop (at + length t) out ≡ drop (at + length t) xs =
        ap (drop (at + length t)) s.whole ∙ ap (λ (k : ℕ). drop (k + length t) (take at L ++ drop at xs)) (sym len)
        ∙ drop-append-add (take at L) (drop at xs) (length t) ∙ drop-drop (length t) at xs in
        let f : take (at + length t) L ≡ take at L ++ t =
        take-add at (length t) L ∙ ap (λ (l : List ℕ). take at L ++ take (length t) l) s.left ∙ ap (λ (l : List ℕ). take at L ++ l) (take-append_seam t r) in
        record {
          whole = e ∙ ap₂ (λ (l m : List ℕ). l ++ (t ++ m)) a b ∙ sym (append_assoc (take at L) t (drop (at + length t) xs)) ∙ ap (λ (l : List ℕ). l ++ drop (at + length t) xs) (sym f);
          left = sym (drop-drop (length t) at L) ∙ ap (drop (length t)) s.left ∙ drop-append_seam t r;
          within = put_room t r s;
          fits = s.fits;
        }

    -- the next byte
    pub put_byte : (b : ℕ) (r : List ℕ) → Put xs L at out (b ∷ r) → Put xs L (at + 1) (set out at b) r
    put_byte b r s =
        let h : at < length out = omega (arith, put_room (b ∷ []) r s, put_long (b ∷ r) s, s.fits) in
        put_step (b ∷ []) r (set out at b) s (set_split out at b h ∙ ap (λ (k : ℕ). take at out ++ (b ∷ drop k out)) (sym (add-one at)))

    pub put_done : Put xs L at out [] → Wrote L xs at out
    put_done s =
        let e : at ≡ length L = omega (arith, length-drop at L, ap length s.left, s.within) in
        record { size = e; whole = s.whole ∙ ap₂ (λ (k l : ℕ). take k L ++ drop l xs) e e ∙ ap (λ (l : List ℕ). l ++ drop (length L) xs) (take_all (length L) L (omega arith)) }

    -- what is left, in other words
    pub put_as : (r r' : List ℕ) → Put xs L at out r → r ≡ r' → Put xs L at out r'
    put_as r r' s e = record { whole = s.whole; left = s.left ∙ e; within = s.within; fits = s.fits }

-- the list out after a part of it from at on came back as ws
abbrev pub back : List ℕ → ℕ → List ℕ → List ℕ
back out at ws = take at out ++ (ws ++ drop (length out - at) (drop at out))

-- a text that was written is the first part of a longer one
pub wrote_put : (xs t u ys : List ℕ) (a : ℕ) → length (t ++ u) ≤ length xs → Wrote t xs a ys → Put xs (t ++ u) a ys u
wrote_put xs t u ys a l v =
    let p : Put xs (t ++ u) (length t) ys u =
    rw (← zero-add (length t)) (put_step xs (t ++ u) 0 xs t u ys (put_start xs (t ++ u) l) (v.whole ∙ ap (λ (m : ℕ). t ++ drop m xs) (sym (zero-add (length t))))) in
    rw v.size p

-- one text, and another behind it
pub two_texts : (xs t u : List ℕ) (a b : ℕ) (ys ws : List ℕ) → length (t ++ u) ≤ length xs → Wrote t xs a ys → Wrote u (take (length ys - a) (drop a ys)) b ws
    → Wrote (t ++ u) xs (a + b) (back ys a ws)
two_texts xs t u a b ys ws l v w =
    let L = t ++ u in
    let q : Put xs L a ys (u ++ []) = rw append-nil (wrote_put xs t u ys a l v) in
    let r = put_step xs L a ys u [] (back ys a ws) q
    (part_back ys u ws a (omega (arith, put_room xs L a ys u [] q, q.fits, put_long xs L a ys (u ++ []) q)) w.whole) in
    put_done xs L (a + b) (back ys a ws) (rw w.size r)

-- ---- a loop that copies a list
module _ (xs s : List ℕ) where
  pub record Copied (i : ℕ) (out : List ℕ) : Type 0 where
    pub long : length out ≡ length xs
    pub put : Put xs s i out (drop i s)

  pub copy_start : length s ≤ length xs → Copied 0 xs
  copy_start h = record { long = refl; put = put_start xs s h }

  pub copy_more : (i : ℕ) (out : List ℕ) → Copied i out → i < length s → Copied (i + 1) (set out i (get_or s i 0))
  copy_more i out c h = record { long = length-set out i (get_or s i 0) ∙ c.long; put = put_byte xs s i out (get_or s i 0) (drop (i + 1) s) (put_as xs s i out _ _ c.put (ahead s i h)) }

  pub copy_done : (i : ℕ) (out : List ℕ) → Copied i out → length s ≤ i → Wrote s xs i out
  copy_done i out c h = put_done xs s i out (put_as xs s i out _ _ c.put (at_end s i h))

  pub copy_room : (i : ℕ) (out : List ℕ) → Copied i out → i < length s → i < length out
  copy_room i out c h = omega (arith, c.put.fits, c.long)
