-- `search_rows::pack` meets its contract: each column stands in its part of the array. Assumes nothing.
use borrow.Author.Rules.{rules}
use borrow.Rule.Slice.PartMut.{put_mid}
use lib.ListN.{length, get_or, drop, replicate}
use mathlib.Core.List.{List, ◌++◌}
use mathlib.Core.Path.{◌≡◌, refl, ap, ap₂, ◌∙◌}
use Rattle.program.specs.Clauses.{Clause, clause_of}
use native.Mathlib.Omega.{arith}
use Prim.Native.Nat.{ℕ, ◌+◌, ◌≤◌, ◌<◌}
use Rattle.std.proofs.lemmas.List.{places}
use Rattle.leaf.specs.Packed.{Packs}
use Rattle.search_rows.proofs.pack.Goals as goal

-- three lists of m words, the second and the third written over what was there, at m and at q
module _ (m q : ℕ) (ws xs ys t : List ℕ) (f : q ≡ m + m) (a : length ws ≡ m) (b : length xs ≡ m) (c : length ys ≡ m) where
  first : (i : ℕ) → i < m → get_or (put_mid q m (put_mid m m (ws ++ drop m t) xs) ys) i 0 ≡ get_or ws i 0
  first i l = search (rules, places)

  second : (i : ℕ) → i < m → get_or (put_mid q m (put_mid m m (ws ++ drop m t) xs) ys) (m + i) 0 ≡ get_or xs i 0
  second i l = search (rules, places)

  third : (i : ℕ) → i < m → get_or (put_mid q m (put_mid m m (ws ++ drop m t) xs) ys) (q + i) 0 ≡ get_or ys i 0
  third i l = search (rules, places)

  room : q + m ≤ length t → q + m ≤ length (put_mid m m (ws ++ drop m t) xs)
  room h = search (rules, places)

copied : (hs bs ns t ws xs ys : List ℕ) → length hs ≡ 64 → length bs ≡ 64 → length ns ≡ 64 → ws ≡ hs → xs ≡ bs → ys ≡ ns
    → Packs hs bs ns (put_mid 128 64 (put_mid 64 64 (ws ++ drop 64 t) xs) ys)
copied hs bs ns t ws xs ys h b n e f g = record {
  same = λ i l.
      let a : length ws ≡ 64 = ap length e ∙ h in
      let c : length xs ≡ 64 = ap length f ∙ b in
      let d : length ys ≡ 64 = ap length g ∙ n in
      let x = first 64 128 ws xs ys t refl a c d i l ∙ ap (λ (s : List ℕ). get_or s i 0) e in
      let y = second 64 128 ws xs ys t refl a c d i l ∙ ap (λ (s : List ℕ). get_or s i 0) f in
      let z = third 64 128 ws xs ys t refl a c d i l ∙ ap (λ (s : List ℕ). get_or s i 0) g in
      ap₂ (λ (k : ℕ → Clause) (v : ℕ). k v) (ap₂ (λ (u v : ℕ). clause_of u v) x y) z;
}

long : (hs bs ws xs : List ℕ) → length hs ≡ 64 → length bs ≡ 64 → ws ≡ hs → xs ≡ bs → 192 ≤ length (put_mid 64 64 (ws ++ drop 64 (replicate 192 0)) xs)
long hs bs ws xs h b e f =
    let a : length ws ≡ 64 = ap length e ∙ h in
    room 64 128 ws xs ws (replicate 192 0) refl a (ap length f ∙ b) a (omega arith)

pub slice_bounds-table-end-3 : goal.slice_bounds-table-end-3
slice_bounds-table-end-3 c = search long

pub returns : goal.returns
returns c = search copied
