-- The numbers on a line, put into a row one after another. Assumes nothing.
use mathlib.Core.Path.{◌≡◌, refl, sym, ap, ap₂, ◌∙◌}
use mathlib.Core.List.{List, [], ◌∷◌, ◌++◌, map, map-append}
use Prim.Native.Nat.{ℕ, zero, suc, ◌+◌, ◌≤◌, ◌<◌}
use native.Mathlib.Omega.{arith}
use lib.ListN.{length, get_or, take, set, replicate, length-append, length-set, length-map}
use Rattle.lists.specs.Bytes.{pieces}
use Rattle.std.proofs.Common.{Option, Some, None}
use Rattle.decimal.specs.Decimal.{parsed_of}
use Rattle.decimal.proofs.Laws.{parsed_number, parsed_nothing}
use Rattle.text.specs.Lines.{value_of, row}
use Rattle.text_row.specs.Rows.{first, row_of}

-- ---- the number of an item, from what was parsed
pub value_small : (bound : ℕ) (p : Option ℕ) (s : List ℕ) (v : ℕ) → p ≡ parsed_of bound s → p ≡ Some v → v ≤ bound
value_small bound p s v e h = (parsed_number bound s v (sym h ∙ e)).1

module _ (p : Option ℕ) (s : List ℕ) (e : p ≡ parsed_of 65535 s) where
  pub value_is : (v : ℕ) → p ≡ Some v → v ≡ value_of s
  unfolding value_of
  value_is v h = (parsed_number 65535 s v (sym h ∙ e)).0

  pub value_none : p ≡ None → 65536 ≡ value_of s
  unfolding value_of
  value_none h = parsed_nothing 65535 s (sym h ∙ e)

-- ---- the first n of a row
first_more : (n : ℕ) (ds : List ℕ) (v : ℕ) → set (first n ds) (length ds) v ≡ first n (ds ++ v ∷ [])
unfolding first
first_more zero ds v = refl
first_more (suc n) [] v = refl
first_more (suc n) (d ∷ ds) v = ap (λ (l : List ℕ). d ∷ l) (first_more n ds v)

pub first_take : (m n : ℕ) (vs : List ℕ) → m ≤ n → take m (first n vs) ≡ first m vs
unfolding first
first_take zero n vs h = refl
first_take (suc m) zero vs h = absurd (omega arith)
first_take (suc m) (suc n) vs h = rw (first_take m n _ (omega arith))

pub first_front : (n : ℕ) (vs : List ℕ) → n ≤ length vs → first n vs ≡ take n vs
unfolding first
first_front zero vs h = refl
first_front (suc n) [] h = absurd (omega arith)
first_front (suc n) (v ∷ vs) h = ap (λ (l : List ℕ). v ∷ l) (first_front n vs (omega arith))

pub first_at : (n : ℕ) (vs : List ℕ) (j : ℕ) → j < n → get_or (first n vs) j 0 ≡ get_or vs j 0
unfolding first
first_at zero vs j h = absurd (omega arith)
first_at (suc n) vs zero h = refl
first_at (suc n) [] (suc j) h = first_at n [] j (omega arith)
first_at (suc n) (v ∷ vs) (suc j) h = first_at n vs j (omega arith)

-- ---- the items so far are done
pub record Rowed (items : List (List ℕ)) (i : ℕ) (values : List ℕ) : Type 0 where
  pub long : length values ≡ 14
  pub count : i ≡ length items
  pub put : values ≡ first 14 (map value_of items)

pub row_start : Rowed [] 0 (replicate 14 0)
unfolding first
row_start = record { long = refl; count = refl; put = refl }

pub row_more : (items : List (List ℕ)) (i v : ℕ) (item values out : List ℕ) → Rowed items i values → v ≡ value_of item → out ≡ set values i v → Rowed (items ++ item ∷ []) (i + 1) out
row_more items i v item values out s f g = record {
  long = ap length g ∙ length-set values i v ∙ s.long;
  count = omega (arith, s.count, length-append items (item ∷ []));
  put = g ∙ ap₂ (λ (l : List ℕ) (k : ℕ). set l k v) s.put (s.count ∙ sym (length-map items value_of)) ∙ first_more 14 (map value_of items) v
      ∙ ap (first 14) (ap (λ (x : ℕ). map value_of items ++ x ∷ []) f ∙ sym (map-append value_of items (item ∷ [])));
}

pub row_done : (line : List ℕ) (items : List (List ℕ)) (i : ℕ) (values : List ℕ) → Rowed items i values → items ≡ pieces 32 line → record { count = i; values = values } ≡ row_of line
unfolding row_of row
row_done line items i values s e = rw (s.count, s.put, e, length-map (pieces 32 line) value_of)
