-- The names on a line, each put at the front of its place. Assumes nothing.
use mathlib.Core.Path.{◌≡◌, refl, sym, ap, ap₂, ◌∙◌}
use mathlib.Core.Bool.{true}
use mathlib.Core.List.{List, [], ◌∷◌, ◌++◌, flat_map, append_assoc, append-nil}
use Prim.Native.Nat.{ℕ, ◌+◌, ◌-◌, ◌*◌, ◌≤◌, ◌<◌}
use native.Mathlib.Numerals.{add-one}
use native.Mathlib.Omega.{arith}
use lib.Dec.{eqb}
use lib.ListN.{length, get_or, take, drop, replicate, drop_of_length-le, length-append, length-take, length-drop, length-replicate, replicate-append-replicate}
use lib.Seq.{take_at, drop_at, drop-cons, drop-drop}
use Rattle.std.specs.List.{slice_split}
use Rattle.sets.specs.Lists.{every}
use Rattle.sets.proofs.Tests.{both_true}
use Rattle.lists.specs.Bytes.{pieces, padded, Wrote}
use Rattle.lists.proofs.Writing.{part_back}
use Rattle.lists.proofs.Padding.{padded_long, over-padded}
use Rattle.program.specs.Names.{is_name}
use Rattle.table_names.proofs.Chains.{split_pieces}
use Rattle.text.specs.Tables.{placed}
use Rattle.text.proofs.Names.{name_short}

-- a name before zeros is the name in its place before the rest of them
padded_cut : (k : ℕ) (x : List ℕ) → length x ≤ 8 → padded (8 + k) x ≡ padded 8 x ++ replicate k 0
unfolding padded
padded_cut k x h =
    let e : 8 + k - length x ≡ (8 - length x) + k = omega arith in
    rw (e, ← replicate-append-replicate {A = ℕ} (8 - length x) k 0) (sym (append_assoc x (replicate (8 - length x) 0) (replicate k 0)))

long_put : (out front : List ℕ) (a : ℕ) → out ≡ front ++ replicate (96 - a) 0 → length front ≡ a → a ≤ 96 → length out ≡ 96
long_put out front a e l h = ap length e ∙ omega (arith, length-append front (replicate (96 - a) 0), length-replicate {A = ℕ} (96 - a) 0)

-- what a turn of the split gives
pub naming_turn : (line : List ℕ) (k : ℕ) (name : List ℕ)
    → (k < length (slice_split (λ b. eqb b 32) line)) × (name ≡ get_or (slice_split (λ b. eqb b 32) line) k name) → (k < length (pieces 32 line)) × (name ≡ get_or (pieces 32 line) k name)
naming_turn line k name t = rw (split_pieces 32 line) at t

module _ (xs line : List ℕ) where
  -- the places of the first k names stand in front, and zeros behind them; xs is what stood there before
  pub record Naming (k a : ℕ) (out : List ℕ) : Type 0 where
    pub size : length out ≡ length xs
    pub front : List ℕ
    pub long : length front ≡ a
    pub put : out ≡ front ++ replicate (96 - a) 0
    pub rest : front ++ placed (drop k (pieces 32 line)) ≡ placed (pieces 32 line)
    pub named : every is_name (drop k (pieces 32 line)) ≡ true
    pub room : a + 8 * length (drop k (pieces 32 line)) ≤ 96

  pub naming_start : every is_name (pieces 32 line) ≡ true → length (pieces 32 line) ≤ 12 → xs ≡ replicate 96 0 → Naming 0 0 xs
  naming_start h f z =
      record { size = refl; front = []; long = refl; put = z; rest = refl; named = h; room = omega arith }

  module _ (k a : ℕ) (name out : List ℕ) (s : Naming k a out) (h : k < length (pieces 32 line)) (q : name ≡ get_or (pieces 32 line) k name) where
    first : drop k (pieces 32 line) ≡ name ∷ drop (k + 1) (pieces 32 line)
    first = rw (add-one k) (drop-cons (pieces 32 line) k name h) ∙ ap (λ (n : List ℕ). n ∷ drop (k + 1) (pieces 32 line)) (sym q)

    named_here : (is_name name ≡ true) × (every is_name (drop (k + 1) (pieces 32 line)) ≡ true)
    unfolding every
    named_here = both_true _ _ (sym (ap (every is_name) first) ∙ s.named)

    short : length name ≤ 8
    short = name_short name named_here.0

    long_out : length out ≡ 96
    long_out = long_put out s.front a s.put s.long (omega (arith, s.room))

    roomy : a + 8 ≤ 96
    roomy = omega (arith, s.room, ap length first)

    pub naming_from : a ≤ length out
    naming_from = omega (arith, long_out, roomy)

    pub naming_room : length name ≤ length (take (length out - a) (drop a out))
    naming_room = omega (arith, length-take (length out - a) (drop a out), length-drop a out, long_out, roomy, short)

    pub naming_more : (r : ℕ) (ws : List ℕ) → Wrote name (take (length out - a) (drop a out)) r ws
        → Naming (k + 1) (a + 8) (take a out ++ (ws ++ drop (length out - a) (drop a out)))
    unfolding placed flat_map
    naming_more r ws w =
        let x = name in
        let zs = replicate {A = ℕ} (96 - a) 0 in
        let room : 96 - a ≡ 8 + (96 - (a + 8)) = omega (arith, roomy) in
        let t : take a out ≡ s.front = ap (take a) s.put ∙ take_at s.front zs a s.long in
        let d : drop (a + length x) out ≡ drop (length x) zs =
        sym (drop-drop (length x) a out)
        ∙ ap (λ (l : List ℕ). drop (length x) (drop a l)) s.put ∙ ap (drop (length x)) (drop_at s.front zs a s.long) in
        let l : length (s.front ++ padded 8 x) ≡ a + 8 = omega (arith, length-append s.front (padded 8 x), padded_long 8 x short, s.long) in
        let out' = take a out ++ (ws ++ drop (length out - a) (drop a out)) in
        let p : out' ≡ (s.front ++ padded 8 x) ++ replicate (96 - (a + 8)) 0 =
        part_back out x ws a naming_from w.whole ∙ ap₂ (λ (l m : List ℕ). l ++ (x ++ m)) t d
        ∙ ap (λ (l : List ℕ). s.front ++ l) (over-padded (96 - a) x ∙ ap (λ (j : ℕ). padded j x) room ∙ padded_cut (96 - (a + 8)) x short)
        ∙ sym (append_assoc s.front (padded 8 x) _) in
        record {
          size = long_put out' (s.front ++ padded 8 x) (a + 8) p l roomy ∙ sym long_out ∙ s.size;
          front = s.front ++ padded 8 x;
          long = l;
          put = p;
          rest = append_assoc s.front (padded 8 x) _ ∙ ap (λ (l : List (List ℕ)). s.front ++ placed l) (sym first) ∙ s.rest;
          named = named_here.1;
          room = omega (arith, s.room, ap length first);
        }

  pub naming_done : (k a : ℕ) (out : List ℕ) → Naming k a out → k ≡ length (pieces 32 line) → out ≡ padded 96 (placed (pieces 32 line))
  unfolding placed flat_map padded
  naming_done k a out s h =
      let e : s.front ≡ placed (pieces 32 line) = sym (append-nil s.front) ∙ ap (λ (l : List (List ℕ)). s.front ++ placed l) (sym (drop_of_length-le (pieces 32 line) {i = k} (omega arith))) ∙ s.rest in
      s.put ∙ ap (λ (k : ℕ). s.front ++ replicate (96 - k) 0) (sym s.long) ∙ ap (λ (l : List ℕ). l ++ replicate (96 - length l) 0) e
