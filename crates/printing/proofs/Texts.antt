-- What several words print: the room for it, and that it is the text that is meant. Assumes nothing.
use mathlib.Core.Path.{◌≡◌, refl, sym, ap, ◌∙◌}
use mathlib.Core.List.{List, ◌∷◌, ◌++◌}
use Prim.Native.Nat.{ℕ, zero, suc, ◌+◌, ◌-◌, ◌^◌, ◌≤◌, ◌<◌, min}
use native.Mathlib.Omega.{arith}
use lib.ListN.{length, take, drop, replicate, length-append, length-take, length-drop, length-replicate}
use lib.Seq.{length-take-le, take_all}
use Rattle.sets.specs.Lists.{tabulate}
use Rattle.lists.specs.Bytes.{Wrote}
use Rattle.lists.proofs.Writing.{two_texts, back}
use Rattle.program.specs.declared.Program.{Program}
use Rattle.program.specs.Names.{name_at}
use Rattle.program.proofs.Validity.{valid_names}
use Rattle.text.specs.Lines.{names_line}
use Rattle.lines.specs.Laying.{Room}
use Rattle.wording.specs.Printed.{refused_line}
use Rattle.wording.proofs.Bounds.{refused-most}
use Rattle.listings.specs.Listing.{model_lines, listing}
use Rattle.listings.proofs.Bounds.{listing-most, listing_is}
use Rattle.printing.specs.Ready.{most_bytes, Ready, ReadyToList}

-- ---- the line of a refusal
pub refused_fits : (n : ℕ) (xs : List ℕ) → n < 2 ^ 8 → most_bytes ≤ length xs → length (refused_line n) ≤ length xs
refused_fits n xs h r = omega (arith, refused-most n (omega arith))

-- ---- the names line and the lines of the models
module _ (p : Program) (xs : List ℕ) (s : Ready p xs) where
  pub some_names : 1 ≤ p.atom_count
  some_names = (valid_names p s.accepted).one_up

  pub few_names : p.atom_count ≤ 12
  few_names = (valid_names p s.accepted).few

module _ (p : Program) (ws xs : List ℕ) where
  abbrev pub models_text : List ℕ
  models_text = names_line (tabulate (name_at p.atom_names) p.atom_count) ++ model_lines p.atom_count (take (length ws) ws)

  models_are : models_text ≡ listing p ws
  models_are = listing_is p ws (length ws) ∙ ap (listing p) (take_all (length ws) ws (omega arith))

  models-most : ReadyToList p ws xs → length models_text ≤ 98412
  models-most s =
      let h = s.short in
      omega (arith, listing-most p.atom_names p.atom_count ws (length ws) (some_names p xs s.ready) (few_names p xs s.ready))

  pub models_fit : ReadyToList p ws xs → Room p.atom_count 12 models_text xs
  models_fit s =
      let r = s.ready.room in
      record { some = some_names p xs s.ready; few = few_names p xs s.ready; room = omega (arith, models-most s) }

  pub models_wrote : (r : ℕ) (ys : List ℕ) → Wrote models_text xs r ys → Wrote (listing p ws) xs r ys
  models_wrote r ys w = rw (← models_are) w

  -- a line behind them, for which 64 bytes are room enough
  module _ (s : ReadyToList p ws xs) (a : ℕ) (ys : List ℕ) (w : Wrote (listing p ws) xs a ys) where
    at_most : a ≤ 98412
    at_most = omega (arith, w.size, ap length models_are, models-most s)

    long : most_bytes ≤ length ys
    long =
        let r = s.ready.room in
        omega (arith, w.size, at_most, ap length w.whole, length-append (listing p ws) (drop (length (listing p ws)) xs), length-drop (length (listing p ws)) xs)

    pub behind_models : a ≤ length ys
    behind_models = omega (arith, at_most, long)

    pub behind_fits : (u : List ℕ) → length u ≤ 64 → length u ≤ length (take (length ys - a) (drop a ys))
    behind_fits u h = simp (length-take, length-drop) (omega (arith, at_most, long))

    pub behind-small : (b : ℕ) (u zs vs : List ℕ) → Wrote u zs b vs → length u ≤ 64 → a + b < 2 ^ 64
    behind-small b u zs vs x h = omega (arith, at_most, x.size)

    pub behind_wrote : (u : List ℕ) (b : ℕ) (vs : List ℕ) → Wrote u (take (length ys - a) (drop a ys)) b vs → length u ≤ 64 → Wrote (listing p ws ++ u) xs (a + b) (back ys a vs)
    behind_wrote u b vs x h =
        let r = s.ready.room in
        two_texts xs (listing p ws) u a b ys vs (omega (arith, length-append (listing p ws) u, at_most, w.size)) w x

-- ---- a list of zeros, cut
abbrev pub zeros : ℕ → List ℕ
zeros n = replicate n 0

take_zeros : (k n : ℕ) → k ≤ n → take k (zeros n) ≡ zeros k
take_zeros zero n h = refl
take_zeros (suc k) zero h = absurd (omega arith)
take_zeros (suc k) (suc n) h = ap (λ (l : List ℕ). 0 ∷ l) (take_zeros k n (omega arith))

module _ (r k n : ℕ) (e : r ≡ min k n) where
  pub cut_zeros : take r (zeros n) ≡ zeros (min k n)
  cut_zeros = ap (λ (j : ℕ). take j (zeros n)) e ∙ take_zeros (min k n) n (omega arith)

  pub cut_long : r ≡ length (take r (zeros n))
  cut_long = sym (length-take-le r (zeros n) (omega (arith, length-replicate {A = ℕ} n 0)))

pub cut_ready : (p : Program) (xs : List ℕ) (r k : ℕ) → Ready p xs → r ≡ min k 4096 → ReadyToList p (take r (zeros 4096)) xs
cut_ready p xs r k s e = record { ready = s; short = omega (arith, cut_long r k 4096 e) }
