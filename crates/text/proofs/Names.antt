-- Names in their places. Assumes nothing.
use mathlib.Core.Path.{◌≡◌, refl, ap, ◌∙◌}
use mathlib.Core.Bool.{true, ◌&&◌}
use mathlib.Core.Logic.{⊎_elim}
use mathlib.Core.List.{List, [], ◌∷◌, ◌++◌, flat_map}
use Prim.Native.Nat.{ℕ, ◌+◌, ◌-◌, ◌*◌, ◌≤◌, ◌<◌}
use native.Mathlib.Omega.{arith}
use lib.Dec.{eqb, leb}
use lib.ListN.{length, take, replicate, length-append}
use lib.Seq.{take-append_seam}
use borrow.Author.Tests.{leb-true, lt-leb, eqb-true}
use Rattle.sets.specs.Lists.{every}
use Rattle.sets.proofs.Tests.{dec, clash, both_true}
use Rattle.sets.proofs.Lists.{every_mono}
use Rattle.lists.specs.Bytes.{padded, index}
use Rattle.lists.proofs.Padding.{padded_long, isnt, free_of, index-padded}
use Rattle.program.specs.Names.{is_letter, is_plain, is_name}
use Rattle.text.specs.Tables.{placed}

-- what a name is, by parts
pub record NameParts (s : List ℕ) : Type 0 where
  pub one_up : 1 ≤ length s
  pub short : length s ≤ 8
  pub plain : every is_plain s ≡ true

pub name_parts : (s : List ℕ) → is_name s ≡ true → NameParts s
unfolding is_name
name_parts s h =
    let a = both_true (leb 1 (length s) && leb (length s) 8 && every is_plain s) (every is_letter (take 1 s)) h in
    let b = both_true (leb 1 (length s) && leb (length s) 8) (every is_plain s) a.0 in
    let c = both_true (leb 1 (length s)) (leb (length s) 8) b.0 in
    record { one_up = leb-true 1 (length s) c.0; short = leb-true (length s) 8 c.1; plain = b.1 }

pub name_short : (s : List ℕ) → is_name s ≡ true → length s ≤ 8
name_short s h = (name_parts s h).short

-- a name has none of the bytes below its own
module _ (c : ℕ) (low : c < 48) where
  plain_isnt : (x : ℕ) → is_plain x ≡ true → isnt c x ≡ true
  plain_isnt x h = ⊎_elim
      (λ q. let e = eqb-true x c q in clash (is_plain x) h (rw (lt-leb 97 x (omega arith), lt-leb 48 x (omega arith))))
      (λ q. rw q) (dec (eqb x c))

  pub name_isnt : (x : List ℕ) → is_name x ≡ true → every (isnt c) x ≡ true
  name_isnt x h = every_mono is_plain (isnt c) plain_isnt x (name_parts x h).plain

pub placed_long : (ns : List (List ℕ)) → every is_name ns ≡ true → length (placed ns) ≡ 8 * length ns
unfolding every placed flat_map
placed_long [] h = refl
placed_long (x ∷ ns) h =
    let a = both_true (is_name x) (every is_name ns) h in
    omega (arith, length-append (padded 8 x) (placed ns), padded_long 8 x (name_short x a.0), placed_long ns a.1)

-- the name in a padded place
pub index_name : (x : List ℕ) → is_name x ≡ true → index 0 (padded 8 x) ≡ length x
unfolding padded
index_name x h = index-padded x (8 - length x) (free_of 0 x (name_isnt 0 (omega arith) x h))

pub trim : (x : List ℕ) → is_name x ≡ true → take (index 0 (padded 8 x)) (padded 8 x) ≡ x
unfolding padded
trim x h = ap (λ (n : ℕ). take n (x ++ replicate (8 - length x) 0)) (index_name x h) ∙ take-append_seam x (replicate (8 - length x) 0)
