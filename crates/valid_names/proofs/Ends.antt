-- The tests of a place and of the last two names, one after another. Assumes nothing.
use mathlib.Core.Path.{◌≡◌, refl, sym, ◌∙◌}
use mathlib.Core.Bool.{◌&&◌}
use mathlib.Core.List.{List}
use mathlib.Core.Logic.{⊎_elim}
use Prim.Native.Nat.{ℕ, ◌-◌, ◌<◌}
use lib.Dec.{leb}
use lib.ListN.{take}
use borrow.Author.Tests.{le-leb, lt-leb}
use Rattle.sets.specs.Lists.{tabulate}
use Rattle.sets.proofs.Tests.{lt_or_ge}
use Rattle.lists.specs.Bytes.{same, EndsAt}
use Rattle.program.specs.Names.{is_name, name_at, from_word, to_word, ends_dated}
use Rattle.program.specs.Valid.{zero_from, is_place}
use Rattle.program.proofs.Nine.{place_is, ends-few, ends_are}

pub place_tests : (xs : List ℕ) (n : ℕ) → EndsAt xs 0 0 n → is_place xs ≡ (is_name (take n xs) && zero_from n xs)
place_tests xs n e = sym (place_is xs n _ _ e refl refl)

pub ends_tests : (xs : List ℕ) (n : ℕ) → ends_dated (tabulate (name_at xs) n) ≡ (leb 3 n && same (name_at xs (n - 2)) from_word && same (name_at xs (n - 1)) to_word)
ends_tests xs n = ⊎_elim
    (λ (l : n < 3). sym (ends-few xs n l) ∙ rw (lt-leb 3 n l))
    (λ h. sym (ends_are xs n _ _ h refl refl) ∙ rw (le-leb 3 n h))
    (lt_or_ge n 3)
