-- A loop that looks for the first place where a list holds another word than it should. Assumes nothing.
use mathlib.Core.Path.{◌≡◌, sym, ap, ◌∙◌}
use mathlib.Core.Bool.{not}
use mathlib.Core.List.{List, [], ◌∷◌}
use Prim.Native.Nat.{ℕ, zero, suc, ◌+◌, ◌≤◌, ◌<◌}
use native.Mathlib.Omega.{arith}
use borrow.Author.Tests.{eq-eqb, ne_eqb, lt-ltb, le-ltb}
use lib.ListN.{length, get_or, get_or-eq_default}
use Rattle.sets.proofs.Least.{Searched, start, hit, miss, done}
use Rattle.answers.specs.declared.Answer.{Answer}
use Rattle.answers.specs.Answers.{answer, free, held_at, is_other, first_other, difference_of}

-- ---- a place of the words
pub none_at : (k : ℕ) (xs : List ℕ) → length xs ≤ k → free ≡ get_or xs k free
none_at k xs h = sym (get_or-eq_default xs free {n = k} h)

-- within a list what stands for no place is not looked at
pub word_at : (k r : ℕ) (xs : List ℕ) → k < length xs → r ≡ get_or xs k 0 → r ≡ get_or xs k free
word_at k r [] h e = absurd (omega arith)
word_at zero r (x ∷ xs) h e = e
word_at (suc k) r (x ∷ xs) h e = word_at k r xs (omega arith) e

-- ---- a place of the list
module _ (k : ℕ) (held : List ℕ) where
  pub none_held : 4096 ≤ k → free ≡ held_at held k
  unfolding held_at
  none_held h = rw (le-ltb k 4096 h)

  pub word_held : (r : ℕ) → k < 4096 → r ≡ get_or held k 0 → r ≡ held_at held k
  unfolding held_at
  word_held r h e = rw (lt-ltb k 4096 h, e)

-- ---- the loop
module _ (should held : List ℕ) where
  -- no place below k holds another
  pub record Same (k : ℕ) : Type 0 where
    pub searched : Searched (is_other should held) 4096 k

  pub same_start : Same 0
  same_start = record { searched = start (is_other should held) 4096 }

  module _ (k a b : ℕ) (s : Same k) (h : k < 4096) (p : a ≡ held_at held k) (q : b ≡ get_or should k free) where
    pub same_more : a ≡ b → Same (k + 1)
    unfolding is_other
    same_more e = record { searched = miss (is_other should held) 4096 k s.searched h (ap not (eq-eqb (held_at held k) (get_or should k free) (sym p ∙ e ∙ q))) }

    pub other_found : (a ≡ b → ⊥) → k ≡ first_other should held
    unfolding first_other is_other
    other_found e = hit (is_other should held) 4096 k s.searched h (ap not (ne_eqb (held_at held k) (get_or should k free) (λ t. e (p ∙ t ∙ sym q))))

  pub none_other : (k : ℕ) → Same k → 4096 ≤ k → k ≡ first_other should held
  unfolding first_other
  none_other k s h =
      let w = s.searched.within in
      let e : k ≡ 4096 = omega arith in
      e ∙ done (is_other should held) 4096 k s.searched h

  pub difference_is : (k a b : ℕ) (e f : Answer) → k ≡ first_other should held → a ≡ get_or should k free → e ≡ answer 106 a k → b ≡ held_at held k → f ≡ answer 106 b k
      → record { expected = e; found = f } ≡ difference_of should held
  unfolding difference_of
  difference_is k a b e f p q r s t = rw (r, t, q, s, p)
