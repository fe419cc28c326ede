-- The fixpoint's own definitions, transform, stages, minimal and canonical, give just the lists of document 01's sample books. Assumes nothing.
use mathlib.Core.Path.{◌≡◌, refl}
use mathlib.Core.List.{List, [], ◌∷◌, map, flat_map}
use Prim.Native.Nat.{ℕ, ◌+◌, ◌*◌}
use Rattle.sets.specs.Lists.{any_of, sift, up_from, tabulate}
use Rattle.sets.specs.Words.{mask}
use Rattle.sets.specs.Least.{least}
use Rattle.lists.specs.Bytes.{same}
use Rattle.program.specs.Clauses.{Clause}
use Rattle.program.specs.Values.{word_of, clause_of_values, word_by, bits_of}
use Rattle.semantics.specs.Books.{Book, books, clauses_of, models_of}
use Rattle.rising.specs.RisingSets.{insert_into, add_all}
use Rattle.literals.specs.Literals.{bits_from}
use Rattle.operator.specs.Operator.{WordRule, choices, next, stage}
use Rattle.stages.specs.Run.{resting, ending, final_stage}
use Rattle.minimal.specs.Minimal.{minimals}
use Rattle.stages.specs.Minimal.{minimal_models}
use Rattle.transform.specs.Transform.{numbered, rewritten, becomes, stand_ins, all_stand_ins, kappa_from, members}
use Rattle.transform.specs.Listing.{canonical, listing}

-- what the fixpoint lists of a book
abbrev fixpoint_of : Book → List ℕ
fixpoint_of b = listing (2 * b.names) (kappa_from (2 * b.names) (2 * b.names + 2 * b.names) (clauses_of b))

-- all eleven at once, by computation
pub fixpoint_books_hold : map fixpoint_of books ≡ map models_of books
unfolding books word_of clause_of_values word_by bits_of any_of sift mask least same insert_into add_all bits_from choices next stage resting ending final_stage
    minimals minimal_models numbered rewritten becomes stand_ins kappa_from canonical listing flat_map
fixpoint_books_hold = refl

-- the stages of the source's Example 2.11: a ∨ b ← c, ¬d ← c, c ←, ← a, b, over a, b, c, d
abbrev example : List WordRule
example = record { head = 0b00000101; body = 0b00010000 } ∷ record { head = 0b10000000; body = 0b00010000 } ∷ record { head = 0b00010000; body = 0 } ∷ record { head = 0; body = 0b00000101 } ∷ []

pub example_stages : map (stage example) (0 ∷ 1 ∷ 2 ∷ 3 ∷ 4 ∷ []) ≡ (0 ∷ []) ∷ (0b00010000 ∷ []) ∷ (0b10010001 ∷ 0b10010100 ∷ []) ∷ (0b10010001 ∷ 0b10010100 ∷ 0b10010101 ∷ []) ∷
    (0b10010001 ∷ 0b10010100 ∷ 0b10010101 ∷ []) ∷ []
unfolding mask insert_into add_all bits_from choices next stage flat_map
example_stages = refl

-- "12 names, 16 stand-ins: W is 64, taken; 17 stand-ins: refusal 11": lines `17 0 0 ..`, of which each has a stand-in of its own
abbrev twelve : ℕ → List Clause
twelve k = tabulate (λ _. clause_of_values (17 ∷ tabulate (λ _. 0) 11)) k

pub sixteen_stand_ins : members 24 (twelve 16) ≡ 64
unfolding up_from tabulate word_of clause_of_values word_by bits_of sift bits_from stand_ins all_stand_ins members
sixteen_stand_ins = refl

pub seventeen_stand_ins : members 24 (twelve 17) ≡ 65
unfolding up_from tabulate word_of clause_of_values word_by bits_of sift bits_from stand_ins all_stand_ins members
seventeen_stand_ins = refl
