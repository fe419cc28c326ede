-- The definition of p-stable models gives just the lists of document 01's sample books. Assumes nothing.
use mathlib.Core.Path.{◌≡◌, refl}
use mathlib.Core.List.{map}
use Rattle.program.specs.Values.{word_of, clause_of_values, word_by, bits_of}
use Rattle.semantics.specs.Interpretations.{models}
use Rattle.semantics.specs.Books.{books, clauses_of, models_of}

-- all eleven at once, by computation
pub books-hold : map (λ b. models b.names (clauses_of b)) books ≡ map models_of books
unfolding books models word_of clause_of_values word_by bits_of
books-hold = refl
