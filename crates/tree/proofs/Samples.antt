-- The counts of nodes that documents 01 and 02 print, the runs around them, and small books that tell the conditions of support apart, computed. Assumes nothing.
use Rattle.std.specs.Prelude.{Ok}
use mathlib.Core.Path.{◌≡◌, refl}
use mathlib.Core.List.{List, [], ◌∷◌}
use Rattle.program.specs.Clauses.{Clause}
use Rattle.program.specs.Values.{word_of, clause_of_values, word_by, bits_of}
use Rattle.semantics.specs.Books.{book, ⟨◌⟩, ⟨◌·◌⟩, clauses_of}
use Rattle.program.specs.declared.Outcome.TheVariants.{Complete, Full, Spent}
use Rattle.tree.specs.declared.NodeStatus.TheVariants.{Alive, Violated, Unsupported}
use Rattle.tree.specs.Tree.{nodes, tree, node_count, is_stable_leaf}
use Rattle.tree.specs.NodeTest.{violated, node_test, dead}
use Rattle.tree.specs.Answer.{answer, run_answer, listing, run_exit}

-- ---- fell due: 1 0 / 2 0 / 16 1
abbrev fell : List Clause
fell = clauses_of (book 2 (⟨ 1 · 0 ⟩ ∷ ⟨ 2 · 0 ⟩ ∷ ⟨ 16 · 1 ⟩ ∷ []) [])

-- document 01 prints "complete 1 23"
pub fell_before : run_answer (is_stable_leaf (violated fell) fell) (tree (violated fell) 2) 33554431 4096 ≡ answer (Ok Complete) 1 23
unfolding run_answer nodes violated is_stable_leaf clause_of_values word_by bits_of word_of
fell_before = refl

-- "The printed sample ends in "complete 1 13"": with one node less it is spent; without a place it is full at the seventh node
pub fell_complete : run_answer (is_stable_leaf (dead fell) fell) (tree (dead fell) 2) 33554431 4096 ≡ answer (Ok Complete) 1 13
unfolding run_answer nodes dead is_stable_leaf clause_of_values word_by bits_of word_of
fell_complete = refl

pub fell_listed : listing (is_stable_leaf (dead fell) fell) (tree (dead fell) 2) 33554431 4096 ≡ 3 ∷ []
unfolding listing nodes dead is_stable_leaf clause_of_values word_by bits_of word_of
fell_listed = refl

pub fell_spent : run_answer (is_stable_leaf (dead fell) fell) (tree (dead fell) 2) 12 4096 ≡ answer (Ok Spent) 1 12
unfolding run_answer nodes dead is_stable_leaf clause_of_values word_by bits_of word_of
fell_spent = refl

pub fell_full : run_answer (is_stable_leaf (dead fell) fell) (tree (dead fell) 2) 13 0 ≡ answer (Ok Full) 0 7
unfolding run_answer nodes dead is_stable_leaf clause_of_values word_by bits_of word_of
fell_full = refl

-- a place behind those written keeps its content
pub fell_exit : run_exit (is_stable_leaf (dead fell) fell) (tree (dead fell) 2) 13 (8 ∷ 9 ∷ []) ≡ 3 ∷ 9 ∷ []
unfolding run_exit nodes dead is_stable_leaf clause_of_values word_by bits_of word_of
fell_exit = refl

-- node limit 0: spent, with none visited
pub none_allowed : run_answer (is_stable_leaf (dead fell) fell) (tree (dead fell) 2) 0 4096 ≡ answer (Ok Spent) 0 0
unfolding run_answer nodes dead is_stable_leaf clause_of_values word_by bits_of word_of
none_allowed = refl

-- "the N of a with no clause falls from 7 to 5"
pub no_clause_before : node_count (violated []) 1 ≡ 7
unfolding nodes violated
no_clause_before = refl

pub no_clause-nodes : node_count (dead []) 1 ≡ 5
unfolding nodes dead
no_clause-nodes = refl

-- ---- one clause each, by which a literal could be thought supported
-- a from nothing: "in its head", so the clause does not support the negation of a
pub other_literal : node_count (dead (clauses_of (book 1 (⟨ 1 ⟩ ∷ []) []))) 1 ≡ 5
unfolding nodes dead clause_of_values word_by bits_of word_of
other_literal = refl

-- the negation of a from itself: "and not in its body"
pub own_body : node_count (dead (clauses_of (book 1 (⟨ 10 ⟩ ∷ []) []))) 1 ≡ 5
unfolding nodes dead clause_of_values word_by bits_of word_of
own_body = refl

-- b from its negation, which is decided first: "None of its body literals is decided out."
pub body_decided_out : node_count (dead (clauses_of (book 2 (⟨ 0 · 9 ⟩ ∷ []) []))) 2 ≡ 9
unfolding nodes dead clause_of_values word_by bits_of word_of
body_decided_out = refl

-- the negation of a where not that: "None of its not-literals .. is decided in."
pub own_naf : node_count (dead (clauses_of (book 1 (⟨ 34 ⟩ ∷ []) []))) 1 ≡ 3
unfolding nodes dead clause_of_values word_by bits_of word_of
own_naf = refl

-- b or its negation: "no other head literal is decided in"
pub other_head : node_count (dead (clauses_of (book 2 (⟨ 0 · 3 ⟩ ∷ []) []))) 2 ≡ 15
unfolding nodes dead clause_of_values word_by bits_of word_of
other_head = refl

-- ---- the three answers: at the root, below it, and "violated where both hold"
-- the constraint of the negation of a, which no clause has in its head
abbrev denied : List Clause
denied = clauses_of (book 1 (⟨ 8 ⟩ ∷ []) [])

pub root_alive : node_test denied 2 0 ≡ Alive
unfolding node_test clause_of_values word_by bits_of word_of
root_alive = refl

pub both_hold : node_test denied 1 2 ≡ Violated
unfolding node_test clause_of_values word_by bits_of word_of
both_hold = refl

pub one_holds : node_test [] 1 2 ≡ Unsupported
unfolding node_test
one_holds = refl
