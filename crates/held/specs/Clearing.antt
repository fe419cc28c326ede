-- Document 02, U5: "A second call keeps it as the last clause, and a third lets it go. With nothing held, these two give the table back and say so." Assumes nothing.
use Rattle.std.specs.Prelude.{◌≡◌, Bool, cond, not, List, [], ◌∷◌, ◌++◌, ℕ, ◌+◌, eqb, set, Result, Ok, Err}
use Rattle.program.specs.declared.Program.{Program}
use Rattle.program.specs.declared.Refusal.{Refusal}
use Rattle.program.specs.Clauses.{Row, rows}
use Rattle.program.specs.Held.{nothing_held, released}
use Rattle.program.specs.Names.{names_of}
use Rattle.program.specs.Refusals.{lowest, refusal_of}
use Rattle.program.specs.Valid.{valid}
use Rattle.held.specs.declared.ClearStatus.{ClearStatus}
use Rattle.held.specs.declared.ClearStatus.TheVariants.{Cleared, NothingHeld}
use Rattle.held.specs.declared.ClearAnswer.{ClearAnswer}

-- "keeps it as the last clause": with its days in the first place behind those that stand, and nothing is held then
unfoldable pub kept : Program → Program
kept p = record {
  atom_count = p.atom_count;
  atom_names = p.atom_names;
  clause_count = p.clause_count + 1;
  heads = set p.heads p.clause_count p.held.head;
  bodies = set p.bodies p.clause_count p.held.body;
  nafs = set p.nafs p.clause_count p.held.naf;
  dated = p.dated;
  firsts = set p.firsts p.clause_count p.held.first;
  lasts = set p.lasts p.clause_count p.held.last;
  held = nothing_held;
}

-- both meet 9 alone
abbrev pub clear_refusals : Program → List (ℕ × Bool)
clear_refusals p = (9, not (valid p)) ∷ []

unfoldable pub clear_refusal : Program → ℕ
clear_refusal p = lowest (clear_refusals p)

abbrev pub clearing : Result ClearStatus Refusal → Program → ClearAnswer
clearing s p = record { status = s; program = p }

-- the table q where a clause was held, and else the table p that came: "With nothing held, these two give the table back and say so."
unfoldable pub cleared_of : Program → Program → ClearAnswer
cleared_of p q = cond (eqb (clear_refusal p) 0)
    (cond p.held.in_use (clearing (Ok Cleared) q) (clearing (Ok NothingHeld) p))
    (clearing (Err (refusal_of (clear_refusal p))) p)

unfoldable pub keep_of : Program → ClearAnswer
unfolding cleared_of
keep_of p = cleared_of p (kept p)

-- "and a third lets it go"
unfoldable pub release_of : Program → ClearAnswer
unfolding cleared_of
release_of p = cleared_of p (released p)

-- "A second call keeps it as the last clause": what keep gives where the row r was held on the table p has the same names, is dated where that was,
-- has the rows that stood and r behind them, and nothing held
pub record KeptBehind (p : Program) (r : Row) (a : ClearAnswer) : Type 0 where
  pub status : a.status ≡ Ok Cleared
  pub atoms : a.program.atom_count ≡ p.atom_count
  pub names : names_of a.program ≡ names_of p
  pub dating : a.program.dated ≡ p.dated
  pub all_rows : rows a.program ≡ rows p ++ (r ∷ [])
  pub nothing : a.program.held ≡ nothing_held
