-- `records::value_of` meets its contract, case by case as the definition goes. Assumes nothing.
use Rattle.records.specs.Records.{value_of}
use borrow.Author.Rules.{rules}
use Rattle.records.proofs.value_of.Goals as goal

pub enum_known-parsed : goal.enum_known-parsed
unfolding value_of
enum_known-parsed c = search rules

pub enum_told-1 : goal.enum_told-1
unfolding value_of
enum_told-1 c = search rules

pub returns-in-Some : goal.returns-in-Some
unfolding value_of
returns-in-Some c = search rules

pub returns-in-None : goal.returns-in-None
unfolding value_of
returns-in-None c = search rules
