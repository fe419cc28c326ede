-- `decimal::put_decimal` meets its contract; it falls on the number. Assumes nothing.
use Rattle.decimal.proofs.+put_decimal.Given as goal

abbrev pub decreases-put_decimal : goal.decreases-put_decimal
decreases-put_decimal l = l.v
