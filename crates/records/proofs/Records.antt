-- Each way to leave a function of this crate gives what its contract says. Assumes nothing.
use mathlib.Core.Path.{◌≡◌}
use mathlib.Core.List.{List}
use Prim.Native.Nat.{ℕ, ◌+◌, ◌-◌, ◌≤◌, ◌<◌}
use native.Mathlib.Omega.{arith}
use lib.Dec.{ltb}
use lib.ListN.{length, take, drop}
use Rattle.lists.specs.Bytes.{EndsAt}
use Rattle.decimal.specs.Decimal.{parsed_of}
use Rattle.std.proofs.Common.{Option}
use Rattle.records.specs.Records.{behind_of, record_of, RecordAt, value_of, number_of, NumberAt}

-- ---- behind the end of a part
pub behind_end : (n e : ℕ) → n ≤ e → n ≡ behind_of n e
unfolding behind_of
behind_end n e h = omega arith

pub behind_next : (n e : ℕ) → e < n → e + 1 ≡ behind_of n e
unfolding behind_of
behind_next n e h = omega arith

in_all : (n e r : ℕ) → r ≡ behind_of n e → r ≤ n
unfolding behind_of
in_all n e r h = omega (arith, h)

-- ---- a record
pub record_found : (file : List ℕ) (at a b c d e f : ℕ) → at < length file
    → EndsAt file 10 at a → b ≡ behind_of (length file) a → EndsAt file 61 b c → d ≡ behind_of (length file) c → EndsAt file 10 d e → f ≡ behind_of (length file) e
    → RecordAt file at (record { label_end = a; text = b; text_end = c; line = d; line_end = e; next = f; whole = ltb e (length file) })
unfolding record_of behind_of
record_found file at a b c d e f h p q r s t u =
    record {
      is = rw (u, t.is, s, r.is, q, p.is);
      label = p.from;
      label_in = omega (arith, p.to);
      text = r.from;
      text_in = omega (arith, r.to, q);
      line = t.from;
      line_in = omega (arith, t.to, s);
      on = omega (arith, p.from, q, r.from, s, t.from, u);
      next_in = omega (arith, u);
    }

-- ---- a number
pub number_found : (line : List ℕ) (at e v f : ℕ) (parsed : Option ℕ) → EndsAt line 32 at e
    → parsed ≡ parsed_of 18446744073709551615 (take (e - at) (drop at line)) → v ≡ value_of parsed → f ≡ behind_of (length line) e
    → NumberAt line at (record { value = v; next = f })
unfolding number_of
number_found line at e v f parsed p q r s = record { is = rw (s, r, q, p.is); next_in = in_all (length line) e f s }
