-- The lines of a text, gathered one after another. Assumes nothing.
use mathlib.Core.Path.{◌≡◌, refl, sym, ap, ◌∙◌}
use mathlib.Core.Bool.{Bool, false, not, ◌||◌, or-false, or_assoc}
use mathlib.Core.List.{List, [], ◌∷◌, map}
use Prim.Native.Nat.{ℕ, ◌+◌, ◌≤◌, ◌<◌}
use native.Mathlib.Omega.{arith}
use lib.ListN.{length, drop, set, replicate, length-map, length-replicate}
use Rattle.sets.specs.Lists.{any_of}
use Rattle.lists.specs.Bytes.{ended, EndsAt, padded}
use Rattle.lists.proofs.Pieces.{part, line_step, line_done}
use Rattle.lists.proofs.Writing.{Put, put_start, put_byte, put_done, put_as}
use Rattle.lists.proofs.Padding.{over-padded}
use Rattle.text_row.specs.declared.Row.{Row}
use Rattle.text_row.specs.declared.ClauseLine.{ClauseLine}
use Rattle.text_row.specs.Rows.{row_of, weighed, line_read}
use Rattle.clauselines.specs.Gathered.{gathered}

-- a test of some lines, of which the first have been looked at
any_more : (p : ClauseLine → Bool) (t : Bool) (l : ClauseLine) (ls : List ClauseLine) → (t || p l) || any_of p ls ≡ t || any_of p (l ∷ ls)
unfolding any_of
any_more p t l ls = or_assoc t (p l) (any_of p ls)

module _ (xs : List ℕ) (from n : ℕ) (dated : Bool) where
  -- what the lines from a place on say
  abbrev pub behind : ℕ → List ClauseLine
  behind at = map (line_read dated n) (ended 10 (drop at xs))

  -- i words of a column stand in out, and those of the lines from at on are left
  abbrev Column : (ClauseLine → ℕ) → ℕ → ℕ → List ℕ → Type 0
  Column sel at i out = Put (replicate 64 0) (map sel (behind from)) i out (map sel (behind at))

  pub record Gathering (at i : ℕ) (broken zeros reversed : Bool) (heads bodies nafs firsts lasts : List ℕ) : Type 0 where
    pub breaks : broken || any_of (λ l. not l.holds) (behind at) ≡ any_of (λ l. not l.holds) (behind from)
    pub blanks : zeros || any_of (λ l. l.zero) (behind at) ≡ any_of (λ l. l.zero) (behind from)
    pub turns : reversed || any_of (λ l. l.reversed) (behind at) ≡ any_of (λ l. l.reversed) (behind from)
    pub count : i + length (behind at) ≡ length (behind from)
    pub few : length (behind from) ≤ 64
    pub head : Column (λ l. l.head) at i heads
    pub body : Column (λ l. l.body) at i bodies
    pub naf : Column (λ l. l.naf) at i nafs
    pub first : Column (λ l. l.first) at i firsts
    pub last : Column (λ l. l.last) at i lasts

  pub gather_start : length (ended 10 (drop from xs)) ≤ 64 → Gathering from 0 false false false (replicate 64 0) (replicate 64 0) (replicate 64 0) (replicate 64 0) (replicate 64 0)
  gather_start h =
      let f : length (behind from) ≤ 64 = omega (arith, length-map (ended 10 (drop from xs)) (line_read dated n)) in
      let put : (sel : ClauseLine → ℕ) → Column sel from 0 (replicate 64 0) =
      λ sel. put_start (replicate 64 0) (map sel (behind from)) (omega (arith, length-map (behind from) sel, length-replicate {A = ℕ} 64 0)) in
      record {
        breaks = refl;
        blanks = refl;
        turns = refl;
        count = omega arith;
        few = f;
        head = put (λ l. l.head);
        body = put (λ l. l.body);
        naf = put (λ l. l.naf);
        first = put (λ l. l.first);
        last = put (λ l. l.last);
      }

  module _ (at e : ℕ) (q : EndsAt xs 10 at e) where
    step : e < length xs → behind at ≡ line_read dated n (part xs at e) ∷ behind (e + 1)
    step h = rw q.is (ap (map (line_read dated n)) (line_step 10 xs at (rw q.is at h)))

    module _ (i : ℕ) (broken zeros reversed : Bool) (heads bodies nafs firsts lasts : List ℕ) (s : Gathering at i broken zeros reversed heads bodies nafs firsts lasts) where
      pub gather_room : e < length xs → i < 64
      gather_room h = omega (arith, s.count, s.few, ap length (step h))

      pub gather_more : (r : Row) (w : ClauseLine) → e < length xs → r ≡ row_of (part xs at e) → w ≡ weighed dated n r
          → Gathering (e + 1) (i + 1) (broken || not w.holds) (zeros || w.zero) (reversed || w.reversed)
          (set heads i w.head) (set bodies i w.body) (set nafs i w.naf) (set firsts i w.first) (set lasts i w.last)
      unfolding line_read
      gather_more r w h a b =
          let st : behind at ≡ w ∷ behind (e + 1) = step h ∙ ap (λ (l : ClauseLine). l ∷ behind (e + 1)) (sym (b ∙ ap (weighed dated n) a)) in
          let put : (sel : ClauseLine → ℕ) (out : List ℕ) → Column sel at i out → Column sel (e + 1) (i + 1) (set out i (sel w)) =
          λ sel out p. put_byte _ _ i out (sel w) _ (put_as _ _ i out _ _ p (ap (map sel) st)) in
          record {
            breaks = any_more (λ l. not l.holds) broken w (behind (e + 1)) ∙ rw (← st) s.breaks;
            blanks = any_more (λ l. l.zero) zeros w (behind (e + 1)) ∙ rw (← st) s.blanks;
            turns = any_more (λ l. l.reversed) reversed w (behind (e + 1)) ∙ rw (← st) s.turns;
            count = omega (arith, s.count, ap length st);
            few = s.few;
            head = put (λ l. l.head) heads s.head;
            body = put (λ l. l.body) bodies s.body;
            naf = put (λ l. l.naf) nafs s.naf;
            first = put (λ l. l.first) firsts s.first;
            last = put (λ l. l.last) lasts s.last;
          }

      pub gather_done : length xs ≤ e
          → record { broken = broken; zeros = zeros; reversed = reversed; count = i; heads = heads; bodies = bodies; nafs = nafs; firsts = firsts; lasts = lasts } ≡ gathered (behind from)
      unfolding gathered any_of
      gather_done h =
          let st : behind at ≡ [] = ap (map (line_read dated n)) (line_done 10 xs at (rw q.is at h)) in
          let put : (sel : ClauseLine → ℕ) (out : List ℕ) → Column sel at i out → out ≡ padded 64 (map sel (behind from)) =
          λ sel out p. (put_done _ _ i out (put_as _ _ i out _ _ p (ap (map sel) st))).whole ∙ over-padded 64 (map sel (behind from)) in
          let a : broken ≡ any_of (λ l. not l.holds) (behind from) = sym (or-false broken) ∙ (rw st at s.breaks) in
          let z : zeros ≡ any_of (λ l. l.zero) (behind from) = sym (or-false zeros) ∙ (rw st at s.blanks) in
          let t : reversed ≡ any_of (λ l. l.reversed) (behind from) = sym (or-false reversed) ∙ (rw st at s.turns) in
          let c : i ≡ length (behind from) = omega (arith, s.count, ap length st) in
          rw (
            a,
            z,
            t,
            c,
            put (λ l. l.head) heads s.head,
            put (λ l. l.body) bodies s.body,
            put (λ l. l.naf) nafs s.naf,
            put (λ l. l.first) firsts s.first,
            put (λ l. l.last) lasts s.last,
          )
