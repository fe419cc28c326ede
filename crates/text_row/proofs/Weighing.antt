-- The tests and the words of a row, one value after another from the last to the first. Assumes nothing.
use mathlib.Core.Path.{◌≡◌, sym, ap, ◌∙◌}
use mathlib.Core.Bool.{Bool, true, false, ◌&&◌, and_assoc, and_comm}
use mathlib.Core.Logic.{⊎_elim}
use mathlib.Core.List.{List, ◌∷◌}
use Prim.Native.Nat.{ℕ, suc, ◌+◌, ◌-◌, ◌*◌, ◌/◌, ◌%◌, ◌≤◌, ◌<◌}
use native.Mathlib.Omega.{arith}
use lib.Dec.{eqb, leb, ltb}
use lib.Pow.{pow_mono}
use lib.ListN.{length, get_or, take, drop, length-take, length-drop, drop_of_length-le}
use lib.Seq.{drop-cons, get_or-take, length-take-le}
use borrow.Author.Tests.{eq-eqb, ne_eqb}
use Rattle.sets.specs.Lists.{every}
use Rattle.sets.proofs.Tests.{same?}
use Rattle.program.specs.Values.{word_of, bits_of, word_by, head_of, body_of, naf_of}
use Rattle.text.specs.Refusals.{is_value}
use Rattle.text.proofs.Tables.{word_lt}
use Rattle.text_row.specs.declared.Row.{Row}
use Rattle.text_row.specs.Rows.{wanted, day_of, weighed}

-- ---- how many numbers stand on a line
pub wanted-dated : (dated : Bool) (n : ℕ) → dated ≡ true → n + 2 ≡ wanted dated n
unfolding wanted
wanted-dated dated n t = rw t

pub wanted-undated : (dated : Bool) (n : ℕ) → dated ≡ false → n ≡ wanted dated n
unfolding wanted
wanted-undated dated n f = rw f (omega arith)

-- ---- the values
eqb_zero : (v : ℕ) → eqb v 0 ≡ eqb 0 v
eqb_zero v = ⊎_elim (λ (e : v ≡ 0). rw (eq-eqb v 0 e, eq-eqb 0 v (sym e))) (λ f. rw (ne_eqb v 0 f, ne_eqb 0 v (λ e. f (sym e)))) (same? v 0)

-- what some values say, where g was said of the days behind them and of the number of all, and h of that number
pub record Said : Type 0 where
  pub holds : Bool
  pub zero : Bool
  pub head : ℕ
  pub body : ℕ
  pub naf : ℕ

unfoldable pub said : Bool → Bool → List ℕ → Said
said g h vs = record { holds = every is_value vs && g; zero = every (eqb 0) vs && h; head = head_of vs; body = body_of vs; naf = naf_of vs }

-- with one value in front
abbrev with_value : ℕ → Said → Said
with_value v w = record {
  holds = is_value v && w.holds;
  zero = eqb 0 v && w.zero;
  head = v % 4 + 4 * w.head;
  body = v / 4 % 4 + 4 * w.body;
  naf = v / 16 % 4 + 4 * w.naf;
}

said_more : (g h : Bool) (v : ℕ) (vs : List ℕ) → with_value v (said g h vs) ≡ said g h (v ∷ vs)
unfolding said every word_by word_of bits_of
said_more g h v vs =
    let e : v % 4 ≡ v / 1 % 4 = omega arith in
    rw (e, ← and_assoc (is_value v) (every is_value vs) g, ← and_assoc (eqb 0 v) (every (eqb 0) vs) h)

module _ (values : List ℕ) (n : ℕ) (g h : Bool) where
  -- the values from i on have been weighed
  pub record Weighing (i : ℕ) (holds zero : Bool) (head body naf : ℕ) : Type 0 where
    pub within : i ≤ n
    pub is : record { holds = holds; zero = zero; head = head; body = body; naf = naf } ≡ said g h (drop i (take n values))
    pub low-head : head < 16777216
    pub low-body : body < 16777216
    pub low-naf : naf < 16777216

  weighing : (i : ℕ) (holds zero : Bool) (head body naf : ℕ) → n ≤ 12 → i ≤ n
      → record { holds = holds; zero = zero; head = head; body = body; naf = naf } ≡ said g h (drop i (take n values)) → Weighing i holds zero head body naf
  unfolding said
  weighing i holds zero head body naf f w e = record {
    within = w;
    is = e;
    low-head = omega (arith, ap (λ l. l.head) e, low 1);
    low-body = omega (arith, ap (λ l. l.body) e, low 4);
    low-naf = omega (arith, ap (λ l. l.naf) e, low 16);
  }
    where
      low : (k : ℕ) → word_by k (drop i (take n values)) < 16777216
      low k =
          let vs = drop i (take n values) in
          let s : length vs ≤ 12 = omega (arith, length-drop i (take n values), length-take n values) in
          omega (arith, word_lt k vs, pow_mono {i = 2 * length vs} {j = 24} (omega arith))

  pub weigh_start : n ≤ 12 → Weighing n g h 0 0 0
  unfolding said every word_by word_of
  weigh_start f = weighing n g h 0 0 0 f (omega arith) (ap (said g h) (sym (drop_of_length-le (take n values) {i = n} (omega (arith, length-take n values)))))

  weigh_front : (i v : ℕ) (holds zero : Bool) (head body naf : ℕ) → Weighing i holds zero head body naf → n ≤ 12 → length values ≡ 14 → 0 < i → v ≡ get_or values (i - 1) 0
      → Weighing (i - 1) (leb v 63 && holds) (eqb 0 v && zero) (v % 4 + 4 * head) (v / 4 % 4 + 4 * body) (v / 16 % 4 + 4 * naf)
  weigh_front i v holds zero head body naf s f l p e =
      let w = s.within in
      let m : length (take n values) ≡ n = length-take-le n values (omega arith) in
      let u : suc (i - 1) ≡ i = omega arith in
      let st : drop (i - 1) (take n values) ≡ v ∷ drop i (take n values) =
      drop-cons (take n values) (i - 1) 0 (omega arith) ∙ rw (u, get_or-take n values (i - 1) 0 (omega arith), ← e) in
      weighing (i - 1) _ _ _ _ _ f (omega arith) (ap (with_value v) s.is ∙ said_more g h v _ ∙ ap (said g h) (sym st))

  pub weigh_more : (i v : ℕ) (holds zero : Bool) (head body naf : ℕ) → Weighing i holds zero head body naf → n ≤ 12 → length values ≡ 14 → 0 < i → v ≡ get_or values (i - 1) 0
      → Weighing (i - 1) (holds && leb v 63) (zero && eqb v 0) (v % 4 + 4 * head) (v / 4 % 4 + 4 * body) (v / 16 % 4 + 4 * naf)
  weigh_more i v holds zero head body naf s f l p e = rw (and_comm holds (leb v 63), eqb_zero v, and_comm zero (eqb 0 v)) (weigh_front i v holds zero head body naf s f l p e)

-- ---- a row as a whole, its days too
pub weigh_done : (r : Row) (dated : Bool) (n m f l i : ℕ) (holds zero : Bool) (head body naf day day' : ℕ)
    → Weighing r.values n (leb f 65535 && leb l 65535 && eqb r.count m) (eqb r.count m) i holds zero head body naf → i ≤ 0
    → f ≡ get_or r.values n 0 → l ≡ get_or r.values (n + 1) 0 → m ≡ wanted dated n → day ≡ day_of f → day' ≡ day_of l
    → record { holds = holds; zero = zero; reversed = dated && ltb l f; head = head; body = body; naf = naf; first = day; last = day' } ≡ weighed dated n r
unfolding weighed said
weigh_done r dated n m f l i holds zero head body naf day day' s z a b c d d' =
    let e : i ≡ 0 = omega arith in
    let t = rw (e, a, b, c) at s.is in
    rw (d, d', a, b, ap (λ w. w.holds) t, ap (λ w. w.zero) t, ap (λ w. w.head) t, ap (λ w. w.body) t, ap (λ w. w.naf) t)
