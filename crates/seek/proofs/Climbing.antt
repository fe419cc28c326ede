-- Behind a p-stable leaf: the nodes on the way to it are alive, and what is left of the tree are the trees of second children beside that way. Assumes nothing.
use mathlib.Core.Path.{◌≡◌, refl, sym, ◌∙◌}
use mathlib.Core.Bool.{true, false}
use mathlib.Core.Logic.{◌⊎◌, ⊎_elim}
use mathlib.Core.List.{List, [], ◌++◌, append_assoc, append-nil}
use Prim.Native.Nat.{ℕ, zero, suc, ◌+◌, ◌-◌, ◌*◌, ◌/◌, ◌%◌, ◌^◌, ◌≤◌, ◌<◌}
use native.Mathlib.Nat.{pow-suc, add-zero, mod-le, mod-one, add-mod_right, zero-mod}
use native.Mathlib.Numerals.{add-one}
use native.Mathlib.Omega.{arith}
use lib.Bits.{bit_and}
use lib.Pow.{pow_pos}
use borrow.Author.Tests.{lt-ltb}
use Rattle.sets.specs.Lists.{tabulate}
use Rattle.sets.proofs.Tests.{dec, clash, lt_or_ge}
use Rattle.program.specs.Clauses.{Clause}
use Rattle.semantics.specs.Interpretations.{is_stable}
use Rattle.tree.specs.Tree.{Dead, nodes, tree, is_stable_leaf}
use Rattle.tree.specs.NodeTest.{possible, dead}
use Rattle.tree.proofs.Nodes.{low_out, low_in}
use Rattle.tree.proofs.Support.{dead_below}
use Rattle.columns.specs.Columns.{Columns}
use Rattle.columns.specs.Play.{InPlay}
use Rattle.node.specs.Node.{Placed}
use Rattle.seek.specs.Seek.{no_leaf, from_word, sought, after, SoughtBelow, SoughtFrom, Resumes, OnPath, SecondOf}
use Rattle.seek.proofs.Multiples.{low_down, apart_by, rest_set, rest_clear, cut_low}
use Rattle.seek.proofs.Seeking.{all_map, nodes_between, from_word-append, from_word_all, from_word_none, sought-append, sought_first}
use Rattle.seek.proofs.Handing.{pow_back, second-placed}
use Rattle.seek.proofs.Visits.{small_words}

-- ---- the node (j, u) is on the way to the leaf y
record Leads (y j u : ℕ) : Type 0 where
  low : u % 2 ^ j ≡ 0
  start : u ≤ y
  end : y < u + 2 ^ j

-- one for each count
leads_once : (y j u a : ℕ) → Leads y j u → Leads y j a → u ≡ a
leads_once y j u a p q = ⊎_elim
    (λ (h : u < a). absurd (omega (arith, apart_by j u a p.low q.low h, p.end, q.start)))
    (λ (h : a ≤ u). ⊎_elim
    (λ (g : a < u). absurd (omega (arith, apart_by j a u q.low p.low g, q.end, p.start)))
    (λ (g : u ≤ a). omega arith)
    (lt_or_ge a u))
    (lt_or_ge u a)

-- ---- the nodes from a word on: below a live node whose word lies before it, below a node that lies before it, below one that does not
past_node : (D : Dead) (x i u : ℕ) → D (suc i) u ≡ false → u < x → from_word x (nodes D (suc i) u) ≡ from_word x (nodes D i u) ++ from_word x (nodes D i (u + 2 ^ i))
unfolding nodes from_word
past_node D x i u d h = rw (d, lt-ltb u x h) (from_word-append x (nodes D i u) (nodes D i (u + 2 ^ i)))

all_past : (D : Dead) (x i u : ℕ) → u + 2 ^ i ≤ x → from_word x (nodes D i u) ≡ []
all_past D x i u h = from_word_none x (nodes D i u) (all_map _ _ (λ v b. omega (arith, b.1)) (nodes D i u) (nodes_between D i u))

none_past : (D : Dead) (x i u : ℕ) → x ≤ u → from_word x (nodes D i u) ≡ nodes D i u
none_past D x i u h = from_word_all x (nodes D i u) (all_map _ _ (λ v b. omega (arith, b.0)) (nodes D i u) (nodes_between D i u))

-- ---- (suc k, a) is on the way to y, and y lies below its first child: then the tree of its second child comes next
module _ (D : Dead) (y : ℕ) (live : (j u : ℕ) → Leads y j u → D j u ≡ false) (k a : ℕ) (p : Leads y (suc k) a) (b : y < a + 2 ^ k) where
  abbrev second : ℕ
  second = a + 2 ^ k

  -- by the levels of the tree: y lies below one child of (j, u), and with it that second child, or (j, u) is its parent
  next-tree : (j u : ℕ) → k < j → Leads y j u → from_word second (nodes D j u) ≡ nodes D k second ++ from_word (second + 2 ^ k) (nodes D j u)
  next-tree zero u h q = absurd (omega arith)
  next-tree (suc i) u h q =
      rw (past_node D second i u (live (suc i) u q) (omega (arith, q.start)), past_node D (second + 2 ^ k) i u (live (suc i) u q) (omega (arith, q.start)))
      (⊎_elim
      (λ (g : k < i). ⊎_elim
      (λ (f : y < u + 2 ^ i).
      let even = low_down (suc k) i (u + 2 ^ i) (omega arith) (low_in i u q.low) in
      let z : second + 2 ^ k ≤ u + 2 ^ i = omega (arith, apart_by (suc k) a (u + 2 ^ i) p.low even (omega (arith, p.start)), pow-suc 2 k) in
      rw (none_past D second i (u + 2 ^ i) (omega arith), none_past D (second + 2 ^ k) i (u + 2 ^ i) z, next-tree i u g (record { low = low_out i u q.low; start = q.start; end = f }))
      (append_assoc (nodes D k second) (from_word (second + 2 ^ k) (nodes D i u)) (nodes D i (u + 2 ^ i))))
      (λ (f : u + 2 ^ i ≤ y).
      rw (all_past D second i u (omega arith), all_past D (second + 2 ^ k) i u (omega arith))
      (next-tree i (u + 2 ^ i) g (record { low = low_in i u q.low; start = f; end = omega (arith, q.end, pow-suc 2 i) })))
      (lt_or_ge y (u + 2 ^ i)))
      (λ (g : i ≤ k).
      let e : i ≡ k = omega arith in
      let o : u ≡ a = leads_once y (suc k) u a (rw e at q) p in
      rw (e, o, all_past D second k a (omega arith), none_past D second k second (omega arith), all_past D (second + 2 ^ k) k a (omega arith), all_past D (second + 2 ^ k) k second (omega arith))
      (sym (append-nil (nodes D k second))))
      (lt_or_ge k i))

-- ---- the way to a p-stable leaf is alive
way_alive : (P : List Clause) (y : ℕ) → is_stable P y ≡ true → (j u : ℕ) → Leads y j u → dead P j u ≡ false
way_alive P y s j u q = ⊎_elim
    (λ d.
    let e : u + (y - u) ≡ y = omega (arith, q.start) in
    let i : y - u < 2 ^ j = omega (arith, q.start, q.end) in
    clash (is_stable P y) s (rw e at (dead_below P j u (y - u) q.low i d)))
    (λ f. f)
    (dec (dead P j u))

-- ---- the loop: what is left from the word x on is what is left from w on, the next multiple of 2 ^ k behind the leaf before x
pub record Climbing (P : List Clause) (A n x v₀ k w v : ℕ) : Type 0 where
  pub few : n ≤ 12
  pub behind : x ≡ 0 → ⊥
  pub within : x < 2 ^ (2 * n)
  pub resumes : Resumes P x
  pub low : w % 2 ^ k ≡ 0
  pub above : x ≤ w
  pub near : w < x + 2 ^ k
  pub word : sought (is_stable_leaf (dead P) P) A (from_word w (tree (dead P) n)) v ≡ sought (is_stable_leaf (dead P) P) A (from_word x (tree (dead P) n)) v₀
  pub nodes : after (is_stable_leaf (dead P) P) A (from_word w (tree (dead P) n)) v ≡ after (is_stable_leaf (dead P) P) A (from_word x (tree (dead P) n)) v₀

module _ (P : List Clause) (A n x v : ℕ) where
  -- from the first word on; from behind the last
  pub all-nodes : (r v' : ℕ) → x ≡ 0 → SoughtBelow P (2 * n) 0 A v r v' → SoughtFrom P n A x v r v'
  all-nodes r v' z s = rw (z, none_past (dead P) 0 (2 * n) 0 (omega arith)) s

  nothing : (w v : ℕ) → 2 ^ (2 * n) ≤ w → SoughtFrom P n A w v no_leaf v
  unfolding sought after
  nothing w v h = rw (all_past (dead P) w (2 * n) 0 (omega arith)) (record { word = refl; nodes = refl })

  pub no_nodes : (reach : ℕ) → reach ≡ 0 + (2 ^ (2 * n) - 1) → reach < x → SoughtFrom P n A x v no_leaf v
  no_nodes reach e h = nothing x v (omega arith)

  pub climb_start : (reach : ℕ) → n ≤ 12 → reach ≡ 0 + (2 ^ (2 * n) - 1) → (x ≡ 0 → ⊥) → x ≤ reach → Resumes P x → Climbing P A n x v 0 x v
  climb_start reach few e z h s = record {
    few = few;
    behind = z;
    within = omega (arith, pow_pos (2 * n));
    resumes = s;
    low = mod-one x;
    above = omega arith;
    near = omega arith;
    word = refl;
    nodes = refl;
  }

module _ (P : List Clause) (A n x v₀ k w v : ℕ) (c : Climbing P A n x v₀ k w v) where
  -- the node with k undecided bits on the way is a second child, so nothing is left below its parent
  pub climb_skip : bit_and (w / 2 ^ k) 1 ≡ 0 → Climbing P A n x v₀ (k + 1) w v
  climb_skip b = rw add-one (record {
    few = c.few;
    behind = c.behind;
    within = c.within;
    resumes = c.resumes;
    low = rest_clear w k b ∙ c.low;
    above = c.above;
    near = omega (arith, c.near, pow-suc 2 k);
    word = c.word;
    nodes = c.nodes;
  })

  pub climb_done : 2 * n ≤ k → SoughtFrom P n A x v₀ no_leaf v
  climb_done h =
      let z = low_down (2 * n) k w h c.low in
      let far : 2 ^ (2 * n) ≤ w = omega (arith, apart_by (2 * n) 0 w (zero-mod (2 ^ (2 * n))) z (omega (arith, c.above, c.behind))) in
      let s = nothing P A n x v w v far in
      record { word = s.word ∙ c.word; nodes = s.nodes ∙ c.nodes }

  -- it is a first child, so the tree of the second child comes next
  module _ (h : k < 2 * n) (b : bit_and (w / 2 ^ k) 1 ≡ 0 → ⊥) (bit : ℕ) (e : bit ≡ 2 ^ (k + 1 - 1)) where
    is_pow : bit ≡ 2 ^ k
    is_pow = pow_back k bit e

    rest_is : w % 2 ^ suc k ≡ 2 ^ k
    rest_is = rest_set w k b ∙ rw (c.low, add-zero)

    pub climb_has : bit ≤ w
    climb_has = omega (arith, is_pow, rest_is, mod-le w (2 ^ suc k))

    back : w - bit + 2 ^ k ≡ w
    back = omega (arith, is_pow, climb_has)

    parent_low : (w - bit) % 2 ^ suc k ≡ 0
    parent_low = rw (rest_is, ← is_pow) at (cut_low w (suc k))

    leads : Leads (x - 1) (suc k) (w - bit)
    leads = record { low = parent_low; start = omega (arith, c.near, is_pow); end = omega (arith, c.above, c.behind, is_pow, pow-suc 2 k) }

    path : OnPath (2 * n) (k + 1) (w - bit)
    path = record { below = omega arith; few = omega (arith, c.few); within = omega (arith, leads.start, c.within, c.behind); low = rw add-one parent_low }

    alive : (j u : ℕ) → Leads (x - 1) j u → dead P j u ≡ false
    alive = way_alive P (x - 1) (c.resumes.found c.behind)

    comes : from_word w (tree (dead P) n) ≡ nodes (dead P) k w ++ from_word (w + 2 ^ k) (tree (dead P) n)
    comes =
        let whole : Leads (x - 1) (2 * n) 0 = record { low = zero-mod (2 ^ (2 * n)); start = omega arith; end = omega (arith, c.within) } in
        rw back at (next-tree (dead P) (x - 1) alive k (w - bit) leads (omega (arith, c.above, c.behind, back)) (2 * n) 0 h whole)

    -- what the search of that tree is handed
    pub climb_second : (at : ℕ → Clause) (count : ℕ) (C : List ℕ) (root : ℕ) → P ≡ tabulate at count → count ≤ 64 → Columns at count C → InPlay at count (possible (2 * n) 0) 0 root
        → SecondOf at count C root (2 * n) k (w - bit)
    climb_second at count C root q short cols plays = record {
      short = short;
      columns = cols;
      plays = plays;
      path = path;
      alive = rw (← q, add-one) (alive (suc k) (w - bit) leads);
    }

    placed : Placed k w
    placed = rw back at (second-placed (2 * n) k (w - bit) path)

    pub climb_fits : w + bit < 2 ^ 32
    climb_fits = omega (arith, placed.fits, is_pow)

    module _ (r v' : ℕ) (found : SoughtBelow P k (w - bit + 2 ^ k) A v r v') where
      s : SoughtBelow P k w A v r v'
      s = rw back at found

      pub climb_found : (r ≡ no_leaf → ⊥) → SoughtFrom P n A x v₀ r v'
      climb_found d =
          let q = sought_first (is_stable_leaf (dead P) P) A (nodes (dead P) k w) (from_word (w + 2 ^ k) (tree (dead P) n)) v (λ q. d (s.word ∙ q)) in
          record { word = s.word ∙ sym q.0 ∙ (rw comes at c.word); nodes = s.nodes ∙ sym q.1 ∙ (rw comes at c.nodes) }

      pub climb_next : r ≡ no_leaf → Climbing P A n x v₀ (k + 1) (w + bit) v'
      climb_next z =
          let q = sought-append (is_stable_leaf (dead P) P) A (nodes (dead P) k w) (from_word (w + 2 ^ k) (tree (dead P) n)) v (small_words (dead P) k w placed) (sym s.word ∙ z) in
          let up : w - bit + 2 ^ suc k ≡ w + 2 ^ k = omega (arith, back, pow-suc 2 k) in
          rw (is_pow, add-one) (record {
            few = c.few;
            behind = c.behind;
            within = c.within;
            resumes = c.resumes;
            low = rw (up, parent_low) at (add-mod_right (w - bit) (2 ^ suc k));
            above = omega (arith, c.above);
            near = omega (arith, c.near, pow-suc 2 k);
            word = rw s.nodes (sym q.0 ∙ (rw comes at c.word));
            nodes = rw s.nodes (sym q.1 ∙ (rw comes at c.nodes));
          })
