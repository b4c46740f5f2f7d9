-- Every ordered pair of joined nodes has a direction of its own, below twice the number of links; and the table of directions, which is filled
-- link by link, has it at 64 p + q. Each link fills two places, and no two links fill the same one, since no two have the same ends.
-- Assumes nothing.
use Prim.Native.Nat.{ℕ, zero, suc, ◌+◌, ◌*◌, ◌/◌, ◌%◌, ◌<◌, ◌≤◌}
use native.Mathlib.Nat.{not-suc-le-zero, le_refl}
use native.Mathlib.Omega.{arith}
use native.Mathlib.Decide.{dec_lt, ℕ_discrete}
use mathlib.Core.Path.{◌≡◌, refl, sym, ◌∙◌, subst}
use mathlib.Core.Bool.{true}
use mathlib.Core.List.{List}
use lib.ListN.{length, get_or, set, replicate, length-set, length-replicate}
use lib.Seq.{get_or-set_same, get_or-set_other}
use Rattle.laws.specs.Below.{fold_below}
use Rattle.laws.proofs.Choice.{if_lt_yes, if_lt_no}
use Rattle.laws.proofs.Below.{fold_keeps}
use Rattle.network.specs.declared.Network.{Network}
use Rattle.network.specs.Sets.{Ends, rising, falling}
use Rattle.network.specs.Valid.{valid_network}
use Rattle.network.proofs.Valid.{valid_limits, valid_ranges, valid_order}
use Rattle.synchronizer.specs.Wires.{joined, lanes_of, lane_in}
use Rattle.guarantees.specs.Reading.{link_of, joins, direction_of}
use Rattle.guarantees.proofs.Links.{joined_ends, joined_below, joins_of, nodes_below, link_is}

-- ---- the two directions of a link

upwards : (net : Network) (p q : ℕ) → p < q → direction_of net p q ≡ link_of net p q * 2
unfolding direction_of
upwards net p q h = omega (arith, if_lt_yes {A = ℕ} p q 0 1 h)

downwards : (net : Network) (p q : ℕ) → q ≤ p → direction_of net p q ≡ link_of net p q * 2 + 1
unfolding direction_of
downwards net p q h = omega (arith, if_lt_no {A = ℕ} p q 0 1 h)

one_of_two : (net : Network) (p q : ℕ) → (link_of net p q * 2 ≤ direction_of net p q) × (direction_of net p q < link_of net p q * 2 + 2)
one_of_two net p q = at (dec_lt p q)
  where
    at : Dec (p < q) → (link_of net p q * 2 ≤ direction_of net p q) × (direction_of net p q < link_of net p q * 2 + 2)
    at (yes h) = omega (arith, upwards net p q h)
    at (no h) = omega (arith, downwards net p q (omega arith))

module _ (net : Network) (v : valid_network net ≡ true) where
  pub direction_below : (p q : ℕ) → joins net p q ≡ true → direction_of net p q < net.links * 2
  direction_below p q j = omega (arith, one_of_two net p q, joined_below net v p q j)

  pub direction_in_row : (p q : ℕ) → joins net p q ≡ true → direction_of net p q < 256
  direction_in_row p q j = omega (arith, direction_below p q j, (valid_limits net v).at_most_128_links)

  -- two ordered pairs with one direction are one pair
  pub one_direction : (p q p' q' : ℕ) → joins net p q ≡ true → joins net p' q' ≡ true → direction_of net p q ≡ direction_of net p' q' → (p ≡ p') × (q ≡ q')
  one_direction p q p' q' j j' e =
      at (joined_ends net v p q j) (subst (λ l. Ends net.lowers net.uppers l p' q') (sym link) (joined_ends net v p' q' j'))
    where
      link : link_of net p q ≡ link_of net p' q'
      link = omega (arith, e, one_of_two net p q, one_of_two net p' q')

      rise : get_or net.lowers (link_of net p q) 0 < get_or net.uppers (link_of net p q) 0
      rise = (valid_order net v).ends_rise (link_of net p q) (joined_below net v p q j)

      at : Ends net.lowers net.uppers (link_of net p q) p q → Ends net.lowers net.uppers (link_of net p q) p' q' → (p ≡ p') × (q ≡ q')
      at (rising a b) (rising c d) = (omega arith, omega arith)
      at (falling a b) (falling c d) = (omega arith, omega arith)
      at (rising a b) (falling c d) =
          absurd (omega (arith, e, link, upwards net p q (omega (arith, rise)), downwards net p' q' (omega (arith, rise))))
      at (falling a b) (rising c d) =
          absurd (omega (arith, e, link, downwards net p q (omega (arith, rise)), upwards net p' q' (omega (arith, rise))))

  -- every number below twice the links is the direction of some pair
  pub direction_of_lem : (d : ℕ) → d < net.links * 2 → (p : ℕ) × (q : ℕ) × (joins net p q ≡ true) × (direction_of net p q ≡ d)
  direction_of_lem d h = at (ℕ_discrete (d % 2) 0)
    where
      l : ℕ
      l = d / 2

      in_list : l < net.links
      in_list = omega arith

      rise : get_or net.lowers l 0 < get_or net.uppers l 0
      rise = (valid_order net v).ends_rise l in_list

      found : (p q : ℕ) → Ends net.lowers net.uppers l p q → direction_of net p q ≡ link_of net p q * 2 + d % 2 → (p : ℕ) × (q : ℕ) × (joins net p q ≡ true) × (direction_of net p q ≡ d)
      found p q ends which = (p, q, joins_of net v l p q in_list ends, omega (arith, link_is net v l p q in_list ends))

      at : Dec (d % 2 ≡ 0) → (p : ℕ) × (q : ℕ) × (joins net p q ≡ true) × (direction_of net p q ≡ d)
      at (yes e) =
          found (get_or net.lowers l 0) (get_or net.uppers l 0) (rising refl refl)
          (omega (arith, upwards net (get_or net.lowers l 0) (get_or net.uppers l 0) rise))
      at (no o) =
          found (get_or net.uppers l 0) (get_or net.lowers l 0) (falling refl refl)
          (omega (arith, downwards net (get_or net.uppers l 0) (get_or net.lowers l 0) (omega (arith, rise))))

  -- ---- the table of directions

  -- the first n links
  table_of : ℕ → List ℕ
  table_of n = lanes_of net.lowers net.uppers n

  length_table : (n : ℕ) → length (table_of n) ≡ 4096
  unfolding table_of lanes_of joined
  length_table n =
      fold_keeps (λ t. length t ≡ 4096) (λ l t. joined t (get_or net.lowers l 0) (get_or net.uppers l 0) l) (replicate 4096 0) n (length-replicate {A = ℕ} 4096 0)
      (λ l _ t e. length-set (set t (get_or net.lowers l 0 * 64 + get_or net.uppers l 0) (l * 2)) (get_or net.uppers l 0 * 64 + get_or net.lowers l 0) (l * 2 + 1) ∙ length-set t (get_or net.lowers l 0 * 64 + get_or net.uppers l 0) (l * 2) ∙ e)

  -- what a link fills in for its own ends, and that it leaves other pairs as they were
  module _ (t : List ℕ) (size : length t ≡ 4096) (a b l : ℕ) (rise : a < b) (below : b < 64) where
    filled_up : lane_in (joined t a b l) a b ≡ l * 2
    unfolding joined
    filled_up =
        get_or-set_other (set t (a * 64 + b) (l * 2)) (b * 64 + a) (a * 64 + b) (l * 2 + 1) 0 (λ e. omega arith)
        ∙ get_or-set_same t (a * 64 + b) (l * 2) 0 (omega arith)

    filled_down : lane_in (joined t a b l) b a ≡ l * 2 + 1
    unfolding joined
    filled_down =
        get_or-set_same (set t (a * 64 + b) (l * 2)) (b * 64 + a) (l * 2 + 1) 0 (omega (arith, length-set t (a * 64 + b) (l * 2)))

    left_alone : (p q : ℕ) → p < 64 → q < 64 → ((a ≡ p) × (b ≡ q) → ⊥) → ((a ≡ q) × (b ≡ p) → ⊥) → lane_in (joined t a b l) p q ≡ lane_in t p q
    unfolding joined
    left_alone p q hp hq up down =
        get_or-set_other (set t (a * 64 + b) (l * 2)) (b * 64 + a) (p * 64 + q) (l * 2 + 1) 0 (λ e. down (omega arith))
        ∙ get_or-set_other t (a * 64 + b) (p * 64 + q) (l * 2) 0 (λ e. up (omega arith))

  table_has : (n : ℕ) → n ≤ net.links → (p q : ℕ) → joins net p q ≡ true → link_of net p q < n → lane_in (table_of n) p q ≡ direction_of net p q
  unfolding table_of lanes_of fold_below
  table_has zero b p q j h = absurd (not-suc-le-zero h)
  table_has (suc n) b p q j h = at (dec_lt (link_of net p q) n) (λ l. table_has n (omega arith) p q j l)
    where
      before : List ℕ
      before = table_of n

      rise : get_or net.lowers n 0 < get_or net.uppers n 0
      rise = (valid_order net v).ends_rise n b

      small : get_or net.uppers n 0 < 64
      small = omega (arith, (valid_ranges net v).upper_below n b, (valid_limits net v).at_most_64_nodes)

      mine : link_of net p q ≡ n → Ends net.lowers net.uppers n p q → lane_in (joined before (get_or net.lowers n 0) (get_or net.uppers n 0) n) p q ≡ direction_of net p q
      mine e (rising x y) =
          subst (λ (z : ℕ × ℕ). lane_in (joined before (get_or net.lowers n 0) (get_or net.uppers n 0) n) z.0 z.1 ≡ direction_of net p q) (λ i. (x i, y i))
          (filled_up before (length_table n) (get_or net.lowers n 0) (get_or net.uppers n 0) n rise small ∙ omega (arith, e, upwards net p q (omega (arith, rise))))
      mine e (falling x y) =
          subst (λ (z : ℕ × ℕ). lane_in (joined before (get_or net.lowers n 0) (get_or net.uppers n 0) n) z.0 z.1 ≡ direction_of net p q) (λ i. (y i, x i))
          (filled_down before (length_table n) (get_or net.lowers n 0) (get_or net.uppers n 0) n rise small ∙ omega (arith, e, downwards net p q (omega (arith, rise))))

      at : Dec (link_of net p q < n) → (link_of net p q < n → lane_in before p q ≡ direction_of net p q)
          → lane_in (joined before (get_or net.lowers n 0) (get_or net.uppers n 0) n) p q ≡ direction_of net p q
      at (yes l) r =
          left_alone before (length_table n) (get_or net.lowers n 0) (get_or net.uppers n 0) n rise small p q
          (omega (arith, nodes_below net v p q j, (valid_limits net v).at_most_64_nodes))
          (omega (arith, nodes_below net v p q j, (valid_limits net v).at_most_64_nodes))
          (λ e. omega (arith, link_is net v n p q b (rising e.0 e.1)))
          (λ e. omega (arith, link_is net v n p q b (falling e.0 e.1)))
          ∙ r l
      at (no l) r =
          let e : link_of net p q ≡ n = omega arith in
          mine e (subst (λ k. Ends net.lowers net.uppers k p q) e (joined_ends net v p q j))

  -- the code's direction from p to q is the one that is read
  pub lane_is : (p q : ℕ) → joins net p q ≡ true → lane_in (lanes_of net.lowers net.uppers net.links) p q ≡ direction_of net p q
  unfolding table_of
  lane_is p q j = table_has net.links (le_refl net.links) p q j (joined_below net v p q j)
