-- What the rounds give at each node, round by round. A round replaces every node's value, and each new value comes from the values before the
-- round; so what a node has after k + 1 rounds is the rule at what all nodes have after k.
-- Assumes nothing.
use Prim.Native.Nat.{ℕ, zero, suc, ◌+◌, ◌<◌, ◌≤◌}
use native.Mathlib.Nat.{le_antisymm}
use native.Mathlib.Numerals.{add-one}
use mathlib.Core.Path.{◌≡◌, refl, sym, ◌∙◌, ap}
use mathlib.Core.Bool.{true}
use mathlib.Core.List.{List}
use lib.ListN.{length, get_or}
use Rattle.laws.proofs.Below.{length_over, over_below_lem, over_above}
use Rattle.nodeset.specs.Marks.{member}
use Rattle.network.specs.declared.Network.{Network}
use Rattle.nodeset.specs.Marks.{values_in}
use Rattle.laws.specs.Mean.{rule_of}
use Rattle.lockstep.specs.Rule.{mean_of}
use Rattle.lockstep.specs.Rounds.{next_by, round_by, rounds_by, lockstep_of}
use Rattle.nodeset.proofs.Members.{values_same}
use Rattle.laws.proofs.Below.{over_keeps}
use Rattle.lockstep.proofs.Rule.{rule_below}

-- the mean over the values of all nodes is the node's new value
pub mean_is_next : (sets xs : List ℕ) (p : ℕ) → mean_of (get_or sets p 0) (get_or xs p 0) xs ≡ next_by rule_of sets xs p
unfolding mean_of next_by
mean_is_next sets xs p = refl

module _ (rule : ℕ → List ℕ → ℕ) (sets : List ℕ) (nodes : ℕ) (xs : List ℕ) where
  -- the values after k rounds from xs
  abbrev after : ℕ → List ℕ
  after k = rounds_by rule sets nodes k xs

  pub rounds_start : after 0 ≡ xs
  unfolding rounds_by
  rounds_start = refl

  -- one turn of the loop over the rounds, and its end; the counter is written `k + 1`, as the code has it
  pub rounds_more : (k : ℕ) (ys zs : List ℕ) → ys ≡ after k → zs ≡ round_by rule sets nodes ys → zs ≡ after (k + 1)
  unfolding rounds_by
  rounds_more k ys zs before turn = rw add-one (turn ∙ ap (round_by rule sets nodes) before)

  pub rounds_end : (n k : ℕ) (ys : List ℕ) → ys ≡ after k → k ≤ n → n ≤ k → ys ≡ after n
  rounds_end n k ys held a b = held ∙ ap (λ j. after j) (le_antisymm a b)

  pub length_rounds : (k : ℕ) → length (after k) ≡ length xs
  unfolding rounds_by round_by
  length_rounds zero = refl
  length_rounds (suc k) =
      length_over (next_by rule sets (after k)) nodes (after k) ∙ length_rounds k

  -- a node's value after one round more
  pub rounds_at : (k p : ℕ) → p < nodes → p < length xs → get_or (after (suc k)) p 0 ≡ next_by rule sets (after k) p
  unfolding rounds_by round_by
  rounds_at k p below room =
      over_below_lem (next_by rule sets (after k)) nodes (after k) p 0 below (rw (length_rounds k) room)

  -- the entries past the nodes stay as they were
  pub rounds_past : (k p : ℕ) → nodes ≤ p → get_or (after k) p 0 ≡ get_or xs p 0
  unfolding rounds_by round_by
  rounds_past zero p past = refl
  rounds_past (suc k) p past =
      over_above (next_by rule sets (after k)) nodes (after k) p 0 past ∙ rounds_past k p past

  -- where what was heard agrees with the last round's values on p's members, the rule gives p's value of the next round
  pub heard_gives_next : (k p : ℕ) (heard : ℕ → ℕ) → p < nodes → p < length xs → ((q : ℕ) → member (get_or sets p 0) q ≡ true → heard q ≡ get_or (after k) q 0) → rule (get_or (after k) p 0) (values_in heard (get_or sets p 0)) ≡ get_or (after (suc k)) p 0
  unfolding next_by
  heard_gives_next k p heard below room agree =
      ap (rule (get_or (after k) p 0)) (values_same heard (λ q. get_or (after k) q 0) (get_or sets p 0) agree)
      ∙ sym (rounds_at k p below room)

-- from u16 values every round gives u16 values
pub rounds_below : (sets : List ℕ) (nodes : ℕ) (xs : List ℕ) → ((q : ℕ) → get_or xs q 0 < 65536) → (k q : ℕ) → get_or (rounds_by rule_of sets nodes k xs) q 0 < 65536
unfolding rounds_by round_by next_by
rounds_below sets nodes xs h zero q = h q
rounds_below sets nodes xs h (suc k) q =
    let ys = rounds_by rule_of sets nodes k xs in
    let last = rounds_below sets nodes xs h k in
    over_keeps (λ v. v < 65536) (next_by rule_of sets ys) nodes ys 0 (λ p. rule_below (λ j. get_or ys j 0) (get_or sets p 0) (get_or ys p 0) (last p) last) last q

-- ---- of a network

module _ (net : Network) where
  -- "from the start values"
  pub lockstep_start : lockstep_of net 0 ≡ net.starts
  unfolding lockstep_of rounds_by
  lockstep_start = refl

  -- every value of the table is a u16
  pub lockstep_below : ((q : ℕ) → get_or net.starts q 0 < 65536) → (k q : ℕ) → get_or (lockstep_of net k) q 0 < 65536
  unfolding lockstep_of
  lockstep_below h k q = rounds_below net.neighbours net.nodes net.starts h k q

  -- where p heard from each neighbour its value after k rounds, the mean is p's value after k + 1
  pub mean_gives_next : (k p : ℕ) (heard : List ℕ) → p < net.nodes → p < length net.starts → ((q : ℕ) → member (get_or net.neighbours p 0) q ≡ true → get_or heard q 0 ≡ get_or (lockstep_of net k) q 0) → mean_of (get_or net.neighbours p 0) (get_or (lockstep_of net k) p 0) heard ≡ get_or (lockstep_of net (suc k)) p 0
  unfolding lockstep_of mean_of
  mean_gives_next k p heard below room agree =
      heard_gives_next rule_of net.neighbours net.nodes net.starts k p (λ q. get_or heard q 0) below room agree
