-- What the network of a plan that keeps rules 1 to 5 is known by: document 01's limits, links in range and in order, and zeros past the counts.
-- (Parents are in range only after check 6.)
-- Assumes nothing.
use Prim.Native.Nat.{ℕ, zero, suc, ◌<◌, ◌≤◌}
use native.Mathlib.Nat.{not-suc-le-zero}
use native.Mathlib.Omega.{arith}
use mathlib.Core.Path.{◌≡◌, sym}
use mathlib.Core.Bool.{true}
use mathlib.Core.List.{List, [], ◌∷◌, map}
use lib.ListN.{length, get_or, length-map}
use Rattle.network.specs.Valid.{rises, Limits, Order}
use Rattle.network.proofs.Valid.{rises_trans}
use Rattle.records.specs.Plan.{Plan, PlanLink, padded, network_of, LinksFit, RisingFrom, Rising, Keeps1to5}
use Rattle.records.proofs.Lists.{padded_at, padded_past}
use Rattle.records.proofs.Rising.{above_rises}

-- ---- the link at a place of the list

abbrev a_at : List PlanLink → ℕ → ℕ
a_at xs l = get_or (map (λ x. x.a) xs) l 0

abbrev b_at : List PlanLink → ℕ → ℕ
b_at xs l = get_or (map (λ x. x.b) xs) l 0

abbrev flag_at : List PlanLink → ℕ → ℕ
flag_at xs l = get_or (map (λ x. x.flag) xs) l 0

links_fit_at : (count : ℕ) (xs : List PlanLink) → LinksFit count xs → (l : ℕ) → l < length xs → (a_at xs l < b_at xs l) × (b_at xs l < count) × (flag_at xs l ≤ 1)
unfolding LinksFit
links_fit_at count [] f l h = absurd (not-suc-le-zero h)
links_fit_at count (x ∷ xs) f zero h = f.0
links_fit_at count (x ∷ xs) f (suc l) h = links_fit_at count xs f.1 l (omega arith)

-- every later link stands above an earlier one
rising_after : (x : PlanLink) (xs : List PlanLink) → RisingFrom x xs → (l : ℕ) → l < length xs → rises x.a x.b (a_at xs l) (b_at xs l) ≡ true
unfolding RisingFrom
rising_after x [] r l h = absurd (not-suc-le-zero h)
rising_after x (y ∷ ys) r zero h = above_rises x y r.0
rising_after x (y ∷ ys) r (suc l) h =
    rises_trans x.a x.b y.a y.b (a_at ys l) (b_at ys l) (above_rises x y r.0) (rising_after y ys r.1 l (omega arith))

rising_tail : (x : PlanLink) (xs : List PlanLink) → RisingFrom x xs → Rising xs
unfolding RisingFrom Rising
rising_tail x [] r = tt
rising_tail x (y ∷ ys) r = r.1

rising_between : (xs : List PlanLink) → Rising xs → (k l : ℕ) → k < l → l < length xs → rises (a_at xs k) (b_at xs k) (a_at xs l) (b_at xs l) ≡ true
unfolding Rising
rising_between [] r k l h i = absurd (not-suc-le-zero i)
rising_between (x ∷ xs) r k zero h i = absurd (not-suc-le-zero h)
rising_between (x ∷ xs) r zero (suc l) h i = rising_after x xs r l (omega arith)
rising_between (x ∷ xs) r (suc k) (suc l) h i = rising_between xs (rising_tail x xs r) k l (omega arith) (omega arith)

-- ---- the network

module _ (p : Plan) (K : Keeps1to5 p) where
  pub kept_limits : Limits (network_of p)
  unfolding network_of
  kept_limits =
      record {
        some_node = K.some_node;
        at_most_64_nodes = K.at_most_64_nodes;
        at_most_128_links = K.at_most_128_links;
        some_round = K.some_round;
        at_most_10000_rounds = K.at_most_10000_rounds;
      }

  -- an entry of the padded list is the link's
  entry : (f : PlanLink → ℕ) (l : ℕ) → l < length p.links → get_or (map f p.links) l 0 ≡ get_or (padded 128 (map f p.links)) l 0
  entry f l h = sym (padded_at 128 (map f p.links) l (omega (arith, length-map p.links f)))

  pub kept_ends : (l : ℕ) → l < (network_of p).links → (get_or (network_of p).lowers l 0 < get_or (network_of p).uppers l 0) × (get_or (network_of p).uppers l 0 < (network_of p).nodes)
  unfolding network_of
  kept_ends l h =
      let (i, j, _) = links_fit_at (length p.nodes) p.links K.links_fit l h in
      rw (← entry (λ x. x.a) l h, ← entry (λ x. x.b) l h) (i, j)

  pub kept_flags : (l : ℕ) → l < (network_of p).links → get_or (network_of p).flags l 0 ≤ 1
  unfolding network_of
  kept_flags l h =
      let (_, _, f) = links_fit_at (length p.nodes) p.links K.links_fit l h in
      rw (← entry (λ x. x.flag) l h) f

  pub kept_order : Order (network_of p)
  unfolding network_of
  kept_order =
      record {
        ends_rise = λ l h. (kept_ends l h).0;
        links_rise = λ k l h i. rw (← entry (λ x. x.a) k (omega arith), ← entry (λ x. x.b) k (omega arith), ← entry (λ x. x.a) l i, ← entry (λ x. x.b) l i) (rising_between p.links K.links_rise k l h i);
      }

-- past the count of entries there are zeros
past_entries : {A : Type 0} (f : A → ℕ) (n : ℕ) (xs : List A) (k : ℕ) → length xs ≤ k → get_or (padded n (map f xs)) k 0 ≡ 0
past_entries f n xs k h = padded_past n (map f xs) k (omega (arith, length-map xs f))

module _ (p : Plan) where
  pub no_parent_past : (q : ℕ) → (network_of p).nodes ≤ q → get_or (network_of p).parents q 0 ≡ 0
  unfolding network_of
  no_parent_past q h = past_entries (λ x. x.parent) 64 p.nodes q h

  pub no_start_past : (q : ℕ) → (network_of p).nodes ≤ q → get_or (network_of p).starts q 0 ≡ 0
  unfolding network_of
  no_start_past q h = past_entries (λ x. x.start) 64 p.nodes q h

  pub no_lower_past : (l : ℕ) → (network_of p).links ≤ l → get_or (network_of p).lowers l 0 ≡ 0
  unfolding network_of
  no_lower_past l h = past_entries (λ x. x.a) 128 p.links l h

  pub no_upper_past : (l : ℕ) → (network_of p).links ≤ l → get_or (network_of p).uppers l 0 ≡ 0
  unfolding network_of
  no_upper_past l h = past_entries (λ x. x.b) 128 p.links l h

  pub no_flag_past : (l : ℕ) → (network_of p).links ≤ l → get_or (network_of p).flags l 0 ≡ 0
  unfolding network_of
  no_flag_past l h = past_entries (λ x. x.flag) 128 p.links l h
