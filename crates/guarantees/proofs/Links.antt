-- What the lists of a valid network say of its links, and that the sets kept beside them say the same. A pair of nodes is joined exactly where
-- some link of the list has these ends, that link is the only one, and so the automaton's neighbours, children and preferred neighbours are
-- the members of the kept sets.
-- Assumes nothing.
use Prim.Native.Nat.{ℕ, ◌<◌, ◌≤◌, min, max, zero-le}
use native.Mathlib.Omega.{arith}
use native.Mathlib.Decide.{dec_le, dec_lt}
use mathlib.Core.Path.{◌≡◌, sym, ◌∙◌, ap, subst}
use mathlib.Core.Bool.{Bool, true, not}
use lib.Dec.{eqb}
use lib.ListN.{get_or}
use borrow.Author.Tests.{lt-ltb, eq-eqb, ne_eqb, ltb-true, eqb-true, eqb-false, not-true}
use Rattle.laws.specs.Choice.{both}
use Rattle.laws.specs.Below.{first_of, pick_below}
use Rattle.laws.proofs.Choice.{both_yes, both_left, both_right, same_test, not_true_false, true_not_false}
use Rattle.laws.proofs.Below.{first_passes, first_below}
use Rattle.laws.proofs.Picked.{pick_same, pick_past}
use Rattle.nodeset.specs.Marks.{member, members_of}
use Rattle.network.specs.declared.Network.{Network}
use Rattle.network.specs.Sets.{link_set, child_set, Ends, rising, falling}
use Rattle.network.specs.Valid.{valid_network}
use Rattle.network.proofs.Sets.{link_set_from, link_set_to, child_set_from, child_set_to}
use Rattle.network.proofs.Valid.{valid_limits, valid_ranges, valid_order, neighbours_kept, children_kept, preferred_kept, ends_below, one_link}
use Rattle.automaton.specs.Network.{neighbours, children, preferred_neighbours}
use Rattle.guarantees.specs.Reading.{link_of, joins, prefers, net_of}

module _ (net : Network) (v : valid_network net ≡ true) where
  -- the link at place l is that of p and q
  is_link : ℕ → ℕ → ℕ → Bool
  is_link p q l = both (eqb (get_or net.lowers l 0) (min p q)) (eqb (get_or net.uppers l 0) (max p q))

  -- ---- joined is: some link has these ends

  pub joined_ends : (p q : ℕ) → joins net p q ≡ true → Ends net.lowers net.uppers (link_of net p q) p q
  unfolding joins link_of is_link
  joined_ends p q j = at (dec_le p q)
    where
      l : ℕ
      l = first_of (is_link p q) net.links

      is : is_link p q l ≡ true
      is = first_passes (is_link p q) net.links (ltb-true l net.links j)

      lower : get_or net.lowers l 0 ≡ min p q
      lower = eqb-true _ _ (both_left _ _ is)

      upper : get_or net.uppers l 0 ≡ max p q
      upper = eqb-true _ _ (both_right (eqb (get_or net.lowers l 0) (min p q)) _ is)

      at : Dec (p ≤ q) → Ends net.lowers net.uppers l p q
      at (yes h) = rising (omega (arith, lower)) (omega (arith, upper))
      at (no h) = falling (omega (arith, upper, lower)) (omega (arith, upper))

  pub joined_below : (p q : ℕ) → joins net p q ≡ true → link_of net p q < net.links
  unfolding joins
  joined_below p q j = ltb-true _ _ j

  -- the lower end of a link is the lower of its ends
  ends_sorted : (l p q : ℕ) → l < net.links → Ends net.lowers net.uppers l p q → (get_or net.lowers l 0 ≡ min p q) × (get_or net.uppers l 0 ≡ max p q)
  ends_sorted l p q h (rising a b) = let r = (valid_order net v).ends_rise l h in omega arith
  ends_sorted l p q h (falling a b) = let r = (valid_order net v).ends_rise l h in omega arith

  is_link_lem : (l p q : ℕ) → l < net.links → Ends net.lowers net.uppers l p q → is_link p q l ≡ true
  unfolding is_link
  is_link_lem l p q h e =
      let s = ends_sorted l p q h e in
      both_yes _ _ (eq-eqb _ _ s.0) (eq-eqb _ _ s.1)

  pub joins_of : (l p q : ℕ) → l < net.links → Ends net.lowers net.uppers l p q → joins net p q ≡ true
  unfolding joins link_of is_link
  joins_of l p q h e = lt-ltb _ _ (at (dec_lt (first_of (is_link p q) net.links) net.links))
    where
      at : Dec (first_of (is_link p q) net.links < net.links) → first_of (is_link p q) net.links < net.links
      at (yes f) = f
      at (no f) =
          absurd (true_not_false (is_link p q l) (is_link_lem l p q h e) (first_below (is_link p q) net.links l (omega arith)))

  -- the link of two ends is the only one with these ends
  pub link_is : (l p q : ℕ) → l < net.links → Ends net.lowers net.uppers l p q → link_of net p q ≡ l
  link_is l p q h e =
      let j = joins_of l p q h e in
      one_link net (valid_order net v) (link_of net p q) l p q (joined_below p q j) h (joined_ends p q j) e

  pub nodes_below : (p q : ℕ) → joins net p q ≡ true → (p < net.nodes) × (q < net.nodes)
  nodes_below p q j =
      ends_below net (valid_limits net v) (valid_ranges net v) (link_of net p q) p q (joined_below p q j) (joined_ends p q j)

  -- a link joins its ends both ways
  ends_back : (l p q : ℕ) → Ends net.lowers net.uppers l p q → Ends net.lowers net.uppers l q p
  ends_back l p q (rising a b) = falling a b
  ends_back l p q (falling a b) = rising a b

  pub joins_back : (p q : ℕ) → joins net p q ≡ true → joins net q p ≡ true
  joins_back p q j = joins_of (link_of net p q) q p (joined_below p q j) (ends_back _ p q (joined_ends p q j))

  pub link_back : (p q : ℕ) → joins net p q ≡ true → link_of net q p ≡ link_of net p q
  link_back p q j = link_is (link_of net p q) q p (joined_below p q j) (ends_back _ p q (joined_ends p q j))

  -- a preferred link is a link
  pub prefers_joins : (p q : ℕ) → prefers net p q ≡ true → joins net p q ≡ true
  unfolding prefers
  prefers_joins p q e = both_left (joins net p q) _ e

  pub prefers_back : (p q : ℕ) → prefers net p q ≡ true → prefers net q p ≡ true
  unfolding prefers
  prefers_back p q e =
      let j = both_left (joins net p q) _ e in
      both_yes _ _ (joins_back p q j) (rw (link_back p q j) (both_right (joins net p q) _ e))

  -- ---- the kept sets

  at_most_64 : (p : ℕ) → p < net.nodes → p < 64
  at_most_64 p h = omega (arith, (valid_limits net v).at_most_64_nodes)

  -- what is in a set of the links whose flag is at least the one asked for, and what is not
  in_set : (least p q : ℕ) → member (link_set net.lowers net.uppers net.flags least (min net.links 128) p) q ≡ true
      → (joins net p q ≡ true) × (least ≤ get_or net.flags (link_of net p q) 0)
  in_set least p q m =
      let (l, b, (f, e)) = link_set_from net.lowers net.uppers net.flags least (min net.links 128) p q m in
      let h : l < net.links = omega arith in
      (joins_of l p q h e, subst (λ k. least ≤ get_or net.flags k 0) (sym (link_is l p q h e)) f)

  set_has : (least p q : ℕ) → joins net p q ≡ true → least ≤ get_or net.flags (link_of net p q) 0
      → member (link_set net.lowers net.uppers net.flags least (min net.links 128) p) q ≡ true
  set_has least p q j f =
      link_set_to net.lowers net.uppers net.flags least (min net.links 128) (link_of net p q) p q
      (omega (arith, joined_below p q j, (valid_limits net v).at_most_128_links)) f (joined_ends p q j)
      (at_most_64 q (nodes_below p q j).1)

  -- the kept sets hold the automaton's neighbours, preferred neighbours and children
  pub neighbour_is : (p q : ℕ) → p < net.nodes → member (get_or net.neighbours p 0) q ≡ joins net p q
  neighbour_is p q h =
      rw (neighbours_kept net v p (at_most_64 p h))
      (same_test (member (link_set net.lowers net.uppers net.flags 0 (min net.links 128) p) q) (joins net p q) (λ m. (in_set 0 p q m).0) (λ j. set_has 0 p q j zero-le))

  pub preferred_is : (p q : ℕ) → p < net.nodes → member (get_or net.preferred p 0) q ≡ prefers net p q
  unfolding prefers
  preferred_is p q h =
      rw (preferred_kept net v p (at_most_64 p h))
      (same_test (member (link_set net.lowers net.uppers net.flags 1 (min net.links 128) p) q) _ from
      (λ b. let f = eqb-true (get_or net.flags (link_of net p q) 0) 1 (both_right (joins net p q) _ b) in set_has 1 p q (both_left _ _ b) (omega arith)))
    where
      from : member (link_set net.lowers net.uppers net.flags 1 (min net.links 128) p) q ≡ true → both (joins net p q) (eqb (get_or net.flags (link_of net p q) 0) 1) ≡ true
      from m =
          let (j, f) = in_set 1 p q m in
          both_yes _ _ j (eq-eqb (get_or net.flags (link_of net p q) 0) 1 (omega (arith, (valid_ranges net v).flag_at_most_1 (link_of net p q) (joined_below p q j))))

  pub child_is : (p c : ℕ) → p < net.nodes → c < net.nodes → member (get_or net.children p 0) c ≡ both (eqb (get_or net.parents c 0) p) (not (eqb c p))
  child_is p c h b =
      rw (children_kept net v p (at_most_64 p h))
      (same_test (member (child_set net.parents (min net.nodes 64) p) c) _ from to)
    where
      from : member (child_set net.parents (min net.nodes 64) p) c ≡ true → both (eqb (get_or net.parents c 0) p) (not (eqb c p)) ≡ true
      from m =
          let (_, e, d) = child_set_from net.parents (min net.nodes 64) p c m in
          both_yes _ _ (eq-eqb _ p e) (ap not (ne_eqb c p d))

      to : both (eqb (get_or net.parents c 0) p) (not (eqb c p)) ≡ true → member (child_set net.parents (min net.nodes 64) p) c ≡ true
      to t =
          child_set_to net.parents (min net.nodes 64) p c (omega (arith, at_most_64 c b)) (at_most_64 c b) (eqb-true _ p (both_left _ _ t))
          (eqb-false c p (not-true _ (both_right _ _ t)))

  pub member_child : (p c : ℕ) → p < net.nodes → member (get_or net.children p 0) c ≡ true → c < net.nodes
  member_child p c h m =
      let (b, _, _) = child_set_from net.parents (min net.nodes 64) p c (rw (children_kept net v p (at_most_64 p h)) at m) in
      omega arith

  -- ---- and so the automaton's lists are the members of the kept sets

  -- numbers below the node count that pass a test are the members of a set that holds just these
  members_are : (m : ℕ) (t : ℕ → Bool) → ((q : ℕ) → q < net.nodes → member m q ≡ t q) → ((q : ℕ) → member m q ≡ true → q < net.nodes)
      → pick_below t net.nodes ≡ members_of m
  unfolding members_of
  members_are m t same below =
      pick_same t (member m) net.nodes (λ q h. sym (same q h))
      ∙ sym (pick_past (member m) net.nodes 64 (valid_limits net v).at_most_64_nodes (λ q h. not_true_false (member m q) (λ i. let l = below q i in omega arith)))

  pub neighbours_are : (p : ℕ) → p < net.nodes → neighbours (net_of net) p ≡ members_of (get_or net.neighbours p 0)
  unfolding neighbours net_of
  neighbours_are p h =
      members_are (get_or net.neighbours p 0) (joins net p) (λ q _. neighbour_is p q h) (λ q m. (nodes_below p q (sym (neighbour_is p q h) ∙ m)).1)

  pub preferred_neighbours_are : (p : ℕ) → p < net.nodes → preferred_neighbours (net_of net) p ≡ members_of (get_or net.preferred p 0)
  unfolding preferred_neighbours net_of
  preferred_neighbours_are p h =
      members_are (get_or net.preferred p 0) (prefers net p) (λ q _. preferred_is p q h) (λ q m. (nodes_below p q (prefers_joins p q (sym (preferred_is p q h) ∙ m))).1)

  pub children_are : (p : ℕ) → p < net.nodes → children (net_of net) p ≡ members_of (get_or net.children p 0)
  unfolding children net_of
  children_are p h =
      members_are (get_or net.children p 0) (λ c. both (eqb (get_or net.parents c 0) p) (not (eqb c p))) (λ c. child_is p c h) (λ c. member_child p c h)
