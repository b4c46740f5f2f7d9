-- The test of answer 17 for a network and document 01's clauses are the same thing, and what a valid network is known by: no set holds a node
-- past the count, and at most one link has two given ends.
-- Assumes nothing.
use Prim.Native.Nat.{ℕ, zero, suc, ◌-◌, ◌^◌, ◌<◌, ◌≤◌, min, max}
use native.Mathlib.Nat.{not-suc-le-zero}
use native.Mathlib.Omega.{arith}
use native.Mathlib.Decide.{ℕ_discrete, dec_lt}
use mathlib.Core.Path.{◌≡◌, refl, sym, ◌∙◌, subst}
use mathlib.Core.Bool.{true, false}
use mathlib.Core.List.{List}
use lib.ListN.{get_or}
use lib.Dec.{ltb, leb, eqb}
use borrow.Author.Tests.{lt-ltb, le-leb, eq-eqb, ltb-true, leb-true, eqb-true}
use Rattle.laws.specs.Choice.{if_eq, both}
use Rattle.laws.proofs.Choice.{if_lt_yes, if_lt_no, if_eq_yes, if_eq_no, lt_elim, eq_elim, both_yes, both_left, both_right, true_not_false, not_true_false}
use Rattle.laws.proofs.Below.{all_at, all_of}
use Rattle.nodeset.specs.Marks.{member}
use Rattle.nodeset.proofs.Marks.{same_members, empty_has_none}
use Rattle.network.specs.declared.Network.{Network}
use Rattle.network.specs.Sets.{neighbours_of, children_of, preferred_of, link_set, Ends, rising, falling}
use Rattle.network.specs.Valid.{within_limits, node_fits, rises, link_fits, link_rises, link_stands, agrees, valid_network, Limits, Ranges, Order, Derived, Rest, Clauses}
use Rattle.network.proofs.Sets.{link_set_from, child_set_from, link_set_fits, child_set_fits}

-- ---- the order of links

-- (a, b) stands below (c, d) exactly if a is below c, or is c with b below d
pub rises_cases : (a b c d : ℕ) → rises a b c d ≡ true → (a ≤ c) × (c ≤ a → b < d)
unfolding rises
rises_cases a b c d =
    lt_elim (λ t. t ≡ true → (a ≤ c) × (c ≤ a → b < d)) a c true (if_eq a c (ltb b d) false) (λ h _. (omega arith, (λ g. absurd (omega arith))))
    (λ _. eq_elim (λ t. t ≡ true → (a ≤ c) × (c ≤ a → b < d)) a c (ltb b d) false (λ e t. (omega arith, (λ _. ltb-true b d t))) (λ _ t. absurd (true_not_false false t refl)))

pub rises_of : (a b c d : ℕ) → a ≤ c → (c ≤ a → b < d) → rises a b c d ≡ true
unfolding rises
rises_of a b c d h g =
    lt_elim (λ t. t ≡ true) a c true (if_eq a c (ltb b d) false) (λ _. refl)
    (λ l. if_eq_yes a c (ltb b d) false (omega arith) ∙ lt-ltb b d (g l))

pub rises_trans : (a b c d e f : ℕ) → rises a b c d ≡ true → rises c d e f ≡ true → rises a b e f ≡ true
rises_trans a b c d e f p q =
    let (h, g) = rises_cases a b c d p in
    let (i, j) = rises_cases c d e f q in
    rises_of a b e f (omega arith) (λ l. omega (arith, g (omega arith), j (omega arith)))

-- ---- from the test to the clauses

pub limits_of_lem : (net : Network) → within_limits net.nodes net.links net.rounds ≡ true → Limits net
unfolding within_limits
limits_of_lem net a =
    let b = both_right (leb 1 net.nodes) _ a in
    let c = both_right (leb net.nodes 64) _ b in
    let d = both_right (leb net.links 128) _ c in
    record {
      some_node = leb-true 1 net.nodes (both_left _ _ a);
      at_most_64_nodes = leb-true net.nodes 64 (both_left _ _ b);
      at_most_128_links = leb-true net.links 128 (both_left _ _ c);
      some_round = leb-true 1 net.rounds (both_left _ _ d);
      at_most_10000_rounds = leb-true net.rounds 10000 (both_right _ _ d);
    }

module _ (net : Network) (v : valid_network net ≡ true) where
  pub valid_limits : Limits net
  unfolding valid_network
  valid_limits = limits_of_lem net (both_left _ _ v)

  node_passes : (p : ℕ) → p < 64 → node_fits net.nodes p (get_or net.parents p 0) (get_or net.starts p 0) ≡ true
  unfolding valid_network
  node_passes =
      all_at (λ p. node_fits net.nodes p (get_or net.parents p 0) (get_or net.starts p 0)) 64 (both_left _ _ (both_right _ _ v))

  link_passes : (l : ℕ) → l < 128 → link_stands net.nodes net.links net.lowers net.uppers net.flags l ≡ true
  unfolding valid_network
  link_passes =
      all_at (link_stands net.nodes net.links net.lowers net.uppers net.flags) 128 (both_left _ _ (both_right _ _ (both_right _ _ v)))

  -- a link of the list fits and rises; an entry past the list is 0
  link_in : (l : ℕ) → l < net.links → both (link_fits net.nodes (get_or net.lowers l 0) (get_or net.uppers l 0) (get_or net.flags l 0)) (link_rises net.lowers net.uppers l) ≡ true
  unfolding link_stands
  link_in l h = sym (if_lt_yes l net.links _ _ h) ∙ link_passes l (omega (arith, valid_limits.at_most_128_links))

  link_out : (l : ℕ) → net.links ≤ l → l < 128 → both (eqb (get_or net.lowers l 0) 0) (both (eqb (get_or net.uppers l 0) 0) (eqb (get_or net.flags l 0) 0)) ≡ true
  unfolding link_stands
  link_out l h b = sym (if_lt_no l net.links _ _ h) ∙ link_passes l b

  ends_fit : (l : ℕ) → l < net.links → (get_or net.lowers l 0 < get_or net.uppers l 0) × (get_or net.uppers l 0 < net.nodes) × (get_or net.flags l 0 < 2)
  unfolding link_fits
  ends_fit l h =
      let f = both_left _ _ (link_in l h) in
      let g = both_right _ _ f in
      (ltb-true _ _ (both_left _ _ f), ltb-true _ _ (both_left _ _ g), ltb-true _ _ (both_right _ _ g))

  pub valid_ranges : Ranges net
  unfolding node_fits
  valid_ranges =
      record {
        parent_below_lem = λ p h. ltb-true _ _ (sym (if_lt_yes p net.nodes _ _ h) ∙ node_passes p (omega (arith, valid_limits.at_most_64_nodes)));
        lower_below = λ l h. omega (arith, ends_fit l h);
        upper_below = λ l h. (ends_fit l h).1;
        flag_at_most_1 = λ l h. omega (arith, ends_fit l h);
      }

  link_above : (l : ℕ) → suc l < net.links → rises (get_or net.lowers l 0) (get_or net.uppers l 0) (get_or net.lowers (suc l) 0) (get_or net.uppers (suc l) 0) ≡ true
  unfolding link_rises
  link_above l h =
      subst (λ k. rises (get_or net.lowers k 0) (get_or net.uppers k 0) (get_or net.lowers (suc l) 0) (get_or net.uppers (suc l) 0) ≡ true) (omega arith)
      (sym (if_eq_no (suc l) 0 true _ (λ e. omega arith)) ∙ both_right _ _ (link_in (suc l) h))

  links_above : (k l : ℕ) → k < l → l < net.links → rises (get_or net.lowers k 0) (get_or net.uppers k 0) (get_or net.lowers l 0) (get_or net.uppers l 0) ≡ true
  links_above k zero h b = absurd (not-suc-le-zero h)
  links_above k (suc l) h b = at (ℕ_discrete k l) (λ m. links_above k l m (omega arith))
    where
      at : Dec (k ≡ l) → (k < l → rises (get_or net.lowers k 0) (get_or net.uppers k 0) (get_or net.lowers l 0) (get_or net.uppers l 0) ≡ true) → rises (get_or net.lowers k 0) (get_or net.uppers k 0) (get_or net.lowers (suc l) 0) (get_or net.uppers (suc l) 0) ≡ true
      at (yes e) r =
          subst (λ j. rises (get_or net.lowers j 0) (get_or net.uppers j 0) (get_or net.lowers (suc l) 0) (get_or net.uppers (suc l) 0) ≡ true) (sym e) (link_above l b)
      at (no d) r = rises_trans _ _ (get_or net.lowers l 0) (get_or net.uppers l 0) _ _ (r (omega arith)) (link_above l b)

  pub valid_order : Order net
  valid_order = record { ends_rise = λ l h. (ends_fit l h).0; links_rise = links_above }

  tables_pass : both (agrees net.neighbours (neighbours_of net)) (both (agrees net.children (children_of net)) (agrees net.preferred (preferred_of net))) ≡ true
  unfolding valid_network
  tables_pass = both_right _ _ (both_right _ _ (both_right _ _ v))

  -- at every one of the 64 places the kept sets are the given ones
  pub neighbours_kept : (p : ℕ) → p < 64 → get_or net.neighbours p 0 ≡ neighbours_of net p
  unfolding agrees
  neighbours_kept p h = eqb-true _ _ (all_at _ 64 (both_left _ _ tables_pass) p h)

  pub children_kept : (p : ℕ) → p < 64 → get_or net.children p 0 ≡ children_of net p
  unfolding agrees
  children_kept p h = eqb-true _ _ (all_at _ 64 (both_left _ _ (both_right _ _ tables_pass)) p h)

  pub preferred_kept : (p : ℕ) → p < 64 → get_or net.preferred p 0 ≡ preferred_of net p
  unfolding agrees
  preferred_kept p h = eqb-true _ _ (all_at _ 64 (both_right _ _ (both_right _ _ tables_pass)) p h)

  pub valid_derived : Derived net
  valid_derived =
      let n = valid_limits.at_most_64_nodes in
      record {
        neighbours_agree = λ p h. neighbours_kept p (omega arith);
        children_agree = λ p h. children_kept p (omega arith);
        preferred_agree = λ p h. preferred_kept p (omega arith);
      }

-- ---- past the node count every given set is empty

module _ (net : Network) (lim : Limits net) (ran : Ranges net) where
  empty_set : (s : ℕ) → s < 2 ^ 64 → ((q : ℕ) → member s q ≡ true → ⊥) → s ≡ 0
  empty_set s f g =
      same_members s 0 f (omega arith) (λ q _. not_true_false (member s q) (g q) ∙ sym (empty_has_none q))

  -- an end of a link is below the node count
  pub ends_below : (l p q : ℕ) → l < net.links → Ends net.lowers net.uppers l p q → (p < net.nodes) × (q < net.nodes)
  ends_below l p q h (rising a b) = (omega (arith, ran.lower_below l h), omega (arith, ran.upper_below l h))
  ends_below l p q h (falling a b) = (omega (arith, ran.upper_below l h), omega (arith, ran.lower_below l h))

  pub no_links_past : (least p : ℕ) → net.nodes ≤ p → link_set net.lowers net.uppers net.flags least (min net.links 128) p ≡ 0
  no_links_past least p h =
      empty_set (link_set net.lowers net.uppers net.flags least (min net.links 128) p) (link_set_fits net.lowers net.uppers net.flags least (min net.links 128) p)
      (λ q m. let (l, b, (_, e)) = link_set_from net.lowers net.uppers net.flags least (min net.links 128) p q m in omega (arith, ends_below l p q (omega (arith, lim.at_most_128_links)) e))

  pub no_children_past : (p : ℕ) → net.nodes ≤ p → children_of net p ≡ 0
  no_children_past p h =
      empty_set (children_of net p) (child_set_fits net.parents (min net.nodes 64) p)
      (λ q m. let (b, e, _) = child_set_from net.parents (min net.nodes 64) p q m in omega (arith, ran.parent_below_lem q (omega (arith, lim.at_most_64_nodes)), e))

-- ---- the test says the clauses, and the clauses the test

pub valid_rest : (net : Network) → valid_network net ≡ true → Rest net
unfolding node_fits
valid_rest net v =
    let lim = valid_limits net v in
    let ran = valid_ranges net v in
    record {
      no_parent = λ p h b. eqb-true _ _ (both_left _ _ (sym (if_lt_no p net.nodes _ _ h) ∙ node_passes net v p b));
      no_start = λ p h b. eqb-true _ _ (both_right _ _ (sym (if_lt_no p net.nodes _ _ h) ∙ node_passes net v p b));
      no_neighbours = λ p h b. neighbours_kept net v p b ∙ no_links_past net lim ran 0 p h;
      no_children = λ p h b. children_kept net v p b ∙ no_children_past net lim ran p h;
      no_preferred = λ p h b. preferred_kept net v p b ∙ no_links_past net lim ran 1 p h;
      no_lower = λ l h b. eqb-true _ _ (both_left _ _ (link_out net v l h b));
      no_upper = λ l h b. eqb-true _ _ (both_left _ _ (both_right _ _ (link_out net v l h b)));
      no_flag = λ l h b. eqb-true _ _ (both_right _ _ (both_right _ _ (link_out net v l h b)));
    }

pub valid_clauses : (net : Network) → valid_network net ≡ true → Clauses net
valid_clauses net v =
    record {
      limits = valid_limits net v;
      ranges = valid_ranges net v;
      order = valid_order net v;
      derived = valid_derived net v;
      rest = valid_rest net v;
    }

module _ (net : Network) (c : Clauses net) where
  limits_hold : within_limits net.nodes net.links net.rounds ≡ true
  unfolding within_limits
  limits_hold =
      let lim = c.limits in
      both_yes _ _ (le-leb 1 net.nodes lim.some_node) (both_yes _ _ (le-leb net.nodes 64 lim.at_most_64_nodes) (both_yes _ _ (le-leb net.links 128 lim.at_most_128_links) (both_yes _ _ (le-leb 1 net.rounds lim.some_round) (le-leb net.rounds 10000 lim.at_most_10000_rounds))))

  node_holds : (p : ℕ) → p < 64 → node_fits net.nodes p (get_or net.parents p 0) (get_or net.starts p 0) ≡ true
  unfolding node_fits
  node_holds p b =
      lt_elim (λ t. t ≡ true) p net.nodes _ _ (λ h. lt-ltb _ _ (c.ranges.parent_below_lem p h))
      (λ h. both_yes _ _ (eq-eqb _ _ (c.rest.no_parent p h b)) (eq-eqb _ _ (c.rest.no_start p h b)))

  rises_hold : (l : ℕ) → l < net.links → link_rises net.lowers net.uppers l ≡ true
  unfolding link_rises
  rises_hold l h = eq_elim (λ t. t ≡ true) l 0 true _ (λ _. refl) (λ d. c.order.links_rise (l - 1) l (omega arith) h)

  link_holds : (l : ℕ) → l < 128 → link_stands net.nodes net.links net.lowers net.uppers net.flags l ≡ true
  unfolding link_stands link_fits
  link_holds l b =
      lt_elim (λ t. t ≡ true) l net.links _ _
      (λ h. both_yes _ _ (both_yes _ _ (lt-ltb _ _ (c.order.ends_rise l h)) (both_yes _ _ (lt-ltb _ _ (c.ranges.upper_below l h)) (lt-ltb (get_or net.flags l 0) 2 (omega (arith, c.ranges.flag_at_most_1 l h))))) (rises_hold l h))
      (λ h. both_yes _ _ (eq-eqb _ _ (c.rest.no_lower l h b)) (both_yes _ _ (eq-eqb _ _ (c.rest.no_upper l h b)) (eq-eqb _ _ (c.rest.no_flag l h b))))

  -- a table that agrees below the node count, and is 0 where the given sets are empty, agrees everywhere
  table_holds : (kept : List ℕ) (given : ℕ → ℕ) → ((p : ℕ) → p < net.nodes → get_or kept p 0 ≡ given p) → ((p : ℕ) → net.nodes ≤ p → p < 64 → get_or kept p 0 ≡ 0)
      → ((p : ℕ) → net.nodes ≤ p → given p ≡ 0) → agrees kept given ≡ true
  unfolding agrees
  table_holds kept given same clear none = all_of _ 64 (λ p b. eq-eqb _ _ (at p b (dec_lt p net.nodes)))
    where
      at : (p : ℕ) → p < 64 → Dec (p < net.nodes) → get_or kept p 0 ≡ given p
      at p b (yes h) = same p h
      at p b (no h) =
          let past : net.nodes ≤ p = omega arith in
          clear p past b ∙ sym (none p past)

  pub clauses_valid : valid_network net ≡ true
  unfolding valid_network
  clauses_valid =
      let d = c.derived in
      let r = c.rest in
      both_yes _ _ limits_hold (both_yes _ _ (all_of _ 64 node_holds) (both_yes _ _ (all_of _ 128 link_holds) (both_yes _ _ (table_holds net.neighbours (neighbours_of net) d.neighbours_agree r.no_neighbours (no_links_past net c.limits c.ranges 0)) (both_yes _ _ (table_holds net.children (children_of net) d.children_agree r.no_children (no_children_past net c.limits c.ranges)) (table_holds net.preferred (preferred_of net) d.preferred_agree r.no_preferred (no_links_past net c.limits c.ranges 1))))))

-- ---- at most one link has two given ends

pub one_link : (net : Network) → Order net → (k l p q : ℕ) → k < net.links → l < net.links → Ends net.lowers net.uppers k p q → Ends net.lowers net.uppers l p q → k ≡ l
one_link net o k l p q a b e f = at (dec_lt k l) (dec_lt l k)
  where
    -- the same two ends stand in the same order in both links, since each link's ends rise
    same : (j : ℕ) → j < net.links → Ends net.lowers net.uppers j p q → (get_or net.lowers j 0 ≡ min p q) × (get_or net.uppers j 0 ≡ max p q)
    same j h (rising x y) = (omega (arith, o.ends_rise j h), omega (arith, o.ends_rise j h))
    same j h (falling x y) = (omega (arith, o.ends_rise j h), omega (arith, o.ends_rise j h))

    clash : (i j : ℕ) → i < j → i < net.links → j < net.links → Ends net.lowers net.uppers i p q → Ends net.lowers net.uppers j p q → ⊥
    clash i j h a' b' e' f' =
        let (_, g) = rises_cases _ _ _ _ (o.links_rise i j h b') in
        omega (arith, same i a' e', same j b' f', g (omega (arith, same i a' e', same j b' f')))

    at : Dec (k < l) → Dec (l < k) → k ≡ l
    at (yes h) _ = absurd (clash k l h a b e f)
    at (no _) (yes h) = absurd (clash l k h b a f e)
    at (no g) (no h) = omega arith
